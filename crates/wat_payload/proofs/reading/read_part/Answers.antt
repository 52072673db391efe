use Rattle.std.proofs.Common.{◌∙◌, arith}
use Rattle.wat_pages.specs.Pages.{book_of}
use Rattle.wat_payload.proofs.Going.{no_link_past, no_link_read, link_read, no_link_missing, damaged_here}
use Rattle.wat_payload.proofs.reading.read_part.Goals as goal

pub returns-then-page-count-clause-damaged : goal.returns-then-page-count-clause-damaged
returns-then-page-count-clause-damaged g c tells =
    let book = book_of (g.D.Disk.told c.args.disk.now) c.args.pages.now in
    damaged_here _ book c.args.page c.damaged_at.ensures.place (no_link_past book c.args.page (omega (arith, c.count.ensures)))

pub returns-in-Err-clause-damaged : goal.returns-in-Err-clause-damaged
returns-in-Err-clause-damaged g c tells =
    let told = g.D.Disk.told c.args.disk.now in
    no_link_missing c.in-Err.refusal (book_of told c.args.pages.now) told.content c.args.page _ (omega (arith, c.count.ensures)) (c.in-Err.ensures.damaged tells) (c.in-Err.ensures.cut tells)

pub returns-clause-damaged : goal.returns-clause-damaged
returns-clause-damaged g c tells =
    let book = book_of (g.D.Disk.told c.args.disk.now) c.args.pages.now in
    damaged_here _ book c.args.page c.damaged_at-in-None.ensures.place (no_link_read book c.args.page (omega (arith, c.count.ensures)) c.as_slice.result.now (c.as_slice.ensures.bytes ∙ c.in-Ok.ensures.read tells) c.in-None.ensures.none)

pub returns-in-Some-clause-part : goal.returns-in-Some-clause-part
returns-in-Some-clause-part g c tells =
    let book = book_of (g.D.Disk.told c.args.disk.now) c.args.pages.now in
    let part = c.in-Some.part.now in (
      part,
      link_read book c.args.page (omega (arith, c.count.ensures)) c.as_slice.result.now part c.in-Some.next (c.as_slice.ensures.bytes ∙ c.in-Ok.ensures.read tells) c.in-Some.ensures.some,
      c.in_ok-extend_from_slice-in-Some.ensures.items,
    )
