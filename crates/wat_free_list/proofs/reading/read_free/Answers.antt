use Rattle.std.proofs.Common.{◌∙◌, ap, sym, arith}
use Rattle.std.specs.Prelude.{length}
use Rattle.wat_pages.specs.Pages.{book_of}
use Rattle.wat_payload.proofs.Going.{covers_none}
use Rattle.wat_free_list.proofs.Going.{free_read, none_read, refused_none, refused_past, refused_missing}
use Rattle.wat_free_list.proofs.reading.read_free.Goals as goal

pub returns-then-page-count-clause-damaged : goal.returns-then-page-count-clause-damaged
returns-then-page-count-clause-damaged g c tells =
    let book = book_of (g.D.Disk.told c.args.disk.now) c.args.pages.now in
    refused_past _ book c.args.page c.damaged_at.ensures.place (omega (arith, c.count.ensures))

pub returns-in-Err-clause-damaged : goal.returns-in-Err-clause-damaged
returns-in-Err-clause-damaged g c tells =
    let told = g.D.Disk.told c.args.disk.now in
    refused_missing c.in-Err.refusal (book_of told c.args.pages.now) told.content c.args.page _ (omega (arith, c.count.ensures)) (c.in-Err.ensures.damaged tells) (c.in-Err.ensures.cut tells)

pub returns-clause-damaged : goal.returns-clause-damaged
returns-clause-damaged g c tells =
    let book = book_of (g.D.Disk.told c.args.disk.now) c.args.pages.now in
    refused_none _ book c.args.page c.damaged_at-in-None.ensures.place
    (none_read book c.args.page c.as_slice.result.now (omega (arith, c.count.ensures)) (c.as_slice.ensures.bytes ∙ c.in-Ok.ensures.read tells) (ap length c.as_slice.ensures.bytes ∙ c.as_slice.ensures.whole) c.in-None.ensures.none)

pub returns-in-Some-clause-free : goal.returns-in-Some-clause-free
returns-in-Some-clause-free g c tells =
    let book = book_of (g.D.Disk.told c.args.disk.now) c.args.pages.now in
    free_read book c.args.page c.as_slice.result.now c.in-Some.next (omega (arith, c.count.ensures)) (c.as_slice.ensures.bytes ∙ c.in-Ok.ensures.read tells) (ap length c.as_slice.ensures.bytes ∙ c.as_slice.ensures.whole) c.in-Some.ensures.some
