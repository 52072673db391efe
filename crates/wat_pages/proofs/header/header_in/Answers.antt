use Rattle.std.proofs.Common.{◌≡◌, true, false, sym, ◌∙◌, ap, arith}
use Rattle.wat_restore.specs.Head.{head_bytes}
use Rattle.wat_restore.proofs.Heads.{reads_back, same_head}
use Rattle.wat_pages.specs.Header.{stored_head}
use Rattle.wat_pages.proofs.header.header_in.Goals as goal

pub returns-then-stored-lt2-clause-none : goal.returns-then-stored-lt2-clause-none
returns-then-stored-lt2-clause-none c head is =
    let read = reads_back c.args.page.now head is in
    omega (arith, is.fits.some, c.if-stored-lt2.true, read.count, c.fields_in-stored.ensures.reads.count)

pub returns-then-same-clause-some : goal.returns-then-same-clause-some
returns-then-same-clause-some c =
    let same = c.same.ensures.0 c.if-same.true in
    record { bytes = sym same ∙ c.as_slice.ensures.bytes ∙ c.in_ok-again.ensures.page; fits = c.fields_in-stored.ensures.fits c.if-stored-lt2.false }

pub returns-clause-none : goal.returns-clause-none
returns-clause-none c head is =
    let alike : stored_head c.fields_in-stored.result ≡ head = same_head c.args.page.now (stored_head c.fields_in-stored.result) head c.fields_in-stored.ensures.reads (reads_back c.args.page.now head is) in
    let bytes : c.as_slice.result.now ≡ c.args.page.now = c.as_slice.ensures.bytes ∙ c.in_ok-again.ensures.page ∙ ap head_bytes alike ∙ sym is.bytes in
    let yes = c.same.ensures.1 bytes in
    let no : true ≡ false = sym yes ∙ c.if-same.false in cc
