use Rattle.std.proofs.Common.{◌≡◌, List, ℕ, length, ap, sym, ◌∙◌, subst}
use Rattle.wat_book.specs.Book.{section}
use Rattle.wat_book.specs.Chains.{HoldsPayload}
use Rattle.wat_pages.specs.Pages.{book_of, count_of, header_of}
use Rattle.wat_pages.specs.declared.header.Header.{Header}
use Rattle.wat_undo.specs.Payload.{payload_of}
use Rattle.wat_undo.proofs.Loading.{saves_lists, needed_by}
use Rattle.wat_undo.proofs.undo.Undo.save.Goals as goal

pub returns-in-Ok-clause-saved : goal.returns-in-Ok-clause-saved
returns-in-Ok-clause-saved g c tells me owners free before real plain owned held =
    let book = book_of (g.D.Disk.told c.args.disk.now) c.args.pages.now in
    let first : c.header.result.now.rollback ≡ (header_of c.args.pages.now).rollback = ap (λ (h : Header). h.rollback) c.header.ensures in
    let bytes : c.as_slice.result.now ≡ payload_of c.args.self.now = c.as_slice.ensures.value ∙ c.in_ok-payload.ensures.bytes in
    saves_lists me book owners _ c.in-Ok.now c.as_slice.result.now c.args.self.now c.in_ok-payload.ensures.entries bytes
    (c.in-Ok.ensures.written tells me owners free before real plain owned (subst (λ (f : ℕ). HoldsPayload (section book owners me) f before) (sym first) held))

pub returns-clause-needed : goal.returns-clause-needed
returns-clause-needed g c tells me owners free before real plain owned =
    let book = book_of (g.D.Disk.told c.args.disk.now) c.args.pages.now in
    let first : c.header.result.now.rollback ≡ (header_of c.args.pages.now).rollback = ap (λ (h : Header). h.rollback) c.header.ensures in
    let bytes : c.as_slice.result.now ≡ payload_of c.args.self.now = c.as_slice.ensures.value ∙ c.in_ok-payload.ensures.bytes in
    needed_by (section book owners me) c.header.result.now.rollback (header_of c.args.pages.now).rollback (length free) (count_of c.args.pages.now) before c.as_slice.result.now (payload_of c.args.self.now) c.in-Err.refusal first bytes
    (c.in-Err.ensures.needed tells me owners free before real plain owned)

pub returns-clause-undamaged : goal.returns-clause-undamaged
returns-clause-undamaged g c tells saved me owners free before safe count real plain owned held =
    let book = book_of (g.D.Disk.told c.args.disk.now) c.args.pages.now in
    let first : c.header.result.now.rollback ≡ (header_of c.args.pages.now).rollback = ap (λ (h : Header). h.rollback) c.header.ensures in
    c.in-Err.ensures.undamaged tells saved me owners free before safe count real plain owned (subst (λ (f : ℕ). HoldsPayload (section book owners me) f before) (sym first) held)
