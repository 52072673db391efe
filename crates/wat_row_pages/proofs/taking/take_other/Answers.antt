use Rattle.std.proofs.Common.{◌≡◌, ◌*◌, ℕ, false, sym, ◌∙◌}
use Rattle.std.specs.Prelude.{nat_eq}
use Rattle.std.specs.List.{list_any}
use Rattle.wat_images.proofs.Writing.{if_damaged}
use Rattle.wat_pages.specs.Pages.{page_in}
use Rattle.wat_rows.specs.Rows.{RowMap}
use Rattle.wat_heap.specs.Taking.{def_in, IsRowPage}
use Rattle.wat_roots.proofs.Going.{went_nowhere, stays_still}
use Rattle.wat_row_pages.proofs.taking.take_other.Goals as goal

pub returns-then-is_listed-clause-went : goal.returns-then-is_listed-clause-went
returns-then-is_listed-clause-went g c tells = went_nowhere _ _

pub returns-then-is_listed-clause-stays : goal.returns-then-is_listed-clause-stays
returns-then-is_listed-clause-stays g c tells = stays_still _ _ (c.requires.known tells)

pub returns-in-Ok-clause-went : goal.returns-in-Ok-clause-went
returns-in-Ok-clause-went g c tells = record { head = c.take_page.ensures.head; goes = c.take_page.ensures.goes tells }

pub returns-in-Err-clause-went : goal.returns-in-Err-clause-went
returns-in-Err-clause-went g c tells = record { head = c.take_page.ensures.head; goes = c.take_page.ensures.goes tells }

pub returns-in-Ok-clause-stays : goal.returns-in-Ok-clause-stays
returns-in-Ok-clause-stays g c tells = record { pages = c.in-Ok.ensures.same tells; keeps = c.in-Ok.ensures.keeps tells }

pub returns-in-Err-clause-damaged : goal.returns-in-Err-clause-damaged
returns-in-Err-clause-damaged g c tells taken rows h none =
    let bytes = page_in (g.D.Disk.told c.args.disk.now) c.args.pages.now c.args.page in
    if_damaged c.in-Err.refusal (λ file at. (file ≡ 0) × (at ≡ 4096 * c.args.page) × ((after : RowMap) → IsRowPage (def_in c.args.defs.now) bytes rows after → ⊥))
    (λ file at. (file ≡ 0) × (at ≡ 4096 * c.args.page) × (list_any (nat_eq c.args.page) c.args.listed.now.keys ≡ false) × ((after : RowMap) → IsRowPage (def_in c.args.defs.now) bytes rows after → ⊥))
    (λ file at is. (is.0, is.1, sym c.is_listed.ensures ∙ c.if-is_listed.false, is.2)) (c.in-Err.ensures.damaged tells taken rows h none)
