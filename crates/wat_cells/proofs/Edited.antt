-- What is read, changed and written again is what the page is said to have.
use Rattle.std.proofs.Common.{◌≡◌, ◌↔◌, ℕ, ◌+◌, ◌<◌, ◌≤◌, Bool, true, false, List, length, Option, Some, None, refl, sym, ◌∙◌, ap, subst, arith}
use Rattle.std.specs.Prelude.{IsTrue, IfSome, MatchOption}
use Rattle.wat_slot.specs.Cells.{cells_bytes, IsCellPage}
use Rattle.wat_slot.proofs.Reading.{one_list}
use Rattle.wat_cells.specs.declared.edit.Edit.{Edit}
use Rattle.wat_cells.specs.Edit.{edited, CanEdit}

pub edited_is : (edit : Edit) (page : List ℕ) (held cells new : List (List ℕ)) → IsCellPage page held → IsCellPage page cells → new ≡ edited edit held → new ≡ edited edit cells
edited_is edit page held cells new a b is = is ∙ ap (edited edit) (one_list page held cells a b)

pub can_edit : (edit : Edit) (page : List ℕ) (held cells : List (List ℕ)) → IsCellPage page held → IsCellPage page cells → CanEdit edit cells → CanEdit edit held
can_edit edit page held cells a b can = subst (CanEdit edit) (sym (one_list page held cells a b)) can

pub no_room : (b : Bool) (new : List (List ℕ)) → b ≡ false → (IsTrue b ↔ (16 + length (cells_bytes new) ≤ 4096)) → 4080 < length (cells_bytes new)
no_room true new isnt room = absurd (let no : true ≡ false = isnt in cc)
no_room false new isnt room = over (length (cells_bytes new)) (λ small. let no : false ≡ true = room.1 small in cc)
  where
    over : (n : ℕ) → ((16 + n ≤ 4096) → ⊥) → 4080 < n
    over n isnt = grind (arith, isnt)
