use Rattle.std.proofs.Common.{◌≡◌, List, [], ◌∷◌, ◌⊎◌, inl, inr, refl, sym, ap, ◌∙◌}
use Rattle.std.specs.List.{flat_map, zip}
use Rattle.std.proofs.lemmas.Slice.Zip.{either_empty_from_Zip}
use Rattle.wat_value.specs.declared.definition.Column.{Column}
use Rattle.wat_value.specs.declared.value.Value.{Value}
use Rattle.wat_names.specs.Refusals.{first}
use Rattle.wat_meaning.specs.Meaning.{column_fault}
use Rattle.wat_made.proofs.faults.row_fault.Goals as goal

none_left : (columns : List Column) (row : List Value) → (columns ≡ []) ⊎ (row ≡ []) → flat_map column_fault (zip columns row) ≡ []
none_left [] row ends = refl
none_left (column ∷ columns) [] ends = refl
none_left (column ∷ columns) (value ∷ row) (inl e) = cc
none_left (column ∷ columns) (value ∷ row) (inr e) = cc

pub returns : goal.returns
returns c =
    let ends = either_empty_from_Zip c.loop-column.column-iterator c.next.new.self c.next.result c.in-None.is c.next.ensures.steps in
    sym (ap first (none_left _ _ ends)) ∙ c.loop-column.invariant
