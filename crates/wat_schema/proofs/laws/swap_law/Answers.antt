use Rattle.std.proofs.Common.{refl, ap, ◌∙◌, ◌∷◌, []}
use Rattle.std.specs.Option.{option_and_then}
use Rattle.wat_value.specs.declared.change.Act.TheVariants.{OnRow}
use Rattle.wat_schema.specs.Tables.{apply_all, catalog_of}
use Rattle.wat_schema.proofs.Changing.{inverse_of_row, swap}
use Rattle.wat_schema.proofs.laws.swap_law.Goals as goal

pub returns-clause-swapped : goal.returns-clause-swapped
returns-clause-swapped c a b before between after ok apart first second =
    let s = swap (catalog_of before) a b before between after apart (ok, refl) first second in
    ap (option_and_then (apply_all (OnRow a ∷ []))) s.1 ∙ ap (option_and_then (apply_all [])) s.2

pub returns-clause-inverse : goal.returns-clause-inverse
returns-clause-inverse c = inverse_of_row
