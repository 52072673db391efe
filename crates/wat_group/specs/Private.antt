-- How the structs and lists of the code are seen. Only functions within the crate cite this.
use Rattle.std.specs.Prelude.{◌≡◌, false, List, map, if◌then◌else◌}
use Rattle.std.specs.List.{filter as where_true}
use Rattle.std.specs.Option.{option_map}
use Rattle.std.specs.Ordering.{is_gt}
use Rattle.wat_value.specs.Order.{key_cmp, key_eq}
use Rattle.wat_ast.specs.declared.query.Query.{Query}
use Rattle.wat_walk.specs.Lent.{lent}
use Rattle.wat_expr.specs.Evaluation.{Combination, Over}
use Rattle.wat_group.specs.declared.judging.Judged.{Judged}
use Rattle.wat_group.specs.declared.judging.Judged.TheVariants.{Failed, Dropped, Kept}
use Rattle.wat_group.specs.declared.keyed.Keyed.{Keyed}
use Rattle.wat_group.specs.declared.taken.Taken.{Taken}
use Rattle.wat_group.specs.Query.{Row, first_of_each, fails_group, is_kept, line_at}

-- what an expression is taken over
abbrev pub over_of : Taken → Over
over_of t = record { rows = t.rows.now; group = option_map (λ g. lent g.items) t.group }

-- what becomes of a group
abbrev pub judged : Query → Over → Judged
judged q at = if fails_group q at then Failed else if is_kept q at then Kept (line_at q at) else Dropped

-- ---- combinations under values that they are sorted by

-- an entry as its values and the combination that it points to
abbrev pub entry : Keyed → Row × Combination
entry k = (k.key, k.rows.now)

abbrev pub keyed_as : List Keyed → List (Row × Combination)
keyed_as = map entry

abbrev pub rows_in : List Keyed → List Combination
rows_in = map (λ k. k.rows.now)

-- a combination under its values
abbrev pub under : (Combination → Row) → Combination → Row × Combination
under key r = (key r, r)

abbrev pub IsAtMost : Keyed → Keyed → Type 0
IsAtMost a b = is_gt (key_cmp a.key b.key) ≡ false

-- the classes of equal values, by the first of each
abbrev pub classes : List Keyed → List (List Keyed)
classes entries = map (λ key. where_true (λ k. key_eq key k.key) entries) (first_of_each key_eq (map (λ k. k.key) entries))
