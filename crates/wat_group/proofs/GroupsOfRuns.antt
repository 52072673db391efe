-- The groups are the runs of the combinations that are sorted under their GROUP BY values.
use Rattle.std.proofs.Common.{◌≡◌, List, [], ◌∷◌, map, filter, length, nat_lt, true, refl, sym, ap, ◌∙◌, cond, arith}
use Rattle.std.specs.Cmp.{on_total}
use Rattle.std.proofs.lemmas.Bool.Decides.{nat_tests}
use Rattle.sqlite_keyed.specs.Lists.{sort_by}
use Rattle.sqlite_keyed.proofs.ListLemmas.{map-map, filter-map}
use Rattle.sqlite_keyed.proofs.SortLemmas.{sort_by-map}
use Rattle.wat_ast.specs.declared.query.Query.{Query}
use Rattle.wat_value.specs.Order.{key_cmp}
use Rattle.wat_value.specs.OrderLaws.{key_cmp_total}
use Rattle.wat_expr.specs.Evaluation.{Combination}
use Rattle.wat_group.specs.declared.keyed.Keyed.{Keyed}
use Rattle.wat_value.specs.Order.{key_eq}
use Rattle.wat_group.specs.Query.{Row, first_of_each, group_values, group_keys, over_all, groups_at}
use Rattle.wat_group.specs.Private.{entry, keyed_as, rows_in, under, classes}
use Rattle.wat_group.proofs.Keying.{entry_cmp, rows_of_entries, rows_under}
use Rattle.wat_group.proofs.Sorting.{stable-sort_by}

pub one_group_is : (q : Query) (rows : List Combination) → q.group ≡ [] → groups_at q rows ≡ over_all rows ∷ []
one_group_is q rows none = ap (λ n. map over_all (cond (nat_lt 0 n) (map (λ key. filter (λ r. key_eq key (group_values q r)) rows) (group_keys q rows)) (rows ∷ []))) (ap length none)

module _ (key : Combination → Row) (keyed : List Keyed) (rows : List Combination) (same : keyed_as keyed ≡ map (under key) rows) where
  abbrev sorted : List Keyed
  sorted = sort_by (λ a b. key_cmp a.key b.key) keyed

  entries : keyed_as sorted ≡ sort_by entry_cmp (map (under key) rows)
  entries = sym (sort_by-map entry_cmp entry keyed) ∙ ap (sort_by entry_cmp) same

  class_is : (k : Row) → rows_in (filter (λ e. key_eq k e.key) sorted) ≡ filter (λ r. key_eq k (key r)) rows
  class_is k =
      let first : Row × Combination → Row = λ p. p.0 in
      let second : Row × Combination → Combination = λ p. p.1 in
      sym (rows_of_entries (filter (λ e. key_eq k e.key) sorted))
      ∙ ap (map second) (sym (filter-map (λ p. key_eq k p.0) entry sorted) ∙ ap (filter (λ (p : Row × Combination). key_eq k p.0)) entries
      ∙ stable-sort_by entry_cmp (on_total first key_cmp_total) (k, []) (map (under key) rows)
      ∙ filter-map (λ p. key_eq k p.0) (under key) rows)
      ∙ rows_under key (filter (λ r. key_eq k (key r)) rows)

  keys_are : map (λ (e : Keyed). e.key) sorted ≡ sort_by key_cmp (map key rows)
  keys_are =
      let first : Row × Combination → Row = λ p. p.0 in
      sym (map-map first entry sorted) ∙ ap (map first) entries ∙ sym (sort_by-map key_cmp first (map (under key) rows)) ∙ ap (sort_by key_cmp) (map-map first (under key) rows)

  pub classes_are : map rows_in (classes sorted) ≡ map (λ k. filter (λ r. key_eq k (key r)) rows) (first_of_each key_eq (sort_by key_cmp (map key rows)))
  classes_are =
      map-map rows_in (λ k. filter (λ (e : Keyed). key_eq k e.key) sorted) (first_of_each key_eq (map (λ (e : Keyed). e.key) sorted))
      ∙ (λ i. map (λ k. class_is k i) (first_of_each key_eq (keys_are i)))

some_columns : {A : Type 0} (xs : List A) → ¬ (xs ≡ []) → nat_lt 0 (length xs) ≡ true
some_columns [] some = absurd (some refl)
some_columns (x ∷ xs) some = grind (arith, nat_tests)

pub groups_are : (q : Query) (keyed : List Keyed) (rows : List Combination) → ¬ (q.group ≡ []) → keyed_as keyed ≡ map (under (group_values q)) rows
    → map over_all (map rows_in (classes (sort_by (λ a b. key_cmp a.key b.key) keyed))) ≡ groups_at q rows
groups_are q keyed rows some same =
    ap (map over_all) (classes_are (group_values q) keyed rows same)
    ∙ sym (ap (λ b. map over_all (cond b (map (λ key. filter (λ r. key_eq key (group_values q r)) rows) (group_keys q rows)) (rows ∷ []))) (some_columns q.group some))
