-- Combinations that are sorted under keys.
use Rattle.std.proofs.Common.{◌≡◌, List, map, sym, ap, ◌∙◌, map-id}
use Rattle.sqlite_keyed.specs.Lists.{sort_by}
use Rattle.sqlite_keyed.proofs.ListLemmas.{map-map}
use Rattle.sqlite_keyed.proofs.SortLemmas.{sort_by-map}
use Rattle.std.specs.declared.cmp.Ordering.{Ordering}
use Rattle.wat_value.specs.Order.{key_cmp}
use Rattle.wat_expr.specs.Evaluation.{Combination}
use Rattle.wat_group.specs.Query.{Row}
use Rattle.wat_group.specs.declared.keyed.Keyed.{Keyed}
use Rattle.wat_group.specs.Private.{entry, keyed_as, rows_in, under}

abbrev pub entry_cmp : Row × Combination → Row × Combination → Ordering
entry_cmp a b = key_cmp a.0 b.0

pub sorted_under : (key : Combination → Row) (keyed : List Keyed) (rows : List Combination) → keyed_as keyed ≡ map (under key) rows
    → keyed_as (sort_by (λ a b. key_cmp a.key b.key) keyed) ≡ map (under key) (sort_by (λ a b. key_cmp (key a) (key b)) rows)
sorted_under key keyed rows same = sym (sort_by-map entry_cmp entry keyed) ∙ ap (sort_by entry_cmp) same ∙ sort_by-map entry_cmp (under key) rows

pub rows_of_entries : (keyed : List Keyed) → map (λ (e : Row × Combination). e.1) (keyed_as keyed) ≡ rows_in keyed
rows_of_entries keyed = map-map (λ (e : Row × Combination). e.1) entry keyed

pub rows_under : (key : Combination → Row) (rows : List Combination) → map (λ (e : Row × Combination). e.1) (map (under key) rows) ≡ rows
rows_under key rows = map-map (λ (e : Row × Combination). e.1) (under key) rows ∙ map-id rows

-- the combinations that entries point to
pub rows_from_entries : (key : Combination → Row) (keyed : List Keyed) (rows : List Combination) → keyed_as keyed ≡ map (under key) rows → rows_in keyed ≡ rows
rows_from_entries key keyed rows same = sym (rows_of_entries keyed) ∙ ap (map (λ (e : Row × Combination). e.1)) same ∙ rows_under key rows

pub rows_sorted : (key : Combination → Row) (keyed : List Keyed) (rows : List Combination) → keyed_as keyed ≡ map (under key) rows
    → rows_in (sort_by (λ a b. key_cmp a.key b.key) keyed) ≡ sort_by (λ a b. key_cmp (key a) (key b)) rows
rows_sorted key keyed rows same = rows_from_entries key _ _ (sorted_under key keyed rows same)
