-- Keys that are sorted at once.
use Rattle.std.proofs.Common.{◌≡◌, true, List, [], ◌∷◌, IsPermutation, IsSorted}
use Rattle.std.specs.List.{AllByRecursion, list_all}
use Rattle.std.specs.declared.cmp.Ordering.TheVariants.{Less}
use Rattle.std.specs.Ordering.{is_lt}
use Rattle.std.proofs.lemmas.Bool.{and_parts}
use Rattle.std.proofs.lemmas.List.Sorted.{IsPermutation-trans}
use Rattle.sqlite_trees.specs.Tree.{IsAscending}
use Rattle.sqlite_keyed.specs.Lists.{sort_by}
use Rattle.sqlite_keyed.proofs.SortLemmas.{IsPermutation-sort_by, sorted_unique}
use Rattle.wat_list.specs.Rising.{rising}
use Rattle.wat_value.specs.Order.{key_cmp}
use Rattle.wat_value.specs.OrderLaws.{key_cmp_total}
use Rattle.wat_index.specs.KeySets.{Key}
use Rattle.wat_index.proofs.KeySetLemmas.{less_is}

each_less : (key : Key) (keys : List Key) → list_all (λ other. is_lt (key_cmp key other)) keys ≡ true → AllByRecursion (λ other. key_cmp key other ≡ Less) keys
each_less key [] h = tt
each_less key (x ∷ keys) h =
    let parts = and_parts (is_lt (key_cmp key x)) (list_all (λ other. is_lt (key_cmp key other)) keys) h in
    (less_is (key_cmp key x) parts.0, each_less key keys parts.1)

ascends : (keys : List Key) → rising key_cmp keys ≡ true → IsAscending (λ a b. key_cmp a b ≡ Less) keys
ascends [] h = tt
ascends (x ∷ keys) h =
    let parts = and_parts (list_all (λ other. is_lt (key_cmp x other)) keys) (rising key_cmp keys) h in
    (each_less x keys parts.0, ascends keys parts.1)

-- keys of which none stands twice have one order
pub sorted_is : (keys sorted : List Key) → rising key_cmp (sort_by key_cmp keys) ≡ true → IsPermutation keys sorted → IsSorted key_cmp sorted → sorted ≡ sort_by key_cmp keys
sorted_is keys sorted up same order =
    sorted_unique key_cmp key_cmp_total (sort_by key_cmp keys) sorted (ascends (sort_by key_cmp keys) up) (IsPermutation-trans (sort_by key_cmp keys) keys sorted (IsPermutation-sort_by key_cmp key_cmp_total keys) same) order
