-- The pages that a chain must not come to again.
use Rattle.std.specs.Prelude.{◌≡◌, ℕ, ◌<◌, ◌^◌, nat_eq, List, All}
use Rattle.std.specs.List.{list_any}
use Rattle.std.specs.List.Sorted.{IsStrictlySortedBy}
use Rattle.std.specs.Ordering.{nat_cmp}

-- The keys of a set have the pages of the list, and no others.
pub record IsSetOf (keys list : List ℕ) : Type 0 where
  pub same : (page : ℕ) → list_any (nat_eq page) keys ≡ list_any (nat_eq page) list
  pub small : All (λ page. page < 2 ^ 32) keys
  pub sorted : IsStrictlySortedBy nat_cmp keys
