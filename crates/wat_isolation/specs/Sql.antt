-- Rows named by a table and a primary key, indexes by a table and a number, keys that are lists of values in their order.
use Rattle.std.proofs.Common.{◌≡◌, ℕ, Bool, true, false, ◌&&◌, ◌==◌, List, ◌⊎◌, refl, ap, ◌∙◌, inl, inr}
use Rattle.std.specs.declared.cmp.Ordering.{Ordering}
use Rattle.std.specs.declared.cmp.Ordering.TheVariants.{Less, Equal, Greater}
use Rattle.std.specs.Ordering.{is_lt, is_eq, ordering_reverse}
use Rattle.std.proofs.lemmas.Bool.{and_parts, and_from, eqb-true, eq-eqb}
use Rattle.wat_value.specs.declared.value.Value.{Value}
use Rattle.wat_value.specs.Order.{key_cmp}
use Rattle.wat_value.specs.OrderLaws.{key_cmp_total, key_cmp_level, key_cmp_refl}
use Rattle.wat_value.specs.Changes.{RowName}
use Rattle.wat_isolation.specs.World.{World}

-- index 0 is the primary key
pub record IndexName : Type 0 where
  pub table : ℕ
  pub index : ℕ

abbrev pub same_row : RowName → RowName → Bool
same_row a b = (a.table == b.table) && is_eq (key_cmp a.key b.key)

abbrev pub less_key : List Value → List Value → Bool
less_key x y = is_lt (key_cmp x y)

is_equal : (o : Ordering) → is_eq o ≡ true → o ≡ Equal
is_equal Less e = cc
is_equal Equal e = refl
is_equal Greater e = cc

is_less : (o : Ordering) → is_lt o ≡ true → o ≡ Less
is_less Less e = refl
is_less Equal e = cc
is_less Greater e = cc

pub same_row_is : (a b : RowName) → same_row a b ≡ true → a ≡ b
same_row_is a b e =
    let p = and_parts (a.table == b.table) (is_eq (key_cmp a.key b.key)) e in
    let t : a.table ≡ b.table = eqb-true a.table b.table p.0 in
    let k : a.key ≡ b.key = key_cmp_level a.key b.key (is_equal (key_cmp a.key b.key) p.1) in
    λ i. record { table = t i; key = k i }

pub same_row_self : (a : RowName) → same_row a a ≡ true
same_row_self a = and_from (a.table == a.table) (is_eq (key_cmp a.key a.key)) (eq-eqb a.table a.table refl) (ap is_eq (key_cmp_refl a.key))

pub less_key_self : (x : List Value) → less_key x x ≡ false
less_key_self x = ap is_lt (key_cmp_refl x)

pub less_key_trans : (x y z : List Value) → less_key x y ≡ true → less_key y z ≡ true → less_key x z ≡ true
less_key_trans x y z a b = ap is_lt (key_cmp_total.trans x y z (is_less (key_cmp x y) a) (is_less (key_cmp y z) b))

pub key_order : (x y : List Value) → (x ≡ y) ⊎ ((less_key x y ≡ true) ⊎ (less_key y x ≡ true))
key_order x y = by (key_cmp x y) refl
  where
    by : (o : Ordering) → key_cmp x y ≡ o → (x ≡ y) ⊎ ((less_key x y ≡ true) ⊎ (less_key y x ≡ true))
    by Less e = inr (inl (ap is_lt e))
    by Equal e = inl (key_cmp_level x y e)
    by Greater e = inr (inr (ap is_lt (key_cmp_total.antisymm y x ∙ ap ordering_reverse e)))

abbrev pub sql : World
sql = record {
  Row = RowName;
  Key = List Value;
  Content = List Value;
  Index = IndexName;
  same = same_row;
  same_is = same_row_is;
  same_self = same_row_self;
  less = less_key;
  less_self = less_key_self;
  less_trans = less_key_trans;
  order = key_order;
}
