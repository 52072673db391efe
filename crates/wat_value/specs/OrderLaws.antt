-- The orders of values, of keys and of places are total, and only the same are level in them.
use Rattle.std.proofs.Common.{◌≡◌, ℕ, ℤ, pos, List, [], refl, ap, subst}
use Rattle.std.specs.declared.cmp.Ordering.{Ordering}
use Rattle.std.specs.declared.cmp.Ordering.TheVariants.{Less, Equal, Greater}
use Rattle.std.specs.Prelude.{IsTrue}
use Rattle.std.specs.Ordering.{is_eq, nat_cmp, int_cmp, on, then_cmp, ordering_then}
use Rattle.std.specs.Cmp.{IsTotalOrder, tied_itself, then_total, on_total, nat_cmp_total, int_cmp_total}
use Rattle.std.specs.Cmp.Lexicographic.{slice_cmp, lists_total, nat_list_cmp_total}
use Rattle.std.specs.FinMap.{nat_cmp-IsAntisymmetric, int_cmp-IsAntisymmetric, slice_cmp-IsAntisymmetric}
use Rattle.wat_value.specs.declared.value.Value.{Value}
use Rattle.wat_value.specs.declared.value.Value.TheVariants.{Null, Int, Text}
use Rattle.wat_value.specs.declared.place.Place.{Place}
use Rattle.wat_value.specs.declared.place.Place.TheVariants.{At, End}
use Rattle.wat_value.specs.Order.{rank, value_cmp, key_cmp, place_cmp}

abbrev number : Value → ℤ
number Null = pos 0
number (Int n) = n
number (Text t) = pos 0

abbrev bytes : Value → List ℕ
bytes Null = []
bytes (Int n) = []
bytes (Text t) = t

-- what a test for Equal says
pub equal_of : (o : Ordering) → IsTrue (is_eq o) → o ≡ Equal
equal_of Less h = cc
equal_of Equal h = refl
equal_of Greater h = cc

-- by rank, then by the number, then by the bytes
abbrev by_parts : Value → Value → Ordering
by_parts = then_cmp (on rank nat_cmp) (then_cmp (on number int_cmp) (on bytes (slice_cmp nat_cmp)))

then-Equal : (o : Ordering) → ordering_then o Equal ≡ o
then-Equal Less = refl
then-Equal Equal = refl
then-Equal Greater = refl

by_parts-is : (v w : Value) → by_parts v w ≡ value_cmp v w
by_parts-is Null Null = refl
by_parts-is Null (Int n) = refl
by_parts-is Null (Text t) = refl
by_parts-is (Int m) Null = refl
by_parts-is (Int m) (Int n) = then-Equal (int_cmp m n)
by_parts-is (Int m) (Text t) = refl
by_parts-is (Text s) Null = refl
by_parts-is (Text s) (Int n) = refl
by_parts-is (Text s) (Text t) = refl

by_parts_total : IsTotalOrder by_parts
by_parts_total = then_total (on_total rank nat_cmp_total) (then_total (on_total number int_cmp_total) (on_total bytes nat_list_cmp_total))

pub value_cmp_total : IsTotalOrder value_cmp
value_cmp_total = subst IsTotalOrder (λ i v w. by_parts-is v w i) by_parts_total

pub value_cmp_level : (v w : Value) → value_cmp v w ≡ Equal → v ≡ w
value_cmp_level Null Null e = refl
value_cmp_level Null (Int n) e = cc
value_cmp_level Null (Text t) e = cc
value_cmp_level (Int m) Null e = cc
value_cmp_level (Int m) (Int n) e = ap Int (int_cmp-IsAntisymmetric m n e)
value_cmp_level (Int m) (Text t) e = cc
value_cmp_level (Text s) Null e = cc
value_cmp_level (Text s) (Int n) e = cc
value_cmp_level (Text s) (Text t) e = ap Text (slice_cmp-IsAntisymmetric nat_cmp-IsAntisymmetric s t e)

-- a value is level with itself
pub value_cmp_refl : (v : Value) → value_cmp v v ≡ Equal
value_cmp_refl v = tied_itself value_cmp_total v

pub key_cmp_total : IsTotalOrder key_cmp
key_cmp_total = lists_total value_cmp_total

pub key_cmp_level : (a b : List Value) → key_cmp a b ≡ Equal → a ≡ b
key_cmp_level a b e = slice_cmp-IsAntisymmetric value_cmp_level a b e

pub key_cmp_refl : (a : List Value) → key_cmp a a ≡ Equal
key_cmp_refl a = tied_itself key_cmp_total a

abbrev place_rank : Place → ℕ
place_rank (At key) = 0
place_rank End = 1

abbrev place_key : Place → List Value
place_key (At key) = key
place_key End = []

-- by rank, then by the key
abbrev by_place : Place → Place → Ordering
by_place = then_cmp (on place_rank nat_cmp) (on place_key key_cmp)

by_place-is : (p q : Place) → by_place p q ≡ place_cmp p q
by_place-is (At a) (At b) = refl
by_place-is (At a) End = refl
by_place-is End (At b) = refl
by_place-is End End = refl

pub place_cmp_total : IsTotalOrder place_cmp
place_cmp_total = subst IsTotalOrder (λ i p q. by_place-is p q i) (then_total (on_total place_rank nat_cmp_total) (on_total place_key key_cmp_total))

pub place_cmp_level : (p q : Place) → place_cmp p q ≡ Equal → p ≡ q
place_cmp_level (At a) (At b) e = ap At (key_cmp_level a b e)
place_cmp_level (At a) End e = cc
place_cmp_level End (At b) e = cc
place_cmp_level End End e = refl

-- a place is level with itself
pub place_cmp_refl : (p : Place) → place_cmp p p ≡ Equal
place_cmp_refl p = tied_itself place_cmp_total p
