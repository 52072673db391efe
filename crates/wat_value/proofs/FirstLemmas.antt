-- The first key that a lower bound admits, among keys in order.
use Rattle.std.proofs.Common.{◌≡◌, Bool, true, false, cond, List, [], ◌∷◌, Some, refl, sym, ◌∙◌, ap, inl, inr, ⊎_elim}
use Rattle.std.specs.List.{find, list_all}
use Rattle.std.specs.declared.cmp.Ordering.{Ordering}
use Rattle.std.specs.declared.cmp.Ordering.TheVariants.{Less, Equal, Greater}
use Rattle.std.specs.Ordering.{is_lt, ordering_reverse}
use Rattle.std.proofs.lemmas.Bool.{and_parts, both_ways}
use Rattle.wat_list.specs.Has.{Has}
use Rattle.wat_list.specs.Rising.{rising}
use Rattle.wat_list.proofs.Members.{all_has}
use Rattle.wat_value.specs.declared.value.Value.{Value}
use Rattle.wat_value.specs.declared.bound.Bound.{Bound}
use Rattle.wat_value.specs.declared.place.Place.{Place}
use Rattle.wat_value.specs.declared.place.Place.TheVariants.{At, End}
use Rattle.wat_value.specs.Order.{key_cmp}
use Rattle.wat_value.specs.OrderLaws.{key_cmp_total, key_cmp_refl}
use Rattle.wat_value.specs.Bounds.{is_above, IsFirstFrom, place_of, first_from}

not_both : (o : Ordering) → is_lt o ≡ true → is_lt (ordering_reverse o) ≡ true → ⊥
not_both Less a b = both_ways false refl b
not_both Equal a b = both_ways false refl a
not_both Greater a b = both_ways false refl a

-- no key is before itself, nor before one that is before it
before_itself : (a : List Value) → is_lt (key_cmp a a) ≡ true → ⊥
before_itself a h = both_ways false refl (ap is_lt (sym (key_cmp_refl a)) ∙ h)

each_before : (a b : List Value) → is_lt (key_cmp a b) ≡ true → is_lt (key_cmp b a) ≡ true → ⊥
each_before a b h k = not_both (key_cmp a b) h (ap is_lt (sym (key_cmp_total.antisymm b a)) ∙ k)

module _ (bound : Bound) (key : List Value) (keys : List (List Value)) where
  -- a key that is not admitted changes nothing
  passed : is_above bound key ≡ false → (place : Place) → IsFirstFrom (λ k. Has k keys) bound place → IsFirstFrom (λ k. Has k (key ∷ keys)) bound place
  passed off (At first) is = (
    is.0,
    inr is.1,
    λ other above less here. ⊎_elim (λ (e : key ≡ other). both_ways (is_above bound key) off (ap (is_above bound) e ∙ above)) (λ (m : Has other keys). is.2 other above less m) here,
  )
  passed off End is = λ other above here. ⊎_elim (λ (e : key ≡ other). both_ways (is_above bound key) off (ap (is_above bound) e ∙ above)) (λ (m : Has other keys). is other above m) here

  -- the first of all that is admitted is it
  admitted : is_above bound key ≡ true → list_all (λ other. is_lt (key_cmp key other)) keys ≡ true → IsFirstFrom (λ k. Has k (key ∷ keys)) bound (At key)
  admitted on all = (
    on,
    inl refl,
    λ other above less here. ⊎_elim
        (λ (e : key ≡ other). before_itself key (ap (λ k. is_lt (key_cmp k key)) e ∙ less))
        (λ (m : Has other keys). each_before key other (all_has (λ other. is_lt (key_cmp key other)) other keys all m) less)
        here,
  )

pub first_is : (bound : Bound) (keys : List (List Value)) → rising key_cmp keys ≡ true → IsFirstFrom (λ key. Has key keys) bound (first_from bound keys)
first_is bound [] up = λ other above here. here
first_is bound (key ∷ keys) up =
    let parts = and_parts (list_all (λ other. is_lt (key_cmp key other)) keys) (rising key_cmp keys) up in
    by (is_above bound key) refl parts.0 (first_is bound keys parts.1)
  where
    by : (b : Bool) → is_above bound key ≡ b → list_all (λ other. is_lt (key_cmp key other)) keys ≡ true → IsFirstFrom (λ k. Has k keys) bound (first_from bound keys)
        → IsFirstFrom (λ k. Has k (key ∷ keys)) bound (place_of (cond b (Some key) (find (is_above bound) keys)))
    by true on all rest = admitted bound key keys on all
    by false off all rest = passed bound key keys off (first_from bound keys) rest
