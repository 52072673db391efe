-- The spots of a change, index by index.
use Rattle.std.proofs.Common.{◌≡◌, ℕ, ◌==◌, Bool, true, false, if◌then◌else◌, List, [], ◌∷◌, ◌++◌, Option, Some, None, ◌⊎◌, inl, inr, option_to_list, refl, sym, ap, ◌∙◌, subst, ⊎_elim}
use Rattle.std.specs.Option.{option_map}
use Rattle.std.proofs.lemmas.Bool.{both_ways, eqb-true}
use Rattle.wat_list.specs.Has.{Has}
use Rattle.wat_list.proofs.Members.{any_has, has_cases, has_left, has_right}
use Rattle.wat_value.specs.declared.value.Value.{Value}
use Rattle.wat_value.specs.declared.change.Change.{Change}
use Rattle.wat_value.specs.Indexes.{index_key, index_numbers}
use Rattle.wat_schema.specs.Catalog.{Listing}
use Rattle.wat_isolation.specs.Naming.{is_indexed, same_key, same_key_is, same_key_self}
use Rattle.wat_level.specs.declared.change.Spot.{Spot}
use Rattle.wat_protocol.specs.Moves.{left_key}
use Rattle.wat_visits.specs.Sourced.{Sourced}
use Rattle.wat_exec.specs.Asked.{AreSpots, IsSpot, Moves}
use Rattle.wat_exec.specs.Making.{IsSpotIn, moved_from}

-- ---- the keys that are moved

pub left_is : (l : Listing) (index : ℕ) (before after : Option (List Value))
    → moved_from (option_map (index_key l.def l.indexes index) before) (option_map (index_key l.def l.indexes index) after) ≡ left_key l index before after
left_is l index None after = refl
left_is l index (Some before) None = refl
left_is l index (Some before) (Some after) = refl

as_tested : (b c : Bool) → (b ≡ true → c ≡ true) → (c ≡ true → b ≡ true) → b ≡ c
as_tested true c to back = sym (to refl)
as_tested false true to back = back refl
as_tested false false to back = refl

same_to : (a b : List Value) → same_key a b ≡ true → same_key b a ≡ true
same_to a b h = let e : a ≡ b = same_key_is a b h in ap (λ z. same_key b z) e ∙ same_key_self b

pub same_back : (a b : List Value) → same_key a b ≡ same_key b a
same_back a b = as_tested (same_key a b) (same_key b a) (same_to a b) (same_to b a)

pub moved_none : (a b : List Value) → same_key a b ≡ true → None ≡ moved_from (Some a) (Some b)
moved_none a b h = sym (ap (λ t. if t then None else Some a) h)

pub moved_some : (a b : List Value) → same_key a b ≡ false → Some a ≡ moved_from (Some a) (Some b)
moved_some a b h = sym (ap (λ t. if t then None else Some a) h)

-- ---- the spots of some indexes

module _ (Tells : Sourced → Type 0) (l : Listing) (change : Change) where
  -- each spot is right, and there is one for each of these indexes in which a key is moved
  pub record AreAmong (numbers : List ℕ) (spots : List Spot) : Type 0 where
    pub right : (spot : Spot) → Has spot spots → IsSpot Tells l change spot
    pub each : (index : ℕ) (key : List Value) → Has index numbers → Moves l change index key → (spot : Spot) × Has spot spots × (spot.index ≡ index)

  pub none_among : AreAmong [] []
  none_among = record { right = λ spot has. absurd has; each = λ index key has moves. absurd has }

  pub more_among : (numbers : List ℕ) (spots : List Spot) (n : ℕ) (found : Option Spot) → AreAmong numbers spots → IsSpotIn Tells l change n found → AreAmong (numbers ++ n ∷ []) (spots ++ option_to_list found)
  more_among numbers spots n None are none = record {
    right = λ spot has. ⊎_elim (are.right spot) (λ no. absurd no) (has_cases spot spots [] has);
    each = λ index key has moves.
        ⊎_elim
        (λ (h : Has index numbers). let r = are.each index key h moves in (r.0, has_left r.0 spots [] r.1, r.2))
        (λ (h : Has index (n ∷ [])). ⊎_elim (λ (e : n ≡ index). absurd (none key (subst (λ i. Moves l change i key) (sym e) moves))) (λ no. absurd no) h)
        (has_cases index numbers (n ∷ []) has);
  }
  more_among numbers spots n (Some new) are found = record {
    right = λ spot has.
        ⊎_elim (are.right spot) (λ (h : Has spot (new ∷ [])). ⊎_elim (λ (e : new ≡ spot). subst (IsSpot Tells l change) e found.1) (λ no. absurd no) h)
        (has_cases spot spots (new ∷ []) has);
    each = λ index key has moves.
        ⊎_elim
        (λ (h : Has index numbers). let r = are.each index key h moves in (r.0, has_left r.0 spots (new ∷ []) r.1, r.2))
        (λ (h : Has index (n ∷ [])). ⊎_elim (λ (e : n ≡ index). (new, has_right new spots (new ∷ []) (inl refl), found.0 ∙ e)) (λ no. absurd no) h)
        (has_cases index numbers (n ∷ []) has);
  }

  indexed_has : (index : ℕ) → is_indexed l index ≡ true → Has index (index_numbers l.indexes)
  indexed_has index h =
      let r = any_has (λ n. n == index) (index_numbers l.indexes) h in
      let e : r.0 ≡ index = eqb-true r.0 index r.2 in
      subst (λ i. Has i (index_numbers l.indexes)) e r.1

  -- the spots of all indexes
  pub all_among : (spots : List Spot) → AreAmong (index_numbers l.indexes) spots → AreSpots Tells l change spots
  all_among spots are = record { right = are.right; each = λ index key indexed moves. are.each index key (indexed_has index indexed) moves }

-- what a source that tells more finds right is right for one that tells less
pub spot_less : (More Less : Sourced → Type 0) → ((s : Sourced) → Less s → More s) → (l : Listing) (change : Change) (index : ℕ) (found : Option Spot) → IsSpotIn More l change index found → IsSpotIn Less l change index found
spot_less More Less to l change index None none = none
spot_less More Less to l change index (Some spot) found =
    (found.0, record { leaves = found.1.leaves; enters = found.1.enters; successor = λ s told key e. found.1.successor s (to s told) key e; inherits = found.1.inherits })

pub spots_less : (More Less : Sourced → Type 0) → ((s : Sourced) → Less s → More s) → (l : Listing) (change : Change) (spots : List Spot) → AreSpots More l change spots → AreSpots Less l change spots
spots_less More Less to l change spots are = record {
  right = λ spot has.
      let r = are.right spot has in
      record { leaves = r.leaves; enters = r.enters; successor = λ s told key e. r.successor s (to s told) key e; inherits = r.inherits };
  each = are.each;
}
