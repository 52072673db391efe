-- The spots of a change in the core are those that the locking protocol speaks of.
use Rattle.std.proofs.Common.{◌≡◌, ℕ, Bool, true, false, ◌||◌, is_some, List, [], ◌∷◌, length, Some, refl, sym, ap, ◌∙◌, subst, inl, inr, ⊎_elim}
use Rattle.std.proofs.lemmas.Bool.{both_ways}
use Rattle.wat_list.specs.Has.{Has}
use Rattle.wat_value.specs.declared.bound.Bound.TheVariants.{Excluding}
use Rattle.wat_value.specs.declared.change.Change.{Change}
use Rattle.wat_value.specs.Changes.{changed_table, row_before, row_after}
use Rattle.wat_value.specs.Indexes.{index_numbers, key_columns}
use Rattle.wat_schema.specs.Catalog.{Listing, listing_at}
use Rattle.wat_isolation.specs.Rows.{upto}
use Rattle.wat_isolation.specs.Machine as law
use Rattle.wat_isolation.specs.Sql.{sql}
use Rattle.wat_locks.specs.Held.{entry}
use Rattle.wat_level.specs.declared.change.Spot.{Spot}
use Rattle.wat_level.specs.Wanted.{long_want, phantom_lock}
use Rattle.wat_protocol.specs.Locked.{place_of, position_of}
use Rattle.wat_protocol.specs.Moves as protocol
use Rattle.wat_protocol.specs.Moves.{IsChangeOf, left_key, entered_key, index_of}
use Rattle.wat_protocol.proofs.LockLemmas.{place_back}
use Rattle.wat_scans.specs.Running.{row_changed}
use Rattle.wat_steps.specs.State.{CoreState, schema_of, IsFirstFrom}
use Rattle.wat_steps.specs.Changing.{index_in}
use Rattle.wat_steps.specs.Making as making
use Rattle.wat_steps.specs.Making.{moves_key}
use Rattle.wat_tied.specs.Tied.{IsFormed, Relates}
use Rattle.wat_tied.proofs.Keys as keys
use Rattle.wat_tied.proofs.Places as places

or_true : (a b : Bool) → b ≡ true → (a || b) ≡ true
or_true true b h = refl
or_true false b h = h

module _ (e : CoreState) (s : law.State sql) (k : Relates e s) (c : ℕ) (l : Listing) (ch : Change) (f : IsFormed (schema_of e) ch) (listing : listing_at (schema_of e) (changed_table ch) ≡ Some l) where
  pub change_of : s.now (row_changed (schema_of e) ch) ≡ row_before ch → IsChangeOf s (schema_of e) l ch
  change_of before = record {
    scheme = k.scheme;
    listing = listing;
    now = subst (λ r. s.now r ≡ row_before ch) (keys.name (schema_of e) l ch listing) before;
    key = keys.key_after (schema_of e) l ch listing f.after;
  }

  -- a spot of an index
  spot_right : (index : ℕ) (spot : Spot) → making.IsSpot e c l ch index spot → protocol.IsSpot s c l ch spot
  spot_right index spot is = record {
    leaves = is.leaves ∙ ap (λ n. left_key l n (row_before ch) (row_after ch)) (sym is.number);
    enters = is.enters ∙ ap (λ n. entered_key l n (row_before ch) (row_after ch)) (sym is.number);
    successor = λ key enters.
        let came : left_key l index (row_after ch) (row_before ch) ≡ Some key = sym is.enters ∙ enters in
        let of = keys.left_of_row l index key (row_after ch) (row_before ch) came in
        let long : length key ≡ length (key_columns l.def l.indexes index) = ap length (sym of.2) ∙ places.values_long of.0 (key_columns l.def l.indexes index) in
        let first : IsFirstFrom e (index_in ch index) (Excluding key) (place_of (position_of spot.successor)) = subst (IsFirstFrom e (index_in ch index) (Excluding key)) (sym (place_back spot.successor)) (is.successor key enters) in
        subst (λ n. law.IsFirst sql s (record { table = changed_table ch; index = n }) (upto sql key) (position_of spot.successor)) (sym is.number)
        (places.first_past e s k (index_in ch index) l listing key long (position_of spot.successor) first);
    inherits = λ h.
        let held : Has (entry c (long_want (phantom_lock (changed_table ch) spot.index (place_of (position_of spot.successor))))) e.held = k.locks c (law.Lock.Phantom (index_of ch spot) (position_of spot.successor)) h in
        is.inherits.1 (entry c (long_want (phantom_lock (changed_table ch) spot.index (place_of (position_of spot.successor)))), held, refl, λ j. phantom_lock (changed_table ch) (is.number j) (place_back spot.successor j));
  }

  all_right : (indexes : List ℕ) (spots : List Spot) → making.AreSpots e c l ch indexes spots → (spot : Spot) → Has spot spots → protocol.IsSpot s c l ch spot
  all_right [] spots are spot has = absurd (subst (Has spot) are has)
  all_right (n ∷ more) spots (inl h) spot has = ⊎_elim
      (λ (same : h.1 ≡ spot). subst (λ (z : Spot). protocol.IsSpot s c l ch z) same (spot_right n h.1 h.4))
      (λ (deeper : Has spot h.2). all_right more h.2 h.5 spot deeper)
      (subst (Has spot) h.3 has)
  all_right (n ∷ more) spots (inr h) spot has = all_right more spots h.1 spot has

  spot_of : (indexes : List ℕ) (spots : List Spot) → making.AreSpots e c l ch indexes spots → (index : ℕ) → Has index indexes → moves_key l ch index ≡ true → (spot : Spot) × Has spot spots × (spot.index ≡ index)
  spot_of [] spots are index m moving = absurd m
  spot_of (n ∷ more) spots (inr h) index (inl same) moving = absurd (both_ways (moves_key l ch index) (subst (λ z. moves_key l ch z ≡ false) same h.0) moving)
  spot_of (n ∷ more) spots (inr h) index (inr m) moving = spot_of more spots h.1 index m moving
  spot_of (n ∷ more) spots (inl h) index (inl same) moving = (h.1, subst (Has h.1) (sym h.3) (inl refl), h.4.number ∙ same)
  spot_of (n ∷ more) spots (inl h) index (inr m) moving = let r = spot_of more h.2 h.5 index m moving in (r.0, subst (Has r.0) (sym h.3) (inr r.1), r.2)

  pub spots_right : (spots : List Spot) → making.AreSpots e c l ch (index_numbers l.indexes) spots → protocol.AreSpots s c l ch spots
  spots_right spots are = record {
    right = all_right (index_numbers l.indexes) spots are;
    each = λ index key has moves. spot_of (index_numbers l.indexes) spots are index (keys.numbered l index has) (⊎_elim
        (λ (a : left_key l index (row_before ch) (row_after ch) ≡ Some key). ap (λ o. is_some o || is_some (entered_key l index (row_before ch) (row_after ch))) a)
        (λ (a : entered_key l index (row_before ch) (row_after ch) ≡ Some key). or_true (is_some (left_key l index (row_before ch) (row_after ch))) (is_some (entered_key l index (row_before ch) (row_after ch))) (ap is_some a))
        moves);
  }
