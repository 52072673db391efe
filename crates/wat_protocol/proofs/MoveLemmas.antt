-- What a change asks.
use Rattle.std.proofs.Common.{◌≡◌, ℕ, ◌==◌, Bool, true, false, cond, if◌then◌else◌, List, [], ◌∷◌, Option, Some, None, refl, sym, ap, ◌∙◌, subst, inl, inr}
use Rattle.std.proofs.lemmas.Bool.{both_ways, eqb-true, eq-eqb}
use Rattle.std.specs.List.{find}
use Rattle.std.specs.Option.{option_map_or}
use Rattle.wat_list.specs.Has.{Has}
use Rattle.wat_value.specs.declared.value.Value.{Value}
use Rattle.wat_value.specs.declared.place.Place.TheVariants.{At}
use Rattle.wat_value.specs.declared.definition.TableDef.{TableDef}
use Rattle.wat_value.specs.declared.change.Change.{Change}
use Rattle.wat_value.specs.declared.change.Change.TheVariants.{Insert, Update, Delete}
use Rattle.wat_value.specs.Changes.{RowName, row_name, changed_table, changed_row, row_before, row_after}
use Rattle.wat_value.specs.Fits.{key_of}
use Rattle.wat_value.specs.Indexes.{index_key}
use Rattle.wat_schema.specs.Catalog.{Catalog, Listing, listing_at, has_number}
use Rattle.wat_isolation.specs.Rows.{Scheme, key_at, upto}
use Rattle.wat_isolation.specs.Machine as machine
use Rattle.wat_isolation.specs.Sql.{sql, IndexName}
use Rattle.wat_isolation.specs.Naming.{is_indexed, same_key, same_key_is, key_in, KeyOf, key_parts}
use Rattle.wat_isolation.proofs.Naming.{has_key_in}
use Rattle.wat_locks.specs.declared.lock.Lock.{Lock}
use Rattle.wat_locks.specs.declared.want.Want.{Want}
use Rattle.wat_locks.specs.declared.held.Held.{Held}
use Rattle.wat_locks.specs.Held.{AreFree}
use Rattle.wat_level.specs.declared.change.Spot.{Spot}
use Rattle.wat_level.specs.Wanted.{IsWanted, write_lock, phantom_lock, anti_phantom_lock}
use Rattle.wat_level.specs.Change.{change_wants}
use Rattle.wat_level.proofs.ChangeLaws.{wants_write, wants_left, wants_entered, wants_successor, wants_inherited, wants_long}
use Rattle.wat_protocol.specs.Locked.{place_of, position_of, lock_of, long_locks, AreHeld}
use Rattle.wat_protocol.specs.Moves.{IsChangeOf, left_key, entered_key, index_of, IsSpot, AreSpots, next_in}
use Rattle.wat_protocol.proofs.LockLemmas.{place_back, has_long, all_free}

-- ---- the first that passes a test

found : {A : Type 0} (p : A → Bool) (xs : List A) (x : A) → find p xs ≡ Some x → Has x xs × (p x ≡ true)
found p [] x e = absurd (cc)
found p (y ∷ ys) x e = by (p y) refl (λ r. found p ys x r) e
  where
    by : (b : Bool) → p y ≡ b → (find p ys ≡ Some x → Has x ys × (p x ≡ true)) → cond b (Some y) (find p ys) ≡ Some x → Has x (y ∷ ys) × (p x ≡ true)
    by true at deeper e = let s : y ≡ x = cc in (inl s, subst (λ z. p z ≡ true) s at)
    by false at deeper e = let r = deeper e in (inr r.0, r.1)

finds : {A : Type 0} (p : A → Bool) (xs : List A) (x : A) → Has x xs → p x ≡ true → (y : A) × (find p xs ≡ Some y)
finds p [] x h e = absurd h
finds {A} p (y ∷ ys) x h e = by (p y) refl (λ r. finds p ys x r e) h
  where
    by : (b : Bool) → p y ≡ b → (Has x ys → (z : A) × (find p ys ≡ Some z)) → Has x (y ∷ ys) → (z : A) × (cond b (Some y) (find p ys) ≡ Some z)
    by true at deeper h = (y, refl)
    by false at deeper (inl s) = absurd (both_ways (p y) at (subst (λ z. p z ≡ true) (sym s) e))
    by false at deeper (inr r) = deeper r

-- ---- the row of a change

listing_number : (cat : Catalog) (n : ℕ) (l : Listing) → listing_at cat n ≡ Some l → n ≡ l.def.number
listing_number cat n l e = eqb-true n l.def.number (found (has_number n) cat.tables l e).1

row_table : (def : TableDef) (ch : Change) → (changed_row def ch).table ≡ changed_table ch
row_table def (Insert table row) = refl
row_table def (Update table before after) = refl
row_table def (Delete table before) = refl

before_key : (def : TableDef) (ch : Change) (row : List Value) → row_before ch ≡ Some row → key_of def row ≡ (changed_row def ch).key
before_key def (Insert table new) row h = absurd (cc)
before_key def (Update table before after) row h = let s : before ≡ row = cc in ap (key_of def) (sym s)
before_key def (Delete table before) row h = let s : before ≡ row = cc in ap (key_of def) (sym s)

-- a key that the one row has and the other has not is left
left_is : (l : Listing) (index : ℕ) (x before : List Value) (after : Option (List Value)) → index_key l.def l.indexes index before ≡ x
    → ((row : List Value) → after ≡ Some row → index_key l.def l.indexes index row ≡ x → ⊥) → left_key l index (Some before) after ≡ Some x
left_is l index x before None e off = ap Some e
left_is l index x before (Some after) e off = by (same_key (index_key l.def l.indexes index before) (index_key l.def l.indexes index after)) refl
  where
    by : (t : Bool) → same_key (index_key l.def l.indexes index before) (index_key l.def l.indexes index after) ≡ t → (if t then None else Some (index_key l.def l.indexes index before)) ≡ Some x
    by true k = absurd (off after refl (sym (same_key_is (index_key l.def l.indexes index before) (index_key l.def l.indexes index after) k) ∙ e))
    by false k = ap Some e

-- where a key moves
pub record MovesIn (l : Listing) (ch : Change) (i : IndexName) (key : Option (List Value)) (x : List Value) : Type 0 where
  pub moves : key ≡ Some x
  pub table : i.table ≡ changed_table ch
  pub indexed : is_indexed l i.index ≡ true

-- what a key of the row says
record KeyOfRow (l : Listing) (ch : Change) (i : IndexName) (row : Option (List Value)) (x : List Value) : Type 0 where
  stands : List Value
  row_is : row ≡ Some stands
  table : i.table ≡ changed_table ch
  indexed : is_indexed l i.index ≡ true
  key : index_key l.def l.indexes i.index stands ≡ x

module _ (cat : Catalog) (s : machine.State sql) (l : Listing) (ch : Change) (of : IsChangeOf s cat l ch) where
  abbrev r : RowName
  r = changed_row l.def ch

  key_of_row : (i : IndexName) (x : List Value) (row : Option (List Value)) → key_at sql s.scheme i r row ≡ Some x → KeyOfRow l ch i row x
  key_of_row i x None h = absurd (cc)
  key_of_row i x (Some row) h =
      let g : KeyOf cat i r row x = key_parts cat i r row x (subst (λ (z : Scheme sql). z.key i r row ≡ Some x) of.scheme h) in
      let t : i.table ≡ changed_table ch = g.table ∙ row_table l.def ch in
      let there : Some g.listing ≡ Some l = sym g.stands ∙ (ap (listing_at cat) t ∙ of.listing) in
      let same : g.listing ≡ l = cc in
      record {
        stands = row;
        row_is = refl;
        table = t;
        indexed = subst (λ (z : Listing). is_indexed z i.index ≡ true) same g.indexed;
        key = subst (λ (z : Listing). index_key z.def z.indexes i.index row ≡ x) same g.key;
      }

  key_back : (i : IndexName) (x row : List Value) → i.table ≡ changed_table ch → is_indexed l i.index ≡ true → key_of l.def row ≡ r.key → index_key l.def l.indexes i.index row ≡ x → key_at sql s.scheme i r (Some row) ≡ Some x
  key_back i x row t h primary key =
      let number : l.def.number ≡ changed_table ch = sym (listing_number cat (changed_table ch) l of.listing) in
      let index : i ≡ record { table = l.def.number; index = i.index } = λ j. record { table = (t ∙ sym number) j; index = i.index } in
      let name : r ≡ row_name l.def row = λ j. record { table = (row_table l.def ch ∙ sym number) j; key = (sym primary) j } in
      let at : key_in cat (record { table = l.def.number; index = i.index }) (row_name l.def row) row ≡ Some (index_key l.def l.indexes i.index row) = has_key_in cat l i.index row (ap (listing_at cat) number ∙ of.listing) h in
      subst (λ (z : Scheme sql). z.key i r row ≡ Some x) (sym of.scheme) ((λ j. key_in cat (index j) (name j) row) ∙ (at ∙ ap Some key))

  -- a key that the row has by the one content and not by the other
  goes : (i : IndexName) (x : List Value) (a b : Option (List Value)) → ((row : List Value) → b ≡ Some row → key_of l.def row ≡ r.key)
      → key_at sql s.scheme i r a ≡ Some x → (key_at sql s.scheme i r b ≡ Some x → ⊥) → MovesIn l ch i (left_key l i.index a b) x
  goes i x a b primary h off =
      let q : KeyOfRow l ch i a x = key_of_row i x a h in
      record {
        moves = subst (λ (o : Option (List Value)). left_key l i.index o b ≡ Some x) (sym q.row_is)
            (left_is l i.index x q.stands b q.key (λ row at key. off (subst (λ (o : Option (List Value)). key_at sql s.scheme i r o ≡ Some x) (sym at) (key_back i x row q.table q.indexed (primary row at) key))));
        table = q.table;
        indexed = q.indexed;
      }

  left_at : (i : IndexName) (x : List Value) → key_at sql s.scheme i r (s.now r) ≡ Some x → (key_at sql s.scheme i r (row_after ch) ≡ Some x → ⊥) → MovesIn l ch i (left_key l i.index (row_before ch) (row_after ch)) x
  left_at i x h off = goes i x (row_before ch) (row_after ch) of.key (subst (λ (o : Option (List Value)). key_at sql s.scheme i r o ≡ Some x) of.now h) off

  entered_at : (i : IndexName) (x : List Value) → key_at sql s.scheme i r (row_after ch) ≡ Some x → (key_at sql s.scheme i r (s.now r) ≡ Some x → ⊥) → MovesIn l ch i (entered_key l i.index (row_before ch) (row_after ch)) x
  entered_at i x h off = goes i x (row_after ch) (row_before ch) (before_key l.def ch) h (λ z. off (subst (λ (o : Option (List Value)). key_at sql s.scheme i r o ≡ Some x) (sym of.now) z))

  module _ (c : ℕ) (spots : List Spot) (are : AreSpots s c l ch spots) where
    -- the spot of an index in which a key comes
    record ComesAt (i : IndexName) (x : List Value) : Type 0 where
      spot : Spot
      among : Has spot spots
      is : IsSpot s c l ch spot
      same : index_of ch spot ≡ i
      enters : spot.enters ≡ Some x
      next : next_in spots i ≡ position_of spot.successor

    comes_at : (i : IndexName) (x : List Value) → key_at sql s.scheme i r (row_after ch) ≡ Some x → (key_at sql s.scheme i r (s.now r) ≡ Some x → ⊥) → ComesAt i x
    comes_at i x h off =
        let g : MovesIn l ch i (entered_key l i.index (row_before ch) (row_after ch)) x = entered_at i x h off in
        let some = are.each i.index x g.indexed (inr g.moves) in
        let first = finds (λ (z : Spot). z.index == i.index) spots some.0 some.1 (eq-eqb some.0.index i.index some.2) in
        let there = found (λ (z : Spot). z.index == i.index) spots first.0 first.1 in
        let number : first.0.index ≡ i.index = eqb-true first.0.index i.index there.1 in
        let right : IsSpot s c l ch first.0 = are.right first.0 there.0 in
        record {
          spot = first.0;
          among = there.0;
          is = right;
          same = λ j. record { table = (sym g.table) j; index = number j };
          enters = right.enters ∙ (ap (λ (n : ℕ). entered_key l n (row_before ch) (row_after ch)) number ∙ g.moves);
          next = ap (λ (o : Option Spot). option_map_or (λ (z : Spot). position_of z.successor) o machine.Place.End) first.1;
        }

    module _ (locks : List (machine.Lock sql)) (has : (m : machine.Lock sql) → IsWanted (lock_of m) (change_wants l.def ch spots) → Has m locks) where
      wanted : (m : machine.Lock sql) (lock : Lock) → lock ≡ lock_of m → IsWanted lock (change_wants l.def ch spots) → Has m locks
      wanted m lock same w = has m (subst (λ (z : Lock). IsWanted z (change_wants l.def ch spots)) same w)

      -- what is wanted of a change has all that the law asks of it
      pub asks : machine.AsksForChange sql s c r (row_after ch) locks (next_in spots)
      asks = record {
        write = wanted (machine.Lock.Write r) (write_lock (changed_table ch) r.key) (λ j. write_lock ((sym (row_table l.def ch)) j) r.key) (wants_write l.def ch spots);
        leaves = λ i x h off.
            let g : MovesIn l ch i (left_key l i.index (row_before ch) (row_after ch)) x = left_at i x h off in
            let some = are.each i.index x g.indexed (inl g.moves) in
            let right : IsSpot s c l ch some.0 = are.right some.0 some.1 in
            wanted (machine.Lock.Anti i (machine.Place.At x)) (anti_phantom_lock (changed_table ch) some.0.index (At x)) (λ j. anti_phantom_lock ((sym g.table) j) (some.2 j) (At x))
            (wants_left l.def ch spots some.0 x some.1 (right.leaves ∙ (ap (λ (n : ℕ). left_key l n (row_before ch) (row_after ch)) some.2 ∙ g.moves)));
        comes = λ i x h off.
            let g : ComesAt i x = comes_at i x h off in
            wanted (machine.Lock.Anti i (machine.Place.At x)) (anti_phantom_lock (changed_table ch) g.spot.index (At x)) (λ j. anti_phantom_lock (g.same j).table (g.same j).index (At x))
            (wants_entered l.def ch spots g.spot x g.among g.enters);
        is_next = λ i x h off.
            let g : ComesAt i x = comes_at i x h off in
            subst (λ (q : machine.Place sql). machine.IsFirst sql s i (upto sql x) q) (sym g.next)
            (subst (λ (z : IndexName). machine.IsFirst sql s z (upto sql x) (position_of g.spot.successor)) g.same (g.is.successor x g.enters));
        past = λ i x h off.
            let g : ComesAt i x = comes_at i x h off in
            wanted (machine.Lock.Anti i (next_in spots i)) (anti_phantom_lock (changed_table ch) g.spot.index g.spot.successor)
            (λ j. anti_phantom_lock (g.same j).table (g.same j).index ((sym (ap place_of g.next ∙ place_back g.spot.successor)) j))
            (wants_successor l.def ch spots g.spot x g.among g.enters);
        inherits = λ i x h off held.
            let g : ComesAt i x = comes_at i x h off in
            let there : Has (machine.Lock.Phantom (index_of ch g.spot) (position_of g.spot.successor)) (s.conns c).locks = subst (λ (m : machine.Lock sql). Has m (s.conns c).locks) (λ j. machine.Lock.Phantom ((sym g.same) j) (g.next j)) held in
            wanted (machine.Lock.Phantom i (machine.Place.At x)) (phantom_lock (changed_table ch) g.spot.index (At x)) (λ j. phantom_lock (g.same j).table (g.same j).index (At x))
            (wants_inherited l.def ch spots g.spot x g.among g.enters (g.is.inherits there));
      }

-- ---- a change that is granted

wanted_long : (def : TableDef) (ch : Change) (spots : List Spot) (m : machine.Lock sql) → IsWanted (lock_of m) (change_wants def ch spots) → Has m (long_locks (change_wants def ch spots))
wanted_long def ch spots m w =
    has_long (change_wants def ch spots) m (subst (λ (x : Want). Has x (change_wants def ch spots)) (λ i. record { lock = w.2 i; short = (wants_long def ch spots w.0 w.1) i }) w.1)

pub change_may : (cat : Catalog) (s : machine.State sql) (held : List Held) (c : ℕ) (l : Listing) (ch : Change) (spots : List Spot)
    → AreHeld s held → IsChangeOf s cat l ch → AreSpots s c l ch spots → AreFree held c (change_wants l.def ch spots)
    → machine.May sql s (machine.Event.Change c (changed_row l.def ch) (row_after ch) (long_locks (change_wants l.def ch spots)) (next_in spots))
change_may cat s held c l ch spots are of spots_are free = (
  asks cat s l ch of c spots spots_are (long_locks (change_wants l.def ch spots)) (wanted_long l.def ch spots),
  all_free s held c (change_wants l.def ch spots) are free,
)

pub look_may : (s : machine.State sql) (held : List Held) (c : ℕ) (l : Listing) (ch : Change) (spots : List Spot)
    → AreHeld s held → AreFree held c (change_wants l.def ch spots)
    → machine.May sql s (machine.Event.Look c (changed_row l.def ch) (long_locks (change_wants l.def ch spots)))
look_may s held c l ch spots are free = (
  inr (wanted_long l.def ch spots (machine.Lock.Write (changed_row l.def ch)) (subst (λ (t : ℕ). IsWanted (write_lock t (changed_row l.def ch).key) (change_wants l.def ch spots)) (sym (row_table l.def ch)) (wants_write l.def ch spots))),
  all_free s held c (change_wants l.def ch spots) are free,
)
