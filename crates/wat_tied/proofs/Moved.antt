-- A row is given anew in the core and in the law of isolation: a change, and its undoing.
use Rattle.std.proofs.Common.{◌≡◌, ℕ, List, ◌∷◌, ◌++◌, map, Option, Some, None, refl, sym, ap, ◌∙◌, subst, inl, inr, ⊎_elim, unwrap_or}
use Rattle.wat_list.specs.Has.{Has}
use Rattle.wat_list.proofs.Members.{has_cases, has_left, has_right, has_map, map_has, has_flat_map, flat_map_has}
use Rattle.wat_value.specs.declared.value.Value.{Value}
use Rattle.wat_value.specs.declared.change.Change.{Change}
use Rattle.wat_value.specs.Changes.{RowName, changed_table, row_before, row_after}
use Rattle.wat_value.specs.Indexes.{index_numbers}
use Rattle.wat_schema.specs.Catalog.{Catalog, Listing, listing_at}
use Rattle.wat_schema.specs.Tables.{Row}
use Rattle.wat_isolation.specs.Rows.{Scheme, set_row, key_at}
use Rattle.wat_isolation.specs.Logs.{Item.Did, Version}
use Rattle.wat_isolation.specs.Machine as law
use Rattle.wat_isolation.specs.Naming.{scheme_of}
use Rattle.wat_isolation.specs.Vacant as vacancy
use Rattle.wat_isolation.specs.Sql.{sql, IndexName}
use Rattle.wat_isolation.proofs.Vacant.{change_vacant}
use Rattle.wat_locks.specs.declared.held.Held.{Held}
use Rattle.wat_meaning.specs.Meaning.{after_change}
use Rattle.wat_protocol.specs.Locked.{AreHeld}
use Rattle.wat_protocol.specs.Moves.{left_key}
use Rattle.wat_scans.specs.Look.{IsOf}
use Rattle.wat_scans.specs.Running.{row_changed}
use Rattle.wat_scans.proofs.Applied.{AppliedOne, apply_one}
use Rattle.wat_steps.specs.State.{VacantKey, CoreState, schema_of}
use Rattle.wat_steps.specs.Changing.{index_in, noted, left_in, left_by}
use Rattle.wat_tied.specs.Tied.{left_of, IsFormed, Relates}
use Rattle.wat_tied.proofs.Keys as keys

-- the law's state with a row given anew, and the connection's changes that stand and locks as they are then
abbrev pub row_given : law.State sql → ℕ → RowName → Option Row → List (law.Standing sql) → List (law.Lock sql) → law.State sql
row_given s c r after standing wants = record {
  scheme = s.scheme;
  base = s.base;
  now = set_row sql s.now r after;
  conns = law.set_conn sql s.conns c (law.grown sql s c (Did r (s.now r) after ∷ (s.conns c).log) standing wants);
  history = s.history;
}

module _ (cat : Catalog) (l : Listing) (ch : Change) (f : IsFormed cat ch) (listing : listing_at cat (changed_table ch) ≡ Some l) (c : ℕ) (s : law.State sql) (scheme : s.scheme ≡ scheme_of cat) (before : s.now (row_changed cat ch) ≡ row_before ch) where
  abbrev r : RowName
  r = row_changed cat ch

  abbrev at_index : ℕ → List VacantKey
  at_index index = noted c (index_in ch index) (left_key l index (row_before ch) (row_after ch))

  -- the keys that the row leaves are noted
  keys_noted : (i : IndexName) (x : List Value) → key_at sql s.scheme i r (s.now r) ≡ Some x → (key_at sql s.scheme i r (row_after ch) ≡ Some x → ⊥) → Has (record { conn = c; index = i; key = x }) (left_by cat c ch)
  keys_noted i x h off =
      let was : key_at sql (scheme_of cat) i r (row_before ch) ≡ Some x = subst (λ (g : Scheme sql). key_at sql g i r (row_before ch) ≡ Some x) scheme (ap (key_at sql s.scheme i r) (sym before) ∙ h) in
      let gone : key_at sql (scheme_of cat) i r (row_after ch) ≡ Some x → ⊥ = λ e. off (subst (λ (g : Scheme sql). key_at sql g i r (row_after ch) ≡ Some x) (sym scheme) e) in
      let o = keys.left_some cat l ch listing (row_before ch) (row_after ch) (keys.key_after cat l ch listing f.after) i x was gone in
      let one : Has (record { conn = c; index = i; key = x }) (at_index i.index) =
      subst (λ z. Has (record { conn = c; index = i; key = x }) (noted c (index_in ch i.index) z)) (sym o.leaves)
      (inl (λ j. record { conn = c; index = record { table = (sym o.table) j; index = i.index }; key = x })) in
      subst (λ z. Has (record { conn = c; index = i; key = x }) (left_in c ch z)) (sym listing)
      (flat_map_has at_index (record { conn = c; index = i; key = x }) i.index (index_numbers l.indexes) (keys.numbered l i.index o.indexed) one)

  one_note : (i : IndexName) (o : Option (List Value)) (v : VacantKey) → Has v (noted c i o) → (key : List Value) × (o ≡ Some key) × (record { conn = c; index = i; key = key } ≡ v)
  one_note i None v h = absurd h
  one_note i (Some key) v (inl h) = (key, refl, h)
  one_note i (Some key) v (inr h) = absurd h

  -- and nothing else
  only_noted : (v : VacantKey) → Has v (left_by cat c ch) → (v.conn ≡ c) × (key_at sql s.scheme v.index r (s.now r) ≡ Some v.key)
  only_noted v h =
      let there : Has v (left_in c ch (Some l)) = subst (λ z. Has v (left_in c ch z)) listing h in
      let a = has_flat_map at_index v (index_numbers l.indexes) there in
      let o = one_note (index_in ch a.0) (left_key l a.0 (row_before ch) (row_after ch)) v a.2 in
      let is : key_at sql (scheme_of cat) (index_in ch a.0) r (row_before ch) ≡ Some o.0 =
      keys.left_from cat l ch listing (row_before ch) (row_after ch) (keys.key_before cat l ch listing) a.0 (keys.is_numbered l a.0 a.1) o.0 o.1 in
      let this : key_at sql s.scheme (index_in ch a.0) r (s.now r) ≡ Some o.0 =
      ap (key_at sql s.scheme (index_in ch a.0) r) before ∙ subst (λ (g : Scheme sql). key_at sql g (index_in ch a.0) r (row_before ch) ≡ Some o.0) (sym scheme) is in
      (sym (ap (λ (z : VacantKey). z.conn) o.2), subst (λ (z : VacantKey). key_at sql s.scheme z.index r (s.now r) ≡ Some z.key) o.2 this)

  pub adds_left : (list : List VacantKey) → vacancy.AddsLeft sql s c r (row_after ch) (map left_of list) (map left_of (list ++ left_by cat c ch))
  adds_left list = record {
    keep = λ v h. let o = has_map left_of v list h in subst (λ z. Has z (map left_of (list ++ left_by cat c ch))) o.2 (map_has left_of o.0 (list ++ left_by cat c ch) (has_left o.0 list (left_by cat c ch) o.1));
    leaves = λ i x h off. map_has left_of (record { conn = c; index = i; key = x }) (list ++ left_by cat c ch) (has_right (record { conn = c; index = i; key = x }) list (left_by cat c ch) (keys_noted i x h off));
    no_more = λ v h.
        let o = has_map left_of v (list ++ left_by cat c ch) h in
        ⊎_elim
        (λ (m : Has o.0 list). inl (subst (λ z. Has z (map left_of list)) o.2 (map_has left_of o.0 list m)))
        (λ (m : Has o.0 (left_by cat c ch)). inr (subst (λ (z : vacancy.VacantKey sql). (z.by ≡ c) × (key_at sql s.scheme z.index r (s.now r) ≡ Some z.key)) o.2 (only_noted o.0 m)))
        (has_cases o.0 list (left_by cat c ch) o.1);
  }

-- The core after a change, with whatever locks, is related to the law after it, and its schema is the same.
pub moved : (e : CoreState) (s : law.State sql) → Relates e s → (c : ℕ) (ch : Change) → IsFormed (schema_of e) ch → s.now (row_changed (schema_of e) ch) ≡ row_before ch
    → ((d : ℕ) (v : Option Row) → Version sql (row_changed (schema_of e) ch) v (s.conns d).log → d ≡ c) → (standing : List (law.Standing sql)) (wants : List (law.Lock sql)) (held : List Held)
    → AreHeld (row_given s c (row_changed (schema_of e) ch) (row_after ch) standing wants) held
    → (after : CoreState) → after.now ≡ after_change e.now ch → after.committed ≡ e.committed → after.vacant ≡ e.vacant ++ left_by (schema_of e) c ch → after.held ≡ held
    → Relates after (row_given s c (row_changed (schema_of e) ch) (row_after ch) standing wants) × (schema_of after ≡ schema_of e)
moved e s k c ch f before sole standing wants held are after now committed left holds =
    let at = keys.formed_listing (schema_of e) ch f.after in
    let r : RowName = row_changed (schema_of e) ch in
    let a : AppliedOne (schema_of e) s.now e.now ch = apply_one (schema_of e) s.now e.now k.now ch f.after before in
    let is : after.now ≡ a.after = now ∙ ap (λ o. unwrap_or o e.now) a.applies in
    let of : IsOf (schema_of e) (set_row sql s.now r (row_after ch)) after.now = subst (IsOf (schema_of e) (set_row sql s.now r (row_after ch))) (sym is) a.is in
    let same : schema_of after ≡ schema_of e = of.schema in (
      record {
        scheme = k.scheme ∙ ap scheme_of (sym same);
        now = subst (λ z. IsOf z (set_row sql s.now r (row_after ch)) after.now) (sym same) of;
        base = subst (λ z. IsOf z s.base after.committed) (sym same) (subst (IsOf (schema_of e) s.base) (sym committed) k.base);
        locks = subst (AreHeld (row_given s c r (row_after ch) standing wants)) (sym holds) are;
        vacant = subst (λ z. vacancy.IsVacant sql (row_given s c r (row_after ch) standing wants) (map left_of z)) (sym left)
            (change_vacant sql s c r (row_after ch) standing wants (map left_of e.vacant) (map left_of (e.vacant ++ left_by (schema_of e) c ch)) k.vacant (adds_left (schema_of e) at.0 ch f at.1 c s k.scheme before e.vacant) sole);
      },
      same,
    )
