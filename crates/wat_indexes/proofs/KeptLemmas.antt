-- Indexes that are kept have the keys of the rows.
use Rattle.std.proofs.Common.{◌≡◌, ◌≢◌, ℕ, ◌==◌, Bool, true, false, ◌&&◌, if◌then◌else◌, List, [], ◌∷◌, map, ◌⊎◌, inl, inr, ⊎_elim, Option, Some, None, refl, sym, ap, ◌∙◌, subst, eqb-true, eq-eqb}
use Rattle.std.specs.List.{find}
use Rattle.std.specs.Option.{option_map}
use Rattle.std.proofs.lemmas.Bool.{and_parts, and_from, both_ways}
use Rattle.wat_list.specs.Has.{Has}
use Rattle.wat_list.specs.Rising.{rising}
use Rattle.wat_value.specs.declared.value.Value.{Value}
use Rattle.wat_value.specs.declared.bound.Bound.{Bound}
use Rattle.wat_value.specs.declared.place.Place.{Place}
use Rattle.wat_value.specs.declared.place.Place.TheVariants.{At, End}
use Rattle.wat_value.specs.Bounds.{IsFirstFrom, first_from, is_above}
use Rattle.wat_value.specs.Changes.{RowName}
use Rattle.wat_value.specs.Fits.{key_of, values_in}
use Rattle.wat_value.specs.Indexes.{index_key, key_columns}
use Rattle.wat_value.specs.Order.{key_cmp}
use Rattle.wat_value.proofs.FirstLemmas.{first_is}
use Rattle.wat_schema.specs.Catalog.{Catalog, Listing, listing_at}
use Rattle.wat_schema.specs.Tables.{Row}
use Rattle.wat_isolation.specs.Naming.{is_indexed, key_here, key_in, key_parts, owned, owner_in, same_key, same_key_self, scheme_of}
use Rattle.wat_isolation.specs.Rows.{Lookup, set_row}
use Rattle.wat_isolation.specs.Sql.{sql, IndexName, same_row}
use Rattle.wat_isolation.proofs.Basics.{put-same, put-other, row_same, cases_same}
use Rattle.wat_scans.specs.Look.{RowsFit}
use Rattle.wat_scans.specs.Sources.{IsPosition}
use Rattle.wat_visits.specs.Sourced.{Sourced, IsFirstIn}
use Rattle.wat_index.specs.KeySets.{Key, with_key, without_key}
use Rattle.wat_index.proofs.KeySetLemmas.{has_with, has_without, rising_with, rising_without}
use Rattle.wat_indexes.specs.Kept.{Kept, HasKeys, IsIndex, AreKept, is_of, kept_at, keys_of, key_left, key_entered, with_row_changed}

-- ---- the first position

-- a place that is first among some keys is first among the same ones
first_among : (P Q : Key → Type 0) → ((x : Key) → P x → Q x) → ((x : Key) → Q x → P x) → (bound : Bound) (place : Place) → IsFirstFrom P bound place → IsFirstFrom Q bound place
first_among P Q to from bound (At key) h = (h.0, to key h.1, λ other above less here. h.2 other above less (from other here))
first_among P Q to from bound End h = λ other above here. h other above (from other here)

-- a position where no key is vacant
position_is : (c : Catalog) (f : RowName → Option Row) (vacant : List (IndexName × Key)) (i : IndexName) (x : Key) → vacant ≡ [] → IsPosition c f vacant i x → (row : Row) × Lookup sql (scheme_of c) i f x row
position_is c f vacant i x none = ⊎_elim
    (λ (h : (row : Row) × Lookup sql (scheme_of c) i f x row). h)
    (λ (h : Has (i, x) vacant). absurd (subst (λ z. Has (i, x) z) none h))

pub first_in : (s : Sourced) (kept : List Kept) → AreKept s.schema s.rows kept → s.vacant ≡ [] → (i : IndexName) (from : Bound) → IsFirstIn s i from (first_from from (keys_of (kept_at kept i)))
first_in s kept are none i from = by (kept_at kept i) (are i)
  where
    by : (o : Option Kept) → IsIndex s.schema s.rows i o → IsFirstIn s i from (first_from from (keys_of o))
    by None off = λ other above here.
        let p = position_is s.schema s.rows s.vacant i other none here in
        let k = key_parts s.schema i (owner_in s.schema i other) p.0 other p.1.1 in
        off k.listing k.stands k.indexed
    by (Some k) has = first_among (λ x. Has x k.keys) (IsPosition s.schema s.rows s.vacant i)
        (λ x h. inl ((has.keys x).0 h))
        (λ x h. (has.keys x).1 (position_is s.schema s.rows s.vacant i x none h))
        from (first_from from k.keys) (first_is from k.keys has.in_order)

-- ---- a row that is changed

-- the index is the same one
kept_is : (i : IndexName) (table : ℕ) (before after : Option Row) (k : Kept) → is_of i (with_row_changed table before after k) ≡ is_of i k
kept_is i table before after k = by (table == k.table)
  where
    by : (b : Bool) → is_of i (if b then record k { keys = key_entered k.columns after (key_left k.columns before k.keys) } else k) ≡ is_of i k
    by true = refl
    by false = refl

at_changed : (i : IndexName) (table : ℕ) (before after : Option Row) (kept : List Kept) → kept_at (map (with_row_changed table before after) kept) i ≡ option_map (with_row_changed table before after) (kept_at kept i)
at_changed i table before after [] = refl
at_changed i table before after (k ∷ kept) =
    ap (λ b. if b then Some (with_row_changed table before after k) else kept_at (map (with_row_changed table before after) kept) i) (kept_is i table before after k)
    ∙ by (is_of i k) (at_changed i table before after kept)
  where
    by : (b : Bool) → kept_at (map (with_row_changed table before after) kept) i ≡ option_map (with_row_changed table before after) (kept_at kept i)
        → (if b then Some (with_row_changed table before after k) else kept_at (map (with_row_changed table before after) kept) i) ≡ option_map (with_row_changed table before after) (if b then Some k else kept_at kept i)
    by true rest = refl
    by false rest = rest

-- the key of a row in an index of its table
named_key : (c : Catalog) (i : IndexName) (name : RowName) (row : Row) (l : Listing) → listing_at c i.table ≡ Some l → i.table ≡ name.table → is_indexed l i.index ≡ true → key_of l.def row ≡ name.key → key_in c i name row ≡ Some (index_key l.def l.indexes i.index row)
unfolding key_in
named_key c i name row l at table indexed key =
    ap (key_here i name row) at
    ∙ ap (λ b. if b then Some (index_key l.def l.indexes i.index row) else None)
    (and_from (i.table == name.table) (is_indexed l i.index && same_key (key_of l.def row) name.key) (eq-eqb i.table name.table table)
    (and_from (is_indexed l i.index) (same_key (key_of l.def row) name.key) indexed (ap (λ k. same_key k name.key) key ∙ same_key_self name.key)))

owner_table : (c : Catalog) (i : IndexName) (x : Key) → (owner_in c i x).table ≡ i.table
unfolding owner_in
owner_table c i x = refl

module _ (c : Catalog) (f : RowName → Option Row) (name : RowName) (after : Option Row) (fit : RowsFit c f) (fit_after : RowsFit c (set_row sql f name after)) (i : IndexName) (k : Kept) (has : HasKeys c f i k) where
  abbrev then_ : RowName → Option Row
  then_ = set_row sql f name after

  abbrev Stands : Key → Type 0
  Stands x = (row : Row) × Lookup sql (scheme_of c) i then_ x row

  -- where the row is of another table, the rows at the keys are as they were
  module _ (other : name.table ≡ i.table → ⊥) where
    away : (x : Key) → owner_in c i x ≡ name → ⊥
    away x e = other (sym (ap (λ (r : RowName). r.table) e) ∙ owner_table c i x)

    same : (x : Key) → then_ (owner_in c i x) ≡ f (owner_in c i x)
    same x = put-other same_row (row_same sql) f name after (owner_in c i x) (away x)

    pub unchanged : HasKeys c then_ i k
    unchanged = record {
      listing = has.listing;
      stands = has.stands;
      indexed = has.indexed;
      columns = has.columns;
      in_order = has.in_order;
      keys = λ x. (
        (λ h. let s = (has.keys x).0 h in (s.0, (same x ∙ s.1.0, s.1.1))),
        (λ h. (has.keys x).1 (h.0, (sym (same x) ∙ h.1.0, h.1.1))),
      );
    }

  -- where it is of this one
  module _ (table : i.table ≡ name.table) where
    -- the key of the row that has this name
    key_is : (row : Row) → key_of has.listing.def row ≡ name.key → key_in c i name row ≡ Some (values_in row k.columns)
    key_is row primary = named_key c i name row has.listing has.stands table has.indexed primary ∙ ap (λ columns. Some (values_in row columns)) (sym has.columns)

    at_name : listing_at c name.table ≡ Some has.listing
    at_name = ap (listing_at c) (sym table) ∙ has.stands

    -- a key by which the row is found is its key
    found_key : (x : Key) (row : Row) → key_in c i (owner_in c i x) row ≡ Some x → x ≡ values_in row k.columns
    found_key x row h =
        let p = key_parts c i (owner_in c i x) row x h in
        let listing : p.listing ≡ has.listing = cc in
        sym p.key ∙ (ap (λ (l : Listing). index_key l.def l.indexes i.index row) listing ∙ ap (values_in row) (sym has.columns))

    -- the keys of the other rows
    abbrev Others : Key → Type 0
    Others x = Has x k.keys × (owner_in c i x ≡ name → ⊥)

    others_left : (before : Option Row) → f name ≡ before → (x : Key) → Has x (key_left k.columns before k.keys) → Others x
    others_left None is x h = (h, λ e. let s = (has.keys x).0 h in let no : ◌≡◌ {A = Option Row} None (Some s.0) = sym is ∙ (ap f (sym e) ∙ s.1.0) in cc)
    others_left (Some old) is x h =
        let p = (has_without (values_in old k.columns) x k.keys).0 h in (
          p.0,
          λ e.
              let s = (has.keys x).0 p.0 in
              let same : ◌≡◌ {A = Option Row} (Some old) (Some s.0) = sym is ∙ (ap f (sym e) ∙ s.1.0) in
              let row : s.0 ≡ old = cc in
              p.1 (found_key x s.0 s.1.1 ∙ ap (λ r. values_in r k.columns) row),
        )

    left_others : (before : Option Row) → f name ≡ before → (x : Key) → Others x → Has x (key_left k.columns before k.keys)
    left_others None is x h = h.0
    left_others (Some old) is x h = (has_without (values_in old k.columns) x k.keys).1 (
      h.0,
      λ e.
          h.1 (ap (owner_in c i) e ∙ owned c i name old (values_in old k.columns) (key_is old (fit name has.listing old at_name is).1)),
    )

    there : (o : Option Row) → after ≡ o → (x : Key) → Has x (key_entered k.columns o (key_left k.columns (f name) k.keys)) → Stands x
    there o is x h = entered o is h
      where
        kept : Has x (key_left k.columns (f name) k.keys) → Stands x
        kept m =
            let others = others_left (f name) refl x m in
            let s = (has.keys x).0 others.0 in
            (s.0, (put-other same_row (row_same sql) f name after (owner_in c i x) others.1 ∙ s.1.0, s.1.1))

        entered : (o : Option Row) → after ≡ o → Has x (key_entered k.columns o (key_left k.columns (f name) k.keys)) → Stands x
        entered None is m = kept m
        entered (Some new) is m = ⊎_elim
            (λ (e : x ≡ values_in new k.columns).
            let now : then_ name ≡ Some new = put-same same_row (row_same sql) f name after ∙ is in
            let key : key_in c i name new ≡ Some (values_in new k.columns) = key_is new (fit_after name has.listing new at_name now).1 in
            let owner : owner_in c i x ≡ name = ap (owner_in c i) e ∙ owned c i name new (values_in new k.columns) key in
            (new, (ap then_ owner ∙ now, ap (λ r. key_in c i r new) owner ∙ (key ∙ ap Some (sym e)))))
            (λ (n : Has x (key_left k.columns (f name) k.keys)). kept n)
            ((has_with (values_in new k.columns) x (key_left k.columns (f name) k.keys)).0 m)

    back : (x : Key) → Stands x → Has x (key_entered k.columns after (key_left k.columns (f name) k.keys))
    back x h = ⊎_elim at off (cases_same same_row (row_same sql) (owner_in c i x) name)
      where
        mine : (o : Option Row) → o ≡ Some h.0 → Has x (key_entered k.columns o (key_left k.columns (f name) k.keys))
        mine None e = cc
        mine (Some new) e =
            let row : h.0 ≡ new = cc in
            (has_with (values_in new k.columns) x (key_left k.columns (f name) k.keys)).1 (inl (found_key x h.0 h.1.1 ∙ ap (λ r. values_in r k.columns) row))

        at : owner_in c i x ≡ name → Has x (key_entered k.columns after (key_left k.columns (f name) k.keys))
        at e = mine after (sym (put-same same_row (row_same sql) f name after) ∙ (ap then_ (sym e) ∙ h.1.0))

        others : (o : Option Row) → Has x (key_left k.columns (f name) k.keys) → Has x (key_entered k.columns o (key_left k.columns (f name) k.keys))
        others None m = m
        others (Some new) m = (has_with (values_in new k.columns) x (key_left k.columns (f name) k.keys)).1 (inr m)

        off : (owner_in c i x ≡ name → ⊥) → Has x (key_entered k.columns after (key_left k.columns (f name) k.keys))
        off ne = others after (left_others (f name) refl x ((has.keys x).1 (h.0, (sym (put-other same_row (row_same sql) f name after (owner_in c i x) ne) ∙ h.1.0, h.1.1)), ne))

    left_order : (before : Option Row) → rising key_cmp (key_left k.columns before k.keys) ≡ true
    left_order None = has.in_order
    left_order (Some old) = rising_without (values_in old k.columns) k.keys has.in_order

    order : (o : Option Row) → rising key_cmp (key_entered k.columns o (key_left k.columns (f name) k.keys)) ≡ true
    order None = left_order (f name)
    order (Some new) = rising_with (values_in new k.columns) (key_left k.columns (f name) k.keys) (left_order (f name))

    pub changed : HasKeys c then_ i (record k { keys = key_entered k.columns after (key_left k.columns (f name) k.keys) })
    changed = record {
      listing = has.listing;
      stands = has.stands;
      indexed = has.indexed;
      columns = has.columns;
      in_order = order after;
      keys = λ x. (there after refl x, back x);
    }

  pub row_changed : i.table ≡ k.table → HasKeys c then_ i (with_row_changed name.table (f name) after k)
  row_changed table = by (name.table == k.table) refl
    where
      by : (b : Bool) → (name.table == k.table) ≡ b → HasKeys c then_ i (if b then record k { keys = key_entered k.columns after (key_left k.columns (f name) k.keys) } else k)
      by true e = changed (table ∙ sym (eqb-true name.table k.table e))
      by false e = unchanged (λ s. both_ways (name.table == k.table) e (eq-eqb name.table k.table (s ∙ table)))

found_of : (kept : List Kept) (i : IndexName) (k : Kept) → kept_at kept i ≡ Some k → is_of i k ≡ true
found_of [] i k e = cc
found_of (x ∷ kept) i k e = by (is_of i x) refl e (found_of kept i k)
  where
    by : (b : Bool) → is_of i x ≡ b → (if b then Some x else kept_at kept i) ≡ Some k → (kept_at kept i ≡ Some k → is_of i k ≡ true) → is_of i k ≡ true
    by true on h rest = let same : x ≡ k = cc in ap (is_of i) (sym same) ∙ on
    by false off h rest = rest h

pub kept_after : (c : Catalog) (f : RowName → Option Row) (kept : List Kept) → AreKept c f kept → (name : RowName) (after : Option Row) → RowsFit c f → RowsFit c (set_row sql f name after)
    → AreKept c (set_row sql f name after) (map (with_row_changed name.table (f name) after) kept)
kept_after c f kept are name after fit fit_after i = subst (IsIndex c (set_row sql f name after) i) (sym (at_changed i name.table (f name) after kept)) (by (kept_at kept i) refl (are i))
  where
    by : (o : Option Kept) → kept_at kept i ≡ o → IsIndex c f i o → IsIndex c (set_row sql f name after) i (option_map (with_row_changed name.table (f name) after) o)
    by None e off = off
    by (Some k) e has = row_changed c f name after fit fit_after i k has (eqb-true i.table k.table (and_parts (i.table == k.table) (i.index == k.index) (found_of kept i k e)).0)
