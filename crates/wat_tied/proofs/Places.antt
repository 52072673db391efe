-- The positions of the core are those of the law of isolation, and what a scan finds in the one it finds in the other.
use Rattle.std.proofs.Common.{◌≡◌, ℕ, suc, Bool, true, false, not, ◌||◌, List, [], ◌∷◌, map, length, ◌⊎◌, Option, Some, None, refl, sym, ap, ◌∙◌, subst, inl, inr, ⊎_elim}
use Rattle.std.proofs.lemmas.Bool.{both_ways}
use Rattle.std.specs.Ordering.{is_gt}
use Rattle.wat_list.specs.Has.{Has}
use Rattle.wat_list.proofs.Members.{has_map, map_has}
use Rattle.wat_value.specs.declared.value.Value.{Value}
use Rattle.wat_value.specs.declared.bound.Bound.{Bound}
use Rattle.wat_value.specs.declared.bound.Bound.TheVariants.{Excluding}
use Rattle.wat_value.specs.declared.place.Place.TheVariants.{At}
use Rattle.wat_value.specs.Bounds.{is_above, is_below}
use Rattle.wat_value.specs.Fits.{values_in}
use Rattle.wat_value.specs.Indexes.{index_key, key_columns}
use Rattle.wat_value.specs.Order.{key_cmp}
use Rattle.wat_value.specs.OrderLaws.{key_cmp_total}
use Rattle.wat_value.specs.Changes.{RowName}
use Rattle.wat_schema.specs.Catalog.{Catalog, Listing, listing_at}
use Rattle.wat_schema.specs.Tables.{Row}
use Rattle.wat_isolation.specs.Rows.{Scheme, key_at, IsLive, Lookup, IsCut, upto}
use Rattle.wat_isolation.specs.Logs.{Version}
use Rattle.wat_isolation.specs.Machine as law
use Rattle.wat_isolation.specs.Naming.{scheme_of, key_in, KeyOf, key_parts}
use Rattle.wat_isolation.specs.Sql.{sql, IndexName, less_key, key_order}
use Rattle.wat_isolation.specs.Vacant as vacancy
use Rattle.wat_isolation.proofs.Vacant.{pos_to_live, pos_from_live}
use Rattle.wat_index.proofs.Cuts.{before_bound, within_bound, behind, reversed_lt}
use Rattle.wat_protocol.specs.Locked.{place_of}
use Rattle.wat_scans.specs.declared.scan.Scan.{Scan}
use Rattle.wat_scans.specs.Look.{look}
use Rattle.wat_scans.specs.Recorded.{cut_below, cut_within, listed}
use Rattle.wat_scans.specs.Scans.{is_inside}
use Rattle.wat_scans.specs.Sources.{IsRowAt}
use Rattle.wat_steps.specs.State.{VacantKey, CoreState, schema_of, vacant_keys, IsPosition, IsFirstFrom}
use Rattle.wat_tied.specs.Tied.{left_of, Relates}

pub not_false : (b : Bool) → not b ≡ false → b ≡ true
not_false true e = refl
not_false false e = sym e

pub not_true : (b : Bool) → not b ≡ true → b ≡ false
not_true true e = sym e
not_true false e = refl

neither_first : (x y : Bool) → (x || y) ≡ false → x ≡ false
neither_first true y h = h
neither_first false y h = refl

pub or_cases : (x y : Bool) → (x || y) ≡ true → (x ≡ true) ⊎ (y ≡ true)
or_cases true y h = inl refl
or_cases false y h = inr h

or_right : (x y : Bool) → y ≡ true → (x || y) ≡ true
or_right true y e = refl
or_right false y e = e

-- ---- cuts

pub is_cut_below : (b : Bound) → IsCut sql (cut_below b)
is_cut_below b x y l h = ap not (before_bound b x y l (not_true (is_above b y) h))

pub is_cut_within : (scan : Scan) → IsCut sql (cut_within scan)
is_cut_within scan x y l h = ⊎_elim
    (λ (a : cut_below scan.from y ≡ true). ap (λ z. z || is_below scan.interval.upper x) (is_cut_below scan.from x y l a))
    (λ (a : is_below scan.interval.upper y ≡ true). or_right (cut_below scan.from x) (is_below scan.interval.upper x) (within_bound scan.interval.upper x y l a))
    (or_cases (cut_below scan.from y) (is_below scan.interval.upper y) h)

-- ---- widths

pub values_long : (row : List Value) (columns : List ℕ) → length (values_in row columns) ≡ length columns
values_long row [] = refl
values_long row (n ∷ columns) = ap (λ z. suc z) (values_long row columns)

pub key_long : (c : Catalog) (i : IndexName) (r : RowName) (row : Row) (x : List Value) (l : Listing) → listing_at c i.table ≡ Some l → key_in c i r row ≡ Some x → length x ≡ length (key_columns l.def l.indexes i.index)
key_long c i r row x l at h =
    let k : KeyOf c i r row x = key_parts c i r row x h in
    let same : Some k.listing ≡ Some l = sym k.stands ∙ at in
    let is : k.listing ≡ l = cc in
    ap (λ z. length z) (sym k.key) ∙ (ap (λ (z : Listing). length (index_key z.def z.indexes i.index row)) is ∙ values_long row (key_columns l.def l.indexes i.index))

-- behind a key, as the core and as the law tells it
pub cut_is : (x y : List Value) → length y ≡ length x → upto sql x y ≡ not (is_above (Excluding x) y)
cut_is x y long = ap not (sym (behind x y long ∙ (ap is_gt (key_cmp_total.antisymm y x) ∙ reversed_lt (key_cmp x y))))

-- ---- positions

module _ (e : CoreState) (s : law.State sql) (k : Relates e s) where
  -- what stands in the law is a row now
  stands_to : (i : IndexName) (x : List Value) → IsLive sql s.scheme i s.now x → (row : Row) × Lookup sql (scheme_of (schema_of e)) i (look e.now) x row
  stands_to i x h = by (s.now (s.scheme.row_of i x)) refl h
    where
      by : (o : Option Row) → s.now (s.scheme.row_of i x) ≡ o → key_at sql s.scheme i (s.scheme.row_of i x) o ≡ Some x → (row : Row) × Lookup sql (scheme_of (schema_of e)) i (look e.now) x row
      by None at h = absurd (cc)
      by (Some row) at h = (row, subst (λ (g : Scheme sql). (look e.now (g.row_of i x) ≡ Some row) × (g.key i (g.row_of i x) row ≡ Some x)) k.scheme (k.now.rows (s.scheme.row_of i x) ∙ at, h))

  looked_from : (i : IndexName) (x : List Value) (row : Row) → Lookup sql (scheme_of (schema_of e)) i (look e.now) x row → Lookup sql s.scheme i s.now x row
  looked_from i x row h =
      let here : (look e.now (s.scheme.row_of i x) ≡ Some row) × (s.scheme.key i (s.scheme.row_of i x) row ≡ Some x) =
      subst (λ (g : Scheme sql). (look e.now (g.row_of i x) ≡ Some row) × (g.key i (g.row_of i x) row ≡ Some x)) (sym k.scheme) h in
      (sym (k.now.rows (s.scheme.row_of i x)) ∙ here.0, here.1)

  looked_stands : (i : IndexName) (x : List Value) (row : Row) → Lookup sql s.scheme i s.now x row → IsLive sql s.scheme i s.now x
  looked_stands i x row h = ap (key_at sql s.scheme i (s.scheme.row_of i x)) h.0 ∙ h.1

  pub position_to : (i : IndexName) (x : List Value) → law.IsPos sql s i x → IsPosition e i x
  position_to i x h = ⊎_elim
      (λ (a : IsLive sql s.scheme i s.now x). inl (stands_to i x a))
      (λ (a : (c : ℕ) × Has (record { by = c; index = i; key = x }) (map left_of e.vacant)).
      let r = has_map left_of (record { by = a.0; index = i; key = x }) e.vacant a.1 in
      inr (subst (λ (z : IndexName × List Value). Has z (vacant_keys e)) (λ j. ((ap (λ (z : vacancy.VacantKey sql). z.index) r.2) j, (ap (λ (z : vacancy.VacantKey sql). z.key) r.2) j)) (map_has (λ (l : VacantKey). (l.index, l.key)) r.0 e.vacant r.1)))
      (pos_to_live sql s (map left_of e.vacant) k.vacant i x h)

  pub position_from : (i : IndexName) (x : List Value) → IsPosition e i x → law.IsPos sql s i x
  position_from i x h = pos_from_live sql s (map left_of e.vacant) k.vacant i x (⊎_elim
      (λ (a : (row : Row) × Lookup sql (scheme_of (schema_of e)) i (look e.now) x row). inl (looked_stands i x a.0 (looked_from i x a.0 a.1)))
      (λ (a : Has (i, x) (vacant_keys e)).
      let r = has_map (λ (l : VacantKey). (l.index, l.key)) (i, x) e.vacant a in
      inr (
        r.0.conn,
        subst (λ (z : vacancy.VacantKey sql). Has z (map left_of e.vacant))
            (λ j. record { by = r.0.conn; index = (ap (λ (z : IndexName × List Value). z.0) r.2) j; key = (ap (λ (z : IndexName × List Value). z.1) r.2) j })
            (map_has left_of r.0 e.vacant r.1),
      ))
      h)

  -- a position has as many values as its index has columns
  pub position_long : (i : IndexName) (y : List Value) (l : Listing) → listing_at (schema_of e) i.table ≡ Some l → law.IsPos sql s i y → length y ≡ length (key_columns l.def l.indexes i.index)
  position_long i y l at h = ⊎_elim
      (λ (a : IsLive sql s.scheme i s.now y). of (s.now (s.scheme.row_of i y)) a)
      (λ (a : (c : ℕ) × (v : Option Row) × Version sql (s.scheme.row_of i y) v (s.conns c).log × (key_at sql s.scheme i (s.scheme.row_of i y) v ≡ Some y)). of a.1 a.3)
      h
    where
      of : (o : Option Row) → key_at sql s.scheme i (s.scheme.row_of i y) o ≡ Some y → length y ≡ length (key_columns l.def l.indexes i.index)
      of None a = absurd (cc)
      of (Some row) a = key_long (schema_of e) i (s.scheme.row_of i y) row y l at (subst (λ (g : Scheme sql). g.key i (s.scheme.row_of i y) row ≡ Some y) k.scheme a)

  pub taken_is : (i : IndexName) (key : List Value) (row : Option Row) → IsRowAt (schema_of e) (look e.now) i (At key) row → law.Takes sql s.scheme i s.now key (listed key row)
  taken_is i key None h = inl (refl, λ a. let r = stands_to i key a in h r.0 r.1)
  taken_is i key (Some row) h = inr (row, looked_from i key row h, refl)

  -- ---- the first position past a cut

  pub first_within : (i : IndexName) (scan : Scan) (q : law.Place sql) → IsFirstFrom e i scan.from (place_of q) → is_inside scan (place_of q) ≡ false → law.IsFirst sql s i (cut_within scan) q
  first_within i scan (law.Place.At p) first out = (
    ap (λ z. z || is_below scan.interval.upper p) (ap not first.0) ∙ out,
    position_from i p first.1,
    λ y past less pos. first.2 y (not_false (is_above scan.from y) (neither_first (cut_below scan.from y) (is_below scan.interval.upper y) past)) less (position_to i y pos),
  )
  first_within i scan law.Place.End first out = λ y past pos. first y (not_false (is_above scan.from y) (neither_first (cut_below scan.from y) (is_below scan.interval.upper y) past)) (position_to i y pos)

  pub none_left : (i : IndexName) (scan : Scan) (q : law.Place sql) → IsFirstFrom e i scan.from (place_of q) → is_inside scan (place_of q) ≡ false
      → (y : List Value) → is_above scan.from y ≡ true → is_below scan.interval.upper y ≡ true → law.IsPos sql s i y → ⊥
  none_left i scan (law.Place.At p) first out y up low pos = ⊎_elim
      (λ (same : y ≡ p). both_ways (is_below scan.interval.upper p) out (subst (λ z. is_below scan.interval.upper z ≡ true) same low))
      (λ d. ⊎_elim
      (λ (l : less_key y p ≡ true). first.2 y up l (position_to i y pos))
      (λ (l : less_key p y ≡ true). both_ways (is_below scan.interval.upper p) out (within_bound scan.interval.upper p y l low))
      d)
      (key_order y p)
  none_left i scan law.Place.End first out y up low pos = first y up (position_to i y pos)

  pub first_past : (i : IndexName) (l : Listing) → listing_at (schema_of e) i.table ≡ Some l → (x : List Value) → length x ≡ length (key_columns l.def l.indexes i.index) → (q : law.Place sql) → IsFirstFrom e i (Excluding x) (place_of q) → law.IsFirst sql s i (upto sql x) q
  first_past i l at x long (law.Place.At p) first =
      let pos : law.IsPos sql s i p = position_from i p first.1 in (
        cut_is x p (position_long i p l at pos ∙ sym long) ∙ ap not first.0,
        pos,
        λ y past less h. first.2 y (not_false (is_above (Excluding x) y) (sym (cut_is x y (position_long i y l at h ∙ sym long)) ∙ past)) less (position_to i y h),
      )
  first_past i l at x long law.Place.End first = λ y past h. first y (not_false (is_above (Excluding x) y) (sym (cut_is x y (position_long i y l at h ∙ sym long)) ∙ past)) (position_to i y h)
