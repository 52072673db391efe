-- What a change of a row that applies makes of all tables.
use Rattle.std.proofs.Common.{◌≡◌, ◌≢◌, ℕ, ◌==◌, Bool, true, false, cond, ◌&&◌, if◌then◌else◌, List, map, Option, Some, None, refl, sym, ap, ◌∙◌, inl, inr}
use Rattle.std.specs.Option.{option_map, option_and_then}
use Rattle.std.proofs.lemmas.Bool.{and_parts, eq-eqb, eqb-true, cases_Bool}
use Rattle.wat_value.specs.declared.value.Value.{Value}
use Rattle.wat_value.specs.declared.definition.TableDef.{TableDef}
use Rattle.wat_value.specs.declared.change.Change.{Change}
use Rattle.wat_value.specs.declared.change.Change.TheVariants.{Insert, Update, Delete}
use Rattle.wat_value.specs.Fits.{fits, key_of}
use Rattle.wat_schema.specs.Catalog.{Catalog, def_at}
use Rattle.wat_value.specs.Changes.{changed_table, row_after, row_before}
use Rattle.wat_schema.specs.Changes.{are_of_one_row, changed_key, have_one_key}
use Rattle.wat_schema.specs.Tables.{Table, Tables, row_eq, row_at, row_with, is_table, are_tables, listing_of, catalog_of, table_at, with_table, on_table, apply_change, inverse}
use Rattle.wat_schema.proofs.OneTable.{one, one_keeps, asks, Sets, sets, Swapped, swap_here}
use Rattle.wat_schema.proofs.Placed.{Changed, changed, Good, good_found, Parts, parts_of, found_placed, found_other, listed, listings_stay, made_on, placed_apart, placed_twice, table_placed}
use Rattle.wat_schema.proofs.TableLaws.{equal}

as_one : (change : Change) (t : Tables) → apply_change change t ≡ on_table (changed_table change) (one change) t
as_one (Insert table row) t = refl
as_one (Update table before after) t = refl
as_one (Delete table before) t = refl

-- a change of a row leaves the schema
pub schema_stays : (change : Change) (t u : Tables) → are_tables t ≡ true → apply_change change t ≡ Some u → catalog_of u ≡ catalog_of t
schema_stays change t u ok h =
    let n = changed_table change in
    let parts = parts_of t ok in
    let p = changed n (one change) t u (sym (as_one change t) ∙ h) in
    let good = good_found n p.from t.tables parts.tables p.found in
    let s = sets change p.from p.to good.ok (one_keeps change p.from p.to good.ok p.made) p.made in
    let same : listing_of p.to ≡ listing_of p.from = (λ i. record { def = s.def i; indexes = s.indexes i }) in
    ap catalog_of (sym p.is) ∙ ap (λ ls. record { tables = ls; next = t.next }) (listings_stay n p.from p.to 0 t.next t.tables parts.order p.found same)

-- the definition of the table that a change finds
def_found : (n : ℕ) (x : Table) (t : Tables) → table_at t n ≡ Some x → def_at (catalog_of t) n ≡ Some x.def
def_found n x t found = ap (option_map (λ l. l.def)) (listed n x t.tables found)

-- the row that a change is of stands before it as it says
pub stood_before : (change : Change) (t u : Tables) (def : TableDef) → are_tables t ≡ true → apply_change change t ≡ Some u → def_at (catalog_of t) (changed_table change) ≡ Some def
    → row_at t (changed_table change) (changed_key def change) ≡ row_before change
stood_before change t u def ok h at =
    let n = changed_table change in
    let parts = parts_of t ok in
    let p = changed n (one change) t u (sym (as_one change t) ∙ h) in
    let good = good_found n p.from t.tables parts.tables p.found in
    let same : Some p.from.def ≡ Some def = sym (def_found n p.from t p.found) ∙ at in
    let is : p.from.def ≡ def = cc in
    ap (option_and_then (λ x. row_with x (changed_key def change))) p.found ∙ ap (λ d. row_with p.from (changed_key d change)) (sym is) ∙ (asks change p.from p.to good.ok p.made).there

-- and every other row stays
pub changes_one_row : (change : Change) (t u : Tables) (def : TableDef) → are_tables t ≡ true → apply_change change t ≡ Some u → def_at (catalog_of t) (changed_table change) ≡ Some def
    → (m : ℕ) (key : List Value) → row_at u m key ≡ (if (changed_table change == m) && row_eq (changed_key def change) key then row_after change else row_at t m key)
changes_one_row change t u def ok h at m key =
    ap (λ s. row_at s m key) (sym p.is) ∙ ap (option_and_then (λ x. row_with x key)) (table_placed n p.from p.to t m named p.found) ∙ by (n == m) refl
  where
    n : ℕ
    n = changed_table change

    parts : Parts t
    parts = parts_of t ok

    p : Changed n (one change) t u
    p = changed n (one change) t u (sym (as_one change t) ∙ h)

    good : Good n p.from
    good = good_found n p.from t.tables parts.tables p.found

    s : Sets change p.from p.to
    s = sets change p.from p.to good.ok (one_keeps change p.from p.to good.ok p.made) p.made

    named : n ≡ p.to.def.number
    named = good.named ∙ ap (λ d. d.number) (sym s.def)

    same : Some p.from.def ≡ Some def
    same = sym (def_found n p.from t p.found) ∙ at

    is : p.from.def ≡ def
    is = let e = same in cc

    by : (b : Bool) → (n == m) ≡ b
        → option_and_then (λ x. row_with x key) (if b then Some p.to else table_at t m) ≡ (if b && row_eq (changed_key def change) key then row_after change else row_at t m key)
    by false other = refl
    by true here =
        s.at_keys key ∙ ap (λ d. cond (row_eq (changed_key d change) key) (row_after change) (row_with p.from key)) is
        ∙ ap (λ o. cond (row_eq (changed_key def change) key) (row_after change) o) (sym (ap (option_and_then (λ x. row_with x key)) (ap (table_at t) (sym (eqb-true n m here)) ∙ p.found)))

record Either (a b : Change) (t v : Tables) : Type 0 where
  between : Tables
  first : apply_change b t ≡ Some between
  second : apply_change a between ≡ Some v

module _ (a b : Change) (t u v : Tables) (ok : are_tables t ≡ true) (p : Changed (changed_table a) (one a) t u) (q : Changed (changed_table b) (one b) u v) where
  parts : Parts t
  parts = parts_of t ok

  good_a : Good (changed_table a) p.from
  good_a = good_found (changed_table a) p.from t.tables parts.tables p.found

  to_a : Sets a p.from p.to
  to_a = sets a p.from p.to good_a.ok (one_keeps a p.from p.to good_a.ok p.made) p.made

  named_a : changed_table a ≡ p.to.def.number
  named_a = good_a.named ∙ ap (λ d. d.number) (sym to_a.def)

  in_other_tables : changed_table a ≢ changed_table b → Either a b t v
  in_other_tables apart = record { between = with_table (changed_table b) t q.to; first = first; second = second }
    where
      there : table_at t (changed_table b) ≡ Some q.from
      there = sym (found_other (changed_table a) (changed_table b) p.to t.tables named_a apart) ∙ ap (λ s. table_at s (changed_table b)) p.is ∙ q.found

      good_b : Good (changed_table b) q.from
      good_b = good_found (changed_table b) q.from t.tables parts.tables there

      to_b : Sets b q.from q.to
      to_b = sets b q.from q.to good_b.ok (one_keeps b q.from q.to good_b.ok q.made) q.made

      named_b : changed_table b ≡ q.to.def.number
      named_b = good_b.named ∙ ap (λ d. d.number) (sym to_b.def)

      first : apply_change b t ≡ Some (with_table (changed_table b) t q.to)
      first = as_one b t ∙ made_on (changed_table b) (one b) t q.from q.to there q.made

      still : table_at (with_table (changed_table b) t q.to) (changed_table a) ≡ Some p.from
      still = found_other (changed_table b) (changed_table a) q.to t.tables named_b (λ e. apart (sym e)) ∙ p.found

      same : with_table (changed_table a) (with_table (changed_table b) t q.to) p.to ≡ v
      same = ap (λ ts. record { tables = ts; next = t.next }) (placed_apart (changed_table a) (changed_table b) p.to q.to t.tables named_a named_b apart)
          ∙ ap (λ s. with_table (changed_table b) s q.to) p.is ∙ q.is

      second : apply_change a (with_table (changed_table b) t q.to) ≡ Some v
      second = as_one a (with_table (changed_table b) t q.to) ∙ made_on (changed_table a) (one a) (with_table (changed_table b) t q.to) p.from p.to still p.made ∙ ap Some same

  in_one_table : changed_table a ≡ changed_table b → row_eq (changed_key p.from.def a) (changed_key p.from.def b) ≡ false → Either a b t v
  in_one_table one_table apart = record { between = with_table (changed_table b) t s.between; first = first; second = second }
    where
      at_b : table_at u (changed_table b) ≡ Some p.to
      at_b = ap (table_at u) (sym one_table) ∙ ap (λ s. table_at s (changed_table a)) (sym p.is) ∙ found_placed (changed_table a) p.to p.from t.tables named_a p.found

      from_is : q.from ≡ p.to
      from_is = let same : Some q.from ≡ Some p.to = sym q.found ∙ at_b in cc

      s : Swapped a b p.from q.to
      s = swap_here a b p.from p.to q.to good_a.ok apart p.made (ap (one b) (sym from_is) ∙ q.made)

      there : table_at t (changed_table b) ≡ Some p.from
      there = ap (table_at t) (sym one_table) ∙ p.found

      to_s : Sets b p.from s.between
      to_s = sets b p.from s.between good_a.ok (one_keeps b p.from s.between good_a.ok s.first) s.first

      named_s : changed_table b ≡ s.between.def.number
      named_s = sym one_table ∙ good_a.named ∙ ap (λ d. d.number) (sym to_s.def)

      first : apply_change b t ≡ Some (with_table (changed_table b) t s.between)
      first = as_one b t ∙ made_on (changed_table b) (one b) t p.from s.between there s.first

      at_a : table_at (with_table (changed_table b) t s.between) (changed_table a) ≡ Some s.between
      at_a = ap (table_at (with_table (changed_table b) t s.between)) one_table ∙ found_placed (changed_table b) s.between p.from t.tables named_s there

      same : with_table (changed_table a) (with_table (changed_table b) t s.between) q.to ≡ v
      same =
          ap (λ n. with_table n (with_table (changed_table b) t s.between) q.to) one_table
          ∙ ap (λ ts. record { tables = ts; next = t.next }) (placed_twice (changed_table b) s.between q.to t.tables named_s)
          ∙ sym (ap (λ ts. record { tables = ts; next = t.next }) (placed_twice (changed_table b) p.to q.to t.tables (sym one_table ∙ named_a)))
          ∙ ap (λ n. with_table (changed_table b) (with_table n t p.to) q.to) (sym one_table) ∙ ap (λ s. with_table (changed_table b) s q.to) p.is ∙ q.is

      second : apply_change a (with_table (changed_table b) t s.between) ≡ Some v
      second = as_one a (with_table (changed_table b) t s.between) ∙ made_on (changed_table a) (one a) (with_table (changed_table b) t s.between) s.between q.to at_a s.second ∙ ap Some same

  either : (c : Catalog) → catalog_of t ≡ c → are_of_one_row c a b ≡ false → Either a b t v
  either c is apart = elim (cases_Bool (changed_table a == changed_table b)) [
    | inl one_table ↦
        let at : def_at c (changed_table a) ≡ Some p.from.def = ap (λ d. def_at d (changed_table a)) (sym is) ∙ def_found (changed_table a) p.from t p.found in
        let keys : have_one_key (def_at c (changed_table a)) a b ≡ false = sym (ap (λ v. v && have_one_key (def_at c (changed_table a)) a b) one_table) ∙ apart in
        in_one_table (eqb-true (changed_table a) (changed_table b) one_table) (ap (λ d. have_one_key d a b) (sym at) ∙ keys)
    | inr other ↦ in_other_tables (λ e. let no : true ≡ false = sym (eq-eqb (changed_table a) (changed_table b) e) ∙ other in cc)
  ]

pub swap : (c : Catalog) (a b : Change) (t u v : Tables) → are_of_one_row c a b ≡ false → (are_tables t ≡ true) × (catalog_of t ≡ c) → apply_change a t ≡ Some u → apply_change b u ≡ Some v
    → (w : Tables) × (apply_change b t ≡ Some w) × (apply_change a w ≡ Some v)
swap c a b t u v apart good h k =
    let p = changed (changed_table a) (one a) t u (sym (as_one a t) ∙ h) in
    let q = changed (changed_table b) (one b) u v (sym (as_one b u) ∙ k) in
    let e = either a b t u v good.0 p q c good.1 apart in
    (e.between, e.first, e.second)

same_key : (d : Option TableDef) (a b c : Change) → ((def : TableDef) → changed_key def b ≡ changed_key def c) → have_one_key d a b ≡ have_one_key d a c
same_key None a b c key = refl
same_key (Some def) a b c key = ap (row_eq (changed_key def a)) (key def)

-- the inverse of a change that applies is of the same row
pub inverse_of_row : (a b : Change) (t u : Tables) → are_tables t ≡ true → apply_change a t ≡ Some u → are_of_one_row (catalog_of t) b (inverse a) ≡ are_of_one_row (catalog_of t) b a
inverse_of_row (Insert table row) b t u ok h =
    ap (λ v. (changed_table b == table) && v) (same_key (def_at (catalog_of t) (changed_table b)) b (Delete table row) (Insert table row) (λ def. refl))
inverse_of_row (Delete table row) b t u ok h =
    ap (λ v. (changed_table b == table) && v) (same_key (def_at (catalog_of t) (changed_table b)) b (Insert table row) (Delete table row) (λ def. refl))
inverse_of_row (Update table before after) b t u ok h = elim (cases_Bool (changed_table b == table)) [
  | inr other ↦
      ap (λ v. v && have_one_key (def_at (catalog_of t) (changed_table b)) b (Update table after before)) other
      ∙ sym (ap (λ v. v && have_one_key (def_at (catalog_of t) (changed_table b)) b (Update table before after)) other)
  | inl same ↦
      let parts = parts_of t ok in
      let p = changed table (one (Update table before after)) t u h in
      let good = good_found table p.from t.tables parts.tables p.found in
      let asked = asks (Update table before after) p.from p.to good.ok p.made in
      let one_key : key_of p.from.def before ≡ key_of p.from.def after =
      equal (key_of p.from.def before) (key_of p.from.def after) (and_parts (row_eq (key_of p.from.def before) (key_of p.from.def after)) (fits p.from.def after) asked.fit).0 in
      let here : def_at (catalog_of t) (changed_table b) ≡ Some p.from.def = ap (def_at (catalog_of t)) (eqb-true (changed_table b) table same) ∙ def_found table p.from t p.found in
      ap (λ d. (changed_table b == table) && have_one_key d b (Update table after before)) here
      ∙ ap (λ k. (changed_table b == table) && row_eq (changed_key p.from.def b) k) (sym one_key)
      ∙ sym (ap (λ d. (changed_table b == table) && have_one_key d b (Update table before after)) here)
]
