-- Rows that are inserted one after another, told by the keys that they leave.
use Rattle.std.proofs.Common.{◌≡◌, ℕ, Bool, true, false, not, cond, ◌&&◌, ◌||◌, if◌then◌else◌, List, [], ◌∷◌, ◌++◌, map, Option, Some, None, is_some, unwrap_or, refl, sym, ap, ap₂, ◌∙◌, inl, inr}
use Rattle.std.specs.declared.cmp.Ordering.{Ordering}
use Rattle.std.specs.declared.cmp.Ordering.TheVariants.{Less, Equal, Greater}
use Rattle.std.specs.Ordering.{is_eq, ordering_reverse}
use Rattle.std.specs.List.{list_any}
use Rattle.std.specs.Option.{option_map, option_and_then}
use Rattle.std.specs.BTreeSet.{insert_key}
use Rattle.std.proofs.lemmas.Bool.{cases_Bool}
use Rattle.wat_value.specs.declared.definition.TableDef.{TableDef}
use Rattle.wat_value.specs.declared.change.Change.TheVariants as change
use Rattle.wat_value.specs.Fits.{fits, key_of}
use Rattle.wat_value.specs.Order.{key_cmp, key_eq}
use Rattle.wat_value.specs.OrderLaws.{key_cmp_total, key_cmp_level}
use Rattle.wat_names.specs.Refusals.{first}
use Rattle.wat_schema.specs.declared.refusal.Refusal.{Refusal}
use Rattle.wat_schema.specs.declared.refusal.Refusal.TheVariants.{Duplicate}
use Rattle.wat_schema.specs.Tables.{Row, Table, Tables, after_insert, has_key, on_table, table_at, with_row, with_table}
use Rattle.wat_schema.proofs.Keyed.{at, at_between}
use Rattle.wat_schema.proofs.Placed.{found_placed}
use Rattle.wat_meaning.specs.Meaning.{all_refusals, stands_already}
use Rattle.wat_serial.specs.Duplicates.{refusals_in}

reversed : (o : Ordering) → is_eq (ordering_reverse o) ≡ is_eq o
reversed Less = refl
reversed Equal = refl
reversed Greater = refl

flip : (a b : Row) → key_eq a b ≡ key_eq b a
flip a b = ap is_eq (key_cmp_total.antisymm a b) ∙ reversed (key_cmp b a)

or_false : (b : Bool) → (b || false) ≡ b
or_false true = refl
or_false false = refl

-- ---- the keys that were seen

abbrev pub is_seen : Row → List Row → Bool
is_seen k seen = list_any (λ s. key_eq k s) seen

seen_also : (a b c : Bool) → (b || (a || c)) ≡ (a || (b || c))
seen_also true true c = refl
seen_also true false c = refl
seen_also false b c = refl

seen_more : (k j : Row) (seen : List Row) → is_seen k (insert_key key_cmp seen j) ≡ (key_eq k j || is_seen k seen)
seen_more k j [] = refl
seen_more k j (s ∷ ss) = by (seen_more k j ss) (key_cmp j s) refl
  where
    twice : (a b : Bool) → (a || b) ≡ (a || (a || b))
    twice true b = refl
    twice false b = refl

    by : is_seen k (insert_key key_cmp ss j) ≡ (key_eq k j || is_seen k ss) → (o : Ordering) → key_cmp j s ≡ o → is_seen k (insert_key key_cmp (s ∷ ss) j) ≡ (key_eq k j || is_seen k (s ∷ ss))
    by rest Less e = rw e refl
    by rest Equal e = let same : j ≡ s = key_cmp_level j s e in rw e (twice (key_eq k s) (is_seen k ss) ∙ ap (λ z. key_eq k z || (key_eq k s || is_seen k ss)) (sym same))
    by rest Greater e = rw e (ap (λ b. key_eq k s || b) rest ∙ seen_also (key_eq k j) (key_eq k s) (is_seen k ss))

-- ---- one row more

abbrev pub with_it : Table → Row → Table
with_it x row = record x { rows = with_row x.def row x.rows }

some_if : (b : Bool) (r : Row) (o : Option Row) → is_some (cond b (Some r) o) ≡ (b || is_some o)
some_if true r o = refl
some_if false r o = refl

keys_with : (y : Table) (row k : Row) → has_key (with_it y row) k ≡ (key_eq (key_of y.def row) k || has_key y k)
keys_with y row k = ap is_some (at_between (key_of y.def) k row y.rows) ∙ some_if (key_eq (key_of y.def row) k) row (at (key_of y.def) k y.rows)

inserts_if : (y : Table) (row : Row) → fits y.def row ≡ true → has_key y (key_of y.def row) ≡ false → after_insert row y ≡ Some (with_it y row)
inserts_if y row fit free = rw (fit, free) refl

unless_fits : (y : Table) (row : Row) → fits y.def row ≡ false → after_insert row y ≡ None
unless_fits y row fit = rw fit refl

free_key : (y : Table) (row : Row) → has_key y (key_of y.def row) ≡ false → stands_already (Some y) row ≡ []
free_key y row free = rw free refl

-- ---- the rows so far

-- After some of all rows the table has this definition, the keys that it had and those seen, and the others are refused as all of them are.
pub record IsSoFar (x y : Table) (seen rest all : List Row) : Type 0 where
  pub def : y.def ≡ x.def
  pub has : (k : Row) → has_key y k ≡ (has_key x k || is_seen k seen)
  pub refusals : first (refusals_in y rest) ≡ first (refusals_in x all)

pub none_so_far : (x : Table) (all : List Row) → IsSoFar x x [] all all
none_so_far x all = record { def = refl; has = λ k. sym (or_false (has_key x k)); refusals = refl }

module _ (x y : Table) (seen : List Row) (row : Row) (rest all : List Row) (so_far : IsSoFar x y seen (row ∷ rest) all) where
  key_is : key_of y.def row ≡ key_of x.def row
  key_is = ap (λ (def : TableDef). key_of def row) so_far.def

  pub refused_here : (has_key x (key_of x.def row) || is_seen (key_of x.def row) seen) ≡ true → Some (Duplicate (key_of x.def row)) ≡ first (refusals_in x all)
  refused_here had =
      let stands : has_key y (key_of y.def row) ≡ true = ap (has_key y) key_is ∙ so_far.has (key_of x.def row) ∙ had in
      let here : first (refusals_in y (row ∷ rest)) ≡ Some (Duplicate (key_of y.def row)) = rw stands refl in
      ap (λ k. Some (Duplicate k)) (sym key_is) ∙ sym here ∙ so_far.refusals

  free : (has_key x (key_of x.def row) || is_seen (key_of x.def row) seen) ≡ false → has_key y (key_of y.def row) ≡ false
  free new = ap (has_key y) key_is ∙ so_far.has (key_of x.def row) ∙ new

  goes_on : (z : Table) → (has_key x (key_of x.def row) || is_seen (key_of x.def row) seen) ≡ false → unwrap_or (after_insert row y) y ≡ z → first (refusals_in z rest) ≡ first (refusals_in x all)
  goes_on z new is =
      ap (λ t. first (refusals_in t rest)) (sym is)
      ∙ sym (ap (λ rs. first (rs ++ refusals_in (unwrap_or (after_insert row y) y) rest)) (free_key y row (free new)))
      ∙ so_far.refusals

  pub one_more : (has_key x (key_of x.def row) || is_seen (key_of x.def row) seen) ≡ false → fits x.def row ≡ true → IsSoFar x (with_it y row) (insert_key key_cmp seen (key_of x.def row)) rest all
  one_more new fit =
      let fit_y : fits y.def row ≡ true = ap (λ (def : TableDef). fits def row) so_far.def ∙ fit in
      record {
        def = so_far.def;
        has = λ k.
            keys_with y row k ∙ ap₂ (λ a b. a || b) (flip (key_of y.def row) k ∙ ap (key_eq k) key_is) (so_far.has k)
            ∙ sym (seen_also (key_eq k (key_of x.def row)) (has_key x k) (is_seen k seen))
            ∙ ap (λ b. has_key x k || b) (sym (seen_more k (key_of x.def row) seen));
        refusals = goes_on (with_it y row) new (ap (λ o. unwrap_or o y) (inserts_if y row fit_y (free new)));
      }

  pub none_more : (has_key x (key_of x.def row) || is_seen (key_of x.def row) seen) ≡ false → fits x.def row ≡ false → IsSoFar x y seen rest all
  none_more new unfit =
      let unfit_y : fits y.def row ≡ false = ap (λ (def : TableDef). fits def row) so_far.def ∙ unfit in
      record {
        def = so_far.def;
        has = so_far.has;
        refusals = goes_on y new (ap (λ o. unwrap_or o y) (unless_fits y row unfit_y));
      }

-- ---- the same over tables

pub refusals_are : (n : ℕ) (rows : List Row) (t : Tables) (x : Table) → table_at t n ≡ Some x → n ≡ x.def.number → all_refusals t (map (change.Insert n) rows) ≡ refusals_in x rows
refusals_are n [] t x at is = refl
refusals_are n (row ∷ rows) t x at is = ap₂ (λ a b. a ++ b) (ap (λ o. stands_already o row) at) (by (refusals_are n rows) (fits x.def row && not (has_key x (key_of x.def row))) refl)
  where
    by : ((u : Tables) (y : Table) → table_at u n ≡ Some y → n ≡ y.def.number → all_refusals u (map (change.Insert n) rows) ≡ refusals_in y rows) → (b : Bool) → (fits x.def row && not (has_key x (key_of x.def row))) ≡ b
        → all_refusals (unwrap_or (on_table n (after_insert row) t) t) (map (change.Insert n) rows) ≡ refusals_in (unwrap_or (after_insert row x) x) rows
    by rest true e =
        let made : after_insert row x ≡ Some (with_it x row) = ap (λ b. if b then Some (with_it x row) else None) e in
        let on : on_table n (after_insert row) t ≡ Some (with_table n t (with_it x row)) =
        ap (option_and_then (λ z. option_map (with_table n t) (after_insert row z))) at ∙ ap (option_map (with_table n t)) made in
        ap (λ o. all_refusals (unwrap_or o t) (map (change.Insert n) rows)) on
        ∙ rest (with_table n t (with_it x row)) (with_it x row) (found_placed n (with_it x row) x t.tables is at) is
        ∙ sym (ap (λ o. refusals_in (unwrap_or o x) rows) made)
    by rest false e =
        let made : after_insert row x ≡ None = ap (λ b. if b then Some (with_it x row) else None) e in
        let on : on_table n (after_insert row) t ≡ None = ap (option_and_then (λ z. option_map (with_table n t) (after_insert row z))) at ∙ ap (option_map (with_table n t)) made in
        ap (λ o. all_refusals (unwrap_or o t) (map (change.Insert n) rows)) on ∙ rest t x at is ∙ sym (ap (λ o. refusals_in (unwrap_or o x) rows) made)
