-- Rows in order, as the entries of a map under their keys.
use Rattle.std.proofs.Common.{◌≡◌, Bool, true, false, not, cond, ◌&&◌, ◌||◌, if◌then◌else◌, List, [], ◌∷◌, ◌++◌, map, filter, Option, Some, None, Result, Ok, Err, IfOk, OnOk, OnErr, is_some, unwrap_or, refl, subst, sym, ap, ap₂, ◌∙◌, inl, inr}
use Rattle.std.specs.declared.cmp.Ordering.{Ordering}
use Rattle.std.specs.declared.cmp.Ordering.TheVariants.{Less, Equal, Greater}
use Rattle.std.specs.Ordering.{is_lt, is_gt, is_eq, ordering_reverse}
use Rattle.std.specs.List.{list_any, list_all}
use Rattle.std.specs.List.Sorted.{IsStrictlySortedBy}
use Rattle.std.specs.Map.{keys_of, lookup, remove_entry, values_of}
use Rattle.std.specs.BTreeMap.{insert_entry, is_at}
use Rattle.std.specs.Option.{option_map, option_map_or}
use Rattle.std.proofs.lemmas.Bool.{and_parts, and_from, cases_Bool}
use Rattle.std.proofs.lemmas.Map.{lookup-none}
use Rattle.std.proofs.lemmas.Map.Entries.{none_below_head}
use Rattle.wat_value.specs.declared.change.Change.TheVariants.{Insert}
use Rattle.wat_value.specs.declared.definition.TableDef.{TableDef}
use Rattle.wat_value.specs.Fits.{fits, key_of}
use Rattle.wat_value.specs.Order.{key_cmp}
use Rattle.wat_value.specs.OrderLaws.{key_cmp_level, key_cmp_total, key_cmp_refl}
use Rattle.wat_list.specs.Rising.{rising}
use Rattle.wat_schema.specs.Tables.{Row, Table, after_delete, after_insert, after_update, row_eq, by_key, has_key, has_row, is_table, with_row, row_with}
use Rattle.wat_schema.proofs.OneTable.{one_keeps}
use Rattle.wat_schema.proofs.RowOrder.{less_is}
use Rattle.wat_schema.proofs.TableLaws.{itself, equal}
use Rattle.wat_schema.proofs.Keyed.{at, at_stands, stands_at, at_first}
use Rattle.wat_expr.specs.Evaluation.{Combination}
use Rattle.wat_meaning.specs.Meaning.{alone, sole_row}
use Rattle.wat_tables.specs.Acting.{standing_key}
use Rattle.wat_tables.specs.Held.{IsKeyed, is_there, key_there, put_in, rows_of, under_key}

reversed : (o : Ordering) → is_eq (ordering_reverse o) ≡ is_eq o
reversed Less = refl
reversed Equal = refl
reversed Greater = refl

flip : (a b : Row) → is_eq (key_cmp a b) ≡ is_eq (key_cmp b a)
flip a b = ap is_eq (key_cmp_total.antisymm a b) ∙ reversed (key_cmp b a)

-- ---- what a look-up found, put back

pub put_back : (key : Row) (rows : Combination) (es : List (Row × Combination)) → IsStrictlySortedBy key_cmp (keys_of es) → lookup (is_at (key_cmp key)) es ≡ Some rows → insert_entry key_cmp es key rows ≡ es
unfolding IsStrictlySortedBy
put_back key rows [] up found = absurd (let no : ◌≡◌ {A = Option Combination} None (Some rows) = found in cc)
put_back key rows (e ∷ es) up found = by (put_back key rows es up.1) (key_cmp key e.0) refl
  where
    by : (lookup (is_at (key_cmp key)) es ≡ Some rows → insert_entry key_cmp es key rows ≡ es) → (o : Ordering) → key_cmp key e.0 ≡ o → insert_entry key_cmp (e ∷ es) key rows ≡ e ∷ es
    by rest Less h = absurd (let no : ◌≡◌ {A = Option Combination} None (Some rows) = sym (lookup-none (is_at (key_cmp key)) (e ∷ es) (none_below_head key_cmp_total key e es up h)) ∙ found in cc)
    by rest Equal h = let here : Some e.1 ≡ Some rows = rw h at found in let it : e.1 ≡ rows = cc in rw h (ap (λ r. (e.0, r) ∷ es) (sym it))
    by rest Greater h = let later : lookup (is_at (key_cmp key)) es ≡ Some rows = rw h at found in rw h (ap (λ more. e ∷ more) (rest later))

module _ (def : TableDef) where
  abbrev keyed : List Row → List (Row × Combination)
  keyed rows = map (under_key def) rows

  abbrev below : Row → List Row → Bool
  below r rows = list_all (λ other. is_lt (by_key def r other)) rows

  -- ---- what is kept

  pub rows_keyed : (rows : List Row) → rows_of (keyed rows) ≡ rows
  rows_keyed [] = refl
  rows_keyed (r ∷ rs) = ap (λ more. r ∷ more) (rows_keyed rs)

  pub values_keyed : (rows : List Row) → values_of (keyed rows) ≡ map alone rows
  values_keyed [] = refl
  values_keyed (r ∷ rs) = ap (λ more. alone r ∷ more) (values_keyed rs)

  pub lookup_keyed : (k : Row) (rows : List Row) → lookup (is_at (key_cmp k)) (keyed rows) ≡ option_map alone (at (key_of def) k rows)
  lookup_keyed k [] = refl
  lookup_keyed k (r ∷ rs) = elim (cases_Bool (row_eq (key_of def r) k)) [
    | inl here ↦ let there : is_eq (key_cmp k (key_of def r)) ≡ true = flip k (key_of def r) ∙ here in rw (here, there) refl
    | inr other ↦ let elsewhere : is_eq (key_cmp k (key_of def r)) ≡ false = flip k (key_of def r) ∙ other in rw (other, elsewhere) (lookup_keyed k rs)
  ]

  still_some : (o : Option Row) → is_some (option_map alone o) ≡ is_some o
  still_some None = refl
  still_some (Some r) = refl

  -- a key is found where a row has it
  pub key_found : (k : Row) (rows : List Row) → is_some (lookup (is_at (key_cmp k)) (keyed rows)) ≡ is_some (at (key_of def) k rows)
  key_found k rows = ap is_some (lookup_keyed k rows) ∙ still_some (at (key_of def) k rows)

  -- the row with its key is the row itself, or it doesn't stand
  pub row_found : (r : Row) (rows : List Row) → rising (by_key def) rows ≡ true
      → option_map_or (λ found. row_eq r (sole_row found)) (lookup (is_at (key_cmp (key_of def r))) (keyed rows)) false ≡ list_any (row_eq r) rows
  row_found r rows up = ap (λ o. option_map_or (λ found. row_eq r (sole_row found)) o false) (lookup_keyed (key_of def r) rows) ∙ elim (cases_Bool (list_any (row_eq r) rows)) [
    | inl there ↦ ap (λ o. option_map_or (λ found. row_eq r (sole_row found)) (option_map alone o) false) (stands_at (key_of def) r rows up there) ∙ itself r ∙ sym there
    | inr gone ↦ by (at (key_of def) (key_of def r) rows) refl gone ∙ sym gone
  ]
    where
      by : (o : Option Row) → at (key_of def) (key_of def r) rows ≡ o → list_any (row_eq r) rows ≡ false → option_map_or (λ found. row_eq r (sole_row found)) (option_map alone o) false ≡ false
      by None e gone = refl
      by (Some s) e gone = elim (cases_Bool (row_eq r s)) [
        | inl same ↦ absurd (let no : true ≡ false = sym (at_stands (key_of def) (key_of def r) r rows (e ∙ ap Some (sym (equal r s same)))) ∙ gone in cc)
        | inr other ↦ other
      ]

  -- ---- the order

  more : (a b : Row) → by_key def a b ≡ Less → by_key def b a ≡ Greater
  more a b h = key_cmp_total.antisymm (key_of def b) (key_of def a) ∙ ap ordering_reverse h

  less : (a b : Row) → by_key def a b ≡ Greater → by_key def b a ≡ Less
  less a b h = key_cmp_total.antisymm (key_of def b) (key_of def a) ∙ ap ordering_reverse h

  apart : (a b : Row) → is_eq (by_key def a b) ≡ false → row_eq a b ≡ false
  apart a b h = elim (cases_Bool (row_eq a b)) [
    | inl same ↦ absurd (let no : true ≡ false = sym (ap is_eq (key_cmp_refl (key_of def b))) ∙ ap (λ z. is_eq (by_key def z b)) (sym (equal a b same)) ∙ h in cc)
    | inr other ↦ other
  ]

  lower : (a b : Row) (xs : List Row) → by_key def a b ≡ Less → below b xs ≡ true → below a xs ≡ true
  lower a b [] h all = refl
  lower a b (x ∷ xs) h all =
      let parts = and_parts (is_lt (by_key def b x)) (below b xs) all in
      and_from (is_lt (by_key def a x)) (below a xs) (ap is_lt (key_cmp_total.trans (key_of def a) (key_of def b) (key_of def x) h (less_is (by_key def b x) parts.0))) (lower a b xs h parts.1)

  none_less : (r : Row) (xs : List Row) → below r xs ≡ true → filter (λ other. is_lt (by_key def other r)) xs ≡ []
  none_less r [] h = refl
  none_less r (x ∷ xs) h =
      let parts = and_parts (is_lt (by_key def r x)) (below r xs) h in
      let greater = more r x (less_is (by_key def r x) parts.0) in
      rw greater (none_less r xs parts.1)

  all_greater : (r : Row) (xs : List Row) → below r xs ≡ true → filter (λ other. is_gt (by_key def other r)) xs ≡ xs
  all_greater r [] h = refl
  all_greater r (x ∷ xs) h =
      let parts = and_parts (is_lt (by_key def r x)) (below r xs) h in
      let greater = more r x (less_is (by_key def r x) parts.0) in
      rw greater (ap (λ ys. x ∷ ys) (all_greater r xs parts.1))

  put_before : (r : Row) (xs : List Row) → below r xs ≡ true → with_row def r xs ≡ r ∷ xs
  put_before r xs h = rw (none_less r xs h, all_greater r xs h) refl

  put_after : (r x : Row) (xs : List Row) → by_key def x r ≡ Less → with_row def r (x ∷ xs) ≡ x ∷ with_row def r xs
  put_after r x xs h = rw h refl

  -- ---- a row that comes

  pub insert_keyed : (r : Row) (rows : List Row) → rising (by_key def) rows ≡ true → is_some (at (key_of def) (key_of def r) rows) ≡ false
      → insert_entry key_cmp (keyed rows) (key_of def r) (alone r) ≡ keyed (with_row def r rows)
  insert_keyed r [] up free = refl
  insert_keyed r (x ∷ xs) up free = by (insert_keyed r xs parts.1) (by_key def r x) refl
    where
      parts : (below x xs ≡ true) × (rising (by_key def) xs ≡ true)
      parts = and_parts (below x xs) (rising (by_key def) xs) up

      by : (is_some (at (key_of def) (key_of def r) xs) ≡ false → insert_entry key_cmp (keyed xs) (key_of def r) (alone r) ≡ keyed (with_row def r xs))
          → (o : Ordering) → by_key def r x ≡ o → insert_entry key_cmp (keyed (x ∷ xs)) (key_of def r) (alone r) ≡ keyed (with_row def r (x ∷ xs))
      by rest Less e =
          let all : below r (x ∷ xs) ≡ true = and_from (is_lt (by_key def r x)) (below r xs) (ap is_lt e) (lower r x xs e parts.0) in
          rw (put_before r (x ∷ xs) all, e) refl
      by rest Equal e =
          let here : row_eq (key_of def x) (key_of def r) ≡ true = flip (key_of def x) (key_of def r) ∙ ap is_eq e in
          let found : is_some (cond (row_eq (key_of def x) (key_of def r)) (Some x) (at (key_of def) (key_of def r) xs)) ≡ false = free in
          absurd (let no : true ≡ false = rw here at found in cc)
      by rest Greater e =
          let first = less r x e in
          let other : row_eq (key_of def x) (key_of def r) ≡ false = ap is_eq first in
          let found : is_some (cond (row_eq (key_of def x) (key_of def r)) (Some x) (at (key_of def) (key_of def r) xs)) ≡ false = free in
          let later : is_some (at (key_of def) (key_of def r) xs) ≡ false = rw other at found in
          rw (put_after r x xs first, e) (ap (λ es. under_key def x ∷ es) (rest later))

  -- ---- a row that stands

  among : (q : Row → Bool) (r : Row) (xs : List Row) → list_all q xs ≡ true → list_any (row_eq r) xs ≡ true → q r ≡ true
  among q r [] h k = absurd (let no : false ≡ true = k in cc)
  among q r (x ∷ xs) h k =
      let parts = and_parts (q x) (list_all q xs) h in
      elim (cases_Bool (row_eq r x)) [
        | inl here ↦ ap q (equal r x here) ∙ parts.0
        | inr there ↦ among q r xs parts.1 (let rest : (row_eq r x || list_any (row_eq r) xs) ≡ true = k in rw there at rest)
      ]

  later : (r x : Row) (xs : List Row) → row_eq r x ≡ false → list_any (row_eq r) (x ∷ xs) ≡ true → list_any (row_eq r) xs ≡ true
  later r x xs other k = let rest : (row_eq r x || list_any (row_eq r) xs) ≡ true = k in rw other at rest

  -- a row of the list is above a row below the list
  above : (r x : Row) (xs : List Row) → below x xs ≡ true → list_any (row_eq r) xs ≡ true → by_key def x r ≡ Less
  above r x xs h k = less_is (by_key def x r) (among (λ other. is_lt (by_key def x other)) r xs h k)

  -- ---- a row that goes

  others : (r : Row) (xs : List Row) → below r xs ≡ true → filter (λ row. not (row_eq row r)) xs ≡ xs
  others r [] h = refl
  others r (x ∷ xs) h =
      let parts = and_parts (is_lt (by_key def r x)) (below r xs) h in
      let other = apart x r (ap is_eq (more r x (less_is (by_key def r x) parts.0))) in
      rw other (ap (λ ys. x ∷ ys) (others r xs parts.1))

  pub remove_keyed : (r : Row) (rows : List Row) → rising (by_key def) rows ≡ true → list_any (row_eq r) rows ≡ true
      → remove_entry (is_at (key_cmp (key_of def r))) (keyed rows) ≡ keyed (filter (λ row. not (row_eq row r)) rows)
  remove_keyed r [] up k = absurd (let no : false ≡ true = k in cc)
  remove_keyed r (x ∷ xs) up k = elim (cases_Bool (row_eq r x)) [
    | inl here ↦
        let it : r ≡ x = equal r x here in
        let gone : row_eq x r ≡ true = ap (row_eq x) it ∙ itself x in
        let level : is_eq (key_cmp (key_of def r) (key_of def x)) ≡ true = ap (λ z. is_eq (key_cmp (key_of def r) (key_of def z))) (sym it) ∙ ap is_eq (key_cmp_refl (key_of def r)) in
        let all : below r xs ≡ true = ap (λ z. below z xs) it ∙ parts.0 in
        rw (gone, level, others r xs all) refl
    | inr other ↦
        let there = later r x xs other k in
        let first = above r x xs parts.0 there in
        let kept = apart x r (ap is_eq first) in
        let elsewhere : is_eq (key_cmp (key_of def r) (key_of def x)) ≡ false = ap is_eq (more x r first) in
        rw (kept, elsewhere) (ap (λ es. under_key def x ∷ es) (remove_keyed r xs parts.1 there))
  ]
    where
      parts : (below x xs ≡ true) × (rising (by_key def) xs ≡ true)
      parts = and_parts (below x xs) (rising (by_key def) xs) up

  -- ---- a row that is changed

  module _ (before after : Row) (one_key : key_of def before ≡ key_of def after) where
    abbrev changed : Row → Row
    changed row = if row_eq row before then after else row

    unchanged : (xs : List Row) → below before xs ≡ true → map changed xs ≡ xs
    unchanged [] h = refl
    unchanged (x ∷ xs) h =
        let parts = and_parts (is_lt (by_key def before x)) (below before xs) h in
        let other = apart x before (ap is_eq (more before x (less_is (by_key def before x) parts.0))) in
        rw other (ap (λ ys. x ∷ ys) (unchanged xs parts.1))

    pub replace_keyed : (rows : List Row) → rising (by_key def) rows ≡ true → list_any (row_eq before) rows ≡ true
        → insert_entry key_cmp (keyed rows) (key_of def before) (alone after) ≡ keyed (map changed rows)
    replace_keyed [] up k = absurd (let no : false ≡ true = k in cc)
    replace_keyed (x ∷ xs) up k = elim (cases_Bool (row_eq before x)) [
      | inl here ↦
          let it : before ≡ x = equal before x here in
          let now : row_eq x before ≡ true = ap (row_eq x) it ∙ itself x in
          let level : key_cmp (key_of def before) (key_of def x) ≡ Equal = ap (λ z. key_cmp (key_of def before) (key_of def z)) (sym it) ∙ key_cmp_refl (key_of def before) in
          let all : below before xs ≡ true = ap (λ z. below z xs) it ∙ parts.0 in
          let key_stays : key_of def x ≡ key_of def after = ap (key_of def) (sym it) ∙ one_key in
          rw (now, level, unchanged xs all) (ap (λ k. (k, alone after) ∷ keyed xs) key_stays)
      | inr other ↦
          let there = later before x xs other k in
          let first = above before x xs parts.0 there in
          let kept = apart x before (ap is_eq first) in
          rw (kept, more x before first) (ap (λ es. under_key def x ∷ es) (replace_keyed xs parts.1 there))
    ]
      where
        parts : (below x xs ≡ true) × (rising (by_key def) xs ≡ true)
        parts = and_parts (below x xs) (rising (by_key def) xs) up

-- ---- what a change leaves in the map

-- the entries are those of this table
module _ (y : Table) (entries : List (Row × Combination)) (are : entries ≡ map (under_key y.def) y.rows) where
  pub rows_are : rows_of entries ≡ y.rows
  rows_are = ap rows_of are ∙ rows_keyed y.def y.rows

  pub seen_as : record y { rows = rows_of entries } ≡ y
  seen_as = ap (λ rs. record y { rows = rs }) rows_are

  pub is_kept : is_table y ≡ true → IsKeyed (record y { rows = rows_of entries }) entries
  is_kept ok = record {
    keyed = are ∙ ap (map (under_key y.def)) (sym rows_are);
    ok = ap is_table seen_as ∙ ok;
  }

pub after_inserting : (x : Table) (row : Row) (entries made : List (Row × Combination)) (key : Row) (rows : Combination) → IsKeyed x entries → has_key x (key_of x.def row) ≡ false
    → key ≡ key_of x.def row → rows ≡ alone row → made ≡ insert_entry key_cmp entries key rows → made ≡ map (under_key x.def) (with_row x.def row x.rows)
after_inserting x row entries made key rows is free k r m =
    m ∙ ap₂ (λ es kk. insert_entry key_cmp es kk rows) is.keyed k ∙ ap (insert_entry key_cmp (map (under_key x.def) x.rows) (key_of x.def row)) r
    ∙ insert_keyed x.def row x.rows (and_parts (list_all (fits x.def) x.rows) (rising (by_key x.def) x.rows) is.ok).1 free

pub after_replacing : (x : Table) (before after : Row) (entries made : List (Row × Combination)) (key : Row) (rows : Combination) → IsKeyed x entries → has_row x before ≡ true
    → key_of x.def before ≡ key_of x.def after → key ≡ key_of x.def before → rows ≡ alone after → made ≡ insert_entry key_cmp entries key rows
    → made ≡ map (under_key x.def) (map (λ row. if row_eq row before then after else row) x.rows)
after_replacing x before after entries made key rows is stands one k r m =
    m ∙ ap₂ (λ es kk. insert_entry key_cmp es kk rows) is.keyed k ∙ ap (insert_entry key_cmp (map (under_key x.def) x.rows) (key_of x.def before)) r
    ∙ replace_keyed x.def before after one x.rows (and_parts (list_all (fits x.def) x.rows) (rising (by_key x.def) x.rows) is.ok).1 stands

pub after_removing : (x : Table) (row : Row) (entries made : List (Row × Combination)) (key : Row) → IsKeyed x entries → has_row x row ≡ true
    → key ≡ key_of x.def row → made ≡ remove_entry (is_at (key_cmp key)) entries → made ≡ map (under_key x.def) (filter (λ r. not (row_eq r row)) x.rows)
after_removing x row entries made key is stands k m =
    m ∙ ap₂ (λ es kk. remove_entry (is_at (key_cmp kk)) es) is.keyed k
    ∙ remove_keyed x.def row x.rows (and_parts (list_all (fits x.def) x.rows) (rising (by_key x.def) x.rows) is.ok).1 stands

-- what is left is what the change makes of the table
module _ (x y : Table) (change : Table → Option Table) (is : change x ≡ Some y) (entries : List (Row × Combination)) (are : entries ≡ map (under_key y.def) y.rows) where
  pub made_so : (self : Table) → x ≡ self → record y { rows = rows_of entries } ≡ unwrap_or (change self) self
  made_so self view = seen_as y entries are ∙ sym (ap (λ o. unwrap_or o x) is) ∙ ap (λ t. unwrap_or (change t) t) view

pub inserts : (x : Table) (row : Row) → fits x.def row ≡ true → has_key x (key_of x.def row) ≡ false → after_insert row x ≡ Some (record x { rows = with_row x.def row x.rows })
inserts x row fit free = rw (fit, free) refl

pub updates : (x : Table) (before after : Row) → (has_row x before && row_eq (key_of x.def before) (key_of x.def after) && fits x.def after) ≡ true
    → after_update before after x ≡ Some (record x { rows = map (λ row. if row_eq row before then after else row) x.rows })
updates x before after may = ap (λ b. if b then Some (record x { rows = map (λ row. if row_eq row before then after else row) x.rows }) else None) may

pub deletes : (x : Table) (row : Row) → has_row x row ≡ true → after_delete row x ≡ Some (record x { rows = filter (λ r. not (row_eq r row)) x.rows })
deletes x row stands = ap (λ b. if b then Some (record x { rows = filter (λ r. not (row_eq r row)) x.rows }) else None) stands

lone : (o : Option Row) → option_map sole_row (option_map alone o) ≡ o
lone None = refl
lone (Some r) = refl

-- what the map has under a key is the table's row with it
pub row_under : (x : Table) (entries : List (Row × Combination)) (key : Row) → IsKeyed x entries → option_map sole_row (lookup (is_at (key_cmp key)) entries) ≡ row_with x key
row_under x entries key is =
    ap (λ es. option_map sole_row (lookup (is_at (key_cmp key)) es)) is.keyed
    ∙ ap (option_map sole_row) (lookup_keyed x.def key x.rows)
    ∙ lone (at (key_of x.def) key x.rows)

-- the row that the map has under its key is the row itself, or it doesn't stand
pub stands_in : (x : Table) (entries : List (Row × Combination)) (row key : Row) → IsKeyed x entries → key ≡ key_of x.def row
    → option_map_or (λ found. row_eq row (sole_row found)) (lookup (is_at (key_cmp key)) entries) false ≡ has_row x row
stands_in x entries row key is k =
    ap₂ (λ kk es. option_map_or (λ found. row_eq row (sole_row found)) (lookup (is_at (key_cmp kk)) es) false) k is.keyed
    ∙ row_found x.def row x.rows (and_parts (list_all (fits x.def) x.rows) (rising (by_key x.def) x.rows) is.ok).1

-- ---- what is left where a row is put into the map, unless its key is there

module _ (x self : Table) (row : Row) (entries made : List (Row × Combination)) (key : Row) (rows : Combination) (is : IsKeyed x entries) (view : x ≡ self) (k : key ≡ key_of x.def row) (r : rows ≡ alone row)
    (fit : fits self.def row ≡ true) where
  fit_here : fits x.def row ≡ true
  fit_here = ap (λ (t : Table). fits t.def row) view ∙ fit

  there : is_there key entries ≡ has_key x (key_of x.def row)
  there = ap₂ is_there k is.keyed ∙ key_found x.def (key_of x.def row) x.rows

  -- the key stands: the map stays
  had : has_key x (key_of x.def row) ≡ true → made ≡ put_in key rows entries → made ≡ entries
  had h m = m ∙ ap (λ b. if b then entries else insert_entry key_cmp entries key rows) (there ∙ h)

  nothing : has_key x (key_of x.def row) ≡ true → after_insert row x ≡ None
  nothing h = rw (fit_here, h) refl

  -- the key is free: the row comes in
  abbrev more_rows : Table
  more_rows = record x { rows = with_row x.def row x.rows }

  new_here : has_key x (key_of x.def row) ≡ false → made ≡ put_in key rows entries → made ≡ map (under_key x.def) (with_row x.def row x.rows)
  new_here h m =
      after_inserting x row entries made key rows is h k r (m ∙ ap (λ b. if b then entries else insert_entry key_cmp entries key rows) (there ∙ h))

  same_kept : made ≡ entries → IsKeyed (record x { rows = rows_of made }) made
  same_kept m = subst (λ es. IsKeyed (record x { rows = rows_of es }) es) (sym m) (is_kept x entries is.keyed is.ok)

  kept_if : (b : Bool) → has_key x (key_of x.def row) ≡ b → made ≡ put_in key rows entries → IsKeyed (record x { rows = rows_of made }) made
  kept_if true h m = same_kept (had h m)
  kept_if false h m = is_kept more_rows made (new_here h m) (one_keeps (Insert 0 row) x more_rows is.ok (inserts x row fit_here h))

  left_if : (b : Bool) → has_key x (key_of x.def row) ≡ b → made ≡ put_in key rows entries → record x { rows = rows_of made } ≡ unwrap_or (after_insert row self) self
  left_if true h m =
      seen_as x made (had h m ∙ is.keyed) ∙ sym (ap (λ o. unwrap_or o x) (nothing h)) ∙ ap (λ t. unwrap_or (after_insert row t) t) view
  left_if false h m = made_so x more_rows (after_insert row) (inserts x row fit_here h) made (new_here h m) self view

  module _ {E : Type 0} where
    pub put_keeps : (o : Result (Option Row) E) → OnOk o (made ≡ put_in key rows entries) → OnErr o (made ≡ entries) → IsKeyed (record x { rows = rows_of made }) made
    put_keeps (Ok stood) m n = kept_if (has_key x (key_of x.def row)) refl m
    put_keeps (Err e) m n = same_kept n

    pub put_leaves : (o : Result (Option Row) E) → OnOk o (made ≡ put_in key rows entries) → OnOk o (record x { rows = rows_of made } ≡ unwrap_or (after_insert row self) self)
    put_leaves (Ok stood) m = left_if (has_key x (key_of x.def row)) refl m
    put_leaves (Err e) m = m

    pub put_stood : (o : Result (Option Row) E) → IfOk o (λ stood. stood ≡ key_there key entries) → IfOk o (λ stood. stood ≡ standing_key (Some self) row)
    put_stood (Ok stood) s = s ∙ ap₂ (λ b kk. if b then Some kk else None) there k ∙ ap (λ t. standing_key (Some t) row) view
    put_stood (Err e) s = s

-- ---- a key that is there, and what was found under it

module _ (key : Row) (rows found : Combination) (es : List (Row × Combination)) (is : lookup (is_at (key_cmp key)) es ≡ Some found) where
  here : is_there key es ≡ true
  here = ap is_some is

  pub stood_same : (k : Row) → key_cmp key k ≡ Equal → Some k ≡ key_there key es
  stood_same k level = ap Some (sym (key_cmp_level key k level)) ∙ sym (ap (λ b. if b then Some key else None) here)

  pub put_same : (made : List (Row × Combination)) → IsStrictlySortedBy key_cmp (keys_of es) → made ≡ insert_entry key_cmp es key found → made ≡ put_in key rows es
  put_same made up m = m ∙ put_back key found es up is ∙ sym (ap (λ b. if b then es else insert_entry key_cmp es key rows) here)

pub on_err : {A E : Type 0} (o : Result A E) {X : Type 0} → X → OnErr o X
on_err (Ok a) x = tt
on_err (Err e) x = x
