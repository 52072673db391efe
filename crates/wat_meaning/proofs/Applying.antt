-- Changes of the rows of one table that apply one after another.
use Rattle.std.proofs.Common.{◌≡◌, ℕ, ◌==◌, Bool, true, false, not, cond, ◌&&◌, ◌||◌, if◌then◌else◌, List, [], ◌∷◌, ◌++◌, map, filter, Option, Some, unwrap_or, refl, sym, ap, ◌∙◌, inl, inr}
use Rattle.std.specs.declared.cmp.Ordering.{Ordering}
use Rattle.std.specs.declared.cmp.Ordering.TheVariants.{Less, Equal, Greater}
use Rattle.std.specs.Ordering.{is_eq, is_lt}
use Rattle.std.specs.List.{find, list_any, list_all}
use Rattle.std.specs.Option.{option_and_then, option_map}
use Rattle.std.proofs.lemmas.Bool.{and_parts, and_from, or_right, eqb-true, eq-eqb, cases_Bool}
use Rattle.wat_value.specs.declared.definition.TableDef.{TableDef}
use Rattle.wat_value.specs.declared.change.Change.TheVariants as change
use Rattle.wat_value.specs.declared.change.Act.{Act}
use Rattle.wat_value.specs.declared.change.Act.TheVariants.{OnRow}
use Rattle.wat_value.specs.Order.{key_cmp}
use Rattle.wat_value.specs.OrderLaws.{key_cmp_level, key_cmp_refl}
use Rattle.wat_value.specs.Fits.{fits, key_of}
use Rattle.wat_schema.specs.declared.refusal.Refusal.{Refusal}
use Rattle.wat_schema.specs.declared.refusal.Refusal.TheVariants.{Duplicate}
use Rattle.wat_schema.specs.Tables.{Row, Table, Tables, row_eq, by_key, has_row, has_key, with_row, rising, table_at, with_table, on_table, after_insert, after_update, after_delete, apply, apply_all}
use Rattle.wat_meaning.specs.Meaning.{stands_already, all_refusals}

-- the acts apply, one after another
abbrev pub Applies : Tables → List Act → Type 0
Applies t acts = (after : Tables) × (apply_all acts t ≡ Some after)

pub none_apply : (t : Tables) → Applies t []
none_apply t = (t, refl)

-- ---- rows

pub itself : (row : Row) → row_eq row row ≡ true
itself row = ap is_eq (key_cmp_refl row)

equal_from : (o : Ordering) → is_eq o ≡ true → o ≡ Equal
equal_from Less h = cc
equal_from Equal h = refl
equal_from Greater h = cc

pub equal : (a b : Row) → row_eq a b ≡ true → a ≡ b
equal a b h = key_cmp_level a b (equal_from (key_cmp a b) h)

-- of two rows, one before the other, the later is another
apart : (def : TableDef) (d e : Row) → is_lt (by_key def d e) ≡ true → row_eq e d ≡ false
apart def d e less = elim (cases_Bool (row_eq e d)) [
  | inl same ↦ absurd (let no : false ≡ true = sym (ap is_lt (key_cmp_refl (key_of def d))) ∙ ap (λ z. is_lt (by_key def d z)) (sym (equal e d same)) ∙ less in cc)
  | inr other ↦ other
]

-- ---- tables

pub named : (n : ℕ) (x : Table) (xs : List Table) → find (λ z. n == z.def.number) xs ≡ Some x → n ≡ x.def.number
named n x [] k = cc
named n x (z ∷ zs) k =
    let found : cond (n == z.def.number) (Some z) (find (λ w. n == w.def.number) zs) ≡ Some x = k in
    elim (cases_Bool (n == z.def.number)) [
      | inl here ↦
          let same : Some z ≡ Some x = rw here at found in
          let is : z ≡ x = cc in
          eqb-true n z.def.number here ∙ ap (λ w. w.def.number) is
      | inr other ↦ named n x zs (rw other at found)
    ]

found_placed : (n : ℕ) (y : Table) → n ≡ y.def.number → (x : Table) (xs : List Table) → find (λ z. n == z.def.number) xs ≡ Some x
    → find (λ z. n == z.def.number) (map (λ other. if n == other.def.number then y else other) xs) ≡ Some y
found_placed n y is x [] h = cc
found_placed n y is x (z ∷ zs) h = elim (cases_Bool (n == z.def.number)) [
  | inl here ↦ let there : (n == y.def.number) ≡ true = eq-eqb n y.def.number is in rw (here, there) refl
  | inr other ↦
      let rest : cond (n == z.def.number) (Some z) (find (λ w. n == w.def.number) zs) ≡ Some x = h in
      rw (other, other) (found_placed n y is x zs (rw other at rest))
]

made : (n : ℕ) (f : Table → Option Table) (t : Tables) (x y : Table) → table_at t n ≡ Some x → f x ≡ Some y → on_table n f t ≡ Some (with_table n t y)
made n f t x y at is = ap (option_and_then (λ z. option_map (with_table n t) (f z))) at ∙ ap (option_map (with_table n t)) is

still : (n : ℕ) (t : Tables) (x y : Table) → table_at t n ≡ Some x → y.def ≡ x.def → table_at (with_table n t y) n ≡ Some y
still n t x y at def = found_placed n y (named n x t.tables at ∙ ap (λ d. d.number) (sym def)) x t.tables at

-- an act that makes this of its table, and then the others
followed : (n : ℕ) (f : Table → Option Table) (act : Act) (acts : List Act) (t : Tables) (x y : Table) → apply act t ≡ on_table n f t → table_at t n ≡ Some x → f x ≡ Some y
    → Applies (with_table n t y) acts → Applies t (act ∷ acts)
followed n f act acts t x y means at is rest = (rest.0, ap (option_and_then (apply_all acts)) (means ∙ made n f t x y at is) ∙ rest.1)

-- ---- Delete

kept_behind : (e d : Row) → row_eq e d ≡ false → (rows : List Row) → list_any (row_eq e) rows ≡ true → list_any (row_eq e) (filter (λ row. not (row_eq row d)) rows) ≡ true
kept_behind e d other [] h = cc
kept_behind e d other (r ∷ rs) h = elim (cases_Bool (row_eq e r)) [
  | inl here ↦
      let no : row_eq r d ≡ false = ap (λ z. row_eq z d) (sym (equal e r here)) ∙ other in
      rw (no, here) refl
  | inr there ↦
      let later : (row_eq e r || list_any (row_eq e) rs) ≡ true = h in
      let rest = kept_behind e d other rs (rw there at later) in
      elim (row_eq r d) as (λ v. list_any (row_eq e) (cond (not v) (r ∷ filter (λ row. not (row_eq row d)) rs) (filter (λ row. not (row_eq row d)) rs)) ≡ true) [
        | true ↦ rest
        | false ↦ or_right (row_eq e r) (list_any (row_eq e) (filter (λ row. not (row_eq row d)) rs)) rest
      ]
]

all_kept_behind : (def : TableDef) (d : Row) (rows ds : List Row) → list_all (λ e. is_lt (by_key def d e)) ds ≡ true → list_all (λ e. list_any (row_eq e) rows) ds ≡ true
    → list_all (λ e. list_any (row_eq e) (filter (λ row. not (row_eq row d)) rows)) ds ≡ true
all_kept_behind def d rows [] less has = refl
all_kept_behind def d rows (e ∷ es) less has =
    let l = and_parts (is_lt (by_key def d e)) (list_all (λ z. is_lt (by_key def d z)) es) less in
    let h = and_parts (list_any (row_eq e) rows) (list_all (λ z. list_any (row_eq z) rows) es) has in
    and_from (list_any (row_eq e) (filter (λ row. not (row_eq row d)) rows)) (list_all (λ z. list_any (row_eq z) (filter (λ row. not (row_eq row d)) rows)) es)
    (kept_behind e d (apart def d e l.0) rows h.0) (all_kept_behind def d rows es l.1 h.1)

-- rows that stand, in key order, are deleted one after another
pub deletes_apply : (n : ℕ) (ds : List Row) (t : Tables) (x : Table) → table_at t n ≡ Some x → list_all (has_row x) ds ≡ true → rising (by_key x.def) ds ≡ true
    → Applies t (map OnRow (map (change.Delete n) ds))
deletes_apply n [] t x at has up = (t, refl)
deletes_apply n (d ∷ ds) t x at has up =
    followed n (after_delete d) (OnRow (change.Delete n d)) (map OnRow (map (change.Delete n) ds)) t x y refl at is
    (deletes_apply n ds (with_table n t y) y (still n t x y at refl) (all_kept_behind x.def d x.rows ds u.0 h.1) u.1)
  where
    y : Table
    y = record x { rows = filter (λ row. not (row_eq row d)) x.rows }

    h : (has_row x d ≡ true) × (list_all (has_row x) ds ≡ true)
    h = and_parts (has_row x d) (list_all (has_row x) ds) has

    u : (list_all (λ e. is_lt (by_key x.def d e)) ds ≡ true) × (rising (by_key x.def) ds ≡ true)
    u = and_parts (list_all (λ e. is_lt (by_key x.def d e)) ds) (rising (by_key x.def) ds) up

    is : after_delete d x ≡ Some y
    is = rw h.0 refl

-- ---- Update

kept_beside : (e d after : Row) → row_eq e d ≡ false → (rows : List Row) → list_any (row_eq e) rows ≡ true → list_any (row_eq e) (map (λ row. if row_eq row d then after else row) rows) ≡ true
kept_beside e d after other [] h = cc
kept_beside e d after other (r ∷ rs) h = elim (cases_Bool (row_eq e r)) [
  | inl here ↦
      let no : row_eq r d ≡ false = ap (λ z. row_eq z d) (sym (equal e r here)) ∙ other in
      rw (no, here) refl
  | inr there ↦
      let later : (row_eq e r || list_any (row_eq e) rs) ≡ true = h in
      or_right (row_eq e (if row_eq r d then after else r)) (list_any (row_eq e) (map (λ row. if row_eq row d then after else row) rs))
      (kept_beside e d after other rs (rw there at later))
]

all_kept_beside : (def : TableDef) (d after : Row) (rows ds : List Row) → list_all (λ e. is_lt (by_key def d e)) ds ≡ true → list_all (λ e. list_any (row_eq e) rows) ds ≡ true
    → list_all (λ e. list_any (row_eq e) (map (λ row. if row_eq row d then after else row) rows)) ds ≡ true
all_kept_beside def d after rows [] less has = refl
all_kept_beside def d after rows (e ∷ es) less has =
    let l = and_parts (is_lt (by_key def d e)) (list_all (λ z. is_lt (by_key def d z)) es) less in
    let h = and_parts (list_any (row_eq e) rows) (list_all (λ z. list_any (row_eq z) rows) es) has in
    and_from (list_any (row_eq e) (map (λ row. if row_eq row d then after else row) rows)) (list_all (λ z. list_any (row_eq z) (map (λ row. if row_eq row d then after else row) rows)) es)
    (kept_beside e d after (apart def d e l.0) rows h.0) (all_kept_beside def d after rows es l.1 h.1)

-- a row that is changed has its key, and fits
abbrev pub is_changed : TableDef → (Row → Row) → Row → Bool
is_changed def f d = row_eq (key_of def d) (key_of def (f d)) && fits def (f d)

-- rows that stand, in key order, are updated one after another
pub updates_apply : (n : ℕ) (f : Row → Row) (ds : List Row) (t : Tables) (x : Table) → table_at t n ≡ Some x → list_all (has_row x) ds ≡ true → rising (by_key x.def) ds ≡ true
    → list_all (is_changed x.def f) ds ≡ true → Applies t (map OnRow (map (λ row. change.Update n row (f row)) ds))
updates_apply n f [] t x at has up fit = (t, refl)
updates_apply n f (d ∷ ds) t x at has up fit =
    followed n (after_update d (f d)) (OnRow (change.Update n d (f d))) (map OnRow (map (λ row. change.Update n row (f row)) ds)) t x y refl at is
    (updates_apply n f ds (with_table n t y) y (still n t x y at refl) (all_kept_beside x.def d (f d) x.rows ds u.0 h.1) u.1 g.1)
  where
    y : Table
    y = record x { rows = map (λ row. if row_eq row d then f d else row) x.rows }

    h : (has_row x d ≡ true) × (list_all (has_row x) ds ≡ true)
    h = and_parts (has_row x d) (list_all (has_row x) ds) has

    u : (list_all (λ e. is_lt (by_key x.def d e)) ds ≡ true) × (rising (by_key x.def) ds ≡ true)
    u = and_parts (list_all (λ e. is_lt (by_key x.def d e)) ds) (rising (by_key x.def) ds) up

    g : (is_changed x.def f d ≡ true) × (list_all (is_changed x.def f) ds ≡ true)
    g = and_parts (is_changed x.def f d) (list_all (is_changed x.def f) ds) fit

    k : (row_eq (key_of x.def d) (key_of x.def (f d)) ≡ true) × (fits x.def (f d) ≡ true)
    k = and_parts (row_eq (key_of x.def d) (key_of x.def (f d))) (fits x.def (f d)) g.0

    is : after_update d (f d) x ≡ Some y
    is = rw (h.0, k.0, k.1) refl

-- ---- Insert

no_refusal : (b : Bool) (refusal : Refusal) (more : List Refusal) → (if b then refusal ∷ [] else []) ++ more ≡ [] → (b ≡ false) × (more ≡ [])
no_refusal true refusal more h = cc
no_refusal false refusal more h = (refl, h)

-- rows that fit are inserted one after another, where none is refused
pub inserts_apply : (n : ℕ) (rs : List Row) (t : Tables) (x : Table) → table_at t n ≡ Some x → list_all (fits x.def) rs ≡ true
    → all_refusals t (map (change.Insert n) rs) ≡ [] → Applies t (map OnRow (map (change.Insert n) rs))
inserts_apply n [] t x at fit none = (t, refl)
inserts_apply n (r ∷ rs) t x at fit none =
    followed n (after_insert r) (OnRow (change.Insert n r)) (map OnRow (map (change.Insert n) rs)) t x y refl at is
    (inserts_apply n rs (with_table n t y) y (still n t x y at refl) f.1 later)
  where
    y : Table
    y = record x { rows = with_row x.def r x.rows }

    f : (fits x.def r ≡ true) × (list_all (fits x.def) rs ≡ true)
    f = and_parts (fits x.def r) (list_all (fits x.def) rs) fit

    here : (if has_key x (key_of x.def r) then Duplicate (key_of x.def r) ∷ [] else []) ++ all_refusals (unwrap_or (on_table n (after_insert r) t) t) (map (change.Insert n) rs) ≡ []
    here = ap (λ o. stands_already o r ++ all_refusals (unwrap_or (on_table n (after_insert r) t) t) (map (change.Insert n) rs)) (sym at) ∙ none

    free : (has_key x (key_of x.def r) ≡ false) × (all_refusals (unwrap_or (on_table n (after_insert r) t) t) (map (change.Insert n) rs) ≡ [])
    free = no_refusal (has_key x (key_of x.def r)) (Duplicate (key_of x.def r)) (all_refusals (unwrap_or (on_table n (after_insert r) t) t) (map (change.Insert n) rs)) here

    is : after_insert r x ≡ Some y
    is = rw (f.0, free.0) refl

    later : all_refusals (with_table n t y) (map (change.Insert n) rs) ≡ []
    later = ap (λ o. all_refusals (unwrap_or o t) (map (change.Insert n) rs)) (sym (made n (after_insert r) t x y at is)) ∙ free.1
