-- Tables of one schema in which each name finds the same row are the same lists.
use Rattle.std.proofs.Common.{◌≡◌, ℕ, ◌<◌, ◌==◌, nat_lt, nat_le, Bool, true, false, cond, ◌&&◌, List, [], ◌∷◌, map, Option, Some, None, refl, sym, ap, ◌∙◌, subst, inl, inr, ⊎_elim, arith}
use Rattle.std.specs.List.{find, list_all}
use Rattle.std.specs.Option.{option_and_then}
use Rattle.std.specs.declared.cmp.Ordering.{Ordering}
use Rattle.std.specs.declared.cmp.Ordering.TheVariants.{Less, Equal, Greater}
use Rattle.std.specs.Ordering.{is_lt, is_eq}
use Rattle.std.proofs.lemmas.Bool.{and_parts, cases_Bool, both_ways, eqb-true, eq-eqb, ltb-true}
use Rattle.wat_list.specs.Has.{Has}
use Rattle.wat_list.proofs.Members.{has_map, map_has, all_has}
use Rattle.wat_value.specs.declared.value.Value.{Value}
use Rattle.wat_value.specs.declared.definition.TableDef.{TableDef}
use Rattle.wat_value.specs.Changes.{RowName}
use Rattle.wat_value.specs.Fits.{fits, key_of}
use Rattle.wat_schema.specs.Catalog.{Catalog, Listing, ascend, in_order, numbers_of}
use Rattle.wat_schema.specs.Tables.{Row, Table, Tables, listing_of, catalog_of, row_eq, row_with, by_key, rising, is_table}
use Rattle.wat_schema.proofs.Database.{in_their_order}
use Rattle.wat_schema.proofs.TableLaws.{itself}
use Rattle.wat_isolation.specs.Rows.{Rising}
use Rattle.wat_isolation.specs.Sql.{sql}
use Rattle.wat_isolation.proofs.Orders.{rising_once}
use Rattle.wat_scans.specs.Look.{IsOf}
use Rattle.wat_scans.proofs.Found.{find_has}

abbrev row_with_key : Option Table → List Value → Option Row
row_with_key o k = option_and_then (λ x. row_with x k) o

not_level : (o : Ordering) → is_lt o ≡ true → is_eq o ≡ false
not_level Less h = refl
not_level Equal h = absurd (both_ways false refl h)
not_level Greater h = absurd (both_ways false refl h)

-- rows in key order: each is found by its key
found_row : (def : TableDef) (rows : List Row) (row : Row) → rising (by_key def) rows ≡ true → Has row rows → find (λ r. row_eq (key_of def r) (key_of def row)) rows ≡ Some row
found_row def [] row up m = absurd m
found_row def (y ∷ ys) row up (inl e) =
    ap (λ b. cond b (Some y) (find (λ r. row_eq (key_of def r) (key_of def row)) ys)) (subst (λ z. row_eq (key_of def y) (key_of def z) ≡ true) e (itself (key_of def y))) ∙ ap Some e
found_row def (y ∷ ys) row up (inr m) =
    let p = and_parts (list_all (λ other. is_lt (by_key def y other)) ys) (rising (by_key def) ys) up in
    ap (λ b. cond b (Some y) (find (λ r. row_eq (key_of def r) (key_of def row)) ys)) (not_level (by_key def y row) (all_has (λ other. is_lt (by_key def y other)) row ys p.0 m))
    ∙ found_row def ys row p.1 m

none_found : {A : Type 0} (p : A → Bool) (xs : List A) → ((x : A) → Has x xs → p x ≡ false) → find p xs ≡ None
none_found p [] h = refl
none_found p (x ∷ xs) h = ap (λ b. cond b (Some x) (find p xs)) (h x (inl refl)) ∙ none_found p xs (λ y m. h y (inr m))

abbrev keyed : TableDef → Row → List Value × Row
keyed def row = (key_of def row, row)

rise : (def : TableDef) (rows : List Row) → rising (by_key def) rows ≡ true → Rising sql (map (keyed def) rows)
rise def [] h = tt
rise def (x ∷ xs) h =
    let p = and_parts (list_all (λ other. is_lt (by_key def x other)) xs) (rising (by_key def) xs) h in
    (λ d m. let r = has_map (keyed def) d xs m in subst (λ (z : List Value × Row). sql.less (key_of def x) z.0 ≡ true) r.2 (all_has (λ other. is_lt (by_key def x other)) r.0 xs p.0 r.1), rise def xs p.1)

unkeyed : (def : TableDef) (rows : List Row) → map (λ (z : List Value × Row). z.1) (map (keyed def) rows) ≡ rows
unkeyed def [] = refl
unkeyed def (x ∷ xs) = ap (λ z. x ∷ z) (unkeyed def xs)

same_rows : (def : TableDef) (xs ys : List Row) → rising (by_key def) xs ≡ true → rising (by_key def) ys ≡ true
    → ((k : List Value) → find (λ row. row_eq (key_of def row) k) xs ≡ find (λ row. row_eq (key_of def row) k) ys) → xs ≡ ys
same_rows def xs ys a b h =
    sym (unkeyed def xs)
    ∙ (ap (map (λ (z : List Value × Row). z.1)) (rising_once sql (map (keyed def) xs) (map (keyed def) ys) (rise def xs a) (rise def ys b)
    (λ e m. over xs ys a h e m) (λ e m. over ys xs b (λ k. sym (h k)) e m))
    ∙ unkeyed def ys)
  where
    over : (us vs : List Row) → rising (by_key def) us ≡ true → ((k : List Value) → find (λ row. row_eq (key_of def row) k) us ≡ find (λ row. row_eq (key_of def row) k) vs)
        → (e : List Value × Row) → Has e (map (keyed def) us) → Has e (map (keyed def) vs)
    over us vs up k e m =
        let r = has_map (keyed def) e us m in
        subst (λ z. Has z (map (keyed def) vs)) r.2 (map_has (keyed def) r.0 vs (find_has (λ row. row_eq (key_of def row) (key_of def r.0)) r.0 vs (sym (k (key_of def r.0)) ∙ found_row def us r.0 up r.1)).0)

above_low : (low : ℕ) (ts : List Table) (high : ℕ) (t : Table) → ascend low (numbers_of (map listing_of ts)) high ≡ true → Has t ts → low < t.def.number
above_low low [] high t h m = absurd m
above_low low (u ∷ us) high t h m =
    let p = and_parts (nat_lt low u.def.number && nat_lt u.def.number high) (ascend u.def.number (numbers_of (map listing_of us)) high) h in
    let l : low < u.def.number = ltb-true low u.def.number (and_parts (nat_lt low u.def.number) (nat_lt u.def.number high) p.0).0 in
    ⊎_elim (λ (e : u ≡ t). subst (λ (z : Table). low < z.def.number) e l) (λ (n : Has t us). let g : u.def.number < t.def.number = above_low u.def.number us high t p.1 n in omega (arith, l, g)) m

none_there : (n low : ℕ) (ts : List Table) (high : ℕ) → ascend low (numbers_of (map listing_of ts)) high ≡ true → n ≡ low → find (λ (z : Table). n == z.def.number) ts ≡ None
none_there n low ts high h e = none_found (λ (z : Table). n == z.def.number) ts (λ t m.
    let g : low < t.def.number = above_low low ts high t h m in
    ⊎_elim (λ (y : (n == t.def.number) ≡ true). absurd (let s : n ≡ t.def.number = eqb-true n t.def.number y in omega (arith, s, g, e))) (λ f. f) (cases_Bool (n == t.def.number)))

same_tables : (low : ℕ) (xs ys : List Table) (high : ℕ) → map listing_of xs ≡ map listing_of ys → ascend low (numbers_of (map listing_of xs)) high ≡ true → list_all is_table xs ≡ true → list_all is_table ys ≡ true
    → ((n : ℕ) (k : List Value) → row_with_key (find (λ (z : Table). n == z.def.number) xs) k ≡ row_with_key (find (λ (z : Table). n == z.def.number) ys) k) → xs ≡ ys
same_tables low [] [] high e up a b h = refl
same_tables low [] (y ∷ ys) high e up a b h = absurd (cc)
same_tables low (x ∷ xs) [] high e up a b h = absurd (cc)
same_tables low (x ∷ xs) (y ∷ ys) high e up a b h =
    let p = and_parts (nat_lt low x.def.number && nat_lt x.def.number high) (ascend x.def.number (numbers_of (map listing_of xs)) high) up in
    let rest : xs ≡ ys = same_tables x.def.number xs ys high tails p.1 (and_parts (is_table x) (list_all is_table xs) a).1 (and_parts (is_table y) (list_all is_table ys) b).1 (λ n k. later p.1 n k) in
    λ i. record { def = def_is i; indexes = (ap (λ (z : Listing). z.indexes) heads) i; rows = rows_are i } ∷ rest i
  where
    heads : listing_of x ≡ listing_of y
    heads = cc

    tails : map listing_of xs ≡ map listing_of ys
    tails = cc

    def_is : x.def ≡ y.def
    def_is = ap (λ (z : Listing). z.def) heads

    at_x : (x.def.number == x.def.number) ≡ true
    at_x = eq-eqb x.def.number x.def.number refl

    at_y : (x.def.number == y.def.number) ≡ true
    at_y = eq-eqb x.def.number y.def.number (ap (λ (z : TableDef). z.number) def_is)

    rows_are : x.rows ≡ y.rows
    rows_are = same_rows x.def x.rows y.rows
        (and_parts (list_all (fits x.def) x.rows) (rising (by_key x.def) x.rows) (and_parts (is_table x) (list_all is_table xs) a).0).1
        (ap (λ (d : TableDef). rising (by_key d) y.rows) def_is ∙ (and_parts (list_all (fits y.def) y.rows) (rising (by_key y.def) y.rows) (and_parts (is_table y) (list_all is_table ys) b).0).1)
        (λ k. ap (λ t. row_with_key t k) (sym (ap (λ t. cond t (Some x) (find (λ (z : Table). x.def.number == z.def.number) xs)) at_x))
        ∙ (h x.def.number k
        ∙ (ap (λ t. row_with_key t k) (ap (λ t. cond t (Some y) (find (λ (z : Table). x.def.number == z.def.number) ys)) at_y)
        ∙ ap (λ (d : TableDef). find (λ row. row_eq (key_of d row) k) y.rows) (sym def_is))))

    later : ascend x.def.number (numbers_of (map listing_of xs)) high ≡ true → (n : ℕ) (k : List Value) → row_with_key (find (λ (z : Table). n == z.def.number) xs) k ≡ row_with_key (find (λ (z : Table). n == z.def.number) ys) k
    later order n k = by (n == x.def.number) refl
      where
        by : (t : Bool) → (n == x.def.number) ≡ t → row_with_key (find (λ (z : Table). n == z.def.number) xs) k ≡ row_with_key (find (λ (z : Table). n == z.def.number) ys) k
        by true t =
            let s : n ≡ x.def.number = eqb-true n x.def.number t in
            ap (λ o. row_with_key o k) (none_there n x.def.number xs high order s ∙ sym (none_there n x.def.number ys high (subst (λ z. ascend x.def.number (numbers_of z) high ≡ true) tails order) s))
        by false t =
            ap (λ o. row_with_key o k) (sym (ap (λ c. cond c (Some x) (find (λ (z : Table). n == z.def.number) xs)) t))
            ∙ (h n k
            ∙ ap (λ o. row_with_key o k) (ap (λ c. cond c (Some y) (find (λ (z : Table). n == z.def.number) ys)) (sym (ap (λ (d : TableDef). n == d.number) def_is) ∙ t)))

pub alike : (c : Catalog) (f : RowName → Option Row) (t u : Tables) → IsOf c f t → IsOf c f u → t ≡ u
alike c f t u a b =
    let schema : catalog_of t ≡ catalog_of u = a.schema ∙ sym b.schema in
    let ordered = and_parts (in_order (catalog_of t)) (list_all is_table t.tables) (in_their_order t a.tables) in
    let lists : t.tables ≡ u.tables =
    same_tables 0 t.tables u.tables t.next (ap (λ (z : Catalog). z.tables) schema) (and_parts (nat_le 1 t.next) (ascend 0 (numbers_of (map listing_of t.tables)) t.next) ordered.0).1 a.tables.rows b.tables.rows
    (λ n k. a.rows (record { table = n; key = k }) ∙ sym (b.rows (record { table = n; key = k }))) in
    λ i. record { tables = lists i; next = (ap (λ (z : Catalog). z.next) schema) i }
