-- The rows of all row pages, put in page by page, give the tables.
use Rattle.std.proofs.Common.{◌≡◌, ◌≢◌, ◌⊎◌, ⊎_elim, inl, inr, ℕ, zero, suc, ◌+◌, ◌<◌, ◌≤◌, ◌==◌, ◌&&◌, Bool, true, false, not, List, [], ◌∷◌, map, Option, Some, None, refl, sym, ◌∙◌, ap, ap₂, subst, arith, if◌then◌else◌}
use Rattle.std.specs.Prelude.{nat_eq, nat_lt, unwrap_or}
use Rattle.std.specs.List.{list_any, list_all, find, AllByRecursion}
use Rattle.std.specs.Option.{option_and_then, option_or}
use Rattle.std.proofs.lemmas.Bool.{cases_Bool, cases_eq, cases_lt, lt-ltb, ltb-true, le-ltb, eq-eqb, ne_eqb}
use Rattle.wat_book.specs.Book.{Book, Owners, Section, section}
use Rattle.wat_book.specs.Chains.{all_pages}
use Rattle.wat_book.proofs.Chaining.{in_section, in_all}
use Rattle.wat_book.proofs.Working.{section_at}
use Rattle.wat_slot.specs.Cells.{IsCellPage}
use Rattle.wat_value.specs.Order.{key_eq}
use Rattle.wat_value.specs.Fits.{key_of}
use Rattle.wat_schema.specs.Catalog.{Catalog, Listing, in_order, def_at}
use Rattle.wat_schema.specs.Tables.{Table, Tables, listing_of, catalog_of, table_at, row_with, row_at, are_tables, is_table}
use Rattle.wat_rows.specs.Rows.{Row, NamedRow, RowMap, Defs, cells_of, names_of, row_named, times, IsRowOf}
use Rattle.wat_rows.specs.Pages.{Layout, PlaceMap, rows_on, Stands, is_at, row_where, AreNamed, AreRowPages, of_rows}
use Rattle.wat_files.specs.Rows.{Placed, cell_of, IsPlaced, IsRowPage, HasRows, emptied, AddsPage, AddsPages, pages_but}
use Rattle.wat_files.proofs.Lawful.{none_wrong, emptied_schema}
use Rattle.wat_held.proofs.Inserting.{Good, placed_of, none_named, PutAll, put_all}

-- ---- the schema without rows

pub good_emptied : (schema : Catalog) → in_order schema ≡ true → Good schema (emptied schema)
good_emptied schema order = record {
  tables = ap (λ (c : Catalog). in_order c && list_all is_table (emptied schema).tables) (emptied_schema schema)
      ∙ ap (λ b. b && list_all is_table (emptied schema).tables) order ∙ none_wrong schema.tables;
  is = emptied_schema schema;
}

no_row : (key : Row) (x : Table) (rest : Option Table) (b : Bool) → x.rows ≡ [] → option_and_then (λ (y : Table). row_with y key) rest ≡ None
    → option_and_then (λ (y : Table). row_with y key) (if b then Some x else rest) ≡ None
no_row key x rest true none later = ap (find (λ (row : Row). key_eq (key_of x.def row) key)) none
no_row key x rest false none later = later

no_rows : (xs : List Listing) (number : ℕ) (key : Row)
    → option_and_then (λ (x : Table). row_with x key) (find (λ (x : Table). number == x.def.number) (map (λ (x : Listing). record { def = x.def; indexes = x.indexes; rows = [] }) xs)) ≡ None
no_rows [] number key = refl
no_rows (x ∷ xs) number key =
    no_row key (record { def = x.def; indexes = x.indexes; rows = [] })
    (find (λ (y : Table). number == y.def.number) (map (λ (y : Listing). record { def = y.def; indexes = y.indexes; rows = [] }) xs)) (number == x.def.number) refl (no_rows xs number key)

pub emptied_at : (schema : Catalog) (number : ℕ) (key : Row) → row_at (emptied schema) number key ≡ None
emptied_at schema number key = no_rows schema.tables number key

-- ---- a row page

cells_same : (rows : List NamedRow) → map cell_of (map placed_of rows) ≡ cells_of rows
cells_same [] = refl
cells_same (it ∷ rows) = ap (λ (rest : List (List ℕ)). cell_of (placed_of it) ∷ rest) (cells_same rows)

are_placed : (defs : Defs) (rows : List NamedRow) → AllByRecursion (IsRowOf defs) rows → AllByRecursion IsPlaced (map placed_of rows)
are_placed defs [] are = tt
are_placed defs (it ∷ rows) are = (record { table = are.0.number; row = are.0.encodable }, are_placed defs rows are.1)

row_page : (defs : Defs) (bytes : List ℕ) (rows : List NamedRow) → IsCellPage bytes (cells_of rows) → AllByRecursion (IsRowOf defs) rows → IsRowPage bytes (map placed_of rows)
row_page defs bytes rows cells are = record { cells = subst (IsCellPage bytes) (sym (cells_same rows)) cells; encodable = are_placed defs rows are }

-- ---- the rows of the pages below a number

abbrev pub before : Layout → ℕ → ℕ → Row → Option ℕ → Option Row
before on n table key None = None
before on n table key (Some page) = if nat_lt page n then row_named table key (rows_on on page) else None

or_none : (o : Option Row) → option_or o None ≡ o
or_none None = refl
or_none (Some row) = refl

is_place : (o : Option ℕ) (page : ℕ) → (o ≡ Some page) ⊎ (o ≡ Some page → ⊥)
is_place None page = inr (λ e. cc)
is_place (Some p) page = ⊎_elim (λ (same : p ≡ page). inl (ap Some same)) (λ (other : p ≢ page). inr (λ e. other (same_page p page e))) (cases_eq p page)
  where
    same_page : (a b : ℕ) → Some a ≡ Some b → a ≡ b
    same_page a b e = cc

abbrev counted : Bool → ℕ
counted b = if b then 1 else 0

one_here : (o : Option ℕ) (page : ℕ) → o ≡ Some page → counted (is_at page o) ≡ 1
one_here o page e = ap (λ (q : Option ℕ). counted (is_at page q)) e ∙ ap counted (eq-eqb page page refl)

none_here : (o : Option ℕ) (page : ℕ) → (o ≡ Some page → ⊥) → counted (is_at page o) ≡ 0
none_here None page not_here = refl
none_here (Some p) page not_here = ap counted (ne_eqb p page (λ same. not_here (ap Some same)))

same_test : (page n : ℕ) → page ≢ n → nat_lt page n ≡ nat_lt page (n + 1)
same_test page n other = ⊎_elim
    (λ (less : page < n). lt-ltb page n less ∙ sym (lt-ltb page (n + 1) (omega (arith, less))))
    (λ (more : n ≤ page). le-ltb page n more ∙ sym (le-ltb page (n + 1) (omega (arith, more, other))))
    (cases_lt page n)

before_next : (on : Layout) (n table : ℕ) (key : Row) (o : Option ℕ) → (o ≡ Some n → ⊥) → before on n table key o ≡ before on (n + 1) table key o
before_next on n table key None other = refl
before_next on n table key (Some page) other = ap (λ b. if b then row_named table key (rows_on on page) else None) (same_test page n (λ same. other (ap Some same)))

before_here : (on : Layout) (n table : ℕ) (key : Row) (o : Option ℕ) → o ≡ Some n → before on n table key o ≡ None
before_here on n table key o e = ap (before on n table key) e ∙ ap (λ b. if b then row_named table key (rows_on on n) else None) (le-ltb n n (omega arith))

now_here : (on : Layout) (n table : ℕ) (key : Row) (o : Option ℕ) → o ≡ Some n → before on (n + 1) table key o ≡ row_named table key (rows_on on n)
now_here on n table key o e = ap (before on (n + 1) table key) e ∙ ap (λ b. if b then row_named table key (rows_on on n) else None) (lt-ltb n (n + 1) (omega arith))

-- ---- the walk

-- The pages lead from tables to others, which have the rows of all pages below a number.
pub record Walked (pages : Section) (schema : Catalog) (on : Layout) (place : PlaceMap) (list : List ℕ) (end : ℕ) (t : Tables) : Type 0 where
  pub to : Tables
  pub adds : AddsPages pages list t to
  pub good : Good schema to
  pub at : (table : ℕ) (key : Row) → row_at to table key ≡ before on end table key (place table key)

module _ (book : Book) (owners : Owners) (schema : Catalog) (on : Layout) (place : PlaceMap) (rows : RowMap) (stand : AreRowPages (section book owners of_rows) on) (named : AreNamed (def_at schema) on place rows) where
  abbrev Place : ℕ → Row → Option ℕ
  Place table key = place table key

  pub none_on : (page : ℕ) → (page < book.count → owners page ≢ of_rows) → on page ≡ None
  none_on page other = by (section book owners of_rows page) (on page) refl (stand page)
    where
      by : (o : Option (List ℕ)) (r : Option (List NamedRow)) → section book owners of_rows page ≡ o → Stands o r → r ≡ None
      by None None is stands = refl
      by None (Some r) is stands = absurd stands
      by (Some bytes) None is stands = refl
      by (Some bytes) (Some r) is stands = let at = in_section book owners of_rows page bytes is in absurd (other at.0 at.1)

  some_on : (page : ℕ) → page < book.count → owners page ≡ of_rows → (r : List NamedRow) × (on page ≡ Some r) × IsCellPage (book.page page) (cells_of r)
  some_on page below mine = by (on page) refl (subst (λ (o : Option (List ℕ)). Stands o (on page)) (section_at book owners of_rows page below mine) (stand page))
    where
      by : (r : Option (List NamedRow)) → on page ≡ r → Stands (Some (book.page page)) r → (x : List NamedRow) × (on page ≡ Some x) × IsCellPage (book.page page) (cells_of x)
      by None is stands = absurd stands
      by (Some x) is stands = (x, is, stands)

  none_listed : (page : ℕ) → on page ≡ None → (table : ℕ) (key : Row) → place table key ≡ Some page → ⊥
  none_listed page none table key here =
      let count : times table key (names_of (rows_on on page)) ≡ 1 = named.once page table key ∙ one_here (place table key) page here in
      let nothing : times table key (names_of (rows_on on page)) ≡ 0 = ap (λ (r : Option (List NamedRow)). times table key (names_of (unwrap_or r []))) none in
      omega (arith, count, nothing)

  skipped : (n : ℕ) (t : Tables) → on n ≡ None → ((table : ℕ) (key : Row) → row_at t table key ≡ before on n table key (place table key))
      → (table : ℕ) (key : Row) → row_at t table key ≡ before on (n + 1) table key (place table key)
  skipped n t none at table key = at table key ∙ before_next on n table key (place table key) (none_listed n none table key)

  -- the rows of one page are put in
  record Step (n : ℕ) (t : Tables) : Type 0 where
    to : Tables
    adds : AddsPage (all_pages book) n t to
    good : Good schema to
    at : (table : ℕ) (key : Row) → row_at to table key ≡ before on (n + 1) table key (place table key)

  step : (n : ℕ) (t : Tables) → n < book.count → owners n ≡ of_rows → Good schema t → ((table : ℕ) (key : Row) → row_at t table key ≡ before on n table key (place table key)) → Step n t
  step n t below mine good at =
      let found = some_on n below mine in
      let rs = found.0 in
      let is : rows_on on n ≡ rs = ap (λ (r : Option (List NamedRow)). unwrap_or r []) found.1 in
      let are : AllByRecursion (IsRowOf (def_at schema)) rs = subst (AllByRecursion (IsRowOf (def_at schema))) is (named.allowed n) in
      let count : (table : ℕ) (key : Row) → times table key (names_of rs) ≡ counted (is_at n (place table key)) =
      λ table key. sym (ap (λ (r : List NamedRow). times table key (names_of r)) is) ∙ named.once n table key in
      let put : PutAll schema t rs = put_all schema rs t good are
      (λ table key. ⊎_elim
      (λ (here : place table key ≡ Some n). omega (arith, count table key, one_here (place table key) n here))
      (λ (other : place table key ≡ Some n → ⊥). omega (arith, count table key, none_here (place table key) n other))
      (is_place (place table key) n))
      (λ table key some. ⊎_elim
      (λ (here : place table key ≡ Some n). at table key ∙ before_here on n table key (place table key) here)
      (λ (other : place table key ≡ Some n → ⊥). absurd (omega (arith, some, count table key, none_here (place table key) n other)))
      (is_place (place table key) n)) in
      record {
        to = put.to;
        adds = record {
          rows = map placed_of rs;
          has = subst (λ (o : Option (List ℕ)). HasRows o (map placed_of rs)) (sym (in_all book n below)) (row_page (def_at schema) (book.page n) rs found.2 are);
          added = put.made;
        };
        good = put.good;
        at = λ table key. put.at table key ∙ ⊎_elim
            (λ (here : place table key ≡ Some n).
            ap (option_or (row_named table key rs)) (at table key ∙ before_here on n table key (place table key) here) ∙ or_none (row_named table key rs)
            ∙ sym (now_here on n table key (place table key) here ∙ ap (row_named table key) is))
            (λ (other : place table key ≡ Some n → ⊥).
            ap (λ (o : Option Row). option_or o (row_at t table key)) (none_named table key rs (count table key ∙ none_here (place table key) n other))
            ∙ at table key ∙ before_next on n table key (place table key) other)
            (is_place (place table key) n);
      }

  module _ (listed : List ℕ) (others : (page : ℕ) → 0 < page → page < book.count → list_any (nat_eq page) listed ≡ true → owners page ≢ of_rows)
      (mine : (page : ℕ) → 0 < page → page < book.count → list_any (nat_eq page) listed ≡ false → owners page ≡ of_rows) where
    abbrev WalkedOn : List ℕ → ℕ → Tables → Type 0
    WalkedOn list end t = Walked (all_pages book) schema on place list end t

    -- one page, and those behind it
    one_page : (n end : ℕ) (rest : List ℕ) (t : Tables) (b : Bool) → list_any (nat_eq n) listed ≡ b → 0 < n → n < book.count → Good schema t
        → ((table : ℕ) (key : Row) → row_at t table key ≡ before on n table key (place table key))
        → ((u : Tables) → Good schema u → ((table : ℕ) (key : Row) → row_at u table key ≡ before on (n + 1) table key (place table key)) → WalkedOn rest end u)
        → WalkedOn (if not b then n ∷ rest else rest) end t
    one_page n end rest t true is some below good at later = later t good (skipped n t (none_on n (λ there. others n some below is)) at)
    one_page n end rest t false is some below good at later =
        let one = step n t below (mine n some below is) good at in
        let more = later one.to one.good one.at in
        record { to = more.to; adds = (one.to, one.adds, more.adds); good = more.good; at = more.at }

    pub walk : (n from : ℕ) (t : Tables) → 0 < from → from + n ≤ book.count → Good schema t → ((table : ℕ) (key : Row) → row_at t table key ≡ before on from table key (place table key))
        → WalkedOn (pages_but listed from n) (from + n) t
    walk zero from t some within good at = record {
      to = t;
      adds = refl;
      good = good;
      at = λ table key. at table key ∙ (let e : from ≡ from + 0 = omega arith in ap (λ (k : ℕ). before on k table key (place table key)) e);
    }
    walk (suc n) from t some within good at =
        one_page from (from + suc n) (pages_but listed (from + 1) n) t (list_any (nat_eq from) listed) refl some (omega (arith, within)) good at
        (λ u fine there. let e : from + 1 + n ≡ from + suc n = omega arith in
        subst (λ (end : ℕ). WalkedOn (pages_but listed (from + 1) n) end u) e (walk n (from + 1) u (omega arith) (omega (arith, within)) fine there))

  -- behind the last page all rows are there
  pub all_before : (table : ℕ) (key : Row) → before on book.count table key (place table key) ≡ rows table key
  all_before table key = by (place table key) ∙ sym (named.found table key)
    where
      far : (page : ℕ) (b : Bool) → nat_lt page book.count ≡ b → (if b then row_named table key (rows_on on page) else None) ≡ row_named table key (rows_on on page)
      far page true is = refl
      far page false is =
          sym (ap (λ (r : Option (List NamedRow)). row_named table key (unwrap_or r [])) (none_on page (λ below. absurd (let no : true ≡ false = sym (lt-ltb page book.count below) ∙ is in cc))))

      by : (o : Option ℕ) → before on book.count table key o ≡ row_where on table key o
      by None = refl
      by (Some page) = far page (nat_lt page book.count) refl

  pub none_before : owners 0 ≢ of_rows → (table : ℕ) (key : Row) → before on 1 table key (place table key) ≡ None
  none_before first table key = by (place table key)
    where
      none_at : (page : ℕ) (b : Bool) → nat_lt page 1 ≡ b → (if b then row_named table key (rows_on on page) else None) ≡ None
      none_at page true is =
          let zero_page : page ≡ 0 = omega (arith, ltb-true page 1 is) in
          ap (λ (r : Option (List NamedRow)). row_named table key (unwrap_or r [])) (none_on page (λ below mine. first (ap owners (sym zero_page) ∙ mine)))
      none_at page false is = refl

      by : (o : Option ℕ) → before on 1 table key o ≡ None
      by None = refl
      by (Some page) = none_at page (nat_lt page 1) refl
