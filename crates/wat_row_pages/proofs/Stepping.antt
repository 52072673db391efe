-- The rows of one page more.
use Rattle.std.proofs.Common.{◌≡◌, ◌⊎◌, inl, inr, ⊎_elim, ℕ, ◌+◌, ◌-◌, ◌*◌, ◌<◌, ◌≤◌, ◌==◌, ◌&&◌, Bool, true, false, not, List, [], ◌∷◌, ◌++◌, length, map, Option, Some, None, refl, sym, ◌∙◌, ap, subst, arith, if◌then◌else◌}
use Rattle.std.specs.Prelude.{nat_eq, nat_lt, nat_le}
use Rattle.std.specs.List.{list_any}
use Rattle.std.proofs.lemmas.Bool.{cases_Bool, cases_lt, cases_eq, lt-ltb, le-ltb, le-leb, eq-eqb, ne_eqb, eqb-true}
use Rattle.wat_value.specs.declared.definition.TableDef.{TableDef}
use Rattle.wat_book.specs.Book.{Book, Section, SameBook}
use Rattle.wat_images.specs.declared.refusal.PageRefusal.{PageRefusal}
use Rattle.wat_images.specs.Refusal.{IfDamaged}
use Rattle.wat_images.proofs.Writing.{if_damaged}
use Rattle.wat_schema.specs.Catalog.{Catalog, def_at}
use Rattle.wat_schema.specs.Stored.{IsCatalog, defs_of}
use Rattle.wat_schema.specs.Tables.{Tables, IsTables, catalog_of, row_at}
use Rattle.wat_files.proofs.Lawful.{none_wrong, emptied_schema}
use Rattle.wat_rows.specs.Rows.{Row, RowMap, Defs, NamedRow}
use Rattle.wat_directory.specs.declared.directory.Directory.{Directory}
use Rattle.wat_directory.specs.Known.{Holds}
use Rattle.wat_files.specs.Formed.{IsAtPage}
use Rattle.wat_files.specs.Rows.{Placed, IsRowPage, HasRows, emptied, AddsPage, AddsPages, RowsStop, pages_but, other_pages}
use Rattle.wat_held.proofs.Walked.{emptied_at}
use Rattle.wat_held.proofs.Inserting.{placed_of}
use Rattle.wat_heap.specs.Taking.{def_in, with_page, Takes}
use Rattle.wat_heap.specs.Taking as heap
use Rattle.wat_payload.specs.Reading.{IsSetOf}
use Rattle.wat_free_list.specs.Whole.{whole_pages}
use Rattle.wat_free_list.proofs.Going.{whole_is}
use Rattle.wat_row_pages.specs.Taken.{others_below, TakesTo}
use Rattle.wat_row_pages.proofs.Listing.{but_here, but_past, but_split, adds_more, adds_none, stops_there}
use Rattle.wat_row_pages.proofs.Naming.{same_defs, Added, added, Named, named, as_placed, as_named}

-- ---- the pages below a number

abbrev Below : Book → ℕ → Bool → Bool → Bool → Option (List ℕ)
Below book page some below listed = if some && (below && not listed) then Some (book.page page) else None

none_listed : (book : Book) (page : ℕ) (some below : Bool) → Below book page some below true ≡ None
none_listed book page true true = refl
none_listed book page true false = refl
none_listed book page false below = refl

none_below : (book : Book) (page : ℕ) (some listed : Bool) → Below book page some false listed ≡ None
none_below book page true listed = refl
none_below book page false listed = refl

pub below_one : (book : Book) (listed : List ℕ) (page : ℕ) → others_below book listed 1 page ≡ None
below_one book listed page = ⊎_elim
    (λ (less : page < 1). ap (λ b. Below book page b (nat_lt page 1) (list_any (nat_eq page) listed)) (none_first page less))
    (λ (more : 1 ≤ page). ap (λ b. Below book page (nat_le 1 page) b (list_any (nat_eq page) listed)) (le-ltb page 1 more) ∙ none_below book page (nat_le 1 page) (list_any (nat_eq page) listed))
    (cases_lt page 1)
  where
    none_first : (page : ℕ) → page < 1 → nat_le 1 page ≡ false
    none_first page less = let zero_page : page ≡ 0 = omega (arith, less) in ap (nat_le 1) zero_page

pub not_yet : (book : Book) (listed : List ℕ) (page : ℕ) → others_below book listed page page ≡ None
not_yet book listed page =
    ap (λ b. Below book page (nat_le 1 page) b (list_any (nat_eq page) listed)) (le-ltb page page (omega arith)) ∙ none_below book page (nat_le 1 page) (list_any (nat_eq page) listed)

same_test : (page n : ℕ) → (page ≡ n → ⊥) → nat_lt page n ≡ nat_lt page (n + 1)
same_test page n other = ⊎_elim
    (λ (less : page < n). lt-ltb page n less ∙ sym (lt-ltb page (n + 1) (omega (arith, less))))
    (λ (more : n ≤ page). le-ltb page n more ∙ sym (le-ltb page (n + 1) (omega (arith, more, other))))
    (cases_lt page n)

-- a page that is listed adds none
below_past : (book : Book) (listed : List ℕ) (n page : ℕ) → list_any (nat_eq n) listed ≡ true → others_below book listed n page ≡ others_below book listed (n + 1) page
below_past book listed n page is = ⊎_elim
    (λ (same : page ≡ n).
    let there : list_any (nat_eq page) listed ≡ true = ap (λ p. list_any (nat_eq p) listed) same ∙ is in
    ap (λ b. Below book page (nat_le 1 page) (nat_lt page n) b) there ∙ none_listed book page (nat_le 1 page) (nat_lt page n)
    ∙ sym (ap (λ b. Below book page (nat_le 1 page) (nat_lt page (n + 1)) b) there ∙ none_listed book page (nat_le 1 page) (nat_lt page (n + 1))))
    (λ other. ap (λ b. Below book page (nat_le 1 page) b (list_any (nat_eq page) listed)) (same_test page n other))
    (cases_eq page n)

-- another page is added
below_here : (book : Book) (listed : List ℕ) (n page : ℕ) → 1 ≤ n → list_any (nat_eq n) listed ≡ false → with_page n (book.page n) (others_below book listed n) page ≡ others_below book listed (n + 1) page
below_here book listed n page some is = ⊎_elim
    (λ (same : page ≡ n).
    ap (λ b. if b then Some (book.page n) else others_below book listed n page) (eq-eqb n page (sym same))
    ∙ sym (ap (λ b. Below book page b (nat_lt page (n + 1)) (list_any (nat_eq page) listed)) (le-leb 1 page (omega (arith, some, same)))
    ∙ ap (λ b. Below book page true b (list_any (nat_eq page) listed)) (lt-ltb page (n + 1) (omega (arith, same)))
    ∙ ap (λ b. Below book page true true b) (ap (λ p. list_any (nat_eq p) listed) same ∙ is)
    ∙ ap (λ p. Some (book.page p)) same))
    (λ other.
    ap (λ b. if b then Some (book.page n) else others_below book listed n page) (ne_eqb n page (λ e. other (sym e)))
    ∙ ap (λ b. Below book page (nat_le 1 page) b (list_any (nat_eq page) listed)) (same_test page n other))
    (cases_eq page n)

-- ---- from page to page

pub begins : (book : Book) (listed : List ℕ) (schema : Catalog) (d : Directory) → IsCatalog schema → Holds d (λ page. None) (def_at schema) (λ table key. None) → TakesTo book listed schema 1 d
begins book listed schema d ok h = record {
  t = emptied schema;
  adds = refl;
  tables = record { catalog = subst IsCatalog (sym (emptied_schema schema)) ok; rows = none_wrong schema.tables };
  is = emptied_schema schema;
  rows = λ table key. None;
  holds = subst (λ (pages : Section). Holds d pages (def_at schema) (λ table key. None)) (λ i page. sym (below_one book listed page) i) h;
  at = λ table key. sym (emptied_at schema table key);
}

pub passes : (book : Book) (listed : List ℕ) (schema : Catalog) (n : ℕ) (d after : Directory) → 1 ≤ n → list_any (nat_eq n) listed ≡ true → after ≡ d → TakesTo book listed schema n d → TakesTo book listed schema (n + 1) after
passes book listed schema n d after some is same to = record {
  t = to.t;
  adds = subst (λ (l : List ℕ). AddsPages (whole_pages book) l (emptied schema) to.t) (sym (but_past listed n some is)) (adds_none (whole_pages book) (pages_but listed 1 (n - 1)) (emptied schema) to.t to.adds);
  tables = to.tables;
  is = to.is;
  rows = to.rows;
  holds = subst (λ (pages : Section). Holds after pages (def_at schema) to.rows) (λ i page. below_past book listed n page is i) (subst (λ (x : Directory). Holds x (others_below book listed n) (def_at schema) to.rows) (sym same) to.holds);
  at = to.at;
}

pub takes : (book : Book) (listed : List ℕ) (schema : Catalog) (n : ℕ) (d after : Directory) (to : TakesTo book listed schema n d) → 1 ≤ n → n < book.count → list_any (nat_eq n) listed ≡ false
    → Takes (def_at schema) (book.page n) n (others_below book listed n) to.rows after → TakesTo book listed schema (n + 1) after
takes book listed schema n d after to some below is took =
    let page = took.is in
    let list = page.are.list in
    let a : Added to.t schema list took.after = added schema list to.t to.rows took.after to.tables to.is to.at page.are.allowed page.are.adds in
    let one : AddsPage (whole_pages book) n to.t a.to = record {
      rows = map placed_of list;
      has = subst (λ (o : Option (List ℕ)). HasRows o (map placed_of list)) (sym (whole_is book n below page.page.whole)) (as_placed schema (book.page n) page.cells list page.page page.are.cells_are page.are.allowed);
      added = a.made;
    } in
    record {
      t = a.to;
      adds = subst (λ (l : List ℕ). AddsPages (whole_pages book) l (emptied schema) a.to) (sym (but_here listed n some is)) (adds_more (whole_pages book) (pages_but listed 1 (n - 1)) n (emptied schema) to.t a.to to.adds one);
      tables = a.tables;
      is = a.is;
      rows = took.after;
      holds = subst (λ (pages : Section). Holds after pages (def_at schema) took.after) (λ i page. below_here book listed n page some is i) took.holds;
      at = a.at;
    }

-- a page that the heap doesn't take adds nothing
no_page : (book : Book) (listed : List ℕ) (schema : Catalog) (n : ℕ) (d : Directory) (to : TakesTo book listed schema n d) → ((after : RowMap) → heap.IsRowPage (def_at schema) (book.page n) to.rows after → ⊥)
    → (next : Tables) → AddsPage (whole_pages book) n to.t next → ⊥
no_page book listed schema n d to none next adds = by (nat_lt n book.count && (length (book.page n) == 4096)) adds.has
  where
    by : (b : Bool) → HasRows (if b then Some (book.page n) else None) adds.rows → ⊥
    by true has =
        let found : Named schema adds.rows to.rows = named schema adds.rows to.t next to.rows to.tables to.is to.at has.encodable adds.added in
        none found.after (as_named schema (book.page n) adds.rows to.rows has found)
    by false has = has

pub stops : (refusal : PageRefusal) (book : Book) (listed : List ℕ) (schema : Catalog) (n : ℕ) (d : Directory) (to : TakesTo book listed schema n d) → 1 ≤ n → n < book.count
    → IfDamaged refusal (λ file at. (file ≡ 0) × (at ≡ 4096 * n) × (list_any (nat_eq n) listed ≡ false) × ((after : RowMap) → heap.IsRowPage (def_at schema) (book.page n) to.rows after → ⊥))
    → IfDamaged refusal (λ file at. IsAtPage file at (RowsStop (whole_pages book) (other_pages book.count listed) (emptied schema)))
stops refusal book listed schema n d to some below = if_damaged refusal
    (λ file at. (file ≡ 0) × (at ≡ 4096 * n) × (list_any (nat_eq n) listed ≡ false) × ((after : RowMap) → heap.IsRowPage (def_at schema) (book.page n) to.rows after → ⊥))
    (λ file at. IsAtPage file at (RowsStop (whole_pages book) (other_pages book.count listed) (emptied schema)))
    (λ file at is. record {
      page = n;
      stops = subst (λ (l : List ℕ). RowsStop (whole_pages book) l (emptied schema) n) (sym (but_split listed n book.count some below is.2))
          (stops_there (whole_pages book) (pages_but listed 1 (n - 1)) (pages_but listed (n + 1) (book.count - n - 1)) n (emptied schema) to.t to.adds (no_page book listed schema n d to is.3));
      in_main = is.0;
      place = is.1;
    })

-- ---- with what the calls say

module _ (book now : Book) (list keys : List ℕ) (schema : Catalog) (defs : List TableDef) (n : ℕ) (d : Directory) (set : IsSetOf keys list) (same : defs_of schema ≡ defs) (stays : SameBook book now) (some : 1 ≤ n) (below : n < book.count)
    (to : TakesTo book list schema n d) where
  defs_are : def_in defs ≡ def_at schema
  defs_are = same_defs schema defs same

  held : Holds d (others_below book list n) (def_in defs) to.rows
  held = subst (λ (f : Defs). Holds d (others_below book list n) f to.rows) (sym defs_are) to.holds

  pub more : (after : Directory) → (list_any (nat_eq n) keys ≡ true → after ≡ d)
      → ((taken : Section) (rows : RowMap) → Holds d taken (def_in defs) rows → taken n ≡ None → list_any (nat_eq n) keys ≡ false → Takes (def_in defs) (now.page n) n taken rows after) → TakesTo book list schema (n + 1) after
  more after left taken = ⊎_elim
      (λ (is : list_any (nat_eq n) list ≡ true). passes book list schema n d after some is (left (set.same n ∙ is)) to)
      (λ (is : list_any (nat_eq n) list ≡ false).
      takes book list schema n d after to some below is
      (subst (λ (bytes : List ℕ). Takes (def_at schema) bytes n (others_below book list n) to.rows after) (stays.pages n below)
      (subst (λ (f : Defs). Takes f (now.page n) n (others_below book list n) to.rows after) defs_are (taken (others_below book list n) to.rows held (not_yet book list n) (set.same n ∙ is)))))
      (cases_Bool (list_any (nat_eq n) list))

  pub stopped : (refusal : PageRefusal)
      → ((taken : Section) (rows : RowMap) → Holds d taken (def_in defs) rows → taken n ≡ None
      → IfDamaged refusal (λ file at. (file ≡ 0) × (at ≡ 4096 * n) × (list_any (nat_eq n) keys ≡ false) × ((after : RowMap) → heap.IsRowPage (def_in defs) (now.page n) rows after → ⊥)))
      → IfDamaged refusal (λ file at. IsAtPage file at (RowsStop (whole_pages book) (other_pages book.count list) (emptied schema)))
  stopped refusal says = stops refusal book list schema n d to some below
      (if_damaged refusal (λ file at. (file ≡ 0) × (at ≡ 4096 * n) × (list_any (nat_eq n) keys ≡ false) × ((after : RowMap) → heap.IsRowPage (def_in defs) (now.page n) to.rows after → ⊥))
      (λ file at. (file ≡ 0) × (at ≡ 4096 * n) × (list_any (nat_eq n) list ≡ false) × ((after : RowMap) → heap.IsRowPage (def_at schema) (book.page n) to.rows after → ⊥))
      (λ file at is. (
        is.0,
        is.1,
        sym (set.same n) ∙ is.2,
        λ after page. is.3 after (subst (λ (bytes : List ℕ). heap.IsRowPage (def_in defs) bytes to.rows after) (sym (stays.pages n below)) (subst (λ (f : Defs). heap.IsRowPage f (book.page n) to.rows after) (sym defs_are) page)),
      ))
      (says (others_below book list n) to.rows held (not_yet book list n)))

below_zero : (book : Book) (listed : List ℕ) (page : ℕ) → others_below book listed 0 page ≡ None
below_zero book listed page = ap (λ b. Below book page (nat_le 1 page) b (list_any (nat_eq page) listed)) (le-ltb page 0 (omega arith)) ∙ none_below book page (nat_le 1 page) (list_any (nat_eq page) listed)

-- behind the last page
pub at_end : (book : Book) (listed : List ℕ) (schema : Catalog) (page count : ℕ) (d : Directory) → 1 ≤ page → count ≤ page → page - 1 ≤ count - 1 → TakesTo book listed schema page d → TakesTo book listed schema count d
at_end book listed schema page count d some far near to = ⊎_elim
    (λ (same : page ≡ count). subst (λ (n : ℕ). TakesTo book listed schema n d) same to)
    (λ other.
    let none : count ≡ 0 = omega (arith, some, far, near, other) in
    let one : page ≡ 1 = omega (arith, some, far, near, other) in
    let begun : TakesTo book listed schema 1 d = subst (λ (n : ℕ). TakesTo book listed schema n d) one to in
    subst (λ (n : ℕ). TakesTo book listed schema n d) (sym none) (record {
      t = begun.t;
      adds = begun.adds;
      tables = begun.tables;
      is = begun.is;
      rows = begun.rows;
      holds = subst (λ (pages : Section). Holds d pages (def_at schema) begun.rows) (λ i p. (below_one book listed p ∙ sym (below_zero book listed p)) i) begun.holds;
      at = begun.at;
    }))
    (cases_eq page count)
