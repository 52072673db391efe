-- The rows of a page are taken over one by one.
use Rattle.std.proofs.Common.{◌≡◌, ◌≢◌, ◌⊎◌, inl, inr, ℕ, ◌+◌, ◌<◌, ◌≤◌, ◌==◌, ◌&&◌, Bool, true, false, if◌then◌else◌, List, [], ◌∷◌, ◌++◌, length, map, Option, Some, None, refl, sym, ap, ap₂, subst, ◌∙◌, arith, length-append}
use Rattle.std.specs.Prelude.{unwrap_or}
use Rattle.std.specs.List.{AllByRecursion, flat_map}
use Rattle.std.specs.Option.{option_map}
use Rattle.std.proofs.lemmas.Bool.{cases_Bool, eqb-true, eq-eqb, ne_eqb}
use Rattle.std.proofs.lemmas.List.{map-append}
use Rattle.std.proofs.lemmas.List.Concat.{flat_map-append}
use Rattle.wat_slot.specs.Cells.{cell_bytes, cells_bytes, IsCellPage}
use Rattle.wat_slot.proofs.Reading.{length-cells}
use Rattle.wat_book.specs.Book.{Section}
use Rattle.wat_rows.specs.Rows.{Row, NamedRow, RowMap, Defs, name_is, names_of, cells_of, cell_of, used_by, IsRowOf, Sets}
use Rattle.wat_rows.specs.Pages.{Layout, PlaceMap, rows_on, Stands, AreNamed, AreRowPages, with_rows, with_place}
use Rattle.wat_rows.proofs.Cells.{named_same}
use Rattle.wat_rows.proofs.Lists.{all_join}
use Rattle.wat_rows.proofs.Stepping.{rows_here, rows_there, stand_now, put_on, no_place, no_row, same_named}
use Rattle.wat_directory.specs.declared.row_page.RowPage.{RowPage}
use Rattle.wat_directory.specs.declared.directory.Directory.{Directory}
use Rattle.wat_directory.specs.Known.{page_at, place_at, entry_of, names_in, Holds, Knows}
use Rattle.wat_directory.specs.Steps.{SetsPage, SetsPlace, SamePlaces}
use Rattle.wat_heap.specs.Taking.{TakesRow, NoRow, with_row, AddsAll, IsRowList, IsRowPage, with_page, TakesList, Takes}
use Rattle.wat_heap.proofs.Doing.{knows_next, placed}

-- the rows of some of the cells are taken over
pub record Sofar (defs : Defs) (page used : ℕ) (cells : List (List ℕ)) (pages : Section) (rows : RowMap) (d : Directory) : Type 0 where
  pub list : List NamedRow
  pub cells_are : cells ≡ cells_of list
  pub allowed : AllByRecursion (IsRowOf defs) list
  pub after : RowMap
  pub adds : AddsAll list rows after
  pub used_is : used ≡ used_by list
  pub on : Layout
  pub place : PlaceMap
  pub was : AreRowPages pages on
  pub named : AreNamed defs (with_rows page (Some list) on) place after
  pub knows : Knows d (with_rows page (Some list) on) place

-- ---- at first

pub not_on : (pages : Section) (on : Layout) (page : ℕ) → AreRowPages pages on → pages page ≡ None → on page ≡ None
not_on pages on page stand none = by (on page) refl
  where
    by : (o : Option (List NamedRow)) → on page ≡ o → on page ≡ None
    by None is = is
    by (Some list) is =
        let no : Stands None (Some list) = subst (λ s. Stands s (Some list)) none (subst (Stands (pages page)) is (stand page)) in
        absurd no

pub unknown_page : (d : Directory) (defs : Defs) (page : ℕ) (pages : Section) (rows : RowMap) → Holds d pages defs rows → pages page ≡ None → page_at d page ≡ None
unknown_page d defs page pages rows h none = h.knows.pages page ∙ ap (option_map entry_of) (not_on pages h.on page h.stand none)

pub first : (d after : Directory) (defs : Defs) (page : ℕ) (pages : Section) (rows : RowMap) → Holds d pages defs rows → pages page ≡ None → SetsPage page (Some (record { used = 0; names = [] })) d after → SamePlaces d after
    → Sofar defs page 0 [] pages rows after
first d after defs page pages rows h none sets same = record {
  list = [];
  cells_are = refl;
  allowed = tt;
  after = rows;
  adds = λ t k. refl;
  used_is = refl;
  on = h.on;
  place = h.place;
  was = h.stand;
  named = same_named defs h.on (with_rows page (Some []) h.on) h.place rows (λ p. no_rows p (cases_Bool (page == p))) h.named;
  knows = knows_next d after h.on h.place h.knows page (Some []) (Some (record { used = 0; names = [] })) refl sets h.place (λ t k. same t k ∙ h.knows.places t k);
}
  where
    is_none : h.on page ≡ None
    is_none = not_on pages h.on page h.stand none

    no_rows : (p : ℕ) → ((page == p) ≡ true) ⊎ ((page == p) ≡ false) → rows_on (with_rows page (Some []) h.on) p ≡ rows_on h.on p
    no_rows p (inl here) =
        let e = eqb-true page p here in
        ap (λ b. unwrap_or (if b then Some [] else h.on p) []) here ∙ sym (ap (λ q. rows_on h.on q) (sym e) ∙ ap (λ o. unwrap_or o []) is_none)
    no_rows p (inr far) = ap (λ b. unwrap_or (if b then Some [] else h.on p) []) far

-- ---- one more

pub length-more : (cells : List (List ℕ)) (cell : List ℕ) → length (cells_bytes (cells ++ cell ∷ [])) ≡ length (cells_bytes cells) + 2 + length cell
length-more cells cell =
    let whole : cells_bytes (cells ++ cell ∷ []) ≡ cells_bytes cells ++ cells_bytes (cell ∷ []) = flat_map-append cell_bytes cells (cell ∷ []) in
    omega (arith, ap length whole, length-append (cells_bytes cells) (cells_bytes (cell ∷ [])), length-cells cell [])

adds_more : (list : List NamedRow) (it : NamedRow) (rows after : RowMap) → AddsAll list rows after → after it.name.table it.name.key ≡ None → AddsAll (list ++ it ∷ []) rows (with_row it after)
adds_more [] it rows after adds none = (
  sym (adds it.name.table it.name.key) ∙ none,
  λ t k. ap (λ o. if name_is t k it.name then Some it.row else o) (adds t k),
)
adds_more (x ∷ xs) it rows after adds none = (adds.0, adds_more xs it (with_row x rows) after adds.1 none)

over : (page : ℕ) (a b : Option (List NamedRow)) (on : Layout) → with_rows page b (with_rows page a on) ≡ with_rows page b on
over page a b on = λ i other. each other i
  where
    each : (other : ℕ) → with_rows page b (with_rows page a on) other ≡ with_rows page b on other
    each other = elim (cases_Bool (page == other)) [
      | inl here ↦ ap (λ v. if v then b else with_rows page a on other) here ∙ sym (ap (λ v. if v then b else on other) here)
      | inr far ↦ ap (λ v. if v then b else with_rows page a on other) far ∙ ap (λ v. if v then a else on other) far ∙ sym (ap (λ v. if v then b else on other) far)
    ]

pub one_more : (d after : Directory) (defs : Defs) (page used : ℕ) (cells : List (List ℕ)) (cell : List ℕ) (pages : Section) (rows : RowMap) → Sofar defs page used cells pages rows d
    → TakesRow defs page (used + 2 + length cell) cell d after → Sofar defs page (used + 2 + length cell) (cells ++ cell ∷ []) pages rows after
one_more d after defs page used cells cell pages rows s t =
    let it = t.it in
    let on = with_rows page (Some s.list) s.on in
    let list_is : rows_on on page ≡ s.list = ap (λ o. unwrap_or o []) (rows_here page (Some s.list) s.on) in
    let none : s.place it.name.table it.name.key ≡ None = sym (s.knows.places it.name.table it.name.key) ∙ t.fresh in
    let as_cells : cells_of (s.list ++ it ∷ []) ≡ cells ++ cell ∷ [] = map-append cell_of s.list (it ∷ []) ∙ ap₂ (λ l c. l ++ c ∷ []) (sym s.cells_are) (sym t.cell_is) in
    let count : used + 2 + length cell ≡ used_by (s.list ++ it ∷ []) =
    ap (λ n. n + 2 + length cell) (s.used_is ∙ ap (λ l. length (cells_bytes l)) (sym s.cells_are)) ∙ sym (length-more cells cell) ∙ ap (λ l. length (cells_bytes l)) (sym as_cells) in
    let names : names_in (page_at d page) ++ it.name ∷ [] ≡ names_of (s.list ++ it ∷ []) =
    ap (λ o. names_in o ++ it.name ∷ []) (s.knows.pages page ∙ ap (option_map entry_of) (rows_here page (Some s.list) s.on)) ∙ sym (map-append (λ (x : NamedRow). x.name) s.list (it ∷ [])) in
    let entry_now : Some (record { used = used + 2 + length cell; names = names_in (page_at d page) ++ it.name ∷ [] }) ≡ Some (entry_of (s.list ++ it ∷ [])) =
    ap₂ (λ u l. Some (record { used = u; names = l })) count names in
    let named : AreNamed defs (with_rows page (Some (rows_on on page ++ it ∷ [])) on) (with_place it.name (Some page) s.place) (with_row it s.after) =
    put_on defs on s.place s.after (with_row it s.after) s.named page it none t.allowed (λ t k. refl) in
    let same : with_rows page (Some (rows_on on page ++ it ∷ [])) on ≡ with_rows page (Some (s.list ++ it ∷ [])) s.on =
    ap (λ l. with_rows page (Some (l ++ it ∷ [])) on) list_is ∙ over page (Some s.list) (Some (s.list ++ it ∷ [])) s.on in
    let knows : Knows after (with_rows page (Some (s.list ++ it ∷ [])) on) (with_place it.name (Some page) s.place) =
    knows_next d after on s.place s.knows page (Some (s.list ++ it ∷ [])) _ entry_now t.page_set (with_place it.name (Some page) s.place) (placed d after on s.place s.knows it.name (Some page) t.place_set) in
    record {
      list = s.list ++ it ∷ [];
      cells_are = sym as_cells;
      allowed = all_join (IsRowOf defs) s.list (it ∷ []) s.allowed (t.allowed, tt);
      after = with_row it s.after;
      adds = adds_more s.list it rows s.after s.adds (no_row defs on s.place s.after s.named it.name.table it.name.key none);
      used_is = count;
      on = s.on;
      place = with_place it.name (Some page) s.place;
      was = s.was;
      named = subst (λ o. AreNamed defs o (with_place it.name (Some page) s.place) (with_row it s.after)) same named;
      knows = subst (λ o. Knows after o (with_place it.name (Some page) s.place)) (over page (Some s.list) (Some (s.list ++ it ∷ [])) s.on) knows;
    }

-- ---- all of them

pub all_taken : (d : Directory) (defs : Defs) (page used : ℕ) (cells : List (List ℕ)) (pages : Section) (rows : RowMap) → Sofar defs page used cells pages rows d → TakesList defs page cells pages rows d
all_taken d defs page used cells pages rows s = record {
  after = s.after;
  are = record { list = s.list; cells_are = s.cells_are; allowed = s.allowed; adds = s.adds };
  holds = λ bytes is. record {
    on = with_rows page (Some s.list) s.on;
    place = s.place;
    stand = stand_now pages (with_page page bytes pages) s.on page (Some s.list) s.was
        (subst (λ o. Stands o (Some s.list)) (sym (ap (λ b. if b then Some bytes else pages page) (eq-eqb page page refl))) (subst (IsCellPage bytes) s.cells_are is))
        (λ other far. ap (λ b. if b then Some bytes else pages other) (ne_eqb page other (λ e. far (sym e))));
    named = s.named;
    knows = s.knows;
  };
}

-- ---- none

record Fresh (defs : Defs) (cell : List ℕ) (after : RowMap) : Type 0 where
  it : NamedRow
  cell_is : cell ≡ cell_of it
  allowed : IsRowOf defs it
  fresh : after it.name.table it.name.key ≡ None

cons_same : {A : Type 0} (x y : A) (xs ys : List A) → x ∷ xs ≡ y ∷ ys → (x ≡ y) × (xs ≡ ys)
cons_same x y xs ys e = (cc, cc)

next_fresh : (defs : Defs) (done : List NamedRow) (cell : List ℕ) (rest : List (List ℕ)) (list : List NamedRow) (rows sofar after : RowMap) → AllByRecursion (IsRowOf defs) done → AddsAll done rows sofar
    → cells_of done ++ cell ∷ rest ≡ cells_of list → AllByRecursion (IsRowOf defs) list → AddsAll list rows after → Fresh defs cell sofar
next_fresh defs [] cell rest [] rows sofar after all adds is allowed more = absurd (let no : cell ∷ rest ≡ [] = is in cc)
next_fresh defs [] cell rest (y ∷ ys) rows sofar after all adds is allowed more =
    let parts = cons_same cell (cell_of y) rest (cells_of ys) is in
    record { it = y; cell_is = parts.0; allowed = allowed.0; fresh = adds y.name.table y.name.key ∙ more.0 }
next_fresh defs (x ∷ xs) cell rest [] rows sofar after all adds is allowed more = absurd (let no : cell_of x ∷ (cells_of xs ++ cell ∷ rest) ≡ [] = is in cc)
next_fresh defs (x ∷ xs) cell rest (y ∷ ys) rows sofar after all adds is allowed more =
    let parts = cons_same (cell_of x) (cell_of y) (cells_of xs ++ cell ∷ rest) (cells_of ys) is in
    let same : x ≡ y = named_same defs x y all.0 allowed.0 parts.0 in
    next_fresh defs xs cell rest ys (with_row x rows) sofar after all.1 adds.1 parts.1 allowed.1 (subst (λ z. AddsAll ys (with_row z rows) after) (sym same) more.1)

pub broken : (d : Directory) (defs : Defs) (page used : ℕ) (cells : List (List ℕ)) (cell : List ℕ) (rest : List (List ℕ)) (pages : Section) (rows after : RowMap) → Sofar defs page used cells pages rows d
    → NoRow defs cell d → IsRowList defs (cells ++ cell ∷ rest) rows after → ⊥
broken d defs page used cells cell rest pages rows after s never are =
    let f = next_fresh defs s.list cell rest are.list rows s.after after s.allowed s.adds (ap (λ l. l ++ cell ∷ rest) (sym s.cells_are) ∙ are.cells_are) are.allowed are.adds in
    never f.it f.cell_is f.allowed
    (s.knows.places f.it.name.table f.it.name.key ∙ no_place defs (with_rows page (Some s.list) s.on) s.place s.after s.named f.it.name.table f.it.name.key f.fresh)
