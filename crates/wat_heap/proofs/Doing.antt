-- What the heap's steps on pages make of what the pages hold.
use Rattle.std.proofs.Common.{◌≡◌, ◌≢◌, inl, inr, ℕ, zero, suc, ◌+◌, ◌<◌, ◌≤◌, ◌==◌, ◌&&◌, Bool, true, false, if◌then◌else◌, List, [], ◌∷◌, ◌++◌, length, map, Option, Some, None, refl, sym, ap, ap₂, subst, ◌∙◌, arith, length-append}
use Rattle.std.specs.Prelude.{nat_lt, nat_eq, unwrap_or, slice_set, remove}
use Rattle.std.specs.List.{AllByRecursion, list_any}
use Rattle.std.specs.Option.{option_map}
use Rattle.std.proofs.lemmas.Bool.{cases_Bool, eqb-true, eq-eqb, ne_eqb, lt-ltb, ltb-true, or_left}
use Rattle.std.proofs.lemmas.List.{map-append, length-map}
use Rattle.wat_slot.specs.Cells.{cells_bytes, IsCellPage}
use Rattle.wat_book.specs.Book.{Book, Owners, nobody, header, Section, section, IsOwned, Works, WorksTo, Worked, with_owner, page_taken, TakesPage, GivesPage, Writes, SameBook}
use Rattle.wat_book.proofs.Working.{works_on, writes, gives, takes_free, takes_new, chain_owned, same_works, same_owned}
use Rattle.wat_rows.specs.declared.name.RowName.{RowName}
use Rattle.wat_rows.specs.Rows.{Row, NamedRow, RowMap, Defs, name_is, names_of, cells_of, cell_of, row_cell, used_by, IsRowOf, Sets}
use Rattle.wat_rows.specs.Pages.{Layout, PlaceMap, rows_on, Stands, AreNamed, AreRowPages, of_rows, with_rows, with_place}
use Rattle.wat_rows.proofs.Lists.{is_named, append-none}
use Rattle.wat_rows.proofs.Stepping.{stand_now, put_on, set_on, taken_off}
use Rattle.wat_room.specs.Rooms.{AreRooms}
use Rattle.wat_directory.specs.declared.row_page.RowPage.{RowPage}
use Rattle.wat_directory.specs.declared.directory.Directory.{Directory}
use Rattle.wat_directory.specs.declared.directory.Spot.{Spot}
use Rattle.wat_directory.specs.Known.{page_at, place_at, spot_at, entry_of, names_in, room_at, room_left, Holds, Knows}
use Rattle.wat_directory.specs.Steps.{SetsPage, SetsPlace, SamePlaces}
use Rattle.wat_heap.specs.Heaps.{IsHeld}
use Rattle.wat_cells.specs.Wrote.{WroteCells}
use Rattle.wat_heap.proofs.Finding.{section_at, section_past, section_other, OnPage, on_page, rows_there, Split, Found}

-- ---- lists at a place

pub set_at : {A : Type 0} (xs : List A) (x y : A) (ys : List A) (i : ℕ) → length xs ≡ i → slice_set (xs ++ x ∷ ys) i y ≡ xs ++ y ∷ ys
set_at xs x y ys i place = subst (λ j. slice_set (xs ++ x ∷ ys) j y ≡ xs ++ y ∷ ys) place (by xs)
  where
    by : (zs : List _) → slice_set (zs ++ x ∷ ys) (length zs) y ≡ zs ++ y ∷ ys
    by [] = refl
    by (z ∷ zs) = ap (λ l. z ∷ l) (by zs)

pub remove_at : {A : Type 0} (xs : List A) (x : A) (ys : List A) (i : ℕ) → length xs ≡ i → remove (xs ++ x ∷ ys) i ≡ xs ++ ys
remove_at xs x ys i place = subst (λ j. remove (xs ++ x ∷ ys) j ≡ xs ++ ys) place (by xs)
  where
    by : (zs : List _) → remove (zs ++ x ∷ ys) (length zs) ≡ zs ++ ys
    by [] = refl
    by (z ∷ zs) = ap (λ l. z ∷ l) (by zs)

pub within_at : {A : Type 0} (xs : List A) (x : A) (ys : List A) (i : ℕ) → length xs ≡ i → i < length (xs ++ x ∷ ys)
within_at xs x ys i place = omega (arith, length-append xs (x ∷ ys), place)

-- ---- sections

-- where the bytes of one page alone have changed
pub same_elsewhere : (old new : Book) (owners next : Owners) (who p : ℕ) → new.count ≡ old.count → ((page : ℕ) → page < old.count → page ≢ p → new.page page ≡ old.page page) → ((page : ℕ) → page ≢ p → next page ≡ owners page)
    → (page : ℕ) → page ≢ p → section new next who page ≡ section old owners who page
same_elsewhere old new owners next who p count bytes same page apart = elim (cases_Bool (nat_lt page old.count)) [
  | inl within ↦
      ap₂ (λ n o. if nat_lt page n && (o == who) then Some (new.page page) else None) count (same page apart)
      ∙ ap (λ b. if nat_lt page old.count && (owners page == who) then Some b else None) (bytes page (ltb-true page old.count within) apart)
  | inr past ↦ section_past new next who page (ap (nat_lt page) count ∙ past) ∙ sym (section_past old owners who page past)
]

pub owner_here : (page who : ℕ) (owners : Owners) → with_owner page who owners page ≡ who
owner_here page who owners = ap (λ b. if b then who else owners page) (eq-eqb page page refl)

pub owner_there : (page who other : ℕ) (owners : Owners) → other ≢ page → with_owner page who owners other ≡ owners other
owner_there page who other owners apart = ap (λ b. if b then who else owners other) (ne_eqb page other (λ e. apart (sym e)))

pub same_section : (old new : Book) (owners : Owners) (who : ℕ) → SameBook old new → section new owners who ≡ section old owners who
same_section old new owners who same = λ i p. each p i
  where
    each : (p : ℕ) → section new owners who p ≡ section old owners who p
    each p = elim (cases_Bool (nat_lt p old.count)) [
      | inl within ↦ ap₂ (λ n x. if nat_lt p n && (owners p == who) then Some x else None) same.count (same.pages p (ltb-true p old.count within))
      | inr past ↦
          ap (λ n. if nat_lt p n && (owners p == who) then Some (new.page p) else None) same.count
          ∙ ap (λ b. if b && (owners p == who) then Some (new.page p) else None) past
          ∙ sym (ap (λ b. if b && (owners p == who) then Some (old.page p) else None) past)
    ]

-- where no page has changed, the heap's rows stand as before
pub still_held : (d : Directory) (old new : Book) (owners : Owners) (free : List ℕ) (defs : Defs) (rows : RowMap) → IsHeld d old owners free defs rows → SameBook old new → IsHeld d new owners free defs rows
still_held d old new owners free defs rows h same = record {
  owned = same_owned old new owners free same h.owned;
  holds = subst (λ s. Holds d s defs rows) (sym (same_section old new owners of_rows same)) h.holds;
}

-- ---- what the directory knows then

pub knows_next : (d after : Directory) (on : Layout) (place : PlaceMap) → Knows d on place → (page : ℕ) (now : Option (List NamedRow)) (entry : Option RowPage) → entry ≡ option_map entry_of now → SetsPage page entry d after
    → (next : PlaceMap) → ((t : ℕ) (k : Row) → place_at after t k ≡ next t k) → Knows after (with_rows page now on) next
knows_next d after on place k page now entry is sets next places = record {
  pages = λ other. sets.pages other ∙ elim (cases_Bool (page == other)) [
    | inl same ↦
        ap (λ b. if b then entry else page_at d other) same ∙ is ∙ sym (ap (λ b. option_map entry_of (if b then now else on other)) same)
    | inr far ↦
        ap (λ b. if b then entry else page_at d other) far ∙ k.pages other ∙ sym (ap (λ b. option_map entry_of (if b then now else on other)) far)
  ];
  places = places;
  rooms = λ other. sets.rooms k.are other ∙ elim (cases_Bool (page == other)) [
    | inl same ↦
        ap (λ b. if b then room_left entry else room_at d other) same ∙ sym (ap room_left (sets.pages other ∙ ap (λ b. if b then entry else page_at d other) same))
    | inr far ↦
        ap (λ b. if b then room_left entry else room_at d other) far ∙ k.rooms other ∙ sym (ap room_left (sets.pages other ∙ ap (λ b. if b then entry else page_at d other) far))
  ];
  are = sets.are k.are;
}

pub placed : (d after : Directory) (on : Layout) (place : PlaceMap) → Knows d on place → (name : RowName) (at : Option ℕ) → SetsPlace name.table name.key at d after → (t : ℕ) (k : Row) → place_at after t k ≡ with_place name at place t k
placed d after on place knows name at sets t k = sets t k ∙ ap (λ o. if name_is t k name then at else o) (knows.places t k)

pub stays_placed : (d after : Directory) (on : Layout) (place : PlaceMap) → Knows d on place → (name : RowName) (at : Option ℕ) → place name.table name.key ≡ at → SamePlaces d after → (t : ℕ) (k : Row) → place_at after t k ≡ with_place name at place t k
stays_placed d after on place knows name at there same t k = same t k ∙ knows.places t k ∙ elim (cases_Bool (name_is t k name)) [
  | inl is ↦
      let n = is_named t k name is in
      ap₂ place (sym n.0) (sym n.1) ∙ there ∙ sym (ap (λ b. if b then at else place t k) is)
  | inr isnt ↦ sym (ap (λ b. if b then at else place t k) isnt)
]

-- ---- steps

module _ (d : Directory) (old : Book) (owners : Owners) (free : List ℕ) (defs : Defs) (rows : RowMap) (h : IsHeld d old owners free defs rows) where
  real : of_rows ≢ nobody
  real e = omega (arith, e)

  not_header : of_rows ≢ header
  not_header e = omega (arith, e)

  -- a row page was written
  wrote : (page : ℕ) (entry : RowPage) (s : OnPage d old owners free defs rows h page entry) (new : Book) (bytes : List ℕ) → Writes page bytes old new → (after : Directory) (on : Layout) (place : PlaceMap) (now : RowMap)
      → AreRowPages (section new owners of_rows) on → AreNamed defs on place now → Knows after on place → Worked of_rows old owners new (λ mine. Holds after mine defs now)
  wrote page entry s new bytes w after on place now stand named knows =
      let done = writes of_rows page bytes free old new owners real s.mine h.owned w in
      record { next = owners; free = free; owned = done.owned; works = done.works; holds = record { on = on; place = place; stand = stand; named = named; knows = knows } }

  here : (page : ℕ) (entry : RowPage) (s : OnPage d old owners free defs rows h page entry) (new : Book) (bytes : List ℕ) → Writes page bytes old new → section new owners of_rows page ≡ Some bytes
  here page entry s new bytes w = section_at new owners of_rows page (omega (arith, w.count, s.below)) s.mine ∙ ap Some w.is

  elsewhere : (page : ℕ) (new : Book) (bytes : List ℕ) → Writes page bytes old new → (p : ℕ) → p ≢ page → section new owners of_rows p ≡ section old owners of_rows p
  elsewhere page new bytes w = same_elsewhere old new owners owners of_rows page w.count w.others (λ p apart. refl)

  -- a row is put behind those of a page
  pub pushed : (after : Directory) (new : Book) (page used : ℕ) (entry : RowPage) (x : NamedRow) (cell : List ℕ) (now : RowMap) → page_at d page ≡ Some entry → IsRowOf defs x → cell ≡ cell_of x
      → place_at d x.name.table x.name.key ≡ None → Sets rows x.name.table x.name.key (Some x.row) now
      → ((cells : List (List ℕ)) → IsCellPage (old.page page) cells → WroteCells page (cells ++ cell ∷ []) old new)
      → ((cells : List (List ℕ)) → IsCellPage (old.page page) cells → used ≡ length (cells_bytes (cells ++ cell ∷ [])))
      → SetsPage page (Some (record { used = used; names = names_in (page_at d page) ++ x.name ∷ [] })) d after → SetsPlace x.name.table x.name.key (Some page) d after
      → Worked of_rows old owners new (λ mine. Holds after mine defs now)
  pushed after new page used entry x cell now known fits cell_is none sets wrote_it count page_set place_set =
      let s = on_page d old owners free defs rows h page entry known in
      let list = rows_on h.holds.on page in
      let list_is : list ≡ s.list = rows_there d old owners free defs rows h page s.list s.on_is in
      let w = wrote_it (cells_of s.list) s.are in
      let as_cells : cells_of (list ++ x ∷ []) ≡ cells_of s.list ++ cell ∷ [] = map-append cell_of list (x ∷ []) ∙ ap₂ (λ l c. map cell_of l ++ c ∷ []) list_is (sym cell_is) in
      let names : names_in (page_at d page) ++ x.name ∷ [] ≡ names_of (list ++ x ∷ []) =
      ap (λ o. names_in o ++ x.name ∷ []) known ∙ ap (λ (e : RowPage). e.names ++ x.name ∷ []) s.entry_is ∙ ap (λ l. names_of l ++ x.name ∷ []) (sym list_is)
      ∙ sym (map-append (λ (it : NamedRow). it.name) list (x ∷ [])) in
      let entry_now : Some (record { used = used; names = names_in (page_at d page) ++ x.name ∷ [] }) ≡ Some (entry_of (list ++ x ∷ [])) =
      ap₂ (λ u l. Some (record { used = u; names = l })) (count (cells_of s.list) s.are ∙ ap (λ l. length (cells_bytes l)) (sym as_cells)) names in
      let stands : Stands (section new owners of_rows page) (Some (list ++ x ∷ [])) =
      subst (λ o. Stands o (Some (list ++ x ∷ []))) (sym (here page entry s new w.bytes w.writes)) (subst (IsCellPage w.bytes) (sym as_cells) w.are) in
      wrote page entry s new w.bytes w.writes after (with_rows page (Some (list ++ x ∷ [])) h.holds.on) (with_place x.name (Some page) h.holds.place) now
      (stand_now (section old owners of_rows) (section new owners of_rows) h.holds.on page (Some (list ++ x ∷ [])) h.holds.stand stands (elsewhere page new w.bytes w.writes))
      (put_on defs h.holds.on h.holds.place rows now h.holds.named page x (sym (h.holds.knows.places x.name.table x.name.key) ∙ none) fits sets)
      (knows_next d after h.holds.on h.holds.place h.holds.knows page (Some (list ++ x ∷ [])) _ entry_now page_set (with_place x.name (Some page) h.holds.place)
      (placed d after h.holds.on h.holds.place h.holds.knows x.name (Some page) place_set))

  -- a row is put in the place of another of its name
  pub changed_to : (after : Directory) (new : Book) (spot : Spot) (used : ℕ) (x : NamedRow) (cell : List ℕ) (now : RowMap) (f : Found d old owners free defs rows h x.name.table x.name.key spot) → IsRowOf defs x → cell ≡ cell_of x
      → Sets rows x.name.table x.name.key (Some x.row) now
      → ((cells : List (List ℕ)) → IsCellPage (old.page spot.page) cells → spot.cell < length cells → WroteCells spot.page (slice_set cells spot.cell cell) old new)
      → ((cells : List (List ℕ)) → IsCellPage (old.page spot.page) cells → spot.cell < length cells → used ≡ length (cells_bytes (slice_set cells spot.cell cell)))
      → SetsPage spot.page (Some (record { used = used; names = names_in (page_at d spot.page) })) d after → SamePlaces d after
      → Worked of_rows old owners new (λ mine. Holds after mine defs now)
  changed_to after new spot used x cell now f fits cell_is sets wrote_it count page_set same_places =
      let s = f.page in
      let r = f.split.at in
      let front = f.split.front in
      let back = f.split.back in
      let page = spot.page in
      let n = is_named x.name.table x.name.key r.name f.split.is in
      let name : r.name ≡ x.name = ap₂ (λ t k. record { table = t; key = k }) n.0 n.1 in
      let list = rows_on h.holds.on page in
      let list_is : list ≡ front ++ r ∷ back = rows_there d old owners free defs rows h page s.list s.on_is ∙ f.split.whole in
      let cells_are : cells_of s.list ≡ cells_of front ++ cell_of r ∷ cells_of back = ap cells_of f.split.whole ∙ map-append cell_of front (r ∷ back) in
      let place : length (cells_of front) ≡ spot.cell = length-map front cell_of ∙ f.split.place in
      let within : spot.cell < length (cells_of s.list) = subst (λ l. spot.cell < length l) (sym cells_are) (within_at (cells_of front) (cell_of r) (cells_of back) spot.cell place) in
      let edited : slice_set (cells_of s.list) spot.cell cell ≡ cells_of (front ++ x ∷ back) =
      ap₂ (λ l c. slice_set l spot.cell c) cells_are cell_is ∙ set_at (cells_of front) (cell_of r) (cell_of x) (cells_of back) spot.cell place ∙ sym (map-append cell_of front (x ∷ back)) in
      let w = wrote_it (cells_of s.list) s.are within in
      let names : names_in (page_at d page) ≡ names_of (front ++ x ∷ back) =
      ap names_in f.is ∙ ap (λ (e : RowPage). e.names) s.entry_is ∙ ap names_of f.split.whole ∙ map-append (λ (it : NamedRow). it.name) front (r ∷ back)
      ∙ ap (λ m. names_of front ++ m ∷ names_of back) name ∙ sym (map-append (λ (it : NamedRow). it.name) front (x ∷ back)) in
      let entry_now : Some (record { used = used; names = names_in (page_at d page) }) ≡ Some (entry_of (front ++ x ∷ back)) =
      ap₂ (λ u l. Some (record { used = u; names = l })) (count (cells_of s.list) s.are within ∙ ap (λ l. length (cells_bytes l)) edited) names in
      let stands : Stands (section new owners of_rows page) (Some (front ++ x ∷ back)) =
      subst (λ o. Stands o (Some (front ++ x ∷ back))) (sym (here page f.entry s new w.bytes w.writes)) (subst (IsCellPage w.bytes) edited w.are) in
      let there : h.holds.place r.name.table r.name.key ≡ Some page = ap₂ h.holds.place n.0 n.1 ∙ f.there in
      wrote page f.entry s new w.bytes w.writes after (with_rows page (Some (front ++ x ∷ back)) h.holds.on) (with_place r.name (Some page) h.holds.place) now
      (stand_now (section old owners of_rows) (section new owners of_rows) h.holds.on page (Some (front ++ x ∷ back)) h.holds.stand stands (elsewhere page new w.bytes w.writes))
      (set_on defs h.holds.on h.holds.place rows now h.holds.named page front back r list_is there x (sym name) fits
      (subst (λ (m : RowName). Sets rows m.table m.key (Some x.row) now) (sym name) sets))
      (knows_next d after h.holds.on h.holds.place h.holds.knows page (Some (front ++ x ∷ back)) _ entry_now page_set (with_place r.name (Some page) h.holds.place)
      (stays_placed d after h.holds.on h.holds.place h.holds.knows r.name (Some page) there same_places))

  -- a row is taken off its page
  pub off : (after : Directory) (new : Book) (table : ℕ) (key : Row) (spot : Spot) (used : ℕ) (now : RowMap) (f : Found d old owners free defs rows h table key spot) → Sets rows table key None now
      → ((cells : List (List ℕ)) → IsCellPage (old.page spot.page) cells → spot.cell < length cells → WroteCells spot.page (remove cells spot.cell) old new)
      → ((cells : List (List ℕ)) → IsCellPage (old.page spot.page) cells → spot.cell < length cells → used ≡ length (cells_bytes (remove cells spot.cell)))
      → (spot.cell < length (names_in (page_at d spot.page)) → SetsPage spot.page (Some (record { used = used; names = remove (names_in (page_at d spot.page)) spot.cell })) d after) → SetsPlace table key None d after
      → Worked of_rows old owners new (λ mine. Holds after mine defs now)
  off after new table key spot used now f sets wrote_it count page_set place_set =
      let s = f.page in
      let r = f.split.at in
      let front = f.split.front in
      let back = f.split.back in
      let page = spot.page in
      let n = is_named table key r.name f.split.is in
      let list_is : rows_on h.holds.on page ≡ front ++ r ∷ back = rows_there d old owners free defs rows h page s.list s.on_is ∙ f.split.whole in
      let cells_are : cells_of s.list ≡ cells_of front ++ cell_of r ∷ cells_of back = ap cells_of f.split.whole ∙ map-append cell_of front (r ∷ back) in
      let place : length (cells_of front) ≡ spot.cell = length-map front cell_of ∙ f.split.place in
      let within : spot.cell < length (cells_of s.list) = subst (λ l. spot.cell < length l) (sym cells_are) (within_at (cells_of front) (cell_of r) (cells_of back) spot.cell place) in
      let edited : remove (cells_of s.list) spot.cell ≡ cells_of (front ++ back) =
      ap (λ l. remove l spot.cell) cells_are ∙ remove_at (cells_of front) (cell_of r) (cells_of back) spot.cell place ∙ sym (map-append cell_of front back) in
      let w = wrote_it (cells_of s.list) s.are within in
      let names_are : names_in (page_at d page) ≡ names_of front ++ r.name ∷ names_of back =
      ap names_in f.is ∙ ap (λ (e : RowPage). e.names) s.entry_is ∙ ap names_of f.split.whole ∙ map-append (λ (it : NamedRow). it.name) front (r ∷ back) in
      let name_place : length (names_of front) ≡ spot.cell = length-map front (λ (it : NamedRow). it.name) ∙ f.split.place in
      let name_within : spot.cell < length (names_in (page_at d page)) = subst (λ l. spot.cell < length l) (sym names_are) (within_at (names_of front) r.name (names_of back) spot.cell name_place) in
      let names : remove (names_in (page_at d page)) spot.cell ≡ names_of (front ++ back) =
      ap (λ l. remove l spot.cell) names_are ∙ remove_at (names_of front) r.name (names_of back) spot.cell name_place ∙ sym (map-append (λ (it : NamedRow). it.name) front back) in
      let entry_now : Some (record { used = used; names = remove (names_in (page_at d page)) spot.cell }) ≡ Some (entry_of (front ++ back)) =
      ap₂ (λ u l. Some (record { used = u; names = l })) (count (cells_of s.list) s.are within ∙ ap (λ l. length (cells_bytes l)) edited) names in
      let stands : Stands (section new owners of_rows page) (Some (front ++ back)) =
      subst (λ o. Stands o (Some (front ++ back))) (sym (here page f.entry s new w.bytes w.writes)) (subst (IsCellPage w.bytes) edited w.are) in
      let there : h.holds.place r.name.table r.name.key ≡ Some page = ap₂ h.holds.place n.0 n.1 ∙ f.there in
      wrote page f.entry s new w.bytes w.writes after (with_rows page (Some (front ++ back)) h.holds.on) (with_place r.name None h.holds.place) now
      (stand_now (section old owners of_rows) (section new owners of_rows) h.holds.on page (Some (front ++ back)) h.holds.stand stands (elsewhere page new w.bytes w.writes))
      (taken_off defs h.holds.on h.holds.place rows now h.holds.named page front back r list_is there (Some (front ++ back)) refl
      (subst (λ t. Sets rows t r.name.key None now) (sym n.0) (subst (λ k. Sets rows table k None now) (sym n.1) sets)))
      (knows_next d after h.holds.on h.holds.place h.holds.knows page (Some (front ++ back)) _ entry_now (page_set name_within) (with_place r.name None h.holds.place)
      (placed d after h.holds.on h.holds.place h.holds.knows r.name None (subst (λ t. SetsPlace t r.name.key None d after) (sym n.0) (subst (λ k. SetsPlace table k None d after) (sym n.1) place_set))))

  nothing : {A : Type 0} (xs : List A) → length xs ≡ 0 → xs ≡ []
  nothing [] e = refl
  nothing (x ∷ xs) e = absurd (omega (arith, e))

  -- the only row of a page is taken off, and the page is freed
  pub freed : (after : Directory) (new : Book) (table : ℕ) (key : Row) (spot : Spot) (now : RowMap) (f : Found d old owners free defs rows h table key spot) → Sets rows table key None now
      → length (names_in (page_at d spot.page)) ≡ 1 → GivesPage spot.page old new → SetsPage spot.page None d after → SetsPlace table key None d after
      → Worked of_rows old owners new (λ mine. Holds after mine defs now)
  freed after new table key spot now f sets one g page_set place_set =
      let s = f.page in
      let r = f.split.at in
      let front = f.split.front in
      let back = f.split.back in
      let page = spot.page in
      let n = is_named table key r.name f.split.is in
      let list_is : rows_on h.holds.on page ≡ front ++ r ∷ back = rows_there d old owners free defs rows h page s.list s.on_is ∙ f.split.whole in
      let names_are : names_in (page_at d page) ≡ names_of s.list = ap names_in f.is ∙ ap (λ (e : RowPage). e.names) s.entry_is in
      let count : length s.list ≡ 1 = sym (length-map s.list (λ (it : NamedRow). it.name)) ∙ ap length (sym names_are) ∙ one in
      let long : length front + length (r ∷ back) ≡ 1 = sym (length-append front (r ∷ back)) ∙ ap length (sym f.split.whole) ∙ count in
      let left : [] ≡ front ++ back = sym (ap₂ (λ a b. a ++ b) (nothing front (omega (arith, long))) (nothing back (omega (arith, long)))) in
      let next = with_owner page nobody owners in
      let done = gives of_rows page free old new owners real not_header s.below s.mine h.owned g in
      let none : section new next of_rows page ≡ None = section_other new next of_rows page (λ e. omega (arith, e, owner_here page nobody owners)) in
      let there : h.holds.place r.name.table r.name.key ≡ Some page = ap₂ h.holds.place n.0 n.1 ∙ f.there in
      record {
        next = next;
        free = page ∷ free;
        owned = done.owned;
        works = done.works;
        holds = record {
          on = with_rows page None h.holds.on;
          place = with_place r.name None h.holds.place;
          stand = stand_now (section old owners of_rows) (section new next of_rows) h.holds.on page None h.holds.stand (subst (λ o. Stands o None) (sym none) tt)
              (same_elsewhere old new owners next of_rows page g.count g.others (λ p apart. owner_there page nobody p owners apart));
          named = taken_off defs h.holds.on h.holds.place rows now h.holds.named page front back r list_is there None left
              (subst (λ t. Sets rows t r.name.key None now) (sym n.0) (subst (λ k. Sets rows table k None now) (sym n.1) sets));
          knows = knows_next d after h.holds.on h.holds.place h.holds.knows page None None refl page_set (with_place r.name None h.holds.place)
              (placed d after h.holds.on h.holds.place h.holds.knows r.name None (subst (λ t. SetsPlace t r.name.key None d after) (sym n.0) (subst (λ k. SetsPlace table k None d after) (sym n.1) place_set)));
        };
      }

  -- ---- a page that is taken

  pub record Taking (mid : Book) (page : ℕ) : Type 0 where
    pub next : Owners
    pub left : List ℕ
    pub done : WorksTo of_rows old owners mid next left
    pub mine : next page ≡ of_rows
    pub others : (p : ℕ) → p ≢ page → next p ≡ owners p
    pub below : page < mid.count
    pub none : section old owners of_rows page ≡ None
    pub past : (p : ℕ) → p ≢ page → nat_lt p old.count ≡ false → nat_lt p mid.count ≡ false

  pub taking : (mid : Book) (page : ℕ) → page ≡ page_taken old → TakesPage old mid → Taking mid page
  taking mid page taken takes = by free h.owned
    where
      not_below : (p : ℕ) → p ≡ old.count → nat_lt p old.count ≡ false
      not_below p is = elim (cases_Bool (nat_lt p old.count)) [
        | inl within ↦ absurd (omega (arith, ltb-true p old.count within, is))
        | inr past ↦ past
      ]

      by : (l : List ℕ) → IsOwned old owners l → Taking mid page
      by [] o =
          let none : (old.first_free == 0) ≡ true = eq-eqb old.first_free 0 o.unused.chain in
          let is : page ≡ old.count = taken ∙ ap (λ b. if b then old.count else old.first_free) none in
          let count : mid.count ≡ old.count + 1 = takes.count ∙ ap (λ b. if b then old.count + 1 else old.count) none in
          record {
            next = with_owner old.count of_rows owners;
            left = [];
            done = takes_new of_rows old mid owners real o takes;
            mine = ap (with_owner old.count of_rows owners) is ∙ owner_here old.count of_rows owners;
            others = λ p apart. owner_there old.count of_rows p owners (λ e. apart (e ∙ sym is));
            below = omega (arith, is, count);
            none = section_past old owners of_rows page (not_below page is);
            past = λ p apart not_old. past_one p (λ e. apart (e ∙ sym is)) not_old count;
          }
        where
          past_one : (p : ℕ) → p ≢ old.count → nat_lt p old.count ≡ false → mid.count ≡ old.count + 1 → nat_lt p mid.count ≡ false
          past_one p apart not_old count = elim (cases_Bool (nat_lt p mid.count)) [
            | inr past ↦ past
            | inl within ↦
                let below = ltb-true p mid.count within in
                let no : true ≡ false = sym (lt-ltb p old.count (omega (arith, below, count, apart))) ∙ not_old in absurd (cc)
          ]
      by (first ∷ rest) o =
          let some : (old.first_free == 0) ≡ false = ne_eqb old.first_free 0 (λ e. omega (arith, o.unused.chain.0, o.unused.chain.1, e)) in
          let is : page ≡ first = taken ∙ ap (λ b. if b then old.count else old.first_free) some ∙ o.unused.chain.0 in
          let count : mid.count ≡ old.count = takes.count ∙ ap (λ b. if b then old.count + 1 else old.count) some in
          let free_one = chain_owned old owners old.first_free (first ∷ rest) o.unused.chain first (or_left (nat_eq first first) (list_any (nat_eq first) rest) (eq-eqb first first refl)) in
          record {
            next = with_owner first of_rows owners;
            left = rest;
            done = takes_free of_rows first rest old mid owners real o takes;
            mine = ap (with_owner first of_rows owners) is ∙ owner_here first of_rows owners;
            others = λ p apart. owner_there first of_rows p owners (λ e. apart (e ∙ sym is));
            below = omega (arith, is, count, free_one.0);
            none = section_other old owners of_rows page (λ e. omega (arith, sym e ∙ ap owners is ∙ free_one.1));
            past = λ p apart not_old. ap (nat_lt p) count ∙ not_old;
          }

  -- a page that is no row page is known to be none
  pub unknown : (page : ℕ) → section old owners of_rows page ≡ None → h.holds.on page ≡ None
  unknown page none = by (h.holds.on page) refl
    where
      by : (o : Option (List NamedRow)) → h.holds.on page ≡ o → h.holds.on page ≡ None
      by None is = is
      by (Some list) is =
          let no : Stands None (Some list) = subst (λ s. Stands s (Some list)) none (subst (Stands (section old owners of_rows page)) is (h.holds.stand page)) in
          absurd no

  -- a row is put onto a page that was free or new
  pub onto_new : (after : Directory) (mid new : Book) (page used : ℕ) (x : NamedRow) (cell : List ℕ) (now : RowMap) → page ≡ page_taken old → TakesPage old mid → WroteCells page (cell ∷ []) mid new → used ≡ length (cells_bytes (cell ∷ []))
      → IsRowOf defs x → cell ≡ cell_of x → place_at d x.name.table x.name.key ≡ None → Sets rows x.name.table x.name.key (Some x.row) now
      → SetsPage page (Some (record { used = used; names = names_in (page_at d page) ++ x.name ∷ [] })) d after → SetsPlace x.name.table x.name.key (Some page) d after
      → Worked of_rows old owners new (λ mine. Holds after mine defs now)
  onto_new after mid new page used x cell now taken takes w count fits cell_is none sets page_set place_set =
      let k = taking mid page taken takes in
      let was : h.holds.on page ≡ None = unknown page k.none in
      let list_is : rows_on h.holds.on page ≡ [] = ap (λ o. unwrap_or o []) was in
      let list = rows_on h.holds.on page in
      let as_cells : cells_of (list ++ x ∷ []) ≡ cell ∷ [] = ap (λ l. cells_of (l ++ x ∷ [])) list_is ∙ ap (λ c. c ∷ []) (sym cell_is) in
      let names : names_in (page_at d page) ++ x.name ∷ [] ≡ names_of (list ++ x ∷ []) =
      ap (λ o. names_in o ++ x.name ∷ []) (h.holds.knows.pages page ∙ ap (option_map entry_of) was) ∙ sym (ap (λ l. names_of (l ++ x ∷ [])) list_is) in
      let entry_now : Some (record { used = used; names = names_in (page_at d page) ++ x.name ∷ [] }) ≡ Some (entry_of (list ++ x ∷ [])) =
      ap₂ (λ u l. Some (record { used = u; names = l })) (count ∙ ap (λ l. length (cells_bytes l)) (sym as_cells)) names in
      let done = writes of_rows page w.bytes k.left mid new k.next real k.mine k.done.owned w.writes in
      let at_page : section new k.next of_rows page ≡ Some w.bytes = section_at new k.next of_rows page (omega (arith, w.writes.count, k.below)) k.mine ∙ ap Some w.writes.is in
      let stands : Stands (section new k.next of_rows page) (Some (list ++ x ∷ [])) =
      subst (λ o. Stands o (Some (list ++ x ∷ []))) (sym at_page) (subst (IsCellPage w.bytes) (sym as_cells) w.are) in
      let same : (p : ℕ) → p ≢ page → section new k.next of_rows p ≡ section old owners of_rows p = λ p apart.
      same_elsewhere mid new k.next k.next of_rows page w.writes.count w.writes.others (λ q other. refl) p apart ∙ same_taken mid k.next page takes k.others k.past p apart in
      record {
        next = k.next;
        free = k.left;
        owned = done.owned;
        works = works_on of_rows old mid new owners k.next k.next real k.done.works done.works;
        holds = record {
          on = with_rows page (Some (list ++ x ∷ [])) h.holds.on;
          place = with_place x.name (Some page) h.holds.place;
          stand = stand_now (section old owners of_rows) (section new k.next of_rows) h.holds.on page (Some (list ++ x ∷ [])) h.holds.stand stands same;
          named = put_on defs h.holds.on h.holds.place rows now h.holds.named page x (sym (h.holds.knows.places x.name.table x.name.key) ∙ none) fits sets;
          knows = knows_next d after h.holds.on h.holds.place h.holds.knows page (Some (list ++ x ∷ [])) _ entry_now page_set (with_place x.name (Some page) h.holds.place)
              (placed d after h.holds.on h.holds.place h.holds.knows x.name (Some page) place_set);
        };
      }
    where
      same_taken : (mid : Book) (next : Owners) (page : ℕ) → TakesPage old mid → ((p : ℕ) → p ≢ page → next p ≡ owners p) → ((p : ℕ) → p ≢ page → nat_lt p old.count ≡ false → nat_lt p mid.count ≡ false)
          → (p : ℕ) → p ≢ page → section mid next of_rows p ≡ section old owners of_rows p
      same_taken mid next page takes others past p apart = elim (cases_Bool (nat_lt p old.count)) [
        | inl within ↦
            let below = ltb-true p old.count within in
            let more : nat_lt p mid.count ≡ true = lt-ltb p mid.count (grows (old.first_free == 0) takes.count below) in
            ap₂ (λ b o. if b && (o == of_rows) then Some (mid.page p) else None) (more ∙ sym within) (others p apart)
            ∙ ap (λ b. if nat_lt p old.count && (owners p == of_rows) then Some b else None) (takes.pages p below)
        | inr beyond ↦ section_past mid next of_rows p (past p apart beyond) ∙ sym (section_past old owners of_rows p beyond)
      ]
        where
          grows : (b : Bool) → mid.count ≡ (if b then old.count + 1 else old.count) → p < old.count → p < mid.count
          grows true count below = omega (arith, count, below)
          grows false count below = omega (arith, count, below)
