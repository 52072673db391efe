-- Where a row stands by what the directory answers, and what stands there.
use Rattle.std.proofs.Common.{◌≡◌, ◌≢◌, inl, inr, ℕ, ◌+◌, ◌<◌, ◌≤◌, ◌==◌, ◌&&◌, Bool, true, false, if◌then◌else◌, List, [], ◌∷◌, ◌++◌, length, map, Option, Some, None, refl, sym, ap, ap₂, subst, ◌∙◌, zero, suc, arith, length-append}
use Rattle.std.specs.Prelude.{cond, nat_lt, nat_eq, unwrap_or}
use Rattle.std.specs.List.{AllByRecursion, position, position_from, position_or_len}
use Rattle.std.specs.Option.{option_map}
use Rattle.std.proofs.lemmas.Bool.{cases_Bool, eqb-true, eq-eqb, ne_eqb, lt-ltb, ltb-true}
use Rattle.std.proofs.lemmas.Iterator.Adapters.{position_from-zero}
use Rattle.std.proofs.lemmas.List.{map-append, length-map}
use Rattle.wat_slot.specs.Cells.{cells_bytes, IsCellPage}
use Rattle.wat_slot.proofs.Reading.{one_list}
use Rattle.wat_value.specs.Encoding.{IsEncodable}
use Rattle.wat_book.specs.Book.{Book, Owners, nobody, header, Section, section, IsOwned}
use Rattle.wat_rows.specs.declared.name.RowName.{RowName}
use Rattle.wat_rows.specs.Rows.{Row, NamedRow, RowMap, Defs, name_is, names_of, cells_of, cell_of, row_cell, row_named, times, used_by, IsRowOf}
use Rattle.wat_rows.specs.Pages.{Layout, PlaceMap, rows_on, Stands, is_at, row_where, AreNamed, AreRowPages, of_rows}
use Rattle.wat_rows.proofs.Lists.{is_named, named_itself, all_back}
use Rattle.wat_rows.proofs.Stepping.{stands_as}
use Rattle.wat_directory.specs.declared.row_page.RowPage.{RowPage}
use Rattle.wat_directory.specs.declared.directory.Directory.{Directory}
use Rattle.wat_directory.specs.declared.directory.Spot.{Spot}
use Rattle.wat_directory.specs.Known.{page_at, place_at, spot_at, spot_by, spot_on, entry_of, names_in, Holds, Knows}
use Rattle.wat_heap.specs.Heaps.{IsHeld}

-- ---- a place in a list

abbrev as_spot : ℕ → ℕ → Spot
as_spot page cell = record { page = page; cell = cell }

pub record Split (table : ℕ) (key : Row) (rows : List NamedRow) (j : ℕ) : Type 0 where
  pub front : List NamedRow
  pub at : NamedRow
  pub back : List NamedRow
  pub whole : rows ≡ front ++ at ∷ back
  pub place : length front ≡ j
  pub is : name_is table key at.name ≡ true

module _ (table : ℕ) (key : Row) where
  record SplitFrom (i : ℕ) (rows : List NamedRow) (j : ℕ) : Type 0 where
    front : List NamedRow
    at : NamedRow
    back : List NamedRow
    whole : rows ≡ front ++ at ∷ back
    place : i + length front ≡ j
    is : name_is table key at.name ≡ true

  split_from : (i j : ℕ) (rows : List NamedRow) → position_from (name_is table key) i (names_of rows) ≡ Some j → SplitFrom i rows j
  split_from i j [] h = absurd (let no : None ≡ Some j = h in cc)
  split_from i j (x ∷ xs) h = elim (cases_Bool (name_is table key x.name)) [
    | inl is ↦
        let first : Some i ≡ Some j = sym (ap (λ b. cond b (Some i) (position_from (name_is table key) (i + 1) (names_of xs))) is) ∙ h in
        let same : i ≡ j = cc in
        record { front = []; at = x; back = xs; whole = refl; place = omega (arith, same); is = is }
    | inr isnt ↦
        let rest : position_from (name_is table key) (i + 1) (names_of xs) ≡ Some j = sym (ap (λ b. cond b (Some i) (position_from (name_is table key) (i + 1) (names_of xs))) isnt) ∙ h in
        let s = split_from (i + 1) j xs rest in
        record { front = x ∷ s.front; at = s.at; back = s.back; whole = ap (λ l. x ∷ l) s.whole; place = omega (arith, s.place); is = s.is }
  ]

  pub split_at : (j : ℕ) (rows : List NamedRow) → position (name_is table key) (names_of rows) ≡ Some j → Split table key rows j
  split_at j rows h =
      let s = split_from 0 j rows (sym (position_from-zero (name_is table key) (names_of rows)) ∙ h) in
      record { front = s.front; at = s.at; back = s.back; whole = s.whole; place = omega (arith, s.place); is = s.is }

  some_from : (i : ℕ) (names : List RowName) → times table key names ≡ 1 → position_from (name_is table key) i names ≡ None → ⊥
  some_from i [] one none = omega (arith, one)
  some_from i (x ∷ xs) one none = elim (cases_Bool (name_is table key x)) [
    | inl is ↦ let no : Some i ≡ None = sym (ap (λ b. cond b (Some i) (position_from (name_is table key) (i + 1) xs)) is) ∙ none in cc
    | inr isnt ↦
        some_from (i + 1) xs (plus (times table key xs) (sym (ap (λ b. (if b then 1 else 0) + times table key xs) isnt) ∙ one))
        (sym (ap (λ b. cond b (Some i) (position_from (name_is table key) (i + 1) xs)) isnt) ∙ none)
  ]
    where
      plus : (n : ℕ) → 0 + n ≡ 1 → n ≡ 1
      plus n h = omega (arith, h)

  pub stands_in : (names : List RowName) → times table key names ≡ 1 → position (name_is table key) names ≡ None → ⊥
  stands_in names one none = some_from 0 names one (sym (position_from-zero (name_is table key) names) ∙ none)

-- ---- sections

pub section_at : (book : Book) (owners : Owners) (who page : ℕ) → page < book.count → owners page ≡ who → section book owners who page ≡ Some (book.page page)
section_at book owners who page below is = ap₂ (λ a b. if a && b then Some (book.page page) else None) (lt-ltb page book.count below) (eq-eqb (owners page) who is)

pub section_past : (book : Book) (owners : Owners) (who page : ℕ) → nat_lt page book.count ≡ false → section book owners who page ≡ None
section_past book owners who page past = ap (λ a. if a && (owners page == who) then Some (book.page page) else None) past

pub section_other : (book : Book) (owners : Owners) (who page : ℕ) → owners page ≢ who → section book owners who page ≡ None
section_other book owners who page other = elim (nat_lt page book.count) as (λ v. (if v && (owners page == who) then Some (book.page page) else None) ≡ None) [
  | true ↦ ap (λ b. if b then Some (book.page page) else None) (ne_eqb (owners page) who other)
  | false ↦ refl
]

record Seen (book : Book) (owners : Owners) (page : ℕ) (rows : List NamedRow) : Type 0 where
  below : page < book.count
  mine : owners page ≡ of_rows
  are : IsCellPage (book.page page) (cells_of rows)

seen : (book : Book) (owners : Owners) (page : ℕ) (rows : List NamedRow) → Stands (section book owners of_rows page) (Some rows) → Seen book owners page rows
seen book owners page rows is = by (nat_lt page book.count) (owners page == of_rows) refl refl is
  where
    by : (a b : Bool) → nat_lt page book.count ≡ a → (owners page == of_rows) ≡ b → Stands (if a && b then Some (book.page page) else None) (Some rows) → Seen book owners page rows
    by true true below mine there = record { below = ltb-true page book.count below; mine = eqb-true (owners page) of_rows mine; are = there }
    by true false below mine there = absurd there
    by false b below mine there = absurd there

-- ---- a page that the directory knows, and a row that it finds

module _ (d : Directory) (old : Book) (owners : Owners) (free : List ℕ) (defs : Defs) (rows : RowMap) (h : IsHeld d old owners free defs rows) where
  pub record OnPage (page : ℕ) (entry : RowPage) : Type 0 where
    pub list : List NamedRow
    pub on_is : h.holds.on page ≡ Some list
    pub entry_is : entry ≡ entry_of list
    pub below : page < old.count
    pub mine : owners page ≡ of_rows
    pub are : IsCellPage (old.page page) (cells_of list)
    pub not_first : 1 ≤ page

  pub on_page : (page : ℕ) (entry : RowPage) → page_at d page ≡ Some entry → OnPage page entry
  on_page page entry is = by (h.holds.on page) refl
    where
      first : (p : ℕ) → owners p ≡ of_rows → 1 ≤ p
      first zero mine = absurd (omega (arith, h.owned.first, mine))
      first (suc p) mine = omega arith

      by : (o : Option (List NamedRow)) → h.holds.on page ≡ o → OnPage page entry
      by None none = absurd (let no : Some entry ≡ None = sym is ∙ h.holds.knows.pages page ∙ ap (option_map entry_of) none in cc)
      by (Some list) some =
          let both : Some entry ≡ Some (entry_of list) = sym is ∙ h.holds.knows.pages page ∙ ap (option_map entry_of) some in
          let there = seen old owners page list (subst (Stands (section old owners of_rows page)) some (h.holds.stand page)) in
          record { list = list; on_is = some; entry_is = cc; below = there.below; mine = there.mine; are = there.are; not_first = first page there.mine }

  pub rows_there : (page : ℕ) (list : List NamedRow) → h.holds.on page ≡ Some list → rows_on h.holds.on page ≡ list
  rows_there page list is = ap (λ o. unwrap_or o []) is

  pub record Found (table : ℕ) (key : Row) (spot : Spot) : Type 0 where
    pub entry : RowPage
    pub is : page_at d spot.page ≡ Some entry
    pub page : OnPage spot.page entry
    pub split : Split table key page.list spot.cell
    pub there : h.holds.place table key ≡ Some spot.page
    pub row : rows table key ≡ Some split.at.row

  pub found : (table : ℕ) (key : Row) (spot : Spot) → spot_at d table key ≡ Some spot → Found table key spot
  found table key spot is = by_place (place_at d table key) refl is
    where
      at_cell : (p j : ℕ) (entry : RowPage) → place_at d table key ≡ Some p → page_at d p ≡ Some entry → position (name_is table key) entry.names ≡ Some j → Found table key (record { page = p; cell = j })
      at_cell p j entry place known cell =
          let s = on_page p entry known in
          let split = split_at table key j s.list (ap (λ (e : RowPage). position (name_is table key) e.names) (sym s.entry_is) ∙ cell) in
          let there : h.holds.place table key ≡ Some p = sym (h.holds.knows.places table key) ∙ place in
          let name = is_named table key split.at.name split.is in
          let own : h.holds.place split.at.name.table split.at.name.key ≡ Some p = ap₂ h.holds.place name.0 name.1 ∙ there in
          record {
            entry = entry;
            is = known;
            page = s;
            split = split;
            there = there;
            row = ap₂ rows (sym name.0) (sym name.1)
                ∙ stands_as defs h.holds.on h.holds.place rows rows h.holds.named p split.front split.back split.at (rows_there p s.list s.on_is ∙ split.whole) own;
          }

      by_cell : (p : ℕ) (entry : RowPage) → place_at d table key ≡ Some p → page_at d p ≡ Some entry → (o : Option ℕ) → position (name_is table key) entry.names ≡ o
          → option_map (λ cell. record { page = p; cell = cell }) o ≡ Some spot → Found table key spot
      by_cell p entry place known None cell s = absurd (let no : None ≡ Some spot = s in cc)
      by_cell p entry place known (Some j) cell s =
          let both : Some (record { page = p; cell = j }) ≡ Some spot = s in
          let same : record { page = p; cell = j } ≡ spot = cc in
          subst (Found table key) same (at_cell p j entry place known cell)

      by_page : (p : ℕ) → place_at d table key ≡ Some p → (o : Option RowPage) → page_at d p ≡ o → spot_on table key p o ≡ Some spot → Found table key spot
      by_page p place None known s = absurd (let no : None ≡ Some spot = s in cc)
      by_page p place (Some entry) known s = by_cell p entry place known (position (name_is table key) entry.names) refl s

      by_place : (o : Option ℕ) → place_at d table key ≡ o → spot_by d table key o ≡ Some spot → Found table key spot
      by_place None place s = absurd (let no : None ≡ Some spot = s in cc)
      by_place (Some p) place s = by_page p place (page_at d p) refl s

  -- what stands in the row's cell is the row
  pub reads : (table : ℕ) (key : Row) (spot : Spot) (f : Found table key spot) (cells : List (List ℕ)) → IsCellPage (old.page spot.page) cells → (o : Option Row)
      → ((front back : List (List ℕ)) (t : ℕ) (row : Row) → cells ≡ front ++ row_cell t row ∷ back → length front ≡ spot.cell → t < 4294967296 → IsEncodable row → o ≡ Some row) → o ≡ rows table key
  reads table key spot f cells are o read =
      let r = f.split.at in
      let front = f.split.front in
      let back = f.split.back in
      let whole : cells ≡ cells_of front ++ cell_of r ∷ cells_of back =
      one_list (old.page spot.page) cells (cells_of f.page.list) are f.page.are ∙ ap cells_of f.split.whole ∙ map-append cell_of front (r ∷ back) in
      let all : AllByRecursion (IsRowOf defs) (front ++ r ∷ back) = subst (AllByRecursion (IsRowOf defs)) (rows_there spot.page f.page.list f.page.on_is ∙ f.split.whole) (h.holds.named.allowed spot.page) in
      let own : IsRowOf defs r = (all_back (IsRowOf defs) front (r ∷ back) all).0 in
      read (cells_of front) (cells_of back) r.name.table r.row whole (length-map front cell_of ∙ f.split.place) own.number own.encodable ∙ sym f.row

  pub reads_none : (table : ℕ) (key : Row) (spot : Spot) (f : Found table key spot) → None ≡ rows table key → ⊥
  reads_none table key spot f none = let no : None ≡ Some f.split.at.row = none ∙ f.row in cc

  -- a row that is not found stands nowhere
  pub not_found : (table : ℕ) (key : Row) → spot_at d table key ≡ None → h.holds.place table key ≡ None
  not_found table key none = by (h.holds.place table key) refl
    where
      by : (o : Option ℕ) → h.holds.place table key ≡ o → h.holds.place table key ≡ None
      by None is = is
      by (Some p) is = absurd (there (h.holds.on p) refl)
        where
          one : times table key (names_of (rows_on h.holds.on p)) ≡ 1
          one = h.holds.named.once p table key ∙ ap (λ o. if is_at p o then 1 else 0) is ∙ ap (λ b. if b then 1 else 0) (eq-eqb p p refl)

          there : (o : Option (List NamedRow)) → h.holds.on p ≡ o → ⊥
          there None e =
              let no : 0 ≡ 1 = sym (ap (λ o. times table key (names_of (unwrap_or o []))) e) ∙ one in
              omega (arith, no)
          there (Some list) e =
              let place : place_at d table key ≡ Some p = h.holds.knows.places table key ∙ is in
              let entry : page_at d p ≡ Some (entry_of list) = h.holds.knows.pages p ∙ ap (option_map entry_of) e in
              let nowhere : position (name_is table key) (names_of list) ≡ None = no_cell (position (name_is table key) (names_of list)) refl (sym (ap (spot_on table key p) entry) ∙ sym (ap (spot_by d table key) place) ∙ none) in
              stands_in table key (names_of list) (sym (ap (λ o. times table key (names_of (unwrap_or o []))) e) ∙ one) nowhere
            where
              no_cell : (o : Option ℕ) → position (name_is table key) (names_of list) ≡ o → option_map (as_spot p) (position (name_is table key) (names_of list)) ≡ None
                  → position (name_is table key) (names_of list) ≡ None
              no_cell None e n = e
              no_cell (Some j) e n = absurd (let no : Some (as_spot p j) ≡ None = sym (ap (option_map {U = Spot} (as_spot p)) e) ∙ n in cc)
