-- What a change of one page makes of the rows.
use Rattle.std.proofs.Common.{◌≡◌, ◌≢◌, ◌⊎◌, inl, inr, ℕ, ◌+◌, ◌<◌, ◌≤◌, ◌==◌, ◌&&◌, Bool, true, false, if◌then◌else◌, List, [], ◌∷◌, ◌++◌, length, map, Option, Some, None, refl, sym, ap, ap₂, subst, ◌∙◌, arith}
use Rattle.std.specs.Prelude.{unwrap_or}
use Rattle.std.specs.List.{AllByRecursion}
use Rattle.std.proofs.lemmas.Bool.{cases_Bool, eqb-true, eq-eqb, ne_eqb}
use Rattle.wat_slot.specs.Cells.{IsCellPage}
use Rattle.wat_book.specs.Book.{Section}
use Rattle.wat_rows.specs.declared.name.RowName.{RowName}
use Rattle.wat_rows.specs.Rows.{Row, NamedRow, RowMap, Defs, cells_of, names_of, name_is, row_named, times, IsRowOf, Sets}
use Rattle.wat_rows.specs.Pages.{Layout, PlaceMap, rows_on, Stands, is_at, row_where, AreNamed, AreRowPages, with_rows, with_place}
use Rattle.wat_rows.proofs.Lists.{is_named, named_itself, skips, here, nowhere, times_skip, times_here, times_at, all_front, all_back, all_join, append-none, once_found}

true_false : (b : Bool) → b ≡ true → b ≡ false → ⊥
true_false b x y = let no : true ≡ false = sym x ∙ y in cc

apart_by : (a b : ℕ) → (a == b) ≡ false → b ≢ a
apart_by a b h e = true_false (a == b) (eq-eqb a b (sym e)) h

pub rows_here : (page : ℕ) (now : Option (List NamedRow)) (on : Layout) → with_rows page now on page ≡ now
rows_here page now on = ap (λ b. if b then now else on page) (eq-eqb page page refl)

pub rows_there : (page other : ℕ) (now : Option (List NamedRow)) (on : Layout) → (page == other) ≡ false → with_rows page now on other ≡ on other
rows_there page other now on h = ap (λ b. if b then now else on other) h

-- one page of the section has other rows
pub stand_now : (pages next : Section) (on : Layout) (page : ℕ) (now : Option (List NamedRow)) → AreRowPages pages on → Stands (next page) now → ((other : ℕ) → other ≢ page → next other ≡ pages other)
    → AreRowPages next (with_rows page now on)
stand_now pages next on page now are stands same other = elim (cases_Bool (page == other)) [
  | inl here_too ↦
      let e = eqb-true page other here_too in
      subst (λ p. Stands (next p) (with_rows page now on p)) e (subst (Stands (next page)) (sym (rows_here page now on)) stands)
  | inr far ↦
      subst (Stands (next other)) (sym (rows_there page other now on far)) (subst (λ o. Stands o (on other)) (sym (same other (apart_by page other far))) (are other))
]

-- what is changed on a page, and the row of one name
pub record Changes (defs : Defs) (on : Layout) (place : PlaceMap) (page : ℕ) (now : Option (List NamedRow)) (name : RowName) (at : Option ℕ) (row : Option Row) : Type 0 where
  pub allowed : AllByRecursion (IsRowOf defs) (unwrap_or now [])
  pub counted : (t : ℕ) (k : Row) → name_is t k name ≡ false → times t k (names_of (unwrap_or now [])) ≡ times t k (names_of (rows_on on page))
  pub own : times name.table name.key (names_of (unwrap_or now [])) ≡ (if is_at page at then 1 else 0)
  pub apart : (other : ℕ) → other ≢ page → is_at other at ≡ is_at other (place name.table name.key)
  pub others : (t : ℕ) (k : Row) → name_is t k name ≡ false → row_named t k (unwrap_or now []) ≡ row_named t k (rows_on on page)
  pub found : row ≡ row_where (with_rows page now on) name.table name.key at

pub changed : (defs : Defs) (on : Layout) (place : PlaceMap) (rows after : RowMap) → AreNamed defs on place rows
    → (page : ℕ) (now : Option (List NamedRow)) (name : RowName) (at : Option ℕ) (row : Option Row) → Changes defs on place page now name at row
    → Sets rows name.table name.key row after → AreNamed defs (with_rows page now on) (with_place name at place) after
changed defs on place rows after are page now name at row c sets = record {
  allowed = λ other. elim (cases_Bool (page == other)) [
    | inl same ↦ subst (λ p. AllByRecursion (IsRowOf defs) (rows_on (with_rows page now on) p)) (eqb-true page other same) (subst (λ o. AllByRecursion (IsRowOf defs) (unwrap_or o [])) (sym (rows_here page now on)) c.allowed)
    | inr far ↦ subst (λ o. AllByRecursion (IsRowOf defs) (unwrap_or o [])) (sym (rows_there page other now on far)) (are.allowed other)
  ];
  once = λ other t k. elim (cases_Bool (name_is t k name)) [
    | inl is ↦
        let n = is_named t k name is in
        ap₂ (λ x y. times x y (names_of (rows_on (with_rows page now on) other))) (sym n.0) (sym n.1) ∙ own_once other (cases_Bool (page == other))
        ∙ sym (ap (λ b. if is_at other (if b then at else place t k) then 1 else 0) is)
    | inr isnt ↦ elim (cases_Bool (page == other)) [
      | inl same ↦
          ap (λ p. times t k (names_of (rows_on (with_rows page now on) p))) (sym (eqb-true page other same)) ∙ ap (λ o. times t k (names_of (unwrap_or o []))) (rows_here page now on)
          ∙ c.counted t k isnt ∙ are.once page t k ∙ ap (λ p. if is_at p (place t k) then 1 else 0) (eqb-true page other same)
          ∙ sym (ap (λ b. if is_at other (if b then at else place t k) then 1 else 0) isnt)
      | inr far ↦
          ap (λ o. times t k (names_of (unwrap_or o []))) (rows_there page other now on far) ∙ are.once other t k
          ∙ sym (ap (λ b. if is_at other (if b then at else place t k) then 1 else 0) isnt)
    ]
  ];
  found = λ t k. elim (cases_Bool (name_is t k name)) [
    | inl is ↦
        let n = is_named t k name is in
        sets t k ∙ ap (λ b. if b then row else rows t k) is ∙ c.found
        ∙ ap₂ (λ x y. row_where (with_rows page now on) x y at) n.0 n.1 ∙ sym (ap (λ b. row_where (with_rows page now on) t k (if b then at else place t k)) is)
    | inr isnt ↦
        sets t k ∙ ap (λ b. if b then row else rows t k) isnt ∙ are.found t k ∙ sym (still t k isnt (place t k))
        ∙ sym (ap (λ b. row_where (with_rows page now on) t k (if b then at else place t k)) isnt)
  ];
}
  where
    own_once : (other : ℕ) → ((page == other) ≡ true) ⊎ ((page == other) ≡ false) → times name.table name.key (names_of (rows_on (with_rows page now on) other)) ≡ (if is_at other at then 1 else 0)
    own_once other (inl same) =
        ap (λ p. times name.table name.key (names_of (rows_on (with_rows page now on) p))) (sym (eqb-true page other same))
        ∙ ap (λ o. times name.table name.key (names_of (unwrap_or o []))) (rows_here page now on) ∙ c.own ∙ ap (λ p. if is_at p at then 1 else 0) (eqb-true page other same)
    own_once other (inr far) =
        ap (λ o. times name.table name.key (names_of (unwrap_or o []))) (rows_there page other now on far) ∙ are.once other name.table name.key
        ∙ ap (λ b. if b then 1 else 0) (sym (c.apart other (apart_by page other far)))

    still : (t : ℕ) (k : Row) → name_is t k name ≡ false → (o : Option ℕ) → row_where (with_rows page now on) t k o ≡ row_where on t k o
    still t k isnt None = refl
    still t k isnt (Some q) = elim (cases_Bool (page == q)) [
      | inl same ↦
          let e = eqb-true page q same in
          subst (λ p. row_named t k (rows_on (with_rows page now on) p) ≡ row_named t k (rows_on on p)) e (ap (λ o. row_named t k (unwrap_or o [])) (rows_here page now on) ∙ c.others t k isnt)
      | inr far ↦ ap (λ o. row_named t k (unwrap_or o [])) (rows_there page q now on far)
    ]

false_at : (other page : ℕ) → other ≢ page → is_at other (Some page) ≡ false
false_at other page far = ne_eqb page other (λ e. far (sym e))

here_at : (page : ℕ) → is_at page (Some page) ≡ true
here_at page = eq-eqb page page refl

plus_none : (b : Bool) (m n : ℕ) → (n ≡ 0 → m ≡ 0) → (if b then 1 else 0) + n ≡ 0 → (if b then 1 else 0) + m ≡ 0
plus_none true m n less h = absurd (omega (arith, let is : 1 + n ≡ 0 = h in is))
plus_none false m n less h = omega (arith, less (omega (arith, let is : 0 + n ≡ 0 = h in is)))

front_none : (t : ℕ) (k : Row) (xs ys : List NamedRow) → times t k (names_of (xs ++ ys)) ≡ 0 → times t k (names_of xs) ≡ 0
front_none t k [] ys h = refl
front_none t k (x ∷ xs) ys h = plus_none (name_is t k x.name) (times t k (names_of xs)) (times t k (names_of (xs ++ ys))) (front_none t k xs ys) h

-- ---- a row put behind those of a page

module _ (defs : Defs) (on : Layout) (place : PlaceMap) (rows after : RowMap) (are : AreNamed defs on place rows) (page : ℕ) where
  counts : (o : Option ℕ) (t : ℕ) (k : Row) → place t k ≡ o → times t k (names_of (rows_on on page)) ≡ (if is_at page o then 1 else 0)
  counts o t k is = are.once page t k ∙ ap (λ x. if is_at page x then 1 else 0) is

  pub put_on : (x : NamedRow) → place x.name.table x.name.key ≡ None → IsRowOf defs x
      → Sets rows x.name.table x.name.key (Some x.row) after → AreNamed defs (with_rows page (Some (rows_on on page ++ x ∷ [])) on) (with_place x.name (Some page) place) after
  put_on x none fits sets =
      let old = rows_on on page in
      let zero : times x.name.table x.name.key (names_of old) ≡ 0 = counts None x.name.table x.name.key none in
      changed defs on place rows after are page (Some (old ++ x ∷ [])) x.name (Some page) (Some x.row) (record {
        allowed = all_join (IsRowOf defs) old (x ∷ []) (are.allowed page) (fits, tt);
        counted = λ t k isnt. times_skip t k old x [] isnt ∙ ap (λ l. times t k (names_of l)) (append-none old);
        own = times_here x.name.table x.name.key old x [] (named_itself x.name) ∙ ap (λ l. 1 + times x.name.table x.name.key (names_of l)) (append-none old) ∙ ap (λ n. 1 + n) zero
            ∙ sym (ap (λ b. if b then 1 else 0) (here_at page));
        apart = λ other far. false_at other page far ∙ sym (ap (is_at other) none);
        others = λ t k isnt. skips t k old x [] isnt ∙ ap (row_named t k) (append-none old);
        found = sym (ap (λ o. row_named x.name.table x.name.key (unwrap_or o [])) (rows_here page (Some (old ++ x ∷ [])) on) ∙ here x.name.table x.name.key old x [] zero (named_itself x.name));
      }) sets

  module _ (front back : List NamedRow) (r : NamedRow) (split : rows_on on page ≡ front ++ r ∷ back) (there : place r.name.table r.name.key ≡ Some page) where
    once_there : times r.name.table r.name.key (names_of (front ++ back)) ≡ 0
    once_there =
        let whole : times r.name.table r.name.key (names_of (front ++ r ∷ back)) ≡ 1 =
        ap (λ l. times r.name.table r.name.key (names_of l)) (sym split) ∙ counts (Some page) r.name.table r.name.key there ∙ ap (λ b. if b then 1 else 0) (here_at page) in
        omega (arith, whole, times_here r.name.table r.name.key front r back (named_itself r.name))

    -- what is found of a row that stands
    pub stands_as : rows r.name.table r.name.key ≡ Some r.row
    stands_as =
        are.found r.name.table r.name.key ∙ ap (row_where on r.name.table r.name.key) there ∙ ap (row_named r.name.table r.name.key) split
        ∙ here r.name.table r.name.key front r back (front_none r.name.table r.name.key front back once_there) (named_itself r.name)

    -- ---- a row in the place of another of its name

    pub set_on : (x : NamedRow) → x.name ≡ r.name → IsRowOf defs x
        → Sets rows r.name.table r.name.key (Some x.row) after → AreNamed defs (with_rows page (Some (front ++ x ∷ back)) on) (with_place r.name (Some page) place) after
    set_on x name fits sets =
        let new = front ++ x ∷ back in
        let all : AllByRecursion (IsRowOf defs) (front ++ r ∷ back) = subst (AllByRecursion (IsRowOf defs)) split (are.allowed page) in
        let zero = front_none r.name.table r.name.key front back once_there in
        let is : name_is r.name.table r.name.key x.name ≡ true = ap (name_is r.name.table r.name.key) name ∙ named_itself r.name in
        let isnt_too : (t : ℕ) (k : Row) → name_is t k r.name ≡ false → name_is t k x.name ≡ false = λ t k isnt. ap (name_is t k) name ∙ isnt in
        changed defs on place rows after are page (Some new) r.name (Some page) (Some x.row) (record {
          allowed = all_join (IsRowOf defs) front (x ∷ back) (all_front (IsRowOf defs) front (r ∷ back) all) (fits, (all_back (IsRowOf defs) front (r ∷ back) all).1);
          counted = λ t k isnt. times_skip t k front x back (isnt_too t k isnt) ∙ sym (times_skip t k front r back isnt) ∙ ap (λ l. times t k (names_of l)) (sym split);
          own = times_here r.name.table r.name.key front x back is ∙ ap (λ n. 1 + n) once_there ∙ sym (ap (λ b. if b then 1 else 0) (here_at page));
          apart = λ other far. ap (is_at other) (sym there);
          others = λ t k isnt. skips t k front x back (isnt_too t k isnt) ∙ sym (skips t k front r back isnt) ∙ ap (row_named t k) (sym split);
          found = sym (ap (λ o. row_named r.name.table r.name.key (unwrap_or o [])) (rows_here page (Some new) on) ∙ here r.name.table r.name.key front x back zero is);
        }) sets

    -- ---- a row taken off its page

    pub taken_off : (now : Option (List NamedRow)) → unwrap_or now [] ≡ front ++ back
        → Sets rows r.name.table r.name.key None after → AreNamed defs (with_rows page now on) (with_place r.name None place) after
    taken_off now left sets =
        let all : AllByRecursion (IsRowOf defs) (front ++ r ∷ back) = subst (AllByRecursion (IsRowOf defs)) split (are.allowed page) in
        changed defs on place rows after are page now r.name None None (record {
          allowed = subst (AllByRecursion (IsRowOf defs)) (sym left) (all_join (IsRowOf defs) front back (all_front (IsRowOf defs) front (r ∷ back) all) (all_back (IsRowOf defs) front (r ∷ back) all).1);
          counted = λ t k isnt. ap (λ l. times t k (names_of l)) left ∙ sym (times_skip t k front r back isnt) ∙ ap (λ l. times t k (names_of l)) (sym split);
          own = ap (λ l. times r.name.table r.name.key (names_of l)) left ∙ once_there;
          apart = λ other far. sym (ap (is_at other) there ∙ false_at other page far);
          others = λ t k isnt. ap (row_named t k) left ∙ sym (skips t k front r back isnt) ∙ ap (row_named t k) (sym split);
          found = refl;
        }) sets

-- a row that isn't there stands nowhere
pub no_place : (defs : Defs) (on : Layout) (place : PlaceMap) (rows : RowMap) → AreNamed defs on place rows → (table : ℕ) (key : Row) → rows table key ≡ None → place table key ≡ None
no_place defs on place rows are table key none = by (place table key) refl
  where
    by : (o : Option ℕ) → place table key ≡ o → place table key ≡ None
    by None is = is
    by (Some p) is =
        let one : times table key (names_of (rows_on on p)) ≡ 1 = are.once p table key ∙ ap (λ o. if is_at p o then 1 else 0) is ∙ ap (λ b. if b then 1 else 0) (eq-eqb p p refl) in
        absurd (once_found table key (rows_on on p) one (sym (are.found table key ∙ ap (row_where on table key) is) ∙ none))

-- a row that stands nowhere isn't there
pub no_row : (defs : Defs) (on : Layout) (place : PlaceMap) (rows : RowMap) → AreNamed defs on place rows → (table : ℕ) (key : Row) → place table key ≡ None → rows table key ≡ None
no_row defs on place rows are table key none = are.found table key ∙ ap (row_where on table key) none

-- pages on which the same rows stand
pub same_named : (defs : Defs) (on next : Layout) (place : PlaceMap) (rows : RowMap) → ((page : ℕ) → rows_on next page ≡ rows_on on page) → AreNamed defs on place rows → AreNamed defs next place rows
same_named defs on next place rows same are = record {
  allowed = λ page. subst (AllByRecursion (IsRowOf defs)) (sym (same page)) (are.allowed page);
  once = λ page t k. ap (λ l. times t k (names_of l)) (same page) ∙ are.once page t k;
  found = λ t k. are.found t k ∙ sym (where_same t k (place t k));
}
  where
    where_same : (t : ℕ) (k : Row) (o : Option ℕ) → row_where next t k o ≡ row_where on t k o
    where_same t k None = refl
    where_same t k (Some p) = ap (row_named t k) (same p)
