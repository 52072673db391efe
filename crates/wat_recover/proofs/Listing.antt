-- The lists of changes in one list of all.
use Rattle.std.proofs.Common.{◌≡◌, ◌≢◌, ℕ, zero, suc, ◌<◌, ◌==◌, ◌&&◌, ◌⊎◌, not, Bool, true, false, cond, get_or, List, [], ◌∷◌, ◌++◌, map, length, take, drop, Option, Some, None, if◌then◌else◌, refl, sym, ap, ◌∙◌, subst, arith, inl, inr}
use Rattle.std.specs.List.{filter, list_any, remove, slice_get}
use Rattle.std.proofs.lemmas.Bool.{and_parts, and_from, and_right, or_cases, or_from, or_left, or_right, not-true, eq-eqb, eqb-true, eqb-false, ne_eqb, cases_Bool}
use Rattle.std.proofs.lemmas.List.{append-nil, map-append}
use Rattle.std.proofs.lemmas.List.Elements.{filter-append}
use Rattle.std.specs.Prelude.{count_by}
use Rattle.std.specs.Cmp.{tied_itself}
use Rattle.std.specs.Ordering.{is_eq}
use Rattle.std.specs.Option.{MatchOption, unwrap_or}
use Rattle.std.specs.declared.cmp.Ordering.{Ordering}
use Rattle.std.specs.declared.cmp.Ordering.TheVariants.{Less, Equal, Greater}
use Rattle.std.proofs.lemmas.List.{length-map}
use Rattle.std.proofs.lemmas.List.Sums.{length-filter}
use Rattle.std.proofs.lemmas.Option.{get_or_from_slice_get, unwrap_or-slice_get}
use Rattle.wat_value.specs.declared.value.Value.{Value}
use Rattle.wat_value.specs.declared.value.Value.TheVariants.{Null}
use Rattle.wat_value.specs.declared.definition.TableDef.{TableDef}
use Rattle.wat_value.specs.declared.change.Change.TheVariants.{Insert, Update, Delete}
use Rattle.wat_value.specs.Changes.{changed_table}
use Rattle.wat_value.specs.Fits.{value_in, values_in}
use Rattle.wat_schema.specs.Catalog.{Catalog, def_at}
use Rattle.wat_schema.specs.Changes.{changed_key}
use Rattle.wat_schema.specs.Tables.{Tables}
use Rattle.wat_recover.specs.Asked.{has_changed_key, is_of_row, row_in}
use Rattle.wat_value.specs.Order.{value_cmp, value_eq, key_eq}
use Rattle.wat_value.specs.OrderLaws.{value_cmp_level, value_cmp_total}
use Rattle.wat_schema.proofs.TableLaws.{equal, itself}
use Rattle.wat_value.specs.declared.change.Change.{Change}
use Rattle.wat_replay.specs.State.{Lists, State, with_list}
use Rattle.wat_recover.specs.declared.change_lists.Standing.{Standing}
use Rattle.wat_recover.specs.Goes.{Popped}
use Rattle.wat_recover.specs.Listed.{lists_of, IsLastOf}

pub lists_append : (xs ys : List Standing) (conn : ℕ) → lists_of (xs ++ ys) conn ≡ lists_of xs conn ++ lists_of ys conn
lists_append xs ys conn =
    ap (map (λ s. s.change)) (filter-append (λ s. conn == s.conn) xs ys) ∙ map-append (λ s. s.change) (filter (λ s. conn == s.conn) xs) (filter (λ s. conn == s.conn) ys)

own : (s : Standing) (conn : ℕ) → (conn == s.conn) ≡ true → lists_of (s ∷ []) conn ≡ s.change ∷ []
own s conn h = ap (λ b. map (λ (x : Standing). x.change) (cond b (s ∷ []) [])) h

others : (s : Standing) (conn : ℕ) → (conn == s.conn) ≡ false → lists_of (s ∷ []) conn ≡ []
others s conn h = ap (λ b. map (λ (x : Standing). x.change) (cond b (s ∷ []) [])) h

-- the item at a place, and the rest on both sides
split_at : (xs : List Standing) (i : ℕ) (x : Standing) → slice_get xs i ≡ Some x → xs ≡ take i xs ++ x ∷ drop (suc i) xs
split_at [] i x h = absurd (let no : None ≡ Some x = h in cc)
split_at (y ∷ xs) zero x h = let same : y ≡ x = cc in ap (λ z. z ∷ xs) same
split_at (y ∷ xs) (suc i) x h = ap (λ zs. y ∷ zs) (split_at xs i x h)

-- the last change of a connection is taken out
pub popped : (xs : List Standing) (conn i : ℕ) (x : Standing) → IsLastOf xs conn i → slice_get xs i ≡ Some x → Popped conn x.change (lists_of xs) (lists_of (remove xs i))
popped xs conn i x l at = record {
  rest = lists_of (take i xs) conn;
  was = whole conn ∙ ap (λ n. lists_of (take i xs) conn ++ n) (lists_append (x ∷ []) (drop (suc i) xs) conn)
      ∙ (λ j. lists_of (take i xs) conn ++ (own x conn mine j ++ l.none j)) ∙ ap (λ n. lists_of (take i xs) conn ++ n) (append-nil (x.change ∷ []));
  is = λ j other. by other j;
}
  where
    same : x.conn ≡ conn
    same = let one : x ≡ l.last = (let e : Some x ≡ Some l.last = sym at ∙ l.there in cc) in ap (λ (s : Standing). s.conn) one ∙ l.own

    mine : (conn == x.conn) ≡ true
    mine = eq-eqb conn x.conn (sym same)

    whole : (other : ℕ) → lists_of xs other ≡ lists_of (take i xs) other ++ lists_of (x ∷ drop (suc i) xs) other
    whole other = ap (λ ys. lists_of ys other) (split_at xs i x at) ∙ lists_append (take i xs) (x ∷ drop (suc i) xs) other

    by : (other : ℕ) → lists_of (remove xs i) other ≡ with_list conn (lists_of (take i xs) conn) (lists_of xs) other
    by other = elim (cases_Bool (conn == other)) [
      | inl here ↦
          let is : conn ≡ other = eqb-true conn other here in
          lists_append (take i xs) (drop (suc i) xs) other ∙ ap (λ n. lists_of (take i xs) n ++ lists_of (drop (suc i) xs) n) (sym is)
          ∙ ap (λ n. lists_of (take i xs) conn ++ n) l.none ∙ append-nil (lists_of (take i xs) conn)
          ∙ sym (ap (λ b. if b then lists_of (take i xs) conn else lists_of xs other) here)
      | inr there ↦
          let apart : (other == x.conn) ≡ false = ne_eqb other x.conn (λ e. eqb-false conn other there (sym same ∙ sym e)) in
          lists_append (take i xs) (drop (suc i) xs) other
          ∙ ap (λ n. lists_of (take i xs) other ++ n) (sym (lists_append (x ∷ []) (drop (suc i) xs) other ∙ ap (λ n. n ++ lists_of (drop (suc i) xs) other) (others x other apart)))
          ∙ sym (whole other) ∙ sym (ap (λ b. if b then lists_of (take i xs) conn else lists_of xs other) there)
    ]

-- one more that is another's
pub none_more : (x : Standing) (xs : List Standing) (conn : ℕ) → (x.conn ≡ conn → ⊥) → lists_of xs conn ≡ [] → lists_of (x ∷ xs) conn ≡ []
none_more x xs conn apart none =
    lists_append (x ∷ []) xs conn ∙ ap (λ l. l ++ lists_of xs conn) (others x conn (ne_eqb conn x.conn (λ e. apart (sym e)))) ∙ none

-- how many changes are a connection's
pub counted : (xs : List Standing) (conn : ℕ) → count_by (λ s. conn == s.conn) xs ≡ length (lists_of xs conn)
counted xs conn = sym (length-map (filter (λ s. conn == s.conn) xs) (λ s. s.change) ∙ length-filter (λ s. conn == s.conn) xs)

-- what is behind a place, and the item there
pub behind : (xs : List Standing) (i : ℕ) (x : Standing) → slice_get xs i ≡ Some x → drop i xs ≡ x ∷ drop (suc i) xs
behind [] i x h = absurd (let no : None ≡ Some x = h in cc)
behind (y ∷ xs) zero x h = let same : y ≡ x = cc in ap (λ z. z ∷ xs) same
behind (y ∷ xs) (suc i) x h = behind xs i x h

-- ---- values and keys

pub same_value : (a b : Value) → value_eq a b ≡ true → a ≡ b
same_value a b h = value_cmp_level a b (level (value_cmp a b) h)
  where
    level : (o : Ordering) → is_eq o ≡ true → o ≡ Equal
    level Less h = cc
    level Equal h = refl
    level Greater h = cc

pub value_itself : (a b : Value) → a ≡ b → value_eq a b ≡ true
value_itself a b e = ap (λ v. value_eq a v) (sym e) ∙ ap is_eq (tied_itself value_cmp_total a)

pub same_row : (a b : List Value) → key_eq a b ≡ true → a ≡ b
same_row a b h = equal a b h

pub row_itself : (a b : List Value) → a ≡ b → key_eq a b ≡ true
row_itself a b e = ap (λ v. key_eq a v) (sym e) ∙ itself a

pub value_there : (row : List Value) (column : ℕ) (found : Value) → slice_get row column ≡ Some found → value_in row column ≡ found
value_there row column found h = get_or_from_slice_get row column found Null h

pub value_past : (row : List Value) (column : ℕ) → slice_get row column ≡ None → value_in row column ≡ Null
value_past row column h = sym (unwrap_or-slice_get row column Null) ∙ ap (λ o. unwrap_or o Null) h

-- there is an item at each place within
pub none_within : {X : Type 0} (xs : List X) (i : ℕ) → i < length xs → None ≡ slice_get xs i → ⊥
none_within [] i h e = omega arith
none_within (y ∷ xs) zero h e = let no : None ≡ Some y = e in cc
none_within (y ∷ xs) (suc i) h e = none_within xs i (omega arith) e

-- the value in a column, by its place in the list of columns
pub column_value : (row : List Value) (columns : List ℕ) (i : ℕ) (d : Value) → i < length columns → get_or (values_in row columns) i d ≡ value_in row (get_or columns i 0)
column_value row [] i d h = absurd (omega arith)
column_value row (column ∷ columns) zero d h = refl
column_value row (column ∷ columns) (suc i) d h = column_value row columns i d (omega arith)

same_bool : (a b : Bool) → (a ≡ true → b ≡ true) → (b ≡ true → a ≡ true) → a ≡ b
same_bool true b to from = sym (to refl)
same_bool false true to from = from refl
same_bool false false to from = refl

key_in : (def : TableDef) (change : Change) → changed_key def change ≡ values_in (row_in change) def.key
key_in def (Insert table row) = refl
key_in def (Update table before after) = refl
key_in def (Delete table before) = refl

pub of_row_is : (b : Bool) (def : TableDef) (table : ℕ) (key : List Value) (change : Change) → table ≡ changed_table change
    → (b ≡ true → key ≡ values_in (row_in change) def.key) → (key ≡ values_in (row_in change) def.key → b ≡ true) → b ≡ ((table == changed_table change) && key_eq key (changed_key def change))
of_row_is b def table key change same to from =
    same_bool b (key_eq key (changed_key def change)) (λ h. row_itself key (changed_key def change) (to h ∙ sym (key_in def change))) (λ h. from (same_row key (changed_key def change) h ∙ key_in def change))
    ∙ sym (ap (λ v. v && key_eq key (changed_key def change)) (eq-eqb table (changed_table change) same))

-- ---- changes of a row by other connections

abbrev pub is_of : TableDef → ℕ → List Value → Change → Bool
is_of def table key change = (table == changed_table change) && key_eq key (changed_key def change)

-- the change is another's, and of the row
abbrev pub is_others : TableDef → ℕ → ℕ → List Value → Standing → Bool
is_others def conn table key s = not (conn == s.conn) && is_of def table key s.change

by_def : (c : Catalog) (def : TableDef) (table : ℕ) (key : List Value) (change : Change) → def_at c table ≡ Some def → is_of_row c table key change ≡ is_of def table key change
by_def c def table key change at = ap (λ o. (table == changed_table change) && has_changed_key o key change) at

pub none_of_row : (c : Catalog) (table : ℕ) (key : List Value) (changes : List Change) → def_at c table ≡ None → list_any (is_of_row c table key) changes ≡ false
none_of_row c table key [] at = refl
none_of_row c table key (change ∷ changes) at =
    let one : is_of_row c table key change ≡ false = ap (λ o. (table == changed_table change) && has_changed_key o key change) at ∙ and_right (table == changed_table change) false refl in
    or_from (is_of_row c table key change) (list_any (is_of_row c table key) changes) one (none_of_row c table key changes at)

any_front : {X : Type 0} (p : X → Bool) (xs ys : List X) → list_any p xs ≡ true → list_any p (xs ++ ys) ≡ true
any_front p [] ys h = cc
any_front p (x ∷ xs) ys h = elim (or_cases (p x) (list_any p xs) h) [
  | inl here ↦ or_left (p x) (list_any p (xs ++ ys)) here
  | inr there ↦ or_right (p x) (list_any p (xs ++ ys)) (any_front p xs ys there)
]

any_back : {X : Type 0} (p : X → Bool) (xs ys : List X) → list_any p ys ≡ true → list_any p (xs ++ ys) ≡ true
any_back p [] ys h = h
any_back p (x ∷ xs) ys h = or_right (p x) (list_any p (xs ++ ys)) (any_back p xs ys h)

any_parts : {X : Type 0} (p : X → Bool) (xs ys : List X) → list_any p (xs ++ ys) ≡ true → (list_any p xs ≡ true) ⊎ (list_any p ys ≡ true)
any_parts p [] ys h = inr h
any_parts p (x ∷ xs) ys h = elim (or_cases (p x) (list_any p (xs ++ ys)) h) [
  | inl here ↦ inl (or_left (p x) (list_any p xs) here)
  | inr there ↦ elim (any_parts p xs ys there) [ inl front ↦ inl (or_right (p x) (list_any p xs) front) | inr back ↦ inr back ]
]

module _ (c : Catalog) (def : TableDef) (conn table : ℕ) (key : List Value) (at : def_at c table ≡ Some def) where
  abbrev HasOther : List Standing → Type 0
  HasOther xs = (other : ℕ) × (other ≢ conn) × (list_any (is_of_row c table key) (lists_of xs other) ≡ true)

  pub other_found : (xs : List Standing) → list_any (is_others def conn table key) xs ≡ true → HasOther xs
  other_found [] h = absurd (let no : false ≡ true = h in cc)
  other_found (x ∷ xs) h = elim (or_cases (is_others def conn table key x) (list_any (is_others def conn table key) xs) h) [
    | inl here ↦
        let parts = and_parts (not (conn == x.conn)) (is_of def table key x.change) here in
        let one : lists_of (x ∷ []) x.conn ≡ x.change ∷ [] = own x x.conn (eq-eqb x.conn x.conn refl) in
        let hit : list_any (is_of_row c table key) (lists_of (x ∷ []) x.conn) ≡ true =
        ap (list_any (is_of_row c table key)) one ∙ or_left (is_of_row c table key x.change) false (by_def c def table key x.change at ∙ parts.1) in (
          x.conn,
          (λ e. let no : true ≡ false = sym (eq-eqb conn x.conn (sym e)) ∙ not-true (conn == x.conn) parts.0 in cc),
          ap (list_any (is_of_row c table key)) (lists_append (x ∷ []) xs x.conn) ∙ any_front (is_of_row c table key) (lists_of (x ∷ []) x.conn) (lists_of xs x.conn) hit,
        )
    | inr there ↦
        let rest = other_found xs there in
        (rest.0, rest.1, ap (list_any (is_of_row c table key)) (lists_append (x ∷ []) xs rest.0) ∙ any_back (is_of_row c table key) (lists_of (x ∷ []) rest.0) (lists_of xs rest.0) rest.2)
  ]

  pub other_there : (xs : List Standing) → HasOther xs → list_any (is_others def conn table key) xs ≡ true
  other_there [] h = absurd (let no : false ≡ true = h.2 in cc)
  other_there (x ∷ xs) h =
      elim (any_parts (is_of_row c table key) (lists_of (x ∷ []) h.0) (lists_of xs h.0) (sym (ap (list_any (is_of_row c table key)) (lists_append (x ∷ []) xs h.0)) ∙ h.2)) [
        | inl here ↦ or_left (is_others def conn table key x) (list_any (is_others def conn table key) xs) (first (cases_Bool (h.0 == x.conn)) here)
        | inr there ↦ or_right (is_others def conn table key x) (list_any (is_others def conn table key) xs) (other_there xs (h.0, h.1, there))
      ]
    where
      first : ((h.0 == x.conn) ≡ true) ⊎ ((h.0 == x.conn) ≡ false) → list_any (is_of_row c table key) (lists_of (x ∷ []) h.0) ≡ true → is_others def conn table key x ≡ true
      first (inl mine) hit =
          let one : is_of_row c table key x.change ≡ true =
          elim (or_cases (is_of_row c table key x.change) false (sym (ap (list_any (is_of_row c table key)) (own x h.0 mine)) ∙ hit)) [ inl yes_ ↦ yes_ | inr bad ↦ cc ] in
          and_from (not (conn == x.conn)) (is_of def table key x.change)
          (ap not (ne_eqb conn x.conn (λ e. h.1 (eqb-true h.0 x.conn mine ∙ sym e)))) (sym (by_def c def table key x.change at) ∙ one)
      first (inr not_mine) hit = absurd (let bad : false ≡ true = sym (ap (list_any (is_of_row c table key)) (others x h.0 not_mine)) ∙ hit in cc)

-- ---- the lists of a machine

abbrev pub with_lists : Tables → List Standing → State
with_lists t standing = record { tables = t; lists = lists_of standing }

abbrev pub tables_and_lists : Tables → Lists → State
tables_and_lists t lists = record { tables = t; lists = lists }

pub popped_so : (t : Tables) (s : State) (old new : List Standing) (conn : ℕ) (o : Option Change) → with_lists t old ≡ s
    → MatchOption o ((lists_of old conn ≡ []) × (new ≡ old)) (λ change. Popped conn change (lists_of old) (lists_of new))
    → MatchOption o ((s.lists conn ≡ []) × (with_lists t new ≡ s)) (λ change. (x : Lists) × Popped conn change s.lists x × (with_lists t new ≡ tables_and_lists s.tables x))
popped_so t s old new conn None e m = (ap (λ (z : State). z.lists conn) (sym e) ∙ m.0, ap (with_lists t) m.1 ∙ e)
popped_so t s old new conn (Some change) e m =
    (lists_of new, subst (λ (z : State). Popped conn change z.lists (lists_of new)) e m, λ i. tables_and_lists (e i).tables (lists_of new))
