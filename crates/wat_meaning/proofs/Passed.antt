-- What the checks found, where they refuse nothing.
use Rattle.std.proofs.Common.{◌≡◌, ℕ, zero, suc, ◌==◌, nat_le, length, is_none, ◌&&◌, Bool, true, false, not, cond, min, is_some, List, [], ◌∷◌, ◌++◌, map, Option, Some, None, unwrap_or, slice_get, refl, sym, ap, ◌∙◌, inl, inr}
use Rattle.std.specs.List.{find, fold, list_all, position_from}
use Rattle.std.specs.Option.{option_map, option_and_then, option_map_or}
use Rattle.std.proofs.lemmas.Bool.{and_parts, or_parts, eq-eqb, cases_Bool}
use Rattle.wat_value.specs.declared.definition.TableDef.{TableDef}
use Rattle.wat_schema.specs.Catalog.{Name, Catalog, Listing, has_name, has_number, listing_named, listing_at, table_named, def_at, ordinal, repeats}
use Rattle.wat_schema.specs.Definitions.{same_name, may_be_null, table_rules, bad_definition, is_definition}
use Rattle.wat_schema.specs.Stored.{IsCatalog, is_whole, are_indexes}
use Rattle.wat_schema.specs.Tables.{Table, Tables, listing_of, catalog_of, table_at}
use Rattle.wat_types.specs.declared.typing.ExprType.{ExprType}
use Rattle.wat_types.specs.declared.typing.ExprType.TheVariants.{Null}
use Rattle.wat_names.specs.Refusals.{first}
use Rattle.wat_types.specs.Types.{lesser, smallest, breaks}
use Rattle.wat_typing.specs.Rules.{column_type, type_at, type_named, goes_into, misfits}
use Rattle.wat_rules.specs.Rules.{wrong_type}

-- ---- lists of refusals

pub none_first : {X : Type 0} (xs : List X) → first xs ≡ None → xs ≡ []
none_first [] h = refl
none_first (x ∷ xs) h = cc

pub both_empty : {X : Type 0} (xs ys : List X) → xs ++ ys ≡ [] → (xs ≡ []) × (ys ≡ [])
both_empty [] ys h = (refl, h)
both_empty (x ∷ xs) ys h = cc

pub no_rule : (rule : Option ℕ) → wrong_type rule ≡ [] → rule ≡ None
no_rule None h = refl
no_rule (Some rule) h = cc

never : (r : ℕ) (rules : List (Option ℕ)) → fold lesser (Some r) rules ≡ None → ⊥
never r [] h = cc
never r (None ∷ rules) h = never r rules h
never r (Some q ∷ rules) h = never (min r q) rules h

pub none_smallest : (rule : Option ℕ) (rules : List (Option ℕ)) → smallest (rule ∷ rules) ≡ None → (rule ≡ None) × (smallest rules ≡ None)
none_smallest None rules h = (refl, h)
none_smallest (Some r) rules h = absurd (never r rules h)

-- no rule of the list is broken
pub none_of : (rules : List (Option ℕ)) (i : ℕ) (rule : Option ℕ) → smallest rules ≡ None → slice_get rules i ≡ Some rule → rule ≡ None
none_of [] i rule h at = cc
none_of (r ∷ rs) zero rule h at = let is : r ≡ rule = cc in sym is ∙ (none_smallest r rs h).0
none_of (r ∷ rs) (suc i) rule h at = none_of rs i rule (none_smallest r rs h).1 at

pub second : (a b : Option ℕ) → smallest (a ∷ b ∷ []) ≡ None → b ≡ None
second a b h = (none_smallest b [] (none_smallest a (b ∷ []) h).1).0

pub third : (a b c : Option ℕ) → smallest (a ∷ b ∷ c ∷ []) ≡ None → c ≡ None
third a b c h = second b c (none_smallest a (b ∷ c ∷ []) h).1

pub fifth : (a b c d e : Option ℕ) → smallest (a ∷ b ∷ c ∷ d ∷ e ∷ []) ≡ None → e ≡ None
fifth a b c d e h =
    (none_smallest e [] (none_smallest d (e ∷ []) (none_smallest c (d ∷ e ∷ []) (none_smallest b (c ∷ d ∷ e ∷ []) (none_smallest a (b ∷ c ∷ d ∷ e ∷ []) h).1).1).1).1).0

pub not_broken : (rule : ℕ) (broken : Bool) → breaks rule broken ≡ None → broken ≡ false
not_broken rule true h = cc
not_broken rule false h = refl

not_not : (b : Bool) → not b ≡ false → b ≡ true
not_not true h = refl
not_not false h = cc

-- the values go into the columns, place by place
pub each_goes : (type : ExprType) (value : ExprType) (types values : List ExprType) → misfits (type ∷ types) (value ∷ values) ≡ false → (goes_into value type ≡ true) × (misfits types values ≡ false)
each_goes type value types values h =
    let parts = or_parts (not (goes_into value type)) (misfits types values) h in
    (not_not (goes_into value type) parts.0, parts.1)

-- ---- the schema of the tables

pub listed_def : (n : ℕ) (xs : List Table) → option_map (λ l. l.def) (find (λ l. n == l.def.number) (map listing_of xs)) ≡ option_map (λ x. x.def) (find (λ x. n == x.def.number) xs)
listed_def n [] = refl
listed_def n (x ∷ xs) = elim (cases_Bool (n == x.def.number)) [
  | inl here ↦ rw here refl
  | inr other ↦ rw other (listed_def n xs)
]

-- what is found by one test passes another that it passes too
pub found_again : {X : Type 0} (p q : X → Bool) (xs : List X) (x : X) → find p xs ≡ Some x → q x ≡ true → is_some (find q xs) ≡ true
found_again p q [] x h is = cc
found_again p q (y ∷ ys) x h is = elim (cases_Bool (q y)) [
  | inl here ↦ rw here refl
  | inr other ↦ rw other (elim (cases_Bool (p y)) [
    | inl at ↦
        let found : cond (p y) (Some y) (find p ys) ≡ Some x = h in
        let same : Some y ≡ Some x = rw at at found in
        let e : y ≡ x = cc in
        let none : false ≡ true = sym other ∙ ap q e ∙ is in
        cc
    | inr past ↦
        let found : cond (p y) (Some y) (find p ys) ≡ Some x = h in
        found_again p q ys x (rw past at found) is
  ])
]

-- a table that is named is found by its number
pub listing_stands : (c : Catalog) (name : Name) (n : ℕ) → table_named c name ≡ Some n → is_some (listing_at c n) ≡ true
listing_stands c name n h = by (listing_named c name) refl h
  where
    by : (o : Option Listing) → listing_named c name ≡ o → option_map (λ l. l.def.number) o ≡ Some n → is_some (listing_at c n) ≡ true
    by None e k = cc
    by (Some l) e k =
        let is : l.def.number ≡ n = cc in
        found_again (has_name name) (has_number n) c.tables l e (eq-eqb n l.def.number (sym is))

pub def_stands : (c : Catalog) (name : Name) (n : ℕ) → table_named c name ≡ Some n → is_some (def_at c n) ≡ true
def_stands c name n h = by (listing_at c n) (listing_stands c name n h)
  where
    by : (o : Option Listing) → is_some o ≡ true → is_some (option_map (λ l. l.def) o) ≡ true
    by None k = k
    by (Some l) k = refl

none_broken : (rules : List Bool) (n : ℕ) → is_none (position_from (λ broken. broken) n rules) ≡ true → (broken : Bool) → slice_get rules 0 ≡ Some broken → broken ≡ false
none_broken [] n none broken at = cc
none_broken (true ∷ rules) n none broken at = cc
none_broken (false ∷ rules) n none broken at = let is : false ≡ broken = cc in sym is

-- what is found passes what all pass
found_passes : {X : Type 0} (p q : X → Bool) (xs : List X) (x : X) → list_all p xs ≡ true → find q xs ≡ Some x → p x ≡ true
found_passes p q [] x all found = cc
found_passes p q (y ∷ ys) x all found =
    let parts = and_parts (p y) (list_all p ys) all in
    let here : cond (q y) (Some y) (find q ys) ≡ Some x = found in
    elim (cases_Bool (q y)) [
      | inl at ↦
          let same : Some y ≡ Some x = rw at at here in
          let is : y ≡ x = cc in
          ap p (sym is) ∙ parts.0
      | inr past ↦ found_passes p q ys x parts.1 (rw past at here)
    ]

-- no two columns of a table have one name
pub named_once : (c : Catalog) (n : ℕ) (def : TableDef) → IsCatalog c → def_at c n ≡ Some def → repeats same_name def.columns ≡ false
named_once c n def ok at = by (listing_at c n) refl at
  where
    by : (o : Option Listing) → listing_at c n ≡ o → option_map (λ l. l.def) o ≡ Some def → repeats same_name def.columns ≡ false
    by None e h = cc
    by (Some l) e h =
        let is : l.def ≡ def = cc in
        let whole : is_whole l ≡ true = found_passes is_whole (has_number n) c.tables l ok.tables e in
        let defined = (and_parts (is_definition false l.def) (nat_le (length l.indexes) 8) (and_parts (is_definition false l.def && nat_le (length l.indexes) 8) (are_indexes l.def 1 l.indexes) whole).0).0 in
        let unbroken = (and_parts (not (may_be_null l.def.columns l.def.key)) (is_none (bad_definition false l.def.columns (l.def.key ∷ []))) defined).1 in
        ap (λ (d : TableDef). repeats same_name d.columns) (sym is) ∙ none_broken (table_rules false l.def.columns (l.def.key ∷ [])) 1 unbroken (repeats same_name l.def.columns) refl

-- the definition of a table that stands
pub def_is : (t : Tables) (n : ℕ) (x : Table) → table_at t n ≡ Some x → def_at (catalog_of t) n ≡ Some x.def
def_is t n x at = listed_def n t.tables ∙ ap (option_map (λ z. z.def)) at

-- the type of the column with this number, and that of NULL where there is none
abbrev pub kind_at : TableDef → ℕ → ExprType
kind_at def i = unwrap_or (option_map column_type (slice_get def.columns i)) Null

abbrev pub kind_named : TableDef → Name → ExprType
kind_named def name = unwrap_or (option_map (kind_at def) (ordinal def name)) Null

pub type_at_is : (c : Catalog) (n : ℕ) (def : TableDef) (i : ℕ) → def_at c n ≡ Some def → type_at c (Some n) i ≡ kind_at def i
type_at_is c n def i is = ap (λ (o : Option TableDef). unwrap_or (option_map column_type (slice_get (option_map_or (λ d. d.columns) o []) i)) Null) is

pub type_named_is : (c : Catalog) (n : ℕ) (def : TableDef) (name : Name) → def_at c n ≡ Some def → type_named c (Some n) name ≡ kind_named def name
unfolding type_named
type_named_is c n def name is =
    ap (λ (o : Option TableDef). unwrap_or (option_map (type_at c (Some n)) (option_and_then (λ d. ordinal d name) o)) Null) is
    ∙ by (ordinal def name)
  where
    by : (o : Option ℕ) → unwrap_or (option_map (type_at c (Some n)) o) Null ≡ unwrap_or (option_map (kind_at def) o) Null
    by None = refl
    by (Some i) = type_at_is c n def i is
