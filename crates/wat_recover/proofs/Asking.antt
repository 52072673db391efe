-- What a change asks of tables is enough for it to apply.
use Rattle.std.proofs.Common.{◌≡◌, ◌≢◌, ℕ, ◌==◌, Bool, true, false, ◌&&◌, ◌||◌, not, List, [], ◌∷◌, Option, Some, None, is_some, refl, sym, ap, ◌∙◌, subst}
use Rattle.std.specs.List.{list_any}
use Rattle.std.specs.Option.{option_map, option_and_then}
use Rattle.std.proofs.lemmas.Bool.{false_from_ne_true}
use Rattle.wat_value.specs.declared.value.Value.{Value}
use Rattle.wat_value.specs.declared.definition.TableDef.{TableDef}
use Rattle.wat_value.specs.declared.change.Change.{Change}
use Rattle.wat_value.specs.declared.change.Change.TheVariants.{Insert, Update, Delete}
use Rattle.wat_value.specs.Changes.{changed_table, row_before}
use Rattle.wat_schema.specs.Catalog.{Catalog, def_at}
use Rattle.wat_schema.specs.Changes.{are_of_one_row, changed_key, have_one_key}
use Rattle.wat_schema.specs.Tables.{IsTables, Table, Tables, apply_change, catalog_of, listing_of, on_table, row_at, row_with, table_at, with_table}
use Rattle.wat_schema.proofs.OneTable.{one, fits_of, asks, makes}
use Rattle.wat_schema.proofs.Placed.{changed, good_found, made_on, parts_of}
use Rattle.wat_schema.proofs.Found.{listed_table}
use Rattle.wat_schema.proofs.Database.{in_their_order}
use Rattle.wat_replay.specs.State.{State, IsLawful, changes_row_of}
use Rattle.wat_replay.specs.Replay.{Allows}
use Rattle.wat_log_record.specs.declared.log_record.LogRecord.TheVariants as entries
use Rattle.wat_recover.specs.Asked.{fits_change, has_changed_key, is_of_row}

as_one : (change : Change) (t : Tables) → apply_change change t ≡ on_table (changed_table change) (one change) t
as_one (Insert table row) t = refl
as_one (Update table before after) t = refl
as_one (Delete table before) t = refl

as_fits : (def : TableDef) (change : Change) → fits_of def change ≡ fits_change def change
as_fits def (Insert table row) = refl
as_fits def (Update table before after) = refl
as_fits def (Delete table before) = refl

-- the table of a definition that is found
record Found (t : Tables) (n : ℕ) (def : TableDef) : Type 0 where
  table : Table
  at : table_at t n ≡ Some table
  is : table.def ≡ def

found : (t : Tables) (n : ℕ) (def : TableDef) → def_at (catalog_of t) n ≡ Some def → Found t n def
found t n def h = by (table_at t n) refl (sym (ap (option_map (λ l. l.def)) (listed_table t n)) ∙ h)
  where
    by : (o : Option Table) → table_at t n ≡ o → option_map (λ l. l.def) (option_map listing_of o) ≡ Some def → Found t n def
    by None e none = absurd (let no : None ≡ Some def = none in cc)
    by (Some x) e some = record { table = x; at = e; is = (let same : Some x.def ≡ Some def = some in cc) }

none_found : (t : Tables) (n : ℕ) → def_at (catalog_of t) n ≡ None → table_at t n ≡ None
none_found t n h = by (table_at t n) refl (sym (ap (option_map (λ l. l.def)) (listed_table t n)) ∙ h)
  where
    by : (o : Option Table) → table_at t n ≡ o → option_map (λ l. l.def) (option_map listing_of o) ≡ None → table_at t n ≡ None
    by None e none = e
    by (Some x) e some = absurd (let no : Some x.def ≡ None = some in cc)

def_of : (t : Tables) (n : ℕ) (x : Table) → table_at t n ≡ Some x → def_at (catalog_of t) n ≡ Some x.def
def_of t n x h = ap (option_map (λ l. l.def)) (listed_table t n ∙ ap (option_map listing_of) h)

no_table : (change : Change) (t : Tables) → def_at (catalog_of t) (changed_table change) ≡ None → apply_change change t ≡ None
no_table change t h =
    as_one change t ∙ ap (option_and_then (λ x. option_map (with_table (changed_table change) t) (one change x))) (none_found t (changed_table change) h)

-- what a change that applies has asked
pub record Asked (change : Change) (t : Tables) (def : TableDef) : Type 0 where
  pub fit : fits_change def change ≡ true
  pub there : row_at t (changed_table change) (changed_key def change) ≡ row_before change

pub asked : (change : Change) (t u : Tables) (def : TableDef) → IsTables t → def_at (catalog_of t) (changed_table change) ≡ Some def → apply_change change t ≡ Some u → Asked change t def
asked change t u def ok at h =
    let p = changed (changed_table change) (one change) t u (sym (as_one change t) ∙ h) in
    let good = good_found (changed_table change) p.from t.tables (parts_of t (in_their_order t ok)).tables p.found in
    let a = asks change p.from p.to good.ok p.made in
    let same : p.from.def ≡ def = (let e : Some p.from.def ≡ Some def = sym (def_of t (changed_table change) p.from p.found) ∙ at in cc) in
    record {
      fit = ap (λ d. fits_change d change) (sym same) ∙ sym (as_fits p.from.def change) ∙ a.fit;
      there = ap (λ d. row_at t (changed_table change) (changed_key d change)) (sym same) ∙ ap (option_and_then (λ x. row_with x (changed_key p.from.def change))) p.found ∙ a.there;
    }

-- what a change asks is enough
pub applies : (change : Change) (t : Tables) (def : TableDef) → IsTables t → def_at (catalog_of t) (changed_table change) ≡ Some def → Asked change t def → is_some (apply_change change t) ≡ true
applies change t def ok at a =
    let f = found t (changed_table change) def at in
    let good = good_found (changed_table change) f.table t.tables (parts_of t (in_their_order t ok)).tables f.at in
    let there : row_with f.table (changed_key f.table.def change) ≡ row_before change =
    sym (ap (option_and_then (λ x. row_with x (changed_key f.table.def change))) f.at) ∙ ap (λ d. row_at t (changed_table change) (changed_key d change)) f.is ∙ a.there in
    let m = makes change f.table good.ok (record { there = there; fit = as_fits f.table.def change ∙ ap (λ d. fits_change d change) f.is ∙ a.fit }) in
    ap is_some (as_one change t ∙ made_on (changed_table change) (one change) t f.table m.to f.at m.made)

-- the row of a key is that of a change with the key
pub of_row_as : (c : Catalog) (change other : Change) (def : TableDef) → def_at c (changed_table change) ≡ Some def → is_of_row c (changed_table change) (changed_key def change) other ≡ are_of_one_row c change other
of_row_as c change other def at =
    ap (λ o. (changed_table change == changed_table other) && has_changed_key o (changed_key def change) other) at
    ∙ sym (ap (λ o. (changed_table change == changed_table other) && have_one_key o change other) at)

any_of_row : (c : Catalog) (change : Change) (def : TableDef) (others : List Change) → def_at c (changed_table change) ≡ Some def
    → list_any (is_of_row c (changed_table change) (changed_key def change)) others ≡ changes_row_of c change others
any_of_row c change def [] at = refl
any_of_row c change def (other ∷ others) at = λ i. of_row_as c change other def at i || any_of_row c change def others at i

-- whether another connection has changed the row
pub allows_from : (s : State) (conn : ℕ) (change : Change) (def : TableDef) → def_at (catalog_of s.tables) (changed_table change) ≡ Some def
    → ((other : ℕ) × (other ≢ conn) × (list_any (is_of_row (catalog_of s.tables) (changed_table change) (changed_key def change)) (s.lists other) ≡ true) → ⊥) → Allows s (entries.Changed conn change)
allows_from s conn change def at none other not_it =
    false_from_ne_true (changes_row_of (catalog_of s.tables) change (s.lists other))
    (λ yes. none (other, not_it, any_of_row (catalog_of s.tables) change def (s.lists other) at ∙ yes))

pub allows_not : (s : State) (conn : ℕ) (change : Change) (def : TableDef) → def_at (catalog_of s.tables) (changed_table change) ≡ Some def
    → (other : ℕ) × (other ≢ conn) × (list_any (is_of_row (catalog_of s.tables) (changed_table change) (changed_key def change)) (s.lists other) ≡ true) → Allows s (entries.Changed conn change) → ⊥
allows_not s conn change def at some allowed =
    let no : true ≡ false = sym some.2 ∙ any_of_row (catalog_of s.tables) change def (s.lists some.0) at ∙ allowed some.0 some.1 in cc

some_to : (o : Option Tables) → is_some o ≡ true → (u : Tables) × (o ≡ Some u)
some_to None h = absurd (let bad : false ≡ true = h in cc)
some_to (Some u) h = (u, refl)

-- ---- what keeps a change from being made

pub not_there : (change : Change) (t : Tables) → def_at (catalog_of t) (changed_table change) ≡ None → is_some (apply_change change t) ≡ true → ⊥
not_there change t at h = let bad : false ≡ true = sym (ap is_some (no_table change t at)) ∙ h in cc

pub not_fit : (change : Change) (t : Tables) (def : TableDef) → IsTables t → def_at (catalog_of t) (changed_table change) ≡ Some def → fits_change def change ≡ false → is_some (apply_change change t) ≡ true → ⊥
not_fit change t def ok at bad h =
    let u = some_to (apply_change change t) h in
    let wrong : true ≡ false = sym (asked change t u.0 def ok at u.1).fit ∙ bad in cc

pub not_before : (change : Change) (t : Tables) (def : TableDef) → IsTables t → def_at (catalog_of t) (changed_table change) ≡ Some def
    → (row_at t (changed_table change) (changed_key def change) ≡ row_before change → ⊥) → is_some (apply_change change t) ≡ true → ⊥
not_before change t def ok at bad h = let u = some_to (apply_change change t) h in bad (asked change t u.0 def ok at u.1).there

-- nothing but another connection keeps it
pub may_now : (s : State) (conn : ℕ) (change : Change) (def : TableDef) (other : Bool) → IsLawful s → def_at (catalog_of s.tables) (changed_table change) ≡ Some def → fits_change def change ≡ true
    → row_at s.tables (changed_table change) (changed_key def change) ≡ row_before change
    → (other ≡ true → (n : ℕ) × (n ≢ conn) × (list_any (is_of_row (catalog_of s.tables) (changed_table change) (changed_key def change)) (s.lists n) ≡ true))
    → ((n : ℕ) × (n ≢ conn) × (list_any (is_of_row (catalog_of s.tables) (changed_table change) (changed_key def change)) (s.lists n) ≡ true) → other ≡ true)
    → (not other ≡ true → (is_some (apply_change change s.tables) ≡ true) × Allows s (entries.Changed conn change))
    × ((is_some (apply_change change s.tables) ≡ true) × Allows s (entries.Changed conn change) → not other ≡ true)
may_now s conn change def true lawful at fit there to from = (λ h. absurd (let bad : false ≡ true = h in cc), λ m. absurd (allows_not s conn change def at (to refl) m.1))
may_now s conn change def false lawful at fit there to from = (
  λ h. (applies change s.tables def lawful.tables at (record { fit = fit; there = there }), allows_from s conn change def at (λ some. let bad : false ≡ true = from some in cc)),
  λ m. refl,
)

-- another connection has changed the row of the table with the key
abbrev pub HasOther : State → ℕ → ℕ → List Value → Type 0
HasOther s conn table key = (n : ℕ) × (n ≢ conn) × (list_any (is_of_row (catalog_of s.tables) table key) (s.lists n) ≡ true)

-- the same by what was looked up
pub may_then : (s : State) (conn : ℕ) (change : Change) (def : TableDef) (other : Bool) (table : ℕ) (key : List Value) (found : Option (List Value)) → IsLawful s → table ≡ changed_table change → key ≡ changed_key def change
    → def_at (catalog_of s.tables) (changed_table change) ≡ Some def → fits_change def change ≡ true → found ≡ row_at s.tables table key → found ≡ row_before change
    → (other ≡ true → HasOther s conn table key) → (HasOther s conn table key → other ≡ true)
    → (not other ≡ true → (is_some (apply_change change s.tables) ≡ true) × Allows s (entries.Changed conn change))
    × ((is_some (apply_change change s.tables) ≡ true) × Allows s (entries.Changed conn change) → not other ≡ true)
may_then s conn change def other table key found lawful et ek at fit looked is to from =
    may_now s conn change def other lawful at fit ((λ i. row_at s.tables (sym et i) (sym ek i)) ∙ sym looked ∙ is)
    (λ h. subst (λ (p : ℕ × List Value). HasOther s conn p.0 p.1) (λ i. (et i, ek i)) (to h))
    (λ h. from (subst (λ (p : ℕ × List Value). HasOther s conn p.0 p.1) (λ i. (sym et i, sym ek i)) h))

-- what was looked up is not what stands before the change
pub not_found : (s : State) (change : Change) (def : TableDef) (before : Bool) (table : ℕ) (key : List Value) (found : Option (List Value)) → IsLawful s → table ≡ changed_table change → key ≡ changed_key def change
    → def_at (catalog_of s.tables) (changed_table change) ≡ Some def → found ≡ row_at s.tables table key → (found ≡ row_before change → before ≡ true) → before ≡ false → is_some (apply_change change s.tables) ≡ true → ⊥
not_found s change def before table key found lawful et ek at looked is bad h =
    not_before change s.tables def lawful.tables at (λ e. let wrong : true ≡ false = sym (is (looked ∙ (λ i. row_at s.tables (et i) (ek i)) ∙ e)) ∙ bad in cc) h
