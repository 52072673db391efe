-- The rows that an UPDATE makes keep their keys, and have values of their columns' types.
use Rattle.std.proofs.Common.{◌≡◌, ℕ, zero, suc, ◌==◌, Bool, true, false, if◌then◌else◌, List, [], ◌∷◌, ◌++◌, map, Option, Some, None, unwrap_or, slice_get, refl, sym, ap, ◌∙◌}
use Rattle.std.specs.List.{list_any, list_all, flat_map, fold}
use Rattle.std.specs.Option.{option_map, option_and_then, option_map_or}
use Rattle.std.proofs.lemmas.Bool.{and_parts, and_from}
use Rattle.wat_value.specs.declared.value.Value.{Value}
use Rattle.wat_value.specs.declared.value.Value.TheVariants as v
use Rattle.wat_value.specs.declared.definition.Kind.{Kind}
use Rattle.wat_value.specs.declared.definition.Kind.TheVariants as k
use Rattle.wat_value.specs.declared.definition.Column.{Column}
use Rattle.wat_value.specs.declared.definition.TableDef.{TableDef}
use Rattle.wat_value.specs.Fits.{has_type, fits, value_in, key_of}
use Rattle.wat_ast.specs.declared.statement.SetItem.{SetItem}
use Rattle.wat_schema.specs.declared.refusal.Refusal.{Refusal}
use Rattle.wat_schema.specs.declared.refusal.Refusal.TheVariants.{KeyAssigned}
use Rattle.wat_schema.specs.Catalog.{Name, Catalog, table_named, def_at, ordinal}
use Rattle.wat_schema.specs.Tables.{Row, row_eq}
use Rattle.wat_types.specs.declared.typing.ExprType.{ExprType}
use Rattle.wat_types.specs.declared.typing.ExprType.TheVariants.{Null}
use Rattle.wat_scope.specs.Scope.{Scope, table_scope}
use Rattle.wat_names.specs.Columns.{key_refusal, is_key_number}
use Rattle.wat_names.specs.Places.{placed_set}
use Rattle.wat_types.specs.Types.{typing_of, kind_type}
use Rattle.wat_typing.specs.Rules.{column_type, types_of, type_at, type_named, goes_into, misfits, kinds, typings, set_names, set_values}
use Rattle.wat_expr.specs.Evaluation.{over}
use Rattle.wat_group.specs.Query.{value_of}
use Rattle.wat_meaning.specs.Meaning.{alone, set_outcome, with_value}
use Rattle.wat_meaning.proofs.Applying.{itself, is_changed}
use Rattle.wat_meaning.proofs.Typed.{is_of, goes, AreOf, sound}
use Rattle.wat_meaning.proofs.Passed.{each_goes, kind_at, kind_named, type_at_is, type_named_is}
use Rattle.wat_meaning.proofs.Fitting.{has_kind, is_typed, typed_set, other_values}

-- ---- the values of a row that stands

pub kind_is : (kind : Kind) (value : Value) → has_type kind value ≡ true → is_of (kind_type kind) value ≡ true
kind_is kind v.Null h = refl
kind_is k.Integer (v.Int n) h = refl
kind_is k.Integer (v.Text t) h = cc
kind_is (k.Char n) (v.Int m) h = cc
kind_is (k.Char n) (v.Text t) h = refl
kind_is (k.Varchar n) (v.Int m) h = cc
kind_is (k.Varchar n) (v.Text t) h = refl

pub typed_at : (columns : List Column) (row : Row) (i : ℕ) → is_typed columns row ≡ true → is_of (unwrap_or (option_map column_type (slice_get columns i)) Null) (value_in row i) ≡ true
typed_at [] [] i is = refl
typed_at [] (w ∷ ws) i is = cc
typed_at (c ∷ cs) [] i is = refl
typed_at (c ∷ cs) (w ∷ ws) zero is = kind_is c.kind w (and_parts (has_kind c w) (is_typed cs ws) is).0
typed_at (c ∷ cs) (w ∷ ws) (suc i) is = typed_at cs ws i (and_parts (has_kind c w) (is_typed cs ws) is).1

-- a row alone has values of the types that its table's columns have in the checks
pub alone_is : (c : Catalog) (table : Name) (n : ℕ) (def : TableDef) (row : Row) → table_named c table ≡ Some n → def_at c n ≡ Some def → is_typed def.columns row ≡ true
    → AreOf (types_of c (table_scope c table)) (alone row)
alone_is c table n def row named is typed zero column =
    ap (λ (o : Option ℕ). is_of (type_at c o column) (value_in row column)) named
    ∙ ap (λ (type : ExprType). is_of type (value_in row column)) (type_at_is c n def column is) ∙ typed_at def.columns row column typed
alone_is c table n def row named is typed (suc source) column = refl

-- ---- SET

-- the column is none of the key
abbrev pub IsOther : TableDef → Option ℕ → Type 0
IsOther def None = Unit {0}
IsOther def (Some i) = list_any (λ k. k == i) def.key ≡ false

pub record SetPassed (c : Catalog) (scope : Scope) (def : TableDef) (set : SetItem) : Type 0 where
  pub into : goes_into (typing_of (types_of c scope) set.value).kind (kind_named def set.name) ≡ true
  pub other : IsOther def (ordinal def set.name)

abbrev pub AllPassed : Catalog → Scope → TableDef → List SetItem → Type 0
AllPassed c scope def [] = Unit {0}
AllPassed c scope def (set ∷ sets) = SetPassed c scope def set × AllPassed c scope def sets

no_key : (b : Bool) (refusal : Refusal) (more : List Refusal) → (if b then refusal ∷ [] else []) ++ more ≡ [] → (b ≡ false) × (more ≡ [])
no_key true refusal more h = cc
no_key false refusal more h = (refl, h)

others : (c : Catalog) (n : ℕ) (def : TableDef) (name : Name) → def_at c n ≡ Some def
    → is_key_number c (Some n) (option_and_then (λ d. ordinal d name) (def_at c n)) ≡ false → IsOther def (ordinal def name)
others c n def name is h = by (ordinal def name) (ap (λ (o : Option TableDef). is_key_number c (Some n) (option_and_then (λ d. ordinal d name) o)) (sym is) ∙ h)
  where
    by : (o : Option ℕ) → is_key_number c (Some n) o ≡ false → IsOther def o
    by None k = tt
    by (Some i) k = ap (λ (o : Option TableDef). option_map_or (λ (d : TableDef). list_any (λ key. key == i) d.key) o false) (sym is) ∙ k

pub all_passed : (c : Catalog) (scope : Scope) (n : ℕ) (def : TableDef) → def_at c n ≡ Some def → (sets : List SetItem) → flat_map (key_refusal c (Some n)) sets ≡ []
    → misfits (map (type_named c (Some n)) (set_names (map (placed_set c scope) sets))) (kinds (typings c scope (set_values (map (placed_set c scope) sets)))) ≡ false
    → AllPassed c scope def (map (placed_set c scope) sets)
unfolding placed_set key_refusal
all_passed c scope n def is [] free fit = tt
all_passed c scope n def is (set ∷ sets) free fit =
    let f = no_key (is_key_number c (Some n) (option_and_then (λ d. ordinal d set.name) (def_at c n))) (KeyAssigned set.name) (flat_map (key_refusal c (Some n)) sets) free in
    let g = each_goes (type_named c (Some n) set.name) (typing_of (types_of c scope) (placed_set c scope set).value).kind
    (map (type_named c (Some n)) (set_names (map (placed_set c scope) sets))) (kinds (typings c scope (set_values (map (placed_set c scope) sets)))) fit in (
      record {
        into = ap (goes_into (typing_of (types_of c scope) (placed_set c scope set).value).kind) (sym (type_named_is c n def set.name is)) ∙ g.0;
        other = others c n def set.name is f.0;
      },
      all_passed c scope n def is sets f.1 g.1,
    )

-- one column set
one_set : (def : TableDef) (o : Option ℕ) (type : ExprType) (value : Value) (row : Row) → is_typed def.columns row ≡ true → IsOther def o
    → goes_into type (unwrap_or (option_map (kind_at def) o) Null) ≡ true → is_of type value ≡ true
    → (is_typed def.columns (with_value o value row) ≡ true) × (key_of def (with_value o value row) ≡ key_of def row)
one_set def None type value row typed other into is = (typed, refl)
one_set def (Some i) type value row typed other into is = (
  typed_set def.columns row i value typed
      (λ column here. goes column.kind type value (ap (λ (o : Option Column). goes_into type (unwrap_or (option_map column_type o) Null)) (sym here) ∙ into) is),
  other_values row i value def.key other,
)

-- all of them, from the row before
pub all_set : (c : Catalog) (scope : Scope) (def : TableDef) (row : Row) → AreOf (types_of c scope) (alone row) → (sets : List SetItem) → AllPassed c scope def sets → (after : Row)
    → is_typed def.columns after ≡ true → key_of def after ≡ key_of def row
    → (is_typed def.columns (fold (λ a s. with_value (ordinal def s.name) (value_of (set_outcome row s)) a) after sets) ≡ true)
    × (key_of def (fold (λ a s. with_value (ordinal def s.name) (value_of (set_outcome row s)) a) after sets) ≡ key_of def row)
all_set c scope def row are [] passed after typed key = (typed, key)
all_set c scope def row are (set ∷ sets) passed after typed key =
    let one = one_set def (ordinal def set.name) (typing_of (types_of c scope) set.value).kind (value_of (set_outcome row set)) after typed passed.0.other passed.0.into
    (sound (types_of c scope) set.value (over (alone row)) are tt) in
    all_set c scope def row are sets passed.1 (with_value (ordinal def set.name) (value_of (set_outcome row set)) after) one.0 (one.1 ∙ key)

-- rows that keep their keys, and fit
pub all_changed : (def : TableDef) (f : Row → Row) (rows : List Row) → list_all (is_typed def.columns) rows ≡ true
    → ((row : Row) → is_typed def.columns row ≡ true → key_of def (f row) ≡ key_of def row) → list_all (fits def) (map f rows) ≡ true → list_all (is_changed def f) rows ≡ true
all_changed def f [] typed key fit = refl
all_changed def f (row ∷ rows) typed key fit =
    let p = and_parts (is_typed def.columns row) (list_all (is_typed def.columns) rows) typed in
    let q = and_parts (fits def (f row)) (list_all (fits def) (map f rows)) fit in
    and_from (is_changed def f row) (list_all (is_changed def f) rows)
    (and_from (row_eq (key_of def row) (key_of def (f row))) (fits def (f row)) (ap (row_eq (key_of def row)) (key row p.0) ∙ itself (key_of def row)) q.0)
    (all_changed def f rows p.1 key q.1)

pub all_typed : (def : TableDef) (f : Row → Row) (rows : List Row) → list_all (is_typed def.columns) rows ≡ true
    → ((row : Row) → is_typed def.columns row ≡ true → is_typed def.columns (f row) ≡ true) → list_all (is_typed def.columns) (map f rows) ≡ true
all_typed def f [] typed keeps = refl
all_typed def f (row ∷ rows) typed keeps =
    let p = and_parts (is_typed def.columns row) (list_all (is_typed def.columns) rows) typed in
    and_from (is_typed def.columns (f row)) (list_all (is_typed def.columns) (map f rows)) (keeps row p.0) (all_typed def f rows p.1 keeps)
