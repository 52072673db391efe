-- SET of each column outside the primary key, as it is read: its columns are found and no key columns, its values go into them, and it gives the row.
use Rattle.std.proofs.Common.{◌≡◌, ℕ, suc, ◌+◌, Bool, true, false, not, if◌then◌else◌, List, [], ◌∷◌, ◌++◌, map, length, Option, Some, None, slice_get, slice_set, unwrap_or, refl, sym, ap, ap₂, ◌∙◌, append_assoc, arith, subst}
use Rattle.std.specs.List.{cons_option, filter_map, flat_map, fold, list_any, range_with_len}
use Rattle.std.specs.Option.{option_and_then, option_map, option_map_or}
use Rattle.std.specs.Str.{bytes_eq}
use Rattle.std.specs.Cmp.Lexicographic.{pointwise}
use Rattle.std.proofs.lemmas.Bool.{and_parts, or_parts, or_from}
use Rattle.std.proofs.lemmas.List.{length-append}
use Rattle.wat_value.specs.declared.value.Value.{Value}
use Rattle.wat_value.specs.declared.definition.Column.{Column}
use Rattle.wat_value.specs.declared.definition.TableDef.{TableDef}
use Rattle.wat_value.specs.Fits.{fits_column, value_in}
use Rattle.wat_ast.specs.declared.expression.Expr.{Expr}
use Rattle.wat_ast.specs.declared.expression.Expr.TheVariants as e
use Rattle.wat_ast.specs.declared.statement.SetItem.{SetItem}
use Rattle.wat_schema.specs.declared.refusal.Refusal.{Refusal}
use Rattle.wat_schema.specs.declared.refusal.Refusal.TheVariants.{KeyAssigned}
use Rattle.wat_schema.specs.Catalog.{Name, Catalog, def_at, ordinal, repeats, table_named}
use Rattle.wat_schema.specs.Definitions.{same_name}
use Rattle.wat_schema.specs.Tables.{Row}
use Rattle.wat_scope.specs.Scope.{Scope, column_in, table_scope}
use Rattle.wat_names.specs.Columns.{in_set, is_key_number, is_key_of, key_refusal}
use Rattle.wat_names.specs.Places.{placed_set}
use Rattle.wat_types.specs.declared.typing.ExprType.{ExprType}
use Rattle.wat_types.specs.declared.typing.ExprType.TheVariants.{Null}
use Rattle.wat_types.specs.declared.typing.Typing.{Typing}
use Rattle.wat_types.specs.Types.{kind_type, value_type}
use Rattle.wat_typing.specs.Rules.{column_type, goes_into, kinds, misfits, set_names, set_values, type_at, type_named, types_of, typings}
use Rattle.wat_expr.specs.declared.outcome.Outcome.{Outcome}
use Rattle.wat_expr.specs.Logic.{is_error}
use Rattle.wat_expr.specs.Evaluation.{over}
use Rattle.wat_group.specs.Query.{has_error, outcome_at, value_of}
use Rattle.wat_meaning.specs.Meaning.{alone, with_value}
use Rattle.wat_meaning.proofs.Passed.{type_at_is}
use Rattle.wat_made.specs.Setting.{set_outcomes}
use Rattle.wat_spell_laws.specs.AsRead.{literal_as_read, set_as_read}
use Rattle.wat_written.specs.Written.{is_key, set_unless_key, sets_of}
use Rattle.wat_written_laws.proofs.Columns.{ordinal_is}
use Rattle.wat_written_laws.proofs.Inserts.{goes, value_there}
use Rattle.wat_written_laws.proofs.Literals.{is_short, is_typed as has_its_type, none_in, outcome_is, read-Literal, short as short_value, stays, typed, typing_is}
use Rattle.wat_written_laws.proofs.Tests.{not_refused}

-- ---- columns and values one after another

-- the columns of the table from a number on
abbrev pub Stand : TableDef → ℕ → List Column → Type 0
Stand def i [] = Unit {0}
Stand def i (column ∷ columns) = (slice_get def.columns i ≡ Some column) × Stand def (suc i) columns

-- the values of the row from a number on
abbrev pub Hold : Row → ℕ → Row → Type 0
Hold row i [] = Unit {0}
Hold row i (w ∷ ws) = (value_in row i ≡ w) × Hold row (suc i) ws

column_there : (before : List Column) (column : Column) (columns : List Column) → slice_get (before ++ column ∷ columns) (length before) ≡ Some column
column_there [] column columns = refl
column_there (b ∷ before) column columns = column_there before column columns

longer : {X : Type 0} (before : List X) (x : X) → length (before ++ x ∷ []) ≡ suc (length before)
longer before x = length-append before (x ∷ []) ∙ omega arith

all_stand : (def : TableDef) (before columns : List Column) → def.columns ≡ before ++ columns → Stand def (length before) columns
all_stand def before [] is = tt
all_stand def before (column ∷ columns) is = (
  ap (λ (cs : List Column). slice_get cs (length before)) is ∙ column_there before column columns,
  subst (λ i. Stand def i columns) (longer before column) (all_stand def (before ++ column ∷ []) columns (is ∙ sym (append_assoc before (column ∷ []) columns))),
)

pub stand : (def : TableDef) → Stand def 0 def.columns
stand def = all_stand def [] def.columns refl

all_hold : (row before ws : Row) → row ≡ before ++ ws → Hold row (length before) ws
all_hold row before [] is = tt
all_hold row before (w ∷ ws) is = (
  ap (λ (r : Row). value_in r (length before)) is ∙ value_there before w ws,
  subst (λ i. Hold row i ws) (longer before w) (all_hold row (before ++ w ∷ []) ws (is ∙ sym (append_assoc before (w ∷ []) ws))),
)

pub hold : (row : Row) → Hold row 0 row
hold row = all_hold row [] row refl

-- SET of these columns to these values, but for key columns
abbrev pub from : TableDef → (Value → Expr) → ℕ → List Column → Row → List SetItem
from def f i [] ws = []
from def f i (column ∷ columns) [] = []
from def f i (column ∷ columns) (w ∷ ws) = cons_option (if is_key def i then None else Some (record { name = column.name; value = f w })) (from def f (suc i) columns ws)

module _ (def : TableDef) (row : Row) where
  item_is : (i : ℕ) (column : Column) (w : Value) → slice_get def.columns i ≡ Some column → value_in row i ≡ w
      → set_unless_key def row i ≡ (if is_key def i then None else Some (record { name = column.name; value = e.Literal w }))
  item_is i column w at is =
      ap (λ (o : Option Column). if is_key def i then None else option_map (λ name. record { name = name; value = e.Literal (value_in row i) }) (option_map (λ c. c.name) o)) at
      ∙ ap (λ (z : Value). if is_key def i then None else Some (record { name = column.name; value = e.Literal z })) is

  sets_from : (i : ℕ) (columns : List Column) (ws : Row) → Stand def i columns → Hold row i ws → length columns ≡ length ws
      → filter_map (set_unless_key def row) (range_with_len i (length columns)) ≡ from def e.Literal i columns ws
  sets_from i [] ws a b many = refl
  sets_from i (column ∷ columns) [] a b many = cc
  sets_from i (column ∷ columns) (w ∷ ws) a b many =
      let next : i + 1 ≡ suc i = omega arith in
      let fewer : length columns ≡ length ws = (let it : suc (length columns) ≡ suc (length ws) = many in cc) in
      ap₂ cons_option (item_is i column w a.0 b.0)
      (ap (λ j. filter_map (set_unless_key def row) (range_with_len j (length columns))) next ∙ sets_from (suc i) columns ws a.1 b.1 fewer)

  pub sets_are : length def.columns ≡ length row → sets_of def row ≡ from def e.Literal 0 def.columns row
  sets_are many = sets_from 0 def.columns row (stand def) (hold row) many

  pub sets_read : (i : ℕ) (columns : List Column) (ws : Row) → map set_as_read (from def e.Literal i columns ws) ≡ from def literal_as_read i columns ws
  sets_read i [] ws = refl
  sets_read i (column ∷ columns) [] = refl
  sets_read i (column ∷ columns) (w ∷ ws) = by (is_key def i) (sets_read (suc i) columns ws)
    where
      by : (b : Bool) → map set_as_read (from def e.Literal (suc i) columns ws) ≡ from def literal_as_read (suc i) columns ws
          → map set_as_read (cons_option (if b then None else Some (record { name = column.name; value = e.Literal w })) (from def e.Literal (suc i) columns ws))
          ≡ cons_option (if b then None else Some (record { name = column.name; value = literal_as_read w })) (from def literal_as_read (suc i) columns ws)
      by true rest = rest
      by false rest = ap₂ (λ (x : Expr) (xs : List SetItem). record { name = column.name; value = x } ∷ xs) (read-Literal w) rest

-- ---- in the checks

module _ (c : Catalog) (n : ℕ) (def : TableDef) (named : table_named c def.name ≡ Some n) (at : def_at c n ≡ Some def) (once : repeats same_name def.columns ≡ false) where
  abbrev scope : Scope
  scope = table_scope c def.name

  abbrev read : ℕ → List Column → Row → List SetItem
  read i columns ws = from def literal_as_read i columns ws

  abbrev item : Column → Value → SetItem
  item column w = record { name = column.name; value = literal_as_read w }

  names_in : (i : ℕ) (column : Column) (w : Value) → slice_get def.columns i ≡ Some column → in_set c scope (item column w) ≡ []
  unfolding in_set
  names_in i column w is = ap₂ (λ (p q : List Refusal). p ++ q) (not_refused c n def named at once i column is) (none_in c scope w)

  pub sets_name : (i : ℕ) (columns : List Column) (ws : Row) → Stand def i columns → flat_map (in_set c scope) (read i columns ws) ≡ []
  sets_name i [] ws a = refl
  sets_name i (column ∷ columns) [] a = refl
  sets_name i (column ∷ columns) (w ∷ ws) a = by (is_key def i) (sets_name (suc i) columns ws a.1)
    where
      by : (b : Bool) → flat_map (in_set c scope) (read (suc i) columns ws) ≡ [] → flat_map (in_set c scope) (cons_option (if b then None else Some (item column w)) (read (suc i) columns ws)) ≡ []
      by true rest = rest
      by false rest = ap₂ (λ (p q : List Refusal). p ++ q) (names_in i column w a.0) rest

  column_is : (i : ℕ) (column : Column) → slice_get def.columns i ≡ Some column → column_in c (table_named c def.name) column.name ≡ Some i
  column_is i column is =
      ap (λ (o : Option ℕ). column_in c o column.name) named ∙ ap (λ (o : Option TableDef). option_and_then (λ d. ordinal d column.name) o) at ∙ ordinal_is def i column once is

  no_key : (i : ℕ) (column : Column) (w : Value) → slice_get def.columns i ≡ Some column → is_key def i ≡ false → key_refusal c (table_named c def.name) (item column w) ≡ []
  unfolding key_refusal
  no_key i column w is other =
      ap (λ (b : Bool). if b then KeyAssigned column.name ∷ [] else [])
      (ap (is_key_number c (table_named c def.name)) (column_is i column is)
      ∙ ap (λ (o : Option ℕ). option_map_or (is_key_of i) (option_and_then (def_at c) o) false) named
      ∙ ap (λ (o : Option TableDef). option_map_or (is_key_of i) o false) at ∙ other)

  pub sets_no_key : (i : ℕ) (columns : List Column) (ws : Row) → Stand def i columns → flat_map (key_refusal c (table_named c def.name)) (read i columns ws) ≡ []
  sets_no_key i [] ws a = refl
  sets_no_key i (column ∷ columns) [] a = refl
  sets_no_key i (column ∷ columns) (w ∷ ws) a = by (sets_no_key (suc i) columns ws a.1) (is_key def i) refl
    where
      by : flat_map (key_refusal c (table_named c def.name)) (read (suc i) columns ws) ≡ [] → (b : Bool) → is_key def i ≡ b → flat_map (key_refusal c (table_named c def.name)) (cons_option (if b then None else Some (item column w)) (read (suc i) columns ws)) ≡ []
      by rest true k = rest
      by rest false k = ap₂ (λ (p q : List Refusal). p ++ q) (no_key i column w a.0 k) rest

  item_placed : (column : Column) (w : Value) → placed_set c scope (item column w) ≡ item column w
  unfolding placed_set
  item_placed column w = ap (λ (x : Expr). record { name = column.name; value = x }) (stays c scope w)

  pub sets_placed : (i : ℕ) (columns : List Column) (ws : Row) → map (placed_set c scope) (read i columns ws) ≡ read i columns ws
  sets_placed i [] ws = refl
  sets_placed i (column ∷ columns) [] = refl
  sets_placed i (column ∷ columns) (w ∷ ws) = by (sets_placed (suc i) columns ws) (is_key def i)
    where
      by : map (placed_set c scope) (read (suc i) columns ws) ≡ read (suc i) columns ws → (b : Bool) → map (placed_set c scope) (cons_option (if b then None else Some (item column w)) (read (suc i) columns ws)) ≡ cons_option (if b then None else Some (item column w)) (read (suc i) columns ws)
      by rest true = rest
      by rest false = ap₂ (λ (x : SetItem) (xs : List SetItem). x ∷ xs) (item_placed column w) rest

  -- the values that are set
  abbrev pub plain_values : ℕ → List Column → Row → Row
  plain_values i [] ws = []
  plain_values i (column ∷ columns) [] = []
  plain_values i (column ∷ columns) (w ∷ ws) = cons_option (if is_key def i then None else Some w) (plain_values (suc i) columns ws)

  pub sets_typed : (i : ℕ) (columns : List Column) (ws : Row) → typings c scope (set_values (read i columns ws)) ≡ map typed (plain_values i columns ws)
  sets_typed i [] ws = refl
  sets_typed i (column ∷ columns) [] = refl
  sets_typed i (column ∷ columns) (w ∷ ws) = by (sets_typed (suc i) columns ws) (is_key def i)
    where
      by : typings c scope (set_values (read (suc i) columns ws)) ≡ map typed (plain_values (suc i) columns ws) → (b : Bool) → typings c scope (set_values (cons_option (if b then None else Some (item column w)) (read (suc i) columns ws)))
          ≡ map typed (cons_option (if b then None else Some w) (plain_values (suc i) columns ws))
      by rest true = rest
      by rest false = ap₂ (λ (x : Typing) (xs : List Typing). x ∷ xs) (typing_is (types_of c scope) w) rest

  other_name : (i : ℕ) (columns : List Column) (ws : Row) (name : Name) → list_any (λ (y : Column). bytes_eq y.name name) columns ≡ false → list_any (λ y. bytes_eq y name) (set_names (read i columns ws)) ≡ false
  other_name i [] ws name h = refl
  other_name i (column ∷ columns) [] name h = refl
  other_name i (column ∷ columns) (w ∷ ws) name h =
      let p = or_parts (bytes_eq column.name name) (list_any (λ (y : Column). bytes_eq y.name name) columns) h in
      by p.0 (other_name (suc i) columns ws name p.1) (is_key def i)
    where
      by : bytes_eq column.name name ≡ false → list_any (λ y. bytes_eq y name) (set_names (read (suc i) columns ws)) ≡ false → (b : Bool)
          → list_any (λ y. bytes_eq y name) (set_names (cons_option (if b then None else Some (item column w)) (read (suc i) columns ws))) ≡ false
      by here later true = later
      by here later false = or_from (bytes_eq column.name name) (list_any (λ y. bytes_eq y name) (set_names (read (suc i) columns ws))) here later

  pub sets_once : (i : ℕ) (columns : List Column) (ws : Row) → repeats same_name columns ≡ false → repeats bytes_eq (set_names (read i columns ws)) ≡ false
  sets_once i [] ws h = refl
  sets_once i (column ∷ columns) [] h = refl
  sets_once i (column ∷ columns) (w ∷ ws) h =
      let p = or_parts (list_any (λ y. same_name y column) columns) (repeats same_name columns) h in
      by p.0 (sets_once (suc i) columns ws p.1) (is_key def i)
    where
      by : list_any (λ y. same_name y column) columns ≡ false → repeats bytes_eq (set_names (read (suc i) columns ws)) ≡ false → (b : Bool) → repeats bytes_eq (set_names (cons_option (if b then None else Some (item column w)) (read (suc i) columns ws))) ≡ false
      by here later true = later
      by here later false =
          or_from (list_any (λ y. bytes_eq y column.name) (set_names (read (suc i) columns ws))) (repeats bytes_eq (set_names (read (suc i) columns ws)))
          (other_name (suc i) columns ws column.name here) later

  type_is : (i : ℕ) (column : Column) → slice_get def.columns i ≡ Some column → type_named c (table_named c def.name) column.name ≡ kind_type column.kind
  unfolding type_named
  type_is i column is =
      ap (λ (o : Option ℕ). unwrap_or (option_map (type_at c (table_named c def.name)) o) Null) (column_is i column is)
      ∙ ap (λ (o : Option ℕ). type_at c o i) named ∙ type_at_is c n def i at ∙ ap (λ (o : Option Column). unwrap_or (option_map column_type o) Null) is

  pub sets_fit : (i : ℕ) (columns : List Column) (ws : Row) → Stand def i columns → pointwise fits_column columns ws ≡ true
      → misfits (map (type_named c (table_named c def.name)) (set_names (read i columns ws))) (kinds (map typed (plain_values i columns ws))) ≡ false
  sets_fit i [] ws a h = refl
  sets_fit i (column ∷ columns) [] a h = refl
  sets_fit i (column ∷ columns) (w ∷ ws) a h =
      let p = and_parts (fits_column column w) (pointwise fits_column columns ws) h in
      by p.0 (sets_fit (suc i) columns ws a.1 p.1) (is_key def i)
    where
      by : fits_column column w ≡ true → misfits (map (type_named c (table_named c def.name)) (set_names (read (suc i) columns ws))) (kinds (map typed (plain_values (suc i) columns ws))) ≡ false → (b : Bool)
          → misfits (map (type_named c (table_named c def.name)) (set_names (cons_option (if b then None else Some (item column w)) (read (suc i) columns ws))))
          (kinds (map typed (cons_option (if b then None else Some w) (plain_values (suc i) columns ws)))) ≡ false
      by here later true = later
      by here later false =
          or_from (not (goes_into (value_type w) (type_named c (table_named c def.name) column.name))) _
          (ap (λ (type : ExprType). not (goes_into (value_type w) type)) (type_is i column a.0) ∙ ap not (goes column.kind w (has_its_type column w here)))
          later

  -- ---- what they compute

  pub sets_sound : (row : Row) (i : ℕ) (columns : List Column) (ws : Row) → pointwise fits_column columns ws ≡ true → has_error (set_outcomes (read i columns ws) (alone row)) ≡ false
  sets_sound row i [] ws h = refl
  sets_sound row i (column ∷ columns) [] h = refl
  sets_sound row i (column ∷ columns) (w ∷ ws) h =
      let p = and_parts (fits_column column w) (pointwise fits_column columns ws) h in
      by p.0 (sets_sound row (suc i) columns ws p.1) (is_key def i)
    where
      by : fits_column column w ≡ true → has_error (set_outcomes (read (suc i) columns ws) (alone row)) ≡ false → (b : Bool)
          → has_error (set_outcomes (cons_option (if b then None else Some (item column w)) (read (suc i) columns ws)) (alone row)) ≡ false
      by here later true = later
      by here later false =
          or_from (is_error (outcome_at (alone row) (literal_as_read w))) (has_error (set_outcomes (read (suc i) columns ws) (alone row)))
          (ap is_error (outcome_is w (over (alone row)) (short_value column w here))) later

  set_there : (front : Row) (b : Value) (bs : Row) (a : Value) → slice_set (front ++ b ∷ bs) (length front) a ≡ front ++ a ∷ bs
  set_there [] b bs a = refl
  set_there (f ∷ front) b bs a = ap (λ (ws : Row). f ∷ ws) (set_there front b bs a)

  -- the values of key columns are the same
  abbrev pub KeysAlike : ℕ → Row → Row → Type 0
  KeysAlike i [] bs = Unit {0}
  KeysAlike i (a ∷ rs) [] = ⊥
  KeysAlike i (a ∷ rs) (b ∷ bs) = (is_key def i ≡ true → b ≡ a) × KeysAlike (suc i) rs bs

  abbrev one_set : Row → Row → SetItem → Row
  one_set row after set = with_value (ordinal def set.name) (value_of (outcome_at (alone row) set.value)) after

  step : (row acc : Row) (i : ℕ) (column : Column) (a : Value) → slice_get def.columns i ≡ Some column → is_short a ≡ true → one_set row acc (item column a) ≡ slice_set acc i a
  step row acc i column a at short =
      ap₂ (λ (o : Option ℕ) (x : Outcome). with_value o (value_of x) acc) (ordinal_is def i column once at) (outcome_is a (over (alone row)) short)

  pub sets_give : (row front : Row) (i : ℕ) (columns : List Column) (rs bs : Row) → i ≡ length front → Stand def i columns → pointwise fits_column columns rs ≡ true → length bs ≡ length rs → KeysAlike i rs bs
      → fold (one_set row) (front ++ bs) (read i columns rs) ≡ front ++ rs
  sets_give row front i [] [] [] at a fit many alike = refl
  sets_give row front i [] [] (b ∷ bs) at a fit many alike = cc
  sets_give row front i [] (w ∷ rs) bs at a fit many alike = cc
  sets_give row front i (column ∷ columns) [] bs at a fit many alike = cc
  sets_give row front i (column ∷ columns) (w ∷ rs) [] at a fit many alike = cc
  sets_give row front i (column ∷ columns) (w ∷ rs) (b ∷ bs) at a fit many alike =
      let p = and_parts (fits_column column w) (pointwise fits_column columns rs) fit in
      let fewer : length bs ≡ length rs = (let it : suc (length bs) ≡ suc (length rs) = many in cc) in
      let next : (z : Value) → suc i ≡ length (front ++ z ∷ []) = λ z. ap suc at ∙ sym (longer front z) in
      by p.0 (λ z. sets_give row (front ++ z ∷ []) (suc i) columns rs bs (next z) a.1 p.1 fewer alike.1) (is_key def i) refl
    where
      by : fits_column column w ≡ true → ((z : Value) → fold (one_set row) ((front ++ z ∷ []) ++ bs) (read (suc i) columns rs) ≡ (front ++ z ∷ []) ++ rs) → (k : Bool) → is_key def i ≡ k
          → fold (one_set row) (front ++ b ∷ bs) (cons_option (if k then None else Some (item column w)) (read (suc i) columns rs)) ≡ front ++ w ∷ rs
      by here later true k =
          let same : b ≡ w = alike.0 k in
          ap (λ acc. fold (one_set row) acc (read (suc i) columns rs)) (sym (append_assoc front (b ∷ []) bs))
          ∙ later b ∙ append_assoc front (b ∷ []) rs ∙ ap (λ z. front ++ z ∷ rs) same
      by here later false k =
          ap (λ acc. fold (one_set row) acc (read (suc i) columns rs))
          (step row (front ++ b ∷ bs) i column w a.0 (short_value column w here) ∙ ap (λ j. slice_set (front ++ b ∷ bs) j w) at ∙ set_there front b bs w ∙ sym (append_assoc front (w ∷ []) bs))
          ∙ later w ∙ append_assoc front (w ∷ []) rs
