-- INSERT of the values of a row that fits its table, as they are read: the checks let it through as it stands, and the row is what is written.
use Rattle.std.proofs.Common.{◌≡◌, ℕ, suc, ◌+◌, ◌<◌, ◌==◌, Bool, true, false, not, cond, ◌&&◌, ◌||◌, if◌then◌else◌, List, [], ◌∷◌, ◌++◌, map, length, Option, Some, None, Ok, is_some, unwrap_or, position, slice_index_or, refl, sym, ap, ap₂, ◌∙◌, arith, append-nil, append_assoc, ltb}
use Rattle.std.specs.List.{list_any, flat_map, position_or_len, zip}
use Rattle.std.specs.Option.{option_map, option_map_or, option_and_then}
use Rattle.std.specs.Str.{bytes_eq}
use Rattle.std.specs.Cmp.Lexicographic.{pointwise}
use Rattle.std.proofs.lemmas.Bool.{and_parts, eq-eqb, lt-ltb, or_parts}
use Rattle.std.proofs.lemmas.List.{length-append}
use Rattle.wat_value.specs.declared.value.Value.{Value}
use Rattle.wat_value.specs.declared.value.Value.TheVariants as v
use Rattle.wat_value.specs.declared.definition.Kind.{Kind}
use Rattle.wat_value.specs.declared.definition.Kind.TheVariants.{Integer, Char, Varchar}
use Rattle.wat_value.specs.declared.definition.Column.{Column}
use Rattle.wat_value.specs.declared.definition.TableDef.{TableDef}
use Rattle.wat_value.specs.declared.change.Change.TheVariants as change
use Rattle.wat_value.specs.declared.change.Act.TheVariants.{OnRow}
use Rattle.wat_value.specs.Fits.{fits, fits_column, has_type, is_missing, is_out_of_range, is_too_long, key_of}
use Rattle.wat_ast.specs.declared.expression.Expr.{Expr}
use Rattle.wat_ast.specs.declared.statement.InsertSource.TheVariants.{Values}
use Rattle.wat_ast.specs.declared.statement.Statement.{Statement}
use Rattle.wat_ast.specs.declared.statement.Statement.TheVariants.{Insert}
use Rattle.wat_schema.specs.declared.refusal.Refusal.{Refusal}
use Rattle.wat_schema.specs.declared.refusal.Refusal.TheVariants.{Duplicate, NoTable, NullValue, OutOfRange, TooLong}
use Rattle.wat_schema.specs.Catalog.{Name, Catalog, repeats, table_named}
use Rattle.wat_schema.specs.Definitions.{same_name}
use Rattle.wat_schema.specs.Tables.{Row, Table, Tables, IsTables, catalog_of, has_key, table_at}
use Rattle.wat_schema.proofs.Distinct.{fresh_before}
use Rattle.wat_schema.proofs.LookUps.{position-map}
use Rattle.wat_scope.specs.Scope.{Scope, columns_of}
use Rattle.wat_names.specs.Refusals.{first, or_refused}
use Rattle.wat_names.specs.Columns.{in_expressions, in_names, name_refusals}
use Rattle.wat_names.specs.Places.{placed, placed_statement}
use Rattle.wat_types.specs.declared.typing.Typing.{Typing}
use Rattle.wat_types.specs.Types.{any_aggregated, breaks, kind_type, smallest, value_type}
use Rattle.wat_typing.specs.Rules.{column_type, given_rule, goes_into, insert_rule, kinds, misfits, types_of, typings, value_rule, values_rule}
use Rattle.wat_rules.specs.Check.{check, refusals}
use Rattle.wat_rules.specs.Rules.{rule_refusals, wrong_type}
use Rattle.wat_expr.specs.declared.outcome.Outcome.{Outcome}
use Rattle.wat_expr.specs.declared.outcome.Outcome.TheVariants.{Is}
use Rattle.wat_expr.specs.Evaluation.{over}
use Rattle.wat_group.specs.Query.{has_error, outcome_at, values_of}
use Rattle.wat_group.specs.declared.answer.Finished.TheVariants as finished
use Rattle.wat_meaning.specs.declared.reply.Reply.TheVariants.{Inserted}
use Rattle.wat_meaning.specs.Meaning.{after_check, column_fault, given_row, given_value, meaning, row_faults, stands_already, table_called, unless_refused, values_row}
use Rattle.wat_meaning.proofs.Answering.{called_defs}
use Rattle.wat_meaning.proofs.Fitting.{fits_typed, has_kind, is_typed}
use Rattle.wat_meaning.proofs.Inserting.{bytes_itself}
use Rattle.wat_meaning.proofs.Passed.{named_once}
use Rattle.wat_serial.specs.Changing.{insert_acts, inserted_in, with_acts}
use Rattle.wat_serial.specs.Duplicates.{refusals_in}
use Rattle.wat_serial.proofs.Meanings.{insert_is}
use Rattle.wat_spell_laws.specs.AsRead.{as_read, literal_as_read}
use Rattle.wat_written.specs.Written.{literals}
use Rattle.wat_written_laws.proofs.Columns.{def_is}
use Rattle.wat_written_laws.proofs.Literals.{is_short, none_in, outcome_is, read-Literal, short, stays as literal_stays, typed, typing_is}

-- the values of a row as they are read
abbrev pub as_read_row : Row → List Expr
as_read_row row = map literal_as_read row

pub read_row : (row : Row) → map as_read (literals row) ≡ as_read_row row
read_row [] = refl
read_row (w ∷ row) = ap₂ (λ (x : Expr) (xs : List Expr). x ∷ xs) (read-Literal w) (read_row row)

-- ---- what the checks say of them

no_names : (c : Catalog) (scope : Scope) (row : Row) → in_expressions c scope (as_read_row row) ≡ []
no_names c scope [] = refl
no_names c scope (w ∷ row) = ap₂ (λ (fs gs : List Refusal). fs ++ gs) (none_in c scope w) (no_names c scope row)

stay : (c : Catalog) (scope : Scope) (row : Row) → map (placed c scope) (as_read_row row) ≡ as_read_row row
stay c scope [] = refl
stay c scope (w ∷ row) = ap₂ (λ (x : Expr) (xs : List Expr). x ∷ xs) (literal_stays c scope w) (stay c scope row)

typings_are : (c : Catalog) (scope : Scope) (row : Row) → typings c scope (as_read_row row) ≡ map typed row
typings_are c scope [] = refl
typings_are c scope (w ∷ row) = ap₂ (λ (x : Typing) (xs : List Typing). x ∷ xs) (typing_is (types_of c scope) w) (typings_are c scope row)

pub none_broken : (row : Row) → values_rule (map typed row) ≡ None
unfolding value_rule
none_broken [] = refl
none_broken (v.Null ∷ row) = none_broken row
none_broken (v.Int n ∷ row) = none_broken row
none_broken (v.Text t ∷ row) = none_broken row

pub none_aggregated : (row : Row) → any_aggregated (map typed row) ≡ false
none_aggregated [] = refl
none_aggregated (w ∷ row) = none_aggregated row

pub kinds_are : (row : Row) → kinds (map typed row) ≡ map value_type row
kinds_are [] = refl
kinds_are (w ∷ row) = ap (λ ts. value_type w ∷ ts) (kinds_are row)

pub goes : (kind : Kind) (w : Value) → has_type kind w ≡ true → goes_into (value_type w) (kind_type kind) ≡ true
goes Integer v.Null h = refl
goes Integer (v.Int n) h = refl
goes Integer (v.Text t) h = cc
goes (Char n) v.Null h = refl
goes (Char n) (v.Int m) h = cc
goes (Char n) (v.Text t) h = refl
goes (Varchar n) v.Null h = refl
goes (Varchar n) (v.Int m) h = cc
goes (Varchar n) (v.Text t) h = refl

all_go : (columns : List Column) (row : Row) → is_typed columns row ≡ true → misfits (map column_type columns) (map value_type row) ≡ false
all_go [] row h = refl
all_go (column ∷ columns) [] h = refl
all_go (column ∷ columns) (w ∷ row) h =
    let parts = and_parts (has_kind column w) (is_typed columns row) h in
    rw (goes column.kind w parts.0) (all_go columns row parts.1)

pub as_many : (columns : List Column) (row : Row) → is_typed columns row ≡ true → length columns ≡ length row
as_many [] [] h = refl
as_many [] (w ∷ row) h = cc
as_many (column ∷ columns) [] h = cc
as_many (column ∷ columns) (w ∷ row) h = ap suc (as_many columns row (and_parts (has_kind column w) (is_typed columns row) h).1)

lengths : (columns : List Column) (row : Row) → length columns ≡ length row → length (map column_type columns) ≡ length (map value_type row)
lengths [] [] h = refl
lengths [] (w ∷ row) h = cc
lengths (column ∷ columns) [] h = cc
lengths (column ∷ columns) (w ∷ row) h = ap suc (lengths columns row (let it : suc (length columns) ≡ suc (length row) = h in cc))

-- ---- the checks let it through

three : (a b : Option ℕ) (aggregated : Bool) → a ≡ None → aggregated ≡ false → b ≡ None → smallest (a ∷ breaks 6 aggregated ∷ b ∷ []) ≡ None
three a b aggregated h k l = rw (h, k, l) refl

two : (counted misfit : Bool) → counted ≡ true → misfit ≡ false → smallest (breaks 9 (false || not counted) ∷ breaks 11 misfit ∷ []) ≡ None
two counted misfit h k = rw (h, k) refl

module _ (c : Catalog) (name : Name) (columns : List Column) (row : Row) (stands : is_some (table_named c name) ≡ true) (are : columns_of c (table_named c name) ≡ columns) (fit : is_typed columns row ≡ true) where
  abbrev insert : Statement
  insert = Insert name None (Values (as_read_row row))

  insert_passes : insert_rule c name None (map value_type row) ≡ None
  unfolding insert_rule
  insert_passes =
      ap (λ (cs : List Column). smallest (breaks 9 (false || not (length (map column_type cs) == length (map value_type row))) ∷ breaks 11 (misfits (map column_type cs) (map value_type row)) ∷ [])) are
      ∙ two (length (map column_type columns) == length (map value_type row)) (misfits (map column_type columns) (map value_type row))
      (eq-eqb (length (map column_type columns)) (length (map value_type row)) (lengths columns row (as_many columns row fit))) (all_go columns row fit)

  passes : given_rule c name None (Values (as_read_row row)) ≡ None
  unfolding given_rule
  passes =
      ap (λ (ts : List Typing). smallest (values_rule ts ∷ breaks 6 (any_aggregated ts) ∷ insert_rule c name None (kinds ts) ∷ [])) (typings_are c [] row)
      ∙ three (values_rule (map typed row)) (insert_rule c name None (kinds (map typed row))) (any_aggregated (map typed row)) (none_broken row) (none_aggregated row)
      (ap (insert_rule c name None) (kinds_are row) ∙ insert_passes)

  stays : placed_statement c insert ≡ insert
  stays = ap (λ es. Insert name None (Values es)) (stay c [] row)

  no_name : name_refusals c insert ≡ []
  unfolding name_refusals in_names
  no_name =
      ap₂ (λ (fs gs : List Refusal). (fs ++ []) ++ [] ++ ([] ++ gs) ++ []) (ap (λ b. if b then [] else NoTable name ∷ []) stands) (no_names c [] row)

  no_rule : rule_refusals c (placed_statement c insert) ≡ []
  no_rule = ap (rule_refusals c) stays ∙ ap wrong_type passes

  pub let_through : check c insert ≡ Ok insert
  unfolding check refusals
  let_through = ap₂ or_refused stays (ap first (ap₂ (λ (fs gs : List Refusal). fs ++ gs) no_name no_rule))

-- ---- the row is what is written

-- each value is written with a short number
abbrev pub AreShort : Row → Type 0
AreShort [] = Unit {0}
AreShort (w ∷ row) = (is_short w ≡ true) × AreShort row

pub are_short : (columns : List Column) (row : Row) → pointwise fits_column columns row ≡ true → AreShort row
are_short columns [] h = tt
are_short [] (w ∷ row) h = cc
are_short (column ∷ columns) (w ∷ row) h =
    let parts = and_parts (fits_column column w) (pointwise fits_column columns row) h in
    (short column w parts.0, are_short columns row parts.1)

outcomes_are : (row : Row) → AreShort row → map (outcome_at []) (as_read_row row) ≡ map Is row
outcomes_are [] h = refl
outcomes_are (w ∷ row) h = ap₂ (λ (x : Outcome) (xs : List Outcome). x ∷ xs) (outcome_is w (over []) h.0) (outcomes_are row h.1)

no_error : (row : Row) → has_error (map Is row) ≡ false
no_error [] = refl
no_error (w ∷ row) = no_error row

are_values : (row : Row) → values_of (map Is row) ≡ row
are_values [] = refl
are_values (w ∷ row) = ap (λ ws. w ∷ ws) (are_values row)

values_are : (row : Row) → AreShort row → values_row (as_read_row row) ≡ finished.Rows (row ∷ [])
values_are row h =
    ap (λ os. if has_error os then finished.Arithmetic else finished.Rows (values_of os ∷ [])) (outcomes_are row h)
    ∙ ap₂ (λ b ws. if b then finished.Arithmetic else finished.Rows (ws ∷ [])) (no_error row) (are_values row)

place : {X : Type 0} (p : X → Bool) (xs : List X) (x : X) (ys : List X) → list_any p xs ≡ false → p x ≡ true → position_or_len p (xs ++ x ∷ ys) ≡ length xs
place p [] x ys h is = ap (λ b. cond (not b) (1 + position_or_len p ys) 0) is
place p (y ∷ xs) x ys h is =
    let parts = or_parts (p y) (list_any p xs) h in
    ap (λ b. cond (not b) (1 + position_or_len p (xs ++ x ∷ ys)) 0) parts.0 ∙ omega (arith, place p xs x ys parts.1 is)

placed_there : {X : Type 0} (p : X → Bool) (xs : List X) (x : X) (ys : List X) → list_any p xs ≡ false → p x ≡ true → position p (xs ++ x ∷ ys) ≡ Some (length xs)
placed_there p xs x ys h is =
    let at = place p xs x ys h is in
    let within : length xs < length (xs ++ x ∷ ys) = (let sum = length-append xs (x ∷ ys) in omega arith) in
    ap (λ i. cond (ltb i (length (xs ++ x ∷ ys))) (Some i) None) at
    ∙ ap (λ b. cond b (Some (length xs)) None) (lt-ltb (length xs) (length (xs ++ x ∷ ys)) within)

pub value_there : (front : Row) (w : Value) (row : Row) → slice_index_or (front ++ w ∷ row) (length front) v.Null ≡ w
value_there [] w row = refl
value_there (x ∷ front) w row = value_there front w row

abbrev name_of : Column → Name
name_of column = column.name

given_behind : (before columns : List Column) (front row : Row) → length before ≡ length front → length columns ≡ length row → repeats same_name (before ++ columns) ≡ false
    → map (given_value (map name_of (before ++ columns)) (front ++ row)) columns ≡ row
given_behind before [] front [] a b once = refl
given_behind before [] front (w ∷ row) a b once = cc
given_behind before (column ∷ columns) front [] a b once = cc
given_behind before (column ∷ columns) front (w ∷ row) a b once =
    let at : position (bytes_eq column.name) (map name_of (before ++ column ∷ columns)) ≡ Some (length front) =
    position-map (bytes_eq column.name) name_of (before ++ column ∷ columns)
    ∙ placed_there (λ other. bytes_eq column.name (name_of other)) before column columns (fresh_before same_name before column columns once) (bytes_itself column.name)
    ∙ ap Some a in
    let here : given_value (map name_of (before ++ column ∷ columns)) (front ++ w ∷ row) column ≡ w =
    ap (λ (o : Option ℕ). unwrap_or (option_map (λ i. slice_index_or (front ++ w ∷ row) i v.Null) o) v.Null) at ∙ value_there front w row in
    let names : (before ++ column ∷ []) ++ columns ≡ before ++ column ∷ columns = append_assoc before (column ∷ []) columns in
    let values : (front ++ w ∷ []) ++ row ≡ front ++ w ∷ row = append_assoc front (w ∷ []) row in
    let one_more : length (before ++ column ∷ []) ≡ length (front ++ w ∷ []) = length-append before (column ∷ []) ∙ ap (λ n. n + 1) a ∙ sym (length-append front (w ∷ [])) in
    let fewer : length columns ≡ length row = (let it : suc (length columns) ≡ suc (length row) = b in cc) in
    ap₂ (λ x xs. x ∷ xs) here
    (ap₂ (λ (cs : List Column) ws. map (given_value (map name_of cs) ws) columns) (sym names) (sym values)
    ∙ given_behind (before ++ column ∷ []) columns (front ++ w ∷ []) row one_more fewer (ap (repeats same_name) names ∙ once))

given_all : (def : TableDef) (row : Row) → length def.columns ≡ length row → repeats same_name def.columns ≡ false → given_row def None row ≡ row
given_all def row many once = given_behind [] def.columns [] row refl many once

no_fault : (column : Column) (w : Value) → fits_column column w ≡ true → column_fault (column, w) ≡ []
no_fault column w h =
    by (has_type column.kind w) (is_missing column w) (is_out_of_range column.kind w) (is_too_long column.kind w) h
  where
    by : (type missing range long : Bool) → (type && not missing && not range && not long) ≡ true
        → (if missing then NullValue column.name ∷ [] else if range then OutOfRange column.name ∷ [] else if long then TooLong column.name ∷ [] else []) ≡ []
    by false missing range long k = cc
    by true true range long k = cc
    by true false true long k = cc
    by true false false true k = cc
    by true false false false k = refl

pub no_faults : (columns : List Column) (row : Row) → pointwise fits_column columns row ≡ true → flat_map column_fault (zip columns row) ≡ []
no_faults [] row h = refl
no_faults (column ∷ columns) [] h = refl
no_faults (column ∷ columns) (w ∷ row) h =
    let parts = and_parts (fits_column column w) (pointwise fits_column columns row) h in
    ap₂ (λ (fs gs : List Refusal). fs ++ gs) (no_fault column w parts.0) (no_faults columns row parts.1)

-- ---- what it means

pub columns_are : (t : Tables) (name : Name) (x : Table) → table_called t name ≡ Some x → columns_of (catalog_of t) (table_named (catalog_of t) name) ≡ x.def.columns
columns_are t name x called = ap (λ (o : Option TableDef). option_map_or (λ def. def.columns) o []) (called_defs t name ∙ ap (option_map (λ z. z.def)) called)

pub is_named : (t : Tables) (name : Name) (x : Table) → table_called t name ≡ Some x → is_some (table_named (catalog_of t) name) ≡ true
is_named t name x called = by (table_named (catalog_of t) name) called
  where
    by : (o : Option ℕ) → option_and_then (table_at t) o ≡ Some x → is_some o ≡ true
    by None h = cc
    by (Some n) h = refl

inserted_is : (x : Table) (row : Row) → fits x.def row ≡ true → has_key x (key_of x.def row) ≡ false → repeats same_name x.def.columns ≡ false
    → inserted_in x None (finished.Rows (row ∷ [])) ≡ with_acts (Inserted 1) (OnRow (change.Insert x.def.number row) ∷ [])
inserted_is x row fit free once =
    ap (λ r. unless_refused (first (row_faults x.def (r ∷ []) ++ refusals_in x (r ∷ []))) (with_acts (Inserted 1) (insert_acts x.def.number (r ∷ []))))
    (given_all x.def row (as_many x.def.columns row (fits_typed x.def.columns row fit)) once)
    ∙ ap₂ (λ faults stood. unless_refused (first ((faults ++ []) ++ stood)) (with_acts (Inserted 1) (OnRow (change.Insert x.def.number row) ∷ [])))
    (no_faults x.def.columns row fit) (append-nil (stands_already (Some x) row) ∙ ap (λ b. if b then Duplicate (key_of x.def row) ∷ [] else []) free)

pub insert_means : (t : Tables) (ok : IsTables t) (name : Name) (x : Table) (row : Row) → table_called t name ≡ Some x → table_at t x.def.number ≡ Some x → fits x.def row ≡ true → has_key x (key_of x.def row) ≡ false
    → meaning t (Insert name None (Values (as_read_row row))) ≡ with_acts (Inserted 1) (OnRow (change.Insert x.def.number row) ∷ [])
unfolding meaning
insert_means t ok name x row called at fit free =
    ap (after_check t) (let_through (catalog_of t) name x.def.columns row (is_named t name x called) (columns_are t name x called) (fits_typed x.def.columns row fit))
    ∙ sym (insert_is t name None (Values (as_read_row row)) [] refl x called)
    ∙ ap (inserted_in x None) (values_are row (are_short x.def.columns row fit))
    ∙ inserted_is x row fit free (named_once (catalog_of t) x.def.number x.def ok.catalog (def_is t x.def.number x at))
