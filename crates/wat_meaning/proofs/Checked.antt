-- What the checks found of INSERT and UPDATE, where they refuse nothing, and what follows for the rows that these make.
use Rattle.std.proofs.Common.{◌≡◌, ℕ, ◌==◌, Bool, true, false, not, ◌&&◌, ◌||◌, List, [], ◌∷◌, ◌++◌, map, length, if◌then◌else◌, unwrap_or, nat_lt, is_some, Option, Some, None, option_to_list, refl, sym, ap, ◌∙◌, subst}
use Rattle.std.specs.List.{list_any, list_all, flat_map}
use Rattle.std.specs.Option.{option_map, option_map_or}
use Rattle.std.specs.Cmp.Lexicographic.{pointwise}
use Rattle.std.specs.Str.{bytes_eq}
use Rattle.std.proofs.lemmas.Bool.{and_from}
use Rattle.wat_value.specs.declared.definition.TableDef.{TableDef}
use Rattle.wat_value.specs.Fits.{key_of}
use Rattle.wat_ast.specs.declared.expression.Expr.{Expr}
use Rattle.wat_ast.specs.declared.query.Query.{Query}
use Rattle.wat_ast.specs.declared.query.SelectItems.{SelectItems}
use Rattle.wat_ast.specs.declared.query.SelectItems.TheVariants as items
use Rattle.wat_ast.specs.declared.statement.InsertSource.{InsertSource}
use Rattle.wat_ast.specs.declared.statement.InsertSource.TheVariants.{Values, Answer}
use Rattle.wat_ast.specs.declared.statement.SetItem.{SetItem}
use Rattle.wat_ast.specs.declared.statement.Statement.{Statement}
use Rattle.wat_ast.specs.declared.statement.Statement.TheVariants.{Insert, Update}
use Rattle.wat_walk.specs.Parts.{is_aggregated}
use Rattle.wat_walk.specs.Queries.{listed, is_grouped}
use Rattle.wat_schema.specs.Catalog.{Name, Catalog, table_named, def_at, repeats}
use Rattle.wat_schema.specs.Definitions.{same_name}
use Rattle.wat_schema.specs.Tables.{Row}
use Rattle.wat_names.specs.Refusals.{first}
use Rattle.wat_rules.specs.Check.{refusals}
use Rattle.wat_scope.specs.Scope.{table_scope, query_scope}
use Rattle.wat_names.specs.Columns.{needed, needed_of_insert, key_refusal, table_refusals, source_refusals, columns_refusals, key_refusals, name_refusals}
use Rattle.wat_names.specs.Places.{placed, placed_set, placed_source, placed_statement}
use Rattle.wat_typing.specs.Rules.{types_of, query_typings, bare_columns, has_other, shown_columns, is_star, breaks_grouping, query_rules, query_rule, query_types, given_rule, type_named, misfits, kinds, typings, set_names, set_values, given_types, insert_rule, values_rule, tests_rule, update_rule}
use Rattle.wat_rules.specs.Rules.{rule_refusals}
use Rattle.wat_types.specs.Types.{ColumnTypes, typing_of, breaks, any_aggregated}
use Rattle.wat_types.specs.declared.typing.ExprType.{ExprType}
use Rattle.wat_expr.specs.Evaluation.{Combination, over}
use Rattle.wat_group.specs.declared.answer.Finished.TheVariants as finished
use Rattle.wat_group.specs.Query.{outcome_at, has_error, value_of, values_of}
use Rattle.wat_meaning.specs.Meaning.{source_query, source_defs, given_row, values_row, source_answer, after_set}
use Rattle.wat_meaning.proofs.Typed.{is_of, AreOf, sound}
use Rattle.wat_meaning.proofs.Inserting.{all_given}
use Rattle.wat_meaning.proofs.Answering.{rows_fit, FoundAre, answer_is, none_are}
use Rattle.wat_meaning.proofs.Passed.{none_first, both_empty, no_rule, none_smallest, none_of, second, third, fifth, not_broken}
use Rattle.wat_meaning.proofs.Fitting.{is_typed}
use Rattle.wat_meaning.proofs.Updating.{AllPassed, all_passed, all_set, alone_is}

-- ---- UPDATE

abbrev pub placed_sets : Catalog → Name → List SetItem → List SetItem
placed_sets c table sets = map (placed_set c (table_scope c table)) sets

-- what the checks found of a statement that they let through
pub record UpdatePassed (c : Catalog) (table : Name) (sets : List SetItem) : Type 0 where
  pub keys : flat_map (key_refusal c (table_named c table)) sets ≡ []
  pub types : misfits (map (type_named c (table_named c table)) (set_names (placed_sets c table sets))) (kinds (typings c (table_scope c table) (set_values (placed_sets c table sets)))) ≡ false

update_types : (c : Catalog) (table : Name) (sets : List SetItem) (filter : Option Expr) → update_rule c table sets filter ≡ None
    → misfits (map (type_named c (table_named c table)) (set_names sets)) (kinds (typings c (table_scope c table) (set_values sets))) ≡ false
unfolding update_rule
update_types c table sets filter h =
    let values = typings c (table_scope c table) (set_values sets) in
    let tests = typings c (table_scope c table) (option_to_list filter) in
    let misfit = misfits (map (type_named c (table_named c table)) (set_names sets)) (kinds values) in
    not_broken 11 misfit
    (fifth (values_rule values) (tests_rule tests) (breaks 6 (any_aggregated values || any_aggregated tests)) (breaks 10 (repeats bytes_eq (set_names sets))) (breaks 11 misfit) h)

pub update_passed : (c : Catalog) (table : Name) (sets : List SetItem) (filter : Option Expr) → first (refusals c (Update table sets filter)) ≡ None → UpdatePassed c table sets
unfolding refusals name_refusals
update_passed c table sets filter h = record {
  keys = (both_empty (table_refusals c s ++ source_refusals c s ++ columns_refusals c s) (key_refusals c s) all.0).1;
  types = update_types c table (placed_sets c table sets) (option_map (placed c (table_scope c table)) filter) (no_rule (update_rule c table (placed_sets c table sets) (option_map (placed c (table_scope c table)) filter)) all.1);
}
  where
    s : Statement
    s = Update table sets filter

    all : (table_refusals c s ++ source_refusals c s ++ columns_refusals c s ++ key_refusals c s ≡ []) × (rule_refusals c (placed_statement c s) ≡ [])
    all = both_empty (table_refusals c s ++ source_refusals c s ++ columns_refusals c s ++ key_refusals c s) (rule_refusals c (placed_statement c s)) (none_first _ h)

-- a row that UPDATE makes of a typed one is typed, and has its key
pub updated_typed : (c : Catalog) (table : Name) (sets : List SetItem) (n : ℕ) (def : TableDef) (row : Row) → UpdatePassed c table sets → table_named c table ≡ Some n → def_at c n ≡ Some def
    → is_typed def.columns row ≡ true → (is_typed def.columns (after_set def (placed_sets c table sets) row) ≡ true) × (key_of def (after_set def (placed_sets c table sets) row) ≡ key_of def row)
updated_typed c table sets n def row passed e here is = all_set c (table_scope c table) def row (alone_is c table n def row e here is) given may row is refl
  where
    given : List SetItem
    given = placed_sets c table sets

    may : AllPassed c (table_scope c table) def given
    may = all_passed c (table_scope c table) n def here sets (ap (λ (o : Option ℕ). flat_map (key_refusal c o) sets) (sym e) ∙ passed.keys)
        (ap (λ (o : Option ℕ). misfits (map (type_named c o) (set_names given)) (kinds (typings c (table_scope c table) (set_values given)))) (sym e) ∙ passed.types)

-- ---- INSERT

-- what the checks found of an INSERT whose rows have these types
pub record InsertPassed (c : Catalog) (table : Name) (columns : Option (List Name)) (types : List ExprType) : Type 0 where
  pub fit : misfits (given_types c (table_named c table) columns) types ≡ false

insert_passed : (c : Catalog) (table : Name) (columns : Option (List Name)) (types : List ExprType) → insert_rule c table columns types ≡ None → InsertPassed c table columns types
unfolding insert_rule
insert_passed c table columns types h =
    let given = given_types c (table_named c table) columns in
    record { fit = not_broken 11 (misfits given types) (second (breaks 9 (repeats bytes_eq (unwrap_or columns []) || not (length given == length types))) (breaks 11 (misfits given types)) h) }

-- VALUES
values_are : (columns : ColumnTypes) (exprs : List Expr) → AreOf columns [] → pointwise is_of (kinds (map (typing_of columns) exprs)) (values_of (map (outcome_at []) exprs)) ≡ true
values_are columns [] are = refl
values_are columns (x ∷ xs) are =
    and_from (is_of (typing_of columns x).kind (value_of (outcome_at [] x))) (pointwise is_of (kinds (map (typing_of columns) xs)) (values_of (map (outcome_at []) xs)))
    (sound columns x (over []) are tt) (values_are columns xs are)

row_is : (columns : ColumnTypes) (exprs : List Expr) → AreOf columns [] → FoundAre (kinds (map (typing_of columns) exprs)) (values_row exprs)
row_is columns exprs are = by (has_error (map (outcome_at []) exprs))
  where
    by : (b : Bool) → FoundAre (kinds (map (typing_of columns) exprs)) (if b then finished.Arithmetic else finished.Rows (values_of (map (outcome_at []) exprs) ∷ []))
    by true = tt
    by false = and_from (pointwise is_of (kinds (map (typing_of columns) exprs)) (values_of (map (outcome_at []) exprs))) true (values_are columns exprs are) refl

-- a query whose rules are kept shows no `*` of groups
no_star : (c : Catalog) (q : Query) → query_rule c q ≡ None → is_grouped q ≡ true → ¬ (q.items ≡ items.Star)
unfolding query_rule breaks_grouping
no_star c q h g e =
    let scope = query_scope c q in
    let t = query_typings c scope q in
    let some = nat_lt 0 (length q.group) || is_some q.having in
    let other = has_other (bare_columns q.group) (shown_columns q) in
    let f = not_broken 7 (breaks_grouping q) (none_of (query_rules c scope q t) 6 (breaks 7 (breaks_grouping q)) h refl) in
    let grouped : (some || false) ≡ true = ap (λ (shown : SelectItems). some || list_any is_aggregated (listed shown)) (sym e) ∙ g in
    let free : ((some || false) && true) ≡ false = ap (λ (shown : SelectItems). (some || list_any is_aggregated (listed shown)) && (is_star shown || other)) (sym e) ∙ f in
    let no : true ≡ false = ap (λ b. b && true) (sym grouped) ∙ free in
    cc

-- the types of the columns of a source
abbrev pub source_types : Catalog → InsertSource → List ExprType
source_types c (Values exprs) = kinds (typings c [] exprs)
source_types c (Answer q) = query_types c q

pub rule_passed : (c : Catalog) (table : Name) (columns : Option (List Name)) (source : InsertSource) → given_rule c table columns source ≡ None → InsertPassed c table columns (source_types c source)
unfolding given_rule
rule_passed c table columns (Values exprs) h =
    let values = typings c [] exprs in
    insert_passed c table columns (kinds values) (third (values_rule values) (breaks 6 (any_aggregated values)) (insert_rule c table columns (kinds values)) h)
rule_passed c table columns (Answer q) h = insert_passed c table columns (query_types c q) (second (query_rule c q) (insert_rule c table columns (query_types c q)) h)

-- the definitions of the sources of a query, where there is one
abbrev pub defs_scanned : Catalog → Option Query → List TableDef
defs_scanned c q = option_map_or (source_defs c) q []

-- the rows that INSERT takes have values of the types that the checks found
pub source_is : (c : Catalog) (table : Name) (columns : Option (List Name)) (source : InsertSource) (met : List Combination) → needed_of_insert c source ≡ [] → given_rule c table columns source ≡ None
    → list_all (rows_fit (defs_scanned c (source_query source))) met ≡ true → FoundAre (source_types c source) (source_answer c source met)
unfolding given_rule
source_is c table columns (Values exprs) met needed rule fit = row_is (types_of c []) exprs (none_are (types_of c []))
source_is c table columns (Answer q) met needed rule fit =
    let types = query_types c q in answer_is c q met needed (no_star c q (none_smallest (query_rule c q) (insert_rule c table columns types ∷ []) rule).0) fit

-- the tables of the placed source are those of the source
pub needed_placed : (c : Catalog) (source : InsertSource) → needed_of_insert c source ≡ [] → needed_of_insert c (placed_source c source) ≡ []
needed_placed c (Values exprs) h = refl
needed_placed c (Answer q) h = h

pub record SourcePassed (c : Catalog) (table : Name) (columns : Option (List Name)) (source : InsertSource) : Type 0 where
  pub needed : needed_of_insert c source ≡ []
  pub rule : given_rule c table columns (placed_source c source) ≡ None

pub source_passed : (c : Catalog) (table : Name) (columns : Option (List Name)) (source : InsertSource) → first (refusals c (Insert table columns source)) ≡ None → SourcePassed c table columns source
unfolding refusals name_refusals
source_passed c table columns source h = record {
  needed = (both_empty (needed c table) (needed_of_insert c source) (both_empty (table_refusals c s) (source_refusals c s) (both_empty (table_refusals c s ++ source_refusals c s) (columns_refusals c s) (both_empty (table_refusals c s ++ source_refusals c s ++ columns_refusals c s) (key_refusals c s) all.0).0).0).0).1;
  rule = no_rule (given_rule c table columns (placed_source c source)) all.1;
}
  where
    s : Statement
    s = Insert table columns source

    all : (table_refusals c s ++ source_refusals c s ++ columns_refusals c s ++ key_refusals c s ≡ []) × (rule_refusals c (placed_statement c s) ≡ [])
    all = both_empty (table_refusals c s ++ source_refusals c s ++ columns_refusals c s ++ key_refusals c s) (rule_refusals c (placed_statement c s)) (none_first _ h)

-- the rows that INSERT makes are typed
pub inserted_typed : (c : Catalog) (table : Name) (columns : Option (List Name)) (source : InsertSource) (met : List Combination) (n : ℕ) (def : TableDef) → table_named c table ≡ Some n → def_at c n ≡ Some def
    → repeats same_name def.columns ≡ false → needed_of_insert c source ≡ [] → given_rule c table columns source ≡ None → list_all (rows_fit (defs_scanned c (source_query source))) met ≡ true
    → (values : List Row) → source_answer c source met ≡ finished.Rows values → list_all (is_typed def.columns) (map (given_row def columns) values) ≡ true
inserted_typed c table columns source met n def e here once needed rule fit values found =
    all_given c n def here once columns (source_types c source) values
    (ap (λ (o : Option ℕ). misfits (given_types c o columns) (source_types c source)) (sym e) ∙ (rule_passed c table columns source rule).fit)
    (subst (FoundAre (source_types c source)) found (source_is c table columns source met needed rule fit))
