-- What a statement means is never Syntax.
use Rattle.std.proofs.Common.{◌≡◌, ℕ, Bool, true, false, cond, List, [], ◌∷◌, ◌++◌, map, Option, Some, None, option_to_list, unwrap_or, is_some, refl, zip}
use Rattle.std.specs.List.{AllByRecursion, flat_map}
use Rattle.wat_value.specs.declared.value.Value.{Value}
use Rattle.wat_value.specs.declared.definition.Column.{Column}
use Rattle.wat_value.specs.declared.definition.TableDef.{TableDef}
use Rattle.wat_value.specs.declared.change.Change.{Change}
use Rattle.wat_value.specs.declared.change.Change.TheVariants as change
use Rattle.wat_value.specs.Fits.{is_missing, is_out_of_range, is_too_long, key_of}
use Rattle.wat_ast.specs.declared.expression.Expr.{Expr}
use Rattle.wat_ast.specs.declared.query.Query.{Query}
use Rattle.wat_ast.specs.declared.query.Source.{Source}
use Rattle.wat_ast.specs.declared.statement.InsertSource.{InsertSource}
use Rattle.wat_ast.specs.declared.statement.InsertSource.TheVariants.{Values, Answer}
use Rattle.wat_ast.specs.declared.statement.SetItem.{SetItem}
use Rattle.wat_ast.specs.declared.statement.Statement.{Statement}
use Rattle.wat_ast.specs.declared.statement.Statement.TheVariants as s
use Rattle.wat_walk.specs.Parts.{Written, written_in}
use Rattle.wat_walk.specs.Queries.{expressions_of}
use Rattle.wat_schema.specs.declared.refusal.Refusal.{Refusal}
use Rattle.wat_schema.specs.declared.refusal.Refusal.TheVariants.{NoTable, NoColumn, Ambiguous, TableExists, IndexExists, KeyAssigned, WrongType, BadTable, BadIndex, NullValue, OutOfRange, TooLong, Duplicate}
use Rattle.wat_schema.specs.Catalog.{Name, Catalog, table_named, has_index_named}
use Rattle.wat_schema.specs.Tables.{Table, Tables, has_key, table_at, Row}
use Rattle.wat_scope.specs.declared.scope.Found.{Found}
use Rattle.wat_scope.specs.declared.scope.Found.TheVariants.{Nowhere, At, Several}
use Rattle.wat_scope.specs.Scope.{Scope, query_scope, table_scope, found}
use Rattle.wat_names.specs.Columns.{needed, needed_sources, needed_of_insert, new_table, new_index, table_refusals, has_visible, named_again, source_refusals, refused_as, qualifier_refusals, column_refusals, in_expression, in_expressions, in_names, in_set, in_query, in_insert, columns_refusals, is_key_column, key_refusal, key_refusals, name_refusals}
use Rattle.wat_names.specs.Places.{placed_statement}
use Rattle.wat_rules.specs.Rules.{table_rule, index_rule, wrong_type, bad_table_refusals, bad_index_refusals, rule_refusals}
use Rattle.wat_typing.specs.Rules.{query_rule, given_rule, update_rule, delete_rule}
use Rattle.wat_rules.specs.Check.{refusals}
use Rattle.wat_meaning.specs.Meaning.{after_change, all_refusals, change_refusals, column_fault, row_faults, stands_already}
use Rattle.wat_history.specs.Fits.{is_no_syntax}

abbrev IsNone : Refusal → Type 0
IsNone r = is_no_syntax r ≡ true

-- none of these refusals is Syntax
abbrev pub NoSyntax : List Refusal → Type 0
NoSyntax rs = AllByRecursion IsNone rs

both : (xs ys : List Refusal) → NoSyntax xs → NoSyntax ys → NoSyntax (xs ++ ys)
both [] ys px py = py
both (x ∷ xs) ys px py = (px.0, both xs ys px.1 py)

each : {A : Type 0} (f : A → List Refusal) → ((a : A) → NoSyntax (f a)) → (xs : List A) → NoSyntax (flat_map f xs)
each f h [] = tt
each f h (x ∷ xs) = both (f x) (flat_map f xs) (h x) (each f h xs)

either_none : (b : Bool) (xs ys : List Refusal) → NoSyntax xs → NoSyntax ys → NoSyntax (cond b xs ys)
either_none true xs ys px py = px
either_none false xs ys px py = py

numbered : (f : ℕ → Refusal) → ((n : ℕ) → IsNone (f n)) → (rule : Option ℕ) → NoSyntax (map f (option_to_list rule))
numbered f h None = tt
numbered f h (Some n) = (h n, tt)

needed_none : (c : Catalog) (table : Name) → NoSyntax (needed c table)
needed_none c table = either_none (is_some (table_named c table)) [] (NoTable table ∷ []) tt (refl, tt)

sources_none : (c : Catalog) (q : Query) → NoSyntax (needed_sources c q)
sources_none c q = each (λ (source : Source). needed c source.table) (λ source. needed_none c source.table) q.sources

of_insert_none : (c : Catalog) (source : InsertSource) → NoSyntax (needed_of_insert c source)
of_insert_none c (Values values) = tt
of_insert_none c (Answer q) = sources_none c q

table_none : (c : Catalog) (x : Statement) → NoSyntax (table_refusals c x)
table_none c (s.CreateTable name elements) = either_none (is_some (table_named c name)) (TableExists name ∷ []) [] (refl, tt) tt
table_none c (s.CreateIndex name table columns) = both (needed c table) (new_index c name) (needed_none c table) (either_none (has_index_named c name) (IndexExists name ∷ []) [] (refl, tt) tt)
table_none c (s.DropTable name) = needed_none c name
table_none c (s.Insert table columns source) = both (needed c table) (needed_of_insert c source) (needed_none c table) (of_insert_none c source)
table_none c (s.Update table sets filter) = needed_none c table
table_none c (s.Delete table filter) = needed_none c table
table_none c (s.Select q) = sources_none c q
table_none c x = tt

again_none : (before sources : Scope) → NoSyntax (named_again before sources)
again_none before [] = tt
again_none before (source ∷ sources) =
    both (cond (has_visible before source.name) (Ambiguous source.name ∷ []) []) (named_again (before ++ source ∷ []) sources)
    (either_none (has_visible before source.name) (Ambiguous source.name ∷ []) [] (refl, tt) tt) (again_none (before ++ source ∷ []) sources)

source_none : (c : Catalog) (x : Statement) → NoSyntax (source_refusals c x)
source_none c (s.Insert table columns (Answer q)) = again_none [] (query_scope c q)
source_none c (s.Insert table columns (Values values)) = tt
source_none c (s.Select q) = again_none [] (query_scope c q)
source_none c x = tt

refused_none : (name : Name) (f : Found) → NoSyntax (refused_as name f)
refused_none name Nowhere = (refl, tt)
refused_none name (At source column) = tt
refused_none name Several = (refl, tt)

qualifier_none : (scope : Scope) (q : Option Name) → NoSyntax (qualifier_refusals scope q)
qualifier_none scope None = tt
qualifier_none scope (Some qualifier) = either_none (has_visible scope qualifier) [] (NoColumn qualifier ∷ []) tt (refl, tt)

column_none : (c : Catalog) (scope : Scope) (written : Written) → NoSyntax (column_refusals c scope written)
unfolding column_refusals
column_none c scope written = both (qualifier_refusals scope written.0) (refused_as written.1 (found c scope written)) (qualifier_none scope written.0) (refused_none written.1 (found c scope written))

expression_none : (c : Catalog) (scope : Scope) (expr : Expr) → NoSyntax (in_expression c scope expr)
unfolding in_expression
expression_none c scope expr = each (column_refusals c scope) (column_none c scope) (written_in expr)

expressions_none : (c : Catalog) (scope : Scope) (exprs : List Expr) → NoSyntax (in_expressions c scope exprs)
expressions_none c scope exprs = each (in_expression c scope) (expression_none c scope) exprs

names_none : (c : Catalog) (scope : Scope) (names : List Name) → NoSyntax (in_names c scope names)
unfolding in_names
names_none c scope names = each (λ (name : Name). column_refusals c scope (None, name)) (λ name. column_none c scope (None, name)) names

set_none : (c : Catalog) (scope : Scope) (set : SetItem) → NoSyntax (in_set c scope set)
unfolding in_set
set_none c scope set = both (column_refusals c scope (None, set.name)) (in_expression c scope set.value) (column_none c scope (None, set.name)) (expression_none c scope set.value)

query_none : (c : Catalog) (q : Query) → NoSyntax (in_query c q)
unfolding in_query
query_none c q = expressions_none c (query_scope c q) (expressions_of q)

insert_none : (c : Catalog) (source : InsertSource) → NoSyntax (in_insert c source)
insert_none c (Values values) = expressions_none c [] values
insert_none c (Answer q) = query_none c q

columns_none : (c : Catalog) (x : Statement) → NoSyntax (columns_refusals c x)
columns_none c (s.CreateIndex name table columns) = names_none c (table_scope c table) columns
columns_none c (s.Insert table columns source) = both (in_names c (table_scope c table) (unwrap_or columns [])) (in_insert c source) (names_none c (table_scope c table) (unwrap_or columns [])) (insert_none c source)
columns_none c (s.Update table sets filter) =
    both (flat_map (in_set c (table_scope c table)) sets) (in_expressions c (table_scope c table) (option_to_list filter)) (each (in_set c (table_scope c table)) (set_none c (table_scope c table)) sets) (expressions_none c (table_scope c table) (option_to_list filter))
columns_none c (s.Delete table filter) = expressions_none c (table_scope c table) (option_to_list filter)
columns_none c (s.Select q) = query_none c q
columns_none c x = tt

key_none : (c : Catalog) (table : Option ℕ) (set : SetItem) → NoSyntax (key_refusal c table set)
unfolding key_refusal
key_none c table set = either_none (is_key_column c table set.name) (KeyAssigned set.name ∷ []) [] (refl, tt) tt

keys_none : (c : Catalog) (x : Statement) → NoSyntax (key_refusals c x)
keys_none c (s.Update table sets filter) = each (key_refusal c (table_named c table)) (key_none c (table_named c table)) sets
keys_none c x = tt

name_none : (c : Catalog) (x : Statement) → NoSyntax (name_refusals c x)
unfolding name_refusals
name_none c x =
    both (table_refusals c x ++ source_refusals c x ++ columns_refusals c x) (key_refusals c x)
    (both (table_refusals c x ++ source_refusals c x) (columns_refusals c x) (both (table_refusals c x) (source_refusals c x) (table_none c x) (source_none c x)) (columns_none c x))
    (keys_none c x)

rule_none : (c : Catalog) (x : Statement) → NoSyntax (rule_refusals c x)
rule_none c (s.CreateTable name elements) = numbered BadTable (λ n. refl) (table_rule c elements)
rule_none c (s.CreateIndex name table columns) = numbered BadIndex (λ n. refl) (index_rule c table columns)
rule_none c (s.Insert table columns source) = numbered WrongType (λ n. refl) (given_rule c table columns source)
rule_none c (s.Update table sets filter) = numbered WrongType (λ n. refl) (update_rule c table sets filter)
rule_none c (s.Delete table filter) = numbered WrongType (λ n. refl) (delete_rule c table filter)
rule_none c (s.Select q) = numbered WrongType (λ n. refl) (query_rule c q)
rule_none c x = tt

-- the refusals of the checks
pub checks_none : (c : Catalog) (x : Statement) → NoSyntax (refusals c x)
unfolding refusals
checks_none c x = both (name_refusals c x) (rule_refusals c (placed_statement c x)) (name_none c x) (rule_none c (placed_statement c x))

fault_none : (x : Column × Value) → NoSyntax (column_fault x)
fault_none x =
    either_none (is_missing x.0 x.1) (NullValue x.0.name ∷ []) (cond (is_out_of_range x.0.kind x.1) (OutOfRange x.0.name ∷ []) (cond (is_too_long x.0.kind x.1) (TooLong x.0.name ∷ []) [])) (refl, tt)
    (either_none (is_out_of_range x.0.kind x.1) (OutOfRange x.0.name ∷ []) (cond (is_too_long x.0.kind x.1) (TooLong x.0.name ∷ []) []) (refl, tt)
    (either_none (is_too_long x.0.kind x.1) (TooLong x.0.name ∷ []) [] (refl, tt) tt))

-- those of rows that are written
pub faults_none : (def : TableDef) (rows : List Row) → NoSyntax (row_faults def rows)
faults_none def rows = each (λ (row : Row). flat_map column_fault (zip def.columns row)) (λ row. each column_fault fault_none (zip def.columns row)) rows

stands_none : (o : Option Table) (row : Row) → NoSyntax (stands_already o row)
stands_none None row = tt
stands_none (Some x) row = either_none (has_key x (key_of x.def row)) (Duplicate (key_of x.def row) ∷ []) [] (refl, tt) tt

change_none : (t : Tables) (c : Change) → NoSyntax (change_refusals t c)
change_none t (change.Insert table row) = stands_none (table_at t table) row
change_none t (change.Update table before after) = tt
change_none t (change.Delete table before) = tt

-- and those of keys that stand
pub keys_stand_none : (t : Tables) (cs : List Change) → NoSyntax (all_refusals t cs)
keys_stand_none t [] = tt
keys_stand_none t (c ∷ cs) = both (change_refusals t c) (all_refusals (after_change t c) cs) (change_none t c) (keys_stand_none (after_change t c) cs)
