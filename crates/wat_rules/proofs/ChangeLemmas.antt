-- A CREATE or DROP that is checked has its change, which the schema allows.
use Rattle.std.proofs.Common.{◌≡◌, ℕ, Bool, true, false, List, [], ◌∷◌, map, Option, Some, None, Ok, IsSome, is_some, if◌then◌else◌, refl, ap, sym, ◌∙◌}
use Rattle.std.specs.List.{filter_map}
use Rattle.std.specs.Option.{option_or, option_and_then, option_to_list}
use Rattle.wat_ast.specs.declared.statement.Element.{Element}
use Rattle.wat_ast.specs.declared.statement.Statement.{Statement}
use Rattle.wat_ast.specs.declared.statement.Statement.TheVariants.{CreateTable, CreateIndex, DropTable, Insert, Update, Delete, Select, Commit, Checkpoint, Rollback, RollbackTo, Savepoint, Release, SetLevel, SetBlocking}
use Rattle.wat_schema.specs.declared.refusal.Refusal.{Refusal}
use Rattle.wat_schema.specs.declared.refusal.Refusal.TheVariants.{NoTable, TableExists, IndexExists, BadTable, BadIndex}
use Rattle.wat_schema.specs.Catalog.{Catalog, Name, table_named, has_index_named}
use Rattle.wat_schema.specs.Definitions.{bad_table, bad_index_at}
use Rattle.wat_names.specs.Refusals.{first, or_refused}
use Rattle.wat_names.specs.Columns.{needed, new_index, table_refusals, source_refusals, columns_refusals, key_refusals, name_refusals}
use Rattle.wat_names.specs.Places.{placed_statement}
use Rattle.wat_names.proofs.Firsts.{first-append}
use Rattle.wat_rules.specs.Rules.{table_rule, index_rule, rule_refusals}
use Rattle.wat_rules.specs.Changes.{column_of, keys_of, numbers_named, changes_schema, IsAllowed}
use Rattle.wat_rules.specs.Check.{check}
use Rattle.wat_rules.proofs.AllowedLemmas.{drop_allowed, index_allowed, table_allowed}
use Rattle.wat_rules.proofs.CheckLemmas.{first_of_names, check_is}

or_none_left : {A : Type 0} (a b : Option A) → option_or a b ≡ None → a ≡ None
or_none_left None b is = refl
or_none_left (Some x) b is = cc

or_none_right : {A : Type 0} (a b : Option A) → option_or a b ≡ None → b ≡ None
or_none_right None b is = is
or_none_right (Some x) b is = cc

table_stands : (table : Option ℕ) (name : Name) → first (if is_some table then [] else NoTable name ∷ []) ≡ None → IsSome table
table_stands None name none = cc
table_stands (Some number) name none = refl

-- a test whose refusal does not come
passed : (test : Bool) (refusal : Refusal) → first (if test then refusal ∷ [] else []) ≡ None → test ≡ false
passed true refusal none = cc
passed false refusal none = refl

unbroken : (refusal : ℕ → Refusal) (rule : Option ℕ) → first (map refusal (option_to_list rule)) ≡ None → rule ≡ None
unbroken refusal None none = refl
unbroken refusal (Some rule) none = cc

table_kept : (c : Catalog) (elements : List Element) → table_rule c elements ≡ None → bad_table c (filter_map column_of elements) (keys_of elements) ≡ None
unfolding table_rule
table_kept c elements kept = kept

index_kept : (c : Catalog) (table : Name) (columns : List Name) → index_rule c table columns ≡ None → option_and_then (λ n. bad_index_at c n (numbers_named c n columns)) (table_named c table) ≡ None
unfolding index_rule
index_kept c table columns kept = kept

by_case : (c : Catalog) (s : Statement) → first (table_refusals c s) ≡ None → first (rule_refusals c (placed_statement c s)) ≡ None → changes_schema (placed_statement c s) ≡ true → IsAllowed c (placed_statement c s)
by_case c (CreateTable name elements) names rules is =
    table_allowed c name (filter_map column_of elements) (keys_of elements) (passed (is_some (table_named c name)) (TableExists name) names) (table_kept c elements (unbroken BadTable (table_rule c elements) rules))
by_case c (CreateIndex name table columns) names rules is =
    let both : option_or (first (needed c table)) (first (new_index c name)) ≡ None = sym (first-append (needed c table) (new_index c name)) ∙ names in
    index_allowed c name table columns
    (table_stands (table_named c table) table (or_none_left (first (needed c table)) (first (new_index c name)) both))
    (passed (has_index_named c name) (IndexExists name) (or_none_right (first (needed c table)) (first (new_index c name)) both))
    (index_kept c table columns (unbroken BadIndex (index_rule c table columns) rules))
by_case c (DropTable name) names rules is = drop_allowed c name (table_stands (table_named c name) name names)
by_case c (Insert table columns source) names rules is = cc
by_case c (Update table sets filter) names rules is = cc
by_case c (Delete table filter) names rules is = cc
by_case c (Select query) names rules is = cc
by_case c Commit names rules is = cc
by_case c Checkpoint names rules is = cc
by_case c Rollback names rules is = cc
by_case c (RollbackTo name) names rules is = cc
by_case c (Savepoint name) names rules is = cc
by_case c (Release name) names rules is = cc
by_case c (SetLevel level) names rules is = cc
by_case c (SetBlocking on) names rules is = cc

answered : (refusal : Option Refusal) (s placed : Statement) → or_refused s refusal ≡ Ok placed → (refusal ≡ None) × (s ≡ placed)
answered None s placed is = (refl, cc)
answered (Some refusal) s placed is = cc

pub checked_change : (c : Catalog) (s placed : Statement) → check c s ≡ Ok placed → changes_schema placed ≡ true → IsAllowed c placed
checked_change c s placed is changes =
    let n = first (name_refusals c s) in
    let r = first (rule_refusals c (placed_statement c s)) in
    let found = answered (option_or n r) (placed_statement c s) placed (sym (check_is c s) ∙ is) in
    let t = first (table_refusals c s) in
    let v = first (source_refusals c s) in
    let k = first (columns_refusals c s) in
    let four : option_or (option_or (option_or t v) k) (first (key_refusals c s)) ≡ None = sym (first_of_names c s) ∙ or_none_left n r found.0 in
    let tables : t ≡ None = or_none_left t v (or_none_left (option_or t v) k (or_none_left (option_or (option_or t v) k) (first (key_refusals c s)) four)) in
    let same : changes_schema (placed_statement c s) ≡ true = ap changes_schema found.1 ∙ changes in
    rw (← found.1) (by_case c s tables (or_none_right n r found.0) same)
