-- The smallest rule that a statement breaks, where each of its names stands for something.
use Rattle.std.specs.Prelude.{ℕ, List, [], map, Option, option_to_list}
use Rattle.std.specs.List.{filter_map}
use Rattle.std.specs.Option.{option_and_then}
use Rattle.wat_ast.specs.declared.statement.Element.{Element}
use Rattle.wat_ast.specs.declared.statement.Statement.{Statement}
use Rattle.wat_ast.specs.declared.statement.Statement.TheVariants.{CreateTable, CreateIndex, Insert, Update, Delete, Select}
use Rattle.wat_schema.specs.declared.refusal.Refusal.{Refusal}
use Rattle.wat_schema.specs.declared.refusal.Refusal.TheVariants.{WrongType, BadTable, BadIndex}
use Rattle.wat_schema.specs.Catalog.{Name, Catalog, table_named}
use Rattle.wat_schema.specs.Definitions.{bad_table, bad_index_at}
use Rattle.wat_typing.specs.Rules.{query_rule, given_rule, update_rule, delete_rule}
use Rattle.wat_rules.specs.Changes.{column_of, keys_of, numbers_named}

-- the smallest rule of BadTable that the table breaks which these elements write
unfoldable pub table_rule : Catalog → List Element → Option ℕ
table_rule c elements = bad_table c (filter_map column_of elements) (keys_of elements)

-- the smallest rule of BadIndex that an index over these columns of the table breaks
unfoldable pub index_rule : Catalog → Name → List Name → Option ℕ
index_rule c table columns = option_and_then (λ number. bad_index_at c number (numbers_named c number columns)) (table_named c table)

abbrev pub wrong_type : Option ℕ → List Refusal
wrong_type rule = map WrongType (option_to_list rule)

abbrev pub bad_table_refusals : Option ℕ → List Refusal
bad_table_refusals rule = map BadTable (option_to_list rule)

abbrev pub bad_index_refusals : Option ℕ → List Refusal
bad_index_refusals rule = map BadIndex (option_to_list rule)

-- the smallest broken rule of the statement's table of rules
abbrev pub rule_refusals : Catalog → Statement → List Refusal
rule_refusals c (CreateTable name elements) = bad_table_refusals (table_rule c elements)
rule_refusals c (CreateIndex name table columns) = bad_index_refusals (index_rule c table columns)
rule_refusals c (Insert table columns source) = wrong_type (given_rule c table columns source)
rule_refusals c (Update table sets filter) = wrong_type (update_rule c table sets filter)
rule_refusals c (Delete table filter) = wrong_type (delete_rule c table filter)
rule_refusals c (Select q) = wrong_type (query_rule c q)
rule_refusals c s = []
