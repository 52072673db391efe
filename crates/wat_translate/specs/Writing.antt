-- The statements that write transactions, by the schema that they are made over.
use Rattle.std.specs.Prelude.{List, ◌++◌}
use Rattle.std.specs.List.{flat_map}
use Rattle.std.specs.Option.{option_to_list}
use Rattle.wat_value.specs.declared.change.Act.{Act}
use Rattle.wat_ast.specs.declared.statement.Statement.{Statement}
use Rattle.wat_schema.specs.Catalog.{Catalog}
use Rattle.wat_written.specs.Written.{statement_of}
use Rattle.wat_script_texts.specs.Written.{commit_behind}

-- the statements of acts, all over one schema
abbrev pub statements_by : Catalog → List Act → List Statement
statements_by c acts = flat_map (λ act. option_to_list (statement_of c act)) acts

-- those of a transaction
abbrev pub transaction_by : Catalog → List Act → List Statement
transaction_by c acts = statements_by c acts ++ commit_behind acts

-- those of transactions
abbrev pub transactions_by : Catalog → List (List Act) → List Statement
transactions_by c transactions = flat_map (transaction_by c) transactions
