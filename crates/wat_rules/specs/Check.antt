-- What a statement is answered before anything is done.
use Rattle.std.specs.Prelude.{⊤, List, ◌++◌, Result}
use Rattle.wat_ast.specs.declared.statement.Statement.{Statement}
use Rattle.wat_schema.specs.declared.refusal.Refusal.{Refusal}
use Rattle.wat_schema.specs.Catalog.{Catalog}
use Rattle.wat_rules.specs.declared.checking.CheckRefusal.{CheckRefusal}
use Rattle.wat_rules.specs.declared.checking.CheckRefusal.TheVariants.{Refused, Memory}
use Rattle.wat_names.specs.Refusals.{first, or_refused}
use Rattle.wat_names.specs.Columns.{name_refusals}
use Rattle.wat_names.specs.Places.{placed_statement}
use Rattle.wat_rules.specs.Rules.{rule_refusals}

-- All that is refused, in the order of the checks: names, and then the smallest broken rule, which is asked of the statement with its
-- columns in their places.
unfoldable pub refusals : Catalog → Statement → List Refusal
refusals c s = name_refusals c s ++ rule_refusals c (placed_statement c s)

-- the statement with each name replaced by its place, or the first refusal
unfoldable pub check : Catalog → Statement → Result Statement Refusal
check c s = or_refused (placed_statement c s) (first (refusals c s))

-- a fact of the refusal, where memory is not what is wanting
abbrev pub IfRefused : (Refusal → Type 0) → CheckRefusal → Type 0
IfRefused P (Refused refusal) = P refusal
IfRefused P Memory = ⊤
