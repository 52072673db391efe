use Rattle.std.proofs.Common.{◌≡◌, Option, Some, IfSome, subst}
use Rattle.wat_ast.specs.declared.statement.Statement.{Statement}
use Rattle.wat_schema.specs.Tables.{Tables}
use Rattle.wat_serial.specs.declared.plain.PlainRow.{PlainRow}
use Rattle.wat_serial.specs.Plain.{IsPlain}
use Rattle.wat_serial.proofs.PlainLemmas.{plain_fits, plainly_either}
use Rattle.wat_serial.proofs.script.make.Goals as goal

is_plain : (t : Tables) (s : Statement) (found : Option PlainRow) (plain : PlainRow) → found ≡ Some plain → IfSome found (λ it. IsPlain t s it.table it.row) → IsPlain t s plain.table plain.row
is_plain t s found plain is given = subst (λ it. IfSome it (λ p. IsPlain t s p.table p.row)) is given

pub make_plain-requires : goal.make_plain-requires
make_plain-requires c = plain_fits c.args.tables.now c.args.statement.now c.in-Some.plain.table c.in-Some.plain.row (is_plain c.args.tables.now c.args.statement.now _ c.in-Some.plain c.in-Some.is c.in_ok-found.ensures)

pub returns-in-Some : goal.returns-in-Some
returns-in-Some c =
    plainly_either c.args.tables.now c.make_plain.new.tables c.args.statement.now c.in-Some.plain.table c.in-Some.plain.row
    (is_plain c.args.tables.now c.args.statement.now _ c.in-Some.plain c.in-Some.is c.in_ok-found.ensures) c.make_plain.result c.make_plain.ensures.refusal c.make_plain.ensures.after
