use Rattle.std.proofs.Common.{◌∙◌, sym, arith}
use Rattle.wat_schema.proofs.Made.{made_again_of, read_back}
use Rattle.wat_schema.proofs.schema.Schema.of.Goals as goal

pub returns : goal.returns
returns c catalog = (
  λ made. read_back c.args.defs.now c.args.indexes.now c.args.next catalog (omega arith) (sym c.in_ok-schema.ensures ∙ made),
  λ is. c.in_ok-schema.ensures ∙ made_again_of c.args.defs.now c.args.indexes.now c.args.next catalog is,
)
