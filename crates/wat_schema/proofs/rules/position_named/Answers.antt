use Rattle.std.proofs.Common.{◌∙◌}
use Rattle.wat_schema.proofs.Once.{position_called}
use Rattle.wat_schema.proofs.rules.position_named.Goals as goal

pub returns : goal.returns
returns c = c.position.ensures ∙ position_called c.args.called.now c.args.columns.now c.args.name.now c.requires
