use Rattle.std.proofs.Common.{◌∙◌}
use Rattle.wat_typing.proofs.Spots.{others_alike}
use Rattle.wat_typing.proofs.rules.has_other.Goals as goal

pub returns : goal.returns
returns c = c.has_other_than.ensures ∙ others_alike _ c.args.keys.now c.args.columns.now c.in_ok-keys.ensures
