use Rattle.std.proofs.Common.{◌-◌, ◌∙◌}
use Rattle.wat_word.specs.Words.{reserved}
use Rattle.wat_word.proofs.Letters.{between}
use Rattle.wat_word.proofs.keyword.read_between.Goals as goal

pub returns : goal.returns
unfolding reserved
returns c = c.read_by.ensures ∙ between _ c.args.from (c.args.to - c.args.from) _ c.args.text.now
