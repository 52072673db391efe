use Rattle.std.proofs.Common.{◌∙◌}
use Rattle.wat_create.proofs.New.{if_ok, padded_catalog}
use Rattle.wat_create.proofs.bytes.catalog.Goals as goal

pub returns : goal.returns
returns c = if_ok c.padded.result _ _ (λ page is. is ∙ padded_catalog) c.padded.ensures
