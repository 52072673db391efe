use Rattle.std.proofs.Common.{◌∙◌, ap, length, arith}
use Rattle.wat_create.proofs.New.{if_ok, padded_head}
use Rattle.wat_create.proofs.bytes.header.Goals as goal

pub padded-requires : goal.padded-requires
padded-requires c = omega (arith, ap length (c.as_slice.ensures.value ∙ c.in_ok-fields.ensures))

pub returns : goal.returns
returns c = if_ok c.padded.result _ _ (λ page is. is ∙ padded_head c.as_slice.result.now c.args.limit (c.as_slice.ensures.value ∙ c.in_ok-fields.ensures)) c.padded.ensures
