use Rattle.std.proofs.Common.{◌∙◌, rules}
use Rattle.std.proofs.Math.Facts.{Fits-lt-pow}
use Rattle.std.proofs.lemmas.Int.{to_z-of_z}
use Rattle.std.specs.Int.{w64}
use Rattle.wat_value.proofs.DecodingLemmas.{int_spelled_at, no_int_at}
use Rattle.wat_value.proofs.decoding.decode_value.Goals as goal

pub returns-then-rest-lt8 : goal.returns-then-rest-lt8
returns-then-rest-lt8 c = no_int_at c.args.bytes.now c.in-Some.rest.now c.in-Some.tag.now c.in-Some.ensures.cases.0 c.in-1.is c.if-rest-lt8.true

pub returns-else-rest-lt8 : goal.returns-else-rest-lt8
returns-else-rest-lt8 c =
    int_spelled_at c.args.bytes.now c.in-Some.rest.now c.in-Some.tag.now _ c.in-Some.ensures.cases.0 c.in-1.is c.if-rest-lt8.false (λ i. Fits-lt-pow (c.type_inv.bytes i)) (to_z-of_z w64 c.read_i64.result (search rules) ∙ c.read_i64.ensures)
