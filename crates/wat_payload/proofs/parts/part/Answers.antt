use Rattle.std.proofs.Common.{◌*◌, length, ap, arith, length-drop}
use Rattle.std.proofs.lemmas.List.{take_rest}
use Rattle.wat_payload.proofs.Cutting.{part_is}
use Rattle.wat_payload.proofs.parts.part.Goals as goal

pub returns-clause-part : goal.returns-clause-part
returns-clause-part c =
    let payload = c.args.payload.now in
    let n = 4080 * c.args.i in
    let size = length-drop n payload in
    let rest = ap length (take_rest payload n) in
    part_is payload n c.min.result (omega (arith, c.min.ensures)) (λ h. omega (arith, h, c.min.ensures, size, rest))
