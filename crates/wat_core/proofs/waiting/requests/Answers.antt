use Rattle.std.proofs.Common.{◌+◌, ◌<◌, ◌++◌, length, List, sym, ap, ◌∙◌, arith}
use Rattle.std.specs.Option.{option_to_list}
use Rattle.wat_cycle.specs.declared.request.Request.{Request}
use Rattle.wat_core.specs.Parts.{request_in}
use Rattle.wat_core.proofs.PartLemmas.{requests_more, there_is}
use Rattle.wat_core.proofs.waiting.requests.Goals as goal

pub loop-i-preserved : goal.loop-i-preserved
loop-i-preserved c =
    let states = c.args.connections.now in
    let k = c.index-connections-i.result in
    let low : c.loop-i.i < length c.args.connections.now = omega arith in
    c.in_ok-push_request.ensures
    ∙ ap (λ (found : List Request). found ++ option_to_list (request_in (c.loop-i.i + 1) k)) c.loop-i.invariant
    ∙ sym (requests_more states c.loop-i.i k (there_is states c.loop-i.i k low c.index-connections-i.is))
