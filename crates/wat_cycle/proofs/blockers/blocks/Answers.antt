use Rattle.std.proofs.Common.{◌∙◌, sym}
use Rattle.wat_cycle.proofs.ArcLemmas.{decides}
use Rattle.wat_cycle.proofs.blockers.blocks.Goals as goal

pub returns : goal.returns
returns c =
    let says = decides c.args.locks.now c.args.request.now c.args.node c.in_ok-against.against c.in_ok-against.ensures in
    (λ yes. says.0 (sym c.is_some.ensures ∙ yes), λ k. c.is_some.ensures ∙ says.1 k)
