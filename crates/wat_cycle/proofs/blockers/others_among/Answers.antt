use Rattle.wat_cycle.proofs.ArcLemmas.{begins_in, result_over}
use Rattle.wat_cycle.proofs.blockers.others_among.Goals as goal

pub named_cycle-requires : goal.named_cycle-requires
named_cycle-requires c = begins_in c.args.locks.now c.args.requests.now c.args.nodes.now c.args.arcs.now c.requires.nodes c.requires.arcs

pub returns : goal.returns
returns c = result_over c.args.locks.now c.args.requests.now c.args.nodes.now c.args.arcs.now c.requires.nodes c.requires.arcs c.args.conn c.named_cycle.result c.named_cycle.ensures
