use Rattle.wat_core.proofs.OpenLemmas.{none_open}
use Rattle.wat_core.proofs.opened.first_open.Goals as goal

pub loop-i-init : goal.loop-i-init
loop-i-init c = none_open c.args.connections.now
