use Rattle.wat_alone.specs.Alone.{begun}
use Rattle.wat_turns.proofs.Standing.{begins, leads}
use Rattle.wat_turns.proofs.laws.turn_laws.Goals as goal

pub returns : goal.returns
returns c base parts last good turns =
    let all = leads base (begun base) last parts turns (begins base good) in
    (all.after, all.applies, all.stands.changed)
