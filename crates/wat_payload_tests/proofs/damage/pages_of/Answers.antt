use Rattle.std.specs.List.{IsDistinct}
use Rattle.wat_payload_tests.proofs.damage.pages_of.Goals as goal

pub read_chain-requires-clause-once : goal.read_chain-requires-clause-once
unfolding IsDistinct
read_chain-requires-clause-once g c = (tt, tt)
