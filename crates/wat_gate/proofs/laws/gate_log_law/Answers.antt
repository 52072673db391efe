use Rattle.wat_gate.proofs.Relation.{log_bodies, bodies_log}
use Rattle.wat_gate.proofs.laws.gate_log_law.Goals as goal

pub returns : goal.returns
returns c content all = (λ log. log_bodies all content log, λ known. bodies_log all content known.0 known.1)
