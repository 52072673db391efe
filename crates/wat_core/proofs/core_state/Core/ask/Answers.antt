use Rattle.std.proofs.Common.{sym, subst}
use Rattle.wat_core.specs.CoreParts.{CoreParts}
use Rattle.wat_core.specs.Parts.{HasParts}
use Rattle.wat_core.proofs.core_state.Core.ask.Goals as goal

pub returns : goal.returns
returns c = λ e parts. c.ask.ensures.told e (subst (λ (p : CoreParts). HasParts e p.states p.held) (sym c.self.view_is) parts)
