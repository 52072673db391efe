use Rattle.std.proofs.Common.{length, List, subst, ap}
use Rattle.std.specs.Prelude.{MatchOption}
use Rattle.wat_steps.specs.State.{ConnectionState}
use Rattle.wat_core.specs.CoreParts.{CoreParts}
use Rattle.wat_core.specs.Opened.{IsFirstOpen, NoneOpen}
use Rattle.wat_core.proofs.OpenLemmas.{least_is}
use Rattle.wat_core.proofs.core_state.Core.least_open.Goals as goal

pub returns : goal.returns
returns c =
    λ e has. least_is e c.args.self.now c.first_open.result has
    (subst (λ (p : CoreParts). MatchOption c.first_open.result (NoneOpen p.states (length p.states)) (IsFirstOpen p.states)) c.self.view_is
    (subst (λ (xs : List ConnectionState). MatchOption c.first_open.result (NoneOpen xs (length xs)) (IsFirstOpen xs)) c.as_slice.ensures.value c.first_open.ensures))
