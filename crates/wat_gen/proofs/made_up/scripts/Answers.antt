use Rattle.std.proofs.Common.{◌∙◌, sym, ap, ℕ, List}
use Rattle.wat_schedule.specs.declared.item.Item.{Item}
use Rattle.wat_gen.specs.Schedule.{drawn_schedule}
use Rattle.wat_gen.specs.Session.{drawn_session}
use Rattle.wat_gen.proofs.made_up.scripts.Goals as goal

pub returns-clause-scripts : goal.returns-clause-scripts
unfolding drawn_session
returns-clause-scripts c = c.in_ok-scripts.ensures.scripts

pub returns-clause-schedule : goal.returns-clause-schedule
unfolding drawn_session
returns-clause-schedule c =
    sym (ap (λ (p : List Item × ℕ). p.0) c.in_ok-schedule.ensures) ∙ ap (λ (y : ℕ). (drawn_schedule c.args.count y).0) c.in_ok-scripts.ensures.number
