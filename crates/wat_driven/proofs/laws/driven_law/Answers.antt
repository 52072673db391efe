use Rattle.std.proofs.Common.{◌≡◌, Option, Some, sym, ap, ◌∙◌, subst}
use Rattle.wat_value.specs.Changes.{RowName}
use Rattle.wat_schema.specs.Tables.{Row}
use Rattle.wat_scans.specs.Look.{IsOf}
use Rattle.wat_scans.specs.Running.{row_changed}
use Rattle.wat_driven.proofs.DrivenLemmas.{recorded}
use Rattle.wat_driven.proofs.ChangeLemmas.{next_fits, next_stands, next_target}
use Rattle.wat_driven.proofs.laws.driven_law.Goals as goal

pub returns-clause-says : goal.returns-clause-says
returns-clause-says c = λ k s step checked level f t is steps run rows h.
    let r = recorded k f level s steps run rows h in c.alone_law.ensures.says k s step checked level f t is steps run r.visits r.leads

pub returns-clause-acts : goal.returns-clause-acts
returns-clause-acts c = λ k s step checked level f t is steps run rows h reply n.
    let r = recorded k f level s steps run rows h in
    let a = c.alone_law.ensures.acts k s step checked level f t is steps run r.visits r.leads reply n in
    (a.0, a.1, subst (λ (here : RowName → Option Row). IsOf k here a.0) (sym r.seen) a.2)

pub returns-clause-duplicate : goal.returns-clause-duplicate
returns-clause-duplicate c = λ k s step checked level f t is steps run rows h change n none other taken.
    let r = recorded k f level s steps run rows h in
    c.alone_law.ensures.duplicate k s step checked level f t is steps run r.visits r.leads change n none other (ap (λ (here : RowName → Option Row). here (row_changed k change)) (sym r.seen) ∙ taken)

pub returns-clause-change : goal.returns-clause-change
returns-clause-change c = λ k s step checked level f t is steps run rows h change n.
    let to = next_target k s step checked level f t is steps run rows h change n in (
      next_fits k s step checked level f t is steps run rows h change n,
      (λ row before. next_stands k s step checked level f t is steps run rows h change n row before),
      (to.listing, to.target, to.stands, to.row),
    )
