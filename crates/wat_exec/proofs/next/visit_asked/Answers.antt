use Rattle.std.proofs.Common.{◌≡◌, Some, refl, ap, ap₂, ◌∙◌, subst}
use Rattle.wat_level.specs.Visit.{visit_wants}
use Rattle.wat_scans.specs.declared.scan.Seen.{Seen}
use Rattle.wat_scans.specs.Recorded.{HasWidth, index_of_step}
use Rattle.wat_scans.specs.Scans.{Progress}
use Rattle.wat_scans.specs.Sources.{IsSeen}
use Rattle.wat_visits.specs.Asked.{visit_of}
use Rattle.wat_exec.specs.declared.next.Next.TheVariants as asked
use Rattle.wat_exec.proofs.next.visit_asked.Goals as goal

pub returns-clause-visit : goal.returns-clause-visit
returns-clause-visit g c = λ scan ts met at small.
    let p : Progress = record { scan = Some scan; taken = ts; met = met } in
    let seen = c.in_ok-seen.seen in (
      seen,
      refl,
      ap₂ asked.Visit (c.depth-scan.ensures p at small)
          (c.in_ok-wants.ensures p scan at refl small ∙ ap (λ writes. visit_wants c.args.level (visit_of c.args.nest.now.plan writes scan ts seen)) c.writes_rows.ensures),
    )

pub returns-clause-seen : goal.returns-clause-seen
returns-clause-seen g c = λ s scan ts met depth seen told each at get is.
    let p : Progress = record { scan = Some scan; taken = ts; met = met } in
    let plan = c.args.nest.now.plan in
    let same : c.in_ok-seen.seen ≡ seen = cc in
    subst (λ (z : Seen). IsSeen s.schema s.rows s.vacant (index_of_step plan scan.step) scan z × HasWidth plan scan.step z.place) same
    (c.in_ok-seen.ensures.seen s p scan depth told each at refl get)
