use Rattle.std.proofs.Common.{◌≡◌, ◌+◌, drop, length, refl, subst, List, [], ◌∷◌, Option}
use Rattle.std.specs.Prelude.{MatchOption}
use Rattle.std.proofs.lemmas.Option.{slice_get_read}
use Rattle.wat_value.proofs.FitsLemmas.{drop_at}
use Rattle.wat_cycle.specs.declared.request.Request.{Request}
use Rattle.wat_cycle.specs.declared.request.Edge.{Edge}
use Rattle.wat_cycle.specs.Arcs.{IsEdgeOf}
use Rattle.wat_cycle.specs.Waits.{Blocks}
use Rattle.wat_cycle.proofs.EdgeLemmas.{StillBlocks, not_it, it_is}
use Rattle.wat_cycle.proofs.blockers.edge.Goals as goal

pub returns-in-Some-clause-ends : goal.returns-in-Some-clause-ends
returns-in-Some-clause-ends c =
    let found = subst (λ (o : Option Edge). MatchOption o (Blocks c.args.locks.now (c.request-item.result ∷ []) c.args.from c.args.to → ⊥) (IsEdgeOf c.args.locks.now c.request-item.result c.args.from c.args.to)) c.in-Some.is c.in_ok-edge.ensures in
    (found.0, found.1)

pub returns-in-Some-clause-lock : goal.returns-in-Some-clause-lock
returns-in-Some-clause-lock c =
    let requests = c.args.requests.now in
    let i = c.loop-request.request-index in
    let item = c.request-item.result in
    let rest : drop i requests ≡ item ∷ drop (i + 1) requests = drop_at requests i item (slice_get_read requests (length requests) i item refl c.loop-request-test.true c.request-item.is) in
    let still = subst (λ (rs : List Request). StillBlocks c.args.locks.now requests rs c.args.from c.args.to) rest c.loop-request.invariant in
    it_is c.args.locks.now requests item (drop (i + 1) requests) c.args.from c.args.to c.in-Some.edge still
    (subst (λ (o : Option Edge). MatchOption o (Blocks c.args.locks.now (item ∷ []) c.args.from c.args.to → ⊥) (IsEdgeOf c.args.locks.now item c.args.from c.args.to)) c.in-Some.is c.in_ok-edge.ensures)

pub loop-request-preserved : goal.loop-request-preserved
loop-request-preserved c =
    let requests = c.args.requests.now in
    let i = c.loop-request.request-index in
    let item = c.request-item.result in
    let rest : drop i requests ≡ item ∷ drop (i + 1) requests = drop_at requests i item (slice_get_read requests (length requests) i item refl c.loop-request-test.true c.request-item.is) in
    let still = subst (λ (rs : List Request). StillBlocks c.args.locks.now requests rs c.args.from c.args.to) rest c.loop-request.invariant in
    not_it c.args.locks.now requests item (drop (i + 1) requests) c.args.from c.args.to still
    (subst (λ (o : Option Edge). MatchOption o (Blocks c.args.locks.now (item ∷ []) c.args.from c.args.to → ⊥) (IsEdgeOf c.args.locks.now item c.args.from c.args.to)) c.in_default.is c.in_ok-edge.ensures)
