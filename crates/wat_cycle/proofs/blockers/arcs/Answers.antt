use Rattle.std.proofs.Common.{◌≡◌, ◌+◌, ◌∙◌, ap, take, sym, subst, List, [], ◌∷◌, ◌++◌, take_all}
use Rattle.std.proofs.lemmas.List.{take_more}
use Rattle.wat_cycle.specs.declared.request.Request.{Request}
use Rattle.wat_cycle.specs.Arcs.{MoreArcs}
use Rattle.wat_cycle.proofs.ArcLemmas.{one_request_more}
use Rattle.wat_cycle.proofs.blockers.arcs.Goals as goal

pub loop-request-preserved : goal.loop-request-preserved
loop-request-preserved c =
    let requests = c.args.requests.now in
    let i = c.loop-request.request-index in
    let item = c.request-item.result in
    let front : take (i + 1) requests ≡ take i requests ++ item ∷ [] = take_more requests i item c.loop-request-test.true ∙ ap (λ (r : Request). take i requests ++ r ∷ []) (sym c.request-item.is) in
    subst (λ (rs : List Request). MoreArcs c.args.locks.now rs c.args.nodes.now [] c.push_arcs.new.arcs.items) (sym front)
    (one_request_more c.args.locks.now (take i requests) item c.args.nodes.now [] c.loop-request.arcs.items c.push_arcs.new.arcs.items c.loop-request.invariant c.in_ok-push_arcs.ensures)

pub returns : goal.returns
returns c =
    subst (λ (rs : List Request). MoreArcs c.args.locks.now rs c.args.nodes.now [] c.loop-request.arcs.items) (take_all c.loop-request.request-index c.args.requests.now c.loop-request-test.false) c.loop-request.invariant
