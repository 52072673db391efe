use Rattle.std.proofs.Common.{◌≡◌, ◌+◌, ℕ, drop, sym, subst, List, ◌∷◌, slice_index_or, arith}
use Rattle.std.proofs.lemmas.List.{drop_all}
use Rattle.std.proofs.lemmas.Option.{slice_get-get_or}
use Rattle.wat_value.proofs.FitsLemmas.{drop_at}
use Rattle.wat_cycle.specs.declared.request.Edge.{Edge}
use Rattle.wat_cycle.specs.Waits.{AreNamedEdges}
use Rattle.wat_cycle.proofs.EdgeLemmas.{HasEdges, edge_more, edges_done}
use Rattle.wat_cycle.proofs.blockers.edges.Goals as goal

pub loop-next-preserved : goal.loop-next-preserved
loop-next-preserved c =
    let locks = c.args.locks.now in
    let requests = c.args.requests.now in
    let others = c.args.others.now in
    let i = c.loop-next.next-index in
    let next = slice_index_or others i 0 in
    let rest : drop i others ≡ next ∷ drop (i + 1) others = drop_at others i next (slice_get-get_or others i 0 c.loop-next-test.true) in
    let so_far = subst (λ (left : List ℕ). HasEdges locks requests c.args.conn others c.loop-next.edges c.loop-next.at left) rest c.loop-next.invariant in
    subst (λ (es : List Edge). HasEdges locks requests c.args.conn others es next (drop (i + 1) others)) (sym c.in_ok-push.ensures.ok)
    (edge_more locks requests c.args.conn others c.loop-next.edges c.loop-next.at next (drop (i + 1) others) c.in_ok-edge.field-0 so_far c.in_ok-edge.ensures.ends c.in_ok-edge.ensures.lock)

pub returns : goal.returns
returns c =
    let locks = c.args.locks.now in
    let requests = c.args.requests.now in
    let others = c.args.others.now in
    let so_far = subst (λ (left : List ℕ). HasEdges locks requests c.args.conn others c.loop-next.edges c.loop-next.at left) (drop_all c.loop-next.next-index others (omega (arith, c.loop-next-test.false))) c.loop-next.invariant in
    subst (λ (es : List Edge). AreNamedEdges locks requests c.args.conn es) (sym c.in_ok-push-2.ensures.ok)
    (edges_done locks requests c.args.conn others c.loop-next.edges c.loop-next.at c.in_ok-edge-2.field-0 c.requires so_far c.in_ok-edge-2.ensures.ends c.in_ok-edge-2.ensures.lock)
