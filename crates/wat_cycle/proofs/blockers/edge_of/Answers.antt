use Rattle.std.proofs.Common.{◌≡◌, subst, Option, arith}
use Rattle.std.specs.Prelude.{MatchOption}
use Rattle.wat_locks.specs.declared.held.Against.{Against}
use Rattle.wat_locks.specs.Held.{AreFree, Named, held_of}
use Rattle.wat_cycle.proofs.EdgeLemmas.{is_free_of, named_edge}
use Rattle.wat_cycle.proofs.blockers.edge_of.Goals as goal

pub returns-in-None : goal.returns-in-None
returns-in-None c =
    is_free_of c.args.locks.now c.args.request.now c.args.from c.args.to
    (subst (λ (o : Option Against). MatchOption o (AreFree (held_of c.args.to c.args.locks.now) c.args.from c.args.request.now.wants) (Named (held_of c.args.to c.args.locks.now) c.args.from c.args.request.now.wants)) c.in-None.is c.in_ok-against.ensures)

pub returns-in-Some : goal.returns-in-Some
returns-in-Some c =
    let mine : c.args.request.now.conn ≡ c.args.from = omega (arith, c.if-request-from.false) in
    named_edge c.args.locks.now c.args.request.now c.args.from c.args.to c.in-Some.against mine
    (subst (λ (o : Option Against). MatchOption o (AreFree (held_of c.args.to c.args.locks.now) c.args.from c.args.request.now.wants) (Named (held_of c.args.to c.args.locks.now) c.args.from c.args.request.now.wants)) c.in-Some.is c.in_ok-against.ensures)
