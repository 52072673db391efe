use Rattle.std.proofs.Common.{◌≤◌, length, List, Some, subst, arith}
use Rattle.wat_history.specs.Connection.{back_from}
use Rattle.wat_steps.specs.State.{OpenTransaction}
use Rattle.wat_connection.specs.declared.savepoints.Savepoint.{Savepoint}
use Rattle.wat_connection.specs.Savepoints.{IsNewest, saves_of}
use Rattle.wat_connection.specs.Transactions.{GoesBack}
use Rattle.wat_connection.proofs.TransactionLemmas.{back_nested, goes_back}
use Rattle.wat_connection.proofs.transaction.Transaction.back_to.Goals as goal

pub invariant_of-self-2 : goal.invariant_of-self-2
invariant_of-self-2 c =
    let standing = c.self.inside.standing.items in
    let saves = c.self.inside.savepoints.items in
    let newest = subst (λ (sp : List Savepoint). IsNewest sp c.args.name.now c.in-Some.n) c.as_slice.ensures.value c.in-Some.ensures in
    let nested = back_nested standing c.take_back.new.changes.items saves c.truncate.new.self.items c.args.name.now c.in-Some.n c.index.result.now newest c.index.ensures c.self.invariant.1 c.in_ok-acts.ensures.left c.truncate.ensures.items in
    let fewer : length c.take_back.new.changes.items ≤ length standing = nested.0 in
    (omega (arith, fewer, c.self.invariant.0), nested.1)

pub returns-clause-back : goal.returns-clause-back
returns-clause-back c =
    let standing = c.self.inside.standing.items in
    let saves = c.self.inside.savepoints.items in
    let newest = subst (λ (sp : List Savepoint). IsNewest sp c.args.name.now c.in-Some.n) c.as_slice.ensures.value c.in-Some.ensures in
    subst
    (λ (t : OpenTransaction). GoesBack (back_from c.args.name.now t.savepoints) t (record { standing = c.take_back.new.changes.items; savepoints = saves_of c.truncate.new.self.items }) (Some (record { left = c.index.result.now.standing; acts = c.in_ok-acts.acts })))
    c.self.view_is
    (goes_back standing c.take_back.new.changes.items saves c.truncate.new.self.items c.args.name.now c.in-Some.n c.index.result.now c.in_ok-acts.acts newest c.index.ensures c.self.invariant.1
    c.in_ok-acts.ensures.acts c.in_ok-acts.ensures.left c.truncate.ensures.items)
