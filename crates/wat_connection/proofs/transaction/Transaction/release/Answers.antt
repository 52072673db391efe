use Rattle.std.proofs.Common.{◌<◌, ◌-◌, length, List, [], true, get_or, subst, arith}
use Rattle.wat_history.specs.Connection.{back_from}
use Rattle.wat_steps.specs.State.{OpenTransaction}
use Rattle.wat_connection.specs.declared.savepoints.Savepoint.{Savepoint}
use Rattle.wat_connection.specs.Savepoints.{IsNewest, saves_of}
use Rattle.wat_connection.specs.Transactions.{Releases}
use Rattle.wat_connection.proofs.TransactionLemmas.{got, released_nested, releases}
use Rattle.wat_connection.proofs.transaction.Transaction.release.Goals as goal

no_savepoint : Savepoint
no_savepoint = record { name = []; standing = 0 }

pub invariant_of-self : goal.invariant_of-self
invariant_of-self c =
    let saves = c.self.inside.savepoints.items in
    let newest = subst (λ (sp : List Savepoint). IsNewest sp c.args.name.now c.in-Some.n) c.as_slice.ensures.value c.in-Some.ensures in
    let some = newest.some in
    let within = newest.within in
    let low : c.in-Some.n - 1 < length saves = omega (arith, some, within) in (
      c.self.invariant.0,
      released_nested (length c.self.inside.standing.items) saves c.truncate.new.self.items c.args.name.now c.in-Some.n (get_or saves (c.in-Some.n - 1) no_savepoint) newest (got saves (c.in-Some.n - 1) no_savepoint low)
          c.self.invariant.1 c.truncate.ensures.items,
    )

pub returns-in-Some : goal.returns-in-Some
returns-in-Some c =
    let saves = c.self.inside.savepoints.items in
    let newest = subst (λ (sp : List Savepoint). IsNewest sp c.args.name.now c.in-Some.n) c.as_slice.ensures.value c.in-Some.ensures in
    let some = newest.some in
    let within = newest.within in
    let low : c.in-Some.n - 1 < length saves = omega (arith, some, within) in
    subst
    (λ (t : OpenTransaction). Releases (back_from c.args.name.now t.savepoints) t (record { standing = c.self.inside.standing.items; savepoints = saves_of c.truncate.new.self.items }) true)
    c.self.view_is
    (releases c.self.inside.standing.items saves c.truncate.new.self.items c.args.name.now c.in-Some.n (get_or saves (c.in-Some.n - 1) no_savepoint) newest (got saves (c.in-Some.n - 1) no_savepoint low) c.truncate.ensures.items)
