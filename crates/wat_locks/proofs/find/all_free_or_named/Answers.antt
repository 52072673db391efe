use Rattle.std.proofs.Common.{subst, List}
use Rattle.std.specs.Prelude.{IfOk, MatchOption}
use Rattle.wat_locks.specs.declared.held.Held.{Held}
use Rattle.wat_locks.specs.Held.{AreFree, Named}
use Rattle.wat_locks.specs.Tables.{all_held}
use Rattle.wat_locks.proofs.AskLemmas.{of_any}
use Rattle.wat_locks.proofs.find.all_free_or_named.Goals as goal

pub returns : goal.returns
returns c =
    subst (λ (hs : List Held). IfOk c.are_free_or_named.result (λ found. MatchOption found (AreFree hs c.args.conn c.args.wants.now) (Named hs c.args.conn c.args.wants.now))) (of_any (all_held c.args.tables.now)) c.are_free_or_named.ensures
