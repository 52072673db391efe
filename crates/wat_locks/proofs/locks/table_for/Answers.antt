use Rattle.std.proofs.Common.{List, sym, subst}
use Rattle.wat_list.specs.Has.{Has}
use Rattle.wat_locks.specs.declared.table.Holder.{Holder}
use Rattle.wat_locks.specs.declared.table.Table.{Table}
use Rattle.wat_locks.specs.Tables.{holders, AreTables}
use Rattle.wat_locks.proofs.AskLemmas.{empty_tables}
use Rattle.wat_locks.proofs.locks.table_for.Goals as goal

pub returns-in_ok-push-in-None-clause-tables : goal.returns-in_ok-push-in-None-clause-tables
returns-in_ok-push-in-None-clause-tables c =
    subst (λ (ts : List Table). AreTables ts) (sym c.in_ok-push-in-None.ensures.items)
    (empty_tables c.args.tables.now.items c.new.result c.new.ensures.empty
    (λ there. c.in-None.ensures (subst (λ (ts : List Table). Has c.args.by (holders ts)) (sym c.as_slice.ensures.value) (subst (λ (h : Holder). Has h (holders c.args.tables.now.items)) c.new.ensures.by there)))
    c.requires)
