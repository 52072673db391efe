use Rattle.std.proofs.Common.{List, subst, slice_set}
use Rattle.wat_list.specs.Has.{HasSame}
use Rattle.wat_locks.specs.declared.lock.Resource.{Resource}
use Rattle.wat_locks.specs.declared.held.Held.{Held}
use Rattle.wat_locks.specs.Held.{entry}
use Rattle.wat_locks.specs.Tables.{all_held, Puts, PutsResource}
use Rattle.wat_locks.proofs.PlaceLemmas.{puts_in, stays_so, on_err}
use Rattle.wat_locks.proofs.locks.put.Goals as goal

pub returns-in_err-fresh-clause-err : goal.returns-in_err-fresh-clause-err
returns-in_err-fresh-clause-err c =
    let ts = c.table_for.new.tables.items in
    let so =
    stays_so ts c.in_ok-i.i c.holder_of.result c.args.want.now.lock.resource (entry c.args.conn c.args.want.now) c.in_ok-i.ensures.tables c.in_ok-i.ensures.at c.holder_of.ensures
    c.index_mut.result.now c.index_mut.ensures.value c.put.new.self c.in_err-fresh.ensures.by c.in_err-fresh.ensures.err in
    on_err c.from_residual-in_err-fresh.result (subst (λ (hs : List Held). HasSame (all_held (slice_set ts c.in_ok-i.i c.put.new.self)) hs) c.in_ok-i.ensures.same so.0)

pub returns-in_err-fresh-clause-tables : goal.returns-in_err-fresh-clause-tables
returns-in_err-fresh-clause-tables c =
    let so =
    stays_so c.table_for.new.tables.items c.in_ok-i.i c.holder_of.result c.args.want.now.lock.resource (entry c.args.conn c.args.want.now) c.in_ok-i.ensures.tables c.in_ok-i.ensures.at c.holder_of.ensures
    c.index_mut.result.now c.index_mut.ensures.value c.put.new.self c.in_err-fresh.ensures.by c.in_err-fresh.ensures.err in
    so.1

pub returns-clause-ok : goal.returns-clause-ok
returns-clause-ok c =
    let ts = c.table_for.new.tables.items in
    let e = entry c.args.conn c.args.want.now in
    let so =
    puts_in ts c.in_ok-i.i c.holder_of.result c.args.want.now.lock.resource e c.in_ok-i.ensures.tables c.in_ok-i.ensures.at c.holder_of.ensures
    c.index_mut.result.now c.index_mut.ensures.value c.put.new.self c.in_ok-fresh.ensures.by c.in_ok-fresh.fresh
    (subst (λ (r : Resource). PutsResource c.index_mut.result.now c.put.new.self r c.in_ok-fresh.fresh) c.in_ok-resource.ensures c.in_ok-fresh.ensures.ok) in
    subst (λ (hs : List Held). Puts hs (all_held (slice_set ts c.in_ok-i.i c.put.new.self)) e c.in_ok-fresh.fresh) c.in_ok-i.ensures.same so.0

pub returns-clause-tables : goal.returns-clause-tables
returns-clause-tables c =
    let so =
    puts_in c.table_for.new.tables.items c.in_ok-i.i c.holder_of.result c.args.want.now.lock.resource (entry c.args.conn c.args.want.now) c.in_ok-i.ensures.tables c.in_ok-i.ensures.at c.holder_of.ensures
    c.index_mut.result.now c.index_mut.ensures.value c.put.new.self c.in_ok-fresh.ensures.by c.in_ok-fresh.fresh
    (subst (λ (r : Resource). PutsResource c.index_mut.result.now c.put.new.self r c.in_ok-fresh.fresh) c.in_ok-resource.ensures c.in_ok-fresh.ensures.ok) in
    so.1
