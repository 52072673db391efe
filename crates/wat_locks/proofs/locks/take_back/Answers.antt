use Rattle.std.proofs.Common.{Bool, List, sym, subst, slice_set}
use Rattle.wat_list.specs.Has.{Has}
use Rattle.wat_locks.specs.declared.held.Held.{Held}
use Rattle.wat_locks.specs.declared.table.Table.{Table}
use Rattle.wat_locks.specs.Held.{entry}
use Rattle.wat_locks.specs.Tables.{held_by, all_held, IsAt, FreesIf}
use Rattle.wat_locks.proofs.PlaceLemmas.{holder_there, takes_out}
use Rattle.wat_locks.proofs.locks.take_back.Goals as goal

pub unreachable-requires : goal.unreachable-requires
unreachable-requires c =
    let by = c.holder_of.result in
    let r = c.args.want.now.lock.resource in
    let there : Has (held_by by r) (all_held c.args.tables.now.items) = subst (λ (h : Held). Has h (all_held c.args.tables.now.items)) (sym c.holder_of.ensures) (c.requires.there c.if-not-fresh.false) in
    c.in-None.ensures (holder_there c.as_slice.result.now by r (subst (λ (ts : List Table). Has (held_by by r) (all_held ts)) (sym c.as_slice.ensures.value) there))

pub returns-clause-frees : goal.returns-clause-frees
returns-clause-frees c =
    let ts = c.args.tables.now.items in
    let e = entry c.args.conn c.args.want.now in
    let taken =
    takes_out ts c.in-Some.i c.holder_of.result c.args.want.now.lock.resource e c.requires.tables
    (subst (λ (us : List Table). IsAt us c.in-Some.i c.holder_of.result) c.as_slice.ensures.value c.in-Some.ensures) c.holder_of.ensures
    c.index_mut.result.now c.index_mut.ensures.value c.take.new.self c.take.ensures.by (c.requires.there c.if-not-fresh.false) c.take.ensures.keys in
    subst (λ (b : Bool). FreesIf b (all_held ts) (all_held (slice_set ts c.in-Some.i c.take.new.self)) e) (sym c.if-not-fresh.false) taken.0

pub returns-clause-tables : goal.returns-clause-tables
returns-clause-tables c =
    let taken =
    takes_out c.args.tables.now.items c.in-Some.i c.holder_of.result c.args.want.now.lock.resource (entry c.args.conn c.args.want.now) c.requires.tables
    (subst (λ (us : List Table). IsAt us c.in-Some.i c.holder_of.result) c.as_slice.ensures.value c.in-Some.ensures) c.holder_of.ensures
    c.index_mut.result.now c.index_mut.ensures.value c.take.new.self c.take.ensures.by (c.requires.there c.if-not-fresh.false) c.take.ensures.keys in
    taken.1
