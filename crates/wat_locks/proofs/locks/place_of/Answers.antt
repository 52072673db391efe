use Rattle.std.proofs.Common.{◌≡◌, ◌∙◌, length, slice_get, Some, refl, sym, ap}
use Rattle.std.proofs.lemmas.Bool.{both_ways}
use Rattle.std.proofs.lemmas.Option.{slice_get_read}
use Rattle.wat_locks.specs.declared.table.Table.{Table}
use Rattle.wat_locks.proofs.AskLemmas.{not_yet}
use Rattle.wat_locks.proofs.locks.place_of.Goals as goal

pub loop-i-preserved : goal.loop-i-preserved
loop-i-preserved c =
    let ts = c.args.tables.now in
    let at : slice_get ts c.loop-i.i ≡ Some c.index-tables-i.result = slice_get_read ts (length ts) c.loop-i.i c.index-tables-i.result refl c.loop-i-test.true c.index-tables-i.is in
    not_yet ts c.loop-i.i c.index-tables-i.result c.args.by at c.loop-i.invariant (λ same. both_ways c.is_same.result c.if-is_same.false (c.is_same.ensures.1 (ap (λ (t : Table). t.by) (sym c.index-tables-i.is) ∙ same)))
