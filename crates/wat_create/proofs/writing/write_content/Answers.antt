use Rattle.std.proofs.Common.{length, arith}
use Rattle.wat_create.proofs.Written.{synced_other, one_stops, both_stops}
use Rattle.wat_create.proofs.writing.write_content.Goals as goal

pub returns-in_err-write_synced-clause-stops : goal.returns-in_err-write_synced-clause-stops
returns-in_err-write_synced-clause-stops g c = one_stops _ _ (length c.args.main.now) c.write_synced.ensures.stops

pub returns-in_err-write_synced-2-clause-stops : goal.returns-in_err-write_synced-2-clause-stops
returns-in_err-write_synced-2-clause-stops g c = both_stops _ _ (length c.args.main.now) c.write_synced.ensures.stops _ _ c.write_synced-2.ensures.stops

pub returns-clause-main : goal.returns-clause-main
returns-clause-main g c =
    synced_other 2 0 (g.D.Disk.told c.write_synced.new.disk) (g.D.Disk.told c.write_synced-2.new.disk) _ (λ e. omega (arith, e)) c.in_ok-write_synced.ensures.synced c.write_synced-2.ensures.others
    c.write_synced-2.ensures.stops

pub returns-clause-stops : goal.returns-clause-stops
returns-clause-stops g c = both_stops _ _ (length c.args.main.now) c.write_synced.ensures.stops _ _ c.write_synced-2.ensures.stops
