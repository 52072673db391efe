use Rattle.std.proofs.Common.{◌≡◌, ◌∙◌, [], arith}
use Rattle.wat_commit_log.proofs.MakingLemmas.{gate_written, made_is_kept, no_bytes, torn_after, torn_none}
use Rattle.wat_commit_log.proofs.making.init.Goals as goal

pub returns-in-Ok-write_synced-clause-kept : goal.returns-in-Ok-write_synced-clause-kept
returns-in-Ok-write_synced-clause-kept g c tells =
    let log = (g.D.Disk.told c.args.disk.now).content 2 in
    let empty : log ≡ [] = no_bytes log (omega (arith, c.in-Ok-eq0.field-0-test, c.in-Ok-eq0.ensures.length tells)) in
    let same = c.length.ensures.content 2 in
    made_is_kept (g.D.Disk.told c.write_synced.new.disk) 2 c.in-Ok-write_synced.ensures.synced
    (gate_written ((g.D.Disk.told c.length.new.self).content 2) ((g.D.Disk.told c.write_synced.new.disk).content 2) (same ∙ empty) (c.in-Ok-write_synced.ensures.written tells))

pub returns-in-Ok-write_synced-clause-stops : goal.returns-in-Ok-write_synced-clause-stops
returns-in-Ok-write_synced-clause-stops g c = torn_after 2 (g.D.Disk.told c.args.disk.now) (g.D.Disk.told c.length.new.self) (g.D.Disk.told c.write_synced.new.disk) c.length.ensures.stops c.write_synced.ensures.stops

pub returns-in-Err-write_synced-clause-stops : goal.returns-in-Err-write_synced-clause-stops
returns-in-Err-write_synced-clause-stops g c = torn_after 2 (g.D.Disk.told c.args.disk.now) (g.D.Disk.told c.length.new.self) (g.D.Disk.told c.write_synced.new.disk) c.length.ensures.stops c.write_synced.ensures.stops

pub returns-in-Ok-clause-stops : goal.returns-in-Ok-clause-stops
returns-in-Ok-clause-stops g c = torn_none 2 (g.D.Disk.told c.args.disk.now) (g.D.Disk.told c.length.new.self) c.length.ensures.stops

pub returns-in-Err-clause-stops : goal.returns-in-Err-clause-stops
returns-in-Err-clause-stops g c = torn_none 2 (g.D.Disk.told c.args.disk.now) (g.D.Disk.told c.length.new.self) c.length.ensures.stops
