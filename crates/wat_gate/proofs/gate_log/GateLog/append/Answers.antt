-- The frame is written behind the closed gate, and then the gate is opened.
use Rattle.std.proofs.Common.{[], ◌∷◌, length, ◌∙◌, ap, arith, length-append}
use Rattle.wat_gate.specs.Bodies.{bodies, frames_len}
use Rattle.wat_gate.specs.GateLog.{file_of}
use Rattle.wat_gate.proofs.Frames.{frames_len-push}
use Rattle.wat_gate.proofs.Append.{first_stops, both_stops, is_added, length-framed}
use Rattle.wat_gate.proofs.gate_log.GateLog.append.Goals as goal

pub returns-in_err-write_synced-clause-stops : goal.returns-in_err-write_synced-clause-stops
returns-in_err-write_synced-clause-stops g c tells synced =
    let log = c.requires.known tells in
    first_stops (file_of c.args.self.now) c.args.self.now.end c.args.frame.now.body c.as_written-bytes.result.now _ _ (g.D.Disk.told c.write_synced.new.disk)
    synced log.whole log.end c.requires.body c.as_written-bytes.ensures.short c.as_written-bytes.ensures.bytes c.write_synced.ensures.stops

pub returns-in_err-write_synced-2-clause-stops : goal.returns-in_err-write_synced-2-clause-stops
returns-in_err-write_synced-2-clause-stops g c tells synced =
    let log = c.requires.known tells in
    both_stops (file_of c.args.self.now) c.args.self.now.end c.args.frame.now.body c.as_written-bytes.result.now _ _ _
    synced log.whole log.end c.requires.body c.as_written-bytes.ensures.short c.as_written-bytes.ensures.bytes
    c.write_synced.ensures.stops (c.in_ok-write_synced.ensures.written tells) c.in_ok-write_synced.ensures.synced c.write_synced-2.ensures.stops

pub returns-clause-stops : goal.returns-clause-stops
returns-clause-stops g c tells synced =
    let log = c.requires.known tells in
    both_stops (file_of c.args.self.now) c.args.self.now.end c.args.frame.now.body c.as_written-bytes.result.now _ _ _
    synced log.whole log.end c.requires.body c.as_written-bytes.ensures.short c.as_written-bytes.ensures.bytes
    c.write_synced.ensures.stops (c.in_ok-write_synced.ensures.written tells) c.in_ok-write_synced.ensures.synced c.write_synced-2.ensures.stops

pub returns-clause-added : goal.returns-clause-added
returns-clause-added g c tells =
    let log = c.requires.known tells in
    (is_added (file_of c.args.self.now) c.args.self.now.end c.args.frame.now.body c.as_written-bytes.result.now (g.D.Disk.told c.args.disk.now) (g.D.Disk.told c.write_synced.new.disk) (g.D.Disk.told c.write_synced-2.new.disk)
    log.whole log.end c.requires.body c.as_written-bytes.ensures.short c.as_written-bytes.ensures.bytes
    (c.in_ok-write_synced.ensures.written tells) (c.in_ok-write_synced-2.ensures.written tells)).0

pub returns-clause-known : goal.returns-clause-known
returns-clause-known g c tells =
    let log = c.requires.known tells in
    let added = is_added (file_of c.args.self.now) c.args.self.now.end c.args.frame.now.body c.as_written-bytes.result.now (g.D.Disk.told c.args.disk.now) (g.D.Disk.told c.write_synced.new.disk) (g.D.Disk.told c.write_synced-2.new.disk)
    log.whole log.end c.requires.body c.as_written-bytes.ensures.short c.as_written-bytes.ensures.bytes
    (c.in_ok-write_synced.ensures.written tells) (c.in_ok-write_synced-2.ensures.written tells) in
    let long = ap length c.as_written-bytes.ensures.bytes ∙ length-framed c.args.frame.now.body in
    record {
      whole = added.1;
      frames = omega (arith, log.frames, ap length added.0, length-append (bodies ((g.D.Disk.told c.args.disk.now).content (file_of c.args.self.now))) (c.args.frame.now.body ∷ []));
      end = omega (arith, log.end, long, ap frames_len added.0, frames_len-push (bodies ((g.D.Disk.told c.args.disk.now).content (file_of c.args.self.now))) c.args.frame.now.body);
    }
