use Rattle.std.proofs.Common.{◌<◌, length, arith, ap}
use Rattle.wat_gate.specs.Bodies.{frames_len}
use Rattle.wat_gate.specs.GateLog.{file_of, bodies_in}
use Rattle.wat_gate.proofs.Clear.{kept_stops, clear_stops, is_cleared}
use Rattle.wat_gate.proofs.gate_log.GateLog.clear.Goals as goal

pub returns-then-self-eq0-clause-stops : goal.returns-then-self-eq0-clause-stops
returns-then-self-eq0-clause-stops g c tells synced = kept_stops (file_of c.args.self.now) _ _ synced (c.requires.known tells).whole c.sync.ensures.stops

pub returns-in_err-write_synced-clause-stops : goal.returns-in_err-write_synced-clause-stops
returns-in_err-write_synced-clause-stops g c tells synced =
    let some : 0 < length (bodies_in (g.D.Disk.told c.args.disk.now) c.args.self.now) = omega (arith, (c.requires.known tells).frames, c.if-self-eq0.false) in
    clear_stops (file_of c.args.self.now) _ _ synced (c.requires.known tells).whole some c.write_synced.ensures.stops

pub returns-clause-stops : goal.returns-clause-stops
returns-clause-stops g c tells synced =
    let some : 0 < length (bodies_in (g.D.Disk.told c.args.disk.now) c.args.self.now) = omega (arith, (c.requires.known tells).frames, c.if-self-eq0.false) in
    clear_stops (file_of c.args.self.now) _ _ synced (c.requires.known tells).whole some c.write_synced.ensures.stops

pub returns-clause-cleared : goal.returns-clause-cleared
returns-clause-cleared g c tells =
    let some : 0 < length (bodies_in (g.D.Disk.told c.args.disk.now) c.args.self.now) = omega (arith, (c.requires.known tells).frames, c.if-self-eq0.false) in
    (is_cleared _ _ some (c.in_ok-write_synced.ensures.written tells)).0

pub returns-clause-known : goal.returns-clause-known
returns-clause-known g c tells =
    let some : 0 < length (bodies_in (g.D.Disk.told c.args.disk.now) c.args.self.now) = omega (arith, (c.requires.known tells).frames, c.if-self-eq0.false) in
    let cleared = is_cleared _ _ some (c.in_ok-write_synced.ensures.written tells) in
    record {
      whole = cleared.1;
      frames = omega (arith, ap length cleared.0);
      end = omega (arith, ap frames_len cleared.0);
    }
