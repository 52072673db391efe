use Rattle.std.proofs.Common.{◌⊎◌, ◌+◌, ◌-◌, ◌<◌, ◌++◌, ℕ, List, length, sym, ◌∙◌, ap, subst, arith}
use Rattle.std.specs.Prelude.{slice_range}
use Rattle.wat_disk.proofs.Stops.{both_same}
use Rattle.wat_gate.specs.Bodies.{IsAtGate}
use Rattle.wat_gate.specs.Gates.{IsClosedGate, IsBrokenGate}
use Rattle.wat_gate.proofs.Walk.{at_next, body_here, none_bad, next_within, if_damaged}
use Rattle.wat_gate.proofs.gate_log.GateLog.frame_at.Goals as goal

pub returns-in-Err-clause-undamaged : goal.returns-in-Err-clause-undamaged
returns-in-Err-clause-undamaged g c tells =
    let content = (g.D.Disk.told c.args.disk.now).content c.args.self.now.file.0 in
    let log = c.requires.known tells in
    if_damaged _ _ _ (λ (place : ℕ) (bad : IsClosedGate content c.args.place.at ⊎ IsBrokenGate content c.args.place.at).
    none_bad content c.args.place.at c.args.place.gate (c.requires.place tells) (omega (arith, log.frames, c.requires.frame)) bad)
    (c.in-Err.ensures.damaged tells)

pub read_more-requires-clause-count : goal.read_more-requires-clause-count
read_more-requires-clause-count g c = omega (arith, c.in-Ok.ensures.further)

pub returns-in-Ok-read_more-clause-body : goal.returns-in-Ok-read_more-clause-body
returns-in-Ok-read_more-clause-body g c tells =
    let content = (g.D.Disk.told c.args.disk.now).content c.args.self.now.file.0 in
    let into = c.args.into.now.items in
    let at = c.args.place.at in
    let count = c.in-Ok.next - at - 5 in
    c.in-Ok-read_more.ensures.bytes tells
    ∙ ap (λ (l : List ℕ). into ++ slice_range l (at + 5) (at + 5 + count)) (c.next_place.ensures.content c.args.self.now.file.0)
    ∙ ap (λ (l : List ℕ). into ++ l) (body_here content at c.args.place.gate (c.requires.place tells) c.in-Ok.next count (c.in-Ok.ensures.found tells) (omega arith))

pub returns-in-Ok-read_more-clause-next : goal.returns-in-Ok-read_more-clause-next
returns-in-Ok-read_more-clause-next g c tells =
    let content = (g.D.Disk.told c.args.disk.now).content c.args.self.now.file.0 in
    let file = c.args.self.now.file.0 in
    let gate = c.args.place.gate in
    subst (λ (l : List ℕ). IsAtGate l c.in-Ok.next (gate + 1)) (sym (c.read_more.ensures.content file ∙ c.next_place.ensures.content file))
    (at_next content c.args.place.at gate (c.requires.place tells) c.in-Ok.next (c.in-Ok.ensures.found tells))

pub returns-in-Ok-read_more-clause-stops : goal.returns-in-Ok-read_more-clause-stops
returns-in-Ok-read_more-clause-stops g c = both_same _ _ _ c.next_place.ensures.stops c.read_more.ensures.stops

pub returns-in-Err-read_more-clause-undamaged : goal.returns-in-Err-read_more-clause-undamaged
returns-in-Err-read_more-clause-undamaged g c tells =
    let content = (g.D.Disk.told c.args.disk.now).content c.args.self.now.file.0 in
    let mid = (g.D.Disk.told c.next_place.new.disk).content c.args.self.now.file.0 in
    let at = c.args.place.at in
    let count = c.in-Ok.next - at - 5 in
    let within = next_within content at c.in-Ok.next (c.in-Ok.ensures.found tells) in
    if_damaged _ _ _ (λ (place : ℕ) (short : length mid < at + 5 + count).
    omega (arith, within, short, c.in-Ok.ensures.further, ap length (c.next_place.ensures.content c.args.self.now.file.0)))
    (c.in-Err-read_more.ensures.damaged tells)

pub returns-in-Err-read_more-clause-stops : goal.returns-in-Err-read_more-clause-stops
returns-in-Err-read_more-clause-stops g c = both_same _ _ _ c.next_place.ensures.stops c.read_more.ensures.stops
