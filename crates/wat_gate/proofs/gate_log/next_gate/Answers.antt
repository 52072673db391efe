use Rattle.std.proofs.Common.{◌≡◌, ◌+◌, inr, refl, sym, ◌∙◌, ap, arith, ℕ, List, take, drop, get_or, length-drop}
use Rattle.std.specs.Int.{w32, from_be_bytes}
use Rattle.wat_disk.proofs.Stops.{none_same, both_same}
use Rattle.wat_gate.specs.Bodies.{open_gate}
use Rattle.wat_gate.proofs.Walk.{no_frame, short_frame, is_open}
use Rattle.wat_gate.proofs.gate_log.next_gate.Goals as goal
use Rattle.wat_gate.proofs.gate_log.next_gate.Goals.{then-body-eq0-via-then-body-eq0, then-body-eq0-via-else-body-eq0+then-body-gt-MAX_BODY, then-body-eq0-via-else-body-eq0+else-body-gt-MAX_BODY+then-body-len}

pub returns-then-at-len-clause-stops : goal.returns-then-at-len-clause-stops
returns-then-at-len-clause-stops g c = none_same _

pub returns-in_err-length_behind-clause-stops : goal.returns-in_err-length_behind-clause-stops
returns-in_err-length_behind-clause-stops g c = both_same _ _ _ c.byte_at.ensures.stops c.length_behind.ensures.stops

pub returns-then-body-eq0-clause-stops : goal.returns-then-body-eq0-clause-stops
returns-then-body-eq0-clause-stops g c = both_same _ _ _ c.byte_at.ensures.stops c.length_behind.ensures.stops

pub returns-clause-stops : goal.returns-clause-stops
returns-clause-stops g c = both_same _ _ _ c.byte_at.ensures.stops c.length_behind.ensures.stops

pub returns-then-len-at-lt5-clause-damaged : goal.returns-then-len-at-lt5-clause-damaged
returns-then-len-at-lt5-clause-damaged g c tells =
    let content = (g.D.Disk.told c.args.disk.now).content c.args.file.0 in
    let gate : get_or content c.args.at 0 ≡ open_gate = sym (c.in_ok-byte_at.ensures.byte tells) ∙ c.if-branch.false in
    (refl, inr (gate, short_frame (drop (c.args.at + 1) content) (omega (arith, c.requires.len tells, length-drop (c.args.at + 1) content))))

pub returns-then-body-eq0-clause-damaged : goal.returns-then-body-eq0-clause-damaged
returns-then-body-eq0-clause-damaged g c tells =
    let content = (g.D.Disk.told c.args.disk.now).content c.args.file.0 in
    let gate : get_or content c.args.at 0 ≡ open_gate = sym (c.in_ok-byte_at.ensures.byte tells) ∙ c.if-branch.false in
    let n = c.from-body.result in
    let is : n ≡ from_be_bytes w32 (take 4 (drop (c.args.at + 1) content)) = c.from-body.ensures ∙ c.in_ok-length_behind.ensures.value tells
    ∙ ap (λ (l : List ℕ). from_be_bytes w32 (take 4 (drop (c.args.at + 1) l))) (c.byte_at.ensures.content c.args.file.0) in (
      refl,
      inr (
        gate,
        no_frame (drop (c.args.at + 1) content) n is (λ some short room. elim c.then-body-eq0.branch [
          | then-body-eq0-via-then-body-eq0 w ↦ omega arith
          | then-body-eq0-via-else-body-eq0+then-body-gt-MAX_BODY w ↦ omega arith
          | then-body-eq0-via-else-body-eq0+else-body-gt-MAX_BODY+then-body-len w ↦ omega (arith, c.requires.len tells, length-drop (c.args.at + 1) content)
        ]),
      ),
    )

pub returns-clause-found : goal.returns-clause-found
returns-clause-found g c tells =
    let content = (g.D.Disk.told c.args.disk.now).content c.args.file.0 in
    let gate : get_or content c.args.at 0 ≡ open_gate = sym (c.in_ok-byte_at.ensures.byte tells) ∙ c.if-branch.false in
    let n = c.from-body.result in
    let is : n ≡ from_be_bytes w32 (take 4 (drop (c.args.at + 1) content)) = c.from-body.ensures ∙ c.in_ok-length_behind.ensures.value tells
    ∙ ap (λ (l : List ℕ). from_be_bytes w32 (take 4 (drop (c.args.at + 1) l))) (c.byte_at.ensures.content c.args.file.0) in
    is_open content c.args.at n gate is (omega arith) (omega arith) (omega (arith, c.requires.len tells))
