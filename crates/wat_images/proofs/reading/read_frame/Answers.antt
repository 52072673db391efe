use Rattle.std.proofs.Common.{◌+◌, ◌<◌, ◌≡◌, ℕ, List, length, get_or, take, [], ◌++◌, Err, sym, ◌∙◌, ap, subst, arith}
use Rattle.wat_gate.specs.Bodies.{bodies}
use Rattle.wat_gate.specs.GateLog.{file_of, bodies_in}
use Rattle.wat_restore.specs.Opening.{IsNoImageFrameAt}
use Rattle.wat_restore.specs.Restored.{images_of}
use Rattle.std.specs.List.{flat_map}
use Rattle.wat_images.specs.declared.refusal.PageRefusal.{PageRefusal}
use Rattle.wat_images.specs.declared.refusal.PageRefusal.TheVariants.{DiskFault}
use Rattle.wat_images.specs.Refusal.{IfDamaged, IfPageLimit}
use Rattle.wat_images.specs.Reading.{ReadsFrames, AddsImages, CanAdd}
use Rattle.wat_images.proofs.Images.{reads_more, no_more, are_images, on_true, on_false}
use Rattle.wat_images.proofs.Refused.{fault_from, fault_to, same_why, never_limited, damaged_as}
use Rattle.wat_images.proofs.reading.read_frame.Goals as goal

pub returns-in-Err-clause-damaged : goal.returns-in-Err-clause-damaged
returns-in-Err-clause-damaged g c tells =
    let Q : ℕ → ℕ → Type 0 = λ file at. (file ≡ 1) × IsNoImageFrameAt ((g.D.Disk.told c.args.disk.now).content (file_of c.args.log.now)) at in
    subst (λ (why : PageRefusal). IfDamaged why Q) (sym c.refusal_of.ensures) (damaged_as c.in-Err.refusal (λ at. ⊥) Q (λ at never. absurd never) (c.in-Err.ensures.undamaged tells))

pub returns-in-Err-clause-limited : goal.returns-in-Err-clause-limited
returns-in-Err-clause-limited g c = subst (λ (why : PageRefusal). IfPageLimit why (λ count limit. ⊥)) (sym c.refusal_of.ensures) (never_limited c.in-Err.refusal)

pub returns-in-Err-clause-cause : goal.returns-in-Err-clause-cause
returns-in-Err-clause-cause g c = record {
  later = c.frame_at.ensures.cause.later;
  rose = λ e. c.frame_at.ensures.cause.rose (c.in-Err.is ∙ ap Err (fault_from c.in-Err.refusal (sym c.refusal_of.ensures ∙ same_why c.refusal_of.result DiskFault e)));
  kept = λ well. c.frame_at.ensures.cause.kept (fault_to c.in-Err.refusal _ c.refusal_of.result (sym c.in-Err.is) c.refusal_of.ensures well);
}

pub returns-in-Ok-true-clause-read : goal.returns-in-Ok-true-clause-read
returns-in-Ok-true-clause-read g c tells =
    let all = bodies_in (g.D.Disk.told c.args.disk.now) c.args.log.now in
    let gate = c.args.place.gate in
    let there : gate < length all = omega (arith, (c.requires.known tells).frames, c.requires.frame) in
    let body = c.deref.ensures.value ∙ c.in-Ok.ensures.body tells ∙ ap (λ (l : List ℕ). l ++ get_or all gate []) c.clear.ensures.items in
    let before = flat_map images_of (take gate all) in
    let so_far = c.requires.so_far tells in
    let adds = on_true c.in-Ok-true.field-0 (AddsImages before c.deref.result.now c.read_body.new.images.entries) c.in-Ok-true.field-0-test (c.in-Ok-true.ensures.read before so_far.has) in
    let read : ReadsFrames (take (gate + 1) all) c.read_body.new.images.entries = reads_more all gate c.deref.result.now c.read_body.new.images.entries there body so_far.whole adds in
    subst (λ (n : ℕ). ReadsFrames (take n (bodies_in (g.D.Disk.told c.frame_at.new.disk) c.args.log.now)) c.read_body.new.images.entries) (sym c.in-Ok.ensures.one_more)
    (subst (λ (l : List ℕ). ReadsFrames (take (gate + 1) (bodies l)) c.read_body.new.images.entries) (sym (c.frame_at.ensures.content (file_of c.args.log.now))) read)

pub returns-in-Ok-false-clause-damaged : goal.returns-in-Ok-false-clause-damaged
returns-in-Ok-false-clause-damaged g c tells =
    let all = bodies_in (g.D.Disk.told c.args.disk.now) c.args.log.now in
    let gate = c.args.place.gate in
    let there : gate < length all = omega (arith, (c.requires.known tells).frames, c.requires.frame) in
    let body = c.deref.ensures.value ∙ c.in-Ok.ensures.body tells ∙ ap (λ (l : List ℕ). l ++ get_or all gate []) c.clear.ensures.items in
    let before = flat_map images_of (take gate all) in
    let so_far = c.requires.so_far tells in
    let none = on_false c.in-Ok-false.field-0 (CanAdd before c.deref.result.now → ⊥) c.in-Ok-false.field-0-test (c.in-Ok-false.ensures.none before so_far.has) in (
      omega arith,
      record {
        frame = gate;
        gate = c.requires.place tells;
        so_far = are_images (take gate all) c.args.images.now.entries so_far;
        none = no_more all gate c.deref.result.now there body none;
      },
    )
