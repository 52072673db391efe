use Rattle.std.proofs.Common.{◌≡◌, ◌⊎◌, inl, inr, ℕ, List, Err, refl, sym, ◌∙◌, ap, subst}
use Rattle.wat_disk.proofs.Stops.{both_same}
use Rattle.wat_gate.specs.Bodies.{IsWhole, IsBrokenAt}
use Rattle.wat_gate.specs.GateLog.{file_of}
use Rattle.wat_restore.specs.Opening.{IsBrokenLog, HasNoImages, IsNoImageFrameAt}
use Rattle.wat_images.specs.declared.refusal.PageRefusal.{PageRefusal}
use Rattle.wat_images.specs.declared.refusal.PageRefusal.TheVariants.{DiskFault}
use Rattle.wat_images.specs.Refusal.{IfDamaged, IfPageLimit}
use Rattle.wat_images.proofs.Writing.{if_damaged}
use Rattle.wat_images.proofs.Images.{opened_log}
use Rattle.wat_images.proofs.Refused.{fault_from, fault_to, same_why, never_limited, damaged_as}
use Rattle.wat_images.proofs.reading.open_images.Goals as goal

pub returns-in-Err-clause-damaged : goal.returns-in-Err-clause-damaged
returns-in-Err-clause-damaged g c tells =
    let files = (g.D.Disk.told c.args.disk.now).content in
    let Q : ℕ → ℕ → Type 0 = λ file at. IsBrokenLog files file at ⊎ HasNoImages files file at in
    subst (λ (why : PageRefusal). IfDamaged why Q) (sym c.refusal_of.ensures)
    (damaged_as c.in-Err.refusal (IsBrokenAt (files 1)) Q (λ at broken. inl (record { in_before = refl; broken = broken })) (c.in-Err.ensures.damaged tells))

pub returns-in-Err-clause-limited : goal.returns-in-Err-clause-limited
returns-in-Err-clause-limited g c = subst (λ (why : PageRefusal). IfPageLimit why (λ count limit. ⊥)) (sym c.refusal_of.ensures) (never_limited c.in-Err.refusal)

pub returns-in-Err-clause-cause : goal.returns-in-Err-clause-cause
returns-in-Err-clause-cause g c = record {
  later = c.open.ensures.cause.later;
  rose = λ e. c.open.ensures.cause.rose (c.in-Err.is ∙ ap Err (fault_from c.in-Err.refusal (sym c.refusal_of.ensures ∙ same_why c.refusal_of.result DiskFault e)));
  kept = λ well. c.open.ensures.cause.kept (fault_to c.in-Err.refusal _ c.refusal_of.result (sym c.in-Err.is) c.refusal_of.ensures well);
}

pub returns-in-Err-read_images-clause-damaged : goal.returns-in-Err-read_images-clause-damaged
returns-in-Err-read_images-clause-damaged g c tells =
    let old = g.D.Disk.told c.args.disk.now in
    let mid = g.D.Disk.told c.open.new.disk in
    let file = file_of c.in-Ok.log in
    let same : mid.content file ≡ old.content 1 = ap (λ (f : ℕ). mid.content f) c.in-Ok.ensures.file ∙ c.open.ensures.content 1 in
    let whole : IsWhole (old.content 1) = subst IsWhole same (c.in-Ok.ensures.known tells).whole in
    if_damaged c.in-Err-read_images.refusal (λ file at. (file ≡ 1) × IsNoImageFrameAt (mid.content (file_of c.in-Ok.log)) at) (λ file at. IsBrokenLog old.content file at ⊎ HasNoImages old.content file at)
    (λ f at is. inr (record { in_before = is.0; whole = whole; frame = subst (λ (l : List ℕ). IsNoImageFrameAt l at) same is.1 })) (c.in-Err-read_images.ensures.damaged tells)

pub returns-in-Err-read_images-clause-stops : goal.returns-in-Err-read_images-clause-stops
returns-in-Err-read_images-clause-stops g c = both_same _ _ _ c.open.ensures.stops c.read_images.ensures.stops

pub returns-in-Ok-read_images-clause-stops : goal.returns-in-Ok-read_images-clause-stops
returns-in-Ok-read_images-clause-stops g c = both_same _ _ _ c.open.ensures.stops c.read_images.ensures.stops

pub returns-in-Ok-read_images-clause-opened : goal.returns-in-Ok-read_images-clause-opened
returns-in-Ok-read_images-clause-opened g c tells =
    let mid = g.D.Disk.told c.open.new.disk in
    let new = g.D.Disk.told c.read_images.new.disk in
    opened_log mid new c.in-Ok.log c.in-Ok-read_images.images (c.in-Ok.ensures.known tells) c.in-Ok.ensures.file c.read_images.ensures.content (c.in-Ok-read_images.ensures.read tells)
