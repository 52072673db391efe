-- The log beside the header.
use Rattle.std.proofs.Common.{◌≡◌, inl, inr, ⊎_elim, ◌↔◌, ℕ, ◌<◌, ◌≤◌, Bool, true, false, List, [], ◌∷◌, length, take, refl, sym, ◌∙◌, ap, subst, arith}
use Rattle.std.proofs.lemmas.Bool.{cases_lt}
use Rattle.wat_disk.specs.Disk.{Told}
use Rattle.wat_gate.specs.Bodies.{bodies, frames_len, gate_place, end_of, IsWhole}
use Rattle.wat_gate.specs.declared.gate_log.GateRefusal.{GateRefusal}
use Rattle.wat_gate.specs.declared.gate_log.GateRefusal.TheVariants.{Damaged}
use Rattle.wat_gate.specs.Refusal.{IfDamaged as IfBroken}
use Rattle.wat_restore.specs.Head.{Head}
use Rattle.wat_images.specs.declared.refusal.PageRefusal.{PageRefusal}
use Rattle.wat_images.specs.Refusal.{IfDamaged}
use Rattle.wat_images.proofs.Writing.{if_damaged}
use Rattle.wat_log.specs.declared.record_log.Log.{Log}
use Rattle.wat_log.specs.Log.{log_frames, IsOpenLog}
use Rattle.wat_files.specs.Formed.{HasLog, LogStops}

whole_take : (xs : List (List ℕ)) → take (length xs) xs ≡ xs
whole_take [] = refl
whole_take (x ∷ xs) = ap (λ (l : List (List ℕ)). x ∷ l) (whole_take xs)

last_gate : (content : List ℕ) → gate_place content (length (bodies content)) ≡ end_of content
last_gate content = ap frames_len (whole_take (bodies content))

module _ (told : Told) (log : Log) (known : IsOpenLog told log) where
  is_whole : IsWhole (told.content 2)
  is_whole = subst (λ (n : ℕ). IsWhole (told.content n)) log.known_file known.whole

  frames_are : log_frames log ≡ length (bodies (told.content 2))
  frames_are = known.frames ∙ ap (λ (n : ℕ). length (bodies (told.content n))) log.known_file

  module _ (head : Head) (frames gate at : ℕ) (counted : frames ≡ log_frames log) (first : head.frames ≤ frames → gate ≡ head.frames) (second : frames < head.frames → gate ≡ frames) (place : at ≡ gate_place (told.content 2) gate) where
    bodies_are : frames ≡ length (bodies (told.content 2))
    bodies_are = counted ∙ frames_are

    pub has_log : (b : Bool) → (b ≡ true) ↔ ((head.frames ≤ frames) × (at ≡ head.place)) → b ≡ true → HasLog (told.content 2) head
    has_log b agrees is =
        let both = agrees.0 is in
        record {
          whole = is_whole;
          frames = omega (arith, both.0, bodies_are);
          place = sym both.1 ∙ place ∙ ap (gate_place (told.content 2)) (first both.0);
        }

    pub log_stops : (b : Bool) → (b ≡ true) ↔ ((head.frames ≤ frames) × (at ≡ head.place)) → b ≡ false → LogStops (told.content 2) head at
    log_stops b agrees is = inr (
      is_whole,
      ⊎_elim
          (λ (few : frames < head.frames). inl (record { few = omega (arith, few, bodies_are); place = place ∙ ap (gate_place (told.content 2)) (second few ∙ bodies_are) ∙ last_gate (told.content 2) }))
          (λ (enough : head.frames ≤ frames). inr (record {
            frames = omega (arith, enough, bodies_are);
            other = λ e. let both : b ≡ true = agrees.1 (enough, place ∙ ap (gate_place (told.content 2)) (first enough) ∙ sym e) in let no : true ≡ false = sym both ∙ is in cc;
            place = place ∙ ap (gate_place (told.content 2)) (first enough);
          }))
          (cases_lt frames head.frames),
    )

-- a refusal of the gate log, as one of the log's file
pub of_gate : (broken : GateRefusal) (refusal : PageRefusal) (P : ℕ → Type 0) → IfBroken broken P → IfDamaged refusal (λ file at. (file ≡ 2) × (broken ≡ Damaged at)) → IfDamaged refusal (λ file at. (file ≡ 2) × P at)
of_gate broken refusal P is = if_damaged refusal (λ file at. (file ≡ 2) × (broken ≡ Damaged at)) (λ file at. (file ≡ 2) × P at) (λ file at there. (there.0, subst (λ (b : GateRefusal). IfBroken b P) there.1 is))

pub never : (refusal : PageRefusal) (P : ℕ → ℕ → Type 0) → IfDamaged refusal (λ file at. (file ≡ 2) × ⊥) → IfDamaged refusal P
never refusal P = if_damaged refusal (λ file at. (file ≡ 2) × ⊥) P (λ file at no. absurd no.1)

pub in_log : (refusal : PageRefusal) (P Q : ℕ → Type 0) → ((at : ℕ) → P at → Q at) → IfDamaged refusal (λ file at. (file ≡ 2) × P at) → IfDamaged refusal (λ file at. (file ≡ 2) × Q at)
in_log refusal P Q says = if_damaged refusal (λ file at. (file ≡ 2) × P at) (λ file at. (file ≡ 2) × Q at) (λ file at is. (is.0, says at is.1))

pub at_place : (refusal : PageRefusal) (at : ℕ) (Q : ℕ → Type 0) → Q at → IfDamaged refusal (λ file place. (file ≡ 2) × (place ≡ at)) → IfDamaged refusal (λ file place. (file ≡ 2) × Q place)
at_place refusal at Q is = if_damaged refusal (λ file place. (file ≡ 2) × (place ≡ at)) (λ file place. (file ≡ 2) × Q place) (λ file place there. (there.0, subst Q (sym there.1) is))
