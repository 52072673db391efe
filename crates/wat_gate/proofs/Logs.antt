-- What the clauses of a gate log's calls say of the disk at later moments.
use Rattle.std.proofs.Common.{◌≡◌, ℕ, List, length, sym, ◌∙◌, ap, subst, arith}
use Rattle.wat_disk.specs.Disk.{Told, EachLeft, IsSynced, InFile, EachStop}
use Rattle.wat_disk.proofs.Stops.{left_begins}
use Rattle.wat_gate.specs.declared.gate_log.GateLog.{GateLog}
use Rattle.wat_gate.specs.declared.gate_log.GatePlace.{GatePlace}
use Rattle.wat_gate.specs.Bodies.{bodies, end_of, gate_place, IsWhole, IsAtGate, KeepsOrAdds, KeepsOrClears}
use Rattle.wat_gate.specs.GateLog.{file_of, IsLogOf, IsGateOf}

-- A log knows its file as long as that reads as before.
pub log_same : (old new : Told) (log : GateLog) → new.content (file_of log) ≡ old.content (file_of log) → IsLogOf old log → IsLogOf new log
log_same old new log same is = record {
  whole = subst IsWhole (sym same) is.whole;
  frames = subst (λ (l : List ℕ). log.frames ≡ length (bodies l)) (sym same) is.frames;
  end = subst (λ (l : List ℕ). log.end ≡ end_of l) (sym same) is.end;
}

-- its gates stay where they are
pub gate_same : (old new : Told) (log : GateLog) (place : GatePlace) → new.content (file_of log) ≡ old.content (file_of log) → IsGateOf old log place → IsGateOf new log place
gate_same old new log place same is = subst (λ (l : List ℕ). IsAtGate l place.at place.gate) (sym same) is

-- the first gate stands at the file's start
pub first_gate : (told : Told) (log : GateLog) (place : GatePlace) → place.gate ≡ 0 → place.at ≡ 0 → IsGateOf told log place
first_gate told log place gate at = record {
  count = omega (arith, gate);
  place = at ∙ ap (gate_place (told.content (file_of log))) (sym gate);
}

module _ (old new : Told) (file : ℕ) (synced : IsSynced old file) where
  -- Each image that was left during an append has the frames from before it, or those and the new one.
  pub left_by_append : (body : List ℕ) → EachStop old new (InFile file (KeepsOrAdds body)) → EachLeft new old.moment new.moment (λ image. KeepsOrAdds body (old.content file) (image file))
  left_by_append body stops = left_begins old new (InFile file (KeepsOrAdds body)) (λ image. KeepsOrAdds body (old.content file) (image file)) stops
      (λ before image was step. subst (λ (l : List ℕ). KeepsOrAdds body l (image file)) (synced before was) step.changed)

  -- Each image that was left while the log was cleared has all frames, or none.
  pub left_by_clear : EachStop old new (InFile file KeepsOrClears) → EachLeft new old.moment new.moment (λ image. KeepsOrClears (old.content file) (image file))
  left_by_clear stops = left_begins old new (InFile file KeepsOrClears) (λ image. KeepsOrClears (old.content file) (image file)) stops
      (λ before image was step. subst (λ (l : List ℕ). KeepsOrClears l (image file)) (synced before was) step.changed)
