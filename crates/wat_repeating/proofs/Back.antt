-- Changes that are rolled back, connection by connection.
use Rattle.std.proofs.Common.{◌≡◌, ℕ, ◌<◌, Bool, true, false, List, [], ◌∷◌, ◌++◌, length, refl, sym, ap, subst, arith}
use Rattle.std.specs.Prelude.{map}
use Rattle.std.specs.List.{AllByRecursion}
use Rattle.wat_value.proofs.EncodingLemmas.{length-count_bytes}
use Rattle.wat_log_record.specs.declared.log_record.LogRecord.{LogRecord}
use Rattle.wat_log_record.specs.declared.log_record.LogRecord.TheVariants.{UndoTo, Rollback}
use Rattle.wat_log_record.specs.Encoding.{record_bytes}
use Rattle.wat_log.specs.declared.record_log.Log.{Log}
use Rattle.wat_log.specs.Log.{noted_bytes, HasNoted}
use Rattle.wat_replay.specs.State.{State, IsLawful, with_list, connections}
use Rattle.wat_replay.specs.Replay.{Applies, AppliesAll}
use Rattle.wat_replay.specs.Committed.{CommitsNothing}
use Rattle.wat_replay.proofs.Replaying.{can_undo}
use Rattle.wat_recover.specs.Goes.{Answers}
use Rattle.wat_repeating.specs.Repeated.{RollsBack}

pub as_undo : (conn : ℕ) (s next : State) → Applies (Rollback conn) s next → Applies (UndoTo conn 0) s next
as_undo conn s next a = record { conn = a.conn; allowed = omega arith; tables = a.tables; lists = a.lists }

-- rolling back always applies
pub always : (stands : State → Type 0) (conn : ℕ) (s : State) → conn < connections → IsLawful s → (b : Bool) → Answers stands (Rollback conn) s b → (next : State) × Applies (Rollback conn) s next × stands next
always stands conn s known lawful true a = a
always stands conn s known lawful false a =
    let u = can_undo s conn 0 lawful known in
    absurd (a.0 (record { tables = u.0; lists = with_list conn [] s.lists }) (record { conn = known; allowed = tt; tables = u.1; lists = refl }))

pub short_record : (conn : ℕ) → length (record_bytes (Rollback conn)) ≡ 3
short_record conn = omega (arith, length-count_bytes conn)

map_more : (xs : List ℕ) (y : ℕ) → map Rollback (xs ++ y ∷ []) ≡ map Rollback xs ++ Rollback y ∷ []
map_more [] y = refl
map_more (x ∷ xs) y = ap (λ (l : List LogRecord). Rollback x ∷ l) (map_more xs y)

applies_more : (entries : List LogRecord) (entry : LogRecord) (s mid next : State) → AppliesAll entries s mid → Applies entry mid next → AppliesAll (entries ++ entry ∷ []) s next
applies_more [] entry s mid next all a = (next, subst (λ (x : State). Applies entry x next) (sym all) a, refl)
applies_more (e ∷ entries) entry s mid next all a = (all.0, all.1, applies_more entries entry all.0 mid next all.2 a)

quiet_all : (conns : List ℕ) → AllByRecursion CommitsNothing (map Rollback conns)
quiet_all [] = tt
quiet_all (conn ∷ conns) = (tt, quiet_all conns)

pub rolls_none : (log : Log) (s : State) → noted_bytes log ≡ [] → RollsBack log s s
rolls_none log s none = record { conns = []; noted = record { spelled = none; encodable = tt }; applied = refl; quiet = tt }

pub rolls_more : (log after : Log) (conn : ℕ) (s mid next : State) → (back : RollsBack log s mid) → HasNoted after (map Rollback back.conns ++ Rollback conn ∷ []) → Applies (Rollback conn) mid next → RollsBack after s next
rolls_more log after conn s mid next back noted a = record {
  conns = back.conns ++ conn ∷ [];
  noted = subst (HasNoted after) (sym (map_more back.conns conn)) noted;
  applied = subst (λ (l : List LogRecord). AppliesAll l s next) (sym (map_more back.conns conn)) (applies_more (map Rollback back.conns) (Rollback conn) s mid next back.applied a);
  quiet = quiet_all (back.conns ++ conn ∷ []);
}
