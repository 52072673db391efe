-- The records of bodies, body by body and all at once; and where sound files start.
use Rattle.std.proofs.Common.{◌≡◌, ℕ, ◌+◌, ◌≤◌, List, [], ◌∷◌, ◌++◌, take, drop, Option, Some, None, refl, sym, ◌∙◌, ap, subst, arith, append_assoc, take-append-drop}
use Rattle.std.specs.Prelude.{IsSome}
use Rattle.wat_disk.specs.Disk.{Image}
use Rattle.wat_gate.specs.Bodies.{bodies}
use Rattle.wat_schema.specs.Tables.{Tables}
use Rattle.wat_log_record.specs.declared.log_record.LogRecord.{LogRecord}
use Rattle.wat_log_record.specs.Bodies.{SpellsRecords, SpellsLog}
use Rattle.wat_replay.specs.State.{State, IsLawful, undone, empty_state}
use Rattle.wat_replay.specs.Replay.{AppliesAll, Replays}
use Rattle.wat_replay.proofs.Replaying.{replay_is_committed, all_stay_lawful, empty_is_lawful, Undone, undone_of}
use Rattle.wat_files.specs.Formed.{AppliesBody, AppliesBodies, IsFormed, Agrees, IsSound, Opens, Restarts, OneStart}

pub applies_append : (xs ys : List LogRecord) (s t u : State) → AppliesAll xs s t → AppliesAll ys t u → AppliesAll (xs ++ ys) s u
applies_append [] ys s t u a b = subst (λ (x : State). AppliesAll ys x u) (sym a) b
applies_append (x ∷ xs) ys s t u a b = (a.0, a.1, applies_append xs ys a.0 t u a.2 b)

pub applies_split : (xs ys : List LogRecord) (s u : State) → AppliesAll (xs ++ ys) s u → (t : State) × AppliesAll xs s t × AppliesAll ys t u
applies_split [] ys s u a = (s, refl, a)
applies_split (x ∷ xs) ys s u a = let rest = applies_split xs ys a.0 u a.2 in (rest.0, (a.0, a.1, rest.1), rest.2)

pub spells_append : (xs ys : List (List ℕ)) (a b : List LogRecord) → SpellsLog xs a → SpellsLog ys b → SpellsLog (xs ++ ys) (a ++ b)
spells_append [] ys a b s t = subst (λ (z : List LogRecord). SpellsLog ys (z ++ b)) (sym s) t
spells_append (x ∷ xs) ys a b s t =
    (s.0, s.1 ++ b, s.2, ap (λ (z : List LogRecord). z ++ b) s.3 ∙ append_assoc s.0 s.1 b, spells_append xs ys s.1 b s.4 t)

-- Bodies spell records, which lead from the one state to the other.
pub record Leads (all : List (List ℕ)) (s last : State) : Type 0 where
  pub entries : List LogRecord
  pub spelled : SpellsLog all entries
  pub applied : AppliesAll entries s last

pub leads : (all : List (List ℕ)) (s last : State) → AppliesBodies all s last → Leads all s last
leads [] s last a = record { entries = []; spelled = refl; applied = a }
leads (body ∷ rest) s last a =
    let more = leads rest a.0 last a.2 in
    record {
      entries = a.1.entries ++ more.entries;
      spelled = (a.1.entries, more.entries, a.1.spells, refl, more.spelled);
      applied = applies_append a.1.entries more.entries s a.0 last a.1.applied more.applied;
    }

pub bodies_apply : (all : List (List ℕ)) (s last : State) (entries : List LogRecord) → SpellsLog all entries → AppliesAll entries s last → AppliesBodies all s last
bodies_apply [] s last entries spelled applied = subst (λ (z : List LogRecord). AppliesAll z s last) spelled applied
bodies_apply (body ∷ rest) s last entries spelled applied =
    let both = applies_split spelled.0 spelled.1 s last (subst (λ (z : List LogRecord). AppliesAll z s last) spelled.3 applied) in
    (both.0, record { entries = spelled.0; spells = spelled.2; applied = both.1 }, bodies_apply rest both.0 last spelled.1 spelled.4 both.2)

-- sound files open to the tables to which they restart
pub one_start : (files : Image) → IsSound files → OneStart files
one_start files sound =
    let f = sound.formed in
    let a = sound.agrees in
    let log = bodies (files 2) in
    let later = leads (drop f.head.frames log) f.saved f.now f.later in
    let all = a.earlier ++ later.entries in
    let replayed : Replays all f.now = applies_append a.earlier later.entries empty_state f.saved f.now a.replayed later.applied in
    let lawful : IsLawful f.now = all_stay_lawful all empty_state f.now empty_is_lawful replayed in
    let to : Undone f.now = undone_of f.now lawful in
    record {
      tables = to.to;
      opens = record { formed = f; undone = to.is };
      restarts = record {
        entries = all;
        spelled = subst (λ (l : List (List ℕ)). SpellsLog l all) (take-append-drop f.head.frames log) (spells_append (take f.head.frames log) (drop f.head.frames log) a.earlier later.entries a.spelled later.spelled);
        committed = sym (replay_is_committed all f.now replayed) ∙ to.is;
      };
    }
