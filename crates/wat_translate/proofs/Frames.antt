-- One frame more is read back, and the first that is bad.
use Rattle.std.proofs.Common.{drop-cons, length-take-le}
use Rattle.std.proofs.lemmas.List.{take-append-drop}
use Rattle.std.proofs.Common.{◌≡◌, ℕ, zero, suc, ◌+◌, ◌<◌, ◌≤◌, Bool, true, false, List, [], ◌∷◌, ◌++◌, length, take, drop, get_or, refl, sym, ap, ◌∙◌, subst, inl, inr, arith}
use Rattle.std.proofs.lemmas.List.{take_more, take_all, append_assoc}
use Rattle.std.specs.List.{AllByRecursion}
use Rattle.std.specs.Bool.{OnTrue, OnFalse}
use Rattle.wat_gate.specs.Bodies.{bodies, gate_place, IsWhole, IsAtGate}
use Rattle.wat_log_record.specs.declared.log_record.LogRecord.{LogRecord}
use Rattle.wat_log_record.specs.Encoding.{IsEncodableRecord, IsWritable}
use Rattle.wat_log_record.specs.Bodies.{SpellsLog, SpellsRecords}
use Rattle.wat_log.specs.Reading.{AddsRecords, SpellsNone}
use Rattle.wat_replay.specs.State.{State, empty_state}
use Rattle.wat_replay.specs.Replay.{AppliesAll, Replays}
use Rattle.wat_replay.proofs.Committing.{body_more}
use Rattle.wat_files.specs.Formed.{AppliesBody, AppliesBodies, BodiesStop}
use Rattle.wat_translate.specs.declared.reader.Reader.{Reader}
use Rattle.wat_translate.specs.declared.refusal.LogRefusal.{LogRefusal}
use Rattle.wat_translate.specs.declared.refusal.LogRefusal.TheVariants as entry
use Rattle.wat_translate.specs.Refusals.{IfNamed}
use Rattle.wat_translate.specs.Reading.{IsReadBack, FailsAt, HasBadFrameAt, IsAt, HasTold, HasRead, Tells, TellsBody}

-- ---- a body

pub writable_all : (entries : List LogRecord) → ((entry : LogRecord) → IsEncodableRecord entry → IsWritable entry) → AllByRecursion IsEncodableRecord entries → AllByRecursion IsWritable entries
writable_all [] law h = tt
writable_all (x ∷ xs) law h = (law x h.0, writable_all xs law h.1)

-- a body that spells none has none that apply
pub no_records : (body : List ℕ) (s : State) → SpellsNone body → (next : State) → AppliesBody body s next → ⊥
no_records body s none next a = none a.entries a.spells

-- so where those that it spells don't apply
pub none_applies : (body : List ℕ) (entries : List LogRecord) (s : State) → SpellsRecords body entries → ((xs ys : List LogRecord) → SpellsRecords body xs → SpellsRecords body ys → xs ≡ ys)
    → ((next : State) → AppliesAll entries s next → ⊥) → (next : State) → AppliesBody body s next → ⊥
none_applies body entries s spells once none next a = none next (subst (λ (xs : List LogRecord). AppliesAll xs s next) (once a.entries entries a.spells spells) a.applied)

-- records that were read
pub spelled_alone : (body : List ℕ) (old new all : List LogRecord) → AddsRecords body old new → old ≡ [] → all ≡ new → SpellsRecords body all
spelled_alone body old new all a none is = subst (SpellsRecords body) (sym (is ∙ a.is ∙ ap (λ (xs : List LogRecord). xs ++ a.entries) none)) a.spells

pub body_told : (r : Reader) (text : List ℕ) (before entries : List LogRecord) (body : List ℕ) (s : State) (applied : Bool) → SpellsRecords body entries
    → ((xs ys : List LogRecord) → SpellsRecords body xs → SpellsRecords body ys → xs ≡ ys) → Tells r text before entries s applied → TellsBody r text before body s applied
body_told r text before entries body s true spells once h = (entries, spells, h)
body_told r text before entries body s false spells once h = none_applies body entries s spells once h

pub body_as : (r : Reader) (text : List ℕ) (before : List LogRecord) (body : List ℕ) (s : State) (b c : Bool) → b ≡ c → TellsBody r text before body s b → TellsBody r text before body s c
body_as r text before body s b c is t = subst (TellsBody r text before body s) is t

pub if_true : {X : Type 0} (b : Bool) → b ≡ true → OnTrue b X → X
if_true true is h = h
if_true false is h = cc

pub if_false : {X : Type 0} (b : Bool) → b ≡ false → OnFalse b X → X
if_false true is h = cc
if_false false is h = h

-- a refusal that tells no other file
pub names_at : (refusal : LogRefusal) (at : ℕ) (content : List ℕ) → IfNamed refusal ⊥ (λ file here. (file ≡ 2) × (here ≡ at)) → HasBadFrameAt content at → IfNamed refusal ⊥ (λ file here. (file ≡ 2) × HasBadFrameAt content here)
names_at entry.NoDatabase at content h bad = h
names_at (entry.Damaged file here) at content h bad = (h.0, subst (HasBadFrameAt content) (sym h.1) bad)
names_at entry.DiskFault at content h bad = tt
names_at entry.Memory at content h bad = tt

-- a bad frame of the log is where reading fails
pub fails_so : (refusal : LogRefusal) (N : Type 0) (a b : List ℕ) → a ≡ b → IfNamed refusal ⊥ (λ file here. (file ≡ 2) × HasBadFrameAt a here) → IfNamed refusal N (λ file here. (file ≡ 2) × FailsAt b here)
fails_so entry.NoDatabase N a b same h = absurd h
fails_so (entry.Damaged file here) N a b same h = (h.0, inr (subst (λ (l : List ℕ). HasBadFrameAt l here) same h.1))
fails_so entry.DiskFault N a b same h = tt
fails_so entry.Memory N a b same h = tt

-- ---- bodies

bodies_more : (all : List (List ℕ)) (body : List ℕ) (s mid last : State) → AppliesBodies all s mid → AppliesBody body mid last → AppliesBodies (all ++ body ∷ []) s last
bodies_more [] body s mid last a b = (last, subst (λ (x : State). AppliesBody body x last) (sym a) b, refl)
bodies_more (x ∷ xs) body s mid last a b = (a.0, a.1, bodies_more xs body a.0 mid last a.2 b)

stops_behind : (all : List (List ℕ)) (body : List ℕ) (rest : List (List ℕ)) (s mid : State) → AppliesBodies all s mid → ((next : State) → AppliesBody body mid next → ⊥) → BodiesStop (all ++ body ∷ rest) s (length all)
stops_behind [] body rest s mid a none = inl (refl, λ next b. none next (subst (λ (x : State). AppliesBody body x next) a b))
stops_behind (x ∷ xs) body rest s mid a none = inr (a.0, length xs, a.1, refl, stops_behind xs body rest a.0 mid a.2 none)

-- before the first frame
pub none_read : (content : List ℕ) (r : Reader) → IsAt r empty_state → HasRead content 0 r []
none_read content r at = record { entries = []; state = empty_state; spelled = refl; applied = refl; told = record { at = at; replays = refl; is = refl } }

pub frame_more : (content : List ℕ) (i : ℕ) (old new : Reader) (text more : List ℕ) (body : List ℕ) (h : HasRead content i old text) → i < length (bodies content) → body ≡ get_or (bodies content) i []
    → (entries : List LogRecord) → SpellsRecords body entries → Tells new more h.entries entries h.state true → HasRead content (i + 1) new more
frame_more content i old new text more body h there is entries spells t =
    let taken : take (i + 1) (bodies content) ≡ take i (bodies content) ++ body ∷ [] = take_more (bodies content) i [] there ∙ ap (λ (b : List ℕ). take i (bodies content) ++ b ∷ []) (sym is) in
    record {
      entries = h.entries ++ entries;
      state = t.0;
      spelled = subst (λ (all : List (List ℕ)). SpellsLog all (h.entries ++ entries)) (sym taken) (body_more (take i (bodies content)) body h.entries entries h.spelled spells);
      applied = subst (λ (all : List (List ℕ)). AppliesBodies all empty_state t.0) (sym taken) (bodies_more (take i (bodies content)) body empty_state h.state t.0 h.applied (record { entries = entries; spells = spells; applied = t.1 }));
      told = t.2;
    }

pub bad_frame : (content : List ℕ) (i at : ℕ) (old : Reader) (text : List ℕ) (body : List ℕ) (h : HasRead content i old text) → IsWhole content → IsAtGate content at i → i < length (bodies content)
    → body ≡ get_or (bodies content) i [] → ((next : State) → AppliesBody body h.state next → ⊥) → HasBadFrameAt content at
bad_frame content i at old text body h whole gate there is none =
    let front = take i (bodies content) in
    let split : bodies content ≡ front ++ body ∷ drop (suc i) (bodies content) =
    sym (take-append-drop i (bodies content)) ∙ ap (λ (rest : List (List ℕ)). front ++ rest) (drop-cons (bodies content) i [] there ∙ ap (λ (b : List ℕ). b ∷ drop (suc i) (bodies content)) (sym is)) in
    let counted : length front ≡ i = length-take-le i (bodies content) (omega (arith, there)) in
    record {
      whole = whole;
      behind = i;
      stops = subst (λ (n : ℕ). BodiesStop (bodies content) empty_state n) counted
          (subst (λ (all : List (List ℕ)). BodiesStop all empty_state (length front)) (sym split) (stops_behind front body (drop (suc i) (bodies content)) empty_state h.state h.applied none));
      place = gate.place;
    }

pub all_told : (content : List ℕ) (i : ℕ) (r : Reader) (text : List ℕ) → IsWhole content → length (bodies content) ≤ i → HasRead content i r text → IsReadBack content text
all_told content i r text whole end h = record {
  whole = whole;
  entries = h.entries;
  spelled = subst (λ (all : List (List ℕ)). SpellsLog all h.entries) (take_all i (bodies content) end) h.spelled;
  reached = h.state;
  replays = h.told.replays;
  is = h.told.is;
}
