-- Records that are made one after another, and frames of them.
use Rattle.std.proofs.Common.{◌≡◌, inl, inr, ℕ, zero, suc, ◌+◌, ◌<◌, ◌≤◌, Bool, true, false, List, [], ◌∷◌, ◌++◌, length, drop, refl, sym, ap, ◌∙◌, subst, arith}
use Rattle.std.specs.Prelude.{MatchBool, slice_index_or}
use Rattle.std.specs.List.{AllByRecursion}
use Rattle.std.proofs.lemmas.List.{drop_all}
use Rattle.std.proofs.lemmas.Option.{slice_get-get_or}
use Rattle.wat_value.proofs.FitsLemmas.{drop_at}
use Rattle.wat_log_record.specs.declared.log_record.LogRecord.{LogRecord}
use Rattle.wat_log_record.specs.Encoding.{IsEncodableRecord, IsWritable}
use Rattle.wat_log_record.proofs.Cancelling.{writable, spelled_once}
use Rattle.wat_log.specs.Reading.{AddsRecords}
use Rattle.wat_replay.specs.State.{State, IsLawful}
use Rattle.wat_replay.specs.Replay.{AppliesAll}
use Rattle.wat_replay.proofs.Replaying.{stays_lawful, all_stay_lawful, one_next}
use Rattle.wat_recover.specs.Goes.{Answers}
use Rattle.wat_files.specs.Formed.{AppliesBody, AppliesBodies, BodiesStop}

-- ---- record by record

-- So many of the records are made, and the state behind them stands.
pub record Led (entries : List LogRecord) (i : ℕ) (s : State) (stands : State → Type 0) : Type 0 where
  pub mid : State
  pub there : stands mid
  pub lawful : IsLawful mid
  pub to : (last : State) → AppliesAll (drop i entries) mid last → AppliesAll entries s last
  pub from : (last : State) → AppliesAll entries s last → AppliesAll (drop i entries) mid last

pub led_start : (entries : List LogRecord) (s : State) (stands : State → Type 0) → stands s → IsLawful s → Led entries 0 s stands
led_start entries s stands there lawful = record { mid = s; there = there; lawful = lawful; to = λ last all. all; from = λ last all. all }

module _ (entries : List LogRecord) (i : ℕ) (s : State) (stands : State → Type 0) (led : Led entries i s stands) where
  module _ (entry : LogRecord) (here : drop i entries ≡ entry ∷ drop (i + 1) entries) where
    pub led_next : (now : State → Type 0) → Answers now entry led.mid true → Led entries (i + 1) s now
    led_next now answer = record {
      mid = answer.0;
      there = answer.2;
      lawful = stays_lawful entry led.mid answer.0 led.lawful answer.1;
      to = λ last rest. led.to last (subst (λ (l : List LogRecord). AppliesAll l led.mid last) (sym here) (answer.0, answer.1, rest));
      from = λ last all.
          let more = subst (λ (l : List LogRecord). AppliesAll l led.mid last) here (led.from last all) in
          subst (λ (x : State). AppliesAll (drop (i + 1) entries) x last) (one_next entry led.mid more.0 answer.0 more.1 answer.1) more.2;
    }

    pub led_none : (now : State → Type 0) → Answers now entry led.mid false → (last : State) → AppliesAll entries s last → ⊥
    led_none now answer last all = let more = subst (λ (l : List LogRecord). AppliesAll l led.mid last) here (led.from last all) in answer.0 more.0 more.1

  pub led_end : length entries ≤ i → (last : State) × AppliesAll entries s last × stands last
  led_end past = (led.mid, led.to led.mid (subst (λ (l : List LogRecord). AppliesAll l led.mid led.mid) (sym (drop_all i entries past)) refl), led.there)

-- records that were read can be written
pub all_writable : (entries : List LogRecord) → ((entry : LogRecord) → IsEncodableRecord entry → IsWritable entry) → AllByRecursion IsEncodableRecord entries → AllByRecursion IsWritable entries
all_writable [] law all = tt
all_writable (entry ∷ entries) law all = (law entry all.0, all_writable entries law all.1)

-- ---- frame by frame

-- The frames from the one gate to the other are made, and the state behind them stands.
pub record Reached (all : List (List ℕ)) (from gate : ℕ) (s : State) (stands : State → Type 0) : Type 0 where
  pub mid : State
  pub there : stands mid
  pub lawful : IsLawful mid
  pub applies : (last : State) → AppliesBodies (drop gate all) mid last → AppliesBodies (drop from all) s last
  pub stops : (stop total : ℕ) → total + from ≡ stop + gate → BodiesStop (drop gate all) mid stop → BodiesStop (drop from all) s total

pub reached_start : (all : List (List ℕ)) (from : ℕ) (s : State) (stands : State → Type 0) → stands s → IsLawful s → Reached all from from s stands
reached_start all from s stands there lawful = record {
  mid = s;
  there = there;
  lawful = lawful;
  applies = λ last rest. rest;
  stops = λ stop total same there. subst (λ (n : ℕ). BodiesStop (drop from all) s n) (let e : stop ≡ total = omega (arith, same) in e) there;
}

module _ (all : List (List ℕ)) (from gate : ℕ) (s : State) (stands : State → Type 0) (reached : Reached all from gate s stands) where
  module _ (within : gate < length all) where
    frame : drop gate all ≡ slice_index_or all gate [] ∷ drop (gate + 1) all
    frame = drop_at all gate (slice_index_or all gate []) (slice_get-get_or all gate [] within)

    pub reached_next : (next : State) (now : State → Type 0) → AppliesBody (slice_index_or all gate []) reached.mid next → now next → Reached all from (gate + 1) s now
    reached_next next now applied there = record {
      mid = next;
      there = there;
      lawful = all_stay_lawful applied.entries reached.mid next reached.lawful applied.applied;
      applies = λ last rest. reached.applies last (subst (λ (l : List (List ℕ)). AppliesBodies l reached.mid last) (sym frame) (next, applied, rest));
      stops = λ stop total same stopped.
          reached.stops (suc stop) total (omega (arith, same)) (subst (λ (l : List (List ℕ)). BodiesStop l reached.mid (suc stop)) (sym frame) (inr (next, stop, applied, refl, stopped)));
    }

    pub reached_stop : (total : ℕ) → total + from ≡ gate → ((next : State) → AppliesBody (slice_index_or all gate []) reached.mid next → ⊥) → BodiesStop (drop from all) s total
    reached_stop total same none = reached.stops 0 total (omega (arith, same)) (subst (λ (l : List (List ℕ)). BodiesStop l reached.mid 0) (sym frame) (inl (refl, none)))

  pub reached_end : length all ≤ gate → (last : State) × AppliesBodies (drop from all) s last × stands last × IsLawful last
  reached_end past =
      (reached.mid, reached.applies reached.mid (subst (λ (l : List (List ℕ)). AppliesBodies l reached.mid reached.mid) (sym (drop_all gate all past)) refl), reached.there, reached.lawful)

-- the records of a body that was read into an empty list
pub body_applies : (bytes : List ℕ) (entries : List LogRecord) (s next : State) → AddsRecords bytes [] entries → AppliesAll entries s next → AppliesBody bytes s next
body_applies bytes entries s next adds applied = record {
  entries = adds.entries;
  spells = adds.spells;
  applied = subst (λ (l : List LogRecord). AppliesAll l s next) adds.is applied;
}

pub match_true : (b : Bool) (P Q : Type 0) → b ≡ true → MatchBool b P Q → P
match_true true P Q is m = m
match_true false P Q is m = absurd (let no : false ≡ true = is in cc)

pub match_false : (b : Bool) (P Q : Type 0) → b ≡ false → MatchBool b P Q → Q
match_false true P Q is m = absurd (let no : true ≡ false = is in cc)
match_false false P Q is m = m

all_drop : (n : ℕ) (xs : List LogRecord) → AllByRecursion IsWritable xs → AllByRecursion IsWritable (drop n xs)
all_drop zero xs all = all
all_drop (suc n) [] all = tt
all_drop (suc n) (x ∷ xs) all = all_drop n xs all.1

pub writable_there : (entries : List LogRecord) (i : ℕ) (entry : LogRecord) → drop i entries ≡ entry ∷ drop (i + 1) entries → AllByRecursion IsWritable entries → IsWritable entry
writable_there entries i entry here all = let rest : AllByRecursion IsWritable (entry ∷ drop (i + 1) entries) = subst (AllByRecursion IsWritable) here (all_drop i entries all) in rest.0

-- ---- what was read of a frame

pub frame_adds : (bytes : List ℕ) (old new list : List LogRecord) → old ≡ [] → list ≡ new → AddsRecords bytes old new → AddsRecords bytes [] list
frame_adds bytes old new list none same adds = record { entries = adds.entries; spells = adds.spells; is = same ∙ adds.is ∙ ap (λ (l : List LogRecord). l ++ adds.entries) none }

pub frame_writable : (bytes : List ℕ) (list : List LogRecord) → AddsRecords bytes [] list → AllByRecursion IsWritable list
frame_writable bytes list adds = subst (AllByRecursion IsWritable) (sym adds.is) (all_writable adds.entries writable adds.spells.encodable)

pub list_applies : (bytes : List ℕ) (list : List LogRecord) (s next : State) → AddsRecords bytes [] list → AppliesBody bytes s next → AppliesAll list s next
list_applies bytes list s next adds applied =
    subst (λ (l : List LogRecord). AppliesAll l s next) (spelled_once bytes applied.entries adds.entries applied.spells adds.spells ∙ sym adds.is) applied.applied
