-- One record more is told, and several.
use Rattle.std.proofs.lemmas.List.{append-nil}
use Rattle.std.specs.Prelude.{IfOk}
use Rattle.std.specs.declared.alloc.AllocError.{AllocError as NoMemory}
use Rattle.std.proofs.Common.{Result, Ok, Err, ◌≡◌, ℕ, ◌+◌, ◌<◌, ◌≤◌, Bool, true, false, List, [], ◌∷◌, ◌++◌, length, take, drop, get_or, refl, sym, ap, ◌∙◌, subst}
use Rattle.std.proofs.lemmas.List.{append_assoc, take_more, take_all, drop_more, take-append-drop}
use Rattle.wat_value.specs.declared.change.Act.{Act}
use Rattle.wat_schema.specs.Tables.{catalog_of}
use Rattle.wat_log_record.specs.declared.log_record.LogRecord.{LogRecord}
use Rattle.wat_replay.specs.State.{State, empty_state, IsLawful}
use Rattle.wat_replay.specs.Replay.{Applies, AppliesAll, Replays}
use Rattle.wat_replay.proofs.Replaying.{all_stay_lawful, empty_is_lawful, one_next}
use Rattle.wat_recover.specs.Goes.{Answers}
use Rattle.wat_script_texts.specs.Texts.{script_text}
use Rattle.wat_translated.specs.Translated.{transaction, translated}
use Rattle.wat_translate.specs.declared.reader.Reader.{Reader}
use Rattle.wat_translate.specs.Reading.{IsAt, HasTold, Tells}
use Rattle.wat_translate.specs.Writing.{transactions_by}
use Rattle.wat_translate.proofs.Texts.{text_more}

pub lawful : (entries : List LogRecord) (s : State) → Replays entries s → IsLawful s
lawful entries s r = all_stay_lawful entries empty_state s empty_is_lawful r

pub applies_more : (xs ys : List LogRecord) (s mid last : State) → AppliesAll xs s mid → AppliesAll ys mid last → AppliesAll (xs ++ ys) s last
applies_more [] ys s mid last a b = subst (λ (x : State). AppliesAll ys x last) (sym a) b
applies_more (x ∷ xs) ys s mid last a b = (a.0, a.1, applies_more xs ys a.0 mid last a.2 b)

-- one record
pub told_one : (old new : Reader) (text more : List ℕ) (before : List LogRecord) (entry : LogRecord) (s : State) (applied : Bool) → HasTold old text before s
    → more ≡ text ++ script_text (transactions_by (catalog_of s.tables) (transaction entry s.lists)) → Answers (IsAt new) entry s applied → Tells new more before (entry ∷ []) s applied
told_one old new text more before entry s true h is a = (
  a.0,
  (a.0, a.1, refl),
  record {
    at = a.2;
    replays = applies_more before (entry ∷ []) empty_state s a.0 h.replays (a.0, a.1, refl);
    is = is ∙ ap (λ (t : List ℕ). t ++ script_text (transactions_by (catalog_of s.tables) (transaction entry s.lists))) h.is ∙ sym (text_more before entry s h.replays);
  },
)
told_one old new text more before entry s false h is a = λ next all. a.0 all.0 all.1

-- no record
pub told_none : (r : Reader) (text : List ℕ) (before : List LogRecord) (s : State) → HasTold r text before s → Tells r text before [] s true
told_none r text before s h = (s, refl, subst (λ (entries : List LogRecord). HasTold r text entries s) (sym (append-nil before)) h)

-- behind those that were told, one more
pub told_next : (new : Reader) (text : List ℕ) (before so_far : List LogRecord) (entry : LogRecord) (s mid : State) → AppliesAll so_far s mid
    → Tells new text (before ++ so_far) (entry ∷ []) mid true → Tells new text before (so_far ++ entry ∷ []) s true
told_next new text before so_far entry s mid a h =
    (h.0, applies_more so_far (entry ∷ []) s mid h.0 a h.1, subst (λ (entries : List LogRecord). HasTold new text entries h.0) (append_assoc before so_far (entry ∷ [])) h.2)

applies_first : (xs ys : List LogRecord) (s last : State) → AppliesAll (xs ++ ys) s last → (mid : State) × AppliesAll xs s mid × AppliesAll ys mid last
applies_first [] ys s last h = (s, refl, h)
applies_first (x ∷ xs) ys s last h = let r = applies_first xs ys h.0 last h.2 in (r.0, (h.0, h.1, r.1), r.2)

pub applies_once : (xs : List LogRecord) (s a b : State) → AppliesAll xs s a → AppliesAll xs s b → a ≡ b
applies_once [] s a b x y = sym x ∙ y
applies_once (e ∷ es) s a b x y =
    applies_once es x.0 a b x.2 (subst (λ (u : State). AppliesAll es u b) (one_next e s y.0 x.0 y.1 x.1) y.2)

-- behind those that were told, one doesn't apply
pub told_not : (new : Reader) (text : List ℕ) (before so_far : List LogRecord) (entry : LogRecord) (rest : List LogRecord) (s mid : State) → AppliesAll so_far s mid
    → Tells new text (before ++ so_far) (entry ∷ []) mid false → Tells new text before (so_far ++ entry ∷ rest) s false
told_not new text before so_far entry rest s mid a h = λ last all.
    let parts = applies_first so_far (entry ∷ rest) s last all in
    let there : AppliesAll (entry ∷ rest) mid last = subst (λ (u : State). AppliesAll (entry ∷ rest) u last) (applies_once so_far s parts.0 mid parts.1 a) parts.2 in
    h there.0 (there.0, there.1, refl)

-- ---- by their places

split_at : (all : List LogRecord) (i : ℕ) (entry : LogRecord) → i < length all → entry ≡ get_or all i entry → all ≡ take i all ++ entry ∷ drop (i + 1) all
split_at all i entry there is =
    sym (take-append-drop i all) ∙ ap (λ (rest : List LogRecord). take i all ++ rest) (drop_more all i entry there ∙ ap (λ (e : LogRecord). e ∷ drop (i + 1) all) (sym is))

pub entry_not : (new : Reader) (text : List ℕ) (before all : List LogRecord) (i : ℕ) (entry : LogRecord) (s : State) (old : Reader) (front : List ℕ) → i < length all → entry ≡ get_or all i entry
    → (t : Tells old front before (take i all) s true) → Tells new text (before ++ take i all) (entry ∷ []) t.0 false → (next : State) → AppliesAll all s next → ⊥
entry_not new text before all i entry s old front there is t not next a =
    told_not new text before (take i all) entry (drop (i + 1) all) s t.0 t.1 not next (subst (λ (xs : List LogRecord). AppliesAll xs s next) (split_at all i entry there is) a)

pub entry_told : (new : Reader) (text : List ℕ) (before all : List LogRecord) (i : ℕ) (entry : LogRecord) (s : State) (old : Reader) (front : List ℕ) → i < length all → entry ≡ get_or all i entry
    → (t : Tells old front before (take i all) s true) → Tells new text (before ++ take i all) (entry ∷ []) t.0 true → Tells new text before (take (i + 1) all) s true
entry_told new text before all i entry s old front there is t told =
    subst (λ (xs : List LogRecord). Tells new text before xs s true) (sym (take_more all i entry there ∙ ap (λ (e : LogRecord). take i all ++ e ∷ []) (sym is)))
    (told_next new text before (take i all) entry s t.0 t.1 told)

pub told_as : (new : Reader) (text : List ℕ) (before more : List LogRecord) (s : State) (b c : Bool) → b ≡ c → Tells new text before more s b → Tells new text before more s c
told_as new text before more s b c is t = subst (Tells new text before more s) is t

pub all_as : (new : Reader) (text : List ℕ) (before all : List LogRecord) (i : ℕ) (s : State) → length all ≤ i → Tells new text before (take i all) s true → Tells new text before all s true
all_as new text before all i s end t = subst (λ (xs : List LogRecord). Tells new text before xs s true) (take_all i all end) t

-- what an application answers, when it answers
pub if_told : (old new : Reader) (text more : List ℕ) (before : List LogRecord) (entry : LogRecord) (s : State) (r : Result Bool NoMemory) → HasTold old text before s
    → more ≡ text ++ script_text (transactions_by (catalog_of s.tables) (transaction entry s.lists)) → IfOk r (Answers (IsAt new) entry s) → IfOk r (Tells new more before (entry ∷ []) s)
if_told old new text more before entry s (Ok applied) h is a = told_one old new text more before entry s applied h is a
if_told old new text more before entry s (Err e) h is a = tt
