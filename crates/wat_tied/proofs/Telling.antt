-- What an entry tells of its connection's transaction, and of the commits.
use Rattle.std.proofs.Common.{◌≡◌, ℕ, zero, suc, ◌+◌, ◌≤◌, ◌<◌, Bool, true, false, is_some, List, [], ◌∷◌, ◌++◌, map, length, take, unwrap_or, ◌⊎◌, Option, Some, None, Result, Ok, Err, if◌then◌else◌, IsPermutation, refl, sym, ap, ◌∙◌, subst, inl, inr, ⊎_elim, arith}
use Rattle.std.specs.List.{fold, flat_map, range_with_len}
use Rattle.std.specs.Option.{option_map}
use Rattle.std.proofs.lemmas.Bool.{both_ways, cases_eq}
use Rattle.std.proofs.lemmas.List.{append-nil, append_assoc, map-append}
use Rattle.std.proofs.lemmas.List.Sorted.{IsPermutation-refl, IsPermutation-trans, IsPermutation-append, IsPermutation-append_comm}
use Rattle.wat_value.specs.declared.change.Act.{Act}
use Rattle.wat_ast.specs.declared.statement.Statement.{Statement}
use Rattle.wat_parse.specs.declared.script.Span.{Span}
use Rattle.wat_parse.specs.Parsing.{parsed_at}
use Rattle.wat_list.specs.Has.{Has}
use Rattle.wat_list.proofs.Members.{has_cases}
use Rattle.wat_schema.specs.Catalog.{Catalog}
use Rattle.wat_schema.specs.Tables.{Tables, catalog_of, apply_all}
use Rattle.wat_conn.specs.declared.answer.Answer.{Answer}
use Rattle.wat_history.specs.Plain.{IsPlainAnswer as IsPlainTold, Plain, PlainAfterSome}
use Rattle.wat_history.specs.Serial.{after}
use Rattle.wat_history.specs.Connection.{Part, Transaction, Connection, part_of, new_connection, with_part, opens, ends, running, after_answer, is_done, after_text, next, connection_after}
use Rattle.wat_history.specs.History.{Commit, open_parts, effects, committed_by, commits_from}
use Rattle.wat_scans.specs.Running.{Run}
use Rattle.wat_steps.specs.State.{ConnectionState, CoreState}
use Rattle.wat_steps.specs.Answering.{entry_at}
use Rattle.wat_steps.specs.Statements.{next_number}
use Rattle.wat_tied.specs.Told.{parts_told, stands_told, commits_told, all_told, IsTold, IsHistoryTold, ArePlainTold}

fold_append : {A B : Type 0} (f : B → A → B) (b : B) (xs ys : List A) → fold f b (xs ++ ys) ≡ fold f (fold f b xs) ys
fold_append f b [] ys = refl
fold_append f b (x ∷ xs) ys = fold_append f (f b x) xs ys

-- ---- what an entry leaves

-- an answer at which the transaction goes on, and that commits nothing
pub record IsPlainAnswer (answer : Answer) : Type 0 where
  pub done : is_done answer ≡ true
  pub lasts : ends answer ≡ false
  pub commits_none : (c : Connection) (p : Part) → committed_by c p answer ≡ []
  pub tells : (c : Catalog) (p : Part) → IsPlainTold c p answer

-- such an answer, whatever it tells
pub record IsReplyAnswer (answer : Answer) : Type 0 where
  pub done : is_done answer ≡ true
  pub lasts : ends answer ≡ false
  pub commits_none : (c : Connection) (p : Part) → committed_by c p answer ≡ []

module _ (c : Connection) (p : Part) (statement : Statement) (read : p.read ≡ Ok statement) (done : is_done p.entry.answer ≡ true) where
  next_is : next c p ≡ after_answer c statement p
  next_is = ap (after_text c p) read ∙ ap (λ b. if b then after_answer c statement p else c) done

  joins : ends p.entry.answer ≡ false → (t : Option Transaction) → c.transaction ≡ t → (opens statement ≡ true) ⊎ (is_some t ≡ true) → (open_parts (next c p) ≡ open_parts c ++ p ∷ []) × (is_some (next c p).transaction ≡ true)
  joins lasts (Some t) at h =
      let after : (next c p).transaction ≡ Some (with_part statement p t) =
      ap (λ (z : Connection). z.transaction) next_is ∙ (ap (λ b. if b then None else option_map (with_part statement p) (running statement c.transaction)) lasts ∙ ap (λ o. option_map (with_part statement p) (running statement o)) at) in
      (ap (λ o. Rattle.std.specs.Option.option_map_or (λ (z : Transaction). z.parts) o []) after ∙ ap (λ o. Rattle.std.specs.Option.option_map_or (λ (z : Transaction). z.parts) o [] ++ p ∷ []) (sym at), ap is_some after)
  joins lasts None at (inr h) = absurd (both_ways false refl h)
  joins lasts None at (inl h) =
      let after : (next c p).transaction ≡ Some (with_part statement p (record { parts = []; standing = []; savepoints = [] })) =
      ap (λ (z : Connection). z.transaction) next_is
      ∙ (ap (λ b. if b then None else option_map (with_part statement p) (running statement c.transaction)) lasts
      ∙ (ap (λ o. option_map (with_part statement p) (running statement o)) at ∙ ap (λ b. option_map (with_part statement p) (if b then Some (record { parts = []; standing = []; savepoints = [] }) else None)) h)) in
      (ap (λ o. Rattle.std.specs.Option.option_map_or (λ (z : Transaction). z.parts) o []) after ∙ ap (λ o. Rattle.std.specs.Option.option_map_or (λ (z : Transaction). z.parts) o [] ++ p ∷ []) (sym at), ap is_some after)

  over : ends p.entry.answer ≡ true → (next c p).transaction ≡ None
  over h = ap (λ (z : Connection). z.transaction) next_is ∙ ap (λ b. if b then None else option_map (with_part statement p) (running statement c.transaction)) h

  idles : opens statement ≡ false → c.transaction ≡ None → (next c p).transaction ≡ None
  idles none at = ap (λ (z : Connection). z.transaction) next_is ∙ by (ends p.entry.answer)
    where
      by : (b : Bool) → (if b then None else option_map (with_part statement p) (running statement c.transaction)) ≡ None
      by true = refl
      by false = ap (λ o. option_map (with_part statement p) (running statement o)) at ∙ ap (λ b. option_map (with_part statement p) (if b then Some (record { parts = []; standing = []; savepoints = [] }) else None)) none

commits_append : (c : Connection) (xs : List Part) (p : Part) → commits_from c (xs ++ p ∷ []) ≡ commits_from c xs ++ committed_by (fold next c xs) p p.entry.answer
commits_append c [] p = append-nil (committed_by c p p.entry.answer)
commits_append c (x ∷ xs) p =
    ap (λ z. committed_by c x x.entry.answer ++ z) (commits_append (next c x) xs p)
    ∙ sym (append_assoc (committed_by c x x.entry.answer) (commits_from (next c x) xs) (committed_by (fold next (next c x) xs) p p.entry.answer))

-- ---- the connection after an answer

-- its transcript is longer by the entry
module _ (k after : ConnectionState) (span : Span) (answer : Answer) (acts : List Act) (script : after.script ≡ k.script) (transcript : after.transcript ≡ k.transcript ++ entry_at span k.level answer acts ∷ []) where
  abbrev pub p : Part
  p = record { read = parsed_at k.script span; entry = entry_at span k.level answer acts }

  pub told_next : parts_told after ≡ parts_told k ++ p ∷ []
  told_next = (λ j. map (part_of (script j)) (transcript j)) ∙ map-append (part_of k.script) k.transcript (entry_at span k.level answer acts ∷ [])

  pub stands_next : stands_told after ≡ next (stands_told k) p
  stands_next = ap connection_after told_next ∙ fold_append next new_connection (parts_told k) (p ∷ [])

  pub commits_next : commits_told after ≡ commits_told k ++ committed_by (stands_told k) p answer
  commits_next = ap (commits_from new_connection) told_next ∙ commits_append new_connection (parts_told k) p

  pub no_commit : ((c : Connection) (q : Part) → committed_by c q answer ≡ []) → commits_told after ≡ commits_told k
  no_commit none = commits_next ∙ (ap (λ z. commits_told k ++ z) (none (stands_told k) p) ∙ append-nil (commits_told k))

  module _ (more : List Span) (first : k.left ≡ span ∷ more) (parts : List Part) (told : IsTold k parts) (ended : after.has_ended ≡ k.has_ended) where
    running_on : k.has_ended ≡ false
    running_on = told.goes span more first

    before : open_parts (stands_told k) ≡ parts
    before = told.open_parts running_on

    module _ (statement : Statement) (read : parsed_at k.script span ≡ Ok statement) (done : is_done answer ≡ true) where
      -- the entry joins the transaction
      pub told_joins : ends answer ≡ false → (opens statement ≡ true) ⊎ (is_some (stands_told k).transaction ≡ true) → is_some after.transaction ≡ true → IsTold after (parts ++ p ∷ [])
      told_joins lasts h is_open =
          let j = joins (stands_told k) p statement read done lasts (stands_told k).transaction refl h in
          record {
            goes = λ s m e. ended ∙ running_on;
            open_parts = λ e. ap open_parts stands_next ∙ (j.0 ∙ ap (λ z. z ++ p ∷ []) before);
            opens = λ e w. is_open ∙ sym (ap (λ (z : Connection). is_some z.transaction) stands_next ∙ j.1);
          }

      -- it ends the transaction
      pub told_over : ends answer ≡ true → after.transaction ≡ None → IsTold after []
      told_over ends_it none =
          let gone : (stands_told after).transaction ≡ None = ap (λ (z : Connection). z.transaction) stands_next ∙ over (stands_told k) p statement read done ends_it in
          record {
            goes = λ s m e. ended ∙ running_on;
            open_parts = λ e. ap (λ o. Rattle.std.specs.Option.option_map_or (λ (z : Transaction). z.parts) o []) gone;
            opens = λ e w. ap is_some none ∙ sym (ap is_some gone);
          }

      -- no transaction is open, and none is then
      pub told_idles : opens statement ≡ false → (stands_told k).transaction ≡ None → after.transaction ≡ None → IsTold after []
      told_idles opens_none idle none =
          let gone : (stands_told after).transaction ≡ None = ap (λ (z : Connection). z.transaction) stands_next ∙ idles (stands_told k) p statement read done opens_none idle in
          record {
            goes = λ s m e. ended ∙ running_on;
            open_parts = λ e. ap (λ o. Rattle.std.specs.Option.option_map_or (λ (z : Transaction). z.parts) o []) gone;
            opens = λ e w. ap is_some none ∙ sym (ap is_some gone);
          }

    -- it leaves where the connection stands
    pub told_stays : next (stands_told k) p ≡ stands_told k → after.transaction ≡ k.transaction → (after.work ≡ None → k.work ≡ None) → IsTold after parts
    told_stays stays same work =
        let is : stands_told after ≡ stands_told k = stands_next ∙ stays in
        record {
          goes = λ s m e. ended ∙ running_on;
          open_parts = λ e. ap open_parts is ∙ before;
          opens = λ e w. ap is_some same ∙ (told.opens running_on (work w) ∙ sym (ap (λ (z : Connection). is_some z.transaction) is));
        }

pub none_open : (k : ConnectionState) (parts : List Part) → IsTold k parts → k.has_ended ≡ false → k.work ≡ None → k.transaction ≡ None → (stands_told k).transaction ≡ None
none_open k parts told running resting none = by (stands_told k).transaction refl (sym (told.opens running resting) ∙ ap is_some none)
  where
    by : (o : Option Transaction) → (stands_told k).transaction ≡ o → is_some (stands_told k).transaction ≡ false → (stands_told k).transaction ≡ None
    by None at h = at
    by (Some t) at h = absurd (both_ways (is_some (stands_told k).transaction) h (ap is_some at))

-- a text that is no statement leaves where the connection stands
pub unread_stays : (c : Connection) (p : Part) (at : ℕ) → p.read ≡ Err at → next c p ≡ c
unread_stays c p at failed = ap (after_text c p) failed

-- and so does one that is not done
pub undone_stays : (c : Connection) (p : Part) → is_done p.entry.answer ≡ false → next c p ≡ c
undone_stays c p h = by p.read
  where
    by : (r : Result Statement ℕ) → after_text c p r ≡ c
    by (Err at) = refl
    by (Ok statement) = ap (λ b. if b then after_answer c statement p else c) h

-- ---- the history

-- Nothing is committed, or one transaction is, with the next number.
abbrev pub IsContinued : CoreState → CoreState → ℕ → List Commit → List Commit → List Commit → List Commit → Type 0
IsContinued e after c told then_told old new =
    ((then_told ≡ told) × (new ≡ old) × (after.moments ≡ e.moments))
    ⊎ ((commit : Commit) × (moment : ℕ) × (then_told ≡ told ++ commit ∷ []) × (new ≡ old ++ commit ∷ []) × (commit.number ≡ next_number e) × (after.moments ≡ e.moments ++ moment ∷ []) × (((1 ≤ c) × (c ≤ e.count) → ⊥) → ⊥))

abbrev Within : ℕ → ℕ → ℕ → Type 0
Within k n c = (k ≤ c) × (c < k + n)

module _ (f g : ℕ → List Commit) (c : ℕ) (there : (d : ℕ) → (d ≡ c → ⊥) → g d ≡ f d) where
  -- those before and after the connection are as before
  off : (k n : ℕ) → (Within k n c → ⊥) → flat_map g (range_with_len k n) ≡ flat_map f (range_with_len k n)
  off k zero out = refl
  off k (suc n) out = λ j. there k (λ (e : k ≡ c). out (omega (arith, e), omega (arith, e))) j ++ off (k + 1) n (λ w. let a : k + 1 ≤ c = w.0 in let b : c < k + 1 + n = w.1 in out (omega (arith, a), omega (arith, b))) j

  same_all : g c ≡ f c → (k n : ℕ) → flat_map g (range_with_len k n) ≡ flat_map f (range_with_len k n)
  same_all here k zero = refl
  same_all here k (suc n) = λ j. one k j ++ same_all here (k + 1) n j
    where
      one : (d : ℕ) → g d ≡ f d
      one d = ⊎_elim (λ (e : d ≡ c). ap g e ∙ (here ∙ ap f (sym e))) (λ (ne : d ≡ c → ⊥). there d ne) (cases_eq d c)

  one_more : (x : Commit) → g c ≡ f c ++ x ∷ [] → (k n : ℕ) → Within k n c → IsPermutation (flat_map g (range_with_len k n)) (flat_map f (range_with_len k n) ++ x ∷ [])
  one_more x here k zero w = let a : k ≤ c = w.0 in let b : c < k + 0 = w.1 in absurd (omega (arith, a, b))
  one_more x here k (suc n) w = ⊎_elim
      (λ (e : k ≡ c).
      let rest : flat_map g (range_with_len (k + 1) n) ≡ flat_map f (range_with_len (k + 1) n) = off (k + 1) n (λ v. let a : k + 1 ≤ c = v.0 in omega (arith, a, e)) in
      let is : flat_map g (range_with_len k (suc n)) ≡ f k ++ (x ∷ [] ++ flat_map f (range_with_len (k + 1) n)) =
      (λ j. (ap g e ∙ (here ∙ ap (λ n. f n ++ x ∷ []) (sym e))) j ++ rest j) ∙ append_assoc (f k) (x ∷ []) (flat_map f (range_with_len (k + 1) n)) in
      subst (λ z. IsPermutation z (flat_map f (range_with_len k (suc n)) ++ x ∷ [])) (sym is)
      (subst (IsPermutation (f k ++ (x ∷ [] ++ flat_map f (range_with_len (k + 1) n)))) (sym (append_assoc (f k) (flat_map f (range_with_len (k + 1) n)) (x ∷ [])))
      (IsPermutation-append (f k) (f k) (x ∷ [] ++ flat_map f (range_with_len (k + 1) n)) (flat_map f (range_with_len (k + 1) n) ++ x ∷ []) (IsPermutation-refl (f k)) (IsPermutation-append_comm (x ∷ []) (flat_map f (range_with_len (k + 1) n))))))
      (λ (ne : k ≡ c → ⊥).
      let a : k ≤ c = w.0 in
      let b : c < k + suc n = w.1 in
      let deeper = one_more x here (k + 1) n (less a ne, omega (arith, b)) in
      subst (λ z. IsPermutation (z ++ flat_map g (range_with_len (k + 1) n)) (flat_map f (range_with_len k (suc n)) ++ x ∷ [])) (sym (there k ne))
      (subst (IsPermutation (f k ++ flat_map g (range_with_len (k + 1) n))) (sym (append_assoc (f k) (flat_map f (range_with_len (k + 1) n)) (x ∷ [])))
      (IsPermutation-append (f k) (f k) (flat_map g (range_with_len (k + 1) n)) (flat_map f (range_with_len (k + 1) n) ++ x ∷ []) (IsPermutation-refl (f k)) deeper)))
      (cases_eq k c)
    where
      less : k ≤ c → (k ≡ c → ⊥) → k + 1 ≤ c
      less a ne = ⊎_elim (λ l. l) (λ e. absurd (ne e)) (either k c a)
        where
          either : (m n : ℕ) → m ≤ n → (m + 1 ≤ n) ⊎ (m ≡ n)
          either zero zero l = inr refl
          either zero (suc n) l = inl (omega arith)
          either (suc m) zero l = absurd (omega (arith, l))
          either (suc m) (suc n) l = ⊎_elim (λ (a : m + 1 ≤ n). inl (omega (arith, a))) (λ (a : m ≡ n). inr (ap suc a)) (either m n (omega (arith, l)))

length_more : {A : Type 0} (xs : List A) (x : A) → length (xs ++ x ∷ []) ≡ length xs + 1
length_more [] x = refl
length_more (y ∷ ys) x = ap suc (length_more ys x) ∙ plus (length ys)
  where
    plus : (n : ℕ) → suc (n + 1) ≡ suc n + 1
    plus n = omega arith

length_suc : {A : Type 0} (xs : List A) (x : A) → length (xs ++ x ∷ []) ≡ suc (length xs)
length_suc [] x = refl
length_suc (y ∷ ys) x = ap suc (length_suc ys x)

range_more : (k n : ℕ) → range_with_len k (suc n) ≡ range_with_len k n ++ (k + n) ∷ []
range_more k zero = ap (λ z. z ∷ []) (omega arith)
range_more k (suc n) = ap (λ z. k ∷ z) (range_more (k + 1) n ∙ ap (λ z. range_with_len (k + 1) n ++ z ∷ []) (omega arith))

le_or : (m n : ℕ) → (m ≤ n) ⊎ (m ≤ n → ⊥)
le_or zero n = inl (omega arith)
le_or (suc m) zero = inr (λ l. omega (arith, l))
le_or (suc m) (suc n) = ⊎_elim (λ (l : m ≤ n). inl (omega (arith, l))) (λ (f : m ≤ n → ⊥). inr (λ l. f (omega (arith, l)))) (le_or m n)

-- the connection is one of those that there are, or not
pub inside_or : (c n : ℕ) → ((1 ≤ c) × (c ≤ n)) ⊎ ((1 ≤ c) × (c ≤ n) → ⊥)
inside_or c n = ⊎_elim (λ (a : 1 ≤ c). ⊎_elim (λ (b : c ≤ n). inl (a, b)) (λ (f : c ≤ n → ⊥). inr (λ w. f w.1)) (le_or c n)) (λ (f : 1 ≤ c → ⊥). inr (λ w. f w.0)) (le_or 1 c)

history_by : (e after : CoreState) (c : ℕ) → ((1 ≤ c) × (c ≤ e.count)) ⊎ ((1 ≤ c) × (c ≤ e.count) → ⊥) → (after.count ≡ e.count) → ((d : ℕ) → (d ≡ c → ⊥) → after.connections d ≡ e.connections d)
    → (old new : List Commit) → IsContinued e after c (commits_told (e.connections c)) (commits_told (after.connections c)) old new
    → IsHistoryTold e old → IsHistoryTold after new
history_by e after c within count there old new (inl h) is = record {
  all = subst (IsPermutation (all_told after)) (sym h.1) (subst (λ z. IsPermutation z old) (sym same) is.all);
  numbers = subst (λ (z : List Commit). map (λ (commit : Commit). commit.number) z ≡ range_with_len 1 (length z)) (sym h.1) is.numbers;
  moments = ap length h.2 ∙ (is.moments ∙ ap length (sym h.1));
}
  where
    same : all_told after ≡ all_told e
    same = ap (λ n. flat_map (λ d. commits_told (after.connections d)) (range_with_len 1 n)) count
        ∙ same_all (λ d. commits_told (e.connections d)) (λ d. commits_told (after.connections d)) c (λ d ne. ap commits_told (there d ne)) h.0 1 e.count
history_by e after c (inr out) count there old new (inr h) is = absurd (h.6 out)
history_by e after c (inl w) count there old new (inr h) is = record {
  all = subst (IsPermutation (all_told after)) (sym h.3)
      (subst (λ n. IsPermutation (flat_map (λ d. commits_told (after.connections d)) (range_with_len 1 n)) (old ++ h.0 ∷ [])) (sym count)
      (IsPermutation-trans _ (all_told e ++ h.0 ∷ []) (old ++ h.0 ∷ [])
      (one_more (λ d. commits_told (e.connections d)) (λ d. commits_told (after.connections d)) c (λ d ne. ap commits_told (there d ne)) h.0 h.2 1 e.count (w.0, let b : c ≤ e.count = w.1 in omega (arith, b)))
      (IsPermutation-append (all_told e) old (h.0 ∷ []) (h.0 ∷ []) is.all (IsPermutation-refl (h.0 ∷ [])))));
  numbers = subst (λ (z : List Commit). map (λ (commit : Commit). commit.number) z ≡ range_with_len 1 (length z)) (sym h.3)
      (map-append (λ (commit : Commit). commit.number) old (h.0 ∷ [])
      ∙ ((λ j. is.numbers j ++ (h.4 ∙ ((λ i. is.moments i + 1) ∙ one_plus (length old))) j ∷ []) ∙ (sym (range_more 1 (length old)) ∙ ap (range_with_len 1) (sym (length_suc old h.0)))));
  moments = ap length h.5 ∙ (length_more e.moments h.1 ∙ (ap (λ n. n + 1) is.moments ∙ (sym (length_more old h.0) ∙ ap length (sym h.3))));
}
  where
    one_plus : (n : ℕ) → n + 1 ≡ 1 + n
    one_plus n = omega arith

pub history_goes_on : (e after : CoreState) (c : ℕ) → (after.count ≡ e.count) → ((d : ℕ) → (d ≡ c → ⊥) → after.connections d ≡ e.connections d)
    → (old new : List Commit) → IsContinued e after c (commits_told (e.connections c)) (commits_told (after.connections c)) old new → IsHistoryTold e old → IsHistoryTold after new
history_goes_on e after c = history_by e after c (inside_or c e.count)

-- where no connection tells of another commit
pub same_history : (e after : CoreState) (h : List Commit) → (after.count ≡ e.count) → ((d : ℕ) → commits_told (after.connections d) ≡ commits_told (e.connections d)) → after.moments ≡ e.moments → IsHistoryTold e h → IsHistoryTold after h
same_history e after h count each moments is = record {
  all = subst (λ z. IsPermutation z h) (sym (ap (λ n. flat_map (λ d. commits_told (after.connections d)) (range_with_len 1 n)) count ∙ alike 1 e.count)) is.all;
  numbers = is.numbers;
  moments = ap length moments ∙ is.moments;
}
  where
    alike : (k n : ℕ) → flat_map (λ d. commits_told (after.connections d)) (range_with_len k n) ≡ flat_map (λ d. commits_told (e.connections d)) (range_with_len k n)
    alike k zero = refl
    alike k (suc n) = λ j. each k j ++ alike (k + 1) n j

-- ---- a connection with a statement under way

pub told_working : (k : ConnectionState) (run : Run) (parts : List Part) → IsTold k parts → IsTold (record k { work = Some run; request = None }) parts
told_working k run parts told = record { goes = told.goes; open_parts = told.open_parts; opens = λ e w. absurd (no w) }
  where
    no : ◌≡◌ {A = Option Run} (Some run) None → ⊥
    no w = cc

-- at the end of its script a connection has nothing left
pub told_ended : (k : ConnectionState) (parts : List Part) → k.left ≡ [] → IsTold (record k { has_ended = true }) parts
told_ended k parts none = record { goes = λ s m e. absurd (no s m k.left none e); open_parts = λ e. absurd (ended e); opens = λ e w. absurd (ended e) }
  where
    no : (s : Span) (m left : List Span) → left ≡ [] → left ≡ s ∷ m → ⊥
    no s m left a b = cc

    ended : true ≡ false → ⊥
    ended e = cc

-- ---- what the entries tell is plain

-- nothing is told anew, or an entry that is plain
abbrev pub AddsPlain : Catalog → ConnectionState → ConnectionState → Type 0
AddsPlain cat old new = (parts_told new ≡ parts_told old) ⊎ ((p : Part) × (parts_told new ≡ parts_told old ++ p ∷ []) × Plain 3 cat p)

take_whole : {A : Type 0} (xs : List A) (x : A) (count : ℕ) → count ≤ length xs → take count (xs ++ x ∷ []) ≡ take count xs
take_whole xs x zero l = refl
take_whole [] x (suc count) l = absurd (omega (arith, l))
take_whole (y ∷ ys) x (suc count) l = ap (λ z. y ∷ z) (take_whole ys x count (omega (arith, l)))

plain_longer : (base : Tables) (old : List Commit) (x : Commit) (p : Part) → PlainAfterSome 3 base old p → PlainAfterSome 3 base (old ++ x ∷ []) p
plain_longer base old x p k = (
  k.0,
  (let l : k.0 ≤ length old = k.1 in let m : length (old ++ x ∷ []) ≡ length old + 1 = length_more old x in omega (arith, l, m)),
  subst (λ h. Plain 3 (catalog_of (unwrap_or (apply_all (effects h) base) base)) p) (sym (take_whole old x k.0 k.1)) k.2,
)

-- where the connection's entries are plain by the history so far, so they are then
pub adds_plain : (base : Tables) (old : List Commit) (cat : Catalog) → catalog_of (after base old (length old)) ≡ cat → (k new : ConnectionState) → AddsPlain cat k new
    → ((p : Part) → Has p (parts_told k) → PlainAfterSome 3 base old p) → (p : Part) → Has p (parts_told new) → PlainAfterSome 3 base old p
adds_plain base old cat is k new (inl same) plain p m = plain p (subst (Has p) same m)
adds_plain base old cat is k new (inr a) plain p m = ⊎_elim
    (λ (h : Has p (parts_told k)). plain p h)
    (λ (h : Has p (a.0 ∷ [])). ⊎_elim
    (λ (e : a.0 ≡ p). subst (PlainAfterSome 3 base old) e (length old, le_self (length old), subst (λ z. Plain 3 z a.0) (sym is) a.2))
    (λ n. absurd n)
    h)
    (has_cases p (parts_told k) (a.0 ∷ []) (subst (Has p) a.1 m))
  where
    le_self : (n : ℕ) → n ≤ n
    le_self n = omega arith

pub plain_goes_on : (e after_it : CoreState) (c : ℕ) (cat : Catalog) (old new : List Commit) → after_it.base ≡ e.base → ((d : ℕ) → (d ≡ c → ⊥) → after_it.connections d ≡ e.connections d)
    → catalog_of (after e.base old (length old)) ≡ cat → AddsPlain cat (e.connections c) (after_it.connections c) → IsContinued e after_it c (commits_told (e.connections c)) (commits_told (after_it.connections c)) old new
    → ArePlainTold e old → ArePlainTold after_it new
plain_goes_on e after_it c cat old new base there is adds more plain d p m =
    subst (λ z. PlainAfterSome 3 z new p) (sym base) (longer more (⊎_elim
    (λ (s : d ≡ c). adds_plain e.base old cat is (e.connections c) (after_it.connections c) adds (plain c) p (subst (λ n. Has p (parts_told (after_it.connections n))) s m))
    (λ (ne : d ≡ c → ⊥). plain d p (subst (λ (z : ConnectionState). Has p (parts_told z)) (there d ne) m))
    (cases_eq d c)))
  where
    longer : IsContinued e after_it c (commits_told (e.connections c)) (commits_told (after_it.connections c)) old new → PlainAfterSome 3 e.base old p → PlainAfterSome 3 e.base new p
    longer (inl h) k = subst (λ z. PlainAfterSome 3 e.base z p) (sym h.1) k
    longer (inr h) k = subst (λ z. PlainAfterSome 3 e.base z p) (sym h.3) (plain_longer e.base old h.0 p k)
