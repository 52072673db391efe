-- How a session goes on by a statement, and how it stops.
use Rattle.std.proofs.Common.{◌≡◌, ◌≢◌, ⊎_elim, ℕ, ◌+◌, ◌≤◌, List, [], ◌∷◌, ◌++◌, length, map, replicate, None, Some, refl, sym, ◌∙◌, ap, subst, arith, append-nil, length-append}
use Rattle.std.proofs.lemmas.List.{length-map, map-append}
use Rattle.wat_conn.specs.declared.answer.Reason.{Reason}
use Rattle.wat_conn.specs.declared.answer.Reason.TheVariants.{DiskFault, Memory}
use Rattle.wat_disk.specs.Disk.{Told, SameOthers, MakesAtMost}
use Rattle.wat_faults.specs.Faults.{HasCause, Rose}
use Rattle.wat_stops.specs.Moments.{AreMoments, last_moment, moment_after, moments_after}
use Rattle.wat_stops.proofs.MomentsLemmas.{no_moments, moments_later, moments_more, last_more, moments_after-push}
use Rattle.wat_schema.specs.Tables.{Tables}
use Rattle.wat_commit_log.specs.Logged.{Transaction, Restarts}
use Rattle.wat_alone.specs.Committing.{framed, saved}
use Rattle.wat_session.specs.Saving.{MayStop, frame_calls, moment_by}
use Rattle.wat_session.specs.Session.{HasCommitted, Setting, commit_calls, tables_after}

-- a session whose log was open at entry
abbrev pub under_way : Type 0 → Told → ℕ → Tables → Told → Setting
under_way tells entry file base now = record { tells = tells; entry = entry; now = now; start = entry.moment; file = file; base = base }

-- one number of calls for each
calls_push : (start : ℕ) (history : List Transaction) (t : Transaction) → moments_after start (map commit_calls (history ++ t ∷ []))
    ≡ moments_after start (map commit_calls history) ++ moment_after (last_moment start (moments_after start (map commit_calls history))) (commit_calls t) ∷ []
calls_push start history t = ap (moments_after start) (map-append commit_calls history (t ∷ [])) ∙ moments_after-push start (map commit_calls history) (commit_calls t)

pub map_const : {A : Type 0} (more : List A) (x : ℕ) → map (λ _. x) more ≡ replicate (length more) x
map_const [] x = refl
map_const (a ∷ more) x = ap (λ (l : List ℕ). x ∷ l) (map_const more x)

-- the calls of one transaction
calls_of_one : (t : Transaction) (mid now : ℕ) → now ≡ moment_by (saved (t ∷ [])) mid → now ≡ moment_after mid (commit_calls t)
calls_of_one t mid now is = is ∙ ap (λ (l : List Transaction). moment_after mid (frame_calls l)) (append-nil (framed t))

-- the moments after one more statement are those after its commit's calls
noted_more : (start mid now : ℕ) (moments : List ℕ) (history more : List Transaction) → length more ≤ 1
    → moments ≡ moments_after start (map commit_calls history) → mid ≡ last_moment start moments → now ≡ moment_by (saved more) mid
    → moments ++ map (λ _. now) more ≡ moments_after start (map commit_calls (history ++ more))
noted_more start mid now moments history [] few noted last calls =
    append-nil moments ∙ noted ∙ ap (λ (h : List Transaction). moments_after start (map commit_calls h)) (sym (append-nil history))
noted_more start mid now moments history (t ∷ []) few noted last calls =
    (λ j. noted j ++ (calls_of_one t mid now calls ∙ ap (λ (m : ℕ). moment_after m (commit_calls t)) (last ∙ ap (last_moment start) noted)) j ∷ []) ∙ sym (calls_push start history t)
noted_more start mid now moments history (t ∷ u ∷ more) few noted last calls = absurd (omega arith)

-- where nothing is committed, no call is made
no_commit : (more : List Transaction) (mid now : ℕ) → now ≡ moment_by (saved more) mid → length more ≡ 0 → now ≡ mid
no_commit [] mid now is none = is
no_commit (t ∷ more) mid now is none = absurd (omega (arith, none))

module _ (tells : Type 0) (entry : Told) (file : ℕ) (base : Tables) where
  pub begins : (tells → Restarts (entry.content file) base) → HasCommitted (under_way tells entry file base entry) [] [] None []
  begins restarts = record {
    commits = refl;
    order = no_moments entry.moment entry.moment;
    noted = refl;
    calls = λ well. refl;
    cut_calls = λ none. cc;
    reason = tt;
    disk_fault = λ none. cc;
    at_commit = λ none. cc;
    never_falls = omega arith;
    faults_stay = λ well. refl;
    others = λ other not_it. refl;
    kept = λ t none. restarts t;
  }

  pub goes_on : (mid new : Told) (history more : List Transaction) (failed : Type 0) (moments new_moments : List ℕ) → length more ≤ 1
      → HasCommitted (under_way tells entry file base mid) history [] None moments → entry.moment ≤ mid.moment → mid.moment ≤ new.moment → HasCause mid.faults new.faults failed → (failed → ⊥) → SameOthers file mid.content new.content
      → new_moments ≡ moments ++ map (λ _. new.moment) more
      → (tells → Restarts (new.content file) (tables_after base (history ++ more)))
      → new.moment ≡ moment_by (saved more) mid.moment → HasCommitted (under_way tells entry file base new) (history ++ more) [] None new_moments
  goes_on mid new history more failed moments new_moments few old later then cause well others noted restarts calls =
      let last : mid.moment ≡ last_moment entry.moment moments = old.calls (λ fault. cc) in
      let replicated : new_moments ≡ moments ++ replicate (length more) new.moment = noted ∙ ap (λ (l : List ℕ). moments ++ l) (map_const more new.moment) in
      record {
        commits = ap length noted ∙ length-append moments (map (λ _. new.moment) more) ∙ (λ j. old.commits j + length-map more (λ _. new.moment) j) ∙ sym (length-append history more);
        order = subst (AreMoments entry.moment new.moment) (sym replicated) (moments_more entry.moment new.moment moments (length more) few (omega (arith, later, then)) (moments_later entry.moment mid.moment new.moment moments then old.order));
        noted = noted ∙ noted_more entry.moment mid.moment new.moment moments history more few old.noted last calls;
        calls = λ well. last_more entry.moment mid.moment new.moment moments (length more) few last (no_commit more mid.moment new.moment calls) ∙ ap (last_moment entry.moment) (sym replicated);
        cut_calls = λ none. cc;
        reason = tt;
        disk_fault = λ none. cc;
        at_commit = λ none. cc;
        never_falls = omega (arith, old.never_falls, cause.later);
        faults_stay = λ none. cause.kept well ∙ old.faults_stay (λ fault. cc);
        others = λ other not_it. others other not_it ∙ old.others other not_it;
        kept = λ t none. restarts t;
      }

  some_is : (a b : Reason) → Some a ≡ Some b → a ≡ b
  some_is a b is = cc

  other_reason : (reason : Reason) → MayStop reason → Some reason ≢ Some DiskFault → reason ≡ Memory
  other_reason reason may well = ⊎_elim (λ (fault : reason ≡ DiskFault). absurd (well (ap Some fault))) (λ (memory : reason ≡ Memory). memory) may

  rose_later : (before mid now : ℕ) → before ≤ mid → Rose mid now → Rose before now
  rose_later before mid now first then = omega (arith, first, then)

  pub stops_here : (mid new : Told) (history cut : List Transaction) (reason : Reason) (failed : Type 0) (moments new_moments : List ℕ) → MayStop reason
      → HasCommitted (under_way tells entry file base mid) history [] None moments → MakesAtMost 4 mid new → HasCause mid.faults new.faults failed → (reason ≡ DiskFault → failed) → (failed → reason ≡ DiskFault)
      → (reason ≡ Memory → new.moment ≡ mid.moment) → SameOthers file mid.content new.content → new_moments ≡ moments
      → (reason ≡ DiskFault → saved cut ≢ []) → HasCommitted (under_way tells entry file base new) history cut (Some reason) new_moments
  stops_here mid new history cut reason failed moments new_moments may old few cause is_failed is_fault memory others same some =
      let last : mid.moment ≡ last_moment entry.moment moments = old.calls (λ fault. cc) in
      record {
        commits = ap length same ∙ old.commits;
        order = subst (AreMoments entry.moment new.moment) (sym same) (moments_later entry.moment mid.moment new.moment moments few.later old.order);
        noted = same ∙ old.noted;
        calls = λ well. memory (other_reason reason may well) ∙ last ∙ ap (last_moment entry.moment) (sym same);
        cut_calls = λ fault. subst (λ (l : List ℕ). new.moment ≤ last_moment entry.moment l + 4) (sym same) (omega (arith, few.at_most, last));
        reason = may;
        disk_fault = λ fault. rose_later entry.faults mid.faults new.faults old.never_falls (cause.rose (is_failed (some_is reason DiskFault fault)));
        at_commit = λ fault. some (some_is reason DiskFault fault);
        never_falls = omega (arith, old.never_falls, cause.later);
        faults_stay = λ well. cause.kept (λ fails. well (ap Some (is_fault fails))) ∙ old.faults_stay (λ fault. cc);
        others = λ other not_it. others other not_it ∙ old.others other not_it;
        kept = λ t none. cc;
      }
