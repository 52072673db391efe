-- Moments, and one more that is noted now.
use Rattle.std.proofs.Common.{◌≡◌, ⊎_elim, ℕ, zero, suc, ◌+◌, ◌<◌, ◌≤◌, List, [], ◌∷◌, ◌++◌, length, replicate, refl, sym, ◌∙◌, ap, subst, arith, append-nil}
use Rattle.std.proofs.lemmas.List.{get_or_append_left, get_or_push, length_push}
use Rattle.std.proofs.lemmas.Bool.{cases_lt}
use Rattle.wat_stops.specs.Moments.{last_moment, moment_after, moments_after, AreMoments}

pub no_moments : (entry now : ℕ) → AreMoments entry now []
no_moments entry now = record { ascending = λ i k le within. absurd (omega arith); after_entry = λ k within. absurd (omega arith); past = λ k within. absurd (omega arith) }

-- the disk's moment is later
pub moments_later : (entry mid now : ℕ) (moments : List ℕ) → mid ≤ now → AreMoments entry mid moments → AreMoments entry now moments
moments_later entry mid now moments later are = record {
  ascending = are.ascending;
  after_entry = are.after_entry;
  past = λ k within. omega (arith, are.past k within, later);
}

-- the session began earlier
pub moments_earlier : (before entry now : ℕ) (moments : List ℕ) → before ≤ entry → AreMoments entry now moments → AreMoments before now moments
moments_earlier before entry now moments earlier are = record {
  ascending = are.ascending;
  after_entry = λ k within. omega (arith, are.after_entry k within, earlier);
  past = are.past;
}

moment_more : (entry now : ℕ) (moments : List ℕ) → entry ≤ now → AreMoments entry now moments → AreMoments entry now (moments ++ now ∷ [])
moment_more entry now moments later are =
    let old = λ (k : ℕ) (within : k < length moments). get_or_append_left moments (now ∷ []) 0 k within in
    let last = λ (k : ℕ) (is : length moments ≡ k). get_or_push moments now 0 k is in
    let many = length_push moments now in
    record {
      ascending = λ i k le within. ⊎_elim
          (λ (before : k < length moments). omega (arith, old i (omega arith), old k before, are.ascending i k le before))
          (λ (newest : length moments ≤ k). ⊎_elim
          (λ (before : i < length moments). omega (arith, old i before, last k (omega (arith, many)), are.past i before))
          (λ (both : length moments ≤ i). omega (arith, last i (omega (arith, many)), last k (omega (arith, many))))
          (cases_lt i (length moments)))
          (cases_lt k (length moments));
      after_entry = λ k within. ⊎_elim
          (λ (before : k < length moments). omega (arith, old k before, are.after_entry k before))
          (λ (newest : length moments ≤ k). omega (arith, last k (omega (arith, many))))
          (cases_lt k (length moments));
      past = λ k within. ⊎_elim
          (λ (before : k < length moments). omega (arith, old k before, are.past k before))
          (λ (newest : length moments ≤ k). omega (arith, last k (omega (arith, many))))
          (cases_lt k (length moments));
    }

-- so many commits are acknowledged now, one or none
pub moments_more : (entry now : ℕ) (moments : List ℕ) (more : ℕ) → more ≤ 1 → entry ≤ now → AreMoments entry now moments → AreMoments entry now (moments ++ replicate more now)
moments_more entry now moments zero few later are = subst (AreMoments entry now) (sym (append-nil moments)) are
moments_more entry now moments (suc zero) few later are = moment_more entry now moments later are
moments_more entry now moments (suc (suc more)) few later are = absurd (omega arith)

last_push : (entry : ℕ) (moments : List ℕ) (now : ℕ) → last_moment entry (moments ++ now ∷ []) ≡ now
last_push entry [] now = refl
last_push entry (m ∷ moments) now = last_push m moments now

-- the last moment is that of the disk, where calls were made for a commit alone
pub last_more : (entry mid now : ℕ) (moments : List ℕ) (more : ℕ) → more ≤ 1 → mid ≡ last_moment entry moments → (more ≡ 0 → now ≡ mid) → now ≡ last_moment entry (moments ++ replicate more now)
last_more entry mid now moments zero few is quiet = quiet refl ∙ is ∙ ap (last_moment entry) (sym (append-nil moments))
last_more entry mid now moments (suc zero) few is quiet = sym (last_push entry moments now)
last_more entry mid now moments (suc (suc more)) few is quiet = absurd (omega arith)

-- one more number of calls
pub moments_after-push : (start : ℕ) (calls : List ℕ) (n : ℕ) → moments_after start (calls ++ n ∷ []) ≡ moments_after start calls ++ moment_after (last_moment start (moments_after start calls)) n ∷ []
moments_after-push start [] n = refl
moments_after-push start (m ∷ calls) n = ap (λ (l : List ℕ). moment_after start m ∷ l) (moments_after-push (moment_after start m) calls n)
