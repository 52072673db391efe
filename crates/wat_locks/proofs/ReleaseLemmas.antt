-- What is left after a release.
use Rattle.std.proofs.Common.{◌≡◌, ℕ, Bool, true, false, not, List, filter, refl, sym, ap, subst, Option, Some, None}
use Rattle.std.specs.Prelude.{◌↔◌, ◌==◌}
use Rattle.std.proofs.lemmas.Bool.{and_parts, eqb-true, eq-eqb}
use Rattle.wat_list.specs.Has.{Has, IsOnce}
use Rattle.wat_locks.specs.declared.held.Held.{Held}
use Rattle.wat_locks.specs.Held.{Frees, Compatible, is_for}
use Rattle.wat_locks.specs.Tables.{is_freed}
use Rattle.wat_list.proofs.Members.{filter_has, has_filter}
use Rattle.wat_list.proofs.Once.{once_filter}
use Rattle.wat_locks.proofs.HeldLemmas.{compatible_frees}

-- the entries that pass the test are gone, and the others stay
pub filter_frees : (p : Held → Bool) (P : Held → Type 0) (old new : List Held) → ((h : Held) → (p h ≡ true) ↔ P h) → new ≡ filter (λ h. not (p h)) old → Frees old new P
filter_frees p P old new says is =
    subst (λ (hs : List Held). Frees old hs P) (sym is)
    (λ h. (
      λ there. let both = has_filter (λ h. not (p h)) h old there in
          (both.0, λ q. let yes : p h ≡ true = (says h).1 q in let no : not (p h) ≡ true = both.1 in absurd (both_ways (p h) yes no)),
      λ both. by h (p h) refl both.0 both.1,
    ))
  where
    both_ways : (b : Bool) → b ≡ true → not b ≡ true → ⊥
    both_ways true e f = cc
    both_ways false e f = cc

    by : (h : Held) (b : Bool) → p h ≡ b → Has h old → (P h → ⊥) → Has h (filter (λ h. not (p h)) old)
    by h true e there n = absurd (n ((says h).0 e))
    by h false e there n = filter_has (λ h. not (p h)) h old there (ap not e)

pub lawful_frees : (p : Held → Bool) (P : Held → Type 0) (old new : List Held) → ((h : Held) → (p h ≡ true) ↔ P h) → new ≡ filter (λ h. not (p h)) old → Compatible old × IsOnce old → Compatible new × IsOnce new
lawful_frees p P old new says is lawful =
    (compatible_frees old new P lawful.0 (filter_frees p P old new says is), subst IsOnce (sym is) (once_filter (λ h. not (p h)) old lawful.1))

pub all_says : (conn : ℕ) (h : Held) → (is_freed conn None h ≡ true) ↔ (h.conn ≡ conn)
all_says conn h = (λ e. eqb-true h.conn conn e, λ e. eq-eqb h.conn conn e)

is_for_says : (scan : ℕ) (o : Option ℕ) → (is_for scan o ≡ true) ↔ (o ≡ Some scan)
is_for_says scan None = (λ e. absurd (cc), λ e. absurd (cc))
is_for_says scan (Some other) = (λ e. ap Some (eqb-true other scan e), λ e. let s : other ≡ scan = cc in eq-eqb other scan s)

pub short_says : (conn scan : ℕ) (h : Held) → (is_freed conn (Some scan) h ≡ true) ↔ ((h.conn ≡ conn) × (h.short ≡ Some scan))
short_says conn scan h = (
  λ e. let both = and_parts (h.conn == conn) (is_for scan h.short) e in (eqb-true h.conn conn both.0, (is_for_says scan h.short).0 both.1),
  λ both. let a : (h.conn == conn) ≡ true = eq-eqb h.conn conn both.0 in let b : is_for scan h.short ≡ true = (is_for_says scan h.short).1 both.1 in rw (a, b),
)
