-- Requests of waiting connections never form a cycle.
use Rattle.std.proofs.Common.{◌≡◌, ◌≢◌, ℕ, ◌<◌, List, [], ◌∷◌, ◌++◌, map, sym, ◌∙◌, ap, subst, inl, inr, ⊎_elim, ◌⊎◌, arith}
use Rattle.std.proofs.lemmas.Bool.{cases_order}
use Rattle.wat_list.specs.Has.{Has, IsOnce}
use Rattle.wat_locks.specs.declared.want.Want.{Want}
use Rattle.wat_locks.specs.declared.held.Held.{Held}
use Rattle.wat_locks.specs.Held.{Adds, entry}
use Rattle.wat_list.proofs.Members.{has_cases, has_map}
use Rattle.wat_cycle.specs.declared.request.Request.{Request}
use Rattle.wat_cycle.specs.Walk.{IsWalk, IsCycle}
use Rattle.wat_cycle.specs.Waits.{Blocks, IsAcyclic, SameElsewhere, HasFewer}
use Rattle.wat_cycle.proofs.WalkLemmas.{Has_split, walk_join, walk_cut}

same_or_not : (x y : ℕ) → (x ≡ y) ⊎ (x ≢ y)
same_or_not x y =
    ⊎_elim (λ e. inl e) (λ d. ⊎_elim (λ (l : x < y). inr (λ e. omega arith)) (λ (l : y < x). inr (λ e. omega arith)) d) (cases_order x y)

has_or_not : (x : ℕ) (xs : List ℕ) → Has x xs ⊎ (Has x xs → ⊥)
has_or_not x [] = inr (λ h. h)
has_or_not x (y ∷ xs) =
    ⊎_elim
    (λ (e : y ≡ x). inl (inl e))
    (λ n. ⊎_elim (λ h. inl (inr h)) (λ m. inr (λ h. ⊎_elim (λ (e : y ≡ x). n e) (λ r. m r) h)) (has_or_not x xs))
    (same_or_not y x)

once_end : (ls : List ℕ) (x : ℕ) (rs : List ℕ) → IsOnce (ls ++ x ∷ rs) → IsOnce (x ∷ rs)
once_end [] x rs once = once
once_end (l ∷ ls) x rs once = once_end ls x rs once.1

-- of any walk a part meets no connection twice
pub walk_once : (E : ℕ → ℕ → Type 0) (a : ℕ) (cs : List ℕ) (b : ℕ) → IsWalk E a cs b → (ds : List ℕ) × IsWalk E a ds b × IsOnce (a ∷ ds)
walk_once E a [] b walk = ([], walk, (λ h. h, tt))
walk_once E a (x ∷ xs) b walk = by (walk_once E x xs b walk.1)
  where
    by : ((ds : List ℕ) × IsWalk E x ds b × IsOnce (x ∷ ds)) → (ds : List ℕ) × IsWalk E a ds b × IsOnce (a ∷ ds)
    by rest =
        ⊎_elim
        (λ (h : Has a (x ∷ rest.0)).
        let parts = Has_split a (x ∷ rest.0) h in
        let whole = subst (λ (zs : List ℕ). IsWalk E a zs b) parts.2 (walk.0, rest.1) in
        (parts.1, (walk_cut E a parts.0 a parts.1 b whole).1, once_end parts.0 a parts.1 (subst (λ (zs : List ℕ). IsOnce zs) parts.2 rest.2)))
        (λ n. (x ∷ rest.0, (walk.0, rest.1), (n, rest.2)))
        (has_or_not a (x ∷ rest.0))

-- a walk that leads back has a cycle
pub cycle_of_walk : (E : ℕ → ℕ → Type 0) (c : ℕ) (cs : List ℕ) → IsWalk E c cs c → (ds : List ℕ) × IsCycle E c ds
cycle_of_walk E c cs walk = let found = walk_once E c cs c walk in (found.0, (found.1, found.2))

-- a walk that leads back may begin at any of its members
turned : (E : ℕ → ℕ → Type 0) (a : ℕ) (cs : List ℕ) (c : ℕ) → IsWalk E a cs a → Has c cs → (ds : List ℕ) × IsWalk E c ds c
turned E a cs c walk h =
    let parts = Has_split c cs h in
    let both = walk_cut E a parts.0 c parts.1 a (subst (λ (zs : List ℕ). IsWalk E a zs a) parts.2 walk) in
    (parts.1 ++ a ∷ parts.0, walk_join E c parts.1 a parts.0 c both.1 both.0)

-- a walk that does not meet c, where the relation grew at c alone
elsewhere : (E F : ℕ → ℕ → Type 0) (c : ℕ) → ((x y : ℕ) → x ≢ c → y ≢ c → F x y → E x y) → (a : ℕ) (cs : List ℕ) (b : ℕ) → a ≢ c → (Has c cs → ⊥) → b ≢ c → IsWalk F a cs b → IsWalk E a cs b
elsewhere E F c same a [] b n m o walk = same a b n o walk
elsewhere E F c same a (x ∷ xs) b n m o walk =
    let x_not : x ≢ c = λ e. m (inl e) in
    (same a x n x_not walk.0, elsewhere E F c same x xs b x_not (λ h. m (inr h)) o walk.1)

-- where the relation grew at c alone, and no walk leads from c back to c, there is no new cycle
pub grows_at : (E F : ℕ → ℕ → Type 0) (c : ℕ) → ((x y : ℕ) → x ≢ c → y ≢ c → F x y → E x y) → ((cs : List ℕ) → IsCycle F c cs → ⊥) → ((a : ℕ) (cs : List ℕ) → IsCycle E a cs → ⊥) → (a : ℕ) (cs : List ℕ) → IsCycle F a cs → ⊥
grows_at E F c same none before a cs cycle =
    ⊎_elim
    (λ (e : a ≡ c). none cs (subst (λ (x : ℕ). IsCycle F x cs) e cycle))
    (λ n. ⊎_elim
    (λ (h : Has c cs). let back = turned F a cs c cycle.0 h in let found = cycle_of_walk F c back.0 back.1 in none found.0 found.1)
    (λ m. before a cs (elsewhere E F c same a cs a n m n cycle.0, cycle.1))
    (has_or_not c cs))
    (same_or_not a c)

fewer : (E F : ℕ → ℕ → Type 0) → ((x y : ℕ) → F x y → E x y) → (a : ℕ) (cs : List ℕ) (b : ℕ) → IsWalk F a cs b → IsWalk E a cs b
fewer E F less a [] b walk = less a b walk
fewer E F less a (x ∷ xs) b walk = (less a x walk.0, fewer E F less x xs b walk.1)

-- waiting: a request that closes no cycle is kept
pub waiting_acyclic : (held : List Held) (old new : List Request) (conn : ℕ) → SameElsewhere old new conn → ((cs : List ℕ) → IsCycle (Blocks held new) conn cs → ⊥) → IsAcyclic held old → IsAcyclic held new
waiting_acyclic held old new conn same none before = grows_at (Blocks held old) (Blocks held new) conn others none before
  where
    others : (x y : ℕ) → x ≢ conn → y ≢ conn → Blocks held new x y → Blocks held old x y
    others x y n m b = (b.0, b.1, b.2, same b.0 (λ e. n (sym b.4 ∙ e)) b.3, b.4, b.5, b.6, b.7, b.8)

-- granted: the connection gets locks and has no request
pub granted_acyclic : (before after : List Held) (old new : List Request) (conn : ℕ) (wants : List Want) → Adds before after conn wants → SameElsewhere old new conn → ((r : Request) → Has r new → r.conn ≢ conn) → IsAcyclic before old → IsAcyclic after new
granted_acyclic before after old new conn wants adds same gone acyclic = grows_at (Blocks before old) (Blocks after new) conn others none acyclic
  where
    leads : (y : ℕ) → Blocks after new conn y → ⊥
    leads y b = gone b.0 b.3 b.4

    none : (cs : List ℕ) → IsCycle (Blocks after new) conn cs → ⊥
    none [] cycle = leads conn cycle.0
    none (x ∷ xs) cycle = leads x cycle.0.0

    others : (x y : ℕ) → x ≢ conn → y ≢ conn → Blocks after new x y → Blocks before old x y
    others x y n m b =
        let there : Has b.2 before = ⊎_elim (λ (p : Has b.2 before). p) (λ q. let made = has_map (entry conn) b.2 wants q in absurd (m (sym b.7 ∙ ap (λ (h : Held). h.conn) (sym made.2)))) (has_cases b.2 before (map (entry conn) wants) ((adds b.2).0 b.6)) in
        (b.0, b.1, b.2, same b.0 (λ e. n (sym b.4 ∙ e)) b.3, b.4, b.5, there, b.7, b.8)

-- freed: locks go, and requests go
pub freed_acyclic : (before after : List Held) (old new : List Request) → HasFewer before after → HasFewer old new → IsAcyclic before old → IsAcyclic after new
freed_acyclic before after old new frees gone acyclic c cs cycle =
    acyclic c cs (fewer (Blocks before old) (Blocks after new) (λ x y b. (b.0, b.1, b.2, gone b.0 b.3, b.4, b.5, frees b.2 b.6, b.7, b.8)) c cs c cycle.0, cycle.1)
