-- The named conflict, and the locks after a step.
use Rattle.std.proofs.Common.{◌≡◌, ℕ, ◌<◌, List, [], ◌∷◌, map, refl, sym, ◌∙◌, ap, subst, inl, inr, ⊎_elim, ◌⊎◌, arith}
use Rattle.std.specs.Prelude.{IsTrue}
use Rattle.wat_list.specs.Has.{Has, HasSame}
use Rattle.wat_locks.specs.declared.lock.LockKind.{LockKind}
use Rattle.wat_locks.specs.declared.lock.LockKind.TheVariants.{Read, Write, Phantom, AntiPhantom}
use Rattle.wat_locks.specs.declared.lock.Lock.{Lock}
use Rattle.wat_locks.specs.declared.want.Want.{Want}
use Rattle.wat_locks.specs.declared.held.Held.{Held}
use Rattle.wat_locks.specs.declared.held.Against.{Against}
use Rattle.wat_locks.specs.Conflict.{excludes, Conflicts}
use Rattle.wat_locks.specs.Order.{kind_rank}
use Rattle.wat_locks.specs.Held.{Opposes, IsFree, AreFree, Compatible, IsNamedBefore, IsLeastOpposing, Named, against, entry, Adds, Frees}
use Rattle.wat_locks.specs.OrderLaws.{kind_level}
use Rattle.wat_list.proofs.Members.{has_cases, has_map}

excludes_back : (k l : LockKind) → IsTrue (excludes k l) → IsTrue (excludes l k)
excludes_back Read Read h = absurd (cc)
excludes_back Read Write h = refl
excludes_back Read Phantom h = absurd (cc)
excludes_back Read AntiPhantom h = absurd (cc)
excludes_back Write Read h = refl
excludes_back Write Write h = refl
excludes_back Write Phantom h = absurd (cc)
excludes_back Write AntiPhantom h = absurd (cc)
excludes_back Phantom Read h = absurd (cc)
excludes_back Phantom Write h = absurd (cc)
excludes_back Phantom Phantom h = absurd (cc)
excludes_back Phantom AntiPhantom h = refl
excludes_back AntiPhantom Read h = absurd (cc)
excludes_back AntiPhantom Write h = absurd (cc)
excludes_back AntiPhantom Phantom h = refl
excludes_back AntiPhantom AntiPhantom h = absurd (cc)

-- conflict goes both ways
pub conflicts_back : (a b : Lock) → Conflicts a b → Conflicts b a
conflicts_back a b h = (excludes_back a.kind b.kind h.0, sym h.1)

pub named_trans : (g h k : Held) → IsNamedBefore g h → IsNamedBefore h k → IsNamedBefore g k
named_trans g h k p q =
    ⊎_elim
    (λ (a : g.conn < h.conn). ⊎_elim (λ (b : h.conn < k.conn). inl (omega arith)) (λ b. inl (omega (arith, b.0))) q)
    (λ a. ⊎_elim (λ (b : h.conn < k.conn). inl (omega (arith, a.0))) (λ b. inr (a.0 ∙ b.0, omega (arith, a.1, b.1))) q)
    p

pub itself : (g h : Held) → g ≡ h → IsNamedBefore g h
itself g h e = let rank = ap (λ (x : Held). kind_rank x.lock.kind) e in inr (ap (λ (x : Held). x.conn) e, omega arith)

pub AreFree-cons : (held : List Held) (conn : ℕ) (w : Want) (ws : List Want) → IsFree held conn w.lock → AreFree held conn ws → AreFree held conn (w ∷ ws)
AreFree-cons held conn w ws free rest v h =
    ⊎_elim (λ e. subst (λ (x : Want). IsFree held conn x.lock) e free) (λ r. rest v r) h

added_cases : (old new : List Held) (conn : ℕ) (wants : List Want) → Adds old new conn wants → (h : Held) → Has h new → Has h old ⊎ ((w : Want) × Has w wants × (entry conn w ≡ h))
added_cases old new conn wants adds h there =
    ⊎_elim (λ p. inl p) (λ q. inr (has_map (entry conn) h wants q)) (has_cases h old (map (entry conn) wants) ((adds h).0 there))

-- a granted step keeps the locks compatible
pub compatible_adds : (old new : List Held) (conn : ℕ) (wants : List Want) → Compatible old → AreFree old conn wants → Adds old new conn wants → Compatible new
compatible_adds old new conn wants compatible free adds h there g where_g o =
    ⊎_elim
    (λ (p : Has h old). ⊎_elim
    (λ (q : Has g old). compatible h p g q o)
    (λ (q : (w : Want) × Has w wants × (entry conn w ≡ g)). free q.0 q.1 h p (turned q.0 (subst (λ (x : Held). Opposes h.conn h.lock x) (sym q.2) o)))
    (added_cases old new conn wants adds g where_g))
    (λ p. ⊎_elim
    (λ (q : Has g old). free p.0 p.1 g q (subst (λ (x : Held). Opposes x.conn x.lock g) (sym p.2) o))
    (λ q. o.0 (ap (λ (x : Held). x.conn) (sym q.2) ∙ ap (λ (x : Held). x.conn) p.2))
    (added_cases old new conn wants adds g where_g))
    (added_cases old new conn wants adds h there)
  where
    turned : (w : Want) → Opposes h.conn h.lock (entry conn w) → Opposes conn w.lock h
    turned w p = (λ e. p.0 (sym e), conflicts_back h.lock w.lock p.1)

-- fewer locks are compatible
pub compatible_frees : (old new : List Held) (P : Held → Type 0) → Compatible old → Frees old new P → Compatible new
compatible_frees old new P compatible frees h there g where_g o = compatible h ((frees h).0 there).0 g ((frees g).0 where_g).0 o

-- no two conflicts are named
pub named_once : (held : List Held) (conn : ℕ) (wants : List Want) (a b : Against) → Named held conn wants a → Named held conn wants b → a ≡ b
named_once held conn [] a b p q = absurd p
named_once held conn (w ∷ ws) a b p q =
    ⊎_elim
    (λ (x : (h : Held) × IsLeastOpposing held conn w.lock h × (against h ≡ a)). ⊎_elim
    (λ (y : (h : Held) × IsLeastOpposing held conn w.lock h × (against h ≡ b)). sym x.2 ∙ same_least x.0 y.0 x.1 y.1 ∙ y.2)
    (λ y. absurd (y.0 x.0 x.1.stands x.1.opposes))
    q)
    (λ x. ⊎_elim
    (λ (y : (h : Held) × IsLeastOpposing held conn w.lock h × (against h ≡ b)). absurd (x.0 y.0 y.1.stands y.1.opposes))
    (λ y. named_once held conn ws a b x.1 y.1)
    q)
    p
  where
    both_before : (g h : Held) → IsNamedBefore g h → IsNamedBefore h g → (g.conn ≡ h.conn) × (kind_rank g.lock.kind ≡ kind_rank h.lock.kind)
    both_before g h x y =
        ⊎_elim
        (λ (l : g.conn < h.conn). ⊎_elim (λ (m : h.conn < g.conn). absurd (omega arith)) (λ m. absurd (omega (arith, m.0))) y)
        (λ l. ⊎_elim (λ (m : h.conn < g.conn). absurd (omega (arith, l.0))) (λ m. (l.0, omega (arith, l.1, m.1))) y)
        x

    same_least : (g h : Held) → IsLeastOpposing held conn w.lock g → IsLeastOpposing held conn w.lock h → against g ≡ against h
    same_least g h x y =
        let both = both_before g h (x.first h y.stands y.opposes) (y.first g x.stands x.opposes) in
        let kind = kind_level g.lock.kind h.lock.kind both.1 in
        let resource = sym x.opposes.1.1 ∙ y.opposes.1.1 in
        λ i. record { holder = both.0 i; lock = record { kind = kind i; resource = resource i } }

-- what is said of the wants that are left holds of all
pub record ComesFrom (held : List Held) (conn : ℕ) (left all : List Want) : Type 0 where
  pub free : AreFree held conn left → AreFree held conn all
  pub named : (a : Against) → Named held conn left a → Named held conn all a

pub from_all : (held : List Held) (conn : ℕ) (all : List Want) → ComesFrom held conn all all
from_all held conn all = record { free = λ h. h; named = λ a h. h }

-- the first want that is left is free
pub from_rest : (held : List Held) (conn : ℕ) (w : Want) (left all : List Want) → ComesFrom held conn (w ∷ left) all → IsFree held conn w.lock → ComesFrom held conn left all
from_rest held conn w left all from is_free = record {
  free = λ h. from.free (AreFree-cons held conn w left is_free h);
  named = λ a h. from.named a (inr (is_free, h));
}

-- where a conflict is named, a wanted lock is not free
pub named_not_free : (held : List Held) (conn : ℕ) (wants : List Want) (a : Against) → Named held conn wants a → AreFree held conn wants → ⊥
named_not_free held conn [] a named free = named
named_not_free held conn (w ∷ ws) a named free =
    ⊎_elim
    (λ (x : (h : Held) × IsLeastOpposing held conn w.lock h × (against h ≡ a)). free w (inl refl) x.0 x.1.stands x.1.opposes)
    (λ x. named_not_free held conn ws a x.1 (λ v h. free v (inr h)))
    named

-- the same locks are compatible
pub compatible_same : (old new : List Held) → Compatible old → HasSame new old → Compatible new
compatible_same old new compatible same h there g where_g o = compatible h ((same h).0 there) g ((same g).0 where_g) o
