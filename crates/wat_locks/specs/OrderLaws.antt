-- The orders of resources and of locks are total, and only the same are level in them.
use Rattle.std.proofs.Common.{◌≡◌, ℕ, refl, subst}
use Rattle.std.specs.declared.cmp.Ordering.{Ordering}
use Rattle.std.specs.declared.cmp.Ordering.TheVariants.{Less, Equal, Greater}
use Rattle.std.specs.Ordering.{nat_cmp, on, then_cmp, ordering_then}
use Rattle.std.specs.Cmp.{IsTotalOrder, then_total, on_total, nat_cmp_total, tied_itself}
use Rattle.std.specs.FinMap.{nat_cmp-IsAntisymmetric}
use Rattle.wat_value.specs.declared.place.Place.{Place}
use Rattle.wat_value.specs.declared.place.Place.TheVariants.{At}
use Rattle.wat_value.specs.Order.{key_cmp, place_cmp}
use Rattle.wat_value.specs.OrderLaws.{place_cmp_total, place_cmp_level, key_cmp_level}
use Rattle.wat_locks.specs.declared.lock.LockKind.{LockKind}
use Rattle.wat_locks.specs.declared.lock.LockKind.TheVariants.{Read, Write, Phantom, AntiPhantom}
use Rattle.wat_locks.specs.declared.lock.Resource.{Resource}
use Rattle.wat_locks.specs.declared.lock.Resource.TheVariants.{Row, Gap}
use Rattle.wat_locks.specs.declared.lock.Lock.{Lock}
use Rattle.wat_locks.specs.Order.{kind_rank, kind_cmp, resource_cmp, lock_cmp}

then-then : (o p q : Ordering) → ordering_then o (ordering_then p q) ≡ ordering_then (ordering_then o p) q
then-then Less p q = refl
then-then Equal p q = refl
then-then Greater p q = refl

then_level : (o p : Ordering) → ordering_then o p ≡ Equal → (o ≡ Equal) × (p ≡ Equal)
then_level Less p e = absurd (cc)
then_level Equal p e = (refl, e)
then_level Greater p e = absurd (cc)

abbrev resource_rank : Resource → ℕ
resource_rank (Row t x) = 0
resource_rank (Gap t i p) = 1

abbrev table_of : Resource → ℕ
table_of (Row t x) = t
table_of (Gap t i p) = t

abbrev index_of : Resource → ℕ
index_of (Row t x) = 0
index_of (Gap t i p) = i

abbrev place_of : Resource → Place
place_of (Row t x) = At x
place_of (Gap t i p) = p

-- rows first, then by table, index and place
abbrev by_parts : Resource → Resource → Ordering
by_parts = then_cmp (on resource_rank nat_cmp) (then_cmp (on table_of nat_cmp) (then_cmp (on index_of nat_cmp) (on place_of place_cmp)))

by_parts-is : (r s : Resource) → by_parts r s ≡ resource_cmp r s
by_parts-is (Row t x) (Row u y) = refl
by_parts-is (Row t x) (Gap u j q) = refl
by_parts-is (Gap t i p) (Row u y) = refl
by_parts-is (Gap t i p) (Gap u j q) = then-then (nat_cmp t u) (nat_cmp i j) (place_cmp p q)

pub resource_cmp_total : IsTotalOrder resource_cmp
resource_cmp_total =
    subst IsTotalOrder (λ i r s. by_parts-is r s i)
    (then_total (on_total resource_rank nat_cmp_total) (then_total (on_total table_of nat_cmp_total) (then_total (on_total index_of nat_cmp_total) (on_total place_of place_cmp_total))))

pub lock_cmp_total : IsTotalOrder lock_cmp
lock_cmp_total = then_total (on_total (λ (l : Lock). l.resource) resource_cmp_total) (on_total (λ (l : Lock). kind_rank l.kind) nat_cmp_total)

pub resource_level : (r s : Resource) → resource_cmp r s ≡ Equal → r ≡ s
resource_level (Row t x) (Row u y) e =
    let both = then_level (nat_cmp t u) (key_cmp x y) e in
    let table : t ≡ u = nat_cmp-IsAntisymmetric t u both.0 in
    let key : x ≡ y = key_cmp_level x y both.1 in cc
resource_level (Row t x) (Gap u j q) e = absurd (cc)
resource_level (Gap t i p) (Row u y) e = absurd (cc)
resource_level (Gap t i p) (Gap u j q) e =
    let last = then_level (ordering_then (nat_cmp t u) (nat_cmp i j)) (place_cmp p q) e in
    let front = then_level (nat_cmp t u) (nat_cmp i j) last.0 in
    let table : t ≡ u = nat_cmp-IsAntisymmetric t u front.0 in
    let index : i ≡ j = nat_cmp-IsAntisymmetric i j front.1 in
    let place : p ≡ q = place_cmp_level p q last.1 in cc

pub resource_itself : (r s : Resource) → r ≡ s → resource_cmp r s ≡ Equal
resource_itself r s e = subst (λ (x : Resource). resource_cmp r x ≡ Equal) e (tied_itself resource_cmp_total r)

pub kind_level : (k l : LockKind) → kind_rank k ≡ kind_rank l → k ≡ l
kind_level Read Read e = refl
kind_level Read Write e = absurd (cc)
kind_level Read Phantom e = absurd (cc)
kind_level Read AntiPhantom e = absurd (cc)
kind_level Write Read e = absurd (cc)
kind_level Write Write e = refl
kind_level Write Phantom e = absurd (cc)
kind_level Write AntiPhantom e = absurd (cc)
kind_level Phantom Read e = absurd (cc)
kind_level Phantom Write e = absurd (cc)
kind_level Phantom Phantom e = refl
kind_level Phantom AntiPhantom e = absurd (cc)
kind_level AntiPhantom Read e = absurd (cc)
kind_level AntiPhantom Write e = absurd (cc)
kind_level AntiPhantom Phantom e = absurd (cc)
kind_level AntiPhantom AntiPhantom e = refl

pub lock_level : (a b : Lock) → lock_cmp a b ≡ Equal → a ≡ b
lock_level a b e =
    let both = then_level (resource_cmp a.resource b.resource) (kind_cmp a.kind b.kind) e in
    let resource : a.resource ≡ b.resource = resource_level a.resource b.resource both.0 in
    let kind : a.kind ≡ b.kind = kind_level a.kind b.kind (nat_cmp-IsAntisymmetric (kind_rank a.kind) (kind_rank b.kind) both.1) in
    λ i. record { kind = kind i; resource = resource i }

pub lock_itself : (a b : Lock) → a ≡ b → lock_cmp a b ≡ Equal
lock_itself a b e = subst (λ (x : Lock). lock_cmp a x ≡ Equal) e (tied_itself lock_cmp_total a)
