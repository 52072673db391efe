-- Locks of the law and wanted locks, and what is free.
use Rattle.std.proofs.Common.{◌≡◌, ℕ, List, [], ◌∷◌, Option, Some, None, refl, sym, ap, ◌∙◌, subst, inl, inr, ⊎_elim}
use Rattle.std.proofs.lemmas.Bool.{cases_eq}
use Rattle.std.specs.List.{filter_map, cons_option}
use Rattle.wat_list.specs.Has.{Has}
use Rattle.wat_list.proofs.Members.{has_filter_map}
use Rattle.wat_value.specs.declared.place.Place.{Place}
use Rattle.wat_value.specs.declared.place.Place.TheVariants.{At, End}
use Rattle.wat_value.specs.Changes.{RowName}
use Rattle.wat_isolation.specs.Machine as machine
use Rattle.wat_isolation.specs.Sql.{sql}
use Rattle.wat_locks.specs.declared.lock.LockKind.{LockKind}
use Rattle.wat_locks.specs.declared.lock.LockKind.TheVariants.{Read, Write, Phantom, AntiPhantom}
use Rattle.wat_locks.specs.declared.lock.Resource.{Resource}
use Rattle.wat_locks.specs.declared.lock.Resource.TheVariants.{Row, Gap}
use Rattle.wat_locks.specs.declared.lock.Lock.{Lock}
use Rattle.wat_locks.specs.declared.want.Want.{Want}
use Rattle.wat_locks.specs.declared.held.Held.{Held}
use Rattle.wat_locks.specs.Conflict.{Conflicts}
use Rattle.wat_locks.specs.Held.{AreFree, entry}
use Rattle.wat_level.specs.Wanted.{long_want}
use Rattle.wat_protocol.specs.Locked.{place_of, position_of, lock_of, law_lock, where_long, long_locks, AreHeld}

pub position_back : (q : machine.Place sql) → position_of (place_of q) ≡ q
position_back (machine.Place.At key) = refl
position_back machine.Place.End = refl

pub place_back : (p : Place) → place_of (position_of p) ≡ p
place_back (At key) = refl
place_back End = refl

law_lock_of : (m : machine.Lock sql) → law_lock (lock_of m).kind (lock_of m).resource ≡ Some m
law_lock_of (machine.Lock.Read r) = refl
law_lock_of (machine.Lock.Write r) = refl
law_lock_of (machine.Lock.Phantom i p) = ap (λ (q : machine.Place sql). Some (machine.Lock.Phantom i q)) (position_back p)
law_lock_of (machine.Lock.Anti i p) = ap (λ (q : machine.Place sql). Some (machine.Lock.Anti i q)) (position_back p)

-- of which lock it is the lock of the law
lock_is : (k : LockKind) (r : Resource) (m : machine.Lock sql) → law_lock k r ≡ Some m → lock_of m ≡ record { kind = k; resource = r }
lock_is Read (Row table key) m e = let s : machine.Lock.Read (record { table = table; key = key }) ≡ m = cc in ap lock_of (sym s)
lock_is Write (Row table key) m e = let s : machine.Lock.Write (record { table = table; key = key }) ≡ m = cc in ap lock_of (sym s)
lock_is Phantom (Row table key) m e = absurd (cc)
lock_is AntiPhantom (Row table key) m e = absurd (cc)
lock_is Read (Gap table index place) m e = absurd (cc)
lock_is Write (Gap table index place) m e = absurd (cc)
lock_is Phantom (Gap table index place) m e =
    let s : machine.Lock.Phantom (record { table = table; index = index }) (position_of place) ≡ m = cc in
    ap lock_of (sym s) ∙ ap (λ (p : Place). record { kind = Phantom; resource = Gap table index p }) (place_back place)
lock_is AntiPhantom (Gap table index place) m e =
    let s : machine.Lock.Anti (record { table = table; index = index }) (position_of place) ≡ m = cc in
    ap lock_of (sym s) ∙ ap (λ (p : Place). record { kind = AntiPhantom; resource = Gap table index p }) (place_back place)

want_is : (lock : Lock) (short : Option ℕ) (m : machine.Lock sql) → where_long short (law_lock lock.kind lock.resource) ≡ Some m → (short ≡ None) × (lock_of m ≡ lock)
want_is lock None m e = (refl, lock_is lock.kind lock.resource m e)
want_is lock (Some scan) m e = absurd (cc)

filter_map_has : {A B : Type 0} (f : A → Option B) (x : A) (y : B) (xs : List A) → Has x xs → f x ≡ Some y → Has y (filter_map f xs)
filter_map_has f x y [] h e = absurd h
filter_map_has {A} {B} f x y (z ∷ zs) h e = by (f z) refl (λ r. filter_map_has f x y zs r e) h
  where
    by : (o : Option B) → f z ≡ o → (Has x zs → Has y (filter_map f zs)) → Has x (z ∷ zs) → Has y (cons_option o (filter_map f zs))
    by None at deeper (inl s) = absurd (cc (ap f s ∙ e))
    by None at deeper (inr r) = deeper r
    by (Some v) at deeper (inl s) = inl (cc (ap f s ∙ e))
    by (Some v) at deeper (inr r) = inr (deeper r)

-- a lock that is kept is wanted as a long one
pub long_has : (wants : List Want) (m : machine.Lock sql) → Has m (long_locks wants) → Has (long_want (lock_of m)) wants
long_has wants m h =
    let of = has_filter_map (λ (w : Want). where_long w.short (law_lock w.lock.kind w.lock.resource)) m wants h in
    let is = want_is of.0.lock of.0.short m of.2 in
    subst (λ (w : Want). Has w wants) (λ i. record { lock = (sym is.1) i; short = is.0 i }) of.1

pub has_long : (wants : List Want) (m : machine.Lock sql) → Has (long_want (lock_of m)) wants → Has m (long_locks wants)
has_long wants m h = filter_map_has (λ (w : Want). where_long w.short (law_lock w.lock.kind w.lock.resource)) (long_want (lock_of m)) m wants h (law_lock_of m)

-- locks that conflict in the law conflict as they are held
conflicts : (l m : machine.Lock sql) → machine.Conflict sql l m → Conflicts (lock_of l) (lock_of m)
conflicts (machine.Lock.Read r) (machine.Lock.Write q) h = (refl, ap (λ (z : RowName). (lock_of (machine.Lock.Read z)).resource) h)
conflicts (machine.Lock.Write r) (machine.Lock.Read q) h = (refl, ap (λ (z : RowName). (lock_of (machine.Lock.Read z)).resource) h)
conflicts (machine.Lock.Write r) (machine.Lock.Write q) h = (refl, ap (λ (z : RowName). (lock_of (machine.Lock.Read z)).resource) h)
conflicts (machine.Lock.Phantom i p) (machine.Lock.Anti j q) h = (refl, λ k. (lock_of (machine.Lock.Phantom (h.0 k) (h.1 k))).resource)
conflicts (machine.Lock.Anti i p) (machine.Lock.Phantom j q) h = (refl, λ k. (lock_of (machine.Lock.Phantom (h.0 k) (h.1 k))).resource)
conflicts (machine.Lock.Read r) (machine.Lock.Read q) h = absurd h
conflicts (machine.Lock.Read r) (machine.Lock.Phantom j q) h = absurd h
conflicts (machine.Lock.Read r) (machine.Lock.Anti j q) h = absurd h
conflicts (machine.Lock.Write r) (machine.Lock.Phantom j q) h = absurd h
conflicts (machine.Lock.Write r) (machine.Lock.Anti j q) h = absurd h
conflicts (machine.Lock.Phantom i p) (machine.Lock.Read q) h = absurd h
conflicts (machine.Lock.Phantom i p) (machine.Lock.Write q) h = absurd h
conflicts (machine.Lock.Phantom i p) (machine.Lock.Phantom j q) h = absurd h
conflicts (machine.Lock.Anti i p) (machine.Lock.Read q) h = absurd h
conflicts (machine.Lock.Anti i p) (machine.Lock.Write q) h = absurd h
conflicts (machine.Lock.Anti i p) (machine.Lock.Anti j q) h = absurd h

-- what is free among the entries is free in the law
pub all_free : (s : machine.State sql) (held : List Held) (c : ℕ) (wants : List Want) → AreHeld s held → AreFree held c wants → machine.AllFree sql s c (long_locks wants)
all_free s held c wants are free l among d m there conflict =
    ⊎_elim
    (λ (same : c ≡ d). same)
    (λ (ne : c ≡ d → ⊥). absurd (free (long_want (lock_of l)) (long_has wants l among) (entry d (long_want (lock_of m))) (are d m there) ((λ e. ne (sym e)), conflicts l m conflict)))
    (cases_eq c d)
