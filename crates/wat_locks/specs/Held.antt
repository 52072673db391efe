-- The list of locks, and what a connection that asks is told.
use Rattle.std.specs.Prelude.{◌≡◌, ◌≢◌, ◌↔◌, ℕ, ◌<◌, ◌≤◌, List, [], ◌∷◌, ◌++◌, ◌⊎◌, map, filter, Option, None, Some, Bool, false, ◌==◌}
use Rattle.wat_list.specs.Has.{Has, HasSame}
use Rattle.wat_locks.specs.declared.lock.Lock.{Lock}
use Rattle.wat_locks.specs.declared.want.Want.{Want}
use Rattle.wat_locks.specs.declared.held.Held.{Held}
use Rattle.wat_locks.specs.declared.held.Against.{Against}
use Rattle.wat_locks.specs.declared.held.Asked.{Asked}
use Rattle.wat_locks.specs.declared.held.Asked.TheVariants.{Granted, Against as Refused}
use Rattle.wat_locks.specs.Conflict.{Conflicts}
use Rattle.wat_locks.specs.Order.{kind_rank}

-- the connection has the lock, long or short
abbrev pub Holds : List Held → ℕ → Lock → Type 0
Holds held conn lock = (h : Held) × Has h held × (h.conn ≡ conn) × (h.lock ≡ lock)

-- another connection's lock that conflicts with this one
abbrev pub Opposes : ℕ → Lock → Held → Type 0
Opposes conn lock h = (h.conn ≢ conn) × Conflicts lock h.lock

-- no other connection holds a lock in conflict
abbrev pub IsFree : List Held → ℕ → Lock → Type 0
IsFree held conn lock = (h : Held) → Has h held → Opposes conn lock h → ⊥

-- each wanted lock is free
abbrev pub AreFree : List Held → ℕ → List Want → Type 0
AreFree held conn wants = (w : Want) → Has w wants → IsFree held conn w.lock

-- no two connections hold conflicting locks
abbrev pub Compatible : List Held → Type 0
Compatible held = (h : Held) → Has h held → IsFree held h.conn h.lock

abbrev pub against : Held → Against
against h = record { holder = h.conn; lock = h.lock }

-- the lesser holder is named before the other, and of one holder's locks Read before Write
abbrev pub IsNamedBefore : Held → Held → Type 0
IsNamedBefore g h = (g.conn < h.conn) ⊎ ((g.conn ≡ h.conn) × (kind_rank g.lock.kind ≤ kind_rank h.lock.kind))

-- of the locks in conflict with this one, the one that is named
pub record IsLeastOpposing (held : List Held) (conn : ℕ) (lock : Lock) (least : Held) : Type 0 where
  pub stands : Has least held
  pub opposes : Opposes conn lock least
  pub first : (h : Held) → Has h held → Opposes conn lock h → IsNamedBefore least h

-- the named conflict: at the first wanted lock that conflicts
abbrev pub Named : List Held → ℕ → List Want → Against → Type 0
Named held conn [] a = ⊥
Named held conn (w ∷ ws) a = ((h : Held) × IsLeastOpposing held conn w.lock h × (against h ≡ a)) ⊎ (IsFree held conn w.lock × Named held conn ws a)

-- the entries of one holder
abbrev pub held_of : ℕ → List Held → List Held
held_of holder held = filter (λ h. h.conn == holder) held

-- the entry that a granted want makes
abbrev pub entry : ℕ → Want → Held
entry conn w = record { conn = conn; lock = w.lock; short = w.short }

-- the locks with these wants of the connection, and nothing else
abbrev pub Adds : List Held → List Held → ℕ → List Want → Type 0
Adds old new conn wants = HasSame new (old ++ map (entry conn) wants)

-- what `ask` answers, and the locks after it
abbrev pub Answers : List Held → List Held → ℕ → List Want → Asked → Type 0
Answers old new conn wants Granted = AreFree old conn wants × Adds old new conn wants
Answers old new conn wants (Refused a) = Named old conn wants a × (new ≡ old)

-- the locks less those of which the fact holds
abbrev pub Frees : List Held → List Held → (Held → Type 0) → Type 0
Frees old new P = (h : Held) → Has h new ↔ (Has h old × (P h → ⊥))

abbrev pub is_for : ℕ → Option ℕ → Bool
is_for scan None = false
is_for scan (Some other) = other == scan
