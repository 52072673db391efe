-- Tables of locks, one for each holder.
use Rattle.std.specs.Prelude.{◌≡◌, ◌↔◌, ℕ, ◌<◌, ◌≤◌, if◌then◌else◌, length, sum_by, filter, List, [], ◌∷◌, ◌++◌, ◌⊎◌, map, slice_get, Option, None, Some, MatchOption, Bool, true, false, not, ◌==◌, ◌&&◌}
use Rattle.std.specs.List.{flat_map, list_any}
use Rattle.wat_list.specs.Has.{Has, HasSame, IsOnce}
use Rattle.wat_locks.specs.declared.lock.Lock.{Lock}
use Rattle.wat_locks.specs.declared.lock.Resource.{Resource}
use Rattle.wat_locks.specs.declared.held.Held.{Held}
use Rattle.wat_locks.specs.declared.table.Holder.{Holder}
use Rattle.wat_locks.specs.declared.table.Table.{Table}
use Rattle.wat_locks.specs.Conflict.{excludes}
use Rattle.wat_locks.specs.Order.{kind_rank, resource_eq}
use Rattle.wat_locks.specs.Held.{IsFree, IsLeastOpposing, Frees, is_for}

-- the holder's lock on a resource
abbrev pub held_by : Holder → Resource → Held
held_by by r = record { conn = by.conn; lock = record { kind = by.kind; resource = r }; short = by.short }

-- the locks of a table
abbrev pub held_in : Table → List Held
held_in t = map (held_by t.by) t.resources.keys

-- the locks of all tables
abbrev pub all_held : List Table → List Held
all_held tables = flat_map held_in tables

abbrev pub holders : List Table → List Holder
holders tables = map (λ (t : Table). t.by) tables

-- each holder has one table, and each lock stands once
abbrev pub AreTables : List Table → Type 0
AreTables tables = IsOnce (holders tables) × IsOnce (all_held tables)

-- the table at that place is the holder's
abbrev pub IsAt : List Table → ℕ → Holder → Type 0
IsAt tables i by = (t : Table) × (slice_get tables i ≡ Some t) × (t.by ≡ by)

-- any connection's, or one connection's alone
abbrev pub is_of : Option ℕ → ℕ → Bool
is_of None conn = true
is_of (Some only) conn = conn == only

-- the table has another connection's lock in conflict with this one
abbrev pub is_in_the_way : Option ℕ → ℕ → Lock → Table → Bool
is_in_the_way only conn lock t =
    is_of only t.by.conn && not (t.by.conn == conn) && excludes lock.kind t.by.kind && list_any (resource_eq lock.resource) t.resources.keys

-- the lesser connection comes first, and of one connection Read before Write
abbrev pub IsHolderBefore : Holder → Holder → Type 0
IsHolderBefore g h = (g.conn < h.conn) ⊎ ((g.conn ≡ h.conn) × (kind_rank g.kind ≤ kind_rank h.kind))

-- none where the lock is free, and else the holder of the lock that is named
abbrev pub IsNamedBy : List Held → ℕ → Lock → Option Holder → Type 0
IsNamedBy held conn lock best = MatchOption best (IsFree held conn lock) (λ by. IsLeastOpposing held conn lock (held_by by lock.resource))

-- the connection's, and where a scan is given short for it
abbrev pub is_freed_by : ℕ → Option ℕ → Holder → Bool
is_freed_by conn None by = by.conn == conn
is_freed_by conn (Some scan) by = by.conn == conn && is_for scan by.short

-- the lock was added, or it stands already
abbrev pub Puts : List Held → List Held → Held → Bool → Type 0
Puts old new e true = (Has e old → ⊥) × ((h : Held) → Has h new ↔ (Has h old ⊎ (e ≡ h)))
Puts old new e false = Has e old × HasSame new old

-- the resource was added to the table, or it stands already
abbrev pub PutsResource : Table → Table → Resource → Bool → Type 0
PutsResource old new r true = (Has r old.resources.keys → ⊥) × (new.resources.keys ≡ old.resources.keys ++ r ∷ [])
PutsResource old new r false = Has r old.resources.keys × (new.resources.keys ≡ old.resources.keys)

-- the table has that lock of the connection
abbrev pub is_lock_of : ℕ → Lock → Table → Bool
is_lock_of conn lock t = (t.by.conn == conn) && (kind_rank t.by.kind == kind_rank lock.kind) && list_any (resource_eq lock.resource) t.resources.keys

-- what the release of a connection, or of one scan of it, leaves
abbrev pub kept : ℕ → Option ℕ → List Table → List Table
kept conn scan tables = filter (λ (t : Table). not (is_freed_by conn scan t.by)) tables

-- how many locks that release frees
abbrev pub freed : ℕ → Option ℕ → List Table → ℕ
freed conn scan tables = sum_by (λ (t : Table). if is_freed_by conn scan t.by then length t.resources.keys else 0) tables

-- the connection's entries, and where a scan is given its short ones alone
abbrev pub is_freed : ℕ → Option ℕ → Held → Bool
is_freed conn None h = h.conn == conn
is_freed conn (Some scan) h = h.conn == conn && is_for scan h.short

-- the lock is taken out, where it is to be
abbrev pub FreesIf : Bool → List Held → List Held → Held → Type 0
FreesIf true old new e = Frees old new (λ h. h ≡ e)
FreesIf false old new e = HasSame new old
