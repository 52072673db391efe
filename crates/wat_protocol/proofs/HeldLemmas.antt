-- The entries stand for the locks of the law after each step.
use Rattle.std.proofs.Common.{◌≡◌, ℕ, List, [], ◌∷◌, ◌++◌, map, nat_eq, false, Option, Some, None, refl, sym, subst, inr, ⊎_elim, ◌⊎◌, inl}
use Rattle.wat_list.specs.Has.{Has}
use Rattle.wat_list.proofs.Members.{has_cases, has_left, has_right, map_has}
use Rattle.wat_isolation.specs.World.{put}
use Rattle.wat_isolation.specs.Logs.{Scan, Item.Saw, Item.Did, Item.Looked, Item.Peeked}
use Rattle.wat_isolation.specs.Kept.{Guarded}
use Rattle.wat_isolation.specs.Machine as machine
use Rattle.wat_isolation.specs.Sql.{sql}
use Rattle.wat_isolation.proofs.Basics.{put_cases, nat_same}
use Rattle.wat_locks.specs.declared.want.Want.{Want}
use Rattle.wat_locks.specs.declared.held.Held.{Held}
use Rattle.wat_locks.specs.Held.{Adds, Frees, entry}
use Rattle.wat_level.specs.Wanted.{long_want}
use Rattle.wat_protocol.specs.Locked.{lock_of, long_locks, AreHeld, event_locks}
use Rattle.wat_protocol.specs.Guarding.{IsGuarded}
use Rattle.wat_protocol.proofs.LockLemmas.{long_has}

-- the connection has these locks more
gains : (s : machine.State sql) (old new : List Held) (c : ℕ) (wants : List Want) (k : machine.Connection sql) → AreHeld s old → Adds old new c wants
    → ((m : machine.Lock sql) → Has m k.locks → Has m (long_locks wants) ⊎ Has m (s.conns c).locks)
    → (d : ℕ) (m : machine.Lock sql) → Has m (put nat_eq s.conns c k d).locks → Has (entry d (long_want (lock_of m))) new
gains s old new c wants k are adds more d m there =
    ⊎_elim
    (λ (here : (d ≡ c) × (put nat_eq s.conns c k d ≡ k)). subst (λ (x : ℕ). Has (entry x (long_want (lock_of m))) new) (sym here.0)
    (⊎_elim
    (λ p. (adds (entry c (long_want (lock_of m)))).1 (has_right (entry c (long_want (lock_of m))) old (map (entry c) wants) (map_has (entry c) (long_want (lock_of m)) wants (long_has wants m p))))
    (λ p. (adds (entry c (long_want (lock_of m)))).1 (has_left (entry c (long_want (lock_of m))) old (map (entry c) wants) (are c m p)))
    (more m (subst (λ (x : machine.Connection sql). Has m x.locks) here.1 there))))
    (λ (other : (d ≡ c → ⊥) × (put nat_eq s.conns c k d ≡ s.conns d)).
    (adds (entry d (long_want (lock_of m)))).1 (has_left (entry d (long_want (lock_of m))) old (map (entry c) wants) (are d m (subst (λ (x : machine.Connection sql). Has m x.locks) other.1 there))))
    (put_cases nat_eq nat_same s.conns c k d)

-- so many of its own locks and those of the step
grown_locks : (s : machine.State sql) (c : ℕ) (wants : List Want) (locks : List (machine.Lock sql)) → locks ≡ long_locks wants
    → (m : machine.Lock sql) → Has m (locks ++ (s.conns c).locks) → Has m (long_locks wants) ⊎ Has m (s.conns c).locks
grown_locks s c wants locks e m h = subst (λ (ls : List (machine.Lock sql)). Has m ls ⊎ Has m (s.conns c).locks) e (has_cases m locks (s.conns c).locks h)

pub granted : (s : machine.State sql) (old new : List Held) (c : ℕ) (wants : List Want) (e : machine.Event sql)
    → AreHeld s old → Adds old new c wants → machine.IsBy sql e c → event_locks e ≡ long_locks wants → AreHeld (machine.happens sql s e) new
granted s old new c wants (machine.Event.Begin_scan d i lo) are adds by e =
    gains s old new d wants (machine.grown sql s d (Saw (record { index = i; lo = lo; hi = lo; done = false; rows = [] }) ∷ (s.conns d).log) (s.conns d).standing []) are (subst (λ (x : ℕ). Adds old new x wants) (sym by) adds) (λ m h. inr h)
granted s old new c wants (machine.Event.Visit d at rest p found ws) are adds by e =
    gains s old new d wants (machine.grown sql s d (Saw (machine.visited sql at p found) ∷ rest) (s.conns d).standing ws) are (subst (λ (x : ℕ). Adds old new x wants) (sym by) adds) (grown_locks s d wants ws e)
granted s old new c wants (machine.Event.Past d at rest hi q ws) are adds by e =
    gains s old new d wants (machine.grown sql s d (Saw (machine.finished sql at hi) ∷ rest) (s.conns d).standing ws) are (subst (λ (x : ℕ). Adds old new x wants) (sym by) adds) (grown_locks s d wants ws e)
granted s old new c wants (machine.Event.Look d r ws) are adds by e =
    gains s old new d wants (machine.grown sql s d (Looked r (s.now r) ∷ (s.conns d).log) (s.conns d).standing ws) are (subst (λ (x : ℕ). Adds old new x wants) (sym by) adds) (grown_locks s d wants ws e)
granted s old new c wants (machine.Event.Peek d r ws) are adds by e =
    gains s old new d wants (machine.grown sql s d (Peeked r (s.now r) ∷ (s.conns d).log) (s.conns d).standing ws) are (subst (λ (x : ℕ). Adds old new x wants) (sym by) adds) (grown_locks s d wants ws e)
granted s old new c wants (machine.Event.Change d r after ws next) are adds by e =
    gains s old new d wants (machine.grown sql s d (Did r (s.now r) after ∷ (s.conns d).log) (record { row = r; was = s.now r; became = after } ∷ (s.conns d).standing) ws) are (subst (λ (x : ℕ). Adds old new x wants) (sym by) adds) (grown_locks s d wants ws e)
granted s old new c wants (machine.Event.Undo d last rest) are adds by e =
    gains s old new d wants (machine.grown sql s d (Did last.row (s.now last.row) last.was ∷ (s.conns d).log) rest []) are (subst (λ (x : ℕ). Adds old new x wants) (sym by) adds) (λ m h. inr h)
granted s old new c wants (machine.Event.Commit d) are adds by e =
    gains s old new d wants (machine.idle sql) are (subst (λ (x : ℕ). Adds old new x wants) (sym by) adds) (λ m h. absurd h)
granted s old new c wants (machine.Event.Leave d) are adds by e =
    gains s old new d wants (machine.idle sql) are (subst (λ (x : ℕ). Adds old new x wants) (sym by) adds) (λ m h. absurd h)
granted s old new c wants (machine.Event.Alter g f) are adds by e = absurd by

none_some : (scan : ℕ) (o : Option ℕ) → o ≡ None → o ≡ Some scan → ⊥
none_some scan o a b = cc

pub freed : (s : machine.State sql) (old new : List Held) (c scan : ℕ) → AreHeld s old → Frees old new (λ h. (h.conn ≡ c) × (h.short ≡ Some scan)) → AreHeld s new
freed s old new c scan are frees d m there = (frees (entry d (long_want (lock_of m)))).1 (are d m there, λ both. none_some scan (entry d (long_want (lock_of m))).short refl both.1)

module _ (s : machine.State sql) (old new : List Held) (c : ℕ) (are : AreHeld s old) (frees : Frees old new (λ h. h.conn ≡ c)) where
  gone : (d : ℕ) (m : machine.Lock sql) → Has m (put nat_eq s.conns c (machine.idle sql) d).locks → Has (entry d (long_want (lock_of m))) new
  gone d m there =
      ⊎_elim
      (λ (here : (d ≡ c) × (put nat_eq s.conns c (machine.idle sql) d ≡ machine.idle sql)). absurd (none (subst (λ (x : machine.Connection sql). Has m x.locks) here.1 there)))
      (λ (other : (d ≡ c → ⊥) × (put nat_eq s.conns c (machine.idle sql) d ≡ s.conns d)). (frees (entry d (long_want (lock_of m)))).1 (are d m (subst (λ (x : machine.Connection sql). Has m x.locks) other.1 there), other.0))
      (put_cases nat_eq nat_same s.conns c (machine.idle sql) d)
    where
      none : Has m (machine.idle sql).locks → ⊥
      none h = h

  pub ended : AreHeld (machine.happens sql s (machine.Event.Commit c)) new × AreHeld (machine.happens sql s (machine.Event.Leave c)) new
  ended = (gone, gone)

-- a guard of the law is one of the lock table
pub guarded : (s : machine.State sql) (held : List Held) (c : ℕ) (at : Scan sql) → AreHeld s held → Guarded sql s c at → IsGuarded s held c at
guarded s held c at are kept = record {
  gaps = λ key within. let g = kept.gaps key within in (g.0, g.1, are c (machine.Lock.Phantom at.index g.0) g.2);
  rows = λ key within pos. ⊎_elim
      (λ (h : Has (machine.Lock.Read (s.scheme.row_of at.index key)) (s.conns c).locks). inl (are c (machine.Lock.Read (s.scheme.row_of at.index key)) h))
      (λ (h : Has (machine.Lock.Write (s.scheme.row_of at.index key)) (s.conns c).locks). inr (are c (machine.Lock.Write (s.scheme.row_of at.index key)) h))
      (kept.rows key within pos);
  past = λ done. let g = kept.past done in (g.0, g.1, are c (machine.Lock.Phantom at.index g.0) g.2);
}
