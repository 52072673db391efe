-- What a step that reads makes of the state of the law of isolation.
use Rattle.std.proofs.Common.{◌≡◌, ℕ, ◌==◌, Bool, true, false, not, ◌&&◌, List, [], ◌∷◌, ◌++◌, map, nat_eq, Option, refl, sym, ap, subst, ⊎_elim}
use Rattle.std.specs.List.{filter}
use Rattle.wat_list.specs.Has.{Has}
use Rattle.wat_list.proofs.Members.{filter_has, has_cases, has_left, has_right}
use Rattle.wat_value.specs.declared.value.Value.{Value}
use Rattle.wat_value.specs.Changes.{RowName}
use Rattle.wat_schema.specs.Tables.{Row}
use Rattle.wat_isolation.specs.World.{put}
use Rattle.wat_isolation.specs.Rows.{IsCut}
use Rattle.wat_isolation.specs.Logs.{Item, Item.Saw, Item.Peeked, Item.Looked, Version}
use Rattle.wat_isolation.specs.Machine as law
use Rattle.wat_isolation.specs.Kept.{Kept}
use Rattle.wat_isolation.specs.Vacant.{VacantKey, IsVacant}
use Rattle.wat_isolation.specs.Sql.{sql, IndexName}
use Rattle.wat_isolation.proofs.Basics.{nat_same, put-same, put-other}
use Rattle.wat_isolation.proofs.Growing.{at_conn}
use Rattle.wat_isolation.proofs.Whole.{event_keeps}
use Rattle.wat_locks.specs.declared.held.Held.{Held}
use Rattle.wat_locks.specs.declared.want.Want.{Want}
use Rattle.wat_locks.specs.Held.{AreFree, Adds, entry, is_for}
use Rattle.wat_level.specs.Wanted.{long_want}
use Rattle.wat_protocol.specs.Locked.{lock_of, long_locks, AreHeld}
use Rattle.wat_protocol.proofs.LockLemmas.{all_free}
use Rattle.wat_protocol.proofs.HeldLemmas.{granted}
use Rattle.wat_steps.specs.State.{CoreState}
use Rattle.wat_tied.specs.Tied.{left_of, Relates}

-- the state of the law after a step that recorded this, and the locks that are held then
pub record IsReadIn (e : CoreState) (s t : law.State sql) (c : ℕ) (item : Item sql) (wants : List Want) (held : List Held) : Type 0 where
  pub kept : Kept sql t
  pub relates : Relates (record e { held = held }) t
  pub log : (t.conns c).log ≡ item ∷ (s.conns c).log
  pub standing : (t.conns c).standing ≡ (s.conns c).standing
  pub others : (d : ℕ) → (d ≡ c → ⊥) → t.conns d ≡ s.conns d
  pub now : t.now ≡ s.now
  pub base : t.base ≡ s.base
  pub locks : (m : law.Lock sql) → Has m (s.conns c).locks → Has m (t.conns c).locks
  pub gets : (m : law.Lock sql) → Has m (long_locks wants) → Has m (t.conns c).locks

-- ---- locks

neither : (b : Bool) → not (b && false) ≡ true
neither true = refl
neither false = refl

-- long locks stay where those of a scan's last visit go
pub long_stay : (s : law.State sql) (c scan : ℕ) (held : List Held) → AreHeld s held → AreHeld s (filter (λ (h : Held). not ((h.conn == c) && is_for scan h.short)) held)
long_stay s c scan held are d m has = filter_has (λ (h : Held). not ((h.conn == c) && is_for scan h.short)) (entry d (long_want (lock_of m))) held (are d m has) (neither (d == c))

pub adds : (held : List Held) (c : ℕ) (wants : List Want) → Adds held (held ++ map (entry c) wants) c wants
adds held c wants h = (λ z. z, λ z. z)

pub adds_none : (held : List Held) (c : ℕ) → Adds held held c []
adds_none held c h = (λ z. has_left h held [] z, λ z. ⊎_elim (λ (o : Has h held). o) (λ (o : Has h []). absurd o) (has_cases h held [] z))

-- ---- vacant keys

-- reading leaves the list right
pub read_vacant : (s : law.State sql) (c : ℕ) (log : List (Item sql)) (standing : List (law.Standing sql)) (wants : List (law.Lock sql)) (list : List (VacantKey sql))
    → ((r : RowName) (o : Option Row) → Version sql r o log → Version sql r o (s.conns c).log) → ((r : RowName) (o : Option Row) → Version sql r o (s.conns c).log → Version sql r o log)
    → IsVacant sql s list → IsVacant sql (law.with_conn sql s c (law.grown sql s c log standing wants)) list
read_vacant s c log standing wants list back to k = record {
  sound = λ o h. let u = k.sound o h in
      (u.0, at_conn sql s.conns c new (λ d z. Version sql (s.scheme.row_of o.index o.key) u.0 (s.conns d).log → Version sql (s.scheme.row_of o.index o.key) u.0 z.log) (λ m. to (s.scheme.row_of o.index o.key) u.0 m) (λ d ne m. m) o.by u.1, u.2);
  full = λ d i x o h at. k.full d i x o (at_conn sql s.conns c new (λ d z. Version sql (s.scheme.row_of i x) o z.log → Version sql (s.scheme.row_of i x) o (s.conns d).log) (λ m. back (s.scheme.row_of i x) o m) (λ d ne m. m) d h) at;
}
  where
    new : law.Connection sql
    new = law.grown sql s c log standing wants

-- ---- a scan's part begins

module _ (e : CoreState) (s : law.State sql) (relates : Relates e s) (kept : Kept sql s) (c : ℕ) where
  -- the part of a scan in which nothing is read yet
  pub begun_reading : (i : IndexName) (lo : List Value → Bool) → IsCut sql lo
      → IsReadIn e s (law.happens sql s (law.Event.Begin_scan c i lo)) c (Saw (record { index = i; lo = lo; hi = lo; done = false; rows = [] })) [] e.held
  begun_reading i lo cut = record {
    kept = event_keeps sql s (law.Event.Begin_scan c i lo) kept cut;
    relates = record {
      scheme = relates.scheme;
      now = relates.now;
      base = relates.base;
      locks = granted s e.held e.held c [] (law.Event.Begin_scan c i lo) relates.locks (adds_none e.held c) refl refl;
      vacant = read_vacant s c new.log new.standing [] (map left_of e.vacant) (λ r o h. h) (λ r o h. h) relates.vacant;
    };
    log = ap (λ (z : law.Connection sql). z.log) here;
    standing = ap (λ (z : law.Connection sql). z.standing) here;
    others = λ d ne. put-other nat_eq nat_same s.conns c new d ne;
    now = refl;
    base = refl;
    locks = λ m h. subst (λ (z : law.Connection sql). Has m z.locks) (sym here) h;
    gets = λ m h. absurd h;
  }
    where
      new : law.Connection sql
      new = law.grown sql s c (Saw (record { index = i; lo = lo; hi = lo; done = false; rows = [] }) ∷ (s.conns c).log) (s.conns c).standing []

      here : put nat_eq s.conns c new c ≡ new
      here = put-same nat_eq nat_same s.conns c new

  -- ---- a row is read at a lower level, or found taken

  module _ (held : List Held) (wants : List Want) (free : AreFree e.held c wants) (fewer : AreHeld s held) (r : RowName) where
    pub peeked : IsReadIn e s (law.happens sql s (law.Event.Peek c r (long_locks wants))) c (Peeked r (s.now r)) wants (held ++ map (entry c) wants)
    peeked = record {
      kept = event_keeps sql s (law.Event.Peek c r (long_locks wants)) kept (all_free s e.held c wants relates.locks free);
      relates = record {
        scheme = relates.scheme;
        now = relates.now;
        base = relates.base;
        locks = granted s held (held ++ map (entry c) wants) c wants (law.Event.Peek c r (long_locks wants)) fewer (adds held c wants) refl refl;
        vacant = read_vacant s c new.log new.standing (long_locks wants) (map left_of e.vacant) (λ q o h. h) (λ q o h. h) relates.vacant;
      };
      log = ap (λ (z : law.Connection sql). z.log) here;
      standing = ap (λ (z : law.Connection sql). z.standing) here;
      others = λ d ne. put-other nat_eq nat_same s.conns c new d ne;
      now = refl;
      base = refl;
      locks = λ m h. subst (λ (z : law.Connection sql). Has m z.locks) (sym here) (has_right m (long_locks wants) (s.conns c).locks h);
      gets = λ m h. subst (λ (z : law.Connection sql). Has m z.locks) (sym here) (has_left m (long_locks wants) (s.conns c).locks h);
    }
      where
        new : law.Connection sql
        new = law.grown sql s c (Peeked r (s.now r) ∷ (s.conns c).log) (s.conns c).standing (long_locks wants)

        here : put nat_eq s.conns c new c ≡ new
        here = put-same nat_eq nat_same s.conns c new

    pub looked : law.May sql s (law.Event.Look c r (long_locks wants)) → IsReadIn e s (law.happens sql s (law.Event.Look c r (long_locks wants))) c (Looked r (s.now r)) wants (held ++ map (entry c) wants)
    looked may = record {
      kept = event_keeps sql s (law.Event.Look c r (long_locks wants)) kept may;
      relates = record {
        scheme = relates.scheme;
        now = relates.now;
        base = relates.base;
        locks = granted s held (held ++ map (entry c) wants) c wants (law.Event.Look c r (long_locks wants)) fewer (adds held c wants) refl refl;
        vacant = read_vacant s c new.log new.standing (long_locks wants) (map left_of e.vacant) (λ q o h. h) (λ q o h. h) relates.vacant;
      };
      log = ap (λ (z : law.Connection sql). z.log) here;
      standing = ap (λ (z : law.Connection sql). z.standing) here;
      others = λ d ne. put-other nat_eq nat_same s.conns c new d ne;
      now = refl;
      base = refl;
      locks = λ m h. subst (λ (z : law.Connection sql). Has m z.locks) (sym here) (has_right m (long_locks wants) (s.conns c).locks h);
      gets = λ m h. subst (λ (z : law.Connection sql). Has m z.locks) (sym here) (has_left m (long_locks wants) (s.conns c).locks h);
    }
      where
        new : law.Connection sql
        new = law.grown sql s c (Looked r (s.now r) ∷ (s.conns c).log) (s.conns c).standing (long_locks wants)

        here : put nat_eq s.conns c new c ≡ new
        here = put-same nat_eq nat_same s.conns c new
