-- The list of vacant keys over every list of events.
use Rattle.std.proofs.Common.{◌≡◌, ◌↔◌, ℕ, List, [], ◌∷◌, ◌⊎◌, Option, Some, refl, sym, subst, inl}
use Rattle.wat_isolation.specs.World.{World}
use Rattle.wat_list.specs.Has.{Has}
use Rattle.wat_isolation.specs.Rows.{Scheme, Tables, IsLive}
use Rattle.wat_isolation.specs.Logs.{Item, Item.Saw, Item.Looked, Item.Peeked, Committed.Ran, Version, view}
use Rattle.wat_isolation.specs.Machine.{Lock, Lock.Write, Standing, Connection, State, IsPos, start, grown, with_conn, idle, visited, finished, Event, Event.Begin_scan, Event.Visit, Event.Past, Event.Look, Event.Peek, Event.Change, Event.Undo, Event.Commit, Event.Leave, Event.Alter, May, happens, run, Runs}
use Rattle.wat_isolation.specs.Kept.{Kept, Holds}
use Rattle.wat_isolation.specs.Vacant.{VacantKey, IsVacant, Notes, NotesAll, IsVacantIn}
use Rattle.wat_isolation.proofs.Growing.{at_conn, SameChanges}
use Rattle.wat_isolation.proofs.Reading.{same_head}
use Rattle.wat_isolation.proofs.Vacant.{pos_to_live, pos_from_live, change_vacant, end_vacant}
use Rattle.wat_isolation.proofs.Whole.{event_keeps, all_idle}

-- reading leaves the list right
read_vacant : (w : World) (s : State w) (c : ℕ) (log : List (Item w)) (wants : List (Lock w)) (list : List (VacantKey w)) → SameChanges w (s.conns c).log log → IsVacant w s list
    → IsVacant w (with_conn w s c (grown w s c log (s.conns c).standing wants)) list
read_vacant w s c log wants list same k = record {
  sound = λ e h. let u = k.sound e h in (
    u.0,
    at_conn w s.conns c (grown w s c log (s.conns c).standing wants) (λ d z. Version w (s.scheme.row_of e.index e.key) u.0 (s.conns d).log → Version w (s.scheme.row_of e.index e.key) u.0 z.log) (same.to (s.scheme.row_of e.index e.key) u.0) (λ d ne v. v) e.by u.1,
    u.2,
  );
  full = λ d i x v ver key. k.full d i x v
      (at_conn w s.conns c (grown w s c log (s.conns c).standing wants) (λ e z. Version w (s.scheme.row_of i x) v z.log → Version w (s.scheme.row_of i x) v (s.conns e).log) (same.back (s.scheme.row_of i x) v) (λ e ne u. u) d ver)
      key;
}

event_vacant : (w : World) (s : State w) → Kept w s → (e : Event w) → May w s e → (list list' : List (VacantKey w)) → Notes w s e list list' → IsVacant w s list → IsVacant w (happens w s e) list'
event_vacant w s k (Begin_scan c i lo) may list list' n v =
    subst (IsVacant w (happens w s (Begin_scan c i lo))) (sym n)
    (read_vacant w s c (Saw (record { index = i; lo = lo; hi = lo; done = Rattle.std.specs.Prelude.false; rows = [] }) ∷ (s.conns c).log) [] list (record { sees = λ f r. refl; to = λ r u h. h; back = λ r u h. h; applies = λ f h. h }) v)
event_vacant w s k (Visit c at rest p found wants) may list list' n v =
    subst (IsVacant w (happens w s (Visit c at rest p found wants))) (sym n)
    (read_vacant w s c (Saw (visited w at p found) ∷ rest) wants list (same_head w (s.conns c).log rest at (visited w at p found) may.head) v)
event_vacant w s k (Past c at rest hi q wants) may list list' n v =
    subst (IsVacant w (happens w s (Past c at rest hi q wants))) (sym n)
    (read_vacant w s c (Saw (finished w at hi) ∷ rest) wants list (same_head w (s.conns c).log rest at (finished w at hi) may.head) v)
event_vacant w s k (Look c r wants) may list list' n v =
    subst (IsVacant w (happens w s (Look c r wants))) (sym n)
    (read_vacant w s c (Looked r (s.now r) ∷ (s.conns c).log) wants list (record { sees = λ f q. refl; to = λ q u h. h; back = λ q u h. h; applies = λ f h. h }) v)
event_vacant w s k (Peek c r wants) may list list' n v =
    subst (IsVacant w (happens w s (Peek c r wants))) (sym n)
    (read_vacant w s c (Peeked r (s.now r) ∷ (s.conns c).log) wants list (record { sees = λ f q. refl; to = λ q u h. h; back = λ q u h. h; applies = λ f h. h }) v)
event_vacant w s k (Change c r after wants next) may list list' n v =
    change_vacant w s c r after (record { row = r; was = s.now r; became = after } ∷ (s.conns c).standing) wants list list' v n
    (λ d u ver. sym (may.1 (Write r) may.0.write d (Write r) (k.touched d r u ver) refl))
event_vacant w s k (Undo c last rest) may list list' n v =
    change_vacant w s c last.row last.was rest [] list list' v n
    (λ d u ver. k.compatible d c (Write last.row) (Write last.row) (k.touched d last.row u ver)
    (k.touched c last.row last.was (k.standing c last (subst (Has last) (sym may) (inl refl)))) refl)
event_vacant w s k (Commit c) may list list' n v = end_vacant w s c (view w s.base (s.conns c).log) (Ran s.scheme (s.conns c).log ∷ s.history) list list' v n
event_vacant w s k (Leave c) may list list' n v = end_vacant w s c s.base s.history list list' v n
event_vacant w s k (Alter g f) may list list' n v =
    subst (IsVacant w (happens w s (Alter g f))) (sym n)
    (record { sound = λ e h. absurd h; full = λ c i x u ver key. absurd (subst (λ (z : Connection w). Version w (g.row_of i x) u z.log) (may c) ver) })

run_vacant : (w : World) (es : List (Event w)) (s : State w) → Kept w s → Runs w es s → (list list' : List (VacantKey w)) → NotesAll w es s list list' → IsVacant w s list → IsVacant w (run w es s) list'
run_vacant w [] s k r list list' n v = subst (IsVacant w s) (sym n) v
run_vacant w (e ∷ es) s k r list list' n v = run_vacant w es (happens w s e) (event_keeps w s e k r.0) r.1 n.0 list' n.2 (event_vacant w s k e r.0 list n.0 n.1 v)

pub all_vacant : (w : World) (g : Scheme w) (base : Tables w) (es : List (Event w)) → Runs w es (start w g base) → (list : List (VacantKey w)) → NotesAll w es (start w g base) [] list → IsVacant w (run w es (start w g base)) list
all_vacant w g base es r list n =
    run_vacant w es (start w g base) (all_idle w (start w g base) (λ c. refl) (λ q. refl)) r [] list n (record { sound = λ e h. absurd h; full = λ c i x u ver key. absurd ver })

pub vacant_positions : (w : World) (g : Scheme w) (base : Tables w) (es : List (Event w)) → Runs w es (start w g base) → (list : List (VacantKey w)) → NotesAll w es (start w g base) [] list → (i : w.Index) (x : w.Key)
    → IsPos w (run w es (start w g base)) i x ↔ (IsLive w (run w es (start w g base)).scheme i (run w es (start w g base)).now x ⊎ IsVacantIn w list i x)
vacant_positions w g base es r list n i x =
    let v = all_vacant w g base es r list n in
    (pos_to_live w (run w es (start w g base)) list v i x, pos_from_live w (run w es (start w g base)) list v i x)
