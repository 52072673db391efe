-- The theorem, over every list of events.
use Rattle.std.proofs.Common.{◌≡◌, ℕ, List, [], ◌∷◌, refl, sym, ap, ◌∙◌, subst, inl}
use Rattle.wat_isolation.specs.World.{World}
use Rattle.wat_list.specs.Has.{Has}
use Rattle.wat_isolation.specs.Rows.{Scheme, Tables}
use Rattle.wat_isolation.specs.Logs.{Scan, Item, view, Alone, After, Serial}
use Rattle.wat_isolation.specs.Machine.{Lock, Connection, State, idle, start, Event, Event.Begin_scan, Event.Visit, Event.Past, Event.Look, Event.Peek, Event.Change, Event.Undo, Event.Commit, Event.Leave, Event.Alter, May, happens, run, Runs}
use Rattle.wat_isolation.specs.Kept.{Stand, Kept, Holds}
use Rattle.wat_isolation.proofs.Reading.{begin_keeps, visit_keeps, past_keeps, look_keeps, peek_keeps}
use Rattle.wat_isolation.proofs.Changing.{change_keeps}
use Rattle.wat_isolation.proofs.Undoing.{undo_keeps}
use Rattle.wat_isolation.proofs.Ending.{commit_keeps, leave_keeps}

-- with no transaction open, whatever the tables and the indexes
pub all_idle : (w : World) (s : State w) → ((c : ℕ) → s.conns c ≡ idle w) → ((r : w.Row) → s.now r ≡ s.base r) → Kept w s
all_idle w s off same = record {
  compatible = λ c d l m h. absurd (subst (λ (z : Connection w). Has l z.locks) (off c) h);
  own = λ c r h. absurd (subst (λ (z : Connection w). Has (Lock.Write r) z.locks) (off c) h);
  still = λ r. inl (same r);
  touched = λ c r v h. absurd (subst (λ (z : Connection w). Rattle.wat_isolation.specs.Logs.Version w r v z.log) (off c) h);
  moved = λ c i x r v u h. absurd (subst (λ (z : Connection w). Rattle.wat_isolation.specs.Logs.Version w r v z.log) (off c) h);
  looked = λ c r h. absurd (subst (λ (z : Connection w). Rattle.wat_isolation.specs.Logs.LookedUp w r z.log) (off c) h);
  open_serial = λ c. subst (λ (z : Connection w). Alone w s.scheme s.base z.log) (sym (off c)) tt;
  guarded = λ c at h. absurd (subst (λ (z : Connection w). Rattle.wat_isolation.specs.Logs.Scanned w at z.log) (off c) h);
  stands = λ c f h. subst (λ (z : Connection w). Stand w f z.standing (view w f z.log)) (sym (off c)) (record { sees = λ r. refl; was = tt });
  standing = λ c u h. absurd (subst (λ (z : Connection w). Has u z.standing) (off c) h);
}

pub event_keeps : (w : World) (s : State w) (e : Event w) → Kept w s → May w s e → Kept w (happens w s e)
event_keeps w s (Begin_scan c i lo) k may = begin_keeps w s c i lo k may
event_keeps w s (Visit c at rest p found wants) k may = visit_keeps w s c at rest p found wants k may
event_keeps w s (Past c at rest hi q wants) k may = past_keeps w s c at rest hi q wants k may
event_keeps w s (Look c r wants) k may = look_keeps w s c r wants k may
event_keeps w s (Peek c r wants) k may = peek_keeps w s c r wants k may
event_keeps w s (Change c r after wants next) k may = change_keeps w s c r after wants next k may
event_keeps w s (Undo c last rest) k may = undo_keeps w s c last rest k may
event_keeps w s (Commit c) k may = commit_keeps w s c k
event_keeps w s (Leave c) k may = leave_keeps w s c k may
event_keeps w s (Alter g f) k may = all_idle w (happens w s (Alter g f)) may (λ r. refl)

-- an event that commits nothing
open_holds : (w : World) (base : Tables w) (s t : State w) → Holds w base s → Kept w t → s.base ≡ t.base → s.history ≡ t.history → Holds w base t
open_holds w base s t h k e e' = record { kept = k; after = sym e ∙ (h.after ∙ ap (After w base) e'); serial = subst (Serial w base) e' h.serial }

event_holds : (w : World) (base : Tables w) (s : State w) (e : Event w) → Holds w base s → May w s e → Holds w base (happens w s e)
event_holds w base s (Commit c) h may = record {
  kept = event_keeps w s (Commit c) h.kept may;
  after = ap (λ z. view w z (s.conns c).log) h.after;
  serial = (h.serial, subst (λ z. Alone w s.scheme z (s.conns c).log) h.after (h.kept.open_serial c));
}
event_holds w base s (Alter g f) h may = record { kept = event_keeps w s (Alter g f) h.kept may; after = ap f h.after; serial = h.serial }
event_holds w base s (Begin_scan c i lo) h may = open_holds w base s (happens w s (Begin_scan c i lo)) h (event_keeps w s (Begin_scan c i lo) h.kept may) refl refl
event_holds w base s (Visit c at rest p found wants) h may = open_holds w base s (happens w s (Visit c at rest p found wants)) h (event_keeps w s (Visit c at rest p found wants) h.kept may) refl refl
event_holds w base s (Past c at rest hi q wants) h may = open_holds w base s (happens w s (Past c at rest hi q wants)) h (event_keeps w s (Past c at rest hi q wants) h.kept may) refl refl
event_holds w base s (Look c r wants) h may = open_holds w base s (happens w s (Look c r wants)) h (event_keeps w s (Look c r wants) h.kept may) refl refl
event_holds w base s (Peek c r wants) h may = open_holds w base s (happens w s (Peek c r wants)) h (event_keeps w s (Peek c r wants) h.kept may) refl refl
event_holds w base s (Change c r after wants next) h may = open_holds w base s (happens w s (Change c r after wants next)) h (event_keeps w s (Change c r after wants next) h.kept may) refl refl
event_holds w base s (Undo c last rest) h may = open_holds w base s (happens w s (Undo c last rest)) h (event_keeps w s (Undo c last rest) h.kept may) refl refl
event_holds w base s (Leave c) h may = open_holds w base s (happens w s (Leave c)) h (event_keeps w s (Leave c) h.kept may) refl refl

run_holds : (w : World) (base : Tables w) (es : List (Event w)) (s : State w) → Holds w base s → Runs w es s → Holds w base (run w es s)
run_holds w base [] s h r = h
run_holds w base (e ∷ es) s h r = run_holds w base es (happens w s e) (event_holds w base s e h r.0) r.1

pub all_hold : (w : World) (g : Scheme w) (base : Tables w) (es : List (Event w)) → Runs w es (start w g base) → Holds w base (run w es (start w g base))
all_hold w g base es r = run_holds w base es (start w g base) (record { kept = all_idle w (start w g base) (λ c. refl) (λ r. refl); after = refl; serial = tt }) r
