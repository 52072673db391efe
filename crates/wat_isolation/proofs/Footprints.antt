-- No event of another connection changes a position or a row of a scan of an open transaction.
use Rattle.std.proofs.Common.{ℕ, [], ◌∷◌, refl, sym, subst}
use Rattle.wat_isolation.specs.World.{World}
use Rattle.wat_isolation.specs.Logs.{Scan, Item.Saw, Item.Looked, Item.Peeked, Committed.Ran, view, Scanned}
use Rattle.wat_isolation.specs.Machine.{Connection, State, Event, Event.Begin_scan, Event.Visit, Event.Past, Event.Look, Event.Peek, Event.Change, Event.Undo, Event.Commit, Event.Leave, Event.Alter, visited, finished, May, happens, IsBy}
use Rattle.wat_isolation.specs.Kept.{Kept, SameAt}
use Rattle.wat_isolation.proofs.Growing.{read_same}
use Rattle.wat_isolation.proofs.Reading.{same_head, no_wants}
use Rattle.wat_isolation.proofs.Changing.{change_same}
use Rattle.wat_isolation.proofs.Undoing.{undo_same}
use Rattle.wat_isolation.proofs.Ending.{end_same, nothing_stands}

pub footprint_same : (w : World) (s : State w) (k : Kept w s) (e : Event w) → May w s e → (d : ℕ) → (IsBy w e d → ⊥) → (at : Scan w) → Scanned w at (s.conns d).log → SameAt w s (happens w s e) at
footprint_same w s k (Begin_scan c i lo) may d ne at n =
    read_same w s k c (Saw (record { index = i; lo = lo; hi = lo; done = Rattle.std.specs.Prelude.false; rows = [] }) ∷ (s.conns c).log) [] (no_wants w s c) (record { sees = λ f r. refl; to = λ r v h. h; back = λ r v h. h; applies = λ f h. h }) at
footprint_same w s k (Visit c one rest p found wants) may d ne at n =
    read_same w s k c (Saw (visited w one p found) ∷ rest) wants may.free (same_head w (s.conns c).log rest one (visited w one p found) may.head) at
footprint_same w s k (Past c one rest hi q wants) may d ne at n =
    read_same w s k c (Saw (finished w one hi) ∷ rest) wants may.free (same_head w (s.conns c).log rest one (finished w one hi) may.head) at
footprint_same w s k (Look c r wants) may d ne at n =
    read_same w s k c (Looked r (s.now r) ∷ (s.conns c).log) wants may.1 (record { sees = λ f r. refl; to = λ r v h. h; back = λ r v h. h; applies = λ f h. h }) at
footprint_same w s k (Peek c r wants) may d ne at n =
    read_same w s k c (Peeked r (s.now r) ∷ (s.conns c).log) wants may (record { sees = λ f r. refl; to = λ r v h. h; back = λ r v h. h; applies = λ f h. h }) at
footprint_same w s k (Change c r after wants next) may d ne at n = change_same w s k c r after wants next may.0 may.1 d at ne (k.guarded d at n)
footprint_same w s k (Undo c last rest) may d ne at n = undo_same w s k c last rest may d at ne (k.guarded d at n)
footprint_same w s k (Commit c) may d ne at n =
    end_same w s k c (view w s.base (s.conns c).log) (Ran s.scheme (s.conns c).log ∷ s.history) (λ r. refl) d at (λ e. ne (sym e)) (k.guarded d at n)
footprint_same w s k (Leave c) may d ne at n =
    end_same w s k c s.base s.history
    (nothing_stands w s k c may)
    d at (λ e. ne (sym e)) (k.guarded d at n)
footprint_same w s k (Alter g f) may d ne at n = absurd (subst (λ (z : Connection w). Scanned w at z.log) (may d) n)
