-- A rollback in one step is a list of events.
use Rattle.std.proofs.Common.{◌≡◌, ℕ, List, [], ◌∷◌, ◌++◌, nat_eq, refl, ap}
use Rattle.wat_isolation.specs.World.{World}
use Rattle.wat_isolation.specs.Machine.{Standing, Connection, State, grown, Event, Event.Undo, Event.Leave, happens, run, Runs}
use Rattle.wat_isolation.specs.Rollback.{undoings, rollback}
use Rattle.wat_isolation.proofs.Basics.{nat_same, put-same}

pub run_append : (w : World) (es fs : List (Event w)) (s : State w) → run w (es ++ fs) s ≡ run w fs (run w es s)
run_append w [] fs s = refl
run_append w (e ∷ es) fs s = run_append w es fs (happens w s e)

pub runs_append : (w : World) (es fs : List (Event w)) (s : State w) → Runs w es s → Runs w fs (run w es s) → Runs w (es ++ fs) s
runs_append w [] fs s a b = b
runs_append w (e ∷ es) fs s a b = (a.0, runs_append w es fs (happens w s e) a.1 b)

undoings_run : (w : World) (c : ℕ) (us : List (Standing w)) (s : State w) → (s.conns c).standing ≡ us → Runs w (undoings w c us) s × (((run w (undoings w c us) s).conns c).standing ≡ [])
undoings_run w c [] s e = (tt, e)
undoings_run w c (u ∷ us) s e =
    let t : State w = happens w s (Undo c u us) in
    let rest = undoings_run w c us t (ap (λ (z : Connection w). z.standing) (put-same nat_eq nat_same s.conns c (grown w s c (Rattle.wat_isolation.specs.Logs.Item.Did u.row (s.now u.row) u.was ∷ (s.conns c).log) us []))) in
    ((e, rest.0), rest.1)

-- a rollback may always happen
pub rollback_runs : (w : World) (c : ℕ) (s : State w) → Runs w (rollback w c (s.conns c).standing) s
rollback_runs w c s =
    let u = undoings_run w c (s.conns c).standing s refl in
    runs_append w (undoings w c (s.conns c).standing) (Leave c ∷ []) s u.0 (u.1, tt)
