-- What a step that wants locks comes to.
use Rattle.std.specs.Prelude.{◌≡◌, ℕ, Bool, true, false, List, [], ◌++◌, ◌⊎◌, map, None, Some}
use Rattle.wat_locks.specs.declared.want.Want.{Want}
use Rattle.wat_locks.specs.declared.held.Against.{Against}
use Rattle.wat_locks.specs.Held.{AreFree, Named, entry}
use Rattle.wat_cycle.specs.declared.request.Edge.{Edge}
use Rattle.wat_cycle.specs.Walk.{IsCycle}
use Rattle.wat_cycle.specs.Waits.{Blocks, AreNamedEdges}
use Rattle.wat_conn.specs.declared.answer.Answer.{Answer}
use Rattle.wat_conn.specs.declared.answer.Answer.TheVariants.{Locked, Deadlock}
use Rattle.wat_scans.specs.Running.{Run}
use Rattle.wat_steps.specs.State.{CoreState, Progressed, Progressed.Answered, Progressed.Waiting, requests_of, with_connection}
use Rattle.wat_steps.specs.Changing.{undone}
use Rattle.wat_steps.specs.Answering.{IsSame, answered, rolled_back}

-- the statement is refused, and its changes are undone
abbrev pub refused : ℕ → CoreState → Run → Answer → CoreState
refused c e run answer = answered c (undone c run.made e) answer []

-- its changes are undone, and then the transaction
abbrev pub broken_off : ℕ → CoreState → Run → List Edge → CoreState
broken_off c e run cycle = answered c (rolled_back c (undone c run.made e)) (Deadlock cycle) []

-- the connection waits for these locks
abbrev pub asking : ℕ → List Want → CoreState → CoreState
asking c wants e = with_connection c (record (e.connections c) { request = Some wants }) e

-- no cycle of connections that wait for one another goes through this one
abbrev pub IsNoDeadlock : CoreState → ℕ → Type 0
IsNoDeadlock e c = (others : List ℕ) → IsCycle (Blocks e.held (requests_of e)) c others → ⊥

-- To wait would close this cycle.
abbrev pub IsDeadlock : CoreState → ℕ → List Edge → Type 0
IsDeadlock e c cycle = AreNamedEdges e.held (requests_of e) c cycle

-- A conflict is answered where the connection isn't to wait. Else it waits, unless that would close a cycle.
abbrev pub IsBlocked : ℕ → CoreState → Run → List Want → Against → Bool → Progressed → CoreState → Type 0
IsBlocked c e run wants against false a after = (a ≡ Answered) × IsSame (refused c e run (Locked against)) after
IsBlocked c e run wants against true a after =
    ((cycle : List Edge) × IsDeadlock (asking c wants e) c cycle × (a ≡ Answered) × IsSame (broken_off c e run cycle) after)
    ⊎ (IsNoDeadlock (asking c wants e) c × (a ≡ Waiting against) × IsSame (asking c wants e) after)

-- All that is wanted is free, and the step is made; or none of it is got.
abbrev pub Asks : ℕ → CoreState → Run → List Want → (Progressed → CoreState → Type 0) → Progressed → CoreState → Type 0
Asks c e run wants Makes a after =
    (AreFree e.held c wants × Makes a after)
    ⊎ ((against : Against) × Named e.held c wants against × IsBlocked c e run wants against (e.connections c).blocking a after)

-- the locks come
abbrev pub with_locks : ℕ → List Want → CoreState → CoreState
with_locks c wants e = record e { held = e.held ++ map (entry c) wants }

-- the statement goes on, and waits for nothing
abbrev pub going_on : ℕ → Run → CoreState → CoreState
going_on c run e = with_connection c (record (e.connections c) { work = Some run; request = None }) e
