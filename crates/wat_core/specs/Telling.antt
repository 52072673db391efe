-- What a connection is told that asks for locks.
use Rattle.std.specs.Prelude.{◌≡◌, ℕ, ◌-◌, Bool, true, false, List, slice_get, slice_set, Option, Some, None}
use Rattle.wat_list.specs.Has.{HasSame}
use Rattle.wat_locks.specs.declared.want.Want.{Want}
use Rattle.wat_locks.specs.declared.held.Held.{Held}
use Rattle.wat_locks.specs.declared.held.Against.{Against}
use Rattle.wat_locks.specs.declared.held.Asked.{Asked}
use Rattle.wat_locks.specs.Held.{Answers, AreFree, Named}
use Rattle.wat_cycle.specs.declared.request.Request.{Request}
use Rattle.wat_cycle.specs.Walk.{IsCycle}
use Rattle.wat_cycle.specs.Waits.{AreNamedEdges, Blocks}
use Rattle.wat_steps.specs.State.{ConnectionState, CoreState}
use Rattle.wat_steps.specs.Asking.{IsDeadlock, IsNoDeadlock, asking, with_locks}
use Rattle.wat_steps.specs.Visiting.{without_visit}
use Rattle.wat_core.specs.declared.asking.Told.{Told}
use Rattle.wat_core.specs.declared.asking.Told.TheVariants.{Granted, Locked, Waiting, Deadlock}
use Rattle.wat_statement_locks.specs.Visiting.{AnswersVisit}
use Rattle.wat_core.specs.Parts.{HasParts, requests_in}

-- without the short locks of the scan that makes the visit, if it is one
abbrev pub before_visit : ℕ → Option ℕ → CoreState → CoreState
before_visit c None e = e
before_visit c (Some scan) e = without_visit c scan e

-- It gets all that it wants; or it is told that another connection holds that, where it isn't to wait; or it waits, unless that would close a cycle.
abbrev pub IsTold : CoreState → ℕ → Option ℕ → List Want → Told → List ConnectionState → List Held → Type 0
IsTold e c scan wants Granted states held =
    AreFree e.held c wants × HasSame held (with_locks c wants (before_visit c scan e)).held × HasParts (record e { held = held }) states held
IsTold e c scan wants (Locked against) states held =
    Named e.held c wants against × ((e.connections c).blocking ≡ false) × HasParts e states held
IsTold e c scan wants (Waiting against) states held =
    Named e.held c wants against × ((e.connections c).blocking ≡ true) × IsNoDeadlock (asking c wants e) c × HasParts (asking c wants e) states held
IsTold e c scan wants (Deadlock cycle) states held =
    (against : Against) × Named e.held c wants against × ((e.connections c).blocking ≡ true) × IsDeadlock (asking c wants e) c cycle × HasParts (asking c wants e) states held

-- ---- within a call

-- the locks' answer to a visit of the scan, or to a change
abbrev pub AnswersFor : List Held → List Held → ℕ → Option ℕ → List Want → Asked → Type 0
AnswersFor old new c None wants asked = Answers old new c wants asked
AnswersFor old new c (Some scan) wants asked = AnswersVisit old new c scan wants asked

-- what the connection is told that has begun to wait
abbrev pub IsWaiting : List Held → List Request → ℕ → Against → Told → Type 0
IsWaiting held requests c against Granted = ⊥
IsWaiting held requests c against (Locked other) = ⊥
IsWaiting held requests c against (Waiting other) = (other ≡ against) × ((others : List ℕ) → IsCycle (Blocks held requests) c others → ⊥)
IsWaiting held requests c against (Deadlock cycle) = AreNamedEdges held requests c cycle

-- by whether the connection may wait
abbrev pub TellsBy : Bool → ConnectionState → List Held → List ConnectionState → List ConnectionState → ℕ → List Want → Against → Told → Type 0
TellsBy false k held old new c wants against said = (said ≡ Locked against) × (new ≡ old)
TellsBy true k held old new c wants against said = (new ≡ slice_set old (c - 1) (record k { request = Some wants })) × IsWaiting held (requests_in new) c against said

-- what the connection is told where this lock is in its way, and the connections then
abbrev pub TellsBlocked : List Held → List ConnectionState → List ConnectionState → ℕ → List Want → Against → Told → Type 0
TellsBlocked held old new c wants against said = (k : ConnectionState) × (slice_get old (c - 1) ≡ Some k) × TellsBy k.blocking k held old new c wants against said
