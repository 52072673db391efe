-- What going back to a savepoint and releasing one leave of a state's connections.
use Rattle.std.specs.Prelude.{◌≡◌, ℕ, ◌≤◌, Bool, true, false, List, [], ◌∷◌, length, Option, Some, None}
use Rattle.wat_schema.specs.Catalog.{Name}
use Rattle.wat_steps.specs.State.{CoreState}
use Rattle.wat_steps.specs.Answering.{opened, transaction_of, with_transaction}
use Rattle.wat_steps.specs.Statements.{cut_to, undoing}
use Rattle.wat_connection.specs.declared.transaction.Undone.{Undone}
use Rattle.wat_core.specs.CoreParts.{CoreParts, HasCore}

-- Back to the first of these savepoints: so many changes are left, and these acts undo the others. Where there is none, a transaction is open.
abbrev pub GoesBackAt : List (Name × ℕ) → ℕ → CoreState → Option Undone → CoreParts → Type 0
GoesBackAt [] c e undone parts = (undone ≡ None) × HasCore (opened c e) parts
GoesBackAt (save ∷ earlier) c e undone parts =
    (save.1 ≤ length (transaction_of c e).standing) × (undone ≡ Some (record { left = save.1; acts = undoing save.1 (transaction_of c e) }))
    × HasCore (with_transaction c (cut_to save.1 (save ∷ earlier) (transaction_of c e)) e) parts

-- the first of these savepoints goes, if there is one
abbrev pub ReleasesAt : List (Name × ℕ) → ℕ → CoreState → Bool → CoreParts → Type 0
ReleasesAt [] c e found parts = (found ≡ false) × HasCore (opened c e) parts
ReleasesAt (save ∷ earlier) c e found parts = (found ≡ true) × HasCore (with_transaction c (record (transaction_of c e) { savepoints = earlier }) e) parts
