-- What going back to a savepoint and releasing one leave of a transaction.
use Rattle.std.specs.Prelude.{◌≡◌, ℕ, ◌≤◌, Bool, true, false, List, [], ◌∷◌, length, Option, Some, None, unwrap_or}
use Rattle.wat_schema.specs.Catalog.{Name}
use Rattle.wat_steps.specs.State.{OpenTransaction, ConnectionState}
use Rattle.wat_steps.specs.Answering.{no_changes}
use Rattle.wat_steps.specs.Statements.{cut_to, undoing}
use Rattle.wat_connection.specs.declared.transaction.Undone.{Undone}

-- Back to the first of these savepoints, which stays: so many changes are left, and these acts undo the others. Where there is none, nothing is done.
abbrev pub GoesBack : List (Name × ℕ) → OpenTransaction → OpenTransaction → Option Undone → Type 0
GoesBack [] old new undone = (undone ≡ None) × (new ≡ old)
GoesBack (save ∷ earlier) old new undone =
    (save.1 ≤ length old.standing) × (undone ≡ Some (record { left = save.1; acts = undoing save.1 old })) × (new ≡ cut_to save.1 (save ∷ earlier) old)

-- the first of these savepoints goes, if there is one
abbrev pub Releases : List (Name × ℕ) → OpenTransaction → OpenTransaction → Bool → Type 0
Releases [] old new found = (found ≡ false) × (new ≡ old)
Releases (save ∷ earlier) old new found = (found ≡ true) × (new ≡ record old { savepoints = earlier })

-- ---- in a connection, which has a transaction open from then on

abbrev pub transaction_in : ConnectionState → OpenTransaction
transaction_in k = unwrap_or k.transaction no_changes

abbrev pub with_open : ConnectionState → OpenTransaction → ConnectionState
with_open k t = record k { transaction = Some t }

-- back to the first of these savepoints of its transaction, if there is one
abbrev pub GoesBackIn : List (Name × ℕ) → ConnectionState → ConnectionState → Option Undone → Type 0
GoesBackIn saves old new undone = (t : OpenTransaction) × GoesBack saves (transaction_in old) t undone × (new ≡ with_open old t)

-- the first of these savepoints of its transaction goes, if there is one
abbrev pub ReleasesIn : List (Name × ℕ) → ConnectionState → ConnectionState → Bool → Type 0
ReleasesIn saves old new found = (t : OpenTransaction) × Releases saves (transaction_in old) t found × (new ≡ with_open old t)
