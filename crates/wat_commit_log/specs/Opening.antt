-- What opening the log may answer, by what its bytes are.
use Rattle.std.specs.Prelude.{◌≡◌, ◌≢◌, ⊤, ℕ, ◌+◌, List, [], map, take, All, Some, Result, Ok, Err}
use Rattle.wat_schema.specs.Tables.{Tables, apply_all, no_tables}
use Rattle.wat_gate.specs.Bodies.{bodies, IsWhole, IsBrokenAt, IsAtGate}
use Rattle.wat_commit_log.specs.declared.opening.OpenWhy.{OpenWhy}
use Rattle.wat_commit_log.specs.declared.opening.OpenWhy.TheVariants.{NoDatabase, Damaged, DiskFault, Memory}
use Rattle.wat_commit_log.specs.Logged.{Transaction, body_of, all_acts, IsFramed, Restarts}

-- The bodies are those of transactions whose acts make these tables of none.
pub record AreBodies (all : List (List ℕ)) (t : Tables) : Type 0 where
  pub transactions : List Transaction
  pub bodies : all ≡ map body_of transactions
  pub framed : All IsFramed transactions
  pub is : apply_all (all_acts transactions) no_tables ≡ Some t

-- At this place stands the gate of the first frame that holds no transaction whose acts apply behind those before it.
pub record IsNoTransactionAt (content : List ℕ) (at : ℕ) : Type 0 where
  pub frame : ℕ
  pub gate : IsAtGate content at frame
  pub tables : Tables
  pub before : AreBodies (take frame (bodies content)) tables
  pub none : (t : Tables) → AreBodies (take (frame + 1) (bodies content)) t → ⊥

-- Bytes that are there are damaged where restart gives no tables: at the gate that is broken, or in a gate log that is whole at the first frame
-- that holds no transaction.
pub record IsDamagedAt (content : List ℕ) (at : ℕ) : Type 0 where
  pub there : content ≢ []
  pub none : (t : Tables) → Restarts content t → ⊥
  pub broken : ¬ IsWhole content → IsBrokenAt content at
  pub frame : IsWhole content → IsNoTransactionAt content at

-- Opening may answer so, where the disk tells these bytes, and where a fault has this cause.
abbrev pub MayOpen : Type 0 → List ℕ → Type 0 → Result Tables OpenWhy → Type 0
MayOpen tells content rose (Ok t) = tells → Restarts content t
MayOpen tells content rose (Err NoDatabase) = tells → content ≡ []
MayOpen tells content rose (Err (Damaged at)) = tells → IsDamagedAt content at
MayOpen tells content rose (Err DiskFault) = rose
MayOpen tells content rose (Err Memory) = ⊤
