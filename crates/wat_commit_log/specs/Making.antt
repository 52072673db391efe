-- What making a database may answer, by what the log is.
use Rattle.std.specs.Prelude.{◌≡◌, ◌≢◌, ⊤, ℕ, List, [], Result, Ok, Err}
use Rattle.wat_commit_log.specs.declared.making.InitRefusal.{InitRefusal}
use Rattle.wat_commit_log.specs.declared.making.InitRefusal.TheVariants.{Exists, DiskFault, Memory}

-- Making a database may answer so, where the disk tells these bytes of the log, and where a fault has this cause.
abbrev pub MayMake : {A : Type 0} → Type 0 → List ℕ → Type 0 → Result A InitRefusal → Type 0
MayMake tells log rose (Ok made) = tells → log ≡ []
MayMake tells log rose (Err Exists) = tells → log ≢ []
MayMake tells log rose (Err DiskFault) = rose
MayMake tells log rose (Err Memory) = ⊤
