-- What is said of a fault.
use Rattle.std.specs.Prelude.{ℕ, List, ◌++◌, codes, decimal}
use Rattle.wat_begin.specs.declared.fault.Fault.{Fault}
use Rattle.wat_begin.specs.declared.fault.Fault.TheVariants.{Usage, CannotRead, TooLong, NotText, NoDatabase, Exists, Damaged, DiskFault, Memory}

abbrev pub fault_text : Fault → List ℕ
fault_text Usage = codes "usage"
fault_text (CannotRead i) = codes "cannot read script " ++ decimal i
fault_text (TooLong i) = codes "script " ++ decimal i ++ codes " is too long"
fault_text (NotText i at) = codes "script " ++ decimal i ++ codes " is not text at " ++ decimal at
fault_text NoDatabase = codes "no database"
fault_text Exists = codes "a database is here"
fault_text (Damaged at) = codes "damaged log at " ++ decimal at
fault_text DiskFault = codes "disk fault"
fault_text Memory = codes "want of memory"
