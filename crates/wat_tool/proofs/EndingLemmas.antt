-- How a call ends, step by step.
use Rattle.std.proofs.Common.{◌≡◌, ◌⊎◌, inl, inr, ℕ, ◌≤◌, List, [], ◌∷◌, ◌++◌, Result, Ok, Err, Option, Some, refl, sym, subst, arith, append-nil, OnErr, IfErr}
use Rattle.wat_schema.specs.Tables.{Tables}
use Rattle.wat_disk.specs.Disk.{Told}
use Rattle.wat_faults.specs.Faults.{Rose}
use Rattle.wat_commit_log.specs.Opening.{MayOpen}
use Rattle.wat_commit_log.specs.Logged.{log_file}
use Rattle.wat_commit_log.specs.declared.opening.OpenWhy.{OpenWhy}
use Rattle.wat_begin.specs.Faults.{UnlessMemory}
use Rattle.wat_begin.specs.Readings.{Reading, AreReadings, names_asked, scripts_of}
use Rattle.wat_begin.specs.declared.fault.Fault.{Fault}
use Rattle.wat_begin.specs.declared.fault.Fault.TheVariants.{Usage, CannotRead, TooLong, NotText, NoDatabase, Exists, Damaged, DiskFault, Memory}
use Rattle.wat_tool.specs.Called.{opened}
use Rattle.wat_tool.specs.declared.performing.Done.{Done}
use Rattle.wat_tool.specs.declared.performing.Done.TheVariants.{Made, Played, Translated, Dumped}
use Rattle.wat_words.specs.Commands.{command_of}
use Rattle.wat_words.specs.declared.Command.{Command}
use Rattle.wat_words.specs.declared.Command.TheVariants.{Translate, Dump}
use Rattle.wat_tool.specs.Ending.{Outside, Ends, EndsBy, EndsDump, EndsOpened, EndsPlayed, EndsRead, EndsRun, EndsTranslate, AsksFirst, IsBeforeDisk, IsUntouched, LeavesUntouched, outcome_of}

-- What follows stands, unless memory was wanted.
pub or_memory : (fault : Fault) (P : Type 0) → P → UnlessMemory {A = Done} (Err fault) P
or_memory Usage P h = h
or_memory (CannotRead i) P h = h
or_memory (TooLong i) P h = h
or_memory (NotText i at) P h = h
or_memory NoDatabase P h = h
or_memory Exists P h = h
or_memory (Damaged at) P h = h
or_memory DiskFault P h = h
or_memory Memory P h = tt

-- So too where there is no fault.
pub or_no_fault : (ended : Result Done Fault) (P : Type 0) → P → UnlessMemory ended P
or_no_fault (Ok done) P h = h
or_no_fault (Err fault) P h = or_memory fault P h

-- `translate` ends as reading the log back does.
pub translate_ends : (outside : Outside) (words : List (List ℕ)) (ended : Result Done Fault) → command_of words ≡ Some Translate → EndsTranslate outside ended → Ends outside words ended
translate_ends outside words ended command ends = or_no_fault ended (EndsBy outside words (command_of words) ended)
    (subst (λ (c : Option Command). EndsBy outside words c ended) (sym command) ends)

-- `dump` ends as writing the tables does.
pub dump_ends : (outside : Outside) (words : List (List ℕ)) (ended : Result Done Fault) → command_of words ≡ Some Dump → UnlessMemory ended (EndsDump outside ended) → Ends outside words ended
dump_ends outside words ended command ends = subst (λ (c : Option Command). UnlessMemory ended (EndsBy outside words c ended)) (sym command) ends

-- A fault of `run` leaves all as it was, and one of the words or the scripts makes no call on the disk.
pub run_leaves : (words : List (List ℕ)) (before now : Told) (ended : Result Done Fault) → OnErr ended (IsUntouched before now) → IfErr ended (λ met. IsBeforeDisk met → now.moment ≡ before.moment)
    → IfErr ended (LeavesUntouched words before now)
run_leaves words before now (Ok done) untouched uncalled = tt
run_leaves words before now (Err fault) untouched uncalled = record { untouched = λ other. untouched; uncalled = uncalled }

-- A fault that was met behind the first call on the disk leaves all as it was.
pub leaves_all : (words : List (List ℕ)) (before now : Told) (ended : Result Done Fault) → IsUntouched before now → IfErr ended (λ met. IsBeforeDisk met → ⊥) → IfErr ended (LeavesUntouched words before now)
leaves_all words before now (Ok done) untouched late = tt
leaves_all words before now (Err fault) untouched late = record { untouched = λ other. untouched; uncalled = λ early. absurd (late early) }

-- want of memory is free
pub memory_ends : (fault : Fault) (P : Type 0) → fault ≡ Memory → UnlessMemory {A = Done} (Err fault) P
memory_ends fault P is = subst (λ (f : Fault). UnlessMemory {A = Done} (Err f) P) (sym is) tt

-- two facts, unless memory was wanted
pub unless_both : (A B : Type 0) (fault : Fault) (P Q R : Type 0) → UnlessMemory {A = A} (Err fault) P → UnlessMemory {A = A} (Err fault) Q → (P → Q → R) → UnlessMemory {A = B} (Err fault) R
unless_both A B Usage P Q R p q then = then p q
unless_both A B (CannotRead i) P Q R p q then = then p q
unless_both A B (TooLong i) P Q R p q then = then p q
unless_both A B (NotText i at) P Q R p q then = then p q
unless_both A B NoDatabase P Q R p q then = then p q
unless_both A B Exists P Q R p q then = then p q
unless_both A B (Damaged at) P Q R p q then = then p q
unless_both A B DiskFault P Q R p q then = then p q
unless_both A B Memory P Q R p q then = tt

-- memory was wanted, or it is so
pub unless_memory : {A : Type 0} (answer : Result A Fault) (P : Type 0) → UnlessMemory answer P → (answer ≡ Err Memory) ⊎ P
unless_memory (Ok x) P h = inr h
unless_memory (Err Memory) P h = inl refl
unless_memory (Err Usage) P h = inr h
unless_memory (Err (CannotRead i)) P h = inr h
unless_memory (Err (TooLong i)) P h = inr h
unless_memory (Err (NotText i at)) P h = inr h
unless_memory (Err NoDatabase) P h = inr h
unless_memory (Err Exists) P h = inr h
unless_memory (Err (Damaged at)) P h = inr h
unless_memory (Err DiskFault) P h = inr h

-- what was read of the scripts, and what came of it
pub run_ends : (outside : Outside) (names : List (List ℕ)) (answer : Result (List (List ℕ)) Fault) (ended : Result Done Fault) → outside.asked ≡ outside.asked_before ++ names_asked names answer →
    (readings : List Reading) × AreReadings outside.texts outside.script_faults_before outside.script_faults (names_asked names answer) readings × (answer ≡ scripts_of 1 readings) →
    EndsRead outside answer ended → EndsRun outside names ended
run_ends outside names answer ended asked read ends = record {
  readings = read.0;
  asked = subst (λ (r : Result (List (List ℕ)) Fault). outside.asked ≡ outside.asked_before ++ names_asked names r) read.2 asked;
  may_read = subst (λ (r : Result (List (List ℕ)) Fault). AreReadings outside.texts outside.script_faults_before outside.script_faults (names_asked names r) read.0) read.2 read.1;
  is = subst (λ (r : Result (List (List ℕ)) Fault). EndsRead outside r ended) read.2 ends;
}

-- what opening answered, and what came of it
pub opened_ends : (outside : Outside) (texts : List (List ℕ)) (opening : Result Tables OpenWhy) (answer : Result Tables Fault) (ended : Result Done Fault) →
    MayOpen outside.tells (outside.disk_before.content log_file) (Rose outside.disk_before.faults outside.disk.faults) opening → answer ≡ opened opening → EndsPlayed outside texts answer ended → EndsOpened outside texts ended
opened_ends outside texts opening answer ended may is ends = record {
  opening = opening;
  may_open = may;
  is = subst (λ (r : Result Tables Fault). EndsPlayed outside texts r ended) is ends;
}

-- the count of faults has risen since an earlier moment too
pub rose_on : (before mid now : Told) → mid.faults ≤ now.faults → Rose before.faults mid.faults → Rose before.faults now.faults
rose_on before mid now later rose = omega (arith, later, rose)

-- no script was asked for
pub asks_none : (names asked : List (List ℕ)) → AsksFirst names asked asked
asks_none [] asked = record { count = 0; is = sym (append-nil asked) }
asks_none (name ∷ names) asked = record { count = 0; is = sym (append-nil asked) }

-- a fault of the end is one of the outcome
pub outcome_fault : (ended : Result Done Fault) (P : Fault → Type 0) → IfErr ended P → IfErr (outcome_of ended) P
outcome_fault (Err fault) P h = h
outcome_fault (Ok Made) P h = tt
outcome_fault (Ok (Played session)) P h = tt
outcome_fault (Ok (Translated text)) P h = tt
outcome_fault (Ok (Dumped text)) P h = tt
