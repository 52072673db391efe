-- What the steps of a command come to.
use Rattle.std.proofs.Common.{◌≡◌, ◌⊎◌, inl, inr, ⊎_elim, ℕ, ◌+◌, ◌≤◌, ◌<◌, Bool, true, false, List, [], ◌∷◌, length, Option, None, Some, Result, Ok, Err, refl, sym, ap, subst, arith, if◌then◌else◌}
use Rattle.wat_schema.specs.Tables.{Tables}
use Rattle.std.proofs.lemmas.Bool.{cases_order, lt-ltb}
use Rattle.std.specs.Prelude.{nat_lt}
use Rattle.std.specs.Str.Lossy.{utf8_valid_len}
use Rattle.wat_io.specs.Scripts.{Texts}
use Rattle.wat_commit_log.specs.Logged.{Restarts}
use Rattle.wat_commit_log.specs.Opening.{MayOpen}
use Rattle.wat_commit_log.specs.declared.opening.OpenWhy.{OpenWhy}
use Rattle.wat_commit_log.specs.declared.opening.OpenWhy.TheVariants as why
use Rattle.wat_words.specs.Commands.{alone, command_of, names_of, run_of}
use Rattle.wat_words.specs.declared.Command.{Command}
use Rattle.wat_words.specs.declared.Command.TheVariants.{Init, Run, Translate, Dump}
use Rattle.wat_begin.specs.Faults.{◌>>=◌}
use Rattle.wat_begin.specs.Readings.{Reading, Holds, Missing, Failing, AreReadings, script_of, scripts_of, script_limit}
use Rattle.wat_begin.specs.declared.fault.Fault.{Fault}
use Rattle.wat_begin.specs.declared.fault.Fault.TheVariants.{Usage, TooLong, NotText, NoDatabase, Damaged, DiskFault, Memory}
use Rattle.wat_tool.specs.Called.{opened}
use Rattle.wat_tool.specs.Ending.{IsBeforeDisk}
use Rattle.wat_session.specs.Session.{IsOneScript}

is_run : (dashed init run translate dump : Bool) (x y z w : Option Command) → (if dashed then None else if init then x else if run then y else if translate then z else if dump then w else None) ≡ Some Run
    → (x ≡ Some Run → ⊥) → (z ≡ Some Run → ⊥) → (w ≡ Some Run → ⊥) → y ≡ Some Run
is_run true init run translate dump x y z w is other back last = cc
is_run false true run translate dump x y z w is other back last = absurd (other is)
is_run false false true translate dump x y z w is other back last = is
is_run false false false true dump x y z w is other back last = absurd (back is)
is_run false false false false true x y z w is other back last = absurd (last is)
is_run false false false false false x y z w is other back last = cc

no_init : (rest : List (List ℕ)) → alone Init rest ≡ Some Run → ⊥
no_init [] is = cc
no_init (word ∷ rest) is = cc

no_translate : (rest : List (List ℕ)) → alone Translate rest ≡ Some Run → ⊥
no_translate [] is = cc
no_translate (word ∷ rest) is = cc

no_dump : (rest : List (List ℕ)) → alone Dump rest ≡ Some Run → ⊥
no_dump [] is = cc
no_dump (word ∷ rest) is = cc

one_word : (rest : List (List ℕ)) → run_of rest ≡ Some Run → (name : List ℕ) × (rest ≡ name ∷ [])
one_word [] is = cc
one_word (name ∷ []) is = (name, refl)
one_word (name ∷ other ∷ rest) is = cc

-- run names one script
pub one_name : (words : List (List ℕ)) → command_of words ≡ Some Run → (name : List ℕ) × (names_of Run words ≡ name ∷ [])
one_name [] is = cc
one_name (word ∷ rest) is = one_word rest (is_run _ _ _ _ _ (alone Init rest) (run_of rest) (alone Translate rest) (alone Dump rest) is (no_init rest) (no_translate rest) (no_dump rest))

text_or : (answer : Result (List ℕ) Fault) (texts : List (List ℕ)) → (answer >>= λ text. Ok (text ∷ [])) ≡ Ok texts → (text : List ℕ) × (answer ≡ Ok text) × (texts ≡ text ∷ [])
text_or (Ok text) texts is = (text, refl, cc)
text_or (Err fault) texts is = cc

short_here : (b c : Bool) (i at : ℕ) (text found : List ℕ) → (b ≡ false → length text ≤ script_limit) →
    (if b then Err (TooLong i) else if c then Err (NotText i at) else Ok text) ≡ Ok found → length found ≤ script_limit
short_here true c i at text found short is = cc
short_here false true i at text found short is = cc
short_here false false i at text found short is = let same : text ≡ found = cc in subst (λ (t : List ℕ). length t ≤ script_limit) same (short refl)

not_less : (n m : ℕ) → nat_lt n m ≡ false → m ≤ n
not_less n m is = ⊎_elim (λ same. omega arith) (λ other. ⊎_elim (λ (less : n < m). let e = lt-ltb n m less in cc) (λ more. omega arith) other) (cases_order n m)

-- a script that is well is within the limit
script_of-short : (i : ℕ) (r : Reading) (text : List ℕ) → script_of i r ≡ Ok text → length text ≤ script_limit
script_of-short i (Holds held) text is =
    short_here (nat_lt script_limit (length held)) (nat_lt (utf8_valid_len held) (length held)) i (utf8_valid_len held) held text (not_less script_limit (length held)) is
script_of-short i Missing text is = cc
script_of-short i Failing text is = cc

one_reading : (told : Option Texts) (before now : ℕ) (name : List ℕ) (rs : List Reading) (texts : List (List ℕ)) → AreReadings told before now (name ∷ []) rs → Ok texts ≡ scripts_of 1 rs → IsOneScript texts
one_reading told before now name [] texts are is = absurd are
one_reading told before now name (r ∷ []) texts are is =
    let found = text_or (script_of 1 r) texts (sym is) in
    record { text = found.0; is = found.2; short = script_of-short 1 r found.0 found.1 }
one_reading told before now name (r ∷ other ∷ rs) texts are is = absurd are.2

-- The scripts that run reads are one text.
pub one_script : (told : Option Texts) (before now : ℕ) (words : List (List ℕ)) (rs : List Reading) (texts : List (List ℕ)) →
    command_of words ≡ Some Run → AreReadings told before now (names_of Run words) rs → Ok texts ≡ scripts_of 1 rs → IsOneScript texts
one_script told before now words rs texts command are is =
    let name = one_name words command in
    one_reading told before now name.0 rs texts (subst (λ (names : List (List ℕ)). AreReadings told before now names rs) name.1 are) is

-- Opening may still answer so when the count of faults has risen further.
pub MayOpen-later : (tells : Type 0) (content : List ℕ) (rose rose' : Type 0) (opening : Result Tables OpenWhy) → (rose → rose') → MayOpen tells content rose opening → MayOpen tells content rose' opening
MayOpen-later tells content rose rose' (Ok tables) further may = may
MayOpen-later tells content rose rose' (Err why.NoDatabase) further may = may
MayOpen-later tells content rose rose' (Err (why.Damaged at)) further may = may
MayOpen-later tells content rose rose' (Err why.DiskFault) further may = further may
MayOpen-later tells content rose rose' (Err why.Memory) further may = may

-- restart gives the tables of what was opened
pub opened_tables : (tells : Type 0) (content : List ℕ) (rose : Type 0) (opening : Result Tables OpenWhy) (tables : Tables) → Ok tables ≡ opened opening → MayOpen tells content rose opening → tells → Restarts content tables
opened_tables tells content rose (Ok found) tables is may told = let same : found ≡ tables = cc in subst (Restarts content) same (may told)
opened_tables tells content rose (Err why.NoDatabase) tables is may told = cc
opened_tables tells content rose (Err (why.Damaged at)) tables is may told = cc
opened_tables tells content rose (Err why.DiskFault) tables is may told = cc
opened_tables tells content rose (Err why.Memory) tables is may told = cc

-- no fault of the opening is one of the words or the scripts
pub opened_on_disk : (opening : Result Tables OpenWhy) (fault : Fault) → Err fault ≡ opened opening → IsBeforeDisk fault → ⊥
opened_on_disk (Ok tables) fault is early = cc
opened_on_disk (Err why.NoDatabase) fault is early = let same : fault ≡ NoDatabase = cc in subst IsBeforeDisk same early
opened_on_disk (Err (why.Damaged at)) fault is early = let same : fault ≡ Damaged at = cc in subst IsBeforeDisk same early
opened_on_disk (Err why.DiskFault) fault is early = let same : fault ≡ DiskFault = cc in subst IsBeforeDisk same early
opened_on_disk (Err why.Memory) fault is early = let same : fault ≡ Memory = cc in subst IsBeforeDisk same early

bind_err : {A B : Type 0} (r : Result A Fault) (f : A → Result B Fault) (fault : Fault) → (r >>= f) ≡ Err fault → (r ≡ Err fault) ⊎ ((x : A) × (f x ≡ Err fault))
bind_err (Ok x) f fault is = inr (x, is)
bind_err (Err e) f fault is = let same : e ≡ fault = cc in inl (ap Err same)

no_usage_text : (b c : Bool) (i at : ℕ) (text : List ℕ) → (if b then Err (TooLong i) else if c then Err (NotText i at) else Ok text) ≡ Err Usage → ⊥
no_usage_text true c i at text is = cc
no_usage_text false true i at text is = cc
no_usage_text false false i at text is = cc

no_usage_script : (i : ℕ) (r : Reading) → script_of i r ≡ Err Usage → ⊥
no_usage_script i (Holds text) is = no_usage_text (nat_lt script_limit (length text)) (nat_lt (utf8_valid_len text) (length text)) i (utf8_valid_len text) text is
no_usage_script i Missing is = cc
no_usage_script i Failing is = cc

pub no_usage_scripts : (i : ℕ) (rs : List Reading) → scripts_of i rs ≡ Err Usage → ⊥
no_usage_scripts i [] is = cc
no_usage_scripts i (r ∷ rs) is = ⊎_elim (no_usage_script i r)
    (λ first. ⊎_elim (no_usage_scripts (i + 1) rs) (λ rest. let e = rest.1 in cc) (bind_err (scripts_of (i + 1) rs) (λ texts. Ok (first.0 ∷ texts)) Usage first.1))
    (bind_err (script_of i r) (λ text. scripts_of (i + 1) rs >>= λ texts. Ok (text ∷ texts)) Usage is)
