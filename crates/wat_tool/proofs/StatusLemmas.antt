-- The status of an end.
use Rattle.std.proofs.Common.{◌≡◌, ◌⊎◌, inl, inr, ⊎_elim, ℕ, ◌+◌, ◌-◌, ◌≤◌, Bool, true, false, List, [], ◌∷◌, length, Option, None, Some, Result, Ok, Err, refl, sym, ◌∙◌, ap, subst, arith}
use Rattle.wat_schema.specs.Tables.{Tables}
use Rattle.std.proofs.lemmas.List.Elements.{All-head, All-tail, All-take}
use Rattle.std.specs.Prelude.{⊤, All, IfSome, unwrap_or}
use Rattle.std.specs.Option.{option_map}
use Rattle.wat_faults.specs.Faults.{Rose}
use Rattle.wat_io.specs.Scripts.{Texts}
use Rattle.wat_commit_log.specs.Logged.{log_file, Restarts}
use Rattle.wat_commit_log.specs.Making.{MayMake}
use Rattle.wat_commit_log.specs.Opening.{MayOpen}
use Rattle.wat_commit_log.specs.declared.making.InitRefusal.{InitRefusal}
use Rattle.wat_commit_log.specs.declared.making.InitRefusal.TheVariants as refusal
use Rattle.wat_commit_log.specs.declared.opening.OpenWhy.{OpenWhy}
use Rattle.wat_commit_log.specs.declared.opening.OpenWhy.TheVariants as why
use Rattle.wat_conn.specs.declared.answer.Reason.{Reason}
use Rattle.wat_conn.specs.declared.answer.Reason.TheVariants as reason
use Rattle.wat_words.specs.Commands.{command_of, names_of}
use Rattle.wat_words.specs.declared.Command.{Command}
use Rattle.wat_words.specs.declared.Command.TheVariants.{Init, Run, Translate, Dump}
use Rattle.wat_begin.specs.Readings.{Reading, Holds, Missing, Failing, AreReadings, names_asked, scripts_of}
use Rattle.wat_begin.specs.declared.fault.Fault.{Fault}
use Rattle.wat_begin.specs.declared.fault.Fault.TheVariants.{Usage, CannotRead, TooLong, NotText, NoDatabase, Exists, Damaged, DiskFault, Memory}
use Rattle.wat_begin.proofs.ReadingLemmas.{is_text}
use Rattle.wat_session.specs.Saving.{MayStop}
use Rattle.wat_tool.specs.Called.{made, opened}
use Rattle.wat_tool.specs.Dumps.{EndsDumped}
use Rattle.wat_tool.specs.declared.performing.Done.{Done}
use Rattle.wat_tool.specs.declared.performing.Done.TheVariants.{Made, Played, Translated, Dumped}
use Rattle.wat_tool.specs.Ending.{Outside, Ends, EndsBy, EndsMade, EndsPlayed, EndsRead, EndsTranslate, HasText, IsWell, MetDiskFault, Serves}
use Rattle.wat_tool.specs.Reporting.{Output, Reports, status_of, session_status, fault_status}
use Rattle.wat_translate.specs.Reading.{IsReadBack}
use Rattle.wat_tool.proofs.BackLemmas.{never_fails}
use Rattle.wat_tool.proofs.CalledLemmas.{no_usage_scripts}
use Rattle.wat_tool.proofs.EndingLemmas.{unless_memory}

usage_status : (fault : Fault) → fault_status fault ≡ 1 → fault ≡ Usage
usage_status Usage is = refl
usage_status (CannotRead i) is = absurd (omega (arith, is))
usage_status (TooLong i) is = absurd (omega (arith, is))
usage_status (NotText i at) is = absurd (omega (arith, is))
usage_status NoDatabase is = absurd (omega (arith, is))
usage_status Exists is = absurd (omega (arith, is))
usage_status (Damaged at) is = absurd (omega (arith, is))
usage_status DiskFault is = absurd (omega (arith, is))
usage_status Memory is = absurd (omega (arith, is))

no_usage_session : (stop : Option Reason) (found whole : Bool) → session_status stop found whole ≡ 1 → ⊥
no_usage_session (Some reason.DiskFault) found whole is = omega (arith, is)
no_usage_session (Some (reason.Damaged file at)) found whole is = omega (arith, is)
no_usage_session (Some (reason.PageLimit count limit)) found whole is = omega (arith, is)
no_usage_session (Some reason.Memory) found whole is = omega (arith, is)
no_usage_session None false whole is = omega (arith, is)
no_usage_session None true false is = omega (arith, is)
no_usage_session None true true is = omega (arith, is)

no_usage_made : (outside : Outside) (making : Result ⊤ InitRefusal) → EndsMade outside (made making) (Err Usage) → ⊥
no_usage_made outside (Ok done) is = let e = is.0 in cc
no_usage_made outside (Err refusal.Exists) is = cc
no_usage_made outside (Err refusal.DiskFault) is = cc
no_usage_made outside (Err refusal.Memory) is = cc

no_usage_opened : (outside : Outside) (texts : List (List ℕ)) (opening : Result Tables OpenWhy) → EndsPlayed outside texts (opened opening) (Err Usage) → ⊥
no_usage_opened outside texts (Ok tables) is = is
no_usage_opened outside texts (Err why.NoDatabase) is = cc
no_usage_opened outside texts (Err (why.Damaged at)) is = cc
no_usage_opened outside texts (Err why.DiskFault) is = cc
no_usage_opened outside texts (Err why.Memory) is = cc

no_usage_read : (outside : Outside) (readings : List Reading) (answer : Result (List (List ℕ)) Fault) → scripts_of 1 readings ≡ answer → EndsRead outside answer (Err Usage) → ⊥
no_usage_read outside readings (Ok texts) read is = no_usage_opened outside texts is.opening is.is
no_usage_read outside readings (Err fault) read is = let same : fault ≡ Usage = cc in no_usage_scripts 1 readings (read ∙ ap Err same)

no_usage_dumped : (tells : Type 0) (opening : Result Tables OpenWhy) → EndsDumped tells (opened opening) (Err Usage) → ⊥
no_usage_dumped tells (Ok tables) is = let e = is.is in cc
no_usage_dumped tells (Err why.NoDatabase) is = cc
no_usage_dumped tells (Err (why.Damaged at)) is = cc
no_usage_dumped tells (Err why.DiskFault) is = cc
no_usage_dumped tells (Err why.Memory) is = cc

usage_by : (outside : Outside) (words : List (List ℕ)) (command : Option Command) → EndsBy outside words command (Err Usage) → command ≡ None
usage_by outside words None is = refl
usage_by outside words (Some Init) is = absurd (no_usage_made outside is.making is.is)
usage_by outside words (Some Run) is = absurd (no_usage_read outside is.readings (scripts_of 1 is.readings) refl is.is)
usage_by outside words (Some Translate) is = absurd is
usage_by outside words (Some Dump) is = absurd (no_usage_dumped outside.tells is.opening is.is)

usage_ends : (outside : Outside) (words : List (List ℕ)) (ended : Result Done Fault) (found whole : Bool) → Ends outside words ended → status_of ended found whole ≡ 1 → command_of words ≡ None
usage_ends outside words (Ok Made) found whole ends is = absurd (omega (arith, is))
usage_ends outside words (Ok (Played session)) found whole ends is = absurd (no_usage_session session.stop found whole is)
usage_ends outside words (Ok (Translated text)) found whole ends is = absurd (no_usage_session None true whole is)
usage_ends outside words (Ok (Dumped text)) found whole ends is = absurd (no_usage_session None true whole is)
usage_ends outside words (Err fault) found whole ends is =
    let usage = usage_status fault is in
    let ends_so : Ends outside words (Err Usage) = subst (λ (f : Fault). Ends outside words (Err f)) usage ends in
    usage_by outside words (command_of words) ends_so

-- Status 1 stands for words that are no command.
pub status_1 : (outside : Outside) (words : List (List ℕ)) (output : Output) (ended : Result Done Fault) (status : ℕ) → Ends outside words ended → Reports output ended status → status ≡ 1 → command_of words ≡ None
status_1 outside words output ended status ends reports one = usage_ends outside words ended reports.found reports.whole ends (sym reports.is ∙ one)

-- Words that are no command end with status 1, unless memory was wanted.
pub status_1_or_7 : (output : Output) (ended : Result Done Fault) (status : ℕ) → Reports output ended status → (ended ≡ Err Usage) ⊎ (ended ≡ Err Memory) → (status ≡ 1) ⊎ (status ≡ 7)
status_1_or_7 output ended status reports either =
    let status_so = λ (e : Result Done Fault). status_of e reports.found reports.whole in
    ⊎_elim (λ (usage : ended ≡ Err Usage). inl (reports.is ∙ ap status_so usage)) (λ (memory : ended ≡ Err Memory). inr (reports.is ∙ ap status_so memory)) either

met_status : (ended : Result Done Fault) (found whole : Bool) → MetDiskFault ended → status_of ended found whole ≡ 4
met_status (Err fault) found whole met = ap fault_status met
met_status (Ok Made) found whole met = absurd met
met_status (Ok (Translated text)) found whole met = absurd met
met_status (Ok (Dumped text)) found whole met = absurd met
met_status (Ok (Played session)) found whole met = ap (λ (stop : Option Reason). session_status stop found whole) met

-- A fault of the disk ends with status 4.
pub status_4 : (output : Output) (ended : Result Done Fault) (status : ℕ) → Reports output ended status → MetDiskFault ended → status ≡ 4
status_4 output ended status reports met = reports.is ∙ met_status ended reports.found reports.whole met

-- A script that can't be read ends with status 2.
pub status_2 : (output : Output) (ended : Result Done Fault) (status i : ℕ) → Reports output ended status → ended ≡ Err (CannotRead i) → status ≡ 2
status_2 output ended status i reports is = reports.is ∙ ap (λ (e : Result Done Fault). status_of e reports.found reports.whole) is

-- A count that rose stays so over more readings.
rose_kept : (told : Option Texts) (start before now : ℕ) (names : List (List ℕ)) (rs : List Reading) → AreReadings told before now names rs → Rose start before → Rose start now
rose_kept told start before now [] [] are rose = subst (λ (n : ℕ). Rose start n) (sym are) rose
rose_kept told start before now [] (r ∷ rs) are rose = absurd are
rose_kept told start before now (name ∷ names) [] are rose = absurd are
rose_kept told start before now (name ∷ names) (Holds text ∷ rs) are rose = rose_kept told start are.0 now names rs are.2 (subst (λ (n : ℕ). Rose start n) (sym are.1.1) rose)
rose_kept told start before now (name ∷ names) (Missing ∷ rs) are rose = rose_kept told start are.0 now names rs are.2 (subst (λ (n : ℕ). Rose start n) (sym are.1.1) rose)
rose_kept told start before now (name ∷ names) (Failing ∷ rs) are rose = rose_kept told start are.0 now names rs are.2 (omega (arith, are.1, rose))

-- Where each name has its text and no read failed, the scripts are those texts.
texts_read : (texts : Texts) (before now : ℕ) (names : List (List ℕ)) (rs : List Reading) (i : ℕ) → All (HasText texts) names → AreReadings (Some texts) before now names rs → ¬ Rose before now →
    (found : List (List ℕ)) × (scripts_of i rs ≡ Ok found)
texts_read texts before now [] [] i have are calm = ([], refl)
texts_read texts before now [] (r ∷ rs) i have are calm = absurd are
texts_read texts before now (name ∷ names) [] i have are calm = absurd are
texts_read texts before now (name ∷ names) (Holds text ∷ rs) i have are calm =
    let has : HasText texts name = All-head (HasText texts) name names have in
    let rest = texts_read texts before now names rs (i + 1) (All-tail (HasText texts) name names have) (subst (λ (n : ℕ). AreReadings (Some texts) n now names rs) are.1.1 are.2) calm in
    let stands = are.1.0 in
    let known = has.stands in
    let same : has.text ≡ text = cc in
    let short : length text ≤ 16777216 = subst (λ (t : List ℕ). length t ≤ 16777216) same has.short in
    let first = is_text i text short (let e = has.is_text in rw same at e) in
    (text ∷ rest.0, rw (first, rest.1) refl)
texts_read texts before now (name ∷ names) (Missing ∷ rs) i have are calm =
    let has : HasText texts name = All-head (HasText texts) name names have in
    let known = has.stands in
    let missing = are.1.0 in
    cc
texts_read texts before now (name ∷ names) (Failing ∷ rs) i have are calm = absurd (calm (rose_kept (Some texts) before are.0 now names rs are.2 are.1))

-- the names that were asked for have what all have
asked_have : (P : List ℕ → Type 0) (names : List (List ℕ)) (answer : Result (List (List ℕ)) Fault) → All P names → All P (names_asked names answer)
asked_have P names (Ok texts) have = have
asked_have P names (Err Usage) have = have
asked_have P names (Err (CannotRead i)) have = All-take P i names have
asked_have P names (Err (TooLong i)) have = All-take P i names have
asked_have P names (Err (NotText i at)) have = All-take P i names have
asked_have P names (Err NoDatabase) have = have
asked_have P names (Err Exists) have = have
asked_have P names (Err (Damaged at)) have = have
asked_have P names (Err DiskFault) have = have
asked_have P names (Err Memory) have = have

-- the names that a command names
abbrev names_by : List (List ℕ) → Option Command → List (List ℕ)
names_by words command = unwrap_or (option_map (λ command. names_of command words) command) []

-- the end gives status 0, or memory was wanted
EndsWell : Result Done Fault → Bool → Bool → Type 0
EndsWell ended found whole = (status_of ended found whole ≡ 0) ⊎ (status_of ended found whole ≡ 7)

wants_memory : (ended : Result Done Fault) (found whole : Bool) → ended ≡ Err Memory → EndsWell ended found whole
unfolding EndsWell
wants_memory ended found whole is = inr (ap (λ (e : Result Done Fault). status_of e found whole) is)

calm_status : (stop : Option Reason) (found whole : Bool) → IfSome stop MayStop → (stop ≡ Some reason.DiskFault → ⊥) → (whole ≡ false → ⊥) → (session_status stop found whole ≡ 0) ⊎ (session_status stop found whole ≡ 7)
calm_status (Some reason.DiskFault) found whole may disk sink = absurd (disk refl)
calm_status (Some (reason.Damaged file at)) found whole may disk sink = absurd (⊎_elim (λ e. cc) (λ e. cc) may)
calm_status (Some (reason.PageLimit count limit)) found whole may disk sink = absurd (⊎_elim (λ e. cc) (λ e. cc) may)
calm_status (Some reason.Memory) found whole may disk sink = inr refl
calm_status None false whole may disk sink = inr refl
calm_status None true false may disk sink = absurd (sink refl)
calm_status None true true may disk sink = inl refl

init_well : (outside : Outside) (making : Result ⊤ InitRefusal) (ended : Result Done Fault) (found whole : Bool) → outside.tells → outside.disk_before.content log_file ≡ [] → ¬ Rose outside.disk_before.faults outside.disk.faults →
    MayMake outside.tells (outside.disk_before.content log_file) (Rose outside.disk_before.faults outside.disk.faults) making → EndsMade outside (made making) ended → EndsWell ended found whole
unfolding EndsWell
init_well outside (Ok done) ended found whole told empty calm may ends = inl (ap (λ (e : Result Done Fault). status_of e found whole) ends.0)
init_well outside (Err refusal.Exists) ended found whole told empty calm may ends = absurd (may told empty)
init_well outside (Err refusal.DiskFault) ended found whole told empty calm may ends = absurd (calm may)
init_well outside (Err refusal.Memory) ended found whole told empty calm may ends = wants_memory ended found whole ends

played_well : (outside : Outside) (texts : List (List ℕ)) (tables : Tables) (ended : Result Done Fault) (found whole : Bool) → ¬ Rose outside.disk_before.faults outside.disk.faults → (whole ≡ false → ⊥) →
    EndsPlayed outside texts (Ok tables) ended → EndsWell ended found whole
unfolding EndsWell
played_well outside texts tables (Ok Made) found whole calm sink ends = absurd ends
played_well outside texts tables (Ok (Played session)) found whole calm sink ends = calm_status session.stop found whole ends.is.leaves.reason (λ stop. calm (ends.is.leaves.disk_fault stop)) sink
played_well outside texts tables (Ok (Translated text)) found whole calm sink ends = absurd ends
played_well outside texts tables (Ok (Dumped text)) found whole calm sink ends = absurd ends
played_well outside texts tables (Err fault) found whole calm sink ends = absurd ends

whole_text : (whole : Bool) → (whole ≡ false → ⊥) → (session_status None true whole ≡ 0) ⊎ (session_status None true whole ≡ 7)
whole_text false sink = absurd (sink refl)
whole_text true sink = inl refl

translated_well : (outside : Outside) (text : List ℕ) (ended : Result Done Fault) (found whole : Bool) → outside.tells → IsReadBack (outside.disk_before.content log_file) text →
    ¬ Rose outside.disk_before.faults outside.disk.faults → (whole ≡ false → ⊥) → EndsTranslate outside ended → EndsWell ended found whole
unfolding EndsWell
translated_well outside text (Ok Made) found whole told back calm sink ends = absurd ends
translated_well outside text (Ok (Played session)) found whole told back calm sink ends = absurd ends
translated_well outside text (Ok (Translated held)) found whole told back calm sink ends = whole_text whole sink
translated_well outside text (Ok (Dumped held)) found whole told back calm sink ends = absurd ends
translated_well outside text (Err Usage) found whole told back calm sink ends = absurd ends
translated_well outside text (Err (CannotRead i)) found whole told back calm sink ends = absurd ends
translated_well outside text (Err (TooLong i)) found whole told back calm sink ends = absurd ends
translated_well outside text (Err (NotText i at)) found whole told back calm sink ends = absurd ends
translated_well outside text (Err NoDatabase) found whole told back calm sink ends = absurd (omega (arith, back.whole.there, ap length (ends told 2 (omega arith))))
translated_well outside text (Err Exists) found whole told back calm sink ends = absurd ends
translated_well outside text (Err (Damaged at)) found whole told back calm sink ends = absurd (never_fails (outside.disk_before.content log_file) text at back (ends told).fails)
translated_well outside text (Err DiskFault) found whole told back calm sink ends = absurd (calm ends)
translated_well outside text (Err Memory) found whole told back calm sink ends = inr refl

opened_well : (outside : Outside) (texts : List (List ℕ)) (opening : Result Tables OpenWhy) (ended : Result Done Fault) (found whole : Bool) (tables : Tables) → outside.tells →
    Restarts (outside.disk_before.content log_file) tables → ¬ Rose outside.disk_before.faults outside.disk.faults → (whole ≡ false → ⊥) →
    MayOpen outside.tells (outside.disk_before.content log_file) (Rose outside.disk_before.faults outside.disk.faults) opening → EndsPlayed outside texts (opened opening) ended → EndsWell ended found whole
opened_well outside texts (Ok found_tables) ended found whole tables told restarts calm sink may ends = played_well outside texts found_tables ended found whole calm sink ends
opened_well outside texts (Err why.NoDatabase) ended found whole tables told restarts calm sink may ends = absurd (omega (arith, restarts.logged.whole.there, ap length (may told)))
opened_well outside texts (Err (why.Damaged at)) ended found whole tables told restarts calm sink may ends = absurd ((may told).none tables restarts)
opened_well outside texts (Err why.DiskFault) ended found whole tables told restarts calm sink may ends = absurd (calm may)
opened_well outside texts (Err why.Memory) ended found whole tables told restarts calm sink may ends = wants_memory ended found whole ends

dumped_well : (outside : Outside) (opening : Result Tables OpenWhy) (ended : Result Done Fault) (found whole : Bool) (tables : Tables) → outside.tells →
    Restarts (outside.disk_before.content log_file) tables → ¬ Rose outside.disk_before.faults outside.disk.faults → (whole ≡ false → ⊥) →
    MayOpen outside.tells (outside.disk_before.content log_file) (Rose outside.disk_before.faults outside.disk.faults) opening → EndsDumped outside.tells (opened opening) ended → EndsWell ended found whole
unfolding EndsWell
dumped_well outside (Ok found_tables) ended found whole tables told restarts calm sink may ends = subst (λ (e : Result Done Fault). EndsWell e found whole) (sym ends.is) (whole_text whole sink)
dumped_well outside (Err why.NoDatabase) ended found whole tables told restarts calm sink may ends = absurd (omega (arith, restarts.logged.whole.there, ap length (may told)))
dumped_well outside (Err (why.Damaged at)) ended found whole tables told restarts calm sink may ends = absurd ((may told).none tables restarts)
dumped_well outside (Err why.DiskFault) ended found whole tables told restarts calm sink may ends = absurd (calm may)
dumped_well outside (Err why.Memory) ended found whole tables told restarts calm sink may ends = wants_memory ended found whole ends

read_well : (outside : Outside) (answer : Result (List (List ℕ)) Fault) (texts : List (List ℕ)) (ended : Result Done Fault) (found whole : Bool) (tables : Tables) → answer ≡ Ok texts → outside.tells →
    Restarts (outside.disk_before.content log_file) tables → ¬ Rose outside.disk_before.faults outside.disk.faults → (whole ≡ false → ⊥) → EndsRead outside answer ended → EndsWell ended found whole
read_well outside (Ok found_texts) texts ended found whole tables read told restarts calm sink ends = opened_well outside found_texts ends.opening ended found whole tables told restarts calm sink ends.may_open ends.is
read_well outside (Err fault) texts ended found whole tables read told restarts calm sink ends = cc

by_well : (outside : Outside) (words : List (List ℕ)) (command : Command) (ended : Result Done Fault) (found whole : Bool) (texts : Texts) → outside.texts ≡ Some texts → All (HasText texts) (names_of command words) → outside.tells →
    Serves command (outside.disk_before.content log_file) → ¬ Rose outside.script_faults_before outside.script_faults → ¬ Rose outside.disk_before.faults outside.disk.faults → (whole ≡ false → ⊥) →
    EndsBy outside words (Some command) ended → EndsWell ended found whole
by_well outside words Init ended found whole texts told have tells log script_faults calm sink ends = init_well outside ends.making ended found whole tells log calm ends.may_make ends.is
by_well outside words Translate ended found whole texts told have tells log script_faults calm sink ends = translated_well outside log.0 ended found whole tells log.1 calm sink ends
by_well outside words Dump ended found whole texts told have tells log script_faults calm sink ends = dumped_well outside ends.opening ended found whole log.0 tells log.1 calm sink ends.may_open ends.is
by_well outside words Run ended found whole texts told have tells log script_faults calm sink ends =
    let names = names_asked (names_of Run words) (scripts_of 1 ends.readings) in
    let are = subst (λ (t : Option Texts). AreReadings t outside.script_faults_before outside.script_faults names ends.readings) told ends.may_read in
    let read = texts_read texts outside.script_faults_before outside.script_faults names ends.readings 1 (asked_have (HasText texts) (names_of Run words) (scripts_of 1 ends.readings) have) are script_faults in
    read_well outside (scripts_of 1 ends.readings) read.0 ended found whole log.0 read.1 tells log.1 calm sink ends.is

-- Where all is well, the status is 0, or memory was wanted.
pub status_0 : (outside : Outside) (words : List (List ℕ)) (output : Output) (ended : Result Done Fault) (status : ℕ) →
    Ends outside words ended → Reports output ended status → IsWell outside words → ¬ Rose output.faults_before output.faults → (status ≡ 0) ⊎ (status ≡ 7)
unfolding EndsWell
status_0 outside words output ended status ends reports well calm =
    let have : All (HasText well.texts) (names_of well.command words) = subst (All (HasText well.texts)) (ap (λ (c : Option Command). names_by words c) well.is) well.scripts in
    let end : EndsWell ended reports.found reports.whole = ⊎_elim
    (λ (wanted : ended ≡ Err Memory). wants_memory ended reports.found reports.whole wanted)
    (λ (by : EndsBy outside words (command_of words) ended). by_well outside words well.command ended reports.found reports.whole well.texts well.told have well.tells well.log well.script_faults well.disk_faults
    (λ cut. calm (reports.rose cut)) (subst (λ (c : Option Command). EndsBy outside words c ended) well.is by))
    (unless_memory ended (EndsBy outside words (command_of words) ended) ends) in
    ⊎_elim (λ (zero : status_of ended reports.found reports.whole ≡ 0). inl (reports.is ∙ zero)) (λ (wanted : status_of ended reports.found reports.whole ≡ 7). inr (reports.is ∙ wanted)) end
