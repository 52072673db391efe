use Rattle.std.proofs.Common.{◌≡◌, ◌++◌, ℕ, List, Ok, Err, Result, length, refl, sym, map, string_bytes, ap, ◌∙◌, subst}
use Rattle.wat_faults.specs.Faults.{Rose}
use Rattle.wat_gate.specs.Bodies.{bodies}
use Rattle.wat_gate.specs.GateLog.{frames_of}
use Rattle.wat_commit_log.specs.Logged.{log_file}
use Rattle.wat_words.specs.Commands.{names_of}
use Rattle.wat_words.specs.declared.Command.TheVariants.{Run}
use Rattle.wat_begin.specs.Faults.{UnlessMemory}
use Rattle.wat_begin.specs.Readings.{Reading, AreReadings, names_asked, scripts_of}
use Rattle.wat_begin.specs.declared.fault.Fault.{Fault}
use Rattle.wat_tool.proofs.CalledLemmas.{MayOpen-later, one_script, opened_on_disk, opened_tables}
use Rattle.wat_tool.proofs.EndingLemmas.{memory_ends, opened_ends, or_memory, rose_on, run_ends, unless_both}
use Rattle.wat_tool.proofs.SessionLemmas.{session_of}
use Rattle.wat_tool.proofs.UntouchedLemmas.{untouched_here}
use Rattle.wat_tool.specs.declared.performing.Done.{Done}
use Rattle.wat_tool.specs.declared.performing.Done.TheVariants.{Played}
use Rattle.wat_tool.specs.Ending.{Outside, EndsRun, IsUntouched}
use Rattle.wat_tool.proofs.performing.run_script.Goals as goal

-- what was read under these names
abbrev WasRead : (outside : Outside) (names : List (List ℕ)) (answer : Result (List (List ℕ)) Fault) → Type 0
WasRead outside names answer = (readings : List Reading) × AreReadings outside.texts outside.script_faults_before outside.script_faults (names_asked names answer) readings × (answer ≡ scripts_of 1 readings)

pub returns-in-Err-clause-ends : goal.returns-in-Err-clause-ends
returns-in-Err-clause-ends g c =
    let outside : Outside = record {
      texts = g.L.Scripts.texts c.args.scripts.now;
      asked_before = g.L.Scripts.asked c.args.scripts.now;
      asked = g.L.Scripts.asked c.read_scripts.new.scripts;
      script_faults_before = g.L.Scripts.faults c.args.scripts.now;
      script_faults = g.L.Scripts.faults c.read_scripts.new.scripts;
      tells = g.D.Disk.tells_content;
      disk_before = g.D.Disk.told c.args.disk.now;
      disk = g.D.Disk.told c.args.disk.now;
    } in
    let words = map string_bytes c.args.words.now in
    let fault = c.in-Err.fault in
    let names = map string_bytes c.script_names.result.now in
    subst (λ (n : List (List ℕ)). UnlessMemory {A = Done} (Err fault) (EndsRun outside n (Err fault))) c.script_names.ensures
    (unless_both (List (List ℕ)) Done fault (outside.asked ≡ outside.asked_before ++ names_asked {A = List (List ℕ)} names (Err fault)) (WasRead outside names (Err fault)) (EndsRun outside names (Err fault)) c.in-Err.ensures.asked c.in-Err.ensures.read (λ asked read. run_ends outside names (Err fault) (Err fault) asked read refl))

pub returns-in-Err-clause-asks : goal.returns-in-Err-clause-asks
returns-in-Err-clause-asks g c = record { count = c.read_scripts.ensures.asked_first.0; is = rw (← c.script_names.ensures) c.read_scripts.ensures.asked_first.1 }

pub returns-in-Err-clause-untouched : goal.returns-in-Err-clause-untouched
returns-in-Err-clause-untouched g c = untouched_here (g.D.Disk.told c.args.disk.now)

pub play_script-requires-clause-one : goal.play_script-requires-clause-one
play_script-requires-clause-one g c =
    one_script (g.L.Scripts.texts c.args.scripts.now) (g.L.Scripts.faults c.args.scripts.now) (g.L.Scripts.faults c.read_scripts.new.scripts) (map string_bytes c.args.words.now)
    c.in-Ok.ensures.read.0 c.in-Ok.texts c.requires.command (rw (← c.script_names.ensures) c.in-Ok.ensures.read.1) c.in-Ok.ensures.read.2

pub returns-in-Err-open_log-clause-ends : goal.returns-in-Err-open_log-clause-ends
returns-in-Err-open_log-clause-ends g c =
    let opening = c.in-Err-open_log.ensures.opening in
    let outside : Outside = record {
      texts = g.L.Scripts.texts c.args.scripts.now;
      asked_before = g.L.Scripts.asked c.args.scripts.now;
      asked = g.L.Scripts.asked c.read_scripts.new.scripts;
      script_faults_before = g.L.Scripts.faults c.args.scripts.now;
      script_faults = g.L.Scripts.faults c.read_scripts.new.scripts;
      tells = g.D.Disk.tells_content;
      disk_before = g.D.Disk.told c.args.disk.now;
      disk = g.D.Disk.told c.open_log.new.disk;
    } in
    let fault = c.in-Err-open_log.fault in
    let names = map string_bytes c.script_names.result.now in
    or_memory fault (EndsRun outside (names_of Run (map string_bytes c.args.words.now)) (Err fault))
    (subst (λ (n : List (List ℕ)). EndsRun outside n (Err fault)) c.script_names.ensures
    (run_ends outside names (Ok c.in-Ok.texts) (Err fault) c.in-Ok.ensures.asked c.in-Ok.ensures.read (opened_ends outside c.in-Ok.texts opening.0 (Err fault) (Err fault) opening.1 opening.2 refl)))

pub returns-in-Err-open_log-clause-asks : goal.returns-in-Err-open_log-clause-asks
returns-in-Err-open_log-clause-asks g c = record { count = c.read_scripts.ensures.asked_first.0; is = rw (← c.script_names.ensures) c.read_scripts.ensures.asked_first.1 }

pub returns-in-Err-open_log-clause-uncalled : goal.returns-in-Err-open_log-clause-uncalled
returns-in-Err-open_log-clause-uncalled g c early = absurd (opened_on_disk c.in-Err-open_log.ensures.opening.0 c.in-Err-open_log.fault c.in-Err-open_log.ensures.opening.2 early)

pub returns-in-Ok-play_script-clause-ends : goal.returns-in-Ok-play_script-clause-ends
returns-in-Ok-play_script-clause-ends g c =
    let opening = c.in-Ok-open_log.ensures.opening in
    let before = g.D.Disk.told c.args.disk.now in
    let mid = g.D.Disk.told c.open_log.new.disk in
    let now = g.D.Disk.told c.play_script.new.disk in
    let outside : Outside = record {
      texts = g.L.Scripts.texts c.args.scripts.now;
      asked_before = g.L.Scripts.asked c.args.scripts.now;
      asked = g.L.Scripts.asked c.read_scripts.new.scripts;
      script_faults_before = g.L.Scripts.faults c.args.scripts.now;
      script_faults = g.L.Scripts.faults c.read_scripts.new.scripts;
      tells = g.D.Disk.tells_content;
      disk_before = before;
      disk = now;
    } in
    let session = c.in-Ok-play_script.session in
    let names = map string_bytes c.script_names.result.now in
    let log = c.in-Ok-open_log.opened.log in
    let tables = c.in-Ok-open_log.opened.tables in
    let untouched : IsUntouched before mid = c.open_log.ensures.untouched in
    let frames : g.D.Disk.tells_content → frames_of log ≡ length (bodies (before.content log_file)) = λ tells.
    (c.in-Ok-open_log.ensures.log tells).log.frames ∙ ap (λ (f : ℕ). length (bodies (mid.content f))) c.in-Ok-open_log.ensures.file ∙ ap (λ (l : List ℕ). length (bodies l)) (untouched.content log_file) in
    subst (λ (n : List (List ℕ)). EndsRun outside n (Ok (Played session))) c.script_names.ensures
    (run_ends outside names (Ok c.in-Ok.texts) (Ok (Played session)) c.in-Ok.ensures.asked c.in-Ok.ensures.read
    (opened_ends outside c.in-Ok.texts opening.0 (Ok tables) (Ok (Played session))
    (MayOpen-later g.D.Disk.tells_content (before.content log_file) (Rose before.faults mid.faults) (Rose before.faults now.faults) opening.0 (rose_on before mid now c.play_script.ensures.never_falls) opening.1)
    opening.2
    (session_of outside mid c.in-Ok.texts tables session (frames_of log) untouched (c.open_log.ensures.cause.kept (λ e. let ok = c.in-Ok-open_log.is in cc)) c.in-Ok-open_log.ensures.calls frames
    (opened_tables g.D.Disk.tells_content (before.content log_file) (Rose before.faults mid.faults) opening.0 tables opening.2 opening.1) c.in-Ok-open_log.ensures.tables c.in-Ok-play_script.ensures.session)))

pub returns-in-Ok-play_script-clause-asks : goal.returns-in-Ok-play_script-clause-asks
returns-in-Ok-play_script-clause-asks g c = record { count = c.read_scripts.ensures.asked_first.0; is = rw (← c.script_names.ensures) c.read_scripts.ensures.asked_first.1 }

pub returns-in-Err-play_script-clause-ends : goal.returns-in-Err-play_script-clause-ends
returns-in-Err-play_script-clause-ends g c = memory_ends c.in-Err-play_script.fault _ c.in-Err-play_script.ensures.memory

pub returns-in-Err-play_script-clause-asks : goal.returns-in-Err-play_script-clause-asks
returns-in-Err-play_script-clause-asks g c = record { count = c.read_scripts.ensures.asked_first.0; is = rw (← c.script_names.ensures) c.read_scripts.ensures.asked_first.1 }

pub returns-in-Err-play_script-clause-untouched : goal.returns-in-Err-play_script-clause-untouched
returns-in-Err-play_script-clause-untouched g c =
    subst (λ d. IsUntouched (g.D.Disk.told c.args.disk.now) (g.D.Disk.told d)) (sym c.in-Err-play_script.ensures.not_begun) c.in-Ok-open_log.ensures.untouched
