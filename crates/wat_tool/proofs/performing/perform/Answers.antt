use Rattle.std.proofs.Common.{◌≡◌, Ok, Err, None, Some, Option, Result, refl, sym, subst, map, string_bytes}
use Rattle.std.specs.Prelude.{⊤}
use Rattle.wat_words.specs.Commands.{command_of}
use Rattle.wat_words.specs.declared.Command.{Command}
use Rattle.wat_words.specs.declared.Command.TheVariants.{Init, Translate, Dump}
use Rattle.wat_begin.specs.declared.fault.Fault.{Fault}
use Rattle.wat_tool.proofs.EndingLemmas.{asks_none, dump_ends, leaves_all, or_memory, run_leaves, translate_ends}
use Rattle.wat_tool.proofs.UntouchedLemmas.{first_byte_here, untouched_here}
use Rattle.wat_tool.specs.declared.performing.Done.TheVariants.{Made}
use Rattle.wat_tool.specs.Called.{names_called}
use Rattle.wat_tool.specs.Ending.{Outside, EndsBy, EndsMade}
use Rattle.wat_tool.proofs.performing.perform.Goals as goal

pub returns-in-Ok-clause-ends : goal.returns-in-Ok-clause-ends
returns-in-Ok-clause-ends g c =
    let words = map string_bytes c.args.words.now in
    let command : command_of words ≡ Some Init =
    let read = c.in-Ok-Some-Init.ensures.command in let some = c.in-Ok-Some-Init.field-0-is in let init = c.in-Ok-Some-Init.field-0-0-is in cc in
    let making = c.in-Ok.ensures.making in
    let outside : Outside = record {
      texts = g.L.Scripts.texts c.args.scripts.now;
      asked_before = g.L.Scripts.asked c.args.scripts.now;
      asked = g.L.Scripts.asked c.args.scripts.now;
      script_faults_before = g.L.Scripts.faults c.args.scripts.now;
      script_faults = g.L.Scripts.faults c.args.scripts.now;
      tells = g.D.Disk.tells_content;
      disk_before = g.D.Disk.told c.args.disk.now;
      disk = g.D.Disk.told c.make_database.new.disk;
    } in
    subst (λ (command : Option Command). EndsBy outside words command (Ok Made)) (sym command) (record {
      making = making.0;
      may_make = making.1;
      is = subst (λ (r : Result ⊤ Fault). EndsMade outside r (Ok Made)) making.2 (refl, c.in-Ok.ensures.made);
    })

pub returns-in-Err-make_database-clause-ends : goal.returns-in-Err-make_database-clause-ends
returns-in-Err-make_database-clause-ends g c =
    let words = map string_bytes c.args.words.now in
    let command : command_of words ≡ Some Init =
    let read = c.in-Ok-Some-Init.ensures.command in let some = c.in-Ok-Some-Init.field-0-is in let init = c.in-Ok-Some-Init.field-0-0-is in cc in
    let making = c.in-Err-make_database.ensures.making in
    let fault = c.in-Err-make_database.fault in
    let outside : Outside = record {
      texts = g.L.Scripts.texts c.args.scripts.now;
      asked_before = g.L.Scripts.asked c.args.scripts.now;
      asked = g.L.Scripts.asked c.args.scripts.now;
      script_faults_before = g.L.Scripts.faults c.args.scripts.now;
      script_faults = g.L.Scripts.faults c.args.scripts.now;
      tells = g.D.Disk.tells_content;
      disk_before = g.D.Disk.told c.args.disk.now;
      disk = g.D.Disk.told c.make_database.new.disk;
    } in
    or_memory fault (EndsBy outside words (command_of words) (Err fault))
    (subst (λ (command : Option Command). EndsBy outside words command (Err fault)) (sym command) (record {
      making = making.0;
      may_make = making.1;
      is = subst (λ (r : Result ⊤ Fault). EndsMade outside r (Err fault)) making.2 refl;
    }))

pub returns-in-Ok-clause-asks : goal.returns-in-Ok-clause-asks
returns-in-Ok-clause-asks g c = asks_none (names_called (map string_bytes c.args.words.now)) (g.L.Scripts.asked c.args.scripts.now)

pub returns-in-Err-make_database-clause-asks : goal.returns-in-Err-make_database-clause-asks
returns-in-Err-make_database-clause-asks g c = asks_none (names_called (map string_bytes c.args.words.now)) (g.L.Scripts.asked c.args.scripts.now)

pub returns-in-Ok-Some-Translate-clause-ends : goal.returns-in-Ok-Some-Translate-clause-ends
returns-in-Ok-Some-Translate-clause-ends g c =
    let words = map string_bytes c.args.words.now in
    let command : command_of words ≡ Some Translate =
    let read = c.in-Ok-Some-Translate.ensures.command in let some = c.in-Ok-Some-Translate.field-0-is in let translate = c.in-Ok-Some-Translate.field-0-0-is in cc in
    let outside : Outside = record {
      texts = g.L.Scripts.texts c.args.scripts.now;
      asked_before = g.L.Scripts.asked c.args.scripts.now;
      asked = g.L.Scripts.asked c.args.scripts.now;
      script_faults_before = g.L.Scripts.faults c.args.scripts.now;
      script_faults = g.L.Scripts.faults c.args.scripts.now;
      tells = g.D.Disk.tells_content;
      disk_before = g.D.Disk.told c.args.disk.now;
      disk = g.D.Disk.told c.translate_log.new.disk;
    } in
    translate_ends outside words c.translate_log.result command c.translate_log.ensures.ends

pub returns-in-Ok-Some-Translate-clause-asks : goal.returns-in-Ok-Some-Translate-clause-asks
returns-in-Ok-Some-Translate-clause-asks g c = asks_none (names_called (map string_bytes c.args.words.now)) (g.L.Scripts.asked c.args.scripts.now)

pub returns-in-Ok-Some-Translate-clause-untouched : goal.returns-in-Ok-Some-Translate-clause-untouched
returns-in-Ok-Some-Translate-clause-untouched g c =
    leaves_all (map string_bytes c.args.words.now) (g.D.Disk.told c.args.disk.now) (g.D.Disk.told c.translate_log.new.disk) c.translate_log.result c.translate_log.ensures.untouched c.translate_log.ensures.on_disk

pub returns-in-Ok-Some-Dump-clause-ends : goal.returns-in-Ok-Some-Dump-clause-ends
returns-in-Ok-Some-Dump-clause-ends g c =
    let words = map string_bytes c.args.words.now in
    let command : command_of words ≡ Some Dump =
    let read = c.in-Ok-Some-Dump.ensures.command in let some = c.in-Ok-Some-Dump.field-0-is in let dump = c.in-Ok-Some-Dump.field-0-0-is in cc in
    let outside : Outside = record {
      texts = g.L.Scripts.texts c.args.scripts.now;
      asked_before = g.L.Scripts.asked c.args.scripts.now;
      asked = g.L.Scripts.asked c.args.scripts.now;
      script_faults_before = g.L.Scripts.faults c.args.scripts.now;
      script_faults = g.L.Scripts.faults c.args.scripts.now;
      tells = g.D.Disk.tells_content;
      disk_before = g.D.Disk.told c.args.disk.now;
      disk = g.D.Disk.told c.dump_tables.new.disk;
    } in
    dump_ends outside words c.dump_tables.result command c.dump_tables.ensures.ends

pub returns-in-Ok-Some-Dump-clause-asks : goal.returns-in-Ok-Some-Dump-clause-asks
returns-in-Ok-Some-Dump-clause-asks g c = asks_none (names_called (map string_bytes c.args.words.now)) (g.L.Scripts.asked c.args.scripts.now)

pub returns-in-Ok-Some-Dump-clause-untouched : goal.returns-in-Ok-Some-Dump-clause-untouched
returns-in-Ok-Some-Dump-clause-untouched g c =
    leaves_all (map string_bytes c.args.words.now) (g.D.Disk.told c.args.disk.now) (g.D.Disk.told c.dump_tables.new.disk) c.dump_tables.result c.dump_tables.ensures.untouched c.dump_tables.ensures.on_disk

pub returns-in-Ok-Some-Run-clause-untouched : goal.returns-in-Ok-Some-Run-clause-untouched
returns-in-Ok-Some-Run-clause-untouched g c =
    run_leaves (map string_bytes c.args.words.now) (g.D.Disk.told c.args.disk.now) (g.D.Disk.told c.run_script.new.disk) c.run_script.result c.run_script.ensures.untouched c.run_script.ensures.uncalled

pub returns-in-Ok-None-clause-ends : goal.returns-in-Ok-None-clause-ends
returns-in-Ok-None-clause-ends g c =
    let none : command_of (map string_bytes c.args.words.now) ≡ None = let read = c.in-Ok-None.ensures.command in let is = c.in-Ok-None.field-0-is in cc in
    rw none refl

pub returns-in-Ok-None-clause-asks : goal.returns-in-Ok-None-clause-asks
returns-in-Ok-None-clause-asks g c = asks_none (names_called (map string_bytes c.args.words.now)) (g.L.Scripts.asked c.args.scripts.now)

pub returns-in-Ok-None-clause-untouched : goal.returns-in-Ok-None-clause-untouched
returns-in-Ok-None-clause-untouched g c = record { untouched = λ other. untouched_here (g.D.Disk.told c.args.disk.now); uncalled = λ early. refl }

pub returns-in-Err-clause-asks : goal.returns-in-Err-clause-asks
returns-in-Err-clause-asks g c = asks_none (names_called (map string_bytes c.args.words.now)) (g.L.Scripts.asked c.args.scripts.now)

pub returns-in-Err-clause-untouched : goal.returns-in-Err-clause-untouched
returns-in-Err-clause-untouched g c = record { untouched = λ other. untouched_here (g.D.Disk.told c.args.disk.now); uncalled = λ early. refl }

pub returns-in-Err-clause-init : goal.returns-in-Err-clause-init
returns-in-Err-clause-init g c is = first_byte_here (g.D.Disk.told c.args.disk.now)
