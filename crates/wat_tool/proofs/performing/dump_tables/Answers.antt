use Rattle.std.proofs.Common.{ℕ, List, Result, Ok, Err, refl, ap, ◌∙◌, subst}
use Rattle.wat_schema.specs.Tables.{Tables}
use Rattle.wat_faults.specs.Faults.{Rose}
use Rattle.wat_gate.specs.Bodies.{bodies}
use Rattle.wat_commit_log.specs.Logged.{log_file}
use Rattle.wat_begin.specs.declared.fault.Fault.{Fault}
use Rattle.wat_tool.specs.declared.performing.Done.{Done}
use Rattle.wat_tool.specs.declared.performing.Done.TheVariants.{Dumped}
use Rattle.wat_tool.specs.Dumps.{EndsDumped, IsDump}
use Rattle.wat_tool.proofs.CalledLemmas.{opened_on_disk, opened_tables}
use Rattle.wat_tool.proofs.EndingLemmas.{or_memory}
use Rattle.wat_tool.proofs.performing.dump_tables.Goals as goal

pub returns-in-Err-clause-ends : goal.returns-in-Err-clause-ends
returns-in-Err-clause-ends g c =
    let before = g.D.Disk.told c.args.disk.now in
    let now = g.D.Disk.told c.open_log.new.disk in
    let opening = c.in-Err.ensures.opening in
    let fault = c.in-Err.fault in
    or_memory fault (IsDump g.D.Disk.tells_content (before.content log_file) (Rose before.faults now.faults) (Err fault))
    (record { opening = opening.0; may_open = opening.1; is = subst (λ (r : Result Tables Fault). EndsDumped g.D.Disk.tells_content r (Err fault)) opening.2 refl })

pub returns-in-Err-clause-on_disk : goal.returns-in-Err-clause-on_disk
returns-in-Err-clause-on_disk g c early = opened_on_disk c.in-Err.ensures.opening.0 c.in-Err.fault c.in-Err.ensures.opening.2 early

pub returns-in-Ok-dump-clause-ends : goal.returns-in-Ok-dump-clause-ends
returns-in-Ok-dump-clause-ends g c =
    let before = g.D.Disk.told c.args.disk.now in
    let now = g.D.Disk.told c.open_log.new.disk in
    let tells = g.D.Disk.tells_content in
    let opening = c.in-Ok.ensures.opening in
    let tables = c.in-Ok.opened.tables in
    let done : Result Done Fault = Ok (Dumped c.from_vec.result) in
    record {
      opening = opening.0;
      may_open = opening.1;
      is = subst (λ (r : Result Tables Fault). EndsDumped tells r done) opening.2 (record {
        is = ap (λ (t : List ℕ). Ok (Dumped t)) (c.from_vec.ensures ∙ c.in-Ok-dump.ensures.text);
        runs = λ told.
            let restarts = c.restart_laws.ensures.committed (before.content log_file) tables (opened_tables tells (before.content log_file) (Rose before.faults now.faults) opening.0 tables opening.2 opening.1 told) in
            c.dump_law.ensures.logged (bodies (before.content log_file)) restarts.entries tables restarts.spelled restarts.committed;
      });
    }
