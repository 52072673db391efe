use Rattle.std.proofs.Common.{ℕ, Result, map, string_bytes, sym, subst}
use Rattle.wat_disk.specs.Disk.{Told}
use Rattle.wat_words.specs.declared.Command.{Command}
use Rattle.wat_begin.specs.declared.fault.Fault.{Fault}
use Rattle.wat_tool.specs.declared.performing.Done.{Done}
use Rattle.wat_tool.specs.Ending.{Outside, Ends, LeavesUntouched}
use Rattle.wat_tool.specs.Finishes.{Finishes}
use Rattle.wat_tool.specs.Reporting.{Output, Reports}
use Rattle.wat_tool.proofs.BackLemmas.{gives_back}
use Rattle.wat_tool.proofs.EndingLemmas.{outcome_fault}
use Rattle.wat_tool.proofs.SessionLemmas.{outcome_has}
use Rattle.wat_tool.proofs.StatusLemmas.{status_0, status_1, status_1_or_7, status_2, status_4}
use Rattle.std.specs.Prelude.{IfErr}
use Rattle.wat_tool.proofs.tool.run_tool.Goals as goal

pub returns : goal.returns
returns g c =
    let words = map string_bytes c.args.words.now in
    let outside : Told → Outside = λ now. record {
      texts = g.L.Scripts.texts c.args.scripts.now;
      asked_before = g.L.Scripts.asked c.args.scripts.now;
      asked = g.L.Scripts.asked c.perform-ended.new.scripts;
      script_faults_before = g.L.Scripts.faults c.args.scripts.now;
      script_faults = g.L.Scripts.faults c.perform-ended.new.scripts;
      tells = g.D.Disk.tells_content;
      disk_before = g.D.Disk.told c.args.disk;
      disk = now;
    } in
    let output : Output = record {
      taken_before = g.K.Sink.taken c.args.out.now;
      taken = g.K.Sink.taken c.report-status.new.out;
      faults_before = g.K.Sink.faults c.args.out.now;
      faults = g.K.Sink.faults c.report-status.new.out;
    } in
    let now = g.D.Disk.told c.perform-ended.new.disk in
    let end = c.perform-ended.result in
    let status = c.report-status.result in
    let done = c.perform-ended.ensures in
    let reports : Reports output end status = c.report-status.ensures in
    let left = c.finished.result in
    let is : Finishes (outside now) output words status left.outcome left.session left.text = record {
      ends = subst (Ends (outside now) words) (sym c.finished.ensures.ended) done.ends;
      asks = done.asks;
      nothing_asked = c.finished.ensures.nothing_asked;
      no_text = c.finished.ensures.no_text;
      read_back = gives_back (now.content 2) c.translated_law.ensures.runs;
      history = outcome_has (outside now) words left.outcome left.session left.text (subst (Ends (outside now) words) (sym c.finished.ensures.ended) done.ends);
      untouched = subst (λ (o : Result Command Fault). IfErr o (LeavesUntouched words (g.D.Disk.told c.args.disk) now)) (sym c.finished.ensures.outcome) (outcome_fault end (LeavesUntouched words (g.D.Disk.told c.args.disk) now) done.untouched);
      init = done.init;
      reports = subst (λ (e : Result Done Fault). Reports output e status) (sym c.finished.ensures.ended) reports;
      script_faults = λ well. done.script_faults (λ i is. well (status_2 output end status i reports is));
      disk_faults = λ well. done.disk_faults (λ met. well (status_4 output end status reports met));
      usage = status_1 (outside now) words output end status done.ends reports;
      no_command = λ none. status_1_or_7 output end status reports (done.no_command none);
      well = status_0 (outside now) words output end status done.ends reports;
    } in
    subst (λ d. Finishes (outside (g.D.Disk.told d)) output words left.status left.outcome left.session left.text) (sym c.finished.ensures.disk)
    (subst (λ (s : ℕ). Finishes (outside now) output words s left.outcome left.session left.text) (sym c.finished.ensures.status) is)
