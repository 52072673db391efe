use Rattle.std.proofs.Common.{◌≡◌, ℕ, List, Ok, sym, subst}
use Rattle.wat_schema.specs.Tables.{no_tables}
use Rattle.wat_commit_log.specs.Logged.{log_file}
use Rattle.wat_serial.specs.Script.{run}
use Rattle.wat_translate.specs.Reading.{IsReadBack}
use Rattle.wat_tool.proofs.performing.translate_log.Goals as goal

pub returns-in-Ok-clause-ends : goal.returns-in-Ok-clause-ends
returns-in-Ok-clause-ends g c tells = record {
  is = subst (IsReadBack ((g.D.Disk.told c.args.disk.now).content log_file)) (sym c.from_vec.ensures) (c.in-Ok.ensures.translated tells);
  runs = λ t restarts. subst (λ (text : List ℕ). run text no_tables ≡ Ok t) (sym c.from_vec.ensures) (c.in-Ok.ensures.runs tells t restarts);
}
