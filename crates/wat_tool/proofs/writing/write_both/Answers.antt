use Rattle.wat_tool.proofs.SinkLemmas.{AppendsPart-back}
use Rattle.wat_tool.proofs.writing.write_both.Goals as goal

pub returns-in-Err-write_all-clause-err : goal.returns-in-Err-write_all-clause-err
returns-in-Err-write_all-clause-err g c = AppendsPart-back _ _ _ c.args.first.now c.args.second.now c.in-Ok.ensures.ok c.in-Err-write_all.ensures.err
