use Rattle.std.proofs.Common.{◌++◌, decimal}
use Rattle.wat_tool.proofs.SinkLemmas.{AppendsPart-back}
use Rattle.wat_tool.proofs.writing.write_numbered.Goals as goal

pub returns-in-Err-write_both-clause-err : goal.returns-in-Err-write_both-clause-err
returns-in-Err-write_both-clause-err g c =
    let part = rw (c.as_bytes.ensures.value, c.format.ensures.text) at c.in-Err-write_both.ensures.err in
    AppendsPart-back _ _ _ c.args.front.now (decimal c.args.number ++ c.args.back.now) c.in-Ok.ensures.ok part
