use Rattle.std.proofs.Common.{◌<◌, arith, ◌∙◌}
use Rattle.wat_plan.proofs.SourceLemmas.{own_some, own_none}
use Rattle.wat_plan.proofs.source_table.SourceTable.own_columns.Goals as goal

pub returns-in-Some : goal.returns-in-Some
returns-in-Some c =
    let above : 0 < c.args.number = omega arith in
    c.as_slice.ensures ∙ own_some c.args.self.now.indexes c.args.number c.in-Some.index.now above c.in-Some.ensures

pub returns-in-None : goal.returns-in-None
returns-in-None c =
    let above : 0 < c.args.number = omega arith in
    own_none c.args.self.now.indexes c.args.number above c.in-None.ensures
