use Rattle.std.proofs.Common.{◌≡◌, ◌++◌, drop}
use Rattle.std.specs.List.{filter_map}
use Rattle.wat_ast.specs.declared.query.Source.{Source}
use Rattle.wat_meaning.specs.Meaning.{def_called}
use Rattle.wat_made.proofs.answering.source_defs.Given as goal

abbrev pub invariant-loop-source : goal.invariant-loop-source
invariant-loop-source l = l.defs ++ filter_map (λ (source : Source). def_called l.schema source.table) (drop l.source-index l.source-items) ≡ filter_map (λ (source : Source). def_called l.schema source.table) l.source-items
