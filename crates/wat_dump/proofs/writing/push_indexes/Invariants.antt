use Rattle.std.proofs.Common.{◌≡◌, ◌++◌, take}
use Rattle.wat_script_texts.specs.Texts.{script_text}
use Rattle.wat_dump.specs.Dumping.{index_statements}
use Rattle.wat_dump.proofs.writing.push_indexes.Given as goal

abbrev pub invariant-loop-index : goal.invariant-loop-index
invariant-loop-index l = l.out.items ≡ l.fn.out.items ++ script_text (index_statements l.schema l.def (take l.index-index l.indexes))
