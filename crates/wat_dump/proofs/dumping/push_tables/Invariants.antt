use Rattle.std.proofs.Common.{◌≡◌, ◌++◌, take}
use Rattle.std.specs.List.{flat_map}
use Rattle.wat_script_texts.specs.Texts.{script_text}
use Rattle.wat_dump.specs.Dumping.{statements_called}
use Rattle.wat_dump.proofs.dumping.push_tables.Given as goal

abbrev pub invariant-loop-def : goal.invariant-loop-def
invariant-loop-def l = l.out.items ≡ l.fn.out.items ++ script_text (flat_map (statements_called l.tables l.indexes) (take l.def-index l.defs))
