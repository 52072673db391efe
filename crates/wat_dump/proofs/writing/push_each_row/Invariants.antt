use Rattle.std.proofs.Common.{◌≡◌, ◌++◌, map}
use Rattle.std.specs.List.{flat_map}
use Rattle.wat_meaning.specs.Meaning.{alone}
use Rattle.wat_script_texts.specs.Texts.{script_text}
use Rattle.wat_dump.specs.Dumping.{combination_statements}
use Rattle.wat_dump.proofs.writing.push_each_row.Given as goal

abbrev pub invariant-loop-rows : goal.invariant-loop-rows
invariant-loop-rows l = l.out.items ++ script_text (flat_map (combination_statements l.schema l.def) l.rows-iterator) ≡ l.fn.out.items ++ script_text (flat_map (combination_statements l.schema l.def) (map alone l.table.rows))
