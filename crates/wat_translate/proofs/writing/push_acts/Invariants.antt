use Rattle.std.proofs.Common.{◌≡◌, ◌++◌, take}
use Rattle.wat_script_texts.specs.Texts.{script_text}
use Rattle.wat_translate.specs.Writing.{statements_by}
use Rattle.wat_translate.proofs.writing.push_acts.Given as goal

abbrev pub invariant-loop-act : goal.invariant-loop-act
invariant-loop-act l = l.out.items ≡ l.fn.out.items ++ script_text (statements_by l.schema (take l.act-index l.acts))
