use Rattle.std.proofs.Common.{◌≡◌, ℕ, ◌++◌, decimal, codes, append_assoc}
use Rattle.std.proofs.KnownBytes.{Appends-trans}
use Rattle.wat_tool.specs.Reporting.{fault_line}
use Rattle.wat_begin.specs.declared.fault.Fault.TheVariants.{NotText}
use Rattle.wat_tool.proofs.SinkLemmas.{AppendsPart-front, AppendsPart-back}
use Rattle.wat_tool.proofs.writing.write_not_text.Goals as goal

two_parts : (i at : ℕ) → fault_line (NotText i at) ≡ (codes "watsql: script " ++ (decimal i ++ codes " is not text at ")) ++ (decimal at ++ codes "\n")
two_parts i at = simp append_assoc

pub returns-in-Err-clause-err : goal.returns-in-Err-clause-err
returns-in-Err-clause-err g c = rw (two_parts c.args.script c.args.at) (AppendsPart-front _ _ _ _ c.in-Err.ensures.err)

pub returns-in-Err-write_numbered-clause-err : goal.returns-in-Err-write_numbered-clause-err
returns-in-Err-write_numbered-clause-err g c = rw (two_parts c.args.script c.args.at) (AppendsPart-back _ _ _ _ _ c.in-Ok.ensures.ok c.in-Err-write_numbered.ensures.err)

pub returns-in-Ok-write_numbered-clause-ok : goal.returns-in-Ok-write_numbered-clause-ok
returns-in-Ok-write_numbered-clause-ok g c = rw (two_parts c.args.script c.args.at) (Appends-trans _ _ _ _ _ c.in-Ok.ensures.ok c.in-Ok-write_numbered.ensures.ok)
