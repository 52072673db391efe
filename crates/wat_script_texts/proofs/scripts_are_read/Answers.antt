use Rattle.wat_parse.specs.Statements.{statements_of}
use Rattle.wat_script_texts.specs.Texts.{script_text}
use Rattle.wat_script_texts.proofs.Running.{run_same}
use Rattle.wat_script_texts.proofs.Script.{script_read}
use Rattle.wat_script_texts.proofs.scripts_are_read.Goals as goal

pub returns-clause-statements : goal.returns-clause-statements
returns-clause-statements c = script_read c.spelled_tokens_are_read.ensures c.numbers_below_zero_are_read.ensures.readable

pub returns-clause-run : goal.returns-clause-run
returns-clause-run c = λ xs t ok runs.
    run_same (script_text xs) 1 (statements_of (script_text xs)) xs (script_read c.spelled_tokens_are_read.ensures c.numbers_below_zero_are_read.ensures.readable xs ok) runs t
