use Rattle.std.proofs.Common.{◌∙◌}
use Rattle.wat_script_texts.specs.Written.{acts_of, transactions_from}
use Rattle.wat_script_texts.proofs.Acts.{makes_acts, transactions_written}
use Rattle.wat_script_texts.proofs.written_scripts_are_made.Goals as goal

pub returns-clause-acts : goal.returns-clause-acts
returns-clause-acts c = λ t u acts xs ok named all is e.
    let m = makes_acts c.written_acts_are_made.ensures.made c.written_acts_are_made.ensures.unwritten c.written_acts_are_readable.ensures.readable c.written_acts_are_readable.ensures.kept is u ok named all e in
    c.scripts_are_read.ensures.run xs t m.readable m.runs ∙ m.gives 1

pub returns-clause-transactions : goal.returns-clause-transactions
returns-clause-transactions c = λ t u log ok named all e.
    returns-clause-acts c t u (acts_of log) (transactions_from t log) ok named all (transactions_written log t u e) e
