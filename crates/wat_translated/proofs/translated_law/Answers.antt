use Rattle.std.proofs.Common.{◌≡◌, true, List, Some, sym, ap, ◌∙◌, subst}
use Rattle.std.specs.List.{list_all}
use Rattle.wat_value.specs.declared.change.Act.{Act}
use Rattle.wat_schema.specs.Tables.{apply_all, no_tables}
use Rattle.wat_schema.proofs.Database.{no_tables_hold}
use Rattle.wat_replay.specs.State.{no_lists}
use Rattle.wat_script_texts.specs.Written.{acts_of}
use Rattle.wat_written_laws.specs.Named.{act_named}
use Rattle.wat_translated.specs.Translated.{transactions_of}
use Rattle.wat_translated.proofs.Named.{log_named}
use Rattle.wat_translated.proofs.Transactions.{all_acts}
use Rattle.wat_translated.proofs.translated_law.Goals as goal

pub returns-clause-acts : goal.returns-clause-acts
returns-clause-acts c = all_acts

pub returns-clause-runs : goal.returns-clause-runs
returns-clause-runs c = λ bodies entries t spelled is.
    let same = all_acts entries no_lists in
    c.written_scripts_are_made.ensures.transactions no_tables t (transactions_of entries no_lists) no_tables_hold c.written_acts_are_readable.ensures.empty
    (ap (list_all act_named) same ∙ log_named bodies entries no_lists spelled)
    (ap (λ (acts : List Act). apply_all acts no_tables) same ∙ is)
