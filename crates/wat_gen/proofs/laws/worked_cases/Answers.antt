use Rattle.std.proofs.Common.{refl}
use Rattle.std.specs.Fmt.{digits}
use Rattle.wat_gen.specs.Between.{between_text}
use Rattle.wat_gen.specs.Numbers.{draw}
use Rattle.wat_gen.specs.Schedule.{drawn_turn}
use Rattle.wat_gen.specs.Statements.{drawn_count, drawn_delete, drawn_insert, drawn_statement, drawn_transaction, drawn_update}
use Rattle.wat_gen.proofs.laws.worked_cases.Goals as goal

pub returns-clause-transaction : goal.returns-clause-transaction
unfolding draw drawn_insert drawn_update drawn_delete drawn_count drawn_statement drawn_transaction
returns-clause-transaction c = refl

pub returns-clause-turn : goal.returns-clause-turn
unfolding draw drawn_turn
returns-clause-turn c = refl

pub returns-clause-levels : goal.returns-clause-levels
returns-clause-levels c = refl

pub returns-clause-texts : goal.returns-clause-texts
unfolding digits between_text
returns-clause-texts c = (refl, refl)
