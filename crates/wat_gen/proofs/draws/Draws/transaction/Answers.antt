use Rattle.std.proofs.Common.{[], ◌∷◌, refl}
use Rattle.wat_gen.specs.declared.statement.Statement.{Statement}
use Rattle.wat_gen.specs.declared.statement.Statement.TheVariants.{Commit}
use Rattle.wat_gen.specs.Numbers.{◌>>=◌, given}
use Rattle.wat_gen.specs.Statements.{drawn_statement, drawn_transaction}
use Rattle.wat_gen.proofs.Drawing.{gives_bind}
use Rattle.wat_gen.proofs.draws.Draws.transaction.Goals as goal

pub returns : goal.returns
unfolding drawn_transaction
returns c =
    let first = c.statement-first.result in
    let second = c.statement-second.result in
    let last = gives_bind drawn_statement (λ (t : Statement). given (first ∷ second ∷ t ∷ Commit ∷ [])) _ _ _ _ _ c.statement-third.ensures refl in
    gives_bind drawn_statement (λ (f : Statement). drawn_statement >>= (λ (s : Statement). drawn_statement >>= (λ (t : Statement). given (f ∷ s ∷ t ∷ Commit ∷ [])))) _ _ _ _ _ c.statement-first.ensures (gives_bind drawn_statement (λ (s : Statement). drawn_statement >>= (λ (t : Statement). given (first ∷ s ∷ t ∷ Commit ∷ []))) _ _ _ _ _ c.statement-second.ensures last)
