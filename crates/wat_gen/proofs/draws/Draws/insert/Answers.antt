use Rattle.std.proofs.Common.{ℕ, refl}
use Rattle.wat_gen.specs.declared.statement.Statement.TheVariants.{Insert}
use Rattle.wat_gen.specs.Numbers.{◌>>=◌, draw, given}
use Rattle.wat_gen.specs.Statements.{drawn_insert}
use Rattle.wat_gen.proofs.Drawing.{gives_bind}
use Rattle.wat_gen.proofs.draws.Draws.insert.Goals as goal

pub returns : goal.returns
unfolding drawn_insert
returns c =
    let k = c.draw-k in
    let v = c.draw-v in
    gives_bind (draw 1000) (λ (a : ℕ). draw 100 >>= (λ (b : ℕ). given (Insert a b))) _ _ _ _ _ k.ensures.drawn (gives_bind (draw 100) (λ (b : ℕ). given (Insert k.result b)) _ _ _ _ _ v.ensures.drawn refl)
