use Rattle.std.proofs.Common.{ℕ, ◌+◌, refl}
use Rattle.wat_gen.specs.declared.statement.Statement.TheVariants.{Update}
use Rattle.wat_gen.specs.Numbers.{◌>>=◌, draw, given}
use Rattle.wat_gen.specs.Statements.{drawn_update}
use Rattle.wat_gen.proofs.Drawing.{gives_bind}
use Rattle.wat_gen.proofs.draws.Draws.update.Goals as goal

pub returns : goal.returns
unfolding drawn_update
returns c =
    let low = c.draw-low.result in
    let width = c.draw-width.result in
    let last = gives_bind (draw 100) (λ (v : ℕ). given (Update v low (low + width))) _ _ _ _ _ c.draw-v.ensures.drawn refl in
    gives_bind (draw 1000) (λ (a : ℕ). draw 20 >>= (λ (w : ℕ). draw 100 >>= (λ (v : ℕ). given (Update v a (a + w))))) _ _ _ _ _ c.draw-low.ensures.drawn (gives_bind (draw 20) (λ (w : ℕ). draw 100 >>= (λ (v : ℕ). given (Update v low (low + w)))) _ _ _ _ _ c.draw-width.ensures.drawn last)
