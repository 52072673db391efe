use Rattle.std.proofs.Common.{◌≡◌, ◌∙◌, ap, ℕ, List, [], ◌∷◌, ◌++◌, arith}
use Rattle.wat_gen.specs.declared.statement.Statement.{Statement}
use Rattle.wat_gen.specs.declared.statement.Statement.TheVariants.{SetLevel}
use Rattle.wat_gen.proofs.Beginning.{first_script, front_of, leveled, opened, opened_off, other_script}
use Rattle.wat_gen.proofs.opening.push_opening.Goals as goal
use Rattle.wat_gen.proofs.opening.push_opening.Goals.{then-script-eq1+in_ok-push_filling, else-script-eq1}

with_level : (begun all : List Statement) (level script : ℕ) → all ≡ begun ++ SetLevel level ∷ [] → SetLevel level ≡ leveled script → all ≡ begun ++ leveled script ∷ []
with_level begun all level script e same = e ∙ ap (λ s. begun ++ s ∷ []) same

pub returns-in_ok-push-2 : goal.returns-in_ok-push-2
returns-in_ok-push-2 c =
    let old = c.args.statements.now in
    let begun : c.if-script-eq1.statements ≡ old ++ front_of c.args.script =
    elim c.if-script-eq1.branch [
      | then-script-eq1+in_ok-push_filling w ↦ first_script old c.if-script-eq1.statements c.args.script w.if-script-eq1.true (w.statements-is ∙ w.in_ok-push_filling.ensures)
      | else-script-eq1 w ↦ other_script old c.if-script-eq1.statements c.args.script w.if-script-eq1.false w.statements-is
    ] in
    let middle = with_level c.if-script-eq1.statements c.push.new.self c.level_of.result c.args.script c.in_ok-push.ensures.ok (ap SetLevel c.level_of.ensures) in
    opened_off old c.if-script-eq1.statements c.push.new.self c.push-then-script-ge7.new.self c.args.script begun middle c.in_ok-push-2.ensures.ok (omega arith)

pub returns-else-script-ge7 : goal.returns-else-script-ge7
returns-else-script-ge7 c =
    let old = c.args.statements.now in
    let begun : c.if-script-eq1.statements ≡ old ++ front_of c.args.script =
    elim c.if-script-eq1.branch [
      | then-script-eq1+in_ok-push_filling w ↦ first_script old c.if-script-eq1.statements c.args.script w.if-script-eq1.true (w.statements-is ∙ w.in_ok-push_filling.ensures)
      | else-script-eq1 w ↦ other_script old c.if-script-eq1.statements c.args.script w.if-script-eq1.false w.statements-is
    ] in
    let middle = with_level c.if-script-eq1.statements c.push.new.self c.level_of.result c.args.script c.in_ok-push.ensures.ok (ap SetLevel c.level_of.ensures) in
    opened old c.if-script-eq1.statements c.push.new.self c.args.script begun middle (omega arith)
