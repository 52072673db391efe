use Rattle.std.proofs.Common.{◌≡◌, ◌≢◌, Err, ◌∙◌, rules, arith}
use Rattle.std.proofs.lemmas.Grind.{common_steps}
use Rattle.wat_grammar.specs.Phrase.{read_within}
use Rattle.wat_grammar.proofs.Outcomes.{bind_err_of}
use Rattle.wat_syntax.specs.Sql.{sql, predicate, sum}
use Rattle.wat_cursor.specs.declared.fault.Fault.TheVariants.{Memory}
use Rattle.wat_expressions.proofs.Firsts.{predicate_is}
use Rattle.wat_expressions.proofs.reader.Reader.predicate.Goals as goal

pub returns-in_err-arg : goal.returns-in_err-arg
returns-in_err-arg g c =
    let e : c.in_err-arg.field-0.0 ≢ Memory → read_within sql c.args.self.now.levels predicate c.args.cursor.now ≡ Err c.sum.new.cursor =
    λ h. predicate_is c.args.self.now.levels c.args.cursor.now ∙ bind_err_of (read_within sql c.args.self.now.levels sum c.args.cursor.now) _ _ (c.in_err-arg.ensures h) in
    first_of (search rules, grind (arith, common_steps))
