-- The answer from the lines.
use Rattle.std.proofs.Common.{◌≡◌, List, map, Option, Some, None, sym, ap, ◌∙◌, cond}
use Rattle.wat_ast.specs.declared.query.Query.{Query}
use Rattle.wat_expr.specs.Evaluation.{Combination}
use Rattle.wat_group.specs.declared.answer.Finished.TheVariants.{Rows, Arithmetic}
use Rattle.wat_group.specs.declared.line.Line.{Line}
use Rattle.wat_group.specs.Query.{Row, unless, fails, lines, ordered, distinct_if, answer_over}
use Rattle.wat_group.proofs.Unless.{from_some, from_none}

pub arithmetic_is : (q : Query) (rows : List Combination) → ◌≡◌ {A = Option (List Line)} None (unless (fails q rows) (lines q rows)) → Arithmetic ≡ answer_over q rows
unfolding answer_over
arithmetic_is q rows none =
    sym (ap (λ b. cond b Arithmetic (Rows (distinct_if q.distinct (map (λ line. line.row) (ordered (lines q rows)))))) (from_none (fails q rows) (lines q rows) none))

pub rows_are : (q : Query) (rows : List Combination) (found : List Line) (shown : List Row) → Some found ≡ unless (fails q rows) (lines q rows)
    → shown ≡ distinct_if q.distinct (map (λ line. line.row) (ordered found)) → Rows shown ≡ answer_over q rows
unfolding answer_over
rows_are q rows found shown some is =
    let sound = from_some (fails q rows) (lines q rows) found some in
    ap Rows (is ∙ ap (λ ls. distinct_if q.distinct (map (λ line. line.row) (ordered ls))) sound.1)
    ∙ sym (ap (λ b. cond b Arithmetic (Rows (distinct_if q.distinct (map (λ line. line.row) (ordered (lines q rows)))))) sound.0)
