use Rattle.std.proofs.Common.{◌≡◌, List, map, Option, Some, None, sym, ap, ◌∙◌, cond}
use Rattle.wat_group.specs.declared.line.Line.{Line}
use Rattle.wat_value.specs.Order.{key_eq}
use Rattle.wat_group.specs.Query.{unless, fails, lines, ordered, first_of_each, answer_over}
use Rattle.wat_walk.specs.Lent.{lent}
use Rattle.wat_group.proofs.AnyOrder.{same_order}
use Rattle.wat_group.proofs.AnswerLemmas.{arithmetic_is, rows_are}
use Rattle.wat_group.proofs.finishing.finish.Goals as goal

pub returns-in_default-clause-answer : goal.returns-in_default-clause-answer
returns-in_default-clause-answer c =
    let q = c.args.query.now in
    let in_keys = ap lent c.as_slice.ensures.value ∙ c.in_ok-rows.ensures in
    let none : ◌≡◌ {A = Option (List Line)} None (unless (fails q (lent c.as_slice.result.now)) (lines q (lent c.as_slice.result.now))) = rw c.in_default.is at c.in_ok-lines.ensures in
    arithmetic_is q (lent c.as_slice.result.now) none ∙ ap (answer_over q) in_keys

pub returns-in_default-clause-any_order : goal.returns-in_default-clause-any_order
returns-in_default-clause-any_order c met moved distinct = returns-in_default-clause-answer c ∙ ap (answer_over c.args.query.now) (same_order c.args.defs.now c.args.rows.now met moved distinct)

pub returns-then-query-clause-answer : goal.returns-then-query-clause-answer
returns-then-query-clause-answer c =
    let q = c.args.query.now in
    let in_keys = ap lent c.as_slice.ensures.value ∙ c.in_ok-rows.ensures in
    let found = c.in-Some.lines.items in
    let some : Some found ≡ unless (fails q (lent c.as_slice.result.now)) (lines q (lent c.as_slice.result.now)) = rw c.in-Some.is at c.in_ok-lines.ensures in
    let all = map (λ (line : Line). line.row) (ordered found) in
    let shown = c.in_ok-kept.ensures ∙ ap (first_of_each key_eq) c.in_ok-rows-2.ensures ∙ sym (ap (λ b. cond b (first_of_each key_eq all) all) c.if-query.true) in
    rows_are q (lent c.as_slice.result.now) found c.in_ok-kept.kept some shown ∙ ap (answer_over q) in_keys

pub returns-then-query-clause-any_order : goal.returns-then-query-clause-any_order
returns-then-query-clause-any_order c met moved distinct = returns-then-query-clause-answer c ∙ ap (answer_over c.args.query.now) (same_order c.args.defs.now c.args.rows.now met moved distinct)

pub returns-clause-answer : goal.returns-clause-answer
returns-clause-answer c =
    let q = c.args.query.now in
    let in_keys = ap lent c.as_slice.ensures.value ∙ c.in_ok-rows.ensures in
    let found = c.in-Some.lines.items in
    let some : Some found ≡ unless (fails q (lent c.as_slice.result.now)) (lines q (lent c.as_slice.result.now)) = rw c.in-Some.is at c.in_ok-lines.ensures in
    let all = map (λ (line : Line). line.row) (ordered found) in
    let shown = c.in_ok-rows-2.ensures ∙ sym (ap (λ b. cond b (first_of_each key_eq all) all) c.if-query.false) in
    rows_are q (lent c.as_slice.result.now) found c.in_ok-rows-2.rows some shown ∙ ap (answer_over q) in_keys

pub returns-clause-any_order : goal.returns-clause-any_order
returns-clause-any_order c met moved distinct = returns-clause-answer c ∙ ap (answer_over c.args.query.now) (same_order c.args.defs.now c.args.rows.now met moved distinct)
