-- The worked cases, by computing.
use Rattle.std.proofs.Common.{◌≡◌, ℕ, [], ◌∷◌, length, slice_index_or, true, Some, Ok, codes, refl, ap, sym, subst, ◌∙◌, arith}
use Rattle.wat_value.specs.declared.change.SchemaChange.TheVariants as schema
use Rattle.wat_value.specs.declared.change.Act.TheVariants.{OnSchema}
use Rattle.wat_ast.specs.declared.statement.Statement.{Statement}
use Rattle.wat_ast.specs.declared.statement.Statement.TheVariants as s
use Rattle.wat_ast.specs.declared.expression.BinaryOp.TheVariants as op
use Rattle.wat_ast.specs.declared.expression.Expr.TheVariants as e
use Rattle.wat_value.specs.declared.value.Value.TheVariants.{Text}
use Rattle.std.specs.List.{list_all}
use Rattle.wat_schema.specs.Tables.{Tables, catalog_of}
use Rattle.wat_meaning.specs.declared.reply.Meaning.{Meaning}
use Rattle.wat_meaning.specs.declared.reply.Reply.{Reply}
use Rattle.wat_meaning.specs.declared.reply.Reply.TheVariants as reply
use Rattle.wat_meaning.specs.Cases.{base, t_def, row, n, int}
use Rattle.wat_meaning.proofs.Examples.{update_cases}
use Rattle.wat_history.specs.Connection.{Part}
use Rattle.wat_history.specs.Serial.{Means, says}
use Rattle.wat_history.specs.Cases.{between, left, deleting, delete_rows, select_keys, dropped, rollback, ConnectionCases, AnswerCases, HistoryCases, SerialCases, PlainCases, CutCases}
use Rattle.wat_walk.specs.Parts.{written_in, bare_in, is_aggregated, arguments_in, with_places}
use Rattle.wat_walk.proofs.FoldLemmas.{folds}
use Rattle.wat_scope.specs.Scope.{visible, found}
use Rattle.wat_names.specs.Columns.{column_refusals, in_expression, in_names, in_set, in_query, key_refusal, name_refusals}
use Rattle.wat_names.specs.Places.{place_of, placed, placed_order, placed_set}
use Rattle.wat_types.specs.Types.{operator_rule, operator_type, typing_of}
use Rattle.wat_typing.specs.Rules.{type_named, value_rule, test_rule, breaks_grouping, shown_types, has_bad_position, query_rule, insert_rule, given_rule, update_rule, delete_rule}
use Rattle.wat_rules.specs.Rules.{table_rule, index_rule}
use Rattle.wat_rules.specs.Changes.{with_key}
use Rattle.wat_rules.specs.Check.{refusals, check}
use Rattle.wat_expr.specs.Operators.{binary}
use Rattle.wat_expr.proofs.EvaluationLemmas.{outcomes_over}
use Rattle.wat_group.specs.Query.{answer_over}
use Rattle.wat_meaning.specs.Meaning.{passed, made, done, meaning_checked, meaning, passes, alone}

pub connection_cases : ConnectionCases
connection_cases = record {
  begins = refl;
  opens = refl;
  commits = refl;
  rolls_back = refl;
  refused = refl;
  no_savepoint = refl;
  deadlock = refl;
  others = refl;
  back = refl;
  latest = refl;
  released = refl;
  level = refl;
  level_not_served = refl;
}

pub answer_cases : AnswerCases
answer_cases = record {
  commits = refl;
  commits_nothing = refl;
  nothing_to_commit = refl;
  something_to_commit = refl;
  another_reply = refl;
  the_place = refl;
  another_place = refl;
  no_syntax = refl;
  no_statement = refl;
  a_savepoint = refl;
  a_savepoint_that_is_there = refl;
  no_savepoint = refl;
  released = refl;
  a_deadlock = refl;
  no_deadlock = refl;
  open_transaction = refl;
  dropped_in_a_transaction = refl;
  refused_in_a_transaction = refl;
  no_open_transaction = refl;
  acts = refl;
}

pub history_cases : HistoryCases
history_cases = record {
  of_one = refl;
  of_another = refl;
  effect = refl;
  names = refl;
}

-- ---- serial

-- What a statement means is what its answer says.
meant : (least : ℕ) (t : Tables) (p : Part) (statement : Statement) (r : Reply) → p.read ≡ Ok statement → says p.entry.answer ≡ Some r → meaning t statement ≡ record { answer = r; acts = p.entry.acts } → Means least t p
meant least t p statement r read said means = λ other answer other_read has serial other_said.
    let same_statement : other ≡ statement = cc in
    let same_answer : r ≡ answer = cc in
    ap (meaning t) same_statement ∙ (means ∙ ap (λ (a : Reply). let m : Meaning = record { answer = a; acts = p.entry.acts } in m) same_answer)

selected : meaning between select_keys ≡ record { answer = reply.Rows ((n 1 ∷ []) ∷ []); acts = [] }
unfolding meaning meaning_checked passed made done check refusals name_refusals column_refusals in_expression in_names in_set in_query key_refusal visible found place_of placed placed_order placed_set operator_rule operator_type typing_of type_named value_rule test_rule breaks_grouping shown_types has_bad_position query_rule insert_rule given_rule update_rule delete_rule table_rule index_rule with_key written_in bare_in is_aggregated arguments_in with_places binary answer_over
selected = simp (folds, outcomes_over)

dropped_u : (t : Tables) → t ≡ between → meaning t (s.DropTable (codes "u")) ≡ record { answer = reply.Dropped; acts = OnSchema (schema.DropTable 2) ∷ [] }
unfolding meaning meaning_checked passed made done check refusals name_refusals column_refusals in_expression in_names in_set in_query key_refusal visible found place_of placed placed_order placed_set operator_rule operator_type typing_of type_named value_rule test_rule breaks_grouping shown_types has_bad_position query_rule insert_rule given_rule update_rule delete_rule table_rule index_rule with_key written_in bare_in is_aggregated arguments_in with_places binary answer_over
dropped_u t e = subst (λ (v : Tables). meaning v (s.DropTable (codes "u")) ≡ record { answer = reply.Dropped; acts = OnSchema (schema.DropTable 2) ∷ [] }) (sym e) refl

count_of : Reply → ℕ
count_of (reply.Deleted count) = count
count_of (reply.Rows rows) = length rows
count_of r = 0

pub serial_cases : SerialCases
unfolding count_of
serial_cases = record {
  serial = (
    between,
    (
      meant 3 base (slice_index_or deleting 0 rollback) delete_rows (reply.Deleted 2) refl refl update_cases.deleted_in_key_order,
      between,
      refl,
      (meant 3 between (slice_index_or deleting 1 rollback) select_keys (reply.Rows ((n 1 ∷ []) ∷ [])) refl refl selected, between, refl, refl),
    ),
    (left, (meant 3 between (dropped 2) (s.DropTable (codes "u")) reply.Dropped refl refl (dropped_u between refl), left, refl, refl), refl),
  );
  ends = refl;
  another_count = λ means.
      let wrong = means delete_rows (reply.Deleted 1) refl refl refl refl in
      let counts : 2 ≡ 1 = ap (λ (m : Meaning). count_of m.answer) (sym update_cases.deleted_in_key_order ∙ wrong) in
      absurd (omega arith);
  rows_of_before = λ means.
      let wrong = means select_keys (reply.Rows ((n 1 ∷ []) ∷ (n 3 ∷ []) ∷ [])) refl refl refl refl in
      let counts : 1 ≡ 2 = ap (λ (m : Meaning). count_of m.answer) (sym selected ∙ wrong) in
      absurd (omega arith);
  an_act_too_few = λ means.
      let wrong = means delete_rows (reply.Deleted 2) refl refl refl refl in
      let counts : 2 ≡ 0 = ap (λ (m : Meaning). length m.acts) (sym update_cases.deleted_in_key_order ∙ wrong) in
      absurd (omega arith);
  below = λ statement r read has serial said. absurd (cc);
  locked_out = λ statement r read has serial said. absurd (cc);
}

-- ---- plain

checked_delete : check (catalog_of base) delete_rows ≡ Ok (s.Delete (codes "t") (Some (e.Binary op.Greater (e.Placed 0 1) (int 10))))
unfolding meaning meaning_checked passed made done check refusals name_refusals column_refusals in_expression in_names in_set in_query key_refusal visible found place_of placed placed_order placed_set operator_rule operator_type typing_of type_named value_rule test_rule breaks_grouping shown_types has_bad_position query_rule insert_rule given_rule update_rule delete_rule table_rule index_rule with_key written_in bare_in is_aggregated arguments_in with_places binary answer_over
checked_delete = simp folds

passing : list_all (λ r. passes (Some (e.Binary op.Greater (e.Placed 0 1) (int 10))) (alone r)) (row (n 5) (n 50) (Text (codes "c")) ∷ []) ≡ true
unfolding meaning meaning_checked passed made done check refusals name_refusals column_refusals in_expression in_names in_set in_query key_refusal visible found place_of placed placed_order placed_set operator_rule operator_type typing_of type_named value_rule test_rule breaks_grouping shown_types has_bad_position query_rule insert_rule given_rule update_rule delete_rule table_rule index_rule with_key written_in bare_in is_aggregated arguments_in with_places binary answer_over
passing = simp outcomes_over

pub plain_cases : PlainCases
plain_cases = record {
  a_row_is_passed_over = λ below. record {
    asked = delete_rows;
    read = refl;
    placed = s.Delete (codes "t") (Some (e.Binary op.Greater (e.Placed 0 1) (int 10)));
    checked = checked_delete;
    def = t_def;
    stands = refl;
    acts = (row (n 5) (n 50) (Text (codes "c")) ∷ [], passing, refl, refl);
    counted = refl;
  };
  another_count = λ plain. let counts : 1 ≡ 2 = plain.counted in absurd (omega arith);
}

pub cut_cases : CutCases
unfolding meaning meaning_checked passed made done check refusals name_refusals column_refusals in_expression in_names in_set in_query key_refusal visible found place_of placed placed_order placed_set operator_rule operator_type typing_of type_named value_rule test_rule breaks_grouping shown_types has_bad_position query_rule insert_rule given_rule update_rule delete_rule table_rule index_rule with_key written_in bare_in is_aggregated arguments_in with_places binary answer_over
cut_cases = record {
  a_commit = refl;
  a_drop = refl;
  none_before = refl;
  none_for_memory = refl;
}
