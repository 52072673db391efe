-- The worked cases, by computing.
use Rattle.std.proofs.Common.{refl}
use Rattle.wat_walk.specs.Parts.{written_in, bare_in, is_aggregated, arguments_in, with_places}
use Rattle.wat_walk.proofs.FoldLemmas.{folds}
use Rattle.wat_scope.specs.Scope.{visible, found}
use Rattle.wat_names.specs.Columns.{column_refusals, in_expression, in_names, in_set, in_query, key_refusal, name_refusals}
use Rattle.wat_names.specs.Places.{place_of, placed, placed_order, placed_set}
use Rattle.wat_types.specs.Types.{operator_rule, operator_type, typing_of}
use Rattle.wat_typing.specs.Rules.{type_named, value_rule, test_rule, breaks_grouping, shown_types, has_bad_position, query_rule, insert_rule, given_rule, update_rule, delete_rule}
use Rattle.wat_rules.specs.Rules.{table_rule, index_rule}
use Rattle.wat_rules.specs.Changes.{with_key}
use Rattle.wat_rules.specs.Check.{refusals, check}
use Rattle.wat_expr.specs.Operators.{binary}
use Rattle.wat_expr.proofs.EvaluationLemmas.{outcomes_over}
use Rattle.wat_group.specs.Query.{answer_over}
use Rattle.wat_meaning.specs.Meaning.{passed, made, done, meaning_checked, meaning}
use Rattle.wat_meaning.specs.Cases.{InsertCases, UpdateCases, SelectCases, KeyCases, ActCases}

pub insert_cases : InsertCases
unfolding meaning meaning_checked passed made done check refusals name_refusals column_refusals in_expression in_names in_set in_query key_refusal visible found place_of placed placed_order placed_set operator_rule operator_type typing_of type_named value_rule test_rule breaks_grouping shown_types has_bad_position query_rule insert_rule given_rule update_rule delete_rule table_rule index_rule with_key written_in bare_in is_aggregated arguments_in with_places binary answer_over
insert_cases = record {
  a_row = simp (folds, outcomes_over);
  columns_in_any_order = simp (folds, outcomes_over);
  rows_of_a_query = simp (folds, outcomes_over);
  no_null = simp (folds, outcomes_over);
  the_limits = simp (folds, outcomes_over);
  above_the_limit = simp (folds, outcomes_over);
  below_the_limit = simp (folds, outcomes_over);
  too_long = simp (folds, outcomes_over);
  too_many_bytes = simp (folds, outcomes_over);
  the_first_column_that_fails = simp (folds, outcomes_over);
  the_first_row_that_fails = simp (folds, outcomes_over);
  a_key_that_stands = simp (folds, outcomes_over);
  a_key_of_an_earlier_row = simp (folds, outcomes_over);
  the_first_key_that_stands = simp (folds, outcomes_over);
  columns_before_keys = simp (folds, outcomes_over);
  arithmetic_of_the_query = simp (folds, outcomes_over);
  arithmetic_before_columns = simp (folds, outcomes_over);
}

pub update_cases : UpdateCases
unfolding meaning meaning_checked passed made done check refusals name_refusals column_refusals in_expression in_names in_set in_query key_refusal visible found place_of placed placed_order placed_set operator_rule operator_type typing_of type_named value_rule test_rule breaks_grouping shown_types has_bad_position query_rule insert_rule given_rule update_rule delete_rule table_rule index_rule with_key written_in bare_in is_aggregated arguments_in with_places binary answer_over
update_cases = record {
  each_row_in_key_order = simp (folds, outcomes_over);
  one_column_from_another = simp (folds, outcomes_over);
  no_null = simp (folds, outcomes_over);
  out_of_range = simp (folds, outcomes_over);
  arithmetic_of_a_row_that_passes = simp (folds, outcomes_over);
  arithmetic_of_any_column = simp (folds, outcomes_over);
  no_arithmetic_of_others = simp (folds, outcomes_over);
  arithmetic_of_any_row_in_where = simp (folds, outcomes_over);
  deleted_in_key_order = simp (folds, outcomes_over);
  unknown_does_not_pass = simp (folds, outcomes_over);
  deleted_none = simp (folds, outcomes_over);
  delete_with_arithmetic = simp (folds, outcomes_over);
}

pub select_cases : SelectCases
unfolding meaning meaning_checked passed made done check refusals name_refusals column_refusals in_expression in_names in_set in_query key_refusal visible found place_of placed placed_order placed_set operator_rule operator_type typing_of type_named value_rule test_rule breaks_grouping shown_types has_bad_position query_rule insert_rule given_rule update_rule delete_rule table_rule index_rule with_key written_in bare_in is_aggregated arguments_in with_places binary answer_over
select_cases = record {
  rows_that_pass = simp (folds, outcomes_over);
  all_pairs_that_pass = simp (folds, outcomes_over);
  aggregates_over_no_rows = simp (folds, outcomes_over);
  arithmetic_of_a_pair_that_does_not_pass = simp (folds, outcomes_over);
  a_table = refl;
  an_index = refl;
  a_dropped_table = refl;
  no_table = refl;
  names_before_arithmetic = simp folds;
  keys_before_arithmetic = simp folds;
  types_before_arithmetic = simp folds;
}

pub key_cases : KeyCases
unfolding meaning meaning_checked passed made done check refusals name_refusals column_refusals in_expression in_names in_set in_query key_refusal visible found place_of placed placed_order placed_set operator_rule operator_type typing_of type_named value_rule test_rule breaks_grouping shown_types has_bad_position query_rule insert_rule given_rule update_rule delete_rule table_rule index_rule with_key written_in bare_in is_aggregated arguments_in with_places binary answer_over
key_cases = record {
  rows_in_key_order = simp (folds, outcomes_over);
  the_key_of_a_row = simp (folds, outcomes_over);
  another_key = simp (folds, outcomes_over);
  pairs_in_key_order = simp (folds, outcomes_over);
  the_second_key_column = simp folds;
}

pub act_cases : ActCases
unfolding meaning meaning_checked passed made done check refusals name_refusals column_refusals in_expression in_names in_set in_query key_refusal visible found place_of placed placed_order placed_set operator_rule operator_type typing_of type_named value_rule test_rule breaks_grouping shown_types has_bad_position query_rule insert_rule given_rule update_rule delete_rule table_rule index_rule with_key written_in bare_in is_aggregated arguments_in with_places binary answer_over
act_cases = record {
  the_tables_are_made = refl;
  a_statement_after_another = simp (folds, outcomes_over);
}
