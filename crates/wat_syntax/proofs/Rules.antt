-- One token seen ahead is enough for the grammar of statements.
use Rattle.std.proofs.Common.{◌≡◌, true, false, refl, rules}
use denote.Enum.Bare.{same_true, true_same}
use Rattle.wat_grammar.specs.Predictive.{is_predictive, is_alive, is_sound_rule, IsPredictive}
use Rattle.wat_syntax.specs.contracts.kind.Kind.{the_type}
use Rattle.wat_syntax.specs.declared.nest.Nest.{Nest}
use Rattle.wat_syntax.specs.declared.nest.Nest.TheVariants.{Whole, Negation, Factor}
use Rattle.wat_syntax.specs.Sql.{sql, column, parenthesized, count_argument, count, aggregate_word, aggregated, primary, factor, term_operator, term, sum_operator, sum, comparison, compared, is_null, between, among, ranged, test, predicate, negation, conjunction_operator, conjunction, expression_operator, expression, direction, order_by, order, alias, source, select_items, filter, grouping, having, ordering, query, switch, isolation_level, type_name, column_rule, defined_column, key_element, element, create_table, index_column, create_index, create, drop_table, insert_source, insert_columns, insert, set_item, update, delete, commit, checkpoint, rollback, savepoint, release, set_level, set_blocking, set_option, statement}
use Rattle.wat_word.specs.Words.{keyword, reserved}
use Rattle.wat_syntax.proofs.Examples.{example, are_tokens}

rules_of : (n : Nest) → is_sound_rule sql example n ≡ true
unfolding keyword reserved column parenthesized count_argument count aggregate_word aggregated primary factor term_operator term sum_operator sum comparison compared is_null between among ranged test predicate negation conjunction_operator conjunction expression_operator expression
rules_of Whole = refl
rules_of Negation = refl
rules_of Factor = refl

pub sql_predictive : IsPredictive sql example
sql_predictive = record {
  same_true = same_true the_type (search rules);
  same_refl = λ a. true_same the_type a a refl;
  are_tokens = are_tokens;
  rules = rules_of;
}

pub statement_predictive : is_predictive sql example false statement ≡ true
unfolding keyword reserved column parenthesized count_argument count aggregate_word aggregated primary factor term_operator term sum_operator sum comparison compared is_null between among ranged test predicate negation conjunction_operator conjunction expression_operator expression direction order_by order alias source select_items filter grouping having ordering query switch isolation_level type_name column_rule defined_column key_element element create_table index_column create_index create drop_table insert_source insert_columns insert set_item update delete commit checkpoint rollback savepoint release set_level set_blocking set_option statement
statement_predictive = refl

pub statement_alive : is_alive {N = Nest} false statement ≡ true
unfolding keyword reserved column parenthesized count_argument count aggregate_word aggregated primary factor term_operator term sum_operator sum comparison compared is_null between among ranged test predicate negation conjunction_operator conjunction expression_operator expression direction order_by order alias source select_items filter grouping having ordering query switch isolation_level type_name column_rule defined_column key_element element create_table index_column create_index create drop_table insert_source insert_columns insert set_item update delete commit checkpoint rollback savepoint release set_level set_blocking set_option statement
statement_alive = refl
