-- WHERE of the key of a row that stands, as it is read, in the checks; and DELETE with it.
use Rattle.std.proofs.Common.{◌≡◌, ℕ, true, if◌then◌else◌, List, [], ◌∷◌, ◌++◌, map, Option, Some, None, Ok, is_some, refl, sym, ap, ap₂, ◌∙◌}
use Rattle.std.specs.List.{filter_map}
use Rattle.std.specs.Option.{option_map, option_to_list}
use Rattle.wat_value.specs.declared.change.Change.TheVariants as change
use Rattle.wat_value.specs.declared.change.Act.TheVariants.{OnRow}
use Rattle.wat_ast.specs.declared.expression.Expr.{Expr}
use Rattle.wat_ast.specs.declared.statement.Statement.TheVariants as s
use Rattle.wat_schema.specs.declared.refusal.Refusal.{Refusal}
use Rattle.wat_schema.specs.declared.refusal.Refusal.TheVariants.{NoTable}
use Rattle.wat_schema.specs.Tables.{Row, Table, Tables, IsTables, catalog_of, has_row}
use Rattle.wat_scope.specs.Scope.{Scope, table_scope}
use Rattle.wat_names.specs.Refusals.{first, or_refused}
use Rattle.wat_names.specs.Columns.{in_expressions, name_refusals, needed}
use Rattle.wat_names.specs.Places.{placed, placed_statement}
use Rattle.wat_types.specs.declared.typing.Typing.{Typing}
use Rattle.wat_types.specs.Types.{any_aggregated, breaks, smallest}
use Rattle.wat_typing.specs.Rules.{delete_rule, test_rule, tests_rule, typings}
use Rattle.wat_rules.specs.Check.{check, refusals}
use Rattle.wat_rules.specs.Rules.{rule_refusals, wrong_type}
use Rattle.wat_meaning.specs.declared.reply.Reply.TheVariants.{Deleted}
use Rattle.wat_meaning.specs.Meaning.{after_check, alone, meaning}
use Rattle.wat_serial.specs.Changing.{with_acts}
use Rattle.wat_serial.proofs.Meanings.{delete_is}
use Rattle.wat_spell_laws.specs.AsRead.{as_read}
use Rattle.wat_written.specs.Written.{all_of, test_of, where_key}
use Rattle.wat_written_laws.proofs.Keys.{Stands, passes_alone, row_fits, where_placed}
use Rattle.wat_written_laws.proofs.Tests.{good, none_in_all, placed_all, read_all, tests_name, tests_placed, tests_typed}

module _ (t : Tables) (n : ℕ) (x : Table) (is : Stands t n x) (row : Row) (has : has_row x row ≡ true) where
  abbrev scope : Scope
  scope = table_scope (catalog_of t) x.def.name

  abbrev tests : List Expr
  tests = filter_map (test_of x.def row) x.def.key

  abbrev pub where_read : Option Expr
  where_read = option_map as_read (where_key x.def row)

  pub where_named : in_expressions (catalog_of t) scope (option_to_list where_read) ≡ []
  where_named =
      ap (λ (o : Option Expr). in_expressions (catalog_of t) scope (option_to_list o)) (read_all tests)
      ∙ none_in_all (catalog_of t) scope (map as_read tests) (tests_name (catalog_of t) n x.def is.named is.at is.once row x.def.key is.key)

  pub where_is_placed : option_map (placed (catalog_of t) scope) where_read ≡ where_placed x.def row
  where_is_placed =
      ap (option_map (placed (catalog_of t) scope)) (read_all tests) ∙ placed_all (catalog_of t) scope (map as_read tests)
      ∙ ap all_of (tests_placed (catalog_of t) n x.def is.named is.at is.once row x.def.key is.key)

  pub where_typed : typings (catalog_of t) scope (option_to_list (where_placed x.def row)) ≡ map (λ _. good) (option_to_list (where_placed x.def row))
  where_typed = tests_typed (catalog_of t) n x.def is.named is.at is.once row (row_fits t n x row is has) x.def.key is.key

  pub table_needed : needed (catalog_of t) x.def.name ≡ []
  table_needed = ap (λ (o : Option ℕ). if is_some o then [] else NoTable x.def.name ∷ []) is.named

  -- ---- DELETE

  delete_placed : placed_statement (catalog_of t) (s.Delete x.def.name where_read) ≡ s.Delete x.def.name (where_placed x.def row)
  delete_placed = ap (s.Delete x.def.name) where_is_placed

  no_name : name_refusals (catalog_of t) (s.Delete x.def.name where_read) ≡ []
  unfolding name_refusals
  no_name = ap₂ (λ (fs gs : List Refusal). fs ++ [] ++ gs ++ []) table_needed where_named

  unbroken : (o : Option Expr) → smallest (tests_rule (map (λ _. good) (option_to_list o)) ∷ breaks 6 (any_aggregated (map (λ _. good) (option_to_list o))) ∷ []) ≡ None
  unfolding test_rule
  unbroken None = refl
  unbroken (Some test) = refl

  rule_is : delete_rule (catalog_of t) x.def.name (where_placed x.def row) ≡ None
  unfolding delete_rule
  rule_is = ap (λ (ts : List Typing). smallest (tests_rule ts ∷ breaks 6 (any_aggregated ts) ∷ [])) where_typed ∙ unbroken (where_placed x.def row)

  no_rule : rule_refusals (catalog_of t) (placed_statement (catalog_of t) (s.Delete x.def.name where_read)) ≡ []
  no_rule = ap (rule_refusals (catalog_of t)) delete_placed ∙ ap wrong_type rule_is

  let_through : check (catalog_of t) (s.Delete x.def.name where_read) ≡ Ok (s.Delete x.def.name (where_placed x.def row))
  unfolding check refusals
  let_through = ap₂ or_refused delete_placed (ap first (ap₂ (λ (fs gs : List Refusal). fs ++ gs) no_name no_rule))

  pub delete_means : IsTables t → meaning t (s.Delete x.def.name where_read) ≡ with_acts (Deleted 1) (OnRow (change.Delete x.def.number row) ∷ [])
  unfolding meaning
  delete_means ok =
      ap (after_check t) let_through
      ∙ sym (delete_is t x.def.name (where_placed x.def row) (alone row ∷ []) (passes_alone t n x row is has) ok x is.called)
