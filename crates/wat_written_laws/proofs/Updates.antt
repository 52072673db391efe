-- UPDATE of a row that stands: the checks let it through, and it makes of the row what it is to be.
use Rattle.std.proofs.Common.{◌≡◌, ℕ, suc, ◌==◌, Bool, true, false, ◌||◌, if◌then◌else◌, List, [], ◌∷◌, ◌++◌, map, length, Option, Some, None, Ok, refl, sym, ap, ap₂, ◌∙◌, inl, inr}
use Rattle.std.specs.List.{flat_map, list_any}
use Rattle.std.specs.Option.{option_to_list}
use Rattle.std.specs.Str.{bytes_eq}
use Rattle.std.proofs.lemmas.Bool.{cases_Bool, eqb-true}
use Rattle.wat_value.specs.declared.change.Change.TheVariants as change
use Rattle.wat_value.specs.declared.change.Act.TheVariants.{OnRow}
use Rattle.wat_value.specs.Fits.{fits, key_of, value_in}
use Rattle.wat_ast.specs.declared.expression.Expr.{Expr}
use Rattle.wat_ast.specs.declared.statement.SetItem.{SetItem}
use Rattle.wat_ast.specs.declared.statement.Statement.{Statement}
use Rattle.wat_ast.specs.declared.statement.Statement.TheVariants as s
use Rattle.wat_schema.specs.declared.refusal.Refusal.{Refusal}
use Rattle.wat_schema.specs.declared.refusal.Refusal.TheVariants.{Arithmetic}
use Rattle.wat_schema.specs.Catalog.{repeats, table_named}
use Rattle.wat_schema.specs.Tables.{Row, Table, Tables, IsTables, catalog_of, has_row, row_eq}
use Rattle.wat_scope.specs.Scope.{Scope, table_scope}
use Rattle.wat_names.specs.Refusals.{first, or_refused}
use Rattle.wat_names.specs.Columns.{in_expressions, in_set, key_refusal, name_refusals}
use Rattle.wat_names.specs.Places.{placed_statement}
use Rattle.wat_types.specs.declared.typing.Typing.{Typing}
use Rattle.wat_types.specs.Types.{any_aggregated, breaks, smallest}
use Rattle.wat_typing.specs.Rules.{kinds, misfits, set_names, set_values, test_rule, tests_rule, type_named, typings, update_rule, values_rule}
use Rattle.wat_rules.specs.Check.{check, refusals}
use Rattle.wat_rules.specs.Rules.{rule_refusals, wrong_type}
use Rattle.wat_meaning.specs.declared.reply.Reply.TheVariants.{Updated}
use Rattle.wat_meaning.specs.Meaning.{after_check, alone, meaning, refusal_meaning, row_faults, unless_refused}
use Rattle.wat_meaning.proofs.Applying.{equal}
use Rattle.wat_meaning.proofs.Fitting.{fits_typed}
use Rattle.wat_made.specs.Setting.{row_after}
use Rattle.wat_serial.specs.Changing.{updated_in, with_acts}
use Rattle.wat_serial.proofs.Meanings.{update_is}
use Rattle.wat_spell_laws.specs.AsRead.{literal_as_read, set_as_read}
use Rattle.wat_written.specs.Written.{sets_of}
use Rattle.wat_written_laws.proofs.Deletes.{table_needed, where_is_placed, where_named, where_read, where_typed}
use Rattle.wat_written_laws.proofs.Inserts.{as_many, no_faults, none_aggregated, none_broken}
use Rattle.wat_written_laws.proofs.Keys.{Stands, passes_alone, row_fits, where_placed}
use Rattle.wat_written_laws.proofs.Literals.{typed}
use Rattle.wat_written_laws.proofs.Sets.{Hold, KeysAlike, from, hold, plain_values, sets_are, sets_fit, sets_give, sets_name, sets_no_key, sets_once, sets_placed, sets_read, sets_sound, sets_typed, stand}
use Rattle.wat_written_laws.proofs.Tests.{good}

-- ---- the values of key columns

same_value : (before after : Row) (i : ℕ) (key : List ℕ) → map (value_in before) key ≡ map (value_in after) key → list_any (λ k. k == i) key ≡ true → value_in before i ≡ value_in after i
same_value before after i [] same is = cc
same_value before after i (k ∷ key) same is =
    let first : value_in before k ≡ value_in after k = cc in
    let rest : map (value_in before) key ≡ map (value_in after) key = cc in
    elim (cases_Bool (k == i)) [
      | inl here ↦ let it : k ≡ i = eqb-true k i here in ap (value_in before) (sym it) ∙ first ∙ ap (value_in after) it
      | inr other ↦ same_value before after i key rest (let later : ((k == i) || list_any (λ k. k == i) key) ≡ true = is in rw other at later)
    ]

five : (a b c d e : Option ℕ) → a ≡ None → b ≡ None → c ≡ None → d ≡ None → e ≡ None → smallest (a ∷ b ∷ c ∷ d ∷ e ∷ []) ≡ None
five a b c d e p q r u w = rw (p, q, r, u, w) refl

module _ (t : Tables) (n : ℕ) (x : Table) (is : Stands t n x) (before after : Row) (has : has_row x before ≡ true) (keys : row_eq (key_of x.def before) (key_of x.def after) ≡ true) (fit : fits x.def after ≡ true) where
  abbrev scope : Scope
  scope = table_scope (catalog_of t) x.def.name

  -- the sets as they are read
  abbrev pub read_sets : List SetItem
  read_sets = from x.def literal_as_read 0 x.def.columns after

  many_after : length x.def.columns ≡ length after
  many_after = as_many x.def.columns after (fits_typed x.def.columns after fit)

  many_before : length x.def.columns ≡ length before
  many_before = as_many x.def.columns before (fits_typed x.def.columns before (row_fits t n x before is has))

  pub sets_as_read : map set_as_read (sets_of x.def after) ≡ read_sets
  sets_as_read = ap (map set_as_read) (sets_are x.def after many_after) ∙ sets_read x.def after 0 x.def.columns after

  alike : (i : ℕ) (rs bs : Row) → Hold after i rs → Hold before i bs → length bs ≡ length rs → KeysAlike (catalog_of t) n x.def is.named is.at is.once i rs bs
  alike i [] bs a b many = tt
  alike i (w ∷ rs) [] a b many = cc
  alike i (w ∷ rs) (z ∷ bs) a b many =
      let fewer : length bs ≡ length rs = (let it : suc (length bs) ≡ suc (length rs) = many in cc) in
      (λ key. sym b.0 ∙ same_value before after i x.def.key (equal (key_of x.def before) (key_of x.def after) keys) key ∙ a.0, alike (suc i) rs bs a.1 b.1 fewer)

  -- the row becomes what it is to be
  pub becomes : row_after x.def read_sets (alone before) before ≡ after
  becomes =
      sets_give (catalog_of t) n x.def is.named is.at is.once before [] 0 x.def.columns after before refl (stand x.def) fit (sym many_before ∙ many_after)
      (alike 0 after before (hold after) (hold before) (sym many_before ∙ many_after))

  -- ---- the checks

  abbrev written : Statement
  written = s.Update x.def.name read_sets (where_read t n x is before has)

  abbrev found : Statement
  found = s.Update x.def.name read_sets (where_placed x.def before)

  update_placed : placed_statement (catalog_of t) written ≡ found
  update_placed = ap₂ (s.Update x.def.name) (sets_placed (catalog_of t) n x.def is.named is.at is.once 0 x.def.columns after) (where_is_placed t n x is before has)

  no_column : flat_map (in_set (catalog_of t) scope) read_sets ++ in_expressions (catalog_of t) scope (option_to_list (where_read t n x is before has)) ≡ []
  no_column = ap₂ (λ (fs gs : List Refusal). fs ++ gs) (sets_name (catalog_of t) n x.def is.named is.at is.once 0 x.def.columns after (stand x.def)) (where_named t n x is before has)

  no_name : name_refusals (catalog_of t) written ≡ []
  unfolding name_refusals
  no_name =
      ap₂ (λ (fs gs : List Refusal). fs ++ [] ++ gs ++ flat_map (key_refusal (catalog_of t) (table_named (catalog_of t) x.def.name)) read_sets) (table_needed t n x is before has) no_column
      ∙ sets_no_key (catalog_of t) n x.def is.named is.at is.once 0 x.def.columns after (stand x.def)

  abbrev values : Row
  values = plain_values (catalog_of t) n x.def is.named is.at is.once 0 x.def.columns after

  tests_sound : (o : Option Expr) → tests_rule (map (λ _. good) (option_to_list o)) ≡ None
  unfolding test_rule
  tests_sound None = refl
  tests_sound (Some test) = refl

  tests_plain : (o : Option Expr) → any_aggregated (map (λ _. good) (option_to_list o)) ≡ false
  tests_plain None = refl
  tests_plain (Some test) = refl

  typed_sets : typings (catalog_of t) scope (set_values read_sets) ≡ map typed values
  typed_sets = sets_typed (catalog_of t) n x.def is.named is.at is.once 0 x.def.columns after

  rule_is : update_rule (catalog_of t) x.def.name read_sets (where_placed x.def before) ≡ None
  unfolding update_rule
  rule_is =
      ap₂ (λ (vs ts : List Typing). smallest (
      values_rule vs ∷ tests_rule ts ∷ breaks 6 (any_aggregated vs || any_aggregated ts) ∷ breaks 10 (repeats bytes_eq (set_names read_sets))
      ∷ breaks 11 (misfits (map (type_named (catalog_of t) (table_named (catalog_of t) x.def.name)) (set_names read_sets)) (kinds vs)) ∷ []))
      typed_sets (where_typed t n x is before has)
      ∙ five (values_rule (map typed values)) _ _ _ _ (none_broken values) (tests_sound (where_placed x.def before))
      (ap₂ (λ a b. breaks 6 (a || b)) (none_aggregated values) (tests_plain (where_placed x.def before)))
      (ap (breaks 10) (sets_once (catalog_of t) n x.def is.named is.at is.once 0 x.def.columns after is.once))
      (ap (breaks 11) (sets_fit (catalog_of t) n x.def is.named is.at is.once 0 x.def.columns after (stand x.def) fit))

  no_rule : rule_refusals (catalog_of t) (placed_statement (catalog_of t) written) ≡ []
  no_rule = ap (rule_refusals (catalog_of t)) update_placed ∙ ap wrong_type rule_is

  let_through : check (catalog_of t) written ≡ Ok found
  unfolding check refusals
  let_through = ap₂ or_refused update_placed (ap first (ap₂ (λ (fs gs : List Refusal). fs ++ gs) no_name no_rule))

  -- ---- what it means

  updated_is : updated_in x.def read_sets (alone before ∷ []) ≡ with_acts (Updated 1) (OnRow (change.Update x.def.number before after) ∷ [])
  updated_is =
      ap₂ (λ (b : Bool) (row : Row). if b || false then refusal_meaning Arithmetic else unless_refused (first (row_faults x.def (row ∷ []))) (with_acts (Updated 1) (OnRow (change.Update x.def.number before row) ∷ [])))
      (sets_sound (catalog_of t) n x.def is.named is.at is.once before 0 x.def.columns after fit) becomes
      ∙ ap (λ (faults : List Refusal). unless_refused (first (faults ++ [])) (with_acts (Updated 1) (OnRow (change.Update x.def.number before after) ∷ []))) (no_faults x.def.columns after fit)

  pub update_means : IsTables t → meaning t written ≡ with_acts (Updated 1) (OnRow (change.Update x.def.number before after) ∷ [])
  unfolding meaning
  update_means ok =
      ap (after_check t) let_through
      ∙ sym (update_is t x.def.name read_sets (where_placed x.def before) (alone before ∷ []) (passes_alone t n x before is has) ok x is.called)
      ∙ updated_is
