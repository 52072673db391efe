-- The first of all refusals.
use Rattle.std.proofs.Common.{◌≡◌, ◌++◌, Option, Some, None, Ok, Err, refl, sym, ap, ap₂, ◌∙◌}
use Rattle.std.specs.Option.{option_or}
use Rattle.wat_ast.specs.declared.statement.Statement.{Statement}
use Rattle.wat_schema.specs.declared.refusal.Refusal.{Refusal}
use Rattle.wat_schema.specs.Catalog.{Catalog}
use Rattle.wat_names.specs.Refusals.{first, or_refused}
use Rattle.wat_names.specs.Columns.{table_refusals, source_refusals, columns_refusals, key_refusals, name_refusals}
use Rattle.wat_names.specs.Places.{placed_statement}
use Rattle.wat_rules.specs.Rules.{rule_refusals}
use Rattle.wat_rules.specs.Check.{check, refusals}
use Rattle.wat_names.proofs.Firsts.{first-append}

pub first_of_names : (c : Catalog) (s : Statement) → first (name_refusals c s)
    ≡ option_or (option_or (option_or (first (table_refusals c s)) (first (source_refusals c s))) (first (columns_refusals c s))) (first (key_refusals c s))
unfolding name_refusals
first_of_names c s =
    first-append (table_refusals c s ++ source_refusals c s ++ columns_refusals c s) (key_refusals c s)
    ∙ (ap (λ x. option_or x (first (key_refusals c s))) (first-append (table_refusals c s ++ source_refusals c s) (columns_refusals c s))
    ∙ ap (λ x. option_or (option_or x (first (columns_refusals c s))) (first (key_refusals c s))) (first-append (table_refusals c s) (source_refusals c s)))

pub check_is : (c : Catalog) (s : Statement)
    → check c s ≡ or_refused (placed_statement c s) (option_or (first (name_refusals c s)) (first (rule_refusals c (placed_statement c s))))
unfolding check refusals
check_is c s = ap (or_refused (placed_statement c s)) (first-append (name_refusals c s) (rule_refusals c (placed_statement c s)))

-- ---- the answer, as the checks come to it

none_left : {A : Type 0} (o : Option A) → ((x : A) → o ≡ Some x → ⊥) → o ≡ None
none_left None not_some = refl
none_left (Some x) not_some = absurd (not_some x refl)

module _ (c : Catalog) (s : Statement) where
  abbrev NotSome : Option Refusal → Type 0
  NotSome o = (refusal : Refusal) → o ≡ Some refusal → ⊥

  -- the first refusal of names, from those of its four parts
  by_parts : (t v k a : Option Refusal) → t ≡ first (table_refusals c s) → v ≡ first (source_refusals c s) → k ≡ first (columns_refusals c s) → a ≡ first (key_refusals c s)
      → option_or (option_or (option_or t v) k) a ≡ first (name_refusals c s)
  by_parts t v k a t-is v-is k-is a-is =
      ap₂ (λ x y. option_or (option_or (option_or x y) k) a) t-is v-is
      ∙ (ap₂ (λ x y. option_or (option_or (option_or (first (table_refusals c s)) (first (source_refusals c s))) x) y) k-is a-is ∙ sym (first_of_names c s))

  pub by_table : (t : Option Refusal) (refusal : Refusal) → t ≡ first (table_refusals c s) → t ≡ Some refusal → Some refusal ≡ first (name_refusals c s)
  by_table t refusal t-is some = by_parts (Some refusal) _ _ _ (sym some ∙ t-is) refl refl refl

  pub by_source : (t v : Option Refusal) (refusal : Refusal) → t ≡ first (table_refusals c s) → NotSome t → v ≡ first (source_refusals c s) → v ≡ Some refusal → Some refusal ≡ first (name_refusals c s)
  by_source t v refusal t-is t-none v-is some = by_parts None (Some refusal) _ _ (sym (none_left t t-none) ∙ t-is) (sym some ∙ v-is) refl refl

  pub by_columns : (t v k : Option Refusal) (refusal : Refusal) → t ≡ first (table_refusals c s) → NotSome t → v ≡ first (source_refusals c s) → NotSome v → k ≡ first (columns_refusals c s) → k ≡ Some refusal
      → Some refusal ≡ first (name_refusals c s)
  by_columns t v k refusal t-is t-none v-is v-none k-is some = by_parts None None (Some refusal) _ (sym (none_left t t-none) ∙ t-is) (sym (none_left v v-none) ∙ v-is) (sym some ∙ k-is) refl

  pub by_keys : (t v k : Option Refusal) → t ≡ first (table_refusals c s) → NotSome t → v ≡ first (source_refusals c s) → NotSome v → k ≡ first (columns_refusals c s) → NotSome k
      → first (key_refusals c s) ≡ first (name_refusals c s)
  by_keys t v k t-is t-none v-is v-none k-is k-none =
      by_parts None None None (first (key_refusals c s)) (sym (none_left t t-none) ∙ t-is) (sym (none_left v v-none) ∙ v-is) (sym (none_left k k-none) ∙ k-is) refl

  pub by_name : (names : Option Refusal) (refusal : Refusal) → names ≡ first (name_refusals c s) → names ≡ Some refusal → Err refusal ≡ check c s
  by_name names refusal is some =
      sym (check_is c s ∙ ap (λ (n : Option Refusal). or_refused (placed_statement c s) (option_or n (first (rule_refusals c (placed_statement c s))))) (sym is ∙ some))

  by_rules : (placed : Statement) (names rules : Option Refusal) → names ≡ first (name_refusals c s) → NotSome names → placed ≡ placed_statement c s → rules ≡ first (rule_refusals c placed)
      → check c s ≡ or_refused placed rules
  by_rules placed names rules is none same rules-are =
      check_is c s
      ∙ (ap (λ (n : Option Refusal). or_refused (placed_statement c s) (option_or n (first (rule_refusals c (placed_statement c s))))) (sym is ∙ none_left names none)
      ∙ (ap (λ (p : Statement). or_refused p (first (rule_refusals c p))) (sym same) ∙ ap (or_refused placed) (sym rules-are)))

  pub by_rule : (placed : Statement) (names rules : Option Refusal) (refusal : Refusal) → names ≡ first (name_refusals c s) → NotSome names → placed ≡ placed_statement c s → rules ≡ first (rule_refusals c placed) → rules ≡ Some refusal
      → Err refusal ≡ check c s
  by_rule placed names rules refusal is none same rules-are some = sym (by_rules placed names rules is none same rules-are ∙ ap (or_refused placed) some)

  pub let_through : (placed : Statement) (names rules : Option Refusal) → names ≡ first (name_refusals c s) → NotSome names → placed ≡ placed_statement c s → rules ≡ first (rule_refusals c placed) → NotSome rules
      → Ok placed ≡ check c s
  let_through placed names rules is none same rules-are all-kept = sym (by_rules placed names rules is none same rules-are ∙ ap (or_refused placed) (none_left rules all-kept))
