-- The rule of INSERT with a query, from what is known of the query.
use Rattle.std.proofs.Common.{◌≡◌, ℕ, List, Option, ap, ◌∙◌}
use Rattle.wat_ast.specs.declared.query.Query.{Query}
use Rattle.wat_ast.specs.declared.statement.InsertSource.TheVariants.{Answer}
use Rattle.wat_schema.specs.Catalog.{Catalog, Name}
use Rattle.wat_types.specs.declared.typing.ExprType.{ExprType}
use Rattle.wat_typing.specs.declared.rules.QueryTypings.{QueryTypings}
use Rattle.wat_scope.specs.Scope.{Scope, query_scope}
use Rattle.wat_types.specs.Types.{lesser, smallest}
use Rattle.wat_typing.specs.Rules.{query_typings, query_rules, query_rule, query_types, shown_types, insert_rule, given_rule}

pub answer_rule : (c : Catalog) (table : Name) (columns : Option (List Name)) (q : Query) (scope : Scope) (t : QueryTypings) (types : List ExprType) (rule given : Option ℕ)
    → scope ≡ query_scope c q → t ≡ query_typings c scope q → types ≡ shown_types c scope q.items t.items
    → rule ≡ smallest (query_rules c scope q t) → given ≡ insert_rule c table columns types → lesser rule given ≡ given_rule c table columns (Answer q)
unfolding given_rule query_rule
answer_rule c table columns q scope t types rule given scope-is t-is types-is rule-is given-is =
    let whole : t ≡ query_typings c (query_scope c q) q = t-is ∙ ap (λ (s : Scope). query_typings c s q) scope-is in
    let same_rule : rule ≡ query_rule c q =
    rule-is ∙ (ap (λ (s : Scope). smallest (query_rules c s q t)) scope-is ∙ ap (λ (x : QueryTypings). smallest (query_rules c (query_scope c q) q x)) whole) in
    let same_types : types ≡ query_types c q =
    types-is ∙ (ap (λ (s : Scope). shown_types c s q.items t.items) scope-is ∙ ap (λ (x : QueryTypings). shown_types c (query_scope c q) q.items x.items) whole) in
    let same_given : given ≡ insert_rule c table columns (query_types c q) = given-is ∙ ap (insert_rule c table columns) same_types in
    ap (λ (x : Option ℕ). lesser x given) same_rule ∙ ap (lesser (query_rule c q)) same_given
