-- What the grammar derives as a statement, it derives as that statement is spelled too.
use Rattle.std.proofs.Common.{◌≡◌, ◌^◌, inl, inr, ℕ, Bool, true, false, ◌&&◌, nat_lt, if◌then◌else◌, List, [], ◌∷◌, ◌++◌, fold, Option, Some, None, refl, sym, ◌∙◌, ap, subst}
use Rattle.wat_word.specs.declared.keyword.Keyword.TheVariants as w
use Rattle.wat_ast.specs.declared.expression.Expr.{Expr}
use Rattle.wat_ast.specs.declared.query.SelectItems.{SelectItems}
use Rattle.wat_ast.specs.declared.query.SelectItems.TheVariants as shown
use Rattle.wat_ast.specs.declared.query.OrderBy.TheVariants as order_by
use Rattle.wat_ast.specs.declared.query.Query.{Query}
use Rattle.wat_ast.specs.declared.statement.TypeName.{TypeName}
use Rattle.wat_ast.specs.declared.statement.TypeName.TheVariants as type_name
use Rattle.wat_ast.specs.declared.statement.Element.{Element}
use Rattle.wat_ast.specs.declared.statement.Element.TheVariants as element
use Rattle.wat_ast.specs.declared.statement.InsertSource.TheVariants as source
use Rattle.wat_ast.specs.declared.statement.Statement.{Statement}
use Rattle.wat_ast.specs.declared.statement.Statement.TheVariants as statement
use Rattle.wat_grammar.specs.Phrase.{seq, or, empty, many, map as map_phrase, DerivesWithin}
use Rattle.wat_syntax.specs.declared.kind.Kind.TheVariants as k
use Rattle.std.specs.List.{list_all}
use Rattle.wat_lex.specs.declared.token.Token.{Token as Place}
use Rattle.wat_lex.specs.Rules.{decimal}
use Rattle.wat_lex.specs.Tokens.{tokens_of}
use Rattle.wat_lex.specs.Values.{token_bytes, number_value}
use Rattle.wat_syntax.specs.Lexeme.{Lexeme, same_kind, kind_of, lexeme_of, lexemes_of}
use Rattle.wat_syntax.specs.Sql as g
use Rattle.wat_syntax.specs.Sql.{Sql, sql, ColumnRules, not_null, primary_key, no_rules, ruled, level_number, level_value}
use Rattle.wat_syntax.specs.Sql.{source_of, query_of, order_item as order_item_of, column_element, set_item_of, direction, order, alias, select_items, filter, grouping, having, ordering, query, switch, isolation_level, column_rule, defined_column, key_element, create_table, create_index, create, index_column, drop_table, insert_source, insert_columns, insert, set_item, update, delete, commit, checkpoint, rollback, savepoint, release, set_level, set_blocking, set_option}
use Rattle.wat_spell.specs.declared.symbol.Symbol.TheVariants as s
use Rattle.wat_spell.specs.Tokens.{Token, word, number, symbol}
use Rattle.wat_spell.specs.Spelling.{tokens_if, with_commas, by, expression}
use Rattle.wat_spell.specs.Statements as spec
use Rattle.wat_spell.specs.Statements.{statement_tokens, spelled_text, element_tokens, type_tokens, column_rules}
use Rattle.wat_spell_laws.specs.Derived.{sign, number_lexeme, token_lexemes}
use Rattle.wat_spell_laws.proofs.Lifts.{lexemes_append}
use Rattle.wat_spell_laws.proofs.Parsable.{Stands, stands_append}
use Rattle.wat_spell_laws.proofs.Levels.{AreSmall, parts, behind_word, small_number, is_small}
use Rattle.wat_spell_laws.proofs.Tokens.{read_back}
use Rattle.wat_spell_laws.proofs.Parts.{IsDerived, Respells, Behind, respelled_as, from_nothing, name_of, number_of, name_again, number_again, small_one, expression_again, column_again, behind_again, after_again, equals_again, after_equals_again, parentheses_again, pair_again, map_behind, map_again, or_again, or_behind, if_some, maybe_again, optional_again, written_again, list_again, by_again}

-- ---- queries

condition_same : (v : _) (o : Option Expr) → spec.condition v o ≡ if_some (λ x. word v ∷ expression x) o
condition_same v None = refl
condition_same v (Some x) = refl

filter_again : (d : ℕ) → Respells d filter (spec.condition w.Where)
unfolding filter
filter_again d = respelled_as d (g.maybe (g.after k.Where g.expression)) (if_some (λ x. word w.Where ∷ expression x)) (spec.condition w.Where) (condition_same w.Where)
    (maybe_again d (g.after k.Where g.expression) (λ x. word w.Where ∷ expression x) (after_again d w.Where g.expression expression (expression_again d)))

having_again : (d : ℕ) → Respells d having (spec.condition w.Having)
unfolding having
having_again d = respelled_as d (g.maybe (g.after k.Having g.expression)) (if_some (λ x. word w.Having ∷ expression x)) (spec.condition w.Having) (condition_same w.Having)
    (maybe_again d (g.after k.Having g.expression) (λ x. word w.Having ∷ expression x) (after_again d w.Having g.expression expression (expression_again d)))

grouping_again : (d : ℕ) → Respells d grouping (by w.Group expression)
unfolding grouping
grouping_again d = by_again d g.column expression (column_again d) w.Group

direction_again : (d : ℕ) → Respells d direction (λ b. tokens_if b (word w.Desc ∷ []))
unfolding direction
direction_again d ts true there small = (inr (inl (tt, (sign k.Desc, refl, refl, refl), refl)), refl)
direction_again d ts false there small = (inr (inr (refl, refl)), refl)

order_by_again : (d : ℕ) → Respells d g.order_by spec.order_by
unfolding g.order_by
order_by_again d = or_again d (map_phrase order_by.Column g.column) (map_phrase order_by.Position g.number) spec.order_by
    (map_again d g.column order_by.Column expression spec.order_by (λ x. refl) (column_again d)) (map_again d g.number order_by.Position number_of spec.order_by (λ n. refl) (number_again d))

order_again : (d : ℕ) → Respells d order spec.order_item
unfolding order
order_again d = map_again d (seq g.order_by direction) (λ x. order_item_of x.0 x.1) (λ x. spec.order_by x.0 ++ tokens_if x.1 (word w.Desc ∷ [])) spec.order_item (λ x. refl)
    (pair_again d g.order_by direction spec.order_by (λ b. tokens_if b (word w.Desc ∷ [])) (order_by_again d) (direction_again d))

ordering_again : (d : ℕ) → Respells d ordering (by w.Order spec.order_item)
unfolding ordering
ordering_again d = by_again d order spec.order_item (order_again d) w.Order

alias_same : (o : Option (List ℕ)) → spec.alias o ≡ if_some name_of o
alias_same None = refl
alias_same (Some n) = refl

alias_at : (d : ℕ) (ts : List Lexeme) (o : Option (List ℕ)) → DerivesWithin sql d alias ts o → AreSmall ts → IsDerived d alias o (if_some name_of o)
unfolding alias
alias_at d ts o (inl (n, there, is)) small =
    let inner = behind_word d k.As g.name ts n there small in
    let again = name_again d inner.0 n inner.1 inner.2 in
    subst (λ (z : Option (List ℕ)). IsDerived d (or (map_phrase Some (g.after k.As g.name)) (g.maybe g.name)) z (if_some name_of z)) (sym is) (inr (inl (n, again.0, refl)), again.1)
alias_at d ts o (inr there) small = let again = maybe_again d g.name name_of (name_again d) ts o there small in (inr again.0, again.1)

source_again : (d : ℕ) → Respells d g.source spec.source_tokens
unfolding g.source
source_again d = map_again d (seq g.name alias) (λ x. source_of x.0 x.1) (λ x. name_of x.0 ++ spec.alias x.1) spec.source_tokens (λ x. refl)
    (pair_again d g.name alias name_of spec.alias (name_again d) (respelled_as d alias (if_some name_of) spec.alias alias_same (alias_at d)))

select_items_again : (d : ℕ) → Respells d select_items spec.select_items
unfolding select_items
select_items_again d ts x (inl there) small = subst (λ (z : SelectItems). IsDerived d (or (g.sign k.Star shown.Star) (map_phrase shown.List (g.list g.expression))) z (spec.select_items z)) (sym there.2) (inl (tt, (sign k.Star, refl, refl, refl), refl), refl)
select_items_again d ts x (inr there) small =
    let again = map_again d (g.list g.expression) shown.List (with_commas expression) spec.select_items (λ xs. refl) (list_again d g.expression expression (expression_again d)) ts x there small in
    (inr again.0, again.1)

-- a query behind its first word
abbrev rest_of : Query → List Token
rest_of q =
    tokens_if q.distinct (word w.Distinct ∷ []) ++ (spec.select_items q.items ++ word w.From ∷ (with_commas spec.source_tokens q.sources
    ++ (spec.condition w.Where q.filter ++ (by w.Group expression q.group ++ (spec.condition w.Having q.having ++ by w.Order spec.order_item q.order)))))

query_again : (d : ℕ) → Respells d query spec.query
unfolding query
query_again d =
    let last = pair_again d having ordering (spec.condition w.Having) (by w.Order spec.order_item) (having_again d) (ordering_again d) in
    let third = pair_again d grouping (seq having ordering) (by w.Group expression) (λ x. spec.condition w.Having x.0 ++ by w.Order spec.order_item x.1) (grouping_again d) last in
    let second = pair_again d filter (seq grouping (seq having ordering)) (spec.condition w.Where)
    (λ x. by w.Group expression x.0 ++ (spec.condition w.Having x.1.0 ++ by w.Order spec.order_item x.1.1)) (filter_again d) third in
    let first = pair_again d (g.list g.source) (seq filter (seq grouping (seq having ordering))) (with_commas spec.source_tokens)
    (λ x. spec.condition w.Where x.0 ++ (by w.Group expression x.1.0 ++ (spec.condition w.Having x.1.1.0 ++ by w.Order spec.order_item x.1.1.1)))
    (list_again d g.source spec.source_tokens (source_again d)) second in
    let from = after_again d w.From (seq (g.list g.source) (seq filter (seq grouping (seq having ordering))))
    (λ x. with_commas spec.source_tokens x.0 ++ (spec.condition w.Where x.1.0 ++ (by w.Group expression x.1.1.0 ++ (spec.condition w.Having x.1.1.1.0 ++ by w.Order spec.order_item x.1.1.1.1)))) first in
    let items = pair_again d select_items (g.after k.From (seq (g.list g.source) (seq filter (seq grouping (seq having ordering))))) spec.select_items
    (λ x. word w.From ∷ (with_commas spec.source_tokens x.0 ++ (spec.condition w.Where x.1.0 ++ (by w.Group expression x.1.1.0 ++ (spec.condition w.Having x.1.1.1.0 ++ by w.Order spec.order_item x.1.1.1.1)))))
    (select_items_again d) from in
    let all = pair_again d (g.optional k.Distinct) (seq select_items (g.after k.From (seq (g.list g.source) (seq filter (seq grouping (seq having ordering))))))
    (λ b. tokens_if b (word w.Distinct ∷ []))
    (λ x. spec.select_items x.0 ++ word w.From ∷ (with_commas spec.source_tokens x.1.0 ++ (spec.condition w.Where x.1.1.0 ++ (by w.Group expression x.1.1.1.0 ++ (spec.condition w.Having x.1.1.1.1.0 ++ by w.Order spec.order_item x.1.1.1.1.1)))))
    (optional_again d w.Distinct) items in
    after_again d w.Select
    (map_phrase query_of
    (seq (g.optional k.Distinct) (seq select_items (g.after k.From (seq (g.list g.source) (seq filter (seq grouping (seq having ordering))))))))
    rest_of
    (map_again d (seq (g.optional k.Distinct) (seq select_items (g.after k.From (seq (g.list g.source) (seq filter (seq grouping (seq having ordering)))))))
    query_of
    (λ x. tokens_if x.0 (word w.Distinct ∷ []) ++ (spec.select_items x.1.0 ++ word w.From ∷ (with_commas spec.source_tokens x.1.1.0
    ++ (spec.condition w.Where x.1.1.1.0 ++ (by w.Group expression x.1.1.1.1.0 ++ (spec.condition w.Having x.1.1.1.1.1.0 ++ by w.Order spec.order_item x.1.1.1.1.1.1))))))
    rest_of (λ x. refl) all)

-- ---- tables

type_again : (d : ℕ) → Respells d g.type_name type_tokens
unfolding g.type_name
type_again d ts x (inl there) small = subst (λ (z : TypeName). IsDerived d g.type_name z (type_tokens z)) (sym there.2) (inl (tt, (sign k.Integer, refl, refl, refl), refl), refl)
type_again d ts x (inr (inl there)) small = subst (λ (z : TypeName). IsDerived d g.type_name z (type_tokens z)) (sym there.2) (inl (tt, (sign k.Integer, refl, refl, refl), refl), refl)
type_again d ts x (inr (inr there)) small =
    let sized = parentheses_again d s.OpenTight g.number number_of refl (number_again d) in
    let char = behind_again d w.Char (map_phrase type_name.Char (g.in_parentheses g.number)) type_tokens []
    (map_behind d (g.in_parentheses g.number) type_name.Char (λ n. symbol s.OpenTight ∷ (number_of n ++ symbol s.Close ∷ [])) type_tokens (word w.Char ∷ []) (λ n. refl) sized) in
    let varchar = behind_again d w.Varchar (map_phrase type_name.Varchar (g.in_parentheses g.number)) type_tokens []
    (map_behind d (g.in_parentheses g.number) type_name.Varchar (λ n. symbol s.OpenTight ∷ (number_of n ++ symbol s.Close ∷ [])) type_tokens (word w.Varchar ∷ []) (λ n. refl) sized) in
    let again = from_nothing d (or (g.after k.Char (map_phrase type_name.Char (g.in_parentheses g.number))) (g.after k.Varchar (map_phrase type_name.Varchar (g.in_parentheses g.number)))) type_tokens
    (or_behind d (g.after k.Char (map_phrase type_name.Char (g.in_parentheses g.number))) (g.after k.Varchar (map_phrase type_name.Varchar (g.in_parentheses g.number))) type_tokens [] char varchar) ts x there small in
    (inr (inr again.0), again.1)

-- rules that make a column so
abbrev pub rules_of : Bool → Bool → List (ColumnRules → ColumnRules)
rules_of true true = primary_key ∷ []
rules_of true false = []
rules_of false true = not_null ∷ primary_key ∷ []
rules_of false false = not_null ∷ []

pub made_by : (n key : Bool) → fold ruled no_rules (rules_of n key) ≡ (let r : ColumnRules = record { nullable = n; key = key } in r)
made_by true true = refl
made_by true false = refl
made_by false true = refl
made_by false false = refl

null_rule : (d : ℕ) → DerivesWithin sql d column_rule (sign k.Not ∷ sign k.Null ∷ []) not_null
unfolding column_rule
null_rule d = inl ((tt, not_null), (sign k.Not ∷ [], sign k.Null ∷ [], refl, (sign k.Not, refl, refl, refl), (tt, (sign k.Null, refl, refl, refl), refl)), refl)

key_rule : (d : ℕ) → DerivesWithin sql d column_rule (sign k.Primary ∷ sign k.Key ∷ []) primary_key
unfolding column_rule
key_rule d = inr (inr ((tt, primary_key), (sign k.Primary ∷ [], sign k.Key ∷ [], refl, (sign k.Primary, refl, refl, refl), (tt, (sign k.Key, refl, refl, refl), refl)), refl))

pub rules_derive : (d : ℕ) (n key : Bool) → DerivesWithin sql d (many column_rule) (token_lexemes (column_rules n key)) (rules_of n key)
rules_derive d true true = (sign k.Primary ∷ sign k.Key ∷ [], [], refl, key_rule d, refl)
rules_derive d true false = refl
rules_derive d false true = (sign k.Not ∷ sign k.Null ∷ [], sign k.Primary ∷ sign k.Key ∷ [], refl, null_rule d, (sign k.Primary ∷ sign k.Key ∷ [], [], refl, key_rule d, refl))
rules_derive d false false = (sign k.Not ∷ sign k.Null ∷ [], [], refl, null_rule d, refl)

pub rules_stand : (n key : Bool) → Stands (column_rules n key)
rules_stand true true = refl
rules_stand true false = refl
rules_stand false true = refl
rules_stand false false = refl

defined_again : (d : ℕ) → Respells d defined_column element_tokens
unfolding defined_column
defined_again d ts x ((n, (kind, rules)), (us, vs, split, name_there, (ws, zs, split', type_there, rules_there)), is) small =
    let both = parts ts us vs split small in
    let name_now = name_again d us n name_there both.0 in
    let type_now = type_again d ws kind type_there (parts vs ws zs split' both.1).0 in
    let made = fold ruled no_rules rules in
    let rest : List Lexeme = token_lexemes (type_tokens kind ++ column_rules made.nullable made.key) in
    subst (λ (z : Element). IsDerived d defined_column z (element_tokens z)) (sym is) (
      (
        (n, (kind, rules_of made.nullable made.key)),
        (
          token_lexemes (name_of n),
          rest,
          refl,
          name_now.0,
          (token_lexemes (type_tokens kind), token_lexemes (column_rules made.nullable made.key), lexemes_append (type_tokens kind) (column_rules made.nullable made.key), type_now.0, rules_derive d made.nullable made.key),
        ),
        ap (column_element n kind) (sym (made_by made.nullable made.key)),
      ),
      stands_append (name_of n) (type_tokens kind ++ column_rules made.nullable made.key) name_now.1 (stands_append (type_tokens kind) (column_rules made.nullable made.key) type_now.1 (rules_stand made.nullable made.key)),
    )

element_again : (d : ℕ) → Respells d g.element element_tokens
unfolding g.element key_element
element_again d ts x (inl there) small = let again = defined_again d ts x there small in (inl again.0, again.1)
element_again d ts x (inr there) small =
    let names = parentheses_again d s.Open (g.list g.name) (with_commas name_of) refl (list_again d g.name name_of (name_again d)) in
    let key = map_behind d (g.in_parentheses (g.list g.name)) element.Key (λ ns. symbol s.Open ∷ (with_commas name_of ns ++ symbol s.Close ∷ [])) element_tokens (word w.Primary ∷ word w.Key ∷ []) (λ ns. refl) names in
    let again = from_nothing d key_element element_tokens
    (behind_again d w.Primary (g.after k.Key (map_phrase element.Key (g.in_parentheses (g.list g.name)))) element_tokens []
    (behind_again d w.Key (map_phrase element.Key (g.in_parentheses (g.list g.name))) element_tokens (word w.Primary ∷ []) key)) ts x there small in
    (inr again.0, again.1)

create_table_again : (d : ℕ) → Behind d create_table statement_tokens (word w.Create ∷ [])
unfolding create_table
create_table_again d =
    let elements = parentheses_again d s.Open (g.list g.element) (with_commas element_tokens) refl (list_again d g.element element_tokens (element_again d)) in
    behind_again d w.Table (map_phrase (λ x. statement.CreateTable x.0 x.1) (seq g.name (g.in_parentheses (g.list g.element)))) statement_tokens (word w.Create ∷ [])
    (map_behind d (seq g.name (g.in_parentheses (g.list g.element))) (λ x. statement.CreateTable x.0 x.1) (λ x. name_of x.0 ++ symbol s.Open ∷ (with_commas element_tokens x.1 ++ symbol s.Close ∷ []))
    statement_tokens (word w.Create ∷ word w.Table ∷ []) (λ x. refl)
    (pair_again d g.name (g.in_parentheses (g.list g.element)) name_of (λ xs. symbol s.Open ∷ (with_commas element_tokens xs ++ symbol s.Close ∷ [])) (name_again d) elements))

index_column_again : (d : ℕ) → Respells d index_column name_of
unfolding index_column
index_column_again d ts n (x, (us, vs, split, there, asc), is) small =
    let again = name_again d us x.0 there (parts ts us vs split small).0 in
    subst (λ (z : List ℕ). IsDerived d index_column z (name_of z)) (sym is) (((x.0, false), (token_lexemes (name_of x.0), [], refl, again.0, inr (refl, refl)), refl), again.1)

create_index_again : (d : ℕ) → Behind d create_index statement_tokens (word w.Create ∷ [])
unfolding create_index
create_index_again d =
    let columns = parentheses_again d s.Open (g.list index_column) (with_commas name_of) refl (list_again d index_column name_of (index_column_again d)) in
    let table = pair_again d g.name (g.in_parentheses (g.list index_column)) name_of (λ xs. symbol s.Open ∷ (with_commas name_of xs ++ symbol s.Close ∷ [])) (name_again d) columns in
    let on = after_again d w.On (seq g.name (g.in_parentheses (g.list index_column))) (λ x. name_of x.0 ++ symbol s.Open ∷ (with_commas name_of x.1 ++ symbol s.Close ∷ [])) table in
    behind_again d w.Index (map_phrase (λ x. statement.CreateIndex x.0 x.1.0 x.1.1) (seq g.name (g.after k.On (seq g.name (g.in_parentheses (g.list index_column)))))) statement_tokens (word w.Create ∷ [])
    (map_behind d (seq g.name (g.after k.On (seq g.name (g.in_parentheses (g.list index_column))))) (λ x. statement.CreateIndex x.0 x.1.0 x.1.1)
    (λ x. name_of x.0 ++ word w.On ∷ (name_of x.1.0 ++ symbol s.Open ∷ (with_commas name_of x.1.1 ++ symbol s.Close ∷ []))) statement_tokens (word w.Create ∷ word w.Index ∷ []) (λ x. refl)
    (pair_again d g.name (g.after k.On (seq g.name (g.in_parentheses (g.list index_column)))) name_of (λ x. word w.On ∷ (name_of x.0 ++ symbol s.Open ∷ (with_commas name_of x.1 ++ symbol s.Close ∷ []))) (name_again d) on))

create_again : (d : ℕ) → Behind d create statement_tokens []
unfolding create
create_again d = behind_again d w.Create (or create_table create_index) statement_tokens [] (or_behind d create_table create_index statement_tokens (word w.Create ∷ []) (create_table_again d) (create_index_again d))

drop_table_again : (d : ℕ) → Behind d drop_table statement_tokens []
unfolding drop_table
drop_table_again d = behind_again d w.Drop (g.after k.Table (map_phrase statement.DropTable g.name)) statement_tokens []
    (behind_again d w.Table (map_phrase statement.DropTable g.name) statement_tokens (word w.Drop ∷ [])
    (map_behind d g.name statement.DropTable name_of statement_tokens (word w.Drop ∷ word w.Table ∷ []) (λ n. refl) (name_again d)))

-- ---- rows

insert_source_again : (d : ℕ) → Respells d insert_source spec.insert_source
unfolding insert_source
insert_source_again d = from_nothing d insert_source spec.insert_source
    (or_behind d (g.after k.Values (map_phrase source.Values (g.in_parentheses (g.list g.expression)))) (map_phrase source.Answer query) spec.insert_source []
    (behind_again d w.Values (map_phrase source.Values (g.in_parentheses (g.list g.expression))) spec.insert_source []
    (map_behind d (g.in_parentheses (g.list g.expression)) source.Values (λ xs. symbol s.Open ∷ (with_commas expression xs ++ symbol s.Close ∷ [])) spec.insert_source (word w.Values ∷ []) (λ xs. refl)
    (parentheses_again d s.Open (g.list g.expression) (with_commas expression) refl (list_again d g.expression expression (expression_again d)))))
    (map_behind d query source.Answer spec.query spec.insert_source [] (λ q. refl) (query_again d)))

columns_same : (o : Option (List (List ℕ))) → spec.insert_columns o ≡ if_some (λ ns. symbol s.Open ∷ (with_commas name_of ns ++ symbol s.Close ∷ [])) o
columns_same None = refl
columns_same (Some ns) = refl

insert_columns_again : (d : ℕ) → Respells d insert_columns spec.insert_columns
unfolding insert_columns
insert_columns_again d = respelled_as d (g.maybe (g.in_parentheses (g.list g.name))) (if_some (λ ns. symbol s.Open ∷ (with_commas name_of ns ++ symbol s.Close ∷ []))) spec.insert_columns columns_same
    (maybe_again d (g.in_parentheses (g.list g.name)) (λ ns. symbol s.Open ∷ (with_commas name_of ns ++ symbol s.Close ∷ []))
    (parentheses_again d s.Open (g.list g.name) (with_commas name_of) refl (list_again d g.name name_of (name_again d))))

insert_again : (d : ℕ) → Behind d insert statement_tokens []
unfolding insert
insert_again d =
    let rows = pair_again d insert_columns insert_source spec.insert_columns spec.insert_source (insert_columns_again d) (insert_source_again d) in
    let into = pair_again d g.name (seq insert_columns insert_source) name_of (λ x. spec.insert_columns x.0 ++ spec.insert_source x.1) (name_again d) rows in
    behind_again d w.Insert (map_phrase (λ x. statement.Insert x.1.0 x.1.1.0 x.1.1.1) (seq (g.optional k.Into) (seq g.name (seq insert_columns insert_source)))) statement_tokens []
    (written_again d w.Into (seq g.name (seq insert_columns insert_source)) (λ x. statement.Insert x.0 x.1.0 x.1.1) (λ x. name_of x.0 ++ (spec.insert_columns x.1.0 ++ spec.insert_source x.1.1)) statement_tokens (word w.Insert ∷ []) (λ x. refl) into)

set_item_again : (d : ℕ) → Respells d set_item spec.set_item
unfolding set_item
set_item_again d = map_again d (seq g.name (g.after k.Equal g.expression)) (λ x. set_item_of x.0 x.1) (λ x. name_of x.0 ++ symbol s.Equal ∷ expression x.1) spec.set_item (λ x. refl)
    (pair_again d g.name (g.after k.Equal g.expression) name_of (λ x. symbol s.Equal ∷ expression x) (name_again d) (after_equals_again d g.expression expression (expression_again d)))

update_again : (d : ℕ) → Behind d update statement_tokens []
unfolding update
update_again d =
    let sets = pair_again d (g.list set_item) filter (with_commas spec.set_item) (spec.condition w.Where) (list_again d set_item spec.set_item (set_item_again d)) (filter_again d) in
    let set = after_again d w.Set (seq (g.list set_item) filter) (λ x. with_commas spec.set_item x.0 ++ spec.condition w.Where x.1) sets in
    behind_again d w.Update (map_phrase (λ x. statement.Update x.0 x.1.0 x.1.1) (seq g.name (g.after k.Set (seq (g.list set_item) filter)))) statement_tokens []
    (map_behind d (seq g.name (g.after k.Set (seq (g.list set_item) filter))) (λ x. statement.Update x.0 x.1.0 x.1.1) (λ x. name_of x.0 ++ word w.Set ∷ (with_commas spec.set_item x.1.0 ++ spec.condition w.Where x.1.1))
    statement_tokens (word w.Update ∷ []) (λ x. refl)
    (pair_again d g.name (g.after k.Set (seq (g.list set_item) filter)) name_of (λ x. word w.Set ∷ (with_commas spec.set_item x.0 ++ spec.condition w.Where x.1)) (name_again d) set))

delete_again : (d : ℕ) → Behind d delete statement_tokens []
unfolding delete
delete_again d =
    behind_again d w.Delete (map_phrase (λ x. statement.Delete x.1.0 x.1.1) (seq (g.optional k.From) (seq g.name filter))) statement_tokens []
    (written_again d w.From (seq g.name filter) (λ x. statement.Delete x.0 x.1) (λ x. name_of x.0 ++ spec.condition w.Where x.1) statement_tokens (word w.Delete ∷ []) (λ x. refl)
    (pair_again d g.name filter name_of (spec.condition w.Where) (name_again d) (filter_again d)))

-- ---- transactions and options

commit_again : (d : ℕ) → Behind d commit statement_tokens []
unfolding commit
commit_again d = behind_again d w.Commit (map_phrase (λ _. statement.Commit) (g.optional k.Work)) statement_tokens []
    (λ ts x there small. ([], ap statement_tokens there.2, ((false, inr (refl, refl), there.2), refl)))

checkpoint_again : (d : ℕ) → Behind d checkpoint statement_tokens []
unfolding checkpoint
checkpoint_again d ts x there small = (word w.Checkpoint ∷ [], ap statement_tokens there.2, ((tt, (sign k.Checkpoint, refl, refl, refl), there.2), refl))

back_again : (d : ℕ) → Behind d (or (g.sign k.Work statement.Rollback) (or (g.after k.To (g.after k.Savepoint (map_phrase statement.RollbackTo g.name))) (empty statement.Rollback))) statement_tokens (word w.Rollback ∷ [])
back_again d ts x (inl there) small = ([], ap statement_tokens there.2, (inr (inr (refl, there.2)), refl))
back_again d ts x (inr (inl there)) small =
    let again = behind_again d w.To (g.after k.Savepoint (map_phrase statement.RollbackTo g.name)) statement_tokens (word w.Rollback ∷ [])
    (behind_again d w.Savepoint (map_phrase statement.RollbackTo g.name) statement_tokens (word w.Rollback ∷ word w.To ∷ [])
    (map_behind d g.name statement.RollbackTo name_of statement_tokens (word w.Rollback ∷ word w.To ∷ word w.Savepoint ∷ []) (λ n. refl) (name_again d))) ts x there small in
    (again.0, again.1, (inr (inl again.2.0), again.2.1))
back_again d ts x (inr (inr there)) small = ([], ap statement_tokens there.1, (inr (inr (refl, there.1)), refl))

rollback_again : (d : ℕ) → Behind d rollback statement_tokens []
unfolding rollback
rollback_again d = behind_again d w.Rollback (or (g.sign k.Work statement.Rollback) (or (g.after k.To (g.after k.Savepoint (map_phrase statement.RollbackTo g.name))) (empty statement.Rollback))) statement_tokens [] (back_again d)

savepoint_again : (d : ℕ) → Behind d savepoint statement_tokens []
unfolding savepoint
savepoint_again d = behind_again d w.Savepoint (map_phrase statement.Savepoint g.name) statement_tokens [] (map_behind d g.name statement.Savepoint name_of statement_tokens (word w.Savepoint ∷ []) (λ n. refl) (name_again d))

release_again : (d : ℕ) → Behind d release statement_tokens []
unfolding release
release_again d = behind_again d w.Release (g.after k.Savepoint (map_phrase statement.Release g.name)) statement_tokens []
    (behind_again d w.Savepoint (map_phrase statement.Release g.name) statement_tokens (word w.Release ∷ [])
    (map_behind d g.name statement.Release name_of statement_tokens (word w.Release ∷ word w.Savepoint ∷ []) (λ n. refl) (name_again d)))

abbrev level_of : ℕ → List Token
level_of n = number n ∷ []

level_at : (d : ℕ) (l : Lexeme) (n : ℕ) (o : Option ℕ) → l.number ≡ o → level_value o ≡ Some n → is_small l ≡ true → IsDerived d isolation_level n (level_of n)
unfolding isolation_level
level_at d l n None p q small = cc
level_at d l n (Some m) p q small =
    let low : nat_lt m (2 ^ 63) ≡ true = ap small_number (sym p) ∙ small in
    decide (nat_lt m 4) q refl
  where
    decide : (b : Bool) → (if b then Some m else None) ≡ Some n → nat_lt m 4 ≡ b → IsDerived d isolation_level n (level_of n)
    decide true r f =
        let same : m ≡ n = cc in
        let low : nat_lt m (2 ^ 63) ≡ true = ap small_number (sym p) ∙ small in
        subst (λ (z : ℕ). IsDerived d isolation_level z (level_of z)) same ((number_lexeme m, refl, refl, ap (λ (b : Bool). if b then Some m else None) f), ap (λ b. b && true) low)
    decide false r f = cc

level_again : (d : ℕ) → Respells d isolation_level level_of
unfolding isolation_level
level_again d ts n (l, q, kind, there) small = level_at d l n l.number refl there (small_one ts l q small)

switch_again : (d : ℕ) → Respells d switch (λ b. word (spec.switch b) ∷ [])
unfolding switch
switch_again d ts true there small = (inl (tt, (sign k.On, refl, refl, refl), refl), refl)
switch_again d ts false there small = (inr (inl (tt, (sign k.Off, refl, refl, refl), refl)), refl)

abbrev front : List Token
front = word w.Set ∷ word w.Temporary ∷ word w.Option ∷ []

set_level_again : (d : ℕ) → Behind d set_level statement_tokens front
unfolding set_level
set_level_again d = behind_again d w.IsolationLevel (g.after k.Equal (map_phrase statement.SetLevel isolation_level)) statement_tokens front
    (equals_again d (map_phrase statement.SetLevel isolation_level) statement_tokens (front ++ word w.IsolationLevel ∷ [])
    (map_behind d isolation_level statement.SetLevel level_of statement_tokens (front ++ word w.IsolationLevel ∷ symbol s.Equal ∷ []) (λ n. refl) (level_again d)))

set_blocking_again : (d : ℕ) → Behind d set_blocking statement_tokens front
unfolding set_blocking
set_blocking_again d = behind_again d w.Blocking (g.after k.Equal (map_phrase statement.SetBlocking switch)) statement_tokens front
    (equals_again d (map_phrase statement.SetBlocking switch) statement_tokens (front ++ word w.Blocking ∷ [])
    (map_behind d switch statement.SetBlocking (λ b. word (spec.switch b) ∷ []) statement_tokens (front ++ word w.Blocking ∷ symbol s.Equal ∷ []) (λ b. refl) (switch_again d)))

set_option_again : (d : ℕ) → Behind d set_option statement_tokens []
unfolding set_option
set_option_again d = behind_again d w.Set (g.after k.Temporary (g.after k.Option (or set_level set_blocking))) statement_tokens []
    (behind_again d w.Temporary (g.after k.Option (or set_level set_blocking)) statement_tokens (word w.Set ∷ [])
    (behind_again d w.Option (or set_level set_blocking) statement_tokens (word w.Set ∷ word w.Temporary ∷ [])
    (or_behind d set_level set_blocking statement_tokens front (set_level_again d) (set_blocking_again d))))

-- ---- every statement

abbrev from_release : Sql Statement
from_release = or release set_option

from_release_again : (d : ℕ) → Behind d from_release statement_tokens []
from_release_again d = or_behind d release set_option statement_tokens [] (release_again d) (set_option_again d)

abbrev from_savepoint : Sql Statement
from_savepoint = or savepoint from_release

from_savepoint_again : (d : ℕ) → Behind d from_savepoint statement_tokens []
from_savepoint_again d = or_behind d savepoint from_release statement_tokens [] (savepoint_again d) (from_release_again d)

abbrev from_rollback : Sql Statement
from_rollback = or rollback from_savepoint

from_rollback_again : (d : ℕ) → Behind d from_rollback statement_tokens []
from_rollback_again d = or_behind d rollback from_savepoint statement_tokens [] (rollback_again d) (from_savepoint_again d)

abbrev from_checkpoint : Sql Statement
from_checkpoint = or checkpoint from_rollback

from_checkpoint_again : (d : ℕ) → Behind d from_checkpoint statement_tokens []
from_checkpoint_again d = or_behind d checkpoint from_rollback statement_tokens [] (checkpoint_again d) (from_rollback_again d)

abbrev from_commit : Sql Statement
from_commit = or commit from_checkpoint

from_commit_again : (d : ℕ) → Behind d from_commit statement_tokens []
from_commit_again d = or_behind d commit from_checkpoint statement_tokens [] (commit_again d) (from_checkpoint_again d)

abbrev from_query : Sql Statement
from_query = or (map_phrase statement.Select query) from_commit

from_query_again : (d : ℕ) → Behind d from_query statement_tokens []
from_query_again d = or_behind d (map_phrase statement.Select query) from_commit statement_tokens [] (map_behind d query statement.Select spec.query statement_tokens [] (λ q. refl) (query_again d)) (from_commit_again d)

abbrev from_delete : Sql Statement
from_delete = or delete from_query

from_delete_again : (d : ℕ) → Behind d from_delete statement_tokens []
from_delete_again d = or_behind d delete from_query statement_tokens [] (delete_again d) (from_query_again d)

abbrev from_update : Sql Statement
from_update = or update from_delete

from_update_again : (d : ℕ) → Behind d from_update statement_tokens []
from_update_again d = or_behind d update from_delete statement_tokens [] (update_again d) (from_delete_again d)

abbrev from_insert : Sql Statement
from_insert = or insert from_update

from_insert_again : (d : ℕ) → Behind d from_insert statement_tokens []
from_insert_again d = or_behind d insert from_update statement_tokens [] (insert_again d) (from_update_again d)

abbrev from_drop_table : Sql Statement
from_drop_table = or drop_table from_insert

from_drop_table_again : (d : ℕ) → Behind d from_drop_table statement_tokens []
from_drop_table_again d = or_behind d drop_table from_insert statement_tokens [] (drop_table_again d) (from_insert_again d)

pub statement_again : (d : ℕ) → Respells d g.statement statement_tokens
unfolding g.statement
statement_again d = from_nothing d (or create from_drop_table) statement_tokens (or_behind d create from_drop_table statement_tokens [] (create_again d) (from_drop_table_again d))

-- ---- tokens of a text

small_value : (s : List ℕ) → small_number (number_value s) ≡ true
unfolding number_value
small_value s = decide (nat_lt (decimal s) 9223372036854775808) refl
  where
    decide : (b : Bool) → nat_lt (decimal s) 9223372036854775808 ≡ b → small_number (if b then Some (decimal s) else None) ≡ true
    decide true q = q
    decide false q = refl

small_if : (b : Bool) (o : Option ℕ) → small_number o ≡ true → small_number (if b then o else None) ≡ true
small_if true o h = h
small_if false o h = refl

pub text_small : (text : List ℕ) (ts : List Place) → AreSmall (lexemes_of text ts)
text_small text [] = refl
text_small text (t ∷ ts) =
    let one : is_small (lexeme_of text t) ≡ true = small_if (same_kind (kind_of t.kind (token_bytes text t)) k.Number) (number_value (token_bytes text t)) (small_value (token_bytes text t)) in
    ap (λ b. b && list_all is_small (lexemes_of text ts)) one ∙ text_small text ts

pub reads_back : (levels : ℕ) (text : List ℕ) (ts : List Place) (x : Statement) → DerivesWithin sql levels g.statement (lexemes_of text ts) x
    → DerivesWithin sql levels g.statement (lexemes_of (spelled_text x) (tokens_of (spelled_text x))) x
reads_back levels text ts x there =
    let again = statement_again levels (lexemes_of text ts) x there (text_small text ts) in
    subst (λ (ys : List Lexeme). DerivesWithin sql levels g.statement ys x) (sym (read_back (statement_tokens x) again.1)) again.0
