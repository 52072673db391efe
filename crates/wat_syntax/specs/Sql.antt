-- The grammar of statements, with the trees that it gives. Each rule stands below its text in EBNF. A rule is defined
-- before it is used, so the rules come in the reverse order of docs/LANGUAGE.md. Alternatives that begin with the same
-- words stand behind them as one, so that one token seen ahead is enough.
use Rattle.std.specs.Prelude.{ℕ, ℤ, pos, Bool, true, false, nat_lt, if◌then◌else◌, List, [], ◌∷◌, fold, option_map, Option, Some, None, codes}
use Rattle.wat_grammar.specs.Phrase.{Phrase, token, empty, seq, or, many, map, level, nested, Grammar, DerivesWithin}
use Rattle.wat_word.specs.Words.{is_name, is_same_word}
use Rattle.wat_value.specs.declared.value.Value.TheVariants as value
use Rattle.wat_ast.specs.declared.expression.AggregateKind.{AggregateKind}
use Rattle.wat_ast.specs.declared.expression.AggregateKind.TheVariants as aggregate
use Rattle.wat_ast.specs.declared.expression.UnaryOp.TheVariants as unary
use Rattle.wat_ast.specs.declared.expression.BinaryOp.{BinaryOp}
use Rattle.wat_ast.specs.declared.expression.BinaryOp.TheVariants as binary
use Rattle.wat_ast.specs.declared.expression.Expr.{Expr}
use Rattle.wat_ast.specs.declared.expression.Expr.TheVariants as e
use Rattle.wat_ast.specs.declared.query.SelectItems.{SelectItems}
use Rattle.wat_ast.specs.declared.query.SelectItems.TheVariants as shown
use Rattle.wat_ast.specs.declared.query.Source.{Source}
use Rattle.wat_ast.specs.declared.query.OrderBy.{OrderBy}
use Rattle.wat_ast.specs.declared.query.OrderBy.TheVariants as by
use Rattle.wat_ast.specs.declared.query.OrderItem.{OrderItem}
use Rattle.wat_ast.specs.declared.query.Query.{Query}
use Rattle.wat_ast.specs.declared.statement.TypeName.{TypeName}
use Rattle.wat_ast.specs.declared.statement.TypeName.TheVariants as t
use Rattle.wat_ast.specs.declared.statement.Element.{Element}
use Rattle.wat_ast.specs.declared.statement.Element.TheVariants as el
use Rattle.wat_ast.specs.declared.statement.SetItem.{SetItem}
use Rattle.wat_ast.specs.declared.statement.InsertSource.{InsertSource}
use Rattle.wat_ast.specs.declared.statement.InsertSource.TheVariants as from
use Rattle.wat_ast.specs.declared.statement.Statement.{Statement}
use Rattle.wat_ast.specs.declared.statement.Statement.TheVariants as s
use Rattle.wat_syntax.specs.declared.kind.Kind.{Kind}
use Rattle.wat_syntax.specs.declared.kind.Kind.TheVariants as k
use Rattle.wat_syntax.specs.declared.nest.Nest.{Nest}
use Rattle.wat_syntax.specs.declared.nest.Nest.TheVariants.{Whole, Negation, Factor}
use Rattle.wat_syntax.specs.Lexeme.{Lexeme, IsToken, same_kind}

abbrev pub Sql : Type 0 → Type 1
Sql = Phrase Kind Lexeme Nest Expr

-- ---- tokens

-- a reserved word or a symbol
abbrev pub word : Kind → Sql (Unit {0})
word k = token k (λ _. Some tt)

-- The name that a word is. Each word that is not reserved is one.
abbrev pub some_name : List ℕ → Option (List ℕ)
some_name text = if is_name text then Some text else None

abbrev pub name : Sql (List ℕ)
name = token k.Name (λ x. some_name x.text)

abbrev pub number : Sql ℤ
number = token k.Number (λ x. option_map pos x.number)

abbrev pub quoted : Sql (List ℕ)
quoted = token k.Quoted (λ x. Some x.text)

-- ---- parts

-- the phrase after the word
abbrev pub after : {A : Type 0} → Kind → Sql A → Sql A
after k p = map (λ x. x.1) (seq (word k) p)

-- the phrase before the word
abbrev pub before : {A : Type 0} → Sql A → Kind → Sql A
before p k = map (λ x. x.0) (seq p (word k))

-- ( p )
abbrev pub in_parentheses : {A : Type 0} → Sql A → Sql A
in_parentheses p = after k.Open (before p k.Close)

-- [p]
abbrev pub maybe : {A : Type 0} → Sql A → Sql (Option A)
maybe p = or (map Some p) (empty None)

-- [k], and whether the word stands
abbrev pub optional : Kind → Sql Bool
optional k = or (map (λ _. true) (word k)) (empty false)

-- p {, p}
abbrev pub list : {A : Type 0} → Sql A → Sql (List A)
list p = map (λ x. x.0 ∷ x.1) (seq p (many (after k.Comma p)))

-- a word or a symbol that stands for something
abbrev pub sign : {A : Type 0} → Kind → A → Sql A
sign k a = map (λ _. a) (word k)

abbrev pub operation : Expr → BinaryOp × Expr → Expr
operation left x = e.Binary x.0 left x.1

-- p {op p}, grouped to the left
abbrev pub chain : Sql BinaryOp → Sql Expr → Sql Expr
chain op p = map (λ x. fold operation x.0 x.1) (seq p (many (seq op p)))

-- ---- expressions

abbrev pub column_of : List ℕ → Option (List ℕ) → Expr
column_of first None = e.Named None first
column_of first (Some second) = e.Named (Some first) second

-- column = name [. name]
unfoldable pub column : Sql Expr
column = map (λ x. column_of x.0 x.1) (seq name (maybe (after k.Dot name)))

unfoldable pub parenthesized : Sql Expr
parenthesized = level (in_parentheses (nested Whole))

-- * | expr
unfoldable pub count_argument : Sql (Option Expr)
count_argument = or (sign k.Star None) (map Some (nested Whole))

-- COUNT ( * ) | COUNT ( expr )
unfoldable pub count : Sql Expr
count = level (map (e.Aggregate aggregate.Count) (after k.Count (in_parentheses count_argument)))

unfoldable pub aggregate_word : Sql AggregateKind
aggregate_word = or (sign k.Sum aggregate.Sum) (or (sign k.Min aggregate.Min) (sign k.Max aggregate.Max))

-- (SUM | MIN | MAX) ( expr )
unfoldable pub aggregated : Sql Expr
aggregated = level (map (λ x. e.Aggregate x.0 (Some x.1)) (seq aggregate_word (in_parentheses (nested Whole))))

-- primary = number | string | NULL | column | ( expr ) | COUNT ( * ) | (COUNT | SUM | MIN | MAX) ( expr )
unfoldable pub primary : Sql Expr
primary =
    or (map (λ n. e.Literal (value.Int n)) number)
    (or (map (λ text. e.Literal (value.Text text)) quoted)
    (or (sign k.Null (e.Literal value.Null))
    (or column
    (or parenthesized
    (or count aggregated)))))

-- factor = - factor | primary
unfoldable pub factor : Sql Expr
factor = or (level (after k.Minus (map (e.Unary unary.Minus) (nested Factor)))) primary

unfoldable pub term_operator : Sql BinaryOp
term_operator = or (sign k.Star binary.Multiply) (sign k.Slash binary.Divide)

-- term = factor {(* | /) factor}
unfoldable pub term : Sql Expr
term = chain term_operator factor

unfoldable pub sum_operator : Sql BinaryOp
sum_operator = or (sign k.Plus binary.Add) (or (sign k.Minus binary.Subtract) (sign k.Concat binary.Concat))

-- sum = term {(+ | - | ||) term}
unfoldable pub sum : Sql Expr
sum = chain sum_operator term

-- cmp = = | <> | < | <= | > | >=
unfoldable pub comparison : Sql BinaryOp
comparison =
    or (sign k.Equal binary.Equal) (or (sign k.Unequal binary.Unequal) (or (sign k.Less binary.Less)
    (or (sign k.AtMost binary.AtMost) (or (sign k.Greater binary.Greater) (sign k.AtLeast binary.AtLeast)))))

-- What may stand behind a sum makes a test of it. The flag says that NOT stands before.
abbrev pub Change : Type 0
Change = Expr → Expr

-- cmp sum
unfoldable pub compared : Sql Change
compared = map (λ x arg. e.Binary x.0 arg x.1) (seq comparison sum)

-- IS [NOT] NULL
unfoldable pub is_null : Sql Change
is_null = after k.Is (map (λ negated arg. e.IsNull arg negated) (before (optional k.Not) k.Null))

-- BETWEEN sum AND sum
unfoldable pub between : Sql (Bool → Change)
between = after k.Between (map (λ x negated arg. e.Between arg x.0 x.1 negated) (seq sum (after k.And sum)))

-- IN ( expr {, expr} )
unfoldable pub among : Sql (Bool → Change)
among = level (after k.In (map (λ xs negated arg. e.InList arg xs negated) (in_parentheses (list (nested Whole)))))

unfoldable pub ranged : Bool → Sql Change
ranged negated = map (λ change. change negated) (or between among)

unfoldable pub test : Sql Change
test = or compared (or is_null (or (after k.Not (ranged true)) (or (ranged false) (empty (λ arg. arg)))))

-- pred = sum [ cmp sum | IS [NOT] NULL | [NOT] BETWEEN sum AND sum | [NOT] IN ( expr {, expr} ) ]
unfoldable pub predicate : Sql Expr
predicate = map (λ x. x.1 x.0) (seq sum test)

-- neg = NOT neg | pred
unfoldable pub negation : Sql Expr
negation = or (level (after k.Not (map (e.Unary unary.Not) (nested Negation)))) predicate

unfoldable pub conjunction_operator : Sql BinaryOp
conjunction_operator = sign k.And binary.And

-- conj = neg {AND neg}
unfoldable pub conjunction : Sql Expr
conjunction = chain conjunction_operator negation

unfoldable pub expression_operator : Sql BinaryOp
expression_operator = sign k.Or binary.Or

-- expr = conj {OR conj}
unfoldable pub expression : Sql Expr
expression = chain expression_operator conjunction

-- ---- queries

-- [ASC | DESC], and whether it is DESC
unfoldable pub direction : Sql Bool
direction = or (sign k.Asc false) (or (sign k.Desc true) (empty false))

unfoldable pub order_by : Sql OrderBy
order_by = or (map by.Column column) (map by.Position number)

abbrev pub order_item : OrderBy → Bool → OrderItem
order_item what descending = record { by = what; descending = descending }

-- order = ( column | number ) [ASC | DESC]
unfoldable pub order : Sql OrderItem
order = map (λ x. order_item x.0 x.1) (seq order_by direction)

-- [[AS] name]
unfoldable pub alias : Sql (Option (List ℕ))
alias = or (map Some (after k.As name)) (maybe name)

abbrev pub source_of : List ℕ → Option (List ℕ) → Source
source_of table alias = record { table = table; alias = alias }

-- source = name [[AS] name]
unfoldable pub source : Sql Source
source = map (λ x. source_of x.0 x.1) (seq name alias)

-- * | expr {, expr}
unfoldable pub select_items : Sql SelectItems
select_items = or (sign k.Star shown.Star) (map shown.List (list expression))

-- [WHERE expr]
unfoldable pub filter : Sql (Option Expr)
filter = maybe (after k.Where expression)

-- [GROUP BY column {, column}]
unfoldable pub grouping : Sql (List Expr)
grouping = or (after k.Group (after k.By (list column))) (empty [])

-- [HAVING expr]
unfoldable pub having : Sql (Option Expr)
having = maybe (after k.Having expression)

-- [ORDER BY order {, order}]
unfoldable pub ordering : Sql (List OrderItem)
ordering = or (after k.Order (after k.By (list order))) (empty [])

-- a query of these parts, in the order of its text
abbrev pub query_of : Bool × (SelectItems × (List Source × (Option Expr × (List Expr × (Option Expr × List OrderItem))))) → Query
query_of (distinct, (items, (sources, (filter, (group, (having, order)))))) =
    record { distinct = distinct; items = items; sources = sources; filter = filter; group = group; having = having; order = order }

-- query = SELECT [DISTINCT] ( * | expr {, expr} ) FROM source {, source} [WHERE expr]
--         [GROUP BY column {, column}] [HAVING expr] [ORDER BY order {, order}]
unfoldable pub query : Sql Query
query = after k.Select (map query_of (seq (optional k.Distinct) (seq select_items (after k.From (seq (list source) (seq filter (seq grouping (seq having ordering))))))))

-- ---- statements

abbrev pub switch_text : List ℕ → Option Bool
switch_text text = if is_same_word (codes "ON") text then Some true else (if is_same_word (codes "OFF") text then Some false else None)

-- switch = ON | OFF | 'ON' | 'OFF'   (the strings in any ASCII case)
unfoldable pub switch : Sql Bool
switch = or (sign k.On true) (or (sign k.Off false) (token k.Quoted (λ x. switch_text x.text)))

abbrev pub level_number : ℕ → Option ℕ
level_number n = if nat_lt n 4 then Some n else None

abbrev pub level_value : Option ℕ → Option ℕ
level_value None = None
level_value (Some n) = level_number n

-- level = a number from 0 to 3
unfoldable pub isolation_level : Sql ℕ
isolation_level = token k.Number (λ x. level_value x.number)

-- type = INTEGER | INT | CHAR ( number ) | VARCHAR ( number )
unfoldable pub type_name : Sql TypeName
type_name =
    or (sign k.Integer t.Integer) (or (sign k.Int t.Integer)
    (or (after k.Char (map t.Char (in_parentheses number))) (after k.Varchar (map t.Varchar (in_parentheses number)))))

-- the rules of a column: whether it is nullable, and whether it is the primary key
pub record ColumnRules : Type 0 where
  pub nullable : Bool
  pub key : Bool

-- A rule changes the rules, so that of NULL and NOT NULL the last one counts.
abbrev pub not_null : ColumnRules → ColumnRules
not_null rules = record { nullable = false; key = rules.key }

abbrev pub null : ColumnRules → ColumnRules
null rules = record { nullable = true; key = rules.key }

abbrev pub primary_key : ColumnRules → ColumnRules
primary_key rules = record { nullable = rules.nullable; key = true }

abbrev pub no_rules : ColumnRules
no_rules = record { nullable = true; key = false }

abbrev pub ruled : ColumnRules → (ColumnRules → ColumnRules) → ColumnRules
ruled rules rule = rule rules

-- NOT NULL | NULL | PRIMARY KEY
unfoldable pub column_rule : Sql (ColumnRules → ColumnRules)
column_rule = or (after k.Not (sign k.Null not_null)) (or (sign k.Null null) (after k.Primary (sign k.Key primary_key)))

abbrev pub column_element : List ℕ → TypeName → ColumnRules → Element
column_element name kind rules = el.Column name kind rules.nullable rules.key

-- name type {NOT NULL | NULL | PRIMARY KEY}
unfoldable pub defined_column : Sql Element
defined_column = map (λ x. column_element x.0 x.1.0 (fold ruled no_rules x.1.1)) (seq name (seq type_name (many column_rule)))

-- PRIMARY KEY ( name {, name} )
unfoldable pub key_element : Sql Element
key_element = after k.Primary (after k.Key (map el.Key (in_parentheses (list name))))

-- element = name type {NOT NULL | NULL | PRIMARY KEY} | PRIMARY KEY ( name {, name} )
unfoldable pub element : Sql Element
element = or defined_column key_element

-- TABLE name ( element {, element} )
unfoldable pub create_table : Sql Statement
create_table = after k.Table (map (λ x. s.CreateTable x.0 x.1) (seq name (in_parentheses (list element))))

-- name [ASC]
unfoldable pub index_column : Sql (List ℕ)
index_column = map (λ x. x.0) (seq name (optional k.Asc))

-- INDEX name ON name ( name [ASC] {, name [ASC]} )
unfoldable pub create_index : Sql Statement
create_index = after k.Index (map (λ x. s.CreateIndex x.0 x.1.0 x.1.1) (seq name (after k.On (seq name (in_parentheses (list index_column))))))

-- CREATE TABLE .. | CREATE INDEX ..
unfoldable pub create : Sql Statement
create = after k.Create (or create_table create_index)

-- DROP TABLE name
unfoldable pub drop_table : Sql Statement
drop_table = after k.Drop (after k.Table (map s.DropTable name))

-- VALUES ( expr {, expr} ) | query
unfoldable pub insert_source : Sql InsertSource
insert_source = or (after k.Values (map from.Values (in_parentheses (list expression)))) (map from.Answer query)

-- [( name {, name} )]
unfoldable pub insert_columns : Sql (Option (List (List ℕ)))
insert_columns = maybe (in_parentheses (list name))

-- INSERT [INTO] name [( name {, name} )] ( VALUES ( expr {, expr} ) | query )
unfoldable pub insert : Sql Statement
insert = after k.Insert (map (λ x. s.Insert x.1.0 x.1.1.0 x.1.1.1) (seq (optional k.Into) (seq name (seq insert_columns insert_source))))

abbrev pub set_item_of : List ℕ → Expr → SetItem
set_item_of name value = record { name = name; value = value }

-- name = expr
unfoldable pub set_item : Sql SetItem
set_item = map (λ x. set_item_of x.0 x.1) (seq name (after k.Equal expression))

-- UPDATE name SET name = expr {, name = expr} [WHERE expr]
unfoldable pub update : Sql Statement
update = after k.Update (map (λ x. s.Update x.0 x.1.0 x.1.1) (seq name (after k.Set (seq (list set_item) filter))))

-- DELETE [FROM] name [WHERE expr]
unfoldable pub delete : Sql Statement
delete = after k.Delete (map (λ x. s.Delete x.1.0 x.1.1) (seq (optional k.From) (seq name filter)))

-- COMMIT [WORK]
unfoldable pub commit : Sql Statement
commit = after k.Commit (map (λ _. s.Commit) (optional k.Work))

unfoldable pub checkpoint : Sql Statement
checkpoint = sign k.Checkpoint s.Checkpoint

-- ROLLBACK [WORK | TO SAVEPOINT name]
unfoldable pub rollback : Sql Statement
rollback = after k.Rollback (or (sign k.Work s.Rollback) (or (after k.To (after k.Savepoint (map s.RollbackTo name))) (empty s.Rollback)))

-- SAVEPOINT name
unfoldable pub savepoint : Sql Statement
savepoint = after k.Savepoint (map s.Savepoint name)

-- RELEASE SAVEPOINT name
unfoldable pub release : Sql Statement
release = after k.Release (after k.Savepoint (map s.Release name))

-- ISOLATION_LEVEL = level
unfoldable pub set_level : Sql Statement
set_level = after k.IsolationLevel (after k.Equal (map s.SetLevel isolation_level))

-- BLOCKING = switch
unfoldable pub set_blocking : Sql Statement
set_blocking = after k.Blocking (after k.Equal (map s.SetBlocking switch))

-- SET TEMPORARY OPTION ISOLATION_LEVEL .. | SET TEMPORARY OPTION BLOCKING ..
unfoldable pub set_option : Sql Statement
set_option = after k.Set (after k.Temporary (after k.Option (or set_level set_blocking)))

-- statement = CREATE TABLE .. | CREATE INDEX .. | DROP TABLE .. | INSERT .. | UPDATE .. | DELETE .. | query
--           | COMMIT .. | CHECKPOINT | ROLLBACK .. | SAVEPOINT .. | RELEASE .. | SET ..
unfoldable pub statement : Sql Statement
statement =
    or create (or drop_table (or insert (or update (or delete (or (map s.Select query)
    (or commit (or checkpoint (or rollback (or savepoint (or release set_option))))))))))

-- ---- what one token tells

-- the phrases that stand inside themselves
abbrev pub rule_of : Nest → Sql Expr
rule_of Whole = expression
rule_of Negation = negation
rule_of Factor = factor

abbrev pub operand : List Kind
operand = k.Minus ∷ k.Number ∷ k.Quoted ∷ k.Null ∷ k.Name ∷ k.Open ∷ k.Count ∷ k.Sum ∷ k.Min ∷ k.Max ∷ []

-- with which tokens they begin
abbrev pub begins_of : Nest → List Kind
begins_of Whole = k.Not ∷ operand
begins_of Negation = k.Not ∷ operand
begins_of Factor = operand

abbrev pub tests : List Kind
tests =
    k.Dot ∷ k.Star ∷ k.Slash ∷ k.Plus ∷ k.Minus ∷ k.Concat ∷ k.Equal ∷ k.Unequal ∷ k.Less ∷ k.AtMost ∷ k.Greater ∷ k.AtLeast ∷
    k.Is ∷ k.Not ∷ k.Between ∷ k.In ∷ []

-- with which they may go on where they could end
abbrev pub goes_on_of : Nest → List Kind
goes_on_of Whole = k.Or ∷ k.And ∷ tests
goes_on_of Negation = tests
goes_on_of Factor = k.Dot ∷ []

abbrev pub sql : Grammar Kind Lexeme Nest Expr
sql = record { IsToken = IsToken; kind = λ x. x.kind; same = same_kind; rule = rule_of; entry = begins_of; exit = goes_on_of }

-- how deep expressions may nest
abbrev pub max_nesting : ℕ
max_nesting = 100

-- These tokens are a statement, which has this tree.
abbrev pub IsStatement : List Lexeme → Statement → Type 0
IsStatement = DerivesWithin sql max_nesting statement
