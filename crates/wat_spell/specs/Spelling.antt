-- The tokens that spell an expression.
use Rattle.std.specs.Prelude.{ℕ, ℤ, pos, negsuc, suc, ◌+◌, max, Bool, true, false, nat_lt, if◌then◌else◌, List, [], ◌∷◌, ◌++◌, Option, Some, None}
use Rattle.std.specs.List.{join_by}
use Rattle.wat_word.specs.declared.keyword.Keyword.{Keyword}
use Rattle.wat_word.specs.declared.keyword.Keyword.TheVariants as w
use Rattle.wat_value.specs.declared.value.Value.{Value}
use Rattle.wat_value.specs.declared.value.Value.TheVariants as value
use Rattle.wat_ast.specs.declared.expression.UnaryOp.{UnaryOp}
use Rattle.wat_ast.specs.declared.expression.UnaryOp.TheVariants as unary
use Rattle.wat_ast.specs.declared.expression.BinaryOp.{BinaryOp}
use Rattle.wat_ast.specs.declared.expression.BinaryOp.TheVariants as binary
use Rattle.wat_ast.specs.declared.expression.AggregateKind.{AggregateKind}
use Rattle.wat_ast.specs.declared.expression.AggregateKind.TheVariants as aggregate
use Rattle.wat_ast.specs.declared.expression.Expr.{Expr, fold-Expr}
use Rattle.wat_ast.specs.declared.expression.Expr.TheOpen.{Expr-F}
use Rattle.wat_spell.specs.declared.symbol.Symbol.TheVariants as s
use Rattle.wat_spell.specs.Tokens.{Token, word, name, number, negative, quoted, symbol}

-- What spells an expression: how tightly its outermost operator binds, its tokens, and the levels of nesting that they open.
-- The ranks are 0 for OR, 1 for AND, 2 for NOT, 3 for a test, 4 for a sum, 5 for a term, 6 for a factor and 7 for what
-- stands by itself.
pub record Spelling : Type 0 where
  pub rank : ℕ
  pub tokens : List Token
  pub levels : ℕ

-- in parentheses, which open a level
abbrev pub enclosed : Spelling → Spelling
enclosed x = record { rank = 7; tokens = symbol s.Open ∷ (x.tokens ++ symbol s.Close ∷ []); levels = x.levels + 1 }

-- in parentheses exactly where it binds less tightly than its place asks
abbrev pub placed : ℕ → Spelling → Spelling
placed place x = if nat_lt x.rank place then enclosed x else x

-- these tokens by themselves, which open no level
abbrev pub atom : List Token → Spelling
atom tokens = record { rank = 7; tokens = tokens; levels = 0 }

-- a number, which is one token, below zero too
abbrev pub integer : ℤ → Token
integer (pos n) = number n
integer (negsuc n) = negative (suc n)

-- A number below zero is read as a minus before a number, so it binds as a minus does, and opens a level.
abbrev pub literal : Value → Spelling
literal value.Null = atom (word w.Null ∷ [])
literal (value.Int (pos n)) = atom (integer (pos n) ∷ [])
literal (value.Int (negsuc n)) = record { rank = 6; tokens = integer (negsuc n) ∷ []; levels = 1 }
literal (value.Text t) = atom (quoted t ∷ [])

abbrev pub column : Option (List ℕ) → List ℕ → List Token
column None n = name n ∷ []
column (Some table) n = name table ∷ symbol s.Dot ∷ name n ∷ []

-- a column that was found, which no text gives: its two numbers, with a dot between
abbrev pub column_place : ℕ → ℕ → List Token
column_place source column = number source ∷ symbol s.Dot ∷ number column ∷ []

abbrev pub unary_rank : UnaryOp → ℕ
unary_rank unary.Not = 2
unary_rank unary.Minus = 6

abbrev pub unary_token : UnaryOp → Token
unary_token unary.Not = word w.Not
unary_token unary.Minus = symbol s.Minus

abbrev pub operator_rank : BinaryOp → ℕ
operator_rank binary.Or = 0
operator_rank binary.And = 1
operator_rank binary.Equal = 3
operator_rank binary.Unequal = 3
operator_rank binary.Less = 3
operator_rank binary.AtMost = 3
operator_rank binary.Greater = 3
operator_rank binary.AtLeast = 3
operator_rank binary.Add = 4
operator_rank binary.Subtract = 4
operator_rank binary.Concat = 4
operator_rank binary.Multiply = 5
operator_rank binary.Divide = 5

-- A chain is grouped to the left, so it stands there as it is; a comparison has sums on both sides.
abbrev pub left_rank : BinaryOp → ℕ
left_rank op = if nat_lt (operator_rank op) 3 then operator_rank op else max 4 (operator_rank op)

abbrev pub right_rank : BinaryOp → ℕ
right_rank op = operator_rank op + 1

abbrev pub operator_token : BinaryOp → Token
operator_token binary.Or = word w.Or
operator_token binary.And = word w.And
operator_token binary.Equal = symbol s.Equal
operator_token binary.Unequal = symbol s.Unequal
operator_token binary.Less = symbol s.Less
operator_token binary.AtMost = symbol s.AtMost
operator_token binary.Greater = symbol s.Greater
operator_token binary.AtLeast = symbol s.AtLeast
operator_token binary.Add = symbol s.Plus
operator_token binary.Subtract = symbol s.Minus
operator_token binary.Concat = symbol s.Concat
operator_token binary.Multiply = symbol s.Star
operator_token binary.Divide = symbol s.Slash

abbrev pub aggregate_word : AggregateKind → Keyword
aggregate_word aggregate.Count = w.Count
aggregate_word aggregate.Sum = w.Sum
aggregate_word aggregate.Min = w.Min
aggregate_word aggregate.Max = w.Max

-- the tokens where the condition holds, and else none
abbrev pub tokens_if : Bool → List Token → List Token
tokens_if true ts = ts
tokens_if false ts = []

abbrev pub comma : Token
comma = symbol s.Comma

-- one after the other, with commas between
abbrev pub with_commas : {X : Type 0} → (X → List Token) → List X → List Token
with_commas f = join_by f (comma ∷ [])

-- GROUP BY or ORDER BY, with what stands behind it, and nothing where there is nothing
abbrev pub by : {X : Type 0} → Keyword → (X → List Token) → List X → List Token
by keyword f [] = []
by keyword f (x ∷ xs) = word keyword ∷ word w.By ∷ with_commas f (x ∷ xs)

-- the most levels that one of these opens
abbrev pub deepest : List Spelling → ℕ
deepest [] = 0
deepest (x ∷ more) = max x.levels (deepest more)

abbrev pub unary_of : UnaryOp → Spelling → Spelling
unary_of op a = let arg = placed (unary_rank op) a in record { rank = unary_rank op; tokens = unary_token op ∷ arg.tokens; levels = arg.levels + 1 }

abbrev pub binary_of : BinaryOp → Spelling → Spelling → Spelling
binary_of op l r =
    let left = placed (left_rank op) l in
    let right = placed (right_rank op) r in
    record { rank = operator_rank op; tokens = left.tokens ++ operator_token op ∷ right.tokens; levels = max left.levels right.levels }

abbrev pub is_null_of : Spelling → Bool → Spelling
is_null_of a negated =
    let arg = placed 4 a in
    record { rank = 3; tokens = arg.tokens ++ word w.Is ∷ (tokens_if negated (word w.Not ∷ []) ++ word w.Null ∷ []); levels = arg.levels }

abbrev pub between_of : Spelling → Spelling → Spelling → Bool → Spelling
between_of a l h negated =
    let arg = placed 4 a in
    let low = placed 4 l in
    let high = placed 4 h in
    record {
      rank = 3;
      tokens = arg.tokens ++ (tokens_if negated (word w.Not ∷ []) ++ word w.Between ∷ (low.tokens ++ word w.And ∷ high.tokens));
      levels = max arg.levels (max low.levels high.levels);
    }

abbrev pub in_list_of : Spelling → List Spelling → Bool → Spelling
in_list_of a items negated =
    let arg = placed 4 a in
    record {
      rank = 3;
      tokens = arg.tokens ++ (tokens_if negated (word w.Not ∷ []) ++ word w.In ∷ symbol s.Open ∷ (with_commas (λ x. x.tokens) items ++ symbol s.Close ∷ []));
      levels = max arg.levels (deepest items + 1);
    }

-- what an aggregate is taken of: a star where it has no argument
abbrev pub argument : Option Spelling → Spelling
argument None = atom (symbol s.Star ∷ [])
argument (Some a) = a

abbrev pub aggregate_of : AggregateKind → Option Spelling → Spelling
aggregate_of kind a =
    let arg = argument a in
    record { rank = 7; tokens = word (aggregate_word kind) ∷ symbol s.OpenTight ∷ (arg.tokens ++ symbol s.Close ∷ []); levels = arg.levels + 1 }

-- what spells an expression whose parts are spelled so
abbrev pub spelled_at : Expr-F Spelling → Spelling
spelled_at (Expr-F.Literal v) = literal v
spelled_at (Expr-F.Named table n) = atom (column table n)
spelled_at (Expr-F.Placed source column) = atom (column_place source column)
spelled_at (Expr-F.Unary op a) = unary_of op a
spelled_at (Expr-F.Binary op l r) = binary_of op l r
spelled_at (Expr-F.IsNull a negated) = is_null_of a negated
spelled_at (Expr-F.Between a low high negated) = between_of a low high negated
spelled_at (Expr-F.InList a items negated) = in_list_of a items negated
spelled_at (Expr-F.Aggregate kind arg) = aggregate_of kind arg

unfoldable pub spelled : Expr → Spelling
spelled = fold-Expr Spelling spelled_at

abbrev pub expression : Expr → List Token
expression e = (spelled e).tokens

abbrev pub argument_tokens : Option Expr → List Token
argument_tokens None = symbol s.Star ∷ []
argument_tokens (Some x) = expression x
