-- A group of tokens that `;` ends is a statement of a script, and its span has these tokens.
use Rattle.std.proofs.Common.{◌≡◌, ℕ, ◌<◌, ◌≤◌, Bool, true, false, ◌&&◌, cond, nat_le, List, [], ◌∷◌, ◌++◌, length, filter, Ok, refl, ◌∙◌, ap, subst, arith}
use Rattle.std.proofs.lemmas.Bool.Decides.{nat_tests}
use Rattle.std.specs.List.{AllByRecursion}
use Rattle.wat_ast.specs.declared.statement.Statement.{Statement}
use Rattle.wat_lex.specs.declared.token.Token.{Token}
use Rattle.wat_lex.specs.Parts.{is_within, next_from}
use Rattle.wat_lex.specs.Tokens.{tokens_of}
use Rattle.wat_lex.proofs.Parts.{IsBehind, AreInOrder, tokens_in_order}
use Rattle.wat_syntax.specs.Lexeme.{lexemes_of}
use Rattle.wat_syntax.specs.Parsed.{parsed, parsed_tokens}
use Rattle.wat_syntax.specs.Sql.{IsStatement}
use Rattle.wat_syntax.proofs.Placed.{tree_exact}
use Rattle.wat_parse.specs.Parsing.{parsed_at}
use Rattle.wat_parse.specs.Statements.{is_semicolon, before_first, groups, last_of}

pub group_ended : (text : List ℕ) (ts : List Token) (t : Token) (us : List Token) → AllByRecursion (λ u. is_semicolon text u ≡ false) ts → is_semicolon text t ≡ true
    → groups text (ts ++ t ∷ us) ≡ ts ∷ groups text us
group_ended text [] t us h e = ap (λ (b : Bool). cond b ([] ∷ groups text us) (before_first t (groups text us))) e
group_ended text (u ∷ ts) t us h e =
    ap (λ (b : Bool). cond b ([] ∷ groups text (ts ++ t ∷ us)) (before_first u (groups text (ts ++ t ∷ us)))) h.0
    ∙ ap (before_first u) (group_ended text ts t us h.1 e)

-- ---- the tokens between the first of a group and its last

outside : (from to a b : ℕ) → to < b → (nat_le from a && nat_le b to) ≡ false
outside from to a b lt = grind (arith, nat_tests)

before : (from to a b : ℕ) → a < from → (nat_le from a && nat_le b to) ≡ false
before from to a b lt = grind (arith, nat_tests)

within : (from to a b : ℕ) → from ≤ a → b ≤ to → (nat_le from a && nat_le b to) ≡ true
within from to a b le h = grind (arith, nat_tests)

none_behind : (from to at : ℕ) (ts : List Token) → to ≤ at → AllByRecursion (IsBehind at) ts → filter (is_within from to) ts ≡ []
none_behind from to at [] le h = refl
none_behind from to at (t ∷ ts) le h =
    ap (λ (v : Bool). cond v (t ∷ filter (is_within from to) ts) (filter (is_within from to) ts)) (outside from to t.from t.to (omega (arith, h.0.0, h.0.1)))
    ∙ none_behind from to at ts le h.1

last_behind : (a : ℕ) (t : Token) (ts us : List Token) → a ≤ t.to → AllByRecursion (IsBehind a) (ts ++ us) → a ≤ (last_of t ts).to
last_behind a t [] us le h = le
last_behind a t (u ∷ ts) us le h = last_behind a u ts us (omega (arith, h.0.0, h.0.1)) h.1

here : (from : ℕ) (t : Token) (ts us : List Token) → from ≤ t.from → AreInOrder ((t ∷ ts) ++ us) → filter (is_within from (last_of t ts).to) ((t ∷ ts) ++ us) ≡ t ∷ ts
here from t [] us le h =
    ap (λ (v : Bool). cond v (t ∷ filter (is_within from t.to) us) (filter (is_within from t.to) us)) (within from t.to t.from t.to le (omega arith))
    ∙ ap (λ (vs : List Token). t ∷ vs) (none_behind from t.to t.to us (omega arith) h.1.0)
here from t (u ∷ ts) us le h =
    let to = (last_of u ts).to in
    let low : t.to ≤ to = last_behind t.to u ts us (omega (arith, h.1.0.0.0, h.1.0.0.1)) h.1.0.1 in
    let next : from ≤ u.from = omega (arith, le, h.0, h.1.0.0.0) in
    ap (λ (v : Bool). cond v (t ∷ filter (is_within from to) ((u ∷ ts) ++ us)) (filter (is_within from to) ((u ∷ ts) ++ us))) (within from to t.from t.to le low)
    ∙ ap (λ (vs : List Token). t ∷ vs) (here from u ts us next h.1.1)

behind_front : (a : ℕ) (front : List Token) (t : Token) (us : List Token) → AllByRecursion (IsBehind a) (front ++ t ∷ us) → a ≤ t.from
behind_front a [] t us h = h.0.0
behind_front a (f ∷ front) t us h = behind_front a front t us h.1

group_within : (front : List Token) (t : Token) (ts us : List Token) → AreInOrder (front ++ ((t ∷ ts) ++ us))
    → filter (is_within t.from (last_of t ts).to) (front ++ ((t ∷ ts) ++ us)) ≡ t ∷ ts
group_within [] t ts us h = here t.from t ts us (omega arith) h
group_within (f ∷ front) t ts us h =
    let to = (last_of t ts).to in
    let le : f.to ≤ t.from = behind_front f.to front t (ts ++ us) h.1.0 in
    let rest = filter (is_within t.from to) (front ++ ((t ∷ ts) ++ us)) in
    ap (λ (v : Bool). cond v (f ∷ rest) rest) (before t.from to f.from f.to (omega (arith, h.0, le)))
    ∙ group_within front t ts us h.1.1

-- what the tokens of a group derive is parsed at its span
pub group_parsed : (text : List ℕ) (front : List Token) (t : Token) (ts us : List Token) (tree : Statement) → tokens_of text ≡ front ++ ((t ∷ ts) ++ us)
    → IsStatement (lexemes_of text (t ∷ ts)) tree → parsed_at text (record { from = t.from; to = (last_of t ts).to }) ≡ Ok tree
unfolding parsed
group_parsed text front t ts us tree e d =
    let to = (last_of t ts).to in
    let order = subst AreInOrder e (tokens_in_order text) in
    let end = next_from to (length text) (tokens_of text) in
    ap (λ (vs : List Token). parsed_tokens text vs end) (ap (filter (is_within t.from to)) e ∙ group_within front t ts us order)
    ∙ (tree_exact text (t ∷ ts) end tree).1 d
