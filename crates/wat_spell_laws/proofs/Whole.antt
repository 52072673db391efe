-- The tokens of a text lie within it.
use Rattle.std.proofs.Common.{◌≡◌, ◌≤◌, ℕ, ◌+◌, Bool, true, ◌&&◌, nat_le, if◌then◌else◌, List, [], ◌∷◌, ◌++◌, length, filter, Ok, refl, ◌∙◌, ap, subst, length-append, arith}
use Rattle.std.proofs.lemmas.Bool.Decides.{nat_tests}
use Rattle.wat_ast.specs.declared.statement.Statement.{Statement}
use Rattle.wat_lex.specs.declared.token.Token.{Token}
use Rattle.wat_lex.specs.Tokens.{tokens_of}
use Rattle.wat_lex.specs.Rules.{IsCut, nothing, skips, reads, fails}
use Rattle.wat_lex.proofs.Cuts.{tokens_of-cut}
use Rattle.wat_syntax.specs.Lexeme.{lexemes_of}
use Rattle.wat_lex.specs.Parts.{tokens_within, next_from}
use Rattle.wat_syntax.specs.Parsed.{parsed, parsed_tokens}
use Rattle.wat_syntax.specs.Sql.{max_nesting, IsStatement}
use Rattle.wat_syntax.proofs.Placed.{tree_exact}
use Rattle.wat_spell.specs.Statements.{spelled_text}
use Rattle.wat_spell_laws.proofs.Respelled.{reads_back}

-- each token ends at the place or before it
abbrev EndBy : ℕ → List Token → Type 0
EndBy end [] = Unit {0}
EndBy end (t ∷ ts) = (t.to ≤ end) × EndBy end ts

by_same : (m n : ℕ) (ts : List Token) → m ≡ n → EndBy m ts → EndBy n ts
by_same m n ts e h = subst (λ (k : ℕ). EndBy k ts) e h

cut_ends : {at : ℕ} {z : List ℕ} {ts : List Token} → IsCut at z ts → EndBy (at + length z) ts
cut_ends (nothing at) = tt
cut_ends (skips at s rest ts some rule h) =
    let l : length (s ++ rest) ≡ length s + length rest = length-append s rest in
    by_same (at + length s + length rest) (at + length (s ++ rest)) ts (omega (arith, l)) (cut_ends h)
cut_ends (reads at kind s rest ts some rule h) =
    let l : length (s ++ rest) ≡ length s + length rest = length-append s rest in
    (omega (arith, l), by_same (at + length s + length rest) (at + length (s ++ rest)) ts (omega (arith, l)) (cut_ends h))
cut_ends (fails at s some unread) = (omega arith, tt)

kept : (end : ℕ) (ts : List Token) → EndBy end ts → filter (λ t. nat_le 0 t.from && nat_le t.to end) ts ≡ ts
kept end [] h = refl
kept end (t ∷ ts) h =
    let rest = filter (λ (u : Token). nat_le 0 u.from && nat_le u.to end) ts in
    let e : (nat_le 0 t.from && nat_le t.to end) ≡ true = inside t.from t.to h.0 in
    ap (λ (b : Bool). if b then t ∷ rest else rest) e ∙ ap (λ (us : List Token). t ∷ us) (kept end ts h.1)
  where
    inside : (from to : ℕ) → to ≤ end → (nat_le 0 from && nat_le to end) ≡ true
    inside from to h = grind (arith, nat_tests)

-- all tokens of a text lie within it
tokens_within-whole : (text : List ℕ) → tokens_within text 0 (length text) ≡ tokens_of text
tokens_within-whole text =
    kept (length text) (tokens_of text) (by_same (0 + length text) (length text) (tokens_of text) (omega arith) (cut_ends (tokens_of-cut text)))

-- what is derived from the tokens of a spelling is parsed
pub spelled_parsed : (z x : Statement) → IsStatement (lexemes_of (spelled_text z) (tokens_of (spelled_text z))) x → parsed (spelled_text z) 0 (length (spelled_text z)) ≡ Ok x
unfolding parsed
spelled_parsed y x again =
    let z = spelled_text y in
    let end = next_from (length z) (length z) (tokens_of z) in
    ap (λ (ts : List Token). parsed_tokens z ts end) (tokens_within-whole z) ∙ (tree_exact z (tokens_of z) end x).1 again

-- what is parsed anywhere is derived from tokens of the text
pub parsed_derived : (text : List ℕ) (from to : ℕ) (x : Statement) → parsed text from to ≡ Ok x → IsStatement (lexemes_of text (tokens_within text from to)) x
unfolding parsed
parsed_derived text from to x h = (tree_exact text (tokens_within text from to) (next_from to (length text) (tokens_of text)) x).0 h

pub parsed_back : (text : List ℕ) (from to : ℕ) (x : Statement) → parsed text from to ≡ Ok x → parsed (spelled_text x) 0 (length (spelled_text x)) ≡ Ok x
parsed_back text from to x h = spelled_parsed x x (reads_back max_nesting text (tokens_within text from to) x (parsed_derived text from to x h))
