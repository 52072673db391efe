-- The next token.
use Rattle.std.proofs.Common.{◌≡◌, ℕ, Bool, true, false, ◌||◌, if◌then◌else◌, List, [], ◌∷◌, Some, Ok, Err, length, get_or, ◌≤◌, refl, sym, ◌∙◌, ap, rules, arith}
use denote.Enum.Bare.{same_true}
use Rattle.wat_grammar.specs.Phrase.{Outcome, ◌>>=◌, sees, read_token, read_within}
use Rattle.wat_lex.specs.declared.token.Token.{Token}
use Rattle.wat_lex.specs.Values.{token_bytes}
use Rattle.wat_syntax.specs.contracts.kind.Kind.{the_type}
use Rattle.wat_syntax.specs.declared.kind.Kind.{Kind}
use Rattle.wat_syntax.specs.Lexeme.{Lexeme, kind_of, lexeme, lexemes_of}
use Rattle.wat_syntax.specs.Sql.{sql, optional}
use Rattle.wat_cursor.specs.Reading.{kind_ahead, rest_of, is_one_of, ComesNext}

pub sees_ahead : (kinds : List Kind) (ts : List Lexeme) → sees sql kinds ts ≡ is_one_of kinds (kind_ahead ts)
sees_ahead kinds [] = refl
sees_ahead kinds (x ∷ ts) = refl

or_none : (b : Bool) → (b || false) ≡ true → b ≡ true
or_none true e = refl
or_none false e = cc

same : (kind kind' : Kind) → sql.same kind kind' ≡ true → kind ≡ kind'
same = same_true the_type (search rules)

pub next_is : (text : List ℕ) (tokens : List Token) (other : Token) (kind : Kind) (s : List ℕ) (now : List Lexeme) → 1 ≤ length tokens → lexemes_of text tokens ≡ now
    → sees sql (kind ∷ []) now ≡ true → s ≡ token_bytes text (get_or tokens 0 other) → ComesNext kind s now
next_is text [] other kind s now some view see bytes = absurd (omega arith)
next_is text (t ∷ ts) other kind s now some view see bytes =
    let sees_it : sees sql (kind ∷ []) (lexemes_of text (t ∷ ts)) ≡ true = ap (sees sql (kind ∷ [])) view ∙ see in
    let next : lexemes_of text (t ∷ ts) ≡ lexeme kind s ∷ lexemes_of text ts =
    ap (λ (k : Kind). lexeme k (token_bytes text t) ∷ lexemes_of text ts) (same (kind_of t.kind (token_bytes text t)) kind (or_none _ sees_it))
    ∙ ap (λ (b : List ℕ). lexeme kind b ∷ lexemes_of text ts) (sym bytes) in
    sym view ∙ next ∙ ap (λ (us : List Lexeme). lexeme kind s ∷ rest_of us) view

pub word_is : (kind : Kind) (ts : List Lexeme) → read_token sql kind (λ _. Some (tt {0})) ts ≡ (if sees sql (kind ∷ []) ts then Ok (tt, rest_of ts) else Err ts)
word_is kind [] = refl
word_is kind (x ∷ ts) = split (sql.same x.kind kind)
  where
    split : (b : Bool) → (let o : Outcome Lexeme (Unit {0}) = (if b then Ok (tt, ts) else Err (x ∷ ts)) in o) ≡ (if b || false then Ok (tt, ts) else Err (x ∷ ts))
    split true = refl
    split false = refl

pub optional_is : (kind : Kind) (ts : List Lexeme) → read_within sql 0 (optional kind) ts ≡ (if sees sql (kind ∷ []) ts then Ok (true, rest_of ts) else Ok (false, ts))
optional_is kind [] = refl
optional_is kind (x ∷ ts) = split (sql.same x.kind kind)
  where
    split : (b : Bool) → (if b || false then (let o : Outcome Lexeme (Unit {0}) = (if b then Ok (tt, ts) else Err (x ∷ ts)) in o) >>= (λ _ us. Ok (true, us)) else Ok (false, x ∷ ts))
        ≡ (if b || false then Ok (true, ts) else Ok (false, x ∷ ts))
    split true = refl
    split false = refl
