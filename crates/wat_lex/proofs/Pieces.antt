-- Pieces of a text, one after the other.
use Rattle.std.proofs.Common.{◌≡◌, ℕ, zero, suc, ◌+◌, ◌-◌, ◌<◌, Bool, true, cond, List, [], ◌∷◌, ◌++◌, length, take, drop, get_or, refl, sym, ◌∙◌, ap, arith}
use Rattle.std.proofs.lemmas.Grind.{common_steps}
use Rattle.std.specs.List.{prefix_len}
use Rattle.wat_lex.specs.Tokens.{Piece, piece, token_at, tokens_from}
use Rattle.wat_lex.specs.declared.token.Token.{Token}

pub prefix_some : (p : ℕ → Bool) (z : List ℕ) → 0 < length z → p (get_or z 0 0) ≡ true → 0 < prefix_len p z
prefix_some p [] h e = absurd (omega arith)
prefix_some p (b ∷ z) h e = let one : prefix_len p (b ∷ z) ≡ 1 + prefix_len p z = ap (λ t. cond t (1 + prefix_len p z) 0) e in omega arith

-- the bytes that are left of a piece are passed over
pub tokens_from-skip : (n at : ℕ) (z : List ℕ) → tokens_from n at z ≡ tokens_from 0 (at + n) (drop n z)
tokens_from-skip zero at z = ap (λ (a : ℕ). tokens_from 0 a z) (omega arith)
tokens_from-skip (suc n) at [] = refl
tokens_from-skip (suc n) at (b ∷ z) = tokens_from-skip n (at + 1) z ∙ ap (λ (a : ℕ). tokens_from 0 a (drop n z)) (omega arith)

rest_is : (n at b : ℕ) (z : List ℕ) → 0 < n → tokens_from (n - 1) (at + 1) z ≡ tokens_from 0 (at + n) (drop n (b ∷ z))
rest_is zero at b z h = absurd (omega arith)
rest_is (suc n) at b z h =
    let e : suc n - 1 ≡ n = omega arith in
    ap (λ (m : ℕ). tokens_from m (at + 1) z) e ∙ tokens_from-skip n (at + 1) z ∙ ap (λ (a : ℕ). tokens_from 0 a (drop n z)) (omega arith)

-- the tokens are that of the piece at the front, if it is one, and those behind it
pub tokens_from-step : (z : List ℕ) (at : ℕ) (p : Piece) → 0 < length z → p ≡ piece z → 0 < p.1 → tokens_from 0 at z ≡ token_at at p.0 p.1 ++ tokens_from 0 (at + p.1) (drop p.1 z)
tokens_from-step [] at p h e n = absurd (omega arith)
tokens_from-step (b ∷ z) at p h e n =
    ap (λ (q : Piece). token_at at q.0 q.1 ++ tokens_from (q.1 - 1) (at + 1) z) (sym e)
    ∙ ap (λ (ts : List Token). token_at at p.0 p.1 ++ ts) (rest_is p.1 at b z n)

-- the slice of a text from a place on
pub all_taken : (text : List ℕ) (at : ℕ) → take (length text - at) (drop at text) ≡ drop at text
all_taken text at = grind (arith, common_steps)
