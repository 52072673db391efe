-- A text is cut into pieces that each keep a rule.
use Rattle.std.proofs.Common.{◌≡◌, ℕ, zero, suc, ◌+◌, ◌<◌, ◌≤◌, inl, inr, List, [], ◌∷◌, ◌++◌, length, drop, Option, Some, None, Result, Ok, Err, IfOk, refl, sym, ◌∙◌, ap, subst, length-append, arith}
use Rattle.std.proofs.lemmas.List.Prefix.{front_rest}
use Rattle.std.proofs.Math.Seq.{drop-length}
use Rattle.wat_lex.specs.declared.token.TokenKind.{TokenKind}
use Rattle.wat_lex.specs.declared.token.TokenKind.TheVariants.{Bad}
use Rattle.wat_lex.specs.declared.token.Token.{Token}
use Rattle.wat_lex.specs.Tokens.{Piece, bad, piece, token_at, tokens_from, tokens_of}
use Rattle.wat_lex.specs.Rules.{IsCut, nothing, skips, reads, fails}
use Rattle.wat_lex.proofs.Pieces.{tokens_from-step}
use Rattle.wat_lex.proofs.Rules.{IsSound, IsGood, sound}
use Rattle.wat_lex.proofs.Unread.{bad_unread}

-- every later part of the text is cut so
Later : ℕ → Type 0
Later len = (at : ℕ) (y : List ℕ) → length y < len → IsCut at y (tokens_from 0 at y)

rest_is : (z : List ℕ) (kind : Option TokenKind) (n : ℕ) (g : IsGood z kind n) → drop (length g.front) z ≡ g.rest
rest_is z kind n g = front_rest z g.front g.rest g.split

is_later : (z : List ℕ) (kind : Option TokenKind) (n : ℕ) (g : IsGood z kind n) → length g.rest < length z
is_later z kind n g =
    let l : length z ≡ length g.front + length g.rest = ap length g.split ∙ length-append g.front g.rest in
    omega (arith, l, g.len, g.some)

cut_good : (at : ℕ) (z : List ℕ) (kind : Option TokenKind) (n : ℕ) → let p : Piece = (kind, n) in p ≡ piece z → 0 < length z → IsGood z kind n → Later (length z)
    → IsCut at z (tokens_from 0 at z)
unfolding Later
cut_good at z None n e some g later =
    let eq : tokens_from 0 at z ≡ tokens_from 0 (at + length g.front) g.rest =
    tokens_from-step z at (None, n) some e g.some
    ∙ ap (λ (m : ℕ). tokens_from 0 (at + m) (drop m z)) (sym g.len)
    ∙ ap (λ (y : List ℕ). tokens_from 0 (at + length g.front) y) (rest_is z None n g) in
    let there : 0 < length g.front = omega (arith, g.len, g.some) in
    subst (λ (y : List ℕ). IsCut at y (tokens_from 0 at z)) (sym g.split)
    (subst (λ (ts : List Token). IsCut at (g.front ++ g.rest) ts) (sym eq)
    (skips at g.front g.rest (tokens_from 0 (at + length g.front) g.rest) there g.rule (later (at + length g.front) g.rest (is_later z None n g))))
cut_good at z (Some k) n e some g later =
    let eq : tokens_from 0 at z ≡ token_at at (Some k) (length g.front) ++ tokens_from 0 (at + length g.front) g.rest =
    tokens_from-step z at (Some k, n) some e g.some
    ∙ ap (λ (m : ℕ). token_at at (Some k) m ++ tokens_from 0 (at + m) (drop m z)) (sym g.len)
    ∙ ap (λ (y : List ℕ). token_at at (Some k) (length g.front) ++ tokens_from 0 (at + length g.front) y) (rest_is z (Some k) n g) in
    let there : 0 < length g.front = omega (arith, g.len, g.some) in
    subst (λ (y : List ℕ). IsCut at y (tokens_from 0 at z)) (sym g.split)
    (subst (λ (ts : List Token). IsCut at (g.front ++ g.rest) ts) (sym eq)
    (reads at k g.front g.rest (tokens_from 0 (at + length g.front) g.rest) there g.rule (later (at + length g.front) g.rest (is_later z (Some k) n g))))

cut_bad : (at : ℕ) (z : List ℕ) → bad z ≡ piece z → 0 < length z → IsCut at z (tokens_from 0 at z)
cut_bad at z e some =
    let eq : tokens_from 0 at z ≡ token_at at (Some Bad) (length z) =
    tokens_from-step z at (bad z) some e some
    ∙ ap (λ (y : List ℕ). token_at at (Some Bad) (length z) ++ tokens_from 0 (at + length z) y) (drop-length z) in
    subst (λ (ts : List Token). IsCut at z ts) (sym eq) (fails at z some (bad_unread z (sym e)))

cut_step : (at : ℕ) (z : List ℕ) → 0 < length z → IsSound z (piece z) → Later (length z) → IsCut at z (tokens_from 0 at z)
unfolding IsSound
cut_step at z some (inl e) later = cut_bad at z (sym e) some
cut_step at z some (inr g) later = cut_good at z (piece z).0 (piece z).1 refl some g later

pub cut_within : (n at : ℕ) (z : List ℕ) → length z ≤ n → IsCut at z (tokens_from 0 at z)
unfolding Later
cut_within n at [] h = nothing at
cut_within zero at (b ∷ z) h = absurd (omega arith)
cut_within (suc n) at (b ∷ z) h =
    let some : 0 < length (b ∷ z) = omega arith in
    cut_step at (b ∷ z) some (sound (b ∷ z) some) (λ a y l. cut_within n a y (omega (arith, l, h)))

pub tokens_of-cut : (z : List ℕ) → IsCut 0 z (tokens_of z)
unfolding tokens_of
tokens_of-cut z = cut_within (length z) 0 z (omega arith)

pub cut_of : {E : Type 0} (z : List ℕ) (r : Result (List Token) E) → IfOk r (λ ts. ts ≡ tokens_of z) → IfOk r (λ ts. IsCut 0 z ts)
cut_of z (Ok ts) e = subst (λ (us : List Token). IsCut 0 z us) (sym e) (tokens_of-cut z)
cut_of z (Err x) e = tt
