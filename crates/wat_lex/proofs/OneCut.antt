-- The rules cut a text into the tokens that are computed, and into no others.
use Rattle.std.proofs.Common.{◌≡◌, inl, inr, ℕ, suc, ◌+◌, ◌<◌, Bool, true, false, cond, List, [], ◌∷◌, ◌++◌, length, drop, Option, Some, None, refl, sym, ◌∙◌, ap, arith}
use Rattle.std.proofs.lemmas.Bool.{and_parts}
use Rattle.std.proofs.lemmas.List.Prefix.{front_rest}
use Rattle.std.proofs.Math.Seq.{drop-length}
use Rattle.std.specs.List.{list_all, prefix_len}
use Rattle.wat_lex.specs.declared.token.TokenKind.{TokenKind}
use Rattle.wat_lex.specs.declared.token.TokenKind.TheVariants.{Bad}
use Rattle.wat_lex.specs.declared.token.Token.{Token}
use Rattle.wat_lex.specs.Tokens.{Piece, is_blank, bad, piece, token_at, tokens_from, tokens_of}
use Rattle.wat_lex.specs.Rules.{IsRead, IsSkipped, IsUnread, IsCut, nothing, skips, reads, fails}
use Rattle.wat_lex.proofs.Fronts.{piece_of, no_token, token_piece, comment_piece, piece_blank}
use Rattle.wat_lex.proofs.Pieces.{prefix_some, tokens_from-step}
use Rattle.wat_lex.proofs.Sets.{blanks_same}
use Rattle.wat_lex.proofs.Unread.{unread_bad}

longer : (s rest : List ℕ) → 0 < length s → 0 < length (s ++ rest)
longer [] rest some = absurd (omega arith)
longer (b ∷ s) rest some = omega arith

-- what is cut off the front, and the tokens of what is behind it
cut_off : (at : ℕ) (kind : Option TokenKind) (s rest : List ℕ) → 0 < length s → let p : Piece = (kind, length s) in p ≡ piece (s ++ rest)
    → tokens_from 0 at (s ++ rest) ≡ token_at at kind (length s) ++ tokens_from 0 (at + length s) rest
cut_off at kind s rest some e =
    tokens_from-step (s ++ rest) at (kind, length s) (longer s rest some) e some
    ∙ ap (λ (y : List ℕ). token_at at kind (length s) ++ tokens_from 0 (at + length s) y) (front_rest (s ++ rest) s rest refl)

-- ---- blanks, one by one

run : (at : ℕ) (z : List ℕ) → tokens_from 0 at z ≡ tokens_from 0 (at + prefix_len is_blank z) (drop (prefix_len is_blank z) z)
run at [] = refl
run at (b ∷ z) = decide (is_blank b) refl
  where
    decide : (t : Bool) → is_blank b ≡ t → tokens_from 0 at (b ∷ z) ≡ tokens_from 0 (at + prefix_len is_blank (b ∷ z)) (drop (prefix_len is_blank (b ∷ z)) (b ∷ z))
    decide true e = tokens_from-step (b ∷ z) at (no_token (prefix_len is_blank (b ∷ z))) (omega arith) (sym (piece_blank (b ∷ z) e)) (prefix_some is_blank (b ∷ z) (omega arith) e)
    decide false e =
        let n : prefix_len is_blank (b ∷ z) ≡ 0 = ap (λ t. cond t (1 + prefix_len is_blank z) 0) e in
        let m : at ≡ at + 0 = omega arith in
        ap (λ (a : ℕ). tokens_from 0 a (b ∷ z)) m ∙ ap (λ (k : ℕ). tokens_from 0 (at + k) (drop k (b ∷ z))) (sym n)

blank_off : (at b : ℕ) (z : List ℕ) → is_blank b ≡ true → tokens_from 0 at (b ∷ z) ≡ tokens_from 0 (at + 1) z
blank_off at b z e =
    let m = prefix_len is_blank z in
    let n : prefix_len is_blank (b ∷ z) ≡ suc m = ap (λ t. cond t (1 + prefix_len is_blank z) 0) e ∙ omega arith in
    let same : at + suc m ≡ at + 1 + m = omega arith in
    run at (b ∷ z)
    ∙ ap (λ (k : ℕ). tokens_from 0 (at + k) (drop k (b ∷ z))) n
    ∙ ap (λ (a : ℕ). tokens_from 0 a (drop m z)) same
    ∙ sym (run (at + 1) z)

blanks_off : (at : ℕ) (s rest : List ℕ) → list_all is_blank s ≡ true → tokens_from 0 at (s ++ rest) ≡ tokens_from 0 (at + length s) rest
blanks_off at [] rest a = let m : at ≡ at + 0 = omega arith in ap (λ (k : ℕ). tokens_from 0 k rest) m
blanks_off at (b ∷ s) rest a =
    let h = and_parts (is_blank b) (list_all is_blank s) a in
    let m : at + 1 + length s ≡ at + length (b ∷ s) = omega arith in
    blank_off at b (s ++ rest) h.0 ∙ blanks_off (at + 1) s rest h.1 ∙ ap (λ (k : ℕ). tokens_from 0 k rest) m

-- ---- what the rules cut

skipped : (at : ℕ) (s rest : List ℕ) → 0 < length s → IsSkipped s rest → tokens_from 0 at (s ++ rest) ≡ tokens_from 0 (at + length s) rest
skipped at s rest some (inl a) = blanks_off at s rest (sym (blanks_same s) ∙ a)
skipped at s rest some (inr h) = cut_off at None s rest some (comment_piece s rest h)

failed : (at : ℕ) (s : List ℕ) → 0 < length s → IsUnread s → tokens_from 0 at s ≡ token_at at (Some Bad) (length s)
failed at s some u =
    tokens_from-step s at (bad s) some (sym (unread_bad s some u)) some
    ∙ ap (λ (y : List ℕ). token_at at (Some Bad) (length s) ++ tokens_from 0 (at + length s) y) (drop-length s)

cut_is : {at : ℕ} {z : List ℕ} {ts : List Token} → IsCut at z ts → ts ≡ tokens_from 0 at z
cut_is (nothing at) = refl
cut_is (skips at s rest ts some rule h) = cut_is h ∙ sym (skipped at s rest some rule)
cut_is (reads at kind s rest ts some rule h) =
    ap (λ (us : List Token). token_at at (Some kind) (length s) ++ us) (cut_is h) ∙ sym (cut_off at (Some kind) s rest some (token_piece kind s rest some rule))
cut_is (fails at s some u) = sym (failed at s some u)

pub one_cut : (text : List ℕ) (ts us : List Token) → IsCut 0 text ts → IsCut 0 text us → ts ≡ us
one_cut text ts us h g = cut_is h ∙ sym (cut_is g)
