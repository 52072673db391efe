-- Where no rule has a token, the piece at the front is a bad one; and where it is a bad one, no rule has a token.
use Rattle.std.proofs.Common.{◌≡◌, inl, inr, ℕ, ◌<◌, Bool, true, List, [], ◌∷◌, ◌++◌, length, Option, Some, None, sym, ◌∙◌, ap, arith}
use Rattle.std.proofs.lemmas.Bool.{and_parts}
use Rattle.std.specs.List.{list_all}
use Rattle.wat_lex.specs.declared.token.TokenKind.{TokenKind}
use Rattle.wat_lex.specs.declared.token.TokenKind.TheVariants.{Word, Number, Quoted, Symbol, Bad}
use Rattle.wat_lex.specs.Tokens.{Piece, is_blank, bad, piece}
use Rattle.wat_lex.specs.Rules.{IsRead, IsSkipped, IsUnread}
use Rattle.wat_lex.proofs.Fronts.{token_piece, comment_piece, piece_blank}
use Rattle.wat_lex.proofs.Rules.{IsSound, IsGood, sound}
use Rattle.wat_lex.proofs.Sets.{blanks_same}

read_kind : (kind : TokenKind) (s rest : List ℕ) → 0 < length s → IsRead kind s rest → (piece (s ++ rest)).0 ≡ Some kind
read_kind kind s rest some r = ap (λ (p : Piece). p.0) (sym (token_piece kind s rest some r))

blank_kind : (s rest : List ℕ) → 0 < length s → list_all is_blank s ≡ true → (piece (s ++ rest)).0 ≡ None
blank_kind [] rest some e = absurd (omega arith)
blank_kind (b ∷ s) rest some e = ap (λ (p : Piece). p.0) (piece_blank (b ∷ (s ++ rest)) (and_parts (is_blank b) (list_all is_blank s) e).0)

skip_kind : (s rest : List ℕ) → 0 < length s → IsSkipped s rest → (piece (s ++ rest)).0 ≡ None
skip_kind s rest some (inl e) = blank_kind s rest some (sym (blanks_same s) ∙ e)
skip_kind s rest some (inr h) = ap (λ (p : Piece). p.0) (sym (comment_piece s rest h))

not_read : (kind : TokenKind) (s rest : List ℕ) → IsRead kind s rest → Some kind ≡ Some Bad → ⊥
not_read Word s rest r e = cc
not_read Number s rest r e = cc
not_read Quoted s rest r e = cc
not_read Symbol s rest r e = cc
not_read Bad s rest r e = r

not_none : (k : TokenKind) (o : Option TokenKind) → o ≡ None → o ≡ Some k → ⊥
not_none k o e f = cc

pub bad_unread : (z : List ℕ) → piece z ≡ bad z → IsUnread z
bad_unread z e =
    let k : (piece z).0 ≡ Some Bad = ap (λ (p : Piece). p.0) e in
    record {
      token = (λ kind front rest split some r.
          not_read kind front rest r (sym (read_kind kind front rest some r) ∙ ap (λ (y : List ℕ). (piece y).0) (sym split) ∙ k));
      blank = (λ front rest split some r.
          not_none Bad (piece z).0 (ap (λ (y : List ℕ). (piece y).0) split ∙ skip_kind front rest some r) k);
    }

no_rule : (z : List ℕ) (kind : Option TokenKind) (n : ℕ) → IsGood z kind n → IsUnread z → ⊥
no_rule z None n g u = u.blank g.front g.rest g.split (omega (arith, g.len, g.some)) g.rule
no_rule z (Some kind) n g u = u.token kind g.front g.rest g.split (omega (arith, g.len, g.some)) g.rule

pub unread_bad : (z : List ℕ) → 0 < length z → IsUnread z → piece z ≡ bad z
unfolding IsSound
unread_bad z some u = elim (sound z some) [ inl e ↦ e | inr g ↦ absurd (no_rule z (piece z).0 (piece z).1 g u) ]
