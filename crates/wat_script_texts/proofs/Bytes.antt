-- The bytes of a token of a part are the same in the whole text.
use Rattle.std.proofs.Common.{◌≡◌, ◌<◌, ◌≤◌, ℕ, zero, suc, ◌+◌, ◌-◌, Bool, true, ◌&&◌, nat_le, if◌then◌else◌, List, [], ◌∷◌, ◌++◌, length, take, drop, map, filter, refl, ◌∙◌, ap, subst, length-append, arith}
use Rattle.std.proofs.lemmas.Bool.Decides.{nat_tests}
use Rattle.wat_lex.specs.declared.token.Token.{Token}
use Rattle.wat_lex.specs.Parts.{tokens_within}
use Rattle.wat_lex.specs.Tokens.{tokens_of}
use Rattle.wat_lex.specs.Values.{token_bytes}
use Rattle.wat_lex.specs.Rules.{IsCut, nothing, skips, reads, fails}
use Rattle.wat_lex.proofs.Cuts.{tokens_of-cut}
use Rattle.wat_syntax.specs.Lexeme.{Lexeme, kind_of, lexeme, lexeme_of, lexemes_of}
use Rattle.wat_script_texts.proofs.Local.{moved}

-- each token ends at the place or before it, and has a byte at least
abbrev pub EndBy : ℕ → List Token → Type 0
EndBy end [] = Unit {0}
EndBy end (t ∷ ts) = ((t.from < t.to) × (t.to ≤ end)) × EndBy end ts

by_same : (m n : ℕ) (ts : List Token) → m ≡ n → EndBy m ts → EndBy n ts
by_same m n ts e h = subst (λ (k : ℕ). EndBy k ts) e h

cut_ends : {at : ℕ} {z : List ℕ} {ts : List Token} → IsCut at z ts → EndBy (at + length z) ts
cut_ends (nothing at) = tt
cut_ends (skips at s rest ts some rule h) =
    let l : length (s ++ rest) ≡ length s + length rest = length-append s rest in
    by_same (at + length s + length rest) (at + length (s ++ rest)) ts (omega (arith, l)) (cut_ends h)
cut_ends (reads at kind s rest ts some rule h) =
    let l : length (s ++ rest) ≡ length s + length rest = length-append s rest in
    ((omega arith, omega (arith, l)), by_same (at + length s + length rest) (at + length (s ++ rest)) ts (omega (arith, l)) (cut_ends h))
cut_ends (fails at s some unread) = ((omega arith, omega arith), tt)

pub tokens_end : (z : List ℕ) → EndBy (length z) (tokens_of z)
tokens_end z = by_same (0 + length z) (length z) (tokens_of z) (omega arith) (cut_ends (tokens_of-cut z))

kept : (end : ℕ) (ts : List Token) → EndBy end ts → filter (λ t. nat_le 0 t.from && nat_le t.to end) ts ≡ ts
kept end [] h = refl
kept end (t ∷ ts) h =
    let rest = filter (λ (u : Token). nat_le 0 u.from && nat_le u.to end) ts in
    let e : (nat_le 0 t.from && nat_le t.to end) ≡ true = inside t.from t.to h.0.1 in
    ap (λ (b : Bool). if b then t ∷ rest else rest) e ∙ ap (λ (us : List Token). t ∷ us) (kept end ts h.1)
  where
    inside : (from to : ℕ) → to ≤ end → (nat_le 0 from && nat_le to end) ≡ true
    inside from to h = grind (arith, nat_tests)

-- all tokens of a text lie within it
pub tokens_within-whole : (z : List ℕ) → tokens_within z 0 (length z) ≡ tokens_of z
tokens_within-whole z = kept (length z) (tokens_of z) (tokens_end z)

-- ---- bytes

drop_front : (p y : List ℕ) (n : ℕ) → drop (length p + n) (p ++ y) ≡ drop n y
drop_front [] y n = let e : 0 + n ≡ n = omega arith in ap (λ (j : ℕ). drop j y) e
drop_front (b ∷ p) y n = let e : suc (length p) + n ≡ suc (length p + n) = omega arith in ap (λ (j : ℕ). drop j (b ∷ (p ++ y))) e ∙ drop_front p y n

take_front : (y z : List ℕ) (n : ℕ) → n ≤ length y → take n (y ++ z) ≡ take n y
take_front y z zero h = refl
take_front [] z (suc n) h = absurd (omega arith)
take_front (b ∷ y) z (suc n) h = ap (λ (x : List ℕ). b ∷ x) (take_front y z n (omega arith))

slice_front : (y z : List ℕ) (from n : ℕ) → from + n ≤ length y → take n (drop from (y ++ z)) ≡ take n (drop from y)
slice_front y z zero n h = take_front y z n (omega arith)
slice_front [] z (suc from) n h = absurd (omega arith)
slice_front (b ∷ y) z (suc from) n h = slice_front y z from n (omega arith)

same_bytes : (p z rest : List ℕ) (t : Token) → t.from < t.to → t.to ≤ length z → token_bytes (p ++ (z ++ rest)) (moved (length p) t) ≡ token_bytes z t
same_bytes p z rest t ordered inside =
    let n : length p + t.to - (length p + t.from) ≡ t.to - t.from = omega (arith, ordered) in
    ap (λ (j : ℕ). take j (drop (length p + t.from) (p ++ (z ++ rest)))) n
    ∙ ap (take (t.to - t.from)) (drop_front p (z ++ rest) t.from)
    ∙ slice_front z rest t.from (t.to - t.from) (omega (arith, ordered, inside))

pub same_lexemes : (p z rest : List ℕ) (ts : List Token) → EndBy (length z) ts → lexemes_of (p ++ (z ++ rest)) (map (moved (length p)) ts) ≡ lexemes_of z ts
same_lexemes p z rest [] h = refl
same_lexemes p z rest (t ∷ ts) h =
    ap (λ (y : List ℕ). lexeme (kind_of t.kind y) y ∷ lexemes_of (p ++ (z ++ rest)) (map (moved (length p)) ts)) (same_bytes p z rest t h.0.0 h.0.1)
    ∙ ap (λ (xs : List Lexeme). lexeme_of z t ∷ xs) (same_lexemes p z rest ts h.1)
