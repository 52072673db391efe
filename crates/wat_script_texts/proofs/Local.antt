-- The tokens of a spelled text are the same wherever it stands, but for their places.
use Rattle.std.proofs.Common.{◌≡◌, ◌==◌, ℕ, ◌+◌, ◌<◌, Bool, true, false, ◌&&◌, ◌||◌, List, [], ◌∷◌, ◌++◌, length, map, get_or, Option, Some, None, refl, sym, ◌∙◌, ap, subst, append_assoc, length-append, arith}
use Rattle.std.proofs.lemmas.Bool.{and_parts, ltb-true}
use Rattle.std.proofs.lemmas.List.{append-nil, get_or-append-add}
use Rattle.std.proofs.lemmas.List.Prefix.{front_rest}
use Rattle.std.specs.Fmt.{decimal as digits}
use Rattle.std.specs.List.{list_all, AllByRecursion}
use denote.Enum.Bare.{sameb}
use Rattle.wat_lex.specs.contracts.token.TokenKind.{the_type}
use Rattle.wat_lex.specs.declared.token.TokenKind.{TokenKind}
use Rattle.wat_lex.specs.declared.token.TokenKind.TheVariants as kind
use Rattle.wat_lex.specs.declared.token.Token.{Token as Place}
use Rattle.wat_lex.specs.Tokens.{Piece, piece, token_at, tokens_from}
use Rattle.wat_lex.proofs.Fronts.{piece_space}
use Rattle.wat_lex.proofs.Pieces.{tokens_from-step}
use Rattle.wat_parse.specs.Statements.{is_semicolon}
use Rattle.wat_spell.specs.Tokens.{Token, word, name, number, negative, quoted, symbol, token_text, is_tight_before, is_tight_behind, gap, written}
use Rattle.wat_spell_laws.specs.Read.{can_stand}
use Rattle.wat_script_texts.proofs.Pieces.{is_end, IsCut, begun, minus_cut, behind, written_front, first_blank, cut_here, symbol_apart}

abbrev placed : TokenKind → ℕ → ℕ → Place
placed kind from to = record { kind = kind; from = from; to = to }

-- a token, so many bytes further
abbrev pub moved : ℕ → Place → Place
moved at t = placed t.kind (at + t.from) (at + t.to)

map_append : (at : ℕ) (ts us : List Place) → map (moved at) (ts ++ us) ≡ map (moved at) ts ++ map (moved at) us
map_append at [] us = refl
map_append at (t ∷ ts) us = ap (λ (vs : List Place). moved at t ∷ vs) (map_append at ts us)

moved_twice : (a n : ℕ) (t : Place) → moved a (moved n t) ≡ moved (a + n) t
moved_twice a n t =
    let e : a + (n + t.from) ≡ a + n + t.from = omega arith in
    let f : a + (n + t.to) ≡ a + n + t.to = omega arith in
    ap (λ (j : ℕ). placed t.kind j (a + (n + t.to))) e ∙ ap (λ (j : ℕ). placed t.kind (a + n + t.from) j) f

all_twice : (a n : ℕ) (ts : List Place) → map (moved a) (map (moved n) ts) ≡ map (moved (a + n)) ts
all_twice a n [] = refl
all_twice a n (t ∷ ts) =
    ap (λ (u : Place). u ∷ map (moved a) (map (moved n) ts)) (moved_twice a n t)
    ∙ ap (λ (us : List Place). moved (a + n) t ∷ us) (all_twice a n ts)

head_moved : (at n : ℕ) (kind : Option TokenKind) → token_at at kind n ≡ map (moved at) (token_at 0 kind n)
head_moved at n None = refl
head_moved at n (Some k) =
    let e : at ≡ at + 0 = omega arith in
    let f : at + n ≡ at + (0 + n) = omega arith in
    ap (λ (j : ℕ). placed k j (at + n) ∷ []) e ∙ ap (λ (j : ℕ). placed k (at + 0) j ∷ []) f

-- ---- texts whose tokens are the same wherever they stand, and no `;`

pub record IsLocal (z : List ℕ) : Type 0 where
  pub tokens : (at : ℕ) (rest : List ℕ) → is_end (get_or rest 0 0) ≡ true
      → tokens_from 0 at (z ++ rest) ≡ map (moved at) (tokens_from 0 0 z) ++ tokens_from 0 (at + length z) rest
  pub plain : AllByRecursion (λ t. is_semicolon z t ≡ false) (tokens_from 0 0 z)

alone : (z : List ℕ) (at : ℕ) → IsLocal z → tokens_from 0 at z ≡ map (moved at) (tokens_from 0 0 z)
alone z at h =
    ap (tokens_from 0 at) (sym (append-nil z)) ∙ h.tokens at [] refl ∙ append-nil (map (moved at) (tokens_from 0 0 z))

all_append : (P : Place → Type 0) (ts us : List Place) → AllByRecursion P ts → AllByRecursion P us → AllByRecursion P (ts ++ us)
all_append P [] us h g = g
all_append P (t ∷ ts) us h g = (h.0, all_append P ts us h.1 g)

further : (y z : List ℕ) (t : Place) → is_semicolon (y ++ z) (moved (length y) t) ≡ is_semicolon z t
further y z t = ap (λ (v : ℕ). sameb the_type t.kind kind.Symbol && v == 59) (get_or-append-add y z t.from 0)

all_further : (y z : List ℕ) (ts : List Place) → AllByRecursion (λ t. is_semicolon z t ≡ false) ts → AllByRecursion (λ t. is_semicolon (y ++ z) t ≡ false) (map (moved (length y)) ts)
all_further y z [] h = tt
all_further y z (t ∷ ts) h = (further y z t ∙ h.0, all_further y z ts h.1)

-- a piece in front
module _ (y z : List ℕ) (kind : Option TokenKind) (some : 0 < length y)
    (cut : (rest : List ℕ) → is_end (get_or rest 0 0) ≡ true → let p : Piece = (kind, length y) in p ≡ piece (y ++ (z ++ rest)))
    (plain : AllByRecursion (λ t. is_semicolon (y ++ z) t ≡ false) (token_at 0 kind (length y))) (more : IsLocal z) where
  step_at : (at : ℕ) (rest : List ℕ) → is_end (get_or rest 0 0) ≡ true
      → tokens_from 0 at (y ++ (z ++ rest)) ≡ token_at at kind (length y) ++ tokens_from 0 (at + length y) (z ++ rest)
  step_at at rest e =
      let all : 0 < length (y ++ (z ++ rest)) = omega (arith, length-append y (z ++ rest), some) in
      tokens_from-step (y ++ (z ++ rest)) at (kind, length y) all (cut rest e) some
      ∙ ap (λ (x : List ℕ). token_at at kind (length y) ++ tokens_from 0 (at + length y) x) (front_rest (y ++ (z ++ rest)) y (z ++ rest) refl)

  step_alone : tokens_from 0 0 (y ++ z) ≡ token_at 0 kind (length y) ++ map (moved (length y)) (tokens_from 0 0 z)
  step_alone =
      let n : 0 + length y ≡ length y = omega arith in
      ap (λ (x : List ℕ). tokens_from 0 0 (y ++ x)) (sym (append-nil z)) ∙ step_at 0 [] refl
      ∙ ap (λ (x : List ℕ). token_at 0 kind (length y) ++ tokens_from 0 (0 + length y) x) (append-nil z)
      ∙ ap (λ (j : ℕ). token_at 0 kind (length y) ++ tokens_from 0 j z) n
      ∙ ap (λ (ts : List Place). token_at 0 kind (length y) ++ ts) (alone z (length y) more)

  step_moved : (at : ℕ) → map (moved at) (tokens_from 0 0 (y ++ z)) ≡ token_at at kind (length y) ++ map (moved (at + length y)) (tokens_from 0 0 z)
  step_moved at =
      ap (map (moved at)) step_alone ∙ map_append at (token_at 0 kind (length y)) (map (moved (length y)) (tokens_from 0 0 z))
      ∙ ap (λ (ts : List Place). ts ++ map (moved at) (map (moved (length y)) (tokens_from 0 0 z))) (sym (head_moved at (length y) kind))
      ∙ ap (λ (ts : List Place). token_at at kind (length y) ++ ts) (all_twice at (length y) (tokens_from 0 0 z))

  step_tokens : (at : ℕ) (rest : List ℕ) → is_end (get_or rest 0 0) ≡ true
      → tokens_from 0 at ((y ++ z) ++ rest) ≡ map (moved at) (tokens_from 0 0 (y ++ z)) ++ tokens_from 0 (at + length (y ++ z)) rest
  step_tokens at rest e =
      let n : at + length y + length z ≡ at + length (y ++ z) = omega (arith, length-append y z) in
      ap (tokens_from 0 at) (append_assoc y z rest) ∙ step_at at rest e
      ∙ ap (λ (ts : List Place). token_at at kind (length y) ++ ts) (more.tokens (at + length y) rest e)
      ∙ sym (append_assoc (token_at at kind (length y)) (map (moved (at + length y)) (tokens_from 0 0 z)) (tokens_from 0 (at + length y + length z) rest))
      ∙ ap (λ (ts : List Place). ts ++ tokens_from 0 (at + length y + length z) rest) (sym (step_moved at))
      ∙ ap (λ (j : ℕ). map (moved at) (tokens_from 0 0 (y ++ z)) ++ tokens_from 0 j rest) n

  stepped : IsLocal (y ++ z)
  stepped = record {
    tokens = step_tokens;
    plain = subst (λ (ts : List Place). AllByRecursion (λ t. is_semicolon (y ++ z) t ≡ false) ts) (sym step_alone)
        (all_append (λ t. is_semicolon (y ++ z) t ≡ false) (token_at 0 kind (length y)) (map (moved (length y)) (tokens_from 0 0 z)) plain (all_further y z (tokens_from 0 0 z) more.plain));
  }

nothing_local : IsLocal []
nothing_local = record {
  tokens = λ at rest e. let n : at ≡ at + 0 = omega arith in ap (λ (j : ℕ). tokens_from 0 j rest) n;
  plain = tt;
}

-- a token in front
token_local : (t : Token) (z : List ℕ) → can_stand t ≡ true → ((rest : List ℕ) → is_end (get_or rest 0 0) ≡ true → IsCut t (z ++ rest)) → IsLocal z → IsLocal (token_text t ++ z)
unfolding IsCut
token_local (word v) z c h r = stepped (token_text (word v)) z (Some kind.Word) (begun (word v) c).some h (refl, tt) r
token_local (name n) z c h r = stepped n z (Some kind.Word) (begun (name n) c).some h (refl, tt) r
token_local (number n) z c h r = stepped (digits n) z (Some kind.Number) (begun (number n) c).some h (refl, tt) r
token_local (quoted t) z c h r = stepped (token_text (quoted t)) z (Some kind.Quoted) (begun (quoted t) c).some h (refl, tt) r
token_local (symbol x) z c h r = stepped (token_text (symbol x)) z (Some kind.Symbol) (begun (symbol x) c).some h (symbol_apart x z, tt) r
token_local (negative n) z c h r =
    let small : n < 9223372036854775808 = ltb-true n 9223372036854775808 c in
    stepped (45 ∷ []) (digits n ++ z) (Some kind.Symbol) (omega arith)
    (λ rest e. minus_cut n (z ++ rest) small ∙ ap (λ (x : List ℕ). piece (45 ∷ x)) (sym (append_assoc (digits n) z rest))) (refl, tt)
    (stepped (digits n) z (Some kind.Number) (begun (number n) c).some h (refl, tt) r)

gap_local : (v : Bool) (t : Token) (more : List Token) → can_stand t ≡ true → IsLocal (written (t ∷ more)) → IsLocal (gap v ++ written (t ∷ more))
gap_local true t more c h = h
gap_local false t more c h =
    stepped (32 ∷ []) (written (t ∷ more)) None (omega arith) (λ rest e. piece_space (written (t ∷ more) ++ rest) (first_blank t more rest c)) tt h

pub spelled_local : (ts : List Token) → list_all can_stand ts ≡ true → IsLocal (written ts)
spelled_local [] c = nothing_local
spelled_local (t ∷ []) c =
    let here = (and_parts (can_stand t) true c).0 in
    subst IsLocal (sym (written_front t [])) (token_local t [] here (λ rest e. cut_here t [] rest here e) nothing_local)
spelled_local (t ∷ u ∷ more) c =
    let both = and_parts (can_stand t) (list_all can_stand (u ∷ more)) c in
    let next = (and_parts (can_stand u) (list_all can_stand more) both.1).0 in
    subst IsLocal (sym (written_front t (u ∷ more)))
    (token_local t (behind t (u ∷ more)) both.0 (λ rest e. cut_here t (u ∷ more) rest both.0 e)
    (gap_local (is_tight_behind t || is_tight_before u) u more next (spelled_local (u ∷ more) both.1)))
