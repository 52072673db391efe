-- Each piece of a text keeps a rule.
use Rattle.std.proofs.Common.{◌≡◌, ◌≢◌, ◌==◌, ◌⊎◌, inl, inr, ℕ, suc, ◌+◌, ◌-◌, ◌*◌, ◌<◌, min, nat_le, nat_lt, Bool, true, false, not, ◌&&◌, ◌||◌, cond, List, [], ◌∷◌, ◌++◌, length, take, drop, get_or, Option, Some, None, refl, sym, ◌∙◌, ap, subst, append_assoc, length-append, arith}
use Rattle.std.proofs.lemmas.Bool.{ltb-true, eqb-true, eqb-false}
use Rattle.std.proofs.lemmas.Bool.Decides.{nat_tests}
use Rattle.std.proofs.lemmas.List.{take-append-drop, get_or-take, get_or-drop}
use Rattle.std.proofs.lemmas.List.Folds.{length-prefix_len}
use Rattle.std.specs.Char.{is_ascii_digit}
use Rattle.std.specs.List.{fold, prefix_len, list_all, flat_map}
use Rattle.wat_word.specs.Words.{begins_word, is_word_byte}
use Rattle.wat_lex.specs.declared.token.TokenKind.{TokenKind}
use Rattle.wat_lex.specs.declared.token.TokenKind.TheVariants.{Word, Number, Quoted, Symbol}
use Rattle.wat_lex.specs.Tokens.{Piece, is_blank, is_no_line_feed, bad, ended, word, value_of, number, closing, quoted, comment_end, comment, is_pair, is_single, symbol, piece}
use Rattle.wat_lex.specs.Rules.{decimal, doubled, opens_comment, IsRead, has_close, IsSkipped}
use Rattle.wat_lex.proofs.Pieces.{prefix_some}
use Rattle.wat_lex.proofs.Sets.{blanks_same, pair_same, single_same}

-- ---- tests

and_left : (a b : Bool) → (a && b) ≡ true → a ≡ true
and_left true b e = refl
and_left false b e = cc

and_right : (a b : Bool) → (a && b) ≡ true → b ≡ true
and_right true b e = e
and_right false b e = cc

and_both : (a b : Bool) → a ≡ true → b ≡ true → (a && b) ≡ true
and_both a b e f = rw e f

not_true : (a : Bool) → not a ≡ true → a ≡ false
not_true true e = cc
not_true false e = refl

not_false : (a : Bool) → not a ≡ false → a ≡ true
not_false true e = refl
not_false false e = cc

begins_from : (b : ℕ) → is_word_byte b ≡ true → is_ascii_digit b ≡ false → begins_word b ≡ true
begins_from b e f = grind (arith, nat_tests)

-- ---- the bytes that pass a test

all_step : (p : ℕ → Bool) (x : ℕ) (xs : List ℕ) (n : ℕ) (t : Bool) → p x ≡ t → list_all p (take n xs) ≡ true → list_all p (take (cond t (1 + n) 0) (x ∷ xs)) ≡ true
all_step p x xs n true e h = let m : 1 + n ≡ suc n = omega arith in rw m (and_both (p x) (list_all p (take n xs)) e h)
all_step p x xs n false e h = refl

pub prefix_all : (p : ℕ → Bool) (z : List ℕ) → list_all p (take (prefix_len p z) z) ≡ true
prefix_all p [] = refl
prefix_all p (x ∷ xs) = all_step p x xs (prefix_len p xs) (p x) refl (prefix_all p xs)

end_step : (p : ℕ → Bool) (x : ℕ) (xs : List ℕ) (n : ℕ) (t : Bool) → p x ≡ t → p (get_or (drop n xs) 0 0) ≡ false → p (get_or (drop (cond t (1 + n) 0) (x ∷ xs)) 0 0) ≡ false
end_step p x xs n true e h = let m : 1 + n ≡ suc n = omega arith in rw m h
end_step p x xs n false e h = e

pub prefix_end : (p : ℕ → Bool) (z : List ℕ) → p 0 ≡ false → p (get_or (drop (prefix_len p z) z) 0 0) ≡ false
prefix_end p [] h = h
prefix_end p (x ∷ xs) h = end_step p x xs (prefix_len p xs) (p x) refl (prefix_end p xs h)

-- ---- what is to be shown

-- a piece other than a bad one keeps its rule
abbrev pub IsRule : Option TokenKind → List ℕ → List ℕ → Type 0
IsRule None s rest = IsSkipped s rest
IsRule (Some kind) s rest = IsRead kind s rest

pub record IsGood (z : List ℕ) (kind : Option TokenKind) (n : ℕ) : Type 0 where
  pub front : List ℕ
  pub rest : List ℕ
  pub split : z ≡ front ++ rest
  pub len : length front ≡ n
  pub some : 0 < n
  pub rule : IsRule kind front rest

unfoldable pub IsSound : List ℕ → Piece → Type 0
IsSound z p = (p ≡ bad z) ⊎ IsGood z p.0 p.1

pick : (z : List ℕ) (p : Piece) (t : Bool) → (t ≡ true → IsGood z p.0 p.1) → IsSound z (cond t p (bad z))
unfolding IsSound
pick z p true h = inr (h refl)
pick z p false h = inl refl

branch : (z : List ℕ) (p q : Piece) (t : Bool) → (t ≡ true → IsSound z p) → (t ≡ false → IsSound z q) → IsSound z (cond t p q)
branch z p q true h g = h refl
branch z p q false h g = g refl

-- the front that passes a test
prefix_good : (p : ℕ → Bool) (z : List ℕ) (kind : Option TokenKind) → 0 < length z → p (get_or z 0 0) ≡ true
    → IsRule kind (take (prefix_len p z) z) (drop (prefix_len p z) z) → IsGood z kind (prefix_len p z)
prefix_good p z kind h e r = record {
  front = take (prefix_len p z) z;
  rest = drop (prefix_len p z) z;
  split = sym (take-append-drop (prefix_len p z) z);
  len = length-prefix_len p z;
  some = prefix_some p z h e;
  rule = r;
}

head_of_front : (p : ℕ → Bool) (z : List ℕ) → 0 < length z → p (get_or z 0 0) ≡ true → get_or (take (prefix_len p z) z) 0 0 ≡ get_or z 0 0
head_of_front p z h e = get_or-take (prefix_len p z) z 0 0 (prefix_some p z h e)

-- ---- blanks, words and numbers

blanks_good : (z : List ℕ) → 0 < length z → is_blank (get_or z 0 0) ≡ true → IsGood z None (prefix_len is_blank z)
blanks_good z h e = prefix_good is_blank z None h e (inl (blanks_same (take (prefix_len is_blank z) z) ∙ prefix_all is_blank z))

word_good : (z : List ℕ) → 0 < length z → is_ascii_digit (get_or z 0 0) ≡ false → is_word_byte (get_or z 0 0) ≡ true → nat_le (prefix_len is_word_byte z) 128 ≡ true
    → IsGood z (Some Word) (prefix_len is_word_byte z)
word_good z h d e small =
    let n = prefix_len is_word_byte z in
    let s = take n z in
    prefix_good is_word_byte z (Some Word) h e (
      and_both (nat_le (length (take (prefix_len is_word_byte z) z)) 128 && begins_word (get_or (take (prefix_len is_word_byte z) z) 0 0)) (list_all is_word_byte (take (prefix_len is_word_byte z) z))
          (and_both (nat_le (length (take (prefix_len is_word_byte z) z)) 128) (begins_word (get_or (take (prefix_len is_word_byte z) z) 0 0))
          (ap (λ (m : ℕ). nat_le m 128) (length-prefix_len is_word_byte z) ∙ small)
          (ap begins_word (head_of_front is_word_byte z h e) ∙ begins_from (get_or z 0 0) e d))
          (prefix_all is_word_byte z),
      prefix_end is_word_byte z refl,
    )

word_sound : (z : List ℕ) → 0 < length z → is_ascii_digit (get_or z 0 0) ≡ false → is_word_byte (get_or z 0 0) ≡ true → IsSound z (word z)
word_sound z h d e = pick z (Some Word, prefix_len is_word_byte z) (nat_le (prefix_len is_word_byte z) 128) (word_good z h d e)

-- the value of digits is their number, or the limit where that is above
pub capped : (a : ℕ) (s : List ℕ) → fold (λ n b. min (10 * n + (b - 48)) 9223372036854775808) (min a 9223372036854775808) s ≡ min (fold (λ n b. 10 * n + (b - 48)) a s) 9223372036854775808
capped a [] = refl
capped a (b ∷ s) =
    let e : min (10 * min a 9223372036854775808 + (b - 48)) 9223372036854775808 ≡ min (10 * a + (b - 48)) 9223372036854775808 = omega arith in
    ap (λ (v : ℕ). fold (λ n c. min (10 * n + (c - 48)) 9223372036854775808) v s) e ∙ capped (10 * a + (b - 48)) s

below_limit : (s : List ℕ) → nat_lt (value_of s) 9223372036854775808 ≡ true → decimal s < 9223372036854775808
below_limit s e =
    let lt : value_of s < 9223372036854775808 = ltb-true (value_of s) 9223372036854775808 e in
    let is : value_of s ≡ min (decimal s) 9223372036854775808 = capped 0 s in
    omega (arith, lt, is)

number_good : (z : List ℕ) → 0 < length z → is_ascii_digit (get_or z 0 0) ≡ true
    → (nat_lt (value_of (take (prefix_len is_ascii_digit z) z)) 9223372036854775808 && not (is_word_byte (get_or z (prefix_len is_ascii_digit z) 0))) ≡ true
    → IsGood z (Some Number) (prefix_len is_ascii_digit z)
number_good z h e t =
    prefix_good is_ascii_digit z (Some Number) h e (
      prefix_all is_ascii_digit z,
      below_limit (take (prefix_len is_ascii_digit z) z) (and_left _ _ t),
      ap is_word_byte (get_or-drop (prefix_len is_ascii_digit z) z 0 0 ∙ ap (λ (i : ℕ). get_or z i 0) (omega arith)) ∙ not_true _ (and_right (nat_lt (value_of (take (prefix_len is_ascii_digit z) z)) 9223372036854775808) _ t),
    )

number_sound : (z : List ℕ) → 0 < length z → is_ascii_digit (get_or z 0 0) ≡ true → IsSound z (number z)
number_sound z h e = pick z (Some Number, prefix_len is_ascii_digit z) _ (number_good z h e)

-- ---- symbols

pair_good : (z : List ℕ) → is_pair (get_or z 0 0) (get_or z 1 0) ≡ true → opens_comment z ≡ false → IsGood z (Some Symbol) 2
pair_good [] e o = cc
pair_good (b ∷ []) e o = cc
pair_good (b ∷ c ∷ z) e o = record { front = b ∷ c ∷ []; rest = z; split = refl; len = refl; some = omega arith; rule = (inl (refl, pair_same b c ∙ e), o) }

single_good : (z : List ℕ) → 0 < length z → is_single (get_or z 0 0) ≡ true → is_pair (get_or z 0 0) (get_or z 1 0) ≡ false → opens_comment z ≡ false → IsGood z (Some Symbol) 1
single_good [] h e f o = absurd (omega arith)
single_good (b ∷ z) h e f o = record { front = b ∷ []; rest = z; split = refl; len = refl; some = omega arith; rule = (inr (refl, single_same b ∙ e, pair_same b (get_or z 0 0) ∙ f), o) }

symbol_cases : (z : List ℕ) → 0 < length z → opens_comment z ≡ false → (t u : Bool) → is_pair (get_or z 0 0) (get_or z 1 0) ≡ t → is_single (get_or z 0 0) ≡ u
    → IsSound z (cond (cond t 2 (cond u 1 0) == 0) (bad z) (Some Symbol, cond t 2 (cond u 1 0)))
unfolding IsSound
symbol_cases z h o true u e f = inr (pair_good z e o)
symbol_cases z h o false true e f = inr (single_good z h f e o)
symbol_cases z h o false false e f = inl refl

symbol_sound : (z : List ℕ) → 0 < length z → opens_comment z ≡ false → IsSound z (symbol z)
symbol_sound z h o = symbol_cases z h o (is_pair (get_or z 0 0) (get_or z 1 0)) (is_single (get_or z 0 0)) refl refl

-- ---- quotes

record IsClosed (at : ℕ) (z : List ℕ) (end : ℕ) : Type 0 where
  pub text : List ℕ
  pub rest : List ℕ
  pub split : z ≡ flat_map doubled text ++ (39 ∷ rest)
  pub apart : get_or rest 0 0 ≢ 39
  pub place : end ≡ at + length (flat_map doubled text) + 1

some_same : (a b : ℕ) → Some a ≡ Some b → a ≡ b
some_same a b e = cc

closed_last : (at b e : ℕ) (t : Bool) → (b == 39) ≡ t → cond (t && not (0 == 39)) (Some (at + 1)) (closing t (at + 1) []) ≡ Some e → IsClosed at (b ∷ []) e
closed_last at b e true p h =
    let same : at + 1 ≡ e = some_same (at + 1) e h in
    record { text = []; rest = []; split = ap (λ (v : ℕ). v ∷ []) (eqb-true b 39 p); apart = (λ q. omega (arith, q)); place = omega (arith, same) }
closed_last at b e false p h = cc

closed_step : (at b c : ℕ) (z : List ℕ) (e : ℕ) (t u : Bool) → (b == 39) ≡ t → (c == 39) ≡ u
    → cond (t && not u) (Some (at + 1)) (closing t (at + 1) (c ∷ z)) ≡ Some e
    → (closing false (at + 1) (c ∷ z) ≡ Some e → IsClosed (at + 1) (c ∷ z) e)
    → (closing false (at + 1 + 1) z ≡ Some e → IsClosed (at + 1 + 1) z e)
    → IsClosed at (b ∷ c ∷ z) e
closed_step at b c z e true false p q h f g =
    let same : at + 1 ≡ e = some_same (at + 1) e h in
    record { text = []; rest = c ∷ z; split = ap (λ (v : ℕ). v ∷ c ∷ z) (eqb-true b 39 p); apart = eqb-false c 39 q; place = omega (arith, same) }
closed_step at b c z e true true p q h f g =
    let r = g h in
    record {
      text = 39 ∷ r.text;
      rest = r.rest;
      split = ap (λ (v : ℕ). v ∷ c ∷ z) (eqb-true b 39 p) ∙ ap (λ (v : ℕ). 39 ∷ v ∷ z) (eqb-true c 39 q) ∙ ap (λ (y : List ℕ). 39 ∷ 39 ∷ y) r.split;
      apart = r.apart;
      place = omega (arith, r.place);
    }
closed_step at b c z e false u p q h f g =
    let r = f h in
    let d : doubled b ≡ b ∷ [] = ap (λ v. cond v (39 ∷ 39 ∷ []) (b ∷ [])) p in
    let l : length (doubled b ++ flat_map doubled r.text) ≡ suc (length (flat_map doubled r.text)) = ap (λ (v : List ℕ). length (v ++ flat_map doubled r.text)) d in
    record {
      text = b ∷ r.text;
      rest = r.rest;
      split = ap (λ (y : List ℕ). b ∷ y) r.split ∙ ap (λ (v : List ℕ). (v ++ flat_map doubled r.text) ++ (39 ∷ r.rest)) (sym d);
      apart = r.apart;
      place = omega (arith, r.place, l);
    }

closed : (at : ℕ) (z : List ℕ) (e : ℕ) → closing false at z ≡ Some e → IsClosed at z e
closed at [] e h = cc
closed at (b ∷ []) e h = closed_last at b e (b == 39) refl h
closed at (b ∷ c ∷ z) e h = closed_step at b c z e (b == 39) (c == 39) refl refl h (closed (at + 1) (c ∷ z) e) (closed (at + 1 + 1) z e)

quoted_of : (b : ℕ) (z : List ℕ) (o : Option ℕ) → b ≡ 39 → closing false 1 z ≡ o → IsSound (b ∷ z) (ended (Some Quoted) (b ∷ z) o)
unfolding IsSound
quoted_of b z None e q = inl refl
quoted_of b z (Some end) e q =
    let r = closed 1 z end q in
    let l : length (flat_map doubled r.text ++ 39 ∷ []) ≡ length (flat_map doubled r.text) + 1 = length-append (flat_map doubled r.text) (39 ∷ []) in
    inr (record {
      front = 39 ∷ (flat_map doubled r.text ++ 39 ∷ []);
      rest = r.rest;
      split = ap (λ (v : ℕ). v ∷ z) e ∙ ap (λ (y : List ℕ). 39 ∷ y) (r.split ∙ sym (append_assoc (flat_map doubled r.text) (39 ∷ []) r.rest));
      len = omega (arith, l, r.place);
      some = omega (arith, r.place);
      rule = (r.text, refl, r.apart);
    })

quoted_sound : (z : List ℕ) → (get_or z 0 0 == 39) ≡ true → IsSound z (quoted z)
quoted_sound [] e = cc
quoted_sound (b ∷ z) e = quoted_of b z (closing false 1 z) (eqb-true b 39 e) refl

-- ---- comments

record IsEnded (at : ℕ) (z : List ℕ) (end : ℕ) : Type 0 where
  pub body : List ℕ
  pub rest : List ℕ
  pub split : z ≡ body ++ (42 ∷ 47 ∷ rest)
  pub first : has_close (body ++ 42 ∷ []) ≡ false
  pub place : end ≡ at + length body + 2

heads : (body rest : List ℕ) → get_or (body ++ 42 ∷ []) 0 0 ≡ get_or (body ++ (42 ∷ 47 ∷ rest)) 0 0
heads [] rest = refl
heads (b ∷ body) rest = refl

or_false : (a b : Bool) → a ≡ false → b ≡ false → (a || b) ≡ false
or_false a b e f = rw e f

closes_here : (at b : ℕ) (z : List ℕ) (e : ℕ) → b ≡ 42 → get_or z 0 0 ≡ 47 → at + 2 ≡ e → IsEnded at (b ∷ z) e
closes_here at b [] e p q h = absurd (omega arith)
closes_here at b (c ∷ z) e p q h = record {
  body = [];
  rest = z;
  split = ap (λ (v : ℕ). v ∷ c ∷ z) p ∙ ap (λ (v : ℕ). 42 ∷ v ∷ z) q;
  first = refl;
  place = omega (arith, h);
}

ended_step : (at b : ℕ) (z : List ℕ) (e : ℕ) (v : Bool) → (b == 42 && get_or z 0 0 == 47) ≡ v
    → cond v (Some (at + 2)) (comment_end (at + 1) z) ≡ Some e
    → (comment_end (at + 1) z ≡ Some e → IsEnded (at + 1) z e)
    → IsEnded at (b ∷ z) e
ended_step at b z e true p h g = closes_here at b z e (eqb-true b 42 (and_left _ _ p)) (eqb-true (get_or z 0 0) 47 (and_right (b == 42) _ p)) (some_same (at + 2) e h)
ended_step at b z e false p h g =
    let r = g h in
    let here : (b == 42 && get_or (r.body ++ 42 ∷ []) 0 0 == 47) ≡ false = ap (λ (v : ℕ). b == 42 && v == 47) (heads r.body r.rest ∙ ap (λ (y : List ℕ). get_or y 0 0) (sym r.split)) ∙ p in
    record {
      body = b ∷ r.body;
      rest = r.rest;
      split = ap (λ (y : List ℕ). b ∷ y) r.split;
      first = or_false (b == 42 && get_or (r.body ++ 42 ∷ []) 0 0 == 47) (has_close (r.body ++ 42 ∷ [])) here r.first;
      place = omega (arith, r.place);
    }

comment_ended : (at : ℕ) (z : List ℕ) (e : ℕ) → comment_end at z ≡ Some e → IsEnded at z e
comment_ended at [] e h = cc
comment_ended at (b ∷ z) e h = ended_step at b z e (b == 42 && get_or z 0 0 == 47) refl h (comment_ended (at + 1) z e)

comment_of : (b c : ℕ) (z : List ℕ) (o : Option ℕ) → b ≡ 47 → c ≡ 42 → comment_end 2 z ≡ o → IsSound (b ∷ c ∷ z) (ended None (b ∷ c ∷ z) o)
unfolding IsSound
comment_of b c z None e f q = inl refl
comment_of b c z (Some end) e f q =
    let r = comment_ended 2 z end q in
    let l : length (r.body ++ 42 ∷ 47 ∷ []) ≡ length r.body + 2 = length-append r.body (42 ∷ 47 ∷ []) in
    inr (record {
      front = 47 ∷ 42 ∷ (r.body ++ 42 ∷ 47 ∷ []);
      rest = r.rest;
      split = ap (λ (v : ℕ). v ∷ c ∷ z) e ∙ ap (λ (v : ℕ). 47 ∷ v ∷ z) f ∙ ap (λ (y : List ℕ). 47 ∷ 42 ∷ y) (r.split ∙ sym (append_assoc r.body (42 ∷ 47 ∷ []) r.rest));
      len = omega (arith, l, r.place);
      some = omega (arith, r.place);
      rule = inr (inr (r.body, refl, r.first));
    })

comment_sound : (z : List ℕ) → (get_or z 0 0 == 47 && get_or z 1 0 == 42) ≡ true → IsSound z (comment z)
comment_sound [] e = cc
comment_sound (b ∷ []) e = absurd (no_second (b == 47) e)
  where
    no_second : (t : Bool) → (t && 0 == 42) ≡ true → ⊥
    no_second true e = cc
    no_second false e = cc
comment_sound (b ∷ c ∷ z) e = comment_of b c z (comment_end 2 z) (eqb-true b 47 (and_left _ _ e)) (eqb-true c 42 (and_right (b == 47) _ e)) refl

IsLineEnd : List ℕ → Type 0
IsLineEnd rest = (rest ≡ []) ⊎ (get_or rest 0 0 ≡ 10)

line_step : (x : ℕ) (xs : List ℕ) (n : ℕ) (t : Bool) → is_no_line_feed x ≡ t → IsLineEnd (drop n xs) → IsLineEnd (drop (cond t (1 + n) 0) (x ∷ xs))
unfolding IsLineEnd
line_step x xs n true e h = let m : 1 + n ≡ suc n = omega arith in rw m h
line_step x xs n false e h = inr (eqb-true x 10 (not_false (x == 10) e))

line_end : (z : List ℕ) → IsLineEnd (drop (prefix_len is_no_line_feed z) z)
unfolding IsLineEnd
line_end [] = inl refl
line_end (x ∷ xs) = line_step x xs (prefix_len is_no_line_feed xs) (is_no_line_feed x) refl (line_end xs)

line_good : (z : List ℕ) → IsGood (45 ∷ 45 ∷ z) None (prefix_len is_no_line_feed (45 ∷ 45 ∷ z))
unfolding IsLineEnd
line_good z =
    let n : ℕ = prefix_len is_no_line_feed (45 ∷ 45 ∷ z) in
    prefix_good is_no_line_feed (45 ∷ 45 ∷ z) None (omega arith) refl
    (inr (inl (record {
      first = get_or-take (prefix_len is_no_line_feed (45 ∷ 45 ∷ z)) (45 ∷ 45 ∷ z) 0 0 (omega arith);
      second = get_or-take (prefix_len is_no_line_feed (45 ∷ 45 ∷ z)) (45 ∷ 45 ∷ z) 1 0 (omega arith);
      line = prefix_all is_no_line_feed (45 ∷ 45 ∷ z);
      ended = line_end (45 ∷ 45 ∷ z);
    })))

line_of : (b c : ℕ) (z : List ℕ) → b ≡ 45 → c ≡ 45 → IsGood (b ∷ c ∷ z) None (prefix_len is_no_line_feed (b ∷ c ∷ z))
line_of b c z e f =
    let q : 45 ∷ 45 ∷ z ≡ b ∷ c ∷ z = ap (λ (v : ℕ). v ∷ 45 ∷ z) (sym e) ∙ ap (λ (v : ℕ). b ∷ v ∷ z) (sym f) in
    subst (λ (y : List ℕ). IsGood y None (prefix_len is_no_line_feed y)) q (line_good z)

line_sound : (z : List ℕ) → (get_or z 0 0 == 45 && get_or z 1 0 == 45) ≡ true → IsSound z (None, prefix_len is_no_line_feed z)
unfolding IsSound
line_sound [] e = cc
line_sound (b ∷ []) e = absurd (no_second (b == 45) e)
  where
    no_second : (t : Bool) → (t && 0 == 45) ≡ true → ⊥
    no_second true e = cc
    no_second false e = cc
line_sound (b ∷ c ∷ z) e = inr (line_of b c z (eqb-true b 45 (and_left _ _ e)) (eqb-true c 45 (and_right (b == 45) _ e)))

-- ---- the piece at the front

blanks_sound : (z : List ℕ) → 0 < length z → is_blank (get_or z 0 0) ≡ true → IsSound z (None, prefix_len is_blank z)
unfolding IsSound
blanks_sound z h e = inr (blanks_good z h e)

pub sound : (z : List ℕ) → 0 < length z → IsSound z (piece z)
unfolding piece
sound z h =
    branch z (None, prefix_len is_blank z) _ (is_blank (get_or z 0 0)) (blanks_sound z h) (λ e0.
    branch z (None, prefix_len is_no_line_feed z) _ (get_or z 0 0 == 45 && get_or z 1 0 == 45) (line_sound z) (λ e1.
    branch z (comment z) _ (get_or z 0 0 == 47 && get_or z 1 0 == 42) (comment_sound z) (λ e2.
    branch z (quoted z) _ (get_or z 0 0 == 39) (quoted_sound z) (λ e3.
    branch z (number z) _ (is_ascii_digit (get_or z 0 0)) (number_sound z h) (λ e4.
    branch z (word z) (symbol z) (is_word_byte (get_or z 0 0)) (word_sound z h e4) (λ e5. symbol_sound z h (or_false _ _ e1 e2)))))))
