-- The tokens of a part of a text, piece by piece.
use Rattle.std.proofs.Common.{◌≡◌, ◌==◌, ℕ, zero, suc, ◌+◌, ◌-◌, ◌<◌, ◌≤◌, ◌⊎◌, inl, inr, Bool, true, false, ◌&&◌, ◌||◌, cond, nat_le, List, [], ◌∷◌, ◌++◌, length, drop, Option, Some, None, is_some, filter, refl, sym, ◌∙◌, ap, append_assoc, length-append, length-drop, arith}
use Rattle.std.proofs.lemmas.Bool.{eqb-true}
use Rattle.std.proofs.lemmas.Bool.Decides.{nat_tests}
use Rattle.std.proofs.lemmas.Grind.{common_steps}
use Rattle.std.proofs.lemmas.List.{append-nil, drop-drop}
use Rattle.std.proofs.lemmas.List.Elements.{filter-append}
use Rattle.std.specs.List.{AllByRecursion}
use Rattle.wat_lex.specs.declared.token.TokenKind.{TokenKind}
use Rattle.wat_lex.specs.declared.token.Token.{Token}
use Rattle.wat_lex.specs.Parts.{begins_token, is_within, tokens_within, next_from}
use Rattle.wat_lex.specs.Rules.{IsCut, nothing, skips, reads, fails}
use Rattle.wat_lex.specs.Tokens.{Piece, piece, token_at, tokens_from, tokens_of}
use Rattle.wat_lex.proofs.Cuts.{cut_within, tokens_of-cut}
use Rattle.wat_lex.proofs.Pieces.{tokens_from-step}
use Rattle.wat_lex.proofs.Rules.{IsSound, sound}

-- the piece at the front takes some bytes, and no more than there are
pub record IsSized (z : List ℕ) (n : ℕ) : Type 0 where
  pub some : 0 < n
  pub most : n ≤ length z

sized_by : (z : List ℕ) → 0 < length z → IsSound z (piece z) → IsSized z (piece z).1
unfolding IsSound
sized_by z some (inl e) =
    let n : (piece z).1 ≡ length z = ap (λ (p : Piece). p.1) e in
    record { some = omega (arith, n); most = omega (arith, n) }
sized_by z some (inr g) =
    let l : length z ≡ length g.front + length g.rest = ap length g.split ∙ length-append g.front g.rest in
    record { some = g.some; most = omega (arith, l, g.len) }

pub sized : (z : List ℕ) → 0 < length z → IsSized z (piece z).1
sized z some = sized_by z some (sound z some)

-- ---- tokens stand in order

abbrev pub IsBehind : ℕ → Token → Type 0
IsBehind at t = (at ≤ t.from) × (t.from < t.to)

all_behind : (a b : ℕ) → a ≤ b → (ts : List Token) → AllByRecursion (IsBehind b) ts → AllByRecursion (IsBehind a) ts
all_behind a b le [] h = tt
all_behind a b le (t ∷ ts) h = ((omega (arith, h.0.0), h.0.1), all_behind a b le ts h.1)

cut_order : {at : ℕ} {z : List ℕ} {ts : List Token} → IsCut at z ts → AllByRecursion (IsBehind at) ts
cut_order (nothing at) = tt
cut_order (skips at s rest ts some k c) = all_behind at (at + length s) (omega arith) ts (cut_order c)
cut_order (reads at kind s rest ts some r c) = ((omega arith, omega arith), all_behind at (at + length s) (omega arith) ts (cut_order c))
cut_order (fails at s some un) = ((omega arith, omega arith), tt)

-- each token ends before the next begins
abbrev pub AreInOrder : List Token → Type 0
AreInOrder [] = Unit {0}
AreInOrder (t ∷ ts) = (t.from < t.to) × (AllByRecursion (IsBehind t.to) ts × AreInOrder ts)

cut_sorted : {at : ℕ} {z : List ℕ} {ts : List Token} → IsCut at z ts → AreInOrder ts
cut_sorted (nothing at) = tt
cut_sorted (skips at s rest ts some k c) = cut_sorted c
cut_sorted (reads at kind s rest ts some r c) = (omega arith, (cut_order c, cut_sorted c))
cut_sorted (fails at s some un) = (omega arith, (tt, tt))

pub tokens_in_order : (z : List ℕ) → AreInOrder (tokens_of z)
tokens_in_order z = cut_sorted (tokens_of-cut z)

in_order : (at : ℕ) (z : List ℕ) → AllByRecursion (IsBehind at) (tokens_from 0 at z)
in_order at z = cut_order (cut_within (length z) at z (omega arith))

-- ---- what stands before a part and behind it

outside : (from to a b : ℕ) → to < b → (nat_le from a && nat_le b to) ≡ false
outside from to a b lt = grind (arith, nat_tests)

before : (from to a b : ℕ) → a < from → (nat_le from a && nat_le b to) ≡ false
before from to a b lt = grind (arith, nat_tests)

inside : (from to a b : ℕ) → from ≤ a → (nat_le from a && nat_le b to) ≡ nat_le b to
inside from to a b le = grind (arith, nat_tests)

none_behind : (from to at : ℕ) (ts : List Token) → to ≤ at → AllByRecursion (IsBehind at) ts → filter (is_within from to) ts ≡ []
none_behind from to at [] le h = refl
none_behind from to at (t ∷ ts) le h =
    ap (λ (v : Bool). cond v (t ∷ filter (is_within from to) ts) (filter (is_within from to) ts)) (outside from to t.from t.to (omega (arith, h.0.0, h.0.1)))
    ∙ none_behind from to at ts le h.1

none_before : (from to : ℕ) (ts : List Token) → AllByRecursion (λ t. t.from < from) ts → filter (is_within from to) ts ≡ []
none_before from to [] h = refl
none_before from to (t ∷ ts) h =
    ap (λ (v : Bool). cond v (t ∷ filter (is_within from to) ts) (filter (is_within from to) ts)) (before from to t.from t.to h.0)
    ∙ none_before from to ts h.1

not_yet : (at from : ℕ) → from < at → nat_le at from ≡ false
not_yet at from lt = grind (arith, nat_tests)

reached : (at from : ℕ) → at ≤ from → nat_le at from ≡ true
reached at from le = grind (arith, nat_tests)

next_passes : (to end : ℕ) (front ts : List Token) → AllByRecursion (λ t. t.from < to) front → next_from to end (front ++ ts) ≡ next_from to end ts
next_passes to end [] ts h = refl
next_passes to end (t ∷ front) ts h =
    ap (λ (v : Bool). cond v t.from (next_from to end (front ++ ts))) (not_yet to t.from h.0) ∙ next_passes to end front ts h.1

-- from a place behind which the tokens begin, any lower place has the same next token
next_same : (at to end : ℕ) (ts : List Token) → to ≤ at → AllByRecursion (IsBehind at) ts → next_from to end ts ≡ next_from 0 end ts
next_same at to end [] le h = refl
next_same at to end (t ∷ ts) le h =
    ap (λ (v : Bool). cond v t.from (next_from to end ts)) (reached to t.from (omega (arith, h.0.0)))
    ∙ sym (ap (λ (v : Bool). cond v t.from (next_from 0 end ts)) (reached 0 t.from (omega arith)))

-- ---- a piece further

nothing_left : (v : Bool) → let ts : List Token = [] in ts ≡ cond v [] []
nothing_left true = refl
nothing_left false = refl

head_within : (from to at n : ℕ) (kind : Option TokenKind) → from ≤ at → filter (is_within from to) (token_at at kind n) ≡ cond (nat_le (at + n) to) (token_at at kind n) []
head_within from to at n None le = nothing_left (nat_le (at + n) to)
head_within from to at n (Some k) le = ap (λ (v : Bool). cond v (token_at at (Some k) n) []) (inside from to at (at + n) le)

head_before : (from at n : ℕ) (kind : Option TokenKind) → at < from → AllByRecursion (λ t. t.from < from) (token_at at kind n)
head_before from at n None lt = tt
head_before from at n (Some k) lt = (lt, tt)

pub part_step : (from to at : ℕ) (z : List ℕ) (p : Piece) → 0 < length z → p ≡ piece z → 0 < p.1 → from ≤ at
    → filter (is_within from to) (tokens_from 0 at z) ≡ cond (nat_le (at + p.1) to) (token_at at p.0 p.1) [] ++ filter (is_within from to) (tokens_from 0 (at + p.1) (drop p.1 z))
part_step from to at z p some e n le =
    ap (filter (is_within from to)) (tokens_from-step z at p some e n)
    ∙ filter-append (is_within from to) (token_at at p.0 p.1) (tokens_from 0 (at + p.1) (drop p.1 z))
    ∙ ap (λ (ts : List Token). ts ++ filter (is_within from to) (tokens_from 0 (at + p.1) (drop p.1 z))) (head_within from to at p.1 p.0 le)

pub next_step : (to end at : ℕ) (z : List ℕ) (p : Piece) → 0 < length z → p ≡ piece z → 0 < p.1 → at < to
    → next_from to end (tokens_from 0 at z) ≡ next_from to end (tokens_from 0 (at + p.1) (drop p.1 z))
next_step to end at z p some e n lt =
    ap (next_from to end) (tokens_from-step z at p some e n)
    ∙ next_passes to end (token_at at p.0 p.1) (tokens_from 0 (at + p.1) (drop p.1 z)) (head_before to at p.1 p.0 lt)

pub part_ends : (from to at : ℕ) (z : List ℕ) → to ≤ at → filter (is_within from to) (tokens_from 0 at z) ≡ []
part_ends from to at z le = none_behind from to at (tokens_from 0 at z) le (in_order at z)

pub next_ends : (to end at : ℕ) (z : List ℕ) → to ≤ at → next_from to end (tokens_from 0 at z) ≡ next_from 0 end (tokens_from 0 at z)
next_ends to end at z le = next_same at to end (tokens_from 0 at z) le (in_order at z)

pub next_blank : (end at : ℕ) (z : List ℕ) (p : Piece) → 0 < length z → p ≡ piece z → 0 < p.1 → p.0 ≡ None
    → next_from 0 end (tokens_from 0 at z) ≡ next_from 0 end (tokens_from 0 (at + p.1) (drop p.1 z))
next_blank end at z p some e n none =
    ap (next_from 0 end) (tokens_from-step z at p some e n)
    ∙ ap (λ (k : Option TokenKind). next_from 0 end (token_at at k p.1 ++ tokens_from 0 (at + p.1) (drop p.1 z))) none

pub next_found : (end at : ℕ) (z : List ℕ) (p : Piece) (k : TokenKind) → 0 < length z → p ≡ piece z → 0 < p.1 → p.0 ≡ Some k
    → next_from 0 end (tokens_from 0 at z) ≡ at
next_found end at z p k some e n is =
    ap (next_from 0 end) (tokens_from-step z at p some e n)
    ∙ ap (λ (o : Option TokenKind). next_from 0 end (token_at at o p.1 ++ tokens_from 0 (at + p.1) (drop p.1 z))) is
    ∙ ap (λ (v : Bool). cond v at (next_from 0 end (tokens_from 0 (at + p.1) (drop p.1 z)))) (reached 0 at (omega arith))

pub some_kind : (k : Option TokenKind) → is_some k ≡ true → (kind : TokenKind) × (k ≡ Some kind)
some_kind None e = absurd (cc)
some_kind (Some kind) e = (kind, refl)

pub no_kind : (k : Option TokenKind) → is_some k ≡ false → k ≡ None
no_kind None e = refl
no_kind (Some kind) e = absurd (cc)

-- ---- where a token begins, a piece does

record StartsAt (at : ℕ) (z : List ℕ) (from : ℕ) : Type 0 where
  front : List Token
  split : tokens_from 0 at z ≡ front ++ tokens_from 0 from (drop (from - at) z)
  before : AllByRecursion (λ t. t.from < from) front
  above : at ≤ from
  most : from ≤ at + length z

all_append : (from : ℕ) (xs ys : List Token) → AllByRecursion (λ t. t.from < from) xs → AllByRecursion (λ t. t.from < from) ys → AllByRecursion (λ t. t.from < from) (xs ++ ys)
all_append from [] ys h g = g
all_append from (x ∷ xs) ys h g = (h.0, all_append from xs ys h.1 g)

begins_later : (at n from : ℕ) (kind : Option TokenKind) (ts : List Token) → (at == from) ≡ false → begins_token (token_at at kind n ++ ts) from ≡ true → begins_token ts from ≡ true
begins_later at n from None ts other e = e
begins_later at n from (Some k) ts other e = sym (ap (λ (v : Bool). v || begins_token ts from) other) ∙ e

starts_here : (at from : ℕ) (z : List ℕ) → at ≡ from → StartsAt at z from
starts_here at from z e =
    let none : from - at ≡ 0 = omega (arith, e) in
    record {
      front = [];
      split = ap (λ (a : ℕ). tokens_from 0 a z) e ∙ sym (ap (λ (m : ℕ). tokens_from 0 from (drop m z)) none);
      before = tt;
      above = omega (arith, e);
      most = omega (arith, e);
    }

starts_later : (at from : ℕ) (z : List ℕ) (p : Piece) → 0 < length z → p ≡ piece z → IsSized z p.1 → StartsAt (at + p.1) (drop p.1 z) from → StartsAt at z from
starts_later at from z p some e size r =
    let same : drop (from - (at + p.1)) (drop p.1 z) ≡ drop (from - at) z = drop-drop (from - (at + p.1)) p.1 z ∙ ap (λ (m : ℕ). drop m z) (omega (arith, r.above)) in
    record {
      front = token_at at p.0 p.1 ++ r.front;
      split =
          tokens_from-step z at p some e size.some
          ∙ ap (λ (ts : List Token). token_at at p.0 p.1 ++ ts) (r.split ∙ ap (λ (y : List ℕ). r.front ++ tokens_from 0 from y) same)
          ∙ sym (append_assoc (token_at at p.0 p.1) r.front (tokens_from 0 from (drop (from - at) z)));
      before = all_append from (token_at at p.0 p.1) r.front (head_before from at p.1 p.0 (omega (arith, r.above, size.some))) r.before;
      above = omega (arith, r.above);
      most = omega (arith, r.most, length-drop p.1 z, size.most);
    }

choose : (at from : ℕ) (z : List ℕ) (v : Bool) → (at == from) ≡ v → ((at == from) ≡ false → StartsAt at z from) → StartsAt at z from
choose at from z true is later = starts_here at from z (eqb-true at from is)
choose at from z false other later = later other

starts : (n at : ℕ) (z : List ℕ) (from : ℕ) → length z ≤ n → begins_token (tokens_from 0 at z) from ≡ true → StartsAt at z from
starts n at [] from le e = absurd (cc)
starts zero at (b ∷ z) from le e = absurd (omega arith)
starts (suc n) at (b ∷ z) from le e =
    let some : 0 < length (b ∷ z) = omega arith in
    let size : IsSized (b ∷ z) (piece (b ∷ z)).1 = sized (b ∷ z) some in
    let fewer : length (drop (piece (b ∷ z)).1 (b ∷ z)) ≤ n = omega (arith, length-drop (piece (b ∷ z)).1 (b ∷ z), size.some, le) in
    choose at from (b ∷ z) (at == from) refl (λ other.
    starts_later at from (b ∷ z) (piece (b ∷ z)) some refl size (starts n (at + (piece (b ∷ z)).1) (drop (piece (b ∷ z)).1 (b ∷ z)) from fewer
    (begins_later at (piece (b ∷ z)).1 from (piece (b ∷ z)).0 _ other (sym (ap (λ (ts : List Token). begins_token ts from) (tokens_from-step (b ∷ z) at (piece (b ∷ z)) some refl size.some)) ∙ e))))

pub record BeginsPart (text : List ℕ) (from to : ℕ) : Type 0 where
  pub most : from ≤ length text
  pub tokens : filter (is_within from to) (tokens_from 0 from (drop from text)) ≡ tokens_within text from to
  pub next : next_from to (length text) (tokens_from 0 from (drop from text)) ≡ next_from to (length text) (tokens_of text)

all_sooner : (a b : ℕ) → a ≤ b → (ts : List Token) → AllByRecursion (λ t. t.from < a) ts → AllByRecursion (λ t. t.from < b) ts
all_sooner a b le [] h = tt
all_sooner a b le (t ∷ ts) h = (omega (arith, h.0), all_sooner a b le ts h.1)

pub part_begins : (text : List ℕ) (from to : ℕ) → begins_token (tokens_of text) from ≡ true → from ≤ to → BeginsPart text from to
unfolding tokens_of
part_begins text from to e le =
    let r = starts (length text) 0 text from (omega arith) e in
    let plain : from - 0 ≡ from = omega arith in
    let split : tokens_from 0 0 text ≡ r.front ++ tokens_from 0 from (drop from text) = r.split ∙ ap (λ (m : ℕ). r.front ++ tokens_from 0 from (drop m text)) plain in
    record {
      most = omega (arith, r.most);
      tokens = sym (
          ap (filter (is_within from to)) split
          ∙ filter-append (is_within from to) r.front (tokens_from 0 from (drop from text))
          ∙ ap (λ (ts : List Token). ts ++ filter (is_within from to) (tokens_from 0 from (drop from text))) (none_before from to r.front r.before));
      next = sym (
          ap (next_from to (length text)) split
          ∙ next_passes to (length text) r.front (tokens_from 0 from (drop from text)) (all_sooner from to le r.front r.before));
    }

-- ---- the end of a loop over the pieces

-- the place is behind the part, or at the end of the text
abbrev pub IsPast : List ℕ → ℕ → ℕ → Type 0
IsPast text to at = (to ≤ at) ⊎ (length text ≤ at)

nothing_after : (text : List ℕ) (at : ℕ) → length text ≤ at → drop at text ≡ []
nothing_after text at le = grind (arith, common_steps)

pub part_done : (text : List ℕ) (from to at : ℕ) (found : List Token) → IsPast text to at
    → found ++ filter (is_within from to) (tokens_from 0 at (drop at text)) ≡ tokens_within text from to → found ≡ tokens_within text from to
part_done text from to at found (inl le) e =
    sym (append-nil found) ∙ ap (λ (ts : List Token). found ++ ts) (sym (part_ends from to at (drop at text) le)) ∙ e
part_done text from to at found (inr le) e =
    sym (append-nil found) ∙ ap (λ (y : List ℕ). found ++ filter (is_within from to) (tokens_from 0 at y)) (sym (nothing_after text at le)) ∙ e

pub next_done : (text : List ℕ) (to at : ℕ) → IsPast text to at
    → next_from 0 (length text) (tokens_from 0 at (drop at text)) ≡ next_from to (length text) (tokens_from 0 at (drop at text))
next_done text to at (inl le) = sym (next_ends to (length text) at (drop at text) le)
next_done text to at (inr le) =
    ap (λ (y : List ℕ). next_from 0 (length text) (tokens_from 0 at y)) (nothing_after text at le)
    ∙ sym (ap (λ (y : List ℕ). next_from to (length text) (tokens_from 0 at y)) (nothing_after text at le))
