-- A statement's span begins with a token, and ends no sooner.
use Rattle.std.proofs.Common.{◌≡◌, ◌==◌, ◌<◌, ◌≤◌, ℕ, zero, suc, Bool, true, false, ◌||◌, cond, List, [], ◌∷◌, length, slice_index_or, refl, ap, subst, arith}
use Rattle.std.proofs.lemmas.Bool.Decides.{nat_tests}
use Rattle.std.specs.List.{AllByRecursion, Contains, flat_map}
use Rattle.wat_lex.specs.declared.token.Token.{Token}
use Rattle.wat_lex.specs.Parts.{begins_token}
use Rattle.wat_lex.specs.Tokens.{tokens_of}
use Rattle.wat_lex.proofs.Parts.{IsBehind, AreInOrder, tokens_in_order}
use Rattle.wat_parse.specs.declared.script.Span.{Span}
use Rattle.wat_parse.specs.Statements.{is_semicolon, before_first, groups, last_of, span_of, statements_of}

-- what holds of each token holds of each in the groups
all_before_first : (P : Token → Type 0) (t : Token) (gs : List (List Token)) → P t → AllByRecursion (AllByRecursion P) gs → AllByRecursion (AllByRecursion P) (before_first t gs)
all_before_first P t [] h k = ((h, tt), tt)
all_before_first P t (g ∷ gs) h k = ((h, k.0), k.1)

all_one_more : (P : Token → Type 0) (text : List ℕ) (t : Token) (ts : List Token) (v : Bool) → P t → AllByRecursion (AllByRecursion P) (groups text ts)
    → AllByRecursion (AllByRecursion P) (cond v ([] ∷ groups text ts) (before_first t (groups text ts)))
all_one_more P text t ts true h k = (tt, k)
all_one_more P text t ts false h k = all_before_first P t (groups text ts) h k

all_grouped : (P : Token → Type 0) (text : List ℕ) (ts : List Token) → AllByRecursion P ts → AllByRecursion (AllByRecursion P) (groups text ts)
all_grouped P text [] h = (tt, tt)
all_grouped P text (t ∷ ts) h = all_one_more P text t ts (is_semicolon text t) h.0 (all_grouped P text ts h.1)

-- ---- each of the tokens begins where it begins

or_so : (v w : Bool) → w ≡ true → (v || w) ≡ true
or_so true w e = refl
or_so false w e = e

all_begin_more : (u : Token) (all ts : List Token) → AllByRecursion (λ t. begins_token all t.from ≡ true) ts → AllByRecursion (λ t. begins_token (u ∷ all) t.from ≡ true) ts
all_begin_more u all [] h = tt
all_begin_more u all (t ∷ ts) h = (or_so (u.from == t.from) (begins_token all t.from) h.0, all_begin_more u all ts h.1)

itself : (n : ℕ) → (n == n) ≡ true
itself n = grind (arith, nat_tests)

begins_itself : (t : Token) (ts : List Token) → begins_token (t ∷ ts) t.from ≡ true
begins_itself t ts = ap (λ (v : Bool). v || begins_token ts t.from) (itself t.from)

all_begin : (ts : List Token) → AllByRecursion (λ t. begins_token ts t.from ≡ true) ts
all_begin [] = tt
all_begin (t ∷ ts) = (begins_itself t ts, all_begin_more t ts ts (all_begin ts))

-- ---- the first token of a group begins before its last ends

abbrev IsOrdered : List Token → Type 0
IsOrdered [] = Unit {0}
IsOrdered (t ∷ ts) = t.from ≤ (last_of t ts).to

last_behind : (a : ℕ) (t : Token) (ts : List Token) → a ≤ t.to → AllByRecursion (IsBehind a) ts → a ≤ (last_of t ts).to
last_behind a t [] le h = le
last_behind a t (u ∷ us) le h = last_behind a u us (omega (arith, h.0.0, h.0.1)) h.1

ordered_before_first : (t : Token) (gs : List (List Token)) → t.from < t.to → AllByRecursion (AllByRecursion (IsBehind t.to)) gs → AllByRecursion IsOrdered gs
    → AllByRecursion IsOrdered (before_first t gs)
ordered_before_first t [] lt h k = (omega arith, tt)
ordered_before_first t (g ∷ gs) lt h k = (omega (arith, last_behind t.to t g (omega arith) h.0), k.1)

ordered_one_more : (text : List ℕ) (t : Token) (ts : List Token) (v : Bool) → t.from < t.to → AllByRecursion (AllByRecursion (IsBehind t.to)) (groups text ts)
    → AllByRecursion IsOrdered (groups text ts) → AllByRecursion IsOrdered (cond v ([] ∷ groups text ts) (before_first t (groups text ts)))
ordered_one_more text t ts true lt h k = (tt, k)
ordered_one_more text t ts false lt h k = ordered_before_first t (groups text ts) lt h k

ordered_groups : (text : List ℕ) (ts : List Token) → AreInOrder ts → AllByRecursion IsOrdered (groups text ts)
ordered_groups text [] h = (tt, tt)
ordered_groups text (t ∷ ts) h =
    ordered_one_more text t ts (is_semicolon text t) h.0 (all_grouped (IsBehind t.to) text ts h.1.0) (ordered_groups text ts h.1.1)

-- ---- the spans

pub record IsSpan (text : List ℕ) (span : Span) : Type 0 where
  pub begins : begins_token (tokens_of text) span.from ≡ true
  pub ordered : span.from ≤ span.to

all_spans : (text : List ℕ) (gs : List (List Token)) → AllByRecursion (AllByRecursion (λ t. begins_token (tokens_of text) t.from ≡ true)) gs → AllByRecursion IsOrdered gs
    → AllByRecursion (IsSpan text) (flat_map span_of gs)
all_spans text [] h k = tt
all_spans text ([] ∷ gs) h k = all_spans text gs h.1 k.1
all_spans text ((t ∷ g) ∷ gs) h k = (record { begins = h.0.0; ordered = k.0 }, all_spans text gs h.1 k.1)

are_spans : (text : List ℕ) → AllByRecursion (IsSpan text) (statements_of text)
unfolding statements_of
are_spans text =
    all_spans text (groups text (tokens_of text)) (all_grouped (λ t. begins_token (tokens_of text) t.from ≡ true) text (tokens_of text) (all_begin (tokens_of text)))
    (ordered_groups text (tokens_of text) (tokens_in_order text))

each_at : {X : Type 0} (P : X → Type 0) (xs : List X) (x : X) (k : ℕ) → AllByRecursion P xs → k < length xs → slice_index_or xs k x ≡ x → P x
each_at P [] x k h lt e = absurd (omega arith)
each_at P (y ∷ ys) x zero h lt e = subst P e h.0
each_at P (y ∷ ys) x (suc k) h lt e = each_at P ys x k h.1 (omega arith) e

pub is_span : (text : List ℕ) (span : Span) → Contains (statements_of text) span → IsSpan text span
is_span text span k = each_at (IsSpan text) (statements_of text) span k.0 (are_spans text) k.1 k.2

-- ---- the span at an index is one of them

got_any : (xs : List Span) (n : ℕ) (d e : Span) → n < length xs → slice_index_or xs n d ≡ slice_index_or xs n e
got_any [] n d e lt = absurd (omega arith)
got_any (x ∷ xs) zero d e lt = refl
got_any (x ∷ xs) (suc n) d e lt = got_any xs n d e (omega arith)

pub got : (xs : List Span) (n : ℕ) (d : Span) → n < length xs → Contains xs (slice_index_or xs n d)
got xs n d lt = (n, lt, got_any xs n (slice_index_or xs n d) d lt)
