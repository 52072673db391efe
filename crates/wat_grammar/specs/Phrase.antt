-- Phrases of a grammar over any tokens, with the trees that they give.
use Rattle.std.specs.Prelude.{◌≡◌, ◌==◌, ℕ, zero, suc, Bool, true, false, ◌&&◌, ◌||◌, if◌then◌else◌, List, [], ◌∷◌, ◌++◌, length, Option, Some, None, Result, Ok, Err, ◌⊎◌}
use Rattle.std.specs.List.{list_any, AllByRecursion}

-- K is the kinds of tokens, X the tokens, N the names of the phrases that nest, and E the trees that those give.
pub data Phrase (K X N E : Type 0) : Type 0 → Type 1 where
  -- one token of the kind, which gives what the function says
  token : {A : Type 0} → K → (X → Option A) → Phrase K X N E A
  -- no token
  empty : {A : Type 0} → A → Phrase K X N E A
  -- the first, and then the second
  seq : {A B : Type 0} → Phrase K X N E A → Phrase K X N E B → Phrase K X N E (A × B)
  -- the first or the second
  or : {A : Type 0} → Phrase K X N E A → Phrase K X N E A → Phrase K X N E A
  -- the phrase any number of times
  many : {A : Type 0} → Phrase K X N E A → Phrase K X N E (List A)
  -- the phrase, which gives what the function makes of its tree
  map : {A B : Type 0} → (A → B) → Phrase K X N E A → Phrase K X N E B
  -- the phrase, which opens a level of nesting
  level : {A : Type 0} → Phrase K X N E A → Phrase K X N E A
  -- the phrase of that name, inside the level that was opened
  nested : N → Phrase K X N E E

pub record Grammar (K X N E : Type 0) : Type 1 where
  -- whether some text has the token
  pub IsToken : X → Type 0
  pub kind : X → K
  pub same : K → K → Bool
  -- the phrases that nest
  pub rule : N → Phrase K X N E E
  -- the kinds of token with which they may begin, and with which they may go on where they could end
  pub entry : N → List K
  pub exit : N → List K

-- ---- what a phrase derives

-- a list of tokens in any number of parts, and what each part gives
abbrev pub Repeats : {X A : Type 0} → (List X → A → Type 0) → List X → List A → Type 0
Repeats {X} P ts [] = ts ≡ []
Repeats {X} P ts (a ∷ more) = (us : List X) × (vs : List X) × (ts ≡ us ++ vs) × P us a × Repeats P vs more

-- The phrase derives these tokens, and gives this tree. `levels` is how many levels may still be opened,
-- and `inside` what is derived inside one.
abbrev pub Derives : {K X N E A : Type 0} → Grammar K X N E → (levels : ℕ) (inside : N → List X → E → Type 0) → Phrase K X N E A → List X → A → Type 0
Derives {K} {X} g levels inside (token k f) ts a = (x : X) × (ts ≡ x ∷ []) × (g.kind x ≡ k) × (f x ≡ Some a)
Derives {K} {X} g levels inside (empty a) ts b = (ts ≡ []) × (b ≡ a)
Derives {K} {X} g levels inside (seq p q) ts a = (us : List X) × (vs : List X) × (ts ≡ us ++ vs) × Derives g levels inside p us a.0 × Derives g levels inside q vs a.1
Derives {K} {X} g levels inside (or p q) ts a = Derives g levels inside p ts a ⊎ Derives g levels inside q ts a
Derives {K} {X} g levels inside (many p) ts xs = Repeats (Derives g levels inside p) ts xs
Derives {K} {X} g levels inside (map {A} f p) ts b = (a : A) × Derives g levels inside p ts a × (b ≡ f a)
Derives {K} {X} g levels inside (level p) ts a = ((levels == 0) ≡ false) × Derives g levels inside p ts a
Derives {K} {X} g levels inside (nested n) ts e = inside n ts e

abbrev pub DerivesInside : {K X N E : Type 0} → Grammar K X N E → ℕ → N → List X → E → Type 0
DerivesInside g zero n ts e = ⊥
DerivesInside g (suc levels) n ts e = Derives g levels (DerivesInside g levels) (g.rule n) ts e

-- The phrase derives these tokens with at most so many levels, and gives this tree.
abbrev pub DerivesWithin : {K X N E A : Type 0} → Grammar K X N E → ℕ → Phrase K X N E A → List X → A → Type 0
DerivesWithin g levels = Derives g levels (DerivesInside g levels)

-- ---- how a phrase is read from the left, with one token seen ahead

-- a tree and the tokens after it, or the tokens from the first that doesn't fit on
abbrev pub Outcome : Type 0 → Type 0 → Type 0
Outcome X A = Result (A × List X) (List X)

infixl 10 ◌>>=◌
abbrev pub ◌>>=◌ : {X A B : Type 0} → Outcome X A → (A → List X → Outcome X B) → Outcome X B
(Ok p) >>= f = f p.0 p.1
(Err e) >>= f = Err e

abbrev pub has : {K X N E : Type 0} → Grammar K X N E → List K → K → Bool
has g ks k = list_any (g.same k) ks

-- whether the next token is one of these
abbrev pub sees : {K X N E : Type 0} → Grammar K X N E → List K → List X → Bool
sees g ks [] = false
sees g ks (x ∷ ts) = has g ks (g.kind x)

abbrev pub can_be_empty : {K X N E A : Type 0} → Phrase K X N E A → Bool
can_be_empty (token k f) = false
can_be_empty (empty a) = true
can_be_empty (seq p q) = can_be_empty p && can_be_empty q
can_be_empty (or p q) = can_be_empty p || can_be_empty q
can_be_empty (many p) = true
can_be_empty (map f p) = can_be_empty p
can_be_empty (level p) = can_be_empty p
can_be_empty (nested n) = false

-- the kinds of token with which the phrase may begin
abbrev pub first_kinds : {K X N E A : Type 0} → Grammar K X N E → Phrase K X N E A → List K
first_kinds g (token k f) = k ∷ []
first_kinds g (empty a) = []
first_kinds g (seq p q) = if can_be_empty p then first_kinds g p ++ first_kinds g q else first_kinds g p
first_kinds g (or p q) = first_kinds g p ++ first_kinds g q
first_kinds g (many p) = first_kinds g p
first_kinds g (map f p) = first_kinds g p
first_kinds g (level p) = first_kinds g p
first_kinds g (nested n) = g.entry n

abbrev pub gives : {X A : Type 0} → X → List X → Option A → Outcome X A
gives x ts (Some a) = Ok (a, ts)
gives x ts None = Err (x ∷ ts)

abbrev pub read_token : {K X N E A : Type 0} → Grammar K X N E → K → (X → Option A) → List X → Outcome X A
read_token g k f [] = Err []
read_token g k f (x ∷ ts) = if g.same (g.kind x) k then gives x ts (f x) else Err (x ∷ ts)

-- The number bounds the turns, and each turn takes a token, so the count of tokens is enough.
abbrev pub read_many : {K X N E A : Type 0} → Grammar K X N E → List K → (List X → Outcome X A) → ℕ → List X → Outcome X (List A)
read_many g ks p zero ts = Ok ([], ts)
read_many g ks p (suc n) ts = if sees g ks ts then p ts >>= (λ a us. read_many g ks p n us >>= (λ xs vs. Ok (a ∷ xs, vs))) else Ok ([], ts)

abbrev pub read : {K X N E A : Type 0} → Grammar K X N E → (levels : ℕ) (inside : N → List X → Outcome X E) → Phrase K X N E A → List X → Outcome X A
read g levels inside (token k f) ts = read_token g k f ts
read g levels inside (empty a) ts = Ok (a, ts)
read g levels inside (seq p q) ts = read g levels inside p ts >>= (λ a us. read g levels inside q us >>= (λ b vs. Ok ((a, b), vs)))
read g levels inside (or p q) ts = if sees g (first_kinds g p) ts then read g levels inside p ts else read g levels inside q ts
read g levels inside (many p) ts = read_many g (first_kinds g p) (read g levels inside p) (length ts) ts
read g levels inside (map f p) ts = read g levels inside p ts >>= (λ a us. Ok (f a, us))
read g levels inside (level p) ts = if levels == 0 then Err ts else read g levels inside p ts
read g levels inside (nested n) ts = inside n ts

abbrev pub read_inside : {K X N E : Type 0} → Grammar K X N E → ℕ → N → List X → Outcome X E
read_inside g zero n ts = Err ts
read_inside g (suc levels) n ts = read g levels (read_inside g levels) (g.rule n) ts

abbrev pub read_within : {K X N E A : Type 0} → Grammar K X N E → ℕ → Phrase K X N E A → List X → Outcome X A
read_within g levels = read g levels (read_inside g levels)

-- the whole of the tokens
abbrev pub whole : {X A : Type 0} → Outcome X A → Result A (List X)
whole (Ok (a, [])) = Ok a
whole (Ok (a, x ∷ ts)) = Err (x ∷ ts)
whole (Err r) = Err r

-- ---- the first fault

-- Some tokens that begin so are derived, and some text has each of those that follow.
abbrev pub IsPrefix : {K X N E A : Type 0} → Grammar K X N E → ℕ → Phrase K X N E A → List X → Type 0
IsPrefix {K} {X} {N} {E} {A} g levels p us = (more : List X) × (a : A) × AllByRecursion g.IsToken more × DerivesWithin g levels p (us ++ more) a

-- With the next token no tokens at all that begin so are derived; at the end they are not derived themselves.
abbrev pub IsNoMore : {K X N E A : Type 0} → Grammar K X N E → ℕ → Phrase K X N E A → List X → List X → Type 0
IsNoMore {K} {X} {N} {E} {A} g levels p us [] = (a : A) → DerivesWithin g levels p us a → ⊥
IsNoMore {K} {X} {N} {E} {A} g levels p us (x ∷ rest) = (more : List X) (a : A) → DerivesWithin g levels p (us ++ x ∷ more) a → ⊥

-- The tokens go wrong where `rest` begins: those before are a prefix, and with the next they begin nothing.
abbrev pub FailsAt : {K X N E A : Type 0} → Grammar K X N E → ℕ → Phrase K X N E A → List X → List X → Type 0
FailsAt {K} {X} g levels p ts rest = (us : List X) × (ts ≡ us ++ rest) × IsPrefix g levels p us × IsNoMore g levels p us rest
