-- Numbers that are drawn one after the other, each from the one before it.
use Rattle.std.specs.Prelude.{◌≡◌, ℕ, zero, suc, ◌+◌, ◌*◌, ◌/◌, ◌%◌, ◌^◌, List, [], ◌∷◌}

-- what is drawn at a number, and the number at which is drawn next
abbrev pub Drawn : Type 0 → Type 0
Drawn A = ℕ → A × ℕ

-- what is drawn at x is this value, and y follows
abbrev pub Gives : {A : Type 0} → Drawn A → ℕ → A → ℕ → Type 0
Gives d x value y = d x ≡ (value, y)

-- a value for which nothing is drawn
abbrev pub given : {A : Type 0} → A → Drawn A
given value = λ x. (value, x)

infixl 10 ◌>>=◌
-- what is drawn first, and then what is drawn for it
abbrev pub ◌>>=◌ : {A B : Type 0} → Drawn A → (A → Drawn B) → Drawn B
d >>= f = λ x. f (d x).0 (d x).1

-- the number that follows a number
abbrev pub following : ℕ → ℕ
following x = (x * 6364136223846793005 + 1442695040888963407) % 2 ^ 64

-- a number below another one, from the upper bits of the number that follows
unfoldable pub draw : ℕ → Drawn ℕ
draw below = λ x. (following x / 2 ^ 33 % below, following x)

-- so many, one after the other
abbrev pub in_a_row : {A : Type 0} → ℕ → Drawn A → Drawn (List A)
in_a_row zero d = given []
in_a_row (suc n) d = do
  first ← d
  others ← in_a_row n d
  given (first ∷ others)

-- one for each of the numbers, in their order
abbrev pub for_each : {A : Type 0} → List ℕ → (ℕ → Drawn A) → Drawn (List A)
for_each [] f = given []
for_each (n ∷ ns) f = do
  first ← f n
  others ← for_each ns f
  given (first ∷ others)
