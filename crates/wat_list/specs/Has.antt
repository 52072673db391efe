-- Membership in lists, and lists with each item once.
use Rattle.std.specs.Prelude.{◌≡◌, ◌⊎◌, ◌↔◌, List, [], ◌∷◌}

-- the item is in the list
abbrev pub Has : {A : Type 0} → A → List A → Type 0
Has x [] = ⊥
Has x (y ∷ ys) = (y ≡ x) ⊎ Has x ys

-- no item stands twice
abbrev pub IsOnce : {A : Type 0} → List A → Type 0
IsOnce [] = Unit {0}
IsOnce (x ∷ xs) = (Has x xs → ⊥) × IsOnce xs

-- two lists have the same items
abbrev pub HasSame : {A : Type 0} → List A → List A → Type 0
HasSame {A} xs ys = (x : A) → Has x xs ↔ Has x ys
