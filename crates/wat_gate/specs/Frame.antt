-- A frame as it is written: the length of its body, the body, and a closed gate.
use Rattle.std.specs.Prelude.{◌≡◌, ℕ, ◌-◌, ◌≤◌, List, [], ◌∷◌, ◌++◌, length, take, drop}
use Rattle.std.specs.Int.{w32, to_be_bytes}

-- A frame as contracts see it: the bytes of its body, and how many more it takes without memory.
pub record FrameView : Type 0 where
  pub body : List ℕ
  pub spare : ℕ

abbrev pub framed : List ℕ → List ℕ
framed body = to_be_bytes w32 (length body) ++ body ++ 0 ∷ []

abbrev pub body_in : List ℕ → List ℕ
body_in bytes = take (length bytes - 5) (drop 4 bytes)

pub record IsFramed (bytes : List ℕ) : Type 0 where
  pub framed : bytes ≡ framed (body_in bytes)
  pub short : length (body_in bytes) ≤ 2000000
