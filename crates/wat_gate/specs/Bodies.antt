-- What the bytes of a gate log stand for: a relation of bytes to bodies, and then the function that finds the bodies.
use Rattle.std.specs.Prelude.{◌≡◌, ◌≢◌, ◌⊎◌, ℕ, zero, suc, ◌+◌, ◌<◌, ◌≤◌, ◌==◌, ◌&&◌, nat_le, nat_lt, List, [], ◌∷◌, ◌++◌, length, take, drop, sum_by, slice_index, Option, Some, None, if◌then◌else◌}
use Rattle.std.specs.Option.{option_map_or}
use Rattle.std.specs.Int.{w32, from_be_bytes}

-- the byte of an open gate; any other byte is a closed one
abbrev pub open_gate : ℕ
open_gate = 0xA5

-- The bytes are a frame and a rest: an open gate, four bytes that tell a length from 1 to 2,000,000, and a body so long.
pub record IsFrame (body rest content : List ℕ) : Type 0 where
  pub size : List ℕ
  pub is : content ≡ open_gate ∷ (size ++ body ++ rest)
  pub four : length size ≡ 4
  pub told : from_be_bytes w32 size ≡ length body
  pub some : 1 ≤ length body
  pub at_most : length body ≤ 2000000

-- a closed gate, and bytes that mean nothing
pub record EndsLog (content : List ℕ) : Type 0 where
  pub gate : ℕ
  pub rest : List ℕ
  pub closed : gate ≢ open_gate
  pub is : content ≡ gate ∷ rest

-- The bytes are a gate log of these bodies: a frame for each of them, and then a closed gate.
abbrev pub IsGateLog : List (List ℕ) → List ℕ → Type 0
IsGateLog [] content = EndsLog content
IsGateLog (body ∷ later) content = (rest : List ℕ) × IsFrame body rest content × IsGateLog later rest

-- the body behind an open gate: four bytes tell its length, and the next gate stands behind it in the file
unfoldable pub body_of : List ℕ → Option (List ℕ)
body_of behind =
    let size = from_be_bytes w32 (take 4 behind) in
    if nat_le 1 size && nat_le size 2000000 && nat_lt (4 + size) (length behind) then Some (take size (drop 4 behind)) else None

-- the bodies from the gate behind so many bytes on, up to the first gate that is closed or broken
abbrev pub bodies_behind : ℕ → List ℕ → List (List ℕ)
bodies_behind skipped [] = []
bodies_behind (suc skipped) (byte ∷ rest) = bodies_behind skipped rest
bodies_behind zero (gate ∷ rest) =
    if gate == open_gate then option_map_or (λ body. body ∷ bodies_behind (4 + length body) rest) (body_of rest) [] else []

unfoldable pub bodies : List ℕ → List (List ℕ)
bodies content = bodies_behind 0 content

-- how many bytes the frames of these bodies take: a gate, a length and the body
abbrev pub frames_len : List (List ℕ) → ℕ
frames_len all = sum_by (λ body. 5 + length body) all

-- the place of gate i
abbrev pub gate_place : List ℕ → ℕ → ℕ
gate_place content i = frames_len (take i (bodies content))

-- the place of the gate behind the last body
abbrev pub end_of : List ℕ → ℕ
end_of content = frames_len (bodies content)

-- the gate behind the last body is in the file, and closed
pub record IsWhole (content : List ℕ) : Type 0 where
  pub there : end_of content < length content
  pub closed : slice_index content (end_of content) ≢ open_gate

-- The log is broken at this gate: it isn't in the file, or it is open and no frame follows it.
pub record IsBrokenAt (content : List ℕ) (at : ℕ) : Type 0 where
  pub place : at ≡ end_of content
  pub broken : (length content ≤ at) ⊎ (slice_index content at ≡ open_gate)

-- the frames of old, with this one more or without it
pub record KeepsOrAdds (body : List ℕ) (old new : List ℕ) : Type 0 where
  pub whole : IsWhole new
  pub either : (bodies new ≡ bodies old) ⊎ (bodies new ≡ bodies old ++ body ∷ [])

-- the frames of old, or none
pub record KeepsOrClears (old new : List ℕ) : Type 0 where
  pub whole : IsWhole new
  pub either : (bodies new ≡ bodies old) ⊎ (bodies new ≡ [])

-- So many frames stand before this place, and a gate stands there.
pub record IsAtGate (content : List ℕ) (at i : ℕ) : Type 0 where
  pub count : i ≤ length (bodies content)
  pub place : at ≡ gate_place content i
