-- What stands at one gate of a log: the steps by which a log is opened.
use Rattle.std.specs.Prelude.{◌≡◌, ◌≢◌, ◌⊎◌, ℕ, ◌+◌, ◌<◌, ◌≤◌, List, length, drop, slice_index, Some, None}
use Rattle.wat_gate.specs.Bodies.{open_gate, body_of}

-- a closed gate
pub record IsClosedGate (content : List ℕ) (at : ℕ) : Type 0 where
  pub there : at < length content
  pub closed : slice_index content at ≢ open_gate

-- an open gate, with a frame and a next gate behind it
pub record IsOpenGate (content : List ℕ) (at next : ℕ) : Type 0 where
  pub there : at < length content
  pub opened : slice_index content at ≡ open_gate
  pub body : List ℕ
  pub frame : body_of (drop (at + 1) content) ≡ Some body
  pub place : next ≡ at + 5 + length body

-- a gate that is not in the file, or that is open with no frame and no next gate behind it
abbrev pub IsBrokenGate : List ℕ → ℕ → Type 0
IsBrokenGate content at = (length content ≤ at) ⊎ ((slice_index content at ≡ open_gate) × (body_of (drop (at + 1) content) ≡ None))
