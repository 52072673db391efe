-- What the calls of a gate log make of the bytes of its file.
use Rattle.std.specs.Prelude.{ℕ, ◌+◌, List, [], ◌∷◌}
use Rattle.wat_disk.specs.Bytes.{written}
use Rattle.wat_gate.specs.Bodies.{open_gate, end_of}
use Rattle.wat_gate.specs.Frame.{framed}

-- After an append: the frame, with a closed gate behind it, is written behind the closed gate, and that gate is opened.
abbrev pub appended : List ℕ → List ℕ → List ℕ
appended content body = written (written content (end_of content + 1) (framed body)) (end_of content) (open_gate ∷ [])

-- After a clear of a log that has frames: the first gate is closed.
abbrev pub cleared : List ℕ → List ℕ
cleared content = written content 0 (0 ∷ [])
