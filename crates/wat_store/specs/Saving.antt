-- What is asked of a header that is saved.
use Rattle.std.specs.Prelude.{◌≡◌, ℕ, ◌<◌, ◌^◌, length}
use Rattle.wat_disk.specs.Disk.{Told}
use Rattle.wat_gate.specs.Bodies.{bodies, end_of}
use Rattle.wat_restore.specs.Head.{Head}
use Rattle.wat_pages.specs.declared.header.Header.{Header}

-- The header counts all frames of the log, and has the place of the gate behind them.
pub record CountsLog (told : Told) (header : Header) : Type 0 where
  pub frames : header.frames ≡ length (bodies (told.content 2))
  pub place : header.place ≡ end_of (told.content 2)

-- The numbers of a header fit their fields.
pub record Fits (h : Head) : Type 0 where
  pub limit : h.limit < 2 ^ 32
  pub count : h.count < 2 ^ 32
  pub frames : h.frames < 2 ^ 64
  pub place : h.place < 2 ^ 64
  pub catalog : h.catalog < 2 ^ 32
  pub rollback : h.rollback < 2 ^ 32
  pub free : h.free < 2 ^ 32
  pub next_table : h.next_table < 2 ^ 32
