-- The room of a disk in memory, over a write.
use Rattle.std.proofs.Common.{◌≡◌, ℕ, ◌+◌, ◌-◌, ◌<◌, ◌≤◌, List, length, set, get_or, sym, ◌∙◌, ap, subst, arith}
use Rattle.std.specs.Prelude.{Vec, All, vec_len, vec_capacity}
use Rattle.std.specs.declared.alloc.Global.{Global}
use Rattle.std.proofs.lemmas.List.Elements.{All-set, All-get_or}
use Rattle.wat_disk.specs.Bytes.{written}
use Rattle.wat_disk.specs.LeftProofs.{length-written}
use Rattle.wat_disk.specs.Memory.{bytes_at, bytes_needed}
use Rattle.wat_disk.proofs.Record.{bytes_at-read}

abbrev pub HasRoom : ℕ → Vec ℕ Global → Type 0
HasRoom spare held = vec_len held + spare ≤ vec_capacity held

-- a write that fits, to the file at i
module _ (files : List (Vec ℕ Global)) (i : ℕ) (held : Vec ℕ Global) (short : i < length files) (is : held ≡ get_or files i held) (spare : ℕ) (room : All (HasRoom spare) files)
    (at : ℕ) (bytes : List ℕ) (fits : bytes_needed (length (bytes_at files i)) at (length bytes) ≤ spare) where
  held_room : HasRoom spare held
  held_room = subst (HasRoom spare) (sym is) (All-get_or (HasRoom spare) files i held short room)

  held_length : length (bytes_at files i) ≡ vec_len held
  held_length = ap length (bytes_at-read files i held short is) ∙ sym held.ok.0

  pub write_fits : at + length bytes ≤ vec_capacity held
  write_fits = omega (arith, held_room, held_length, fits)

  pub room_after : (new : Vec ℕ Global) → new.items ≡ written held.items at bytes → vec_capacity held ≤ vec_capacity new
      → All (HasRoom (spare - bytes_needed (length (bytes_at files i)) at (length bytes))) (set files i new)
  room_after new wrote more =
      let left = spare - bytes_needed (length (bytes_at files i)) at (length bytes) in
      let size : vec_len new ≡ length (written held.items at bytes) = new.ok.0 ∙ ap length wrote in
      let here : HasRoom left new = omega (arith, held_room, held_length, fits, size, length-written held.items bytes at, held.ok.0, more) in
      All-set (HasRoom left) files i new here (λ k d below. let had = room k d below in omega (arith, had))
