use Rattle.std.proofs.Common.{◌≡◌, ◌+◌, ◌<◌, ◌≤◌, ℕ, length}
use Rattle.std.specs.Prelude.{Vec, All, vec_len, vec_capacity}
use Rattle.std.specs.declared.alloc.Global.{Global}
use Rattle.wat_disk.specs.Memory.{bytes_at}
use Rattle.wat_disk.proofs.memory.eight_copies.Given as goal

abbrev pub invariant-loop-i : goal.invariant-loop-i
invariant-loop-i l = record {
  count : length l.copies.items ≡ l.i;
  same : (f : ℕ) → f < l.i → bytes_at l.copies.items f ≡ bytes_at l.files f;
  room : All (λ (held : Vec ℕ Global). vec_len held + l.room ≤ vec_capacity held) l.copies.items;
}
