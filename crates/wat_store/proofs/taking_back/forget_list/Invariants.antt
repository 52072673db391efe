use Rattle.std.proofs.Common.{◌≡◌, ◌+◌, ℕ, length}
use Rattle.wat_book.specs.Book.{Book}
use Rattle.wat_replay.specs.State.{State}
use Rattle.wat_recover.proofs.Stepping.{left}
use Rattle.wat_objects.specs.Objects.{pages_of, HoldsOn}
use Rattle.wat_store.proofs.taking_back.forget_list.Given as goal

abbrev pub invariant-loop-i : goal.invariant-loop-i
invariant-loop-i l = record {
  stands : (book : Book) (held : State) → HoldsOn book l.fn.objects held → (n : ℕ) → n + l._i ≡ length (held.lists l.conn) → HoldsOn book l.objects (left held l.conn n);
  pages : pages_of l.objects ≡ pages_of l.fn.objects;
}
