use Rattle.std.proofs.Common.{◌+◌, ◌≤◌, ◌∙◌, ℕ, length, ap, subst, sym, arith}
use Rattle.std.specs.Prelude.{Vec, All, vec_len, vec_capacity}
use Rattle.std.specs.declared.alloc.Global.{Global}
use Rattle.std.proofs.lemmas.List.{length_push}
use Rattle.std.proofs.lemmas.List.Elements.{All-push}
use Rattle.wat_disk.proofs.Record.{copies_more, copies_all}
use Rattle.wat_disk.proofs.memory.eight_copies.Goals as goal

pub loop-i-preserved : goal.loop-i-preserved
loop-i-preserved c =
    let i = c.loop-i.invariant in
    let held = c.in_ok-copy_with_room.field-0 in
    let HasRoom : Vec ℕ Global → Type 0 = λ copy. vec_len copy + c.args.room ≤ vec_capacity copy in
    record {
      count = ap length c.in_ok-push.ensures.items ∙ length_push c.loop-i.copies.items held ∙ ap (λ (n : ℕ). n + 1) i.count;
      same = copies_more c.args.files.now c.loop-i.copies.items c.push.new.self.items held c.loop-i.i c.in_ok-push.ensures.items i.count (c.in_ok-copy_with_room.ensures.same ∙ c.bytes_of.ensures) i.same;
      room = subst (All HasRoom) (sym c.in_ok-push.ensures.items) (All-push HasRoom c.loop-i.copies.items held i.room c.in_ok-copy_with_room.ensures.room);
    }

pub returns-clause-same : goal.returns-clause-same
returns-clause-same c =
    let i = c.loop-i.invariant in
    copies_all c.args.files.now c.loop-i.copies.items c.requires (omega arith) (λ f below. i.same f (omega arith))
