use Rattle.std.proofs.Common.{ℕ, rules, arith, length-drop}
use Rattle.std.proofs.lemmas.List.{take_rest}
use Rattle.std.proofs.Math.Seq.{take-add}
use Rattle.std.proofs.KnownBytes.{Appends-trans}
use Rattle.wat_io.proofs.sink.write_all.Goals as goal

pub loop-from-preserved : goal.loop-from-preserved
loop-from-preserved g c =
    let count = rw take_rest at c.in_ok-from.ensures.count.1 in
    let taken = rw take_rest at c.in_ok-from.ensures.taken in
    record {
      within = omega (arith, count, length-drop {A = ℕ});
      taken = rw take-add (Appends-trans _ _ _ _ _ c.loop-from.invariant.taken taken);
      kept = search rules;
    }
