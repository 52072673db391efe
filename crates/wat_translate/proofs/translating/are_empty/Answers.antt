use Rattle.std.proofs.Common.{◌≡◌, ◌<◌, ◌⊎◌, ℕ, List, [], refl, sym, ap, ◌∙◌, subst, inl, inr, arith}
use Rattle.std.specs.Prelude.{IsTrue}
use Rattle.wat_disk.proofs.Stops.{none_same, both_same}
use Rattle.wat_images.proofs.Writing.{no_cause, caused}
use Rattle.wat_translate.proofs.Files.{one_more}
use Rattle.wat_translate.proofs.translating.are_empty.Goals as goal

pub loop-file-init : goal.loop-file-init
loop-file-init g c = record {
  empty = λ tells file below. absurd (omega (arith, below));
  content = λ f. refl;
  stops = none_same (g.D.Disk.told c.args.disk.now);
  cause = no_cause _;
}

pub returns-in-Ok-false-clause-stops : goal.returns-in-Ok-false-clause-stops
returns-in-Ok-false-clause-stops g c = both_same _ _ _ c.loop-file.invariant.stops c.is_empty.ensures.stops

pub returns-in-Err-clause-stops : goal.returns-in-Err-clause-stops
returns-in-Err-clause-stops g c = both_same _ _ _ c.loop-file.invariant.stops c.is_empty.ensures.stops

pub loop-file-preserved : goal.loop-file-preserved
loop-file-preserved g c =
    let i = c.loop-file.invariant in
    record {
      empty = λ tells. one_more (g.D.Disk.told c.args.disk.now).content (g.D.Disk.told c.loop-file.disk).content c.loop-file.file i.content (i.empty tells) c.in-Ok-true.field-0 c.in-Ok-true.field-0-test (c.in-Ok-true.ensures.empty tells);
      content = λ f. c.is_empty.ensures.content f ∙ i.content f;
      stops = both_same _ _ _ i.stops c.is_empty.ensures.stops;
      cause = caused _ _ _ _ i.cause c.is_empty.ensures.cause (λ e. let ok = c.in-Ok-true.is in cc);
    }
