use Rattle.std.proofs.Common.{◌==◌, sym}
use Rattle.wat_schema.proofs.Once.{comes_again, comes_once, key_next}
use Rattle.wat_schema.proofs.rules.repeats_number.Goals as goal

pub returns-then-not-fresh : goal.returns-then-not-fresh
returns-then-not-fresh c =
    sym (comes_again ◌==◌ c.args.numbers.now c.loop-number.number-index 0 c.loop-number-test.true c.loop-number.before.keys c.loop-number.invariant.before c.in_ok-fresh.fresh c.in_ok-fresh.ensures.added c.if-not-fresh.true)

pub loop-number-preserved : goal.loop-number-preserved
loop-number-preserved c = record {
  before = key_next ◌==◌ c.args.numbers.now c.loop-number.number-index 0 c.loop-number-test.true c.loop-number.before.keys c.loop-number.invariant.before c.in_ok-fresh.fresh c.in_ok-fresh.ensures.added _ c.in_ok-fresh.ensures.keys c.if-not-fresh.false;
  once = comes_once ◌==◌ c.args.numbers.now c.loop-number.number-index 0 c.loop-number-test.true c.loop-number.before.keys c.loop-number.invariant.before c.in_ok-fresh.fresh c.in_ok-fresh.ensures.added c.if-not-fresh.false c.loop-number.invariant.once;
}
