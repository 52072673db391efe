use Rattle.std.proofs.Common.{◌≡◌, ◌++◌, ◌*◌, ◌+◌, ◌-◌, ◌/◌, length, take, drop, ap, arith}
use Rattle.wat_restore.specs.Restored.{images_from}
use Rattle.wat_images.proofs.Images.{image_slice, twice_among, has_more, adds_all, on_true, on_false}
use Rattle.wat_images.proofs.reading.read_body.Goals as goal

pub returns-then-not-branch-clause-none : goal.returns-then-not-branch-clause-none
returns-then-not-branch-clause-none c before has =
    let body = c.args.body.now in
    let i = c.loop-i.i in
    let cut : 4100 * i + 4100 - 4100 * i ≡ 4100 = omega arith in
    let part = take (4100 * i + 4100 - 4100 * i) (drop (4100 * i) body) in
    let is = image_slice body part (4100 * i) (ap (λ n. take n (drop (4100 * i) body)) cut) in
    twice_among before i (length body / 4100) body part c.loop-i-test.true (omega arith) is
    (on_false c.in_ok-add_image.field-0 _ c.if-not-branch.true (c.in_ok-add_image.ensures.there (before ++ images_from i body) (c.loop-i.invariant.has before has)))

pub loop-i-preserved : goal.loop-i-preserved
loop-i-preserved c =
    let body = c.args.body.now in
    let i = c.loop-i.i in
    let cut : 4100 * i + 4100 - 4100 * i ≡ 4100 = omega arith in
    let part = take (4100 * i + 4100 - 4100 * i) (drop (4100 * i) body) in
    let is = image_slice body part (4100 * i) (ap (λ n. take n (drop (4100 * i) body)) cut) in
    record {
      has = λ before has. has_more _ before i body part is (on_true c.in_ok-add_image.field-0 _ c.if-not-branch.false (c.in_ok-add_image.ensures.added (before ++ images_from i body) (c.loop-i.invariant.has before has)));
      whole = λ are. c.in_ok-add_image.ensures.whole (c.loop-i.invariant.whole are);
    }

pub returns-clause-read : goal.returns-clause-read
returns-clause-read c before has =
    let body = c.args.body.now in
    let all : c.loop-i.i ≡ length body / 4100 = omega (arith, c.loop-i-test.false, c.loop-i.auto.i-end) in
    adds_all c.loop-i.images.entries before c.loop-i.i body all c.if-body-ne0.false (c.loop-i.invariant.has before has)
