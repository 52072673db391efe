use Rattle.std.proofs.Common.{◌∙◌, [], ℕ, length, drop, refl, ap}
use Rattle.std.specs.Prelude.{Vec}
use Rattle.std.specs.declared.alloc.Global.{Global}
use Rattle.wat_disk.specs.declared.memory.Entry.{Entry}
use Rattle.wat_disk.specs.declared.memory.Deed.TheVariants.{Write}
use Rattle.wat_disk.specs.Memory.{bytes_at, acts_until}
use Rattle.wat_disk.proofs.Picked.{replays_at, skips_at, replayed_all}
use Rattle.wat_disk.proofs.replay.left_at.Goals as goal
use Rattle.wat_disk.proofs.replay.left_at.Goals.{then-entry-moment+in_ok-replay_entry, else-entry-moment}

-- what a list has past its end
abbrev none : Entry
none = record { moment = 0; file = 0; deed = Write 0 0 }

pub loop-entry-init : goal.loop-entry-init
loop-entry-init c = record {
  acts = [];
  rest = refl;
  kept = c.requires.kept;
  content_is = c.in_ok-content.ensures.same;
  left_is = c.in_ok-left.ensures.same;
  content_eight = c.in_ok-content.ensures.eight;
  left_eight = c.in_ok-left.ensures.eight;
}

pub loop-entry-preserved : goal.loop-entry-preserved
loop-entry-preserved c =
    let all = acts_until c.args.moment [] c.args.entries.now c.args.kept.now in
    let behind_is = c.split_at.ensures.back ∙ ap (λ (k : ℕ). drop k c.loop-entry.rest.now) c.count.ensures in
    elim c.if-entry-moment.branch [
      | then-entry-moment+in_ok-replay_entry w ↦
          replays_at c.args.moment c.args.pick c.args.base.now c.loop-entry.content.items c.loop-entry.left.items c.args.entries.now c.loop-entry.entry-index none c.loop-entry-test.true
          c.loop-entry.rest.now c.split_at.result.1.now all c.loop-entry.invariant behind_is
          c.if-entry-moment.content.items c.if-entry-moment.left.items w.if-entry-moment.true
          (λ f. ap (λ (v : Vec (Vec ℕ Global) Global). bytes_at v.items f) w.content-is ∙ w.in_ok-replay_entry.ensures.content f)
          (λ f. ap (λ (v : Vec (Vec ℕ Global) Global). bytes_at v.items f) w.left-is ∙ w.in_ok-replay_entry.ensures.left f)
          (ap (λ (v : Vec (Vec ℕ Global) Global). length v.items) w.content-is ∙ w.replay_entry.ensures.content_eight)
          (ap (λ (v : Vec (Vec ℕ Global) Global). length v.items) w.left-is ∙ w.replay_entry.ensures.left_eight)
      | else-entry-moment w ↦
          skips_at c.args.moment c.args.pick c.args.base.now c.loop-entry.content.items c.loop-entry.left.items c.args.entries.now c.loop-entry.entry-index none c.loop-entry-test.true
          c.loop-entry.rest.now c.split_at.result.1.now all c.loop-entry.invariant behind_is
          c.if-entry-moment.content.items c.if-entry-moment.left.items
          (ap (λ (v : Vec (Vec ℕ Global) Global). v.items) w.content-is) (ap (λ (v : Vec (Vec ℕ Global) Global). v.items) w.left-is) w.if-entry-moment.false
    ]

pub returns-clause-left : goal.returns-clause-left
returns-clause-left c =
    replayed_all c.args.moment c.args.pick c.args.base.now c.loop-entry.content.items c.loop-entry.left.items c.args.entries.now c.loop-entry.entry-index c.loop-entry.rest.now
    (acts_until c.args.moment [] c.args.entries.now c.args.kept.now) c.loop-entry-test.false c.loop-entry.invariant
