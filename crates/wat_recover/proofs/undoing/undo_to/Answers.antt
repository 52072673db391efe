use Rattle.std.proofs.Common.{◌≡◌, ◌+◌, ◌∙◌, suc, length, subst, arith}
use Rattle.wat_log_record.specs.declared.log_record.LogRecord.TheVariants.{UndoTo}
use Rattle.wat_replay.specs.Replay.{Applies}
use Rattle.wat_replay.proofs.Replaying.{stays_lawful}
use Rattle.wat_recover.proofs.Going.{went_on, went_still, went_fine, ok_not_err}
use Rattle.wat_recover.proofs.Stepping.{known, none_cut, cut_further, left_length}
use Rattle.wat_recover.proofs.undoing.undo_to.Goals as goal

pub loop-i-init : goal.loop-i-init
loop-i-init g c =
    let t = g.T.Target in
    record {
      undone = λ s holds lawful within n e.
          let all : length (s.lists c.args.conn) ≡ n = omega arith in
          (s, subst (λ m. Applies (UndoTo c.args.conn m) s s) all (none_cut s c.args.conn (known c.args.conn c.ranges.conn.fits)), holds);
      went = went_still t.goes t.failures g.met.T.Target.still c.args.target.now ⊥ (λ x. x);
    }

pub loop-i-preserved : goal.loop-i-preserved
loop-i-preserved g c =
    let t = g.T.Target in
    record {
      undone = λ s holds lawful within n e.
          let m = c.loop-i.invariant.undone s holds lawful within (suc n) (omega arith) in
          let lawful_there = stays_lawful (UndoTo c.args.conn (suc n)) s m.0 lawful m.1 in
          let more : suc n ≡ n + 1 = omega arith in
          let next = c.in_ok-undo_last.ensures.undone m.0 n m.2 lawful_there (left_length s m.0 c.args.conn (suc n) m.1 ∙ more) in
          (next.0, cut_further s m.0 next.0 c.args.conn (suc n) n (omega arith) m.1 next.1, next.2);
      went = went_on t.goes t.failures g.met.T.Target.goes_on c.args.target.now c.loop-i.target c.undo_last.new.target ⊥ ⊥ c.loop-i.invariant.went (λ x. x)
          (went_fine t.goes t.failures c.loop-i.target c.undo_last.new.target _ ⊥ (ok_not_err c.undo_last.result c.in_ok-undo_last.field-0 c.in_ok-undo_last.was) (λ x. x) c.undo_last.ensures.went);
    }

pub returns-clause-undone : goal.returns-clause-undone
returns-clause-undone g c s holds lawful within =
    c.loop-i.invariant.undone s holds lawful within c.args.count (omega (arith, c.count-standing.ensures s holds, within))
