use Rattle.std.proofs.Common.{subst, arith}
use Rattle.wat_log_record.specs.declared.log_record.LogRecord.TheVariants.{UndoTo}
use Rattle.wat_replay.proofs.Replaying.{stays_lawful}
use Rattle.wat_recover.proofs.Going.{went_on, went_fine, ok_not_err}
use Rattle.wat_recover.proofs.Stepping.{same_undone, closed, closed_more, all_closed}
use Rattle.wat_recover.proofs.undoing.undo_on.Goals as goal

pub loop-conn-preserved : goal.loop-conn-preserved
loop-conn-preserved g c =
    let t = g.T.Target in
    let conn = c.in-Some.conn in
    record {
      small = omega (arith, c.from-from.ensures, c.next_open.type_inv);
      undone = λ s to holds lawful is.
          let m = c.loop-conn.invariant.undone s to holds lawful is in
          let next = c.in_ok-undo_to.ensures.undone m.0 m.1 m.2 (omega arith) in (
            next.0,
            next.2,
            stays_lawful (UndoTo conn 0) m.0 next.0 m.2 next.1,
            same_undone m.0 next.0 conn to m.2 next.1 m.3,
            λ other less. closed_more m.0 next.0 c.loop-conn.from conn next.1 m.4 (c.in-Some.ensures.open m.0 m.1).1 other (omega (arith, c.from-from.ensures)),
          );
      went = went_on t.goes t.failures g.met.T.Target.goes_on c.args.target.now c.loop-conn.target c.undo_to.new.target ⊥ ⊥ c.loop-conn.invariant.went (λ x. x)
          (went_fine t.goes t.failures c.loop-conn.target c.undo_to.new.target _ ⊥ (ok_not_err c.undo_to.result c.in_ok-undo_to.field-0 c.in_ok-undo_to.was) (λ x. x) c.undo_to.ensures.went);
    }

pub returns-clause-undone : goal.returns-clause-undone
returns-clause-undone g c s to holds lawful is =
    let m = c.loop-conn.invariant.undone s to holds lawful is in
    subst (g.T.Target.stands_for c.loop-conn.target) (closed m.0 to (all_closed m.0 c.loop-conn.from m.4 (c.in_default.ensures.open m.0 m.1)) m.3) m.1
