use Rattle.std.proofs.Common.{subst, arith, ◌∙◌}
use Rattle.std.specs.Prelude.{map}
use Rattle.wat_log_record.specs.declared.log_record.LogRecord.TheVariants.{Rollback}
use Rattle.wat_replay.specs.State.{State}
use Rattle.wat_replay.proofs.Replaying.{stays_lawful}
use Rattle.wat_recover.proofs.Stepping.{same_undone, closed, closed_more, all_closed}
use Rattle.wat_repeating.specs.OnPages.{Stands}
use Rattle.wat_repeating.specs.Repeated.{RollsBack}
use Rattle.wat_repeating.specs.MoveProofs.{moves_on}
use Rattle.wat_repeating.proofs.Moving.{cause_next}
use Rattle.wat_repeating.proofs.Back.{as_undo, rolls_more}
use Rattle.wat_repeating.proofs.undoing.roll_back_all.Goals as goal

pub returns-in-Err-clause-moves : goal.returns-in-Err-clause-moves
returns-in-Err-clause-moves g c = moves_on _ c.loop-conn.on _ c.loop-conn.invariant.moves c.roll_back.ensures.moves

pub loop-conn-preserved : goal.loop-conn-preserved
loop-conn-preserved g c =
    let conn = c.in-Some.conn in
    record {
      small = omega (arith, c.from-from.ensures, c.next_open.type_inv);
      short = omega (arith, c.in-Ok.ensures.bytes, c.loop-conn.invariant.short, c.in-Some.ensures.from, c.from-from.ensures);
      gate = c.roll_back.ensures.gate ∙ c.loop-conn.invariant.gate;
      going = c.in-Ok.ensures.going;
      moves = moves_on _ c.loop-conn.on _ c.loop-conn.invariant.moves c.roll_back.ensures.moves;
      cause = cause_next _ _ _ c.roll_back.result _ c.loop-conn.invariant.cause c.in-Ok.is c.roll_back.ensures.cause;
      state = λ s is lawful.
          let m = c.loop-conn.invariant.state s is lawful in
          let next = c.in-Ok.ensures.undone m.0 m.1 m.2 in
          let u = as_undo conn m.0 next.0 next.1 in (
            next.0,
            next.2,
            stays_lawful (Rollback conn) m.0 next.0 m.2 next.1,
            rolls_more c.loop-conn.log c.roll_back.new.log conn s m.0 next.0 m.3 (c.in-Ok.ensures.noted (map Rollback m.3.conns) m.3.noted) next.1,
            λ t und. same_undone m.0 next.0 conn t m.2 u (m.4 t und),
            λ other less. closed_more m.0 next.0 c.loop-conn.from conn u m.5 (c.in-Some.ensures.open m.0 m.1).1 other (omega (arith, less, c.from-from.ensures)),
          );
    }

pub returns-clause-undone : goal.returns-clause-undone
returns-clause-undone g c s t is lawful und =
    let m = c.loop-conn.invariant.state s is lawful in
    subst (λ (v : State). Stands c.loop-conn.on v) (closed m.0 t (all_closed m.0 c.loop-conn.from m.5 (c.in_default.ensures.open m.0 m.1)) (m.4 t und)) m.1

pub returns-clause-noted : goal.returns-clause-noted
returns-clause-noted g c s t is lawful und =
    let m = c.loop-conn.invariant.state s is lawful in
    subst (λ (v : State). RollsBack c.loop-conn.log s v) (closed m.0 t (all_closed m.0 c.loop-conn.from m.5 (c.in_default.ensures.open m.0 m.1)) (m.4 t und)) m.3
