use Rattle.std.proofs.Common.{◌≡◌, ◌+◌, ◌∷◌, ◌∙◌, Bool, drop, ap, sym, subst}
use Rattle.std.proofs.lemmas.List.{drop_more}
use Rattle.wat_log_record.specs.declared.log_record.LogRecord.{LogRecord}
use Rattle.wat_replay.specs.State.{State}
use Rattle.wat_recover.specs.Goes.{Answers}
use Rattle.wat_repeating.specs.OnPages.{Stands}
use Rattle.wat_repeating.specs.MoveProofs.{moves_on}
use Rattle.wat_repeating.proofs.Moving.{cause_next}
use Rattle.wat_repeating.proofs.Records.{led_next, led_none, writable_there}
use Rattle.wat_repeating.proofs.repeating.repeat_records.Goals as goal

pub returns-in-Ok-false-clause-moves : goal.returns-in-Ok-false-clause-moves
returns-in-Ok-false-clause-moves g c = moves_on _ c.loop-entry.on _ c.loop-entry.invariant.moves c.repeat_record.ensures.moves

pub returns-in-Err-clause-moves : goal.returns-in-Err-clause-moves
returns-in-Err-clause-moves g c = moves_on _ c.loop-entry.on _ c.loop-entry.invariant.moves c.repeat_record.ensures.moves

pub returns-in-Ok-false-clause-answers : goal.returns-in-Ok-false-clause-answers
returns-in-Ok-false-clause-answers g c writable s is lawful last all =
    let entries = c.args.entries.now in
    let i = c.loop-entry.entry-index in
    let entry = c.entry-item.result in
    let led = c.loop-entry.invariant.state writable s is lawful in
    let here : drop i entries ≡ entry ∷ drop (i + 1) entries = drop_more entries i entry c.loop-entry-test.true ∙ ap (λ (x : LogRecord). x ∷ drop (i + 1) entries) (sym c.entry-item.is) in
    led_none entries i s (λ (v : State). Stands c.loop-entry.on v) led entry here (λ (v : State). Stands c.repeat_record.new.on v)
    (subst (λ (b : Bool). Answers (λ (v : State). Stands c.repeat_record.new.on v) entry led.mid b) c.in-Ok-false.field-0-test (c.in-Ok-false.ensures.answers (writable_there entries i entry here writable) led.mid led.there led.lawful)) last all

pub returns-in-Err-clause-undamaged : goal.returns-in-Err-clause-undamaged
returns-in-Err-clause-undamaged g c writable s is lawful =
    let led = c.loop-entry.invariant.state writable s is lawful in
    c.in-Err.ensures.undamaged led.mid led.there led.lawful

pub loop-entry-preserved : goal.loop-entry-preserved
loop-entry-preserved g c = record {
  going = c.in-Ok-true.ensures.going;
  moves = moves_on _ c.loop-entry.on _ c.loop-entry.invariant.moves c.repeat_record.ensures.moves;
  cause = cause_next _ _ _ c.repeat_record.result _ c.loop-entry.invariant.cause c.in-Ok-true.is c.repeat_record.ensures.cause;
  state = λ writable s is lawful.
      let entries = c.args.entries.now in
      let i = c.loop-entry.entry-index in
      let entry = c.entry-item.result in
      let led = c.loop-entry.invariant.state writable s is lawful in
      let here : drop i entries ≡ entry ∷ drop (i + 1) entries = drop_more entries i entry c.loop-entry-test.true ∙ ap (λ (x : LogRecord). x ∷ drop (i + 1) entries) (sym c.entry-item.is) in
      led_next entries i s (λ (v : State). Stands c.loop-entry.on v) led entry here (λ (v : State). Stands c.repeat_record.new.on v)
      (subst (λ (b : Bool). Answers (λ (v : State). Stands c.repeat_record.new.on v) entry led.mid b) c.in-Ok-true.field-0-test (c.in-Ok-true.ensures.answers (writable_there entries i entry here writable) led.mid led.there led.lawful));
}
