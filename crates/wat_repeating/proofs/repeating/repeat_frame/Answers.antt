use Rattle.std.proofs.Common.{◌≡◌, Option, subst}
use Rattle.std.specs.Prelude.{IfSome, IfNone}
use Rattle.wat_gate.specs.declared.gate_log.GatePlace.{GatePlace}
use Rattle.wat_gate.specs.GateLog.{body_at}
use Rattle.wat_log.specs.Log.{gate_of}
use Rattle.wat_log.specs.Reading.{AddsRecords, SpellsNone}
use Rattle.wat_repeating.specs.OnPages.{told_of}
use Rattle.wat_repeating.specs.MoveProofs.{moves_on}
use Rattle.wat_repeating.proofs.Moving.{stops_there, not_damaged}
use Rattle.wat_repeating.proofs.Records.{match_true, match_false, frame_adds, frame_writable, body_applies, list_applies}
use Rattle.wat_repeating.proofs.repeating.repeat_frame.Goals as goal

pub returns-in-Ok-true-clause-moves : goal.returns-in-Ok-true-clause-moves
returns-in-Ok-true-clause-moves g c = moves_on _ c.read_frame.new.self _ (c.read_frame.ensures.going c.requires.going) c.repeat_records.ensures.moves

pub returns-in-Ok-false-clause-moves : goal.returns-in-Ok-false-clause-moves
returns-in-Ok-false-clause-moves g c = moves_on _ c.read_frame.new.self _ (c.read_frame.ensures.going c.requires.going) c.repeat_records.ensures.moves

pub returns-clause-moves : goal.returns-clause-moves
returns-clause-moves g c = moves_on _ c.read_frame.new.self _ (c.read_frame.ensures.going c.requires.going) c.repeat_records.ensures.moves

pub returns-in-Ok-None-clause-damaged : goal.returns-in-Ok-None-clause-damaged
returns-in-Ok-None-clause-damaged g c s is lawful =
    let body = (body_at (told_of c.args.on.now) (gate_of c.args.log.now) c.args.place.gate) in
    let none : SpellsNone body = subst (λ (o : Option GatePlace). IfNone o (SpellsNone body)) c.in-Ok-None.field-0-is (c.in-Ok-None.ensures.none is.tells) in
    stops_there c.broken.result c.args.place.at body s (λ next a. none a.entries a.spells) c.broken.ensures.place

pub returns-in-Ok-true-clause-repeated : goal.returns-in-Ok-true-clause-repeated
returns-in-Ok-true-clause-repeated g c s is lawful =
    let body = (body_at (told_of c.args.on.now) (gate_of c.args.log.now) c.args.place.gate) in
    let list = c.as_slice.result.now in
    let same : list ≡ c.read_frame.new.into = let a = c.as_slice.ensures in let b = c.entries.view_is in cc in
    let adds : AddsRecords body c.new-entries.result c.read_frame.new.into = subst (λ (o : Option GatePlace). IfSome o (λ gate. AddsRecords body c.new-entries.result c.read_frame.new.into)) c.in-Ok-Some.field-0-is (c.in-Ok-Some.ensures.read is.tells) in
    let read = frame_adds body c.new-entries.result c.read_frame.new.into list c.new-entries.ensures same adds in
    let made = match_true c.in-Ok-true.field-0 _ _ c.in-Ok-true.field-0-test (c.in-Ok-true.ensures.answers (frame_writable body list read) s (c.read_frame.ensures.stands s is) lawful) in
    (made.0, body_applies body list s made.0 read made.1, made.2)

pub returns-in-Ok-false-clause-damaged : goal.returns-in-Ok-false-clause-damaged
returns-in-Ok-false-clause-damaged g c s is lawful =
    let body = (body_at (told_of c.args.on.now) (gate_of c.args.log.now) c.args.place.gate) in
    let list = c.as_slice.result.now in
    let same : list ≡ c.read_frame.new.into = let a = c.as_slice.ensures in let b = c.entries.view_is in cc in
    let adds : AddsRecords body c.new-entries.result c.read_frame.new.into = subst (λ (o : Option GatePlace). IfSome o (λ gate. AddsRecords body c.new-entries.result c.read_frame.new.into)) c.in-Ok-Some.field-0-is (c.in-Ok-Some.ensures.read is.tells) in
    let read = frame_adds body c.new-entries.result c.read_frame.new.into list c.new-entries.ensures same adds in
    let none = match_false c.in-Ok-false.field-0 _ _ c.in-Ok-false.field-0-test (c.in-Ok-false.ensures.answers (frame_writable body list read) s (c.read_frame.ensures.stands s is) lawful) in
    stops_there c.broken-in-Ok-false.result c.args.place.at body s (λ next a. none next (list_applies body list s next read a)) c.broken-in-Ok-false.ensures.place

pub returns-clause-damaged : goal.returns-clause-damaged
returns-clause-damaged g c s is lawful =
    let body = (body_at (told_of c.args.on.now) (gate_of c.args.log.now) c.args.place.gate) in
    let list = c.as_slice.result.now in
    let same : list ≡ c.read_frame.new.into = let a = c.as_slice.ensures in let b = c.entries.view_is in cc in
    let adds : AddsRecords body c.new-entries.result c.read_frame.new.into = subst (λ (o : Option GatePlace). IfSome o (λ gate. AddsRecords body c.new-entries.result c.read_frame.new.into)) c.in-Ok-Some.field-0-is (c.in-Ok-Some.ensures.read is.tells) in
    let read = frame_adds body c.new-entries.result c.read_frame.new.into list c.new-entries.ensures same adds in
    not_damaged c.in-Err-repeat_records.refusal _ (c.in-Err-repeat_records.ensures.undamaged (frame_writable body list read) s (c.read_frame.ensures.stands s is) lawful)
