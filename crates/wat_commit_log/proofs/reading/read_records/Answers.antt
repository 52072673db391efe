use Rattle.std.proofs.Common.{◌≡◌, ◌+◌, ◌-◌, ◌<◌, ◌++◌, ◌∷◌, [], ℕ, List, length, take, drop, sym, subst, arith, length-drop}
use Rattle.std.proofs.Math.Seq.{take-add}
use Rattle.std.proofs.lemmas.List.{take-append-drop, take_all}
use Rattle.wat_log_record.specs.declared.log_record.LogRecord.{LogRecord}
use Rattle.wat_log_record.specs.Encoding.{SpellsRecord, SpellsNoRecord}
use Rattle.wat_commit_log.specs.Reading.{AreRecords}
use Rattle.wat_commit_log.proofs.BodyLemmas.{if_none, if_some, no_record_next, none_read, record_read, record_size}
use Rattle.wat_commit_log.proofs.reading.read_records.Goals as goal

-- the bytes that are left
rest_is : (bytes : List ℕ) (at : ℕ) → take (length bytes - at) (drop at bytes) ≡ drop at bytes
rest_is bytes at = take_all (length bytes - at) (drop at bytes) (omega (arith, length-drop at bytes))

pub returns-in_default : goal.returns-in_default
returns-in_default c =
    let bytes = c.args.bytes.now in
    let at = c.loop-at.at in
    let rest = drop at bytes in
    let some : 0 < length rest = omega (arith, length-drop at bytes, c.loop-at-test.true) in
    let none = if_none c.in_ok-record.field-0 (SpellsNoRecord (take (length bytes - at) rest)) c.in_default.not-Some c.in_ok-record.ensures.none in
    no_record_next (take at bytes) rest bytes c.loop-at.records c.loop-at.invariant.read (sym (take-append-drop at bytes)) some
    (subst SpellsNoRecord (rest_is bytes at) none)

pub loop-at-smaller : goal.loop-at-smaller
loop-at-smaller c =
    let bytes = c.args.bytes.now in
    let at = c.loop-at.at in
    let rest = drop at bytes in
    let spells = if_some c.in_ok-record.field-0 (c.in-Some.record, c.in-Some.len) (λ x. SpellsRecord (take (length bytes - at) rest) x.0 x.1) c.in-Some.is c.in_ok-record.ensures.spelled in
    let size = record_size (take (length bytes - at) rest) c.in-Some.record c.in-Some.len spells in
    let smaller : length bytes - (at + c.in-Some.len) < length bytes - at = omega (arith, size, c.loop-at-test.true) in
    smaller

pub loop-at-preserved : goal.loop-at-preserved
loop-at-preserved c =
    let bytes = c.args.bytes.now in
    let at = c.loop-at.at in
    let rest = drop at bytes in
    let cut = if_some c.in_ok-record.field-0 (c.in-Some.record, c.in-Some.len) (λ x. SpellsRecord (take (length bytes - at) rest) x.0 x.1) c.in-Some.is c.in_ok-record.ensures.spelled in
    let spells = subst (λ (l : List ℕ). SpellsRecord l c.in-Some.record c.in-Some.len) (rest_is bytes at) cut in
    let more = record_read (take at bytes) rest c.loop-at.records c.in-Some.record c.in-Some.len c.loop-at.invariant.read spells in
    record {
      within = omega (arith, length-drop at bytes, spells.within, c.loop-at-test.true);
      read = subst (λ (l : List LogRecord). AreRecords (take (at + c.in-Some.len) bytes) l) (sym c.in_ok-push.ensures.ok) (subst (λ (l : List ℕ). AreRecords l (c.loop-at.records ++ c.in-Some.record ∷ [])) (sym (take-add at c.in-Some.len bytes)) more);
    }
