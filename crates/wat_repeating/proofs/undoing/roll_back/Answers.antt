use Rattle.std.proofs.Common.{length, ap, arith, length-append}
use Rattle.wat_log_record.specs.declared.log_record.LogRecord.TheVariants.{Rollback}
use Rattle.wat_log_record.specs.Encoding.{record_bytes}
use Rattle.wat_log.specs.Log.{noted_bytes}
use Rattle.wat_replay.specs.State.{State}
use Rattle.wat_recover.proofs.Stepping.{known}
use Rattle.wat_repeating.specs.OnPages.{Stands}
use Rattle.wat_repeating.proofs.Back.{always, short_record}
use Rattle.wat_repeating.proofs.undoing.roll_back.Goals as goal

pub note-requires-clause-short : goal.note-requires-clause-short
note-requires-clause-short g c = omega (arith, short_record c.args.conn)

pub returns-in-Ok-note-clause-undone : goal.returns-in-Ok-note-clause-undone
returns-in-Ok-note-clause-undone g c s is lawful = always (λ (v : State). Stands c.repeat_record.new.on v) c.args.conn s (known c.args.conn (omega (arith, c.ranges.conn.fits))) lawful c.in-Ok.field-0 (c.in-Ok.ensures.answers tt s is lawful)

pub returns-in-Ok-note-clause-bytes : goal.returns-in-Ok-note-clause-bytes
returns-in-Ok-note-clause-bytes g c = omega (arith, ap length c.in-Ok-note.ensures.bytes, length-append (noted_bytes c.args.log.now) (record_bytes (Rollback c.args.conn)), short_record c.args.conn)
