-- A decision, as what a statement makes.
use Rattle.std.specs.Prelude.{ℕ, length, Result, Ok, Err}
use Rattle.wat_schema.specs.declared.refusal.Refusal.{Refusal}
use Rattle.wat_meaning.specs.declared.reply.Reply.{Reply}
use Rattle.wat_meaning.specs.declared.reply.Reply.TheVariants as reply
use Rattle.wat_meaning.specs.Meaning.{Made, Made.Shown, Made.Changing}
use Rattle.wat_changing.specs.declared.counted.Counted.{Counted}
use Rattle.wat_changing.specs.declared.counted.Counted.TheVariants.{Inserted, Updated, Deleted}
use Rattle.wat_changing.specs.declared.deciding.Decision.{Decision}
use Rattle.wat_changing.specs.declared.deciding.Decision.TheVariants as decision

-- the reply that counts so many rows
abbrev pub reply_of : Counted → ℕ → Reply
reply_of Inserted count = reply.Inserted count
reply_of Updated count = reply.Updated count
reply_of Deleted count = reply.Deleted count

abbrev pub made_of : Decision → Result Made Refusal
made_of (decision.Refused refusal) = Err refusal
made_of (decision.Shown rows) = Ok (Shown rows)
made_of (decision.Changing counted changes) = Ok (Changing (reply_of counted (length changes.items)) changes.items)
