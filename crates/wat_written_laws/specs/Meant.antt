-- What the statement that writes an act is to mean.
use Rattle.std.specs.Prelude.{[], ◌∷◌}
use Rattle.wat_value.specs.declared.change.Act.{Act}
use Rattle.wat_value.specs.declared.change.Act.TheVariants.{OnRow, OnSchema}
use Rattle.wat_value.specs.declared.change.Change.TheVariants as change
use Rattle.wat_value.specs.declared.change.SchemaChange.TheVariants as schema
use Rattle.wat_meaning.specs.declared.reply.Meaning.{Meaning}
use Rattle.wat_meaning.specs.declared.reply.Reply.{Reply}
use Rattle.wat_meaning.specs.declared.reply.Reply.TheVariants.{Inserted, Updated, Deleted, Created, Dropped}

-- the reply of a statement that makes the act
abbrev pub reply_of : Act → Reply
reply_of (OnRow (change.Insert table row)) = Inserted 1
reply_of (OnRow (change.Update table before after)) = Updated 1
reply_of (OnRow (change.Delete table before)) = Deleted 1
reply_of (OnSchema (schema.CreateTable def)) = Created
reply_of (OnSchema (schema.DropTable table)) = Dropped
reply_of (OnSchema (schema.CreateIndex index)) = Created

-- the act alone, and no refusal
abbrev pub meant : Act → Meaning
meant act = record { answer = reply_of act; acts = act ∷ [] }
