-- What the records of a log create has names for names.
use Rattle.std.proofs.Common.{◌≡◌, ℕ, true, List, [], ◌∷◌, ◌++◌, map, refl, sym, ap, ◌∙◌, subst}
use Rattle.std.specs.List.{AllByRecursion, list_all}
use Rattle.std.proofs.lemmas.Bool.{and_from}
use Rattle.std.proofs.lemmas.List.Folds.{list_all-append}
use Rattle.wat_word.specs.Words.{is_name}
use Rattle.wat_value.specs.declared.change.Change.{Change}
use Rattle.wat_value.specs.declared.definition.Column.{Column}
use Rattle.wat_value.specs.declared.change.SchemaChange.{SchemaChange}
use Rattle.wat_value.specs.declared.change.SchemaChange.TheVariants.{CreateTable, DropTable, CreateIndex}
use Rattle.wat_value.specs.declared.change.Act.TheVariants.{OnRow, OnSchema}
use Rattle.wat_log_record.specs.declared.log_record.LogRecord.{LogRecord}
use Rattle.wat_log_record.specs.declared.log_record.LogRecord.TheVariants.{Changed, UndoTo, Commit, Rollback, Schema}
use Rattle.wat_log_record.specs.Encoding.{IsEncodableColumn, IsEncodableSchema, IsEncodableRecord}
use Rattle.wat_log_record.specs.Bodies.{SpellsLog}
use Rattle.wat_replay.specs.State.{Lists}
use Rattle.wat_replay.specs.Replay.{lists_after}
use Rattle.wat_replay.specs.Committed.{commits, commits_of}
use Rattle.wat_written_laws.specs.Named.{act_named, has_names}

rows_named : (changes : List Change) → list_all act_named (map OnRow changes) ≡ true
rows_named [] = refl
rows_named (change ∷ changes) = rows_named changes

columns_named : (columns : List Column) → AllByRecursion IsEncodableColumn columns → list_all (λ column. is_name column.name) columns ≡ true
columns_named [] h = refl
columns_named (column ∷ columns) h = and_from (is_name column.name) (list_all (λ column. is_name column.name) columns) h.0.name (columns_named columns h.1)

schema_named : (change : SchemaChange) → IsEncodableSchema change → act_named (OnSchema change) ≡ true
schema_named (CreateTable def) h = and_from (is_name def.name) (list_all (λ column. is_name column.name) def.columns) h.name (columns_named def.columns h.columns.each)
schema_named (DropTable table) h = refl
schema_named (CreateIndex index) h = h.name

record_named : (entry : LogRecord) (lists : Lists) → IsEncodableRecord entry → list_all act_named (commits entry lists) ≡ true
record_named (Changed conn change) lists h = refl
record_named (UndoTo conn count) lists h = refl
record_named (Commit conn) lists h = rows_named (lists conn)
record_named (Rollback conn) lists h = refl
record_named (Schema change) lists h = and_from (act_named (OnSchema change)) true (schema_named change h) refl

records_named : (entries : List LogRecord) (lists : Lists) → AllByRecursion IsEncodableRecord entries → list_all act_named (commits_of entries lists) ≡ true
records_named [] lists h = refl
records_named (entry ∷ entries) lists h =
    list_all-append act_named (commits entry lists) (commits_of entries (lists_after entry lists))
    ∙ and_from (list_all act_named (commits entry lists)) (list_all act_named (commits_of entries (lists_after entry lists))) (record_named entry lists h.0) (records_named entries (lists_after entry lists) h.1)

both_all : (xs ys : List LogRecord) → AllByRecursion IsEncodableRecord xs → AllByRecursion IsEncodableRecord ys → AllByRecursion IsEncodableRecord (xs ++ ys)
both_all [] ys a b = b
both_all (x ∷ xs) ys a b = (a.0, both_all xs ys a.1 b)

log_encodable : (bodies : List (List ℕ)) (entries : List LogRecord) → SpellsLog bodies entries → AllByRecursion IsEncodableRecord entries
log_encodable [] entries h = subst (AllByRecursion IsEncodableRecord) (sym h) tt
log_encodable (body ∷ bodies) entries h = subst (AllByRecursion IsEncodableRecord) (sym h.3) (both_all h.0 h.1 h.2.encodable (log_encodable bodies h.1 h.4))

-- so each act that a log commits
pub log_named : (bodies : List (List ℕ)) (entries : List LogRecord) (lists : Lists) → SpellsLog bodies entries → list_all act_named (commits_of entries lists) ≡ true
log_named bodies entries lists h = records_named entries lists (log_encodable bodies entries h)
