-- What the laws speak of beside the meaning: how many rows a reply counts, and rows and changes that fit.
use Rattle.std.specs.Prelude.{ℕ, Bool, true, false, ◌&&◌, List, [], Option, Some, None}
use Rattle.std.specs.Option.{option_map_or}
use Rattle.std.specs.Cmp.Lexicographic.{pointwise}
use Rattle.wat_value.specs.declared.definition.TableDef.{TableDef}
use Rattle.wat_value.specs.declared.change.Change.{Change}
use Rattle.wat_value.specs.declared.change.Change.TheVariants as change
use Rattle.wat_value.specs.Fits.{fits, key_of}
use Rattle.wat_ast.specs.declared.statement.Statement.{Statement}
use Rattle.wat_schema.specs.Catalog.{Catalog, def_at}
use Rattle.wat_schema.specs.Tables.{row_eq}
use Rattle.wat_expr.specs.Evaluation.{Combination}
use Rattle.wat_group.specs.Query.{Row}
use Rattle.wat_meaning.specs.declared.reply.Reply.{Reply}
use Rattle.wat_meaning.specs.declared.reply.Reply.TheVariants.{Inserted, Updated, Deleted}
use Rattle.wat_meaning.specs.Meaning.{scanned, source_defs}

-- how many rows the reply says were inserted, updated or deleted
abbrev pub rows_counted : Reply → Option ℕ
rows_counted (Inserted n) = Some n
rows_counted (Updated n) = Some n
rows_counted (Deleted n) = Some n
rows_counted reply = None

-- the definitions of the sources of the query that the statement scans
abbrev pub scanned_defs : Catalog → Statement → List TableDef
scanned_defs c s = option_map_or (source_defs c) (scanned s) []

-- a row that fits its source's definition
abbrev pub source_fits : TableDef → Option Row → Bool
source_fits def row = option_map_or (fits def) row false

-- such a row of each source
abbrev pub combination_fits : List TableDef → Combination → Bool
combination_fits = pointwise source_fits

-- The table stands, and the row that is left of the change fits its definition; an Update keeps the key.
abbrev pub change_fits : Catalog → Change → Bool
change_fits c (change.Insert table row) = option_map_or (λ def. fits def row) (def_at c table) false
change_fits c (change.Update table before after) = option_map_or (λ def. row_eq (key_of def before) (key_of def after) && fits def after) (def_at c table) false
change_fits c (change.Delete table before) = option_map_or (λ def. true) (def_at c table) false
