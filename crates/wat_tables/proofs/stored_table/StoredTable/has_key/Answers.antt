use Rattle.std.proofs.Common.{is_some, ap, ◌∙◌}
use Rattle.std.specs.BTreeMap.{is_at}
use Rattle.std.specs.Map.{lookup}
use Rattle.wat_value.specs.Order.{key_cmp}
use Rattle.wat_schema.specs.Tables.{Table, has_key}
use Rattle.wat_tables.specs.Held.{rows_of}
use Rattle.wat_tables.proofs.Rows.{key_found}
use Rattle.wat_tables.proofs.stored_table.StoredTable.has_key.Goals as goal

pub returns : goal.returns
returns c =
    c.contains_key.ensures ∙ ap (λ es. is_some (lookup (is_at (key_cmp c.args.key.now)) es)) c.self.invariant.keyed
    ∙ key_found c.self.inside.def c.args.key.now (rows_of c.self.inside.rows.entries)
    ∙ ap (λ (t : Table). has_key t c.args.key.now) c.self.view_is
