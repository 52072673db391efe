use Rattle.std.proofs.Common.{ap, ◌∙◌}
use Rattle.wat_value.specs.declared.definition.TableDef.{TableDef}
use Rattle.wat_value.specs.Fits.{key_of}
use Rattle.wat_schema.specs.Tables.{Table}
use Rattle.wat_tables.specs.Held.{rows_of}
use Rattle.wat_tables.proofs.Rows.{put_keeps, put_leaves, put_stood}
use Rattle.wat_tables.proofs.stored_table.StoredTable.insert_fitting.Goals as goal

pub invariant_of-self : goal.invariant_of-self
invariant_of-self c =
    let x : Table = record { def = c.self.inside.def; indexes = c.self.inside.indexes; rows = rows_of c.self.inside.rows.entries } in
    put_keeps x c.args.self.now c.args.row c.self.inside.rows.entries c.put.new.map.entries c.in_ok-key.key c.in_ok-rows.rows c.self.invariant c.self.view_is
    (c.in_ok-key.ensures ∙ ap (key_of c.self.inside.def) c.as_slice.ensures) c.in_ok-rows.ensures c.requires c.put.result c.put.ensures.after c.put.ensures.kept

pub returns-clause-stood : goal.returns-clause-stood
returns-clause-stood c =
    let x : Table = record { def = c.self.inside.def; indexes = c.self.inside.indexes; rows = rows_of c.self.inside.rows.entries } in
    put_stood x c.args.self.now c.args.row c.self.inside.rows.entries c.put.new.map.entries c.in_ok-key.key c.in_ok-rows.rows c.self.invariant c.self.view_is
    (c.in_ok-key.ensures ∙ ap (key_of c.self.inside.def) c.as_slice.ensures) c.in_ok-rows.ensures c.requires c.put.result c.put.ensures.stood

pub returns-clause-after : goal.returns-clause-after
returns-clause-after c =
    let x : Table = record { def = c.self.inside.def; indexes = c.self.inside.indexes; rows = rows_of c.self.inside.rows.entries } in
    put_leaves x c.args.self.now c.args.row c.self.inside.rows.entries c.put.new.map.entries c.in_ok-key.key c.in_ok-rows.rows c.self.invariant c.self.view_is
    (c.in_ok-key.ensures ∙ ap (key_of c.self.inside.def) c.as_slice.ensures) c.in_ok-rows.ensures c.requires c.put.result c.put.ensures.after
