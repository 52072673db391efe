use Rattle.std.proofs.Common.{slice_get, sym, ap, ◌∙◌}
use Rattle.std.specs.Option.{option_and_then}
use Rattle.wat_schema.specs.Tables.{Tables, table_at}
use Rattle.wat_tables.proofs.Listed.{found_at}
use Rattle.wat_tables.proofs.tables.Tables.table_at.Goals as goal

pub returns-in-Some : goal.returns-in-Some
returns-in-Some c =
    let t : Tables = record { tables = c.self.inside.tables.items; next = c.self.inside.schema.next } in
    c.table_in.ensures ∙ sym (ap (λ (u : Tables). slice_get u.tables c.in-Some.i) c.self.view_is)
    ∙ sym (ap (option_and_then (slice_get c.self.inside.tables.items)) c.in-Some.is)
    ∙ found_at t c.self.inside.schema c.self.inside.numbers.keys c.args.number c.get_index_of.result c.self.invariant c.get_index_of.ensures.index
    ∙ ap (λ u. table_at u c.args.number) c.self.view_is

pub returns-in-None : goal.returns-in-None
returns-in-None c =
    let t : Tables = record { tables = c.self.inside.tables.items; next = c.self.inside.schema.next } in
    sym (ap (option_and_then (slice_get c.self.inside.tables.items)) c.in-None.is)
    ∙ found_at t c.self.inside.schema c.self.inside.numbers.keys c.args.number c.get_index_of.result c.self.invariant c.get_index_of.ensures.index
    ∙ ap (λ u. table_at u c.args.number) c.self.view_is
