use Rattle.std.proofs.Common.{slice_get, string_bytes, sym, ap, ◌∙◌}
use Rattle.std.specs.Option.{option_map, option_and_then}
use Rattle.wat_schema.specs.Catalog.{table_named}
use Rattle.wat_schema.proofs.LookUps.{listing_by_name}
use Rattle.wat_schema.proofs.schema.Schema.table.Goals as goal

pub returns-in-Some : goal.returns-in-Some
returns-in-Some c =
    c.number_at.ensures ∙ sym (ap (λ s. option_map (λ t. t.def.number) (slice_get s.tables c.in-Some.i)) c.self.view_is)
    ∙ sym (ap (λ o. option_map (λ t. t.def.number) (option_and_then (slice_get c.self.inside.entries.items) o)) c.in-Some.is)
    ∙ ap (option_map (λ t. t.def.number)) (listing_by_name string_bytes (record { tables = c.self.inside.entries.items; next = c.self.inside.next }) c.args.name.now c.self.inside.names.keys c.get_index_of.result c.self.invariant.0.0.names c.get_index_of.ensures.index)
    ∙ ap (λ s. table_named s c.args.name.now) c.self.view_is

pub returns-in-None : goal.returns-in-None
returns-in-None c =
    sym (ap (λ o. option_map (λ t. t.def.number) (option_and_then (slice_get c.self.inside.entries.items) o)) c.in-None.is)
    ∙ ap (option_map (λ t. t.def.number)) (listing_by_name string_bytes (record { tables = c.self.inside.entries.items; next = c.self.inside.next }) c.args.name.now c.self.inside.names.keys c.get_index_of.result c.self.invariant.0.0.names c.get_index_of.ensures.index)
    ∙ ap (λ s. table_named s c.args.name.now) c.self.view_is
