use Rattle.std.proofs.Common.{slice_get, sym, ap, ◌∙◌}
use Rattle.std.specs.Option.{option_and_then}
use Rattle.wat_schema.specs.Catalog.{listing_at}
use Rattle.wat_schema.proofs.LookUps.{listing_by_number}
use Rattle.wat_schema.proofs.schema.Schema.entry.Goals as goal

pub returns-in-Some : goal.returns-in-Some
returns-in-Some c =
    c.entry_at.ensures ∙ sym (ap (λ s. slice_get s.tables c.in-Some.i) c.self.view_is)
    ∙ sym (ap (option_and_then (slice_get c.self.inside.entries.items)) c.in-Some.is)
    ∙ listing_by_number (record { tables = c.self.inside.entries.items; next = c.self.inside.next }) c.args.table c.self.inside.numbers.keys c.get_index_of.result c.self.invariant.0.0.numbers c.get_index_of.ensures.index
    ∙ ap (λ s. listing_at s c.args.table) c.self.view_is

pub returns-in-None : goal.returns-in-None
returns-in-None c =
    sym (ap (option_and_then (slice_get c.self.inside.entries.items)) c.in-None.is)
    ∙ listing_by_number (record { tables = c.self.inside.entries.items; next = c.self.inside.next }) c.args.table c.self.inside.numbers.keys c.get_index_of.result c.self.invariant.0.0.numbers c.get_index_of.ensures.index
    ∙ ap (λ s. listing_at s c.args.table) c.self.view_is
