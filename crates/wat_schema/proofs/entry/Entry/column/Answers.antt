use Rattle.std.proofs.Common.{sym, ap, ◌∙◌, string_bytes}
use Rattle.std.specs.Str.{bytes_eq}
use Rattle.wat_schema.specs.Catalog.{ordinal}
use Rattle.wat_schema.proofs.LookUps.{position-alike}
use Rattle.wat_schema.proofs.entry.Entry.column.Goals as goal

pub returns-in-Some : goal.returns-in-Some
returns-in-Some c =
    sym c.in-Some.is ∙ c.get_index_of.ensures.index
    ∙ position-alike (bytes_eq c.args.name.now) string_bytes (λ column. column.name) c.self.inside.columns.keys c.self.inside.def.columns c.self.invariant.columns
    ∙ ap (λ t. ordinal t.def c.args.name.now) c.self.view_is

pub returns-in-None : goal.returns-in-None
returns-in-None c =
    sym c.in-None.is ∙ c.get_index_of.ensures.index
    ∙ position-alike (bytes_eq c.args.name.now) string_bytes (λ column. column.name) c.self.inside.columns.keys c.self.inside.def.columns c.self.invariant.columns
    ∙ ap (λ t. ordinal t.def c.args.name.now) c.self.view_is
