use Rattle.std.proofs.Common.{ap, ◌∙◌}
use Rattle.std.specs.Str.{bytes_eq}
use Rattle.wat_schema.specs.Catalog.{has_index, has_index_named}
use Rattle.wat_schema.proofs.Owning.{alike_everywhere}
use Rattle.wat_schema.proofs.schema.Schema.has_index.Goals as goal

pub returns : goal.returns
returns c =
    c.contains.ensures
    ∙ alike_everywhere (λ e. e.1) (λ e. bytes_eq c.args.name.now e.0) (λ t. t.def.number) (has_index c.args.name.now) c.self.inside.owners.items c.self.inside.entries.items (c.self.invariant.0.1.alike c.args.name.now)
    ∙ ap (λ s. has_index_named s c.args.name.now) c.self.view_is
