use Rattle.std.proofs.Common.{string_bytes, ap, ◌∙◌}
use Rattle.std.specs.List.{list_any}
use Rattle.std.specs.Str.{bytes_eq}
use Rattle.wat_schema.proofs.Owning.{contains-pairs}
use Rattle.wat_schema.proofs.owners.Owners.contains.Goals as goal

pub returns : goal.returns
returns c =
    c.contains_key.ensures ∙ contains-pairs string_bytes (bytes_eq c.args.name.now) c.self.inside.tables.entries
    ∙ ap (λ o. list_any (λ e. bytes_eq c.args.name.now e.0) o.items) c.self.view_is
