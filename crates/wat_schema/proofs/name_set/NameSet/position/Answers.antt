use Rattle.std.proofs.Common.{position, string_bytes, sym, ap, ◌∙◌}
use Rattle.std.specs.Str.{bytes_eq}
use Rattle.wat_schema.proofs.LookUps.{position-map}
use Rattle.wat_schema.proofs.name_set.NameSet.position.Goals as goal

pub returns : goal.returns
returns c =
    c.get_index_of.ensures.index
    ∙ sym (position-map (bytes_eq c.args.name.now) string_bytes c.self.inside.names.keys)
    ∙ ap (position (bytes_eq c.args.name.now)) c.self.view_is
