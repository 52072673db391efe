use Rattle.std.proofs.Common.{not, map, string_bytes, ap, ◌∙◌}
use Rattle.std.specs.List.{list_any}
use Rattle.std.specs.Str.{bytes_eq}
use Rattle.wat_schema.proofs.Once.{key_fresh}
use Rattle.wat_schema.proofs.name_set.NameSet.add.Goals as goal

pub returns-clause-fresh : goal.returns-clause-fresh
returns-clause-fresh c =
    c.in_ok-fresh.ensures.added
    ∙ key_fresh string_bytes c.self.inside.names.keys c.in_ok-name.name
    ∙ ap (λ n. not (list_any (bytes_eq n) (map string_bytes c.self.inside.names.keys))) c.in_ok-name.ensures.ok
    ∙ ap (λ ns. not (list_any (bytes_eq c.args.name.now) ns)) c.self.view_is
