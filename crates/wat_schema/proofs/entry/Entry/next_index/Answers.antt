use Rattle.std.proofs.Common.{◌+◌, sym, ap, ◌∙◌}
use Rattle.wat_schema.specs.Definitions.{next_index}
use Rattle.wat_schema.proofs.Keeping.{next_index_is}
use Rattle.wat_schema.proofs.entry.Entry.next_index.Goals as goal

pub returns-clause-exact : goal.returns-clause-exact
returns-clause-exact c =
    ap (λ n. n + 1) c.len.ensures
    ∙ sym (next_index_is (record { def = c.self.inside.def; indexes = c.self.inside.indexes }) c.self.invariant.limits)
    ∙ ap next_index c.self.view_is
