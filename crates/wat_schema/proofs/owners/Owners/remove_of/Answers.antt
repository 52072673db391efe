use Rattle.std.proofs.Common.{string_bytes, ◌==◌, not, filter, ap, rules, ◌∙◌}
use Rattle.indexmap.proofs.CallerLemmas.{filter-RetainsPairs}
use Rattle.wat_schema.proofs.Owning.{pairs, filter-pairs}
use Rattle.wat_schema.proofs.owners.Owners.remove_of.Goals as goal

pub returns : goal.returns
returns c =
    ap (pairs string_bytes) (filter-RetainsPairs _ (λ e. not (c.args.table == e.1)) _ (λ k v b w g call. search rules) c.self.inside.tables.entries c.retain.new.self.entries c.retain.ensures.filtered)
    ∙ filter-pairs string_bytes c.args.table c.self.inside.tables.entries
    ∙ ap (λ o. filter (λ e. not (c.args.table == e.1)) o.items) c.self.view_is
