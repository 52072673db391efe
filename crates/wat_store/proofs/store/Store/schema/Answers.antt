use Rattle.std.proofs.Common.{◌≡◌, sym, ◌∙◌}
use Rattle.wat_store.proofs.store.Store.schema.Goals as goal

pub returns-clause-schema : goal.returns-clause-schema
returns-clause-schema g c s t is = c.schema.ensures ∙ is.is.holds.on.schema
