use Rattle.std.proofs.Common.{Err, ap, ◌∙◌}
use Rattle.wat_loading.proofs.Telling.{of_page}
use Rattle.wat_loading.proofs.payloads.read_schema.Goals as goal

pub returns-in-Err-Unspelled-clause-damaged : goal.returns-in-Err-Unspelled-clause-damaged
returns-in-Err-Unspelled-clause-damaged c = of_page _ _ _ (c.schema_from.ensures.unspelled (c.in-Err-Unspelled.is ∙ ap Err c.in-Err-Unspelled.field-0-is)) c.damaged.ensures.place
