use Rattle.wat_schema.proofs.TableLaws.{act_keeps, catalog-after}
use Rattle.wat_schema.proofs.laws.order_law.Goals as goal

pub returns-clause-kept : goal.returns-clause-kept
returns-clause-kept c = act_keeps

pub returns-clause-schema : goal.returns-clause-schema
returns-clause-schema c = catalog-after
