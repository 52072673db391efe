use Rattle.std.proofs.Common.{Some, sym, ap, ◌∙◌}
use Rattle.std.specs.Option.{option_copied}
use Rattle.wat_plan.proofs.SourceLemmas.{no_def, the_table}
use Rattle.wat_plan.proofs.source_table.table_named.Goals as goal

pub returns-in_default-def : goal.returns-in_default-def
returns-in_default-def c =
    no_def c.args.schema.now c.args.name.now c.in-Some.number c.catalog_law.ensures (sym c.table.ensures ∙ c.in-Some.is) (sym c.def.ensures ∙ ap option_copied c.in_default-def.is)

pub returns : goal.returns
returns c =
    the_table c.args.schema.now c.args.name.now c.in-Some.number c.in_ok-def.def c.in_ok-indexes.indexes c.catalog_law.ensures (sym c.table.ensures ∙ c.in-Some.is)
    (sym c.def.ensures ∙ (ap option_copied c.in-Some-def.is ∙ ap Some (sym c.in_ok-def.ensures))) c.in_ok-indexes.ensures
