use Rattle.wat_tool.proofs.performing.make_database.Goals as goal

pub returns-in-Ok-clause-made : goal.returns-in-Ok-clause-made
returns-in-Ok-clause-made g c = record { content = c.in-Ok.ensures.made; kept = c.in-Ok.ensures.kept }
