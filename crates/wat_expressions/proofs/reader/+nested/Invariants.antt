use Rattle.wat_expressions.proofs.reader.+nested.Given as goal

abbrev pub decreases-nested : goal.decreases-nested
decreases-nested l = l.levels
