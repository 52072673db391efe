use Rattle.wat_statement_locks.proofs.freeing.free_all.Given as goal

abbrev pub ghosts-free_each : goal.ghosts-free_each
ghosts-free_each a = record { name = a.blank.name; parts = a.blank.parts }
