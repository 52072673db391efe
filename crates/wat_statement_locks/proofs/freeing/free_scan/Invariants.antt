use Rattle.wat_statement_locks.proofs.freeing.free_scan.Given as goal

abbrev pub ghosts-free_short : goal.ghosts-free_short
ghosts-free_short a = record { name = a.blank.name; parts = a.blank.parts }
