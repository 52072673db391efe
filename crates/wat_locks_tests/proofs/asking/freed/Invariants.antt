use Rattle.wat_locks_tests.proofs.asking.freed.Given as goal

abbrev pub ghosts-release : goal.ghosts-release
ghosts-release a = record { name = a.blank.name; parts = a.blank.parts }
