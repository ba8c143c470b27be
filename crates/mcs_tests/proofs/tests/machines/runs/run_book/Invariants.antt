use Rattle.mcs_tests.proofs.tests.machines.runs.run_book.Given as goal

abbrev pub ghosts-settle_run : goal.ghosts-settle_run
ghosts-settle_run g a = record { name = a.blank.name; parts = a.blank.parts }
