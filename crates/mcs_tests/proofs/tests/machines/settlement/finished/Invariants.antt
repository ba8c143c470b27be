use Rattle.mcs_tests.proofs.tests.machines.settlement.finished.Given as goal

abbrev pub ghosts-finish_steps : goal.ghosts-finish_steps
ghosts-finish_steps g a = record { name = a.blank.name; parts = a.blank.parts }
