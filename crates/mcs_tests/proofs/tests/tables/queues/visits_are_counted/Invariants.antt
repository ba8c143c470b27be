use Rattle.mcs_tests.proofs.tests.tables.queues.visits_are_counted.Given as goal

abbrev pub ghosts-move_counted : goal.ghosts-move_counted
ghosts-move_counted g a = record { name = a.blank.name; parts = a.blank.parts }
