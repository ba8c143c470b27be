use Rattle.mcs_sim.proofs.run.run_users.Given as goal

abbrev pub ghosts-settle_run : goal.ghosts-settle_run
ghosts-settle_run g a = record { name = a.blank.name; parts = a.blank.parts }
