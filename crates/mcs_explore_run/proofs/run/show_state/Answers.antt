use Rattle.mcs_explore_run.proofs.Sights.{on-ok, sees-state}
use Rattle.mcs_explore_run.proofs.run.show_state.Goals as goal

pub returns-clause-aim : goal.returns-clause-aim
returns-clause-aim g c = on-ok c.see_state.result c.see_state.ensures.aim

pub returns-clause-sees : goal.returns-clause-sees
returns-clause-sees g c = sees-state c.see_state.result g.W.Watch.HasSeen _ _ _ _ _ c.args.is_over c.requires c.see_state.ensures.sees
