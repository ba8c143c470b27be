use Rattle.mcs_explore_report.proofs.Seeing.{sees-state}
use Rattle.mcs_explore_report.proofs.watcher.WatchedWatch.see_state.Goals as goal

pub returns-clause-sees : goal.returns-clause-sees
returns-clause-sees g c = sees-state c.see_state.result _ _ _ _ _ _ _ _ _ _ _ _ _ _ c.judge.ensures c.in_ok-note_state.ensures c.see_state.ensures.lives c.see_state.ensures.notes
