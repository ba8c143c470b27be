use Rattle.std.proofs.Common.{◌∙◌}
use Rattle.mcs_explore_report.proofs.Seeing.{sees-turn}
use Rattle.mcs_explore_report.proofs.watcher.WatchedWatch.see_turn.Goals as goal

pub returns-clause-sees : goal.returns-clause-sees
returns-clause-sees g c = sees-turn c.see_turn.result _ _ _ _ _ _ _ _ _ _ _ _ _ _ _ _ _ c.judge.ensures c.in_ok-note_turn.ensures c.as_slice-all.result.now (c.as_slice-all.ensures.value ∙ c.in_ok-reached.ensures) c.in_ok-note_mail.ensures c.see_turn.ensures.lives c.see_turn.ensures.notes
