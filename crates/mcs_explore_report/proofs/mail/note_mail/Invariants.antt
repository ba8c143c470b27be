use Rattle.std.proofs.Common.{drop}
use Rattle.mcs_explore_report.specs.Answers.{AreNotedMail, Tables}
use Rattle.mcs_explore_report.proofs.mail.note_mail.Given as goal

abbrev pub invariant-loop-reached : goal.invariant-loop-reached
invariant-loop-reached l = (new : Tables) → AreNotedMail l.users l.from l.place l.turn (drop l.reached-index l.all) l.answers new → AreNotedMail l.users l.from l.place l.turn l.all l.initial.answers new
