use Rattle.std.proofs.Common.{◌≡◌, ◌++◌, None, drop}
use Rattle.mcs_turns.specs.Mail.{reached_from}
use Rattle.mcs_explore_report.proofs.mail.reached_by.Given as goal

abbrev pub invariant-loop-i : goal.invariant-loop-i
invariant-loop-i l = l.all.items ++ reached_from l.got (drop l.i l.line.records) ≡ reached_from None l.line.records
