use Rattle.std.proofs.Common.{◌≡◌, drop, None}
use Rattle.mcs_explore_walk.specs.Mail.{answered_from}
use Rattle.mcs_explore_walk.proofs.mail.answered_in.Given as goal

abbrev pub invariant-loop-i : goal.invariant-loop-i
invariant-loop-i l = answered_from l.line.records None l.user l.initial.now ≡ answered_from (drop l.i l.line.records) l.got l.user l.now
