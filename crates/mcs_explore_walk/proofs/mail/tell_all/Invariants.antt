use Rattle.std.proofs.Common.{◌≡◌, ◌++◌, drop, take, None}
use Rattle.mcs_turns.specs.Mail.{reached_from}
use Rattle.mcs_turns.specs.Turns.{all_answered}
use Rattle.mcs_explore_walk.proofs.mail.tell_all.Given as goal

abbrev pub invariant-loop-place : goal.invariant-loop-place
invariant-loop-place l = all_answered (reached_from None l.line.records) l.own 0 l.users l.initial.places.items
    ≡ take l.place l.places.items ++ all_answered (reached_from None l.line.records) l.own l.place l.users (drop l.place l.places.items)
