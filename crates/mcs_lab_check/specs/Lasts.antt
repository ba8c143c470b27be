-- How many messages were sent before a record.
use Rattle.std.specs.Prelude.{◌+◌, ◌^◌, ◌≤◌}
use Rattle.mcs_lab_check.specs.declared.last.Last.{Last}
use Rattle.mcs_lab_check.specs.declared.last.Last.TheVariants.{NoStep, Away, LetIn}

-- each record sends at most one message
abbrev pub IsCounted : Last → Type 0
IsCounted NoStep = Unit {0}
IsCounted Away = Unit {0}
IsCounted (LetIn next sent) = sent ≤ 2 ^ 32 + next
