-- The exit statuses.
use Rattle.std.specs.Prelude.{ℕ}
use Rattle.mcs_lab_check.specs.declared.outcome.Outcome.{Outcome}
use Rattle.mcs_lab_check.specs.declared.outcome.Outcome.TheVariants as outcome

-- the exit status by how a command ends
abbrev pub status_of : Outcome → ℕ
status_of outcome.Done = 0
status_of outcome.Unmet = 1
status_of outcome.Refused = 2
status_of outcome.Read = 8
status_of outcome.Write = 4
status_of outcome.BookFull = 5
status_of outcome.OutOfMemory = 6
status_of outcome.Stopped = 3
status_of outcome.Call = 64
