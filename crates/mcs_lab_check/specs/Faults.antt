-- How a fault ends the program, and what is reported about the line that has it.
use Rattle.std.specs.Prelude.{Option, Some, None}
use Rattle.mcs_lab_check.specs.declared.flaw.Flaw.{Flaw}
use Rattle.mcs_lab_check.specs.declared.outcome.Outcome.{Outcome}
use Rattle.mcs_lab_check.specs.declared.outcome.Outcome.TheVariants as outcome
use Rattle.mcs_lab_check.specs.declared.fault.LabFault.{LabFault}
use Rattle.mcs_lab_check.specs.declared.fault.LabFault.TheVariants as fault

-- how a fault ends the program
abbrev pub outcome_of : LabFault → Outcome
outcome_of (fault.Script line why) = outcome.Refused
outcome_of (fault.Form line) = outcome.Refused
outcome_of (fault.Flawed line why flaw) = outcome.Refused
outcome_of (fault.NoLine line count) = outcome.Call
outcome_of (fault.NoBookLine line count) = outcome.Call
outcome_of fault.Read = outcome.Read
outcome_of fault.Write = outcome.Write
outcome_of fault.BookFull = outcome.BookFull
outcome_of fault.OutOfMemory = outcome.OutOfMemory

-- the fault that a line has, with a flaw of the line
abbrev pub with_flaw : Flaw → LabFault → LabFault
with_flaw flaw (fault.Script line why) = fault.Flawed line (Some why) flaw
with_flaw flaw (fault.Form line) = fault.Flawed line None flaw
with_flaw flaw (fault.Flawed line why other) = fault.Flawed line why other
with_flaw flaw (fault.NoLine line count) = fault.NoLine line count
with_flaw flaw (fault.NoBookLine line count) = fault.NoBookLine line count
with_flaw flaw fault.Read = fault.Read
with_flaw flaw fault.Write = fault.Write
with_flaw flaw fault.BookFull = fault.BookFull
with_flaw flaw fault.OutOfMemory = fault.OutOfMemory

-- the same, where the line has a flaw
abbrev pub seen_with : Option Flaw → LabFault → LabFault
seen_with (Some flaw) f = with_flaw flaw f
seen_with None f = f
