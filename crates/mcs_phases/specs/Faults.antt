-- How the program tells that it ends early: one line of text, and its exit status.
use Rattle.std.specs.Prelude.{ℕ, List, ◌++◌, codes, decimal}
use Rattle.mcs_text.specs.Faults.{fault_number}
use Rattle.mcs_phases.specs.declared.fault.SimFault.{SimFault}
use Rattle.mcs_phases.specs.declared.fault.SimFault.TheVariants as fault

-- the exit status of a fault
abbrev pub fault_status : SimFault → ℕ
fault_status fault.Argument = 1
fault_status (fault.Script line why) = 2
fault_status fault.Read = 3
fault_status fault.Write = 4
fault_status fault.BookFull = 5
fault_status fault.OutOfMemory = 6
fault_status fault.Failed = 7
fault_status fault.NotStarted = 7

-- the line that tells a fault, without its newline
abbrev pub fault_text : SimFault → List ℕ
fault_text fault.Argument = codes "mcssim: an argument is not UTF-8"
fault_text (fault.Script line why) = codes "mcssim: line " ++ decimal line ++ codes ": fault " ++ decimal (fault_number why)
fault_text fault.Read = codes "mcssim: read fault"
fault_text fault.Write = codes "mcssim: write fault"
fault_text fault.BookFull = codes "mcssim: book full"
fault_text fault.OutOfMemory = codes "mcssim: out of memory"
fault_text fault.Failed = codes "mcssim: run failed"
fault_text fault.NotStarted = codes "mcssim: run failed"
