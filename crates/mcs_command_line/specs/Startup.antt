-- How the program ends where the command line asks for no run.
use Rattle.std.specs.Prelude.{◌≡◌, ◌⊎◌, ℕ}
use Rattle.clap.specs.declared.error.kind.ErrorKind.{ErrorKind}
use Rattle.clap.specs.declared.error.kind.ErrorKind.TheVariants as kind
use Rattle.std.specs.declared.io.ErrorKind.{ErrorKind as ReadKind}
use Rattle.std.specs.declared.io.ErrorKind.TheVariants as read
use Rattle.mcs_phases.specs.declared.fault.SimFault.{SimFault}
use Rattle.mcs_phases.specs.declared.fault.SimFault.TheVariants as fault
use Rattle.mcs_phases.specs.Faults.{fault_status}

-- the fault of an error in reading the arguments
abbrev pub reading_fault : ReadKind → SimFault
reading_fault read.OutOfMemory = fault.OutOfMemory
reading_fault _ = fault.Argument

-- a fault that reading the arguments gives
abbrev pub IsOfArguments : SimFault → Type 0
IsOfArguments e = (e ≡ fault.Argument) ⊎ (e ≡ fault.OutOfMemory)

-- the exit status where the command line asks for no run: the help and the version are no fault
abbrev pub answer_status : ErrorKind → ℕ
answer_status kind.DisplayHelp = 0
answer_status kind.DisplayVersion = 0
answer_status kind.OutOfMemory = fault_status fault.OutOfMemory
answer_status _ = fault_status fault.Argument
