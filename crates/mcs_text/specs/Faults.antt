-- The numbers by which faults of a line are reported.
use Rattle.std.specs.Prelude.{ℕ}
use Rattle.mcs_text.specs.declared.fault.LineFault.{LineFault}
use Rattle.mcs_text.specs.declared.fault.LineFault.TheVariants as fault

-- the number of a fault; they are tested in the order 9, 7, 1, 8, 2, 3, 4, 5, 6
abbrev pub fault_number : LineFault → ℕ
fault_number fault.NoCores = 1
fault_number fault.Form = 2
fault_number fault.Number = 3
fault_number fault.NoObject = 4
fault_number fault.Limit = 5
fault_number fault.Taken = 6
fault_number fault.LongLine = 7
fault_number fault.LateBoot = 8
fault_number fault.ManyLines = 9
