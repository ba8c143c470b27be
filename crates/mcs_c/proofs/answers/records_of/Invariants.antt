use Rattle.std.proofs.Common.{◌≡◌, map, take}
use Rattle.mcs_c.specs.Answering.{record_of}
use Rattle.mcs_c.proofs.answers.records_of.Given as goal

-- the records so far
abbrev pub invariant-loop-i : goal.invariant-loop-i
invariant-loop-i l = l.records.items ≡ map record_of (take l.i l.line.records)
