use Rattle.std.proofs.Common.{◌≡◌, ◌++◌}
use Rattle.mcs_book.specs.History.{log_of}
use Rattle.mcs_lab_diagram.specs.Looks.{looks_to}
use Rattle.mcs_lab_diagram.proofs.looks.add_looks.Given as goal

abbrev pub invariant-loop-before : goal.invariant-loop-before
invariant-loop-before l = l.looks.items ≡ l.initial.looks.items ++ looks_to (log_of l.kernel) l.before
