use Rattle.mcs_book.specs.History.{log_of}
use Rattle.mcs_lab_diagram.specs.Picks.{AddsPicks}
use Rattle.mcs_lab_diagram.proofs.drawn.add_picks.Given as goal

-- the picks of the cores so far
abbrev pub invariant-loop-core : goal.invariant-loop-core
invariant-loop-core l = AddsPicks (log_of l.kernel) l.core l.initial.picks.items l.picks.items
