use Rattle.mcs_explore_rows.specs.Naming.{Keeps}
use Rattle.mcs_explore_keys.proofs.keys.put_threads.Given as goal

abbrev pub invariant-loop-place : goal.invariant-loop-place
invariant-loop-place g l = Keeps l.fn.met l.met
