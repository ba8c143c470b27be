use Rattle.std.specs.Prelude.{◌≡◌, ◌++◌, take}
use Rattle.std.specs.List.{flat_map}
use Rattle.mcs_explore_graph.specs.Graphs.{reached_text}
use Rattle.mcs_explore_graph.proofs.labels.put_all_reached.Given as goal

abbrev pub invariant-loop-index : goal.invariant-loop-index
invariant-loop-index l = l.text.items ≡ l.initial.text.items ++ flat_map reached_text (take l.index l.all)
