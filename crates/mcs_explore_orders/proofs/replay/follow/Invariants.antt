use Rattle.std.proofs.Common.{◌≡◌, take}
use Rattle.mcs_book.specs.Boots.{Boot}
use Rattle.mcs_turns.specs.Turns.{RunState}
use Rattle.mcs_explore_search.specs.Paths.{Path}
use Rattle.mcs_explore_equivalence.specs.Runs.{IsReached}
use Rattle.mcs_explore_orders.specs.Trails.{Leads}
use Rattle.mcs_explore_orders.proofs.replay.follow.Given as goal

abbrev pub invariant-loop-index : goal.invariant-loop-index
invariant-loop-index g l = record {
  reached : (boot : Boot) → IsReached l.users boot l.fn.walk → IsReached l.users boot l.walk;
  path : (to : RunState) → Path (Leads l.users) l.fn.walk (take l.index l.turns) to → l.walk ≡ to;
}
