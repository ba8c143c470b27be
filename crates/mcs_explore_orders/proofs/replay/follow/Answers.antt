use Rattle.std.specs.Prelude.{◌≤◌, ◌<◌, length, slice_index_or}
use Rattle.std.proofs.Common.{arith, subst, sym}
use Rattle.mcs_explore_search.specs.Paths.{Path}
use Rattle.mcs_explore_walk.specs.declared.walk.Turn.{Turn}
use Rattle.mcs_explore_orders.specs.Trails.{Leads}
use Rattle.mcs_explore_walk.proofs.Turning.{or-at}
use Rattle.mcs_explore_orders.proofs.Nexts.{take-all}
use Rattle.mcs_explore_orders.proofs.Reaching.{path-next, reached-on}
use Rattle.mcs_explore_orders.proofs.replay.follow.Goals as goal

pub loop-index-init : goal.loop-index-init
loop-index-init g c = record {
  reached = λ boot reached. reached;
  path = λ to path. path;
}

pub loop-index-preserved : goal.loop-index-preserved
loop-index-preserved g c =
    let users = c.args.users.now in
    let turns = c.args.turns.now in
    let n = c.loop-index.index in
    let few : n < length turns = let more = c.loop-index-test.true in omega (arith, more) in
    let turn : Turn = slice_index_or turns n (record { core = record { 0 = 0 }; pick = record { user = 0; number = 0 } }) in
    let at = or-at turns n (record { core = record { 0 = 0 }; pick = record { user = 0; number = 0 } }) few in
    record {
      reached = λ boot reached. reached-on users boot c.loop-index.walk c.step.new.walk (c.loop-index.invariant.reached boot reached) c.in_ok-step.ensures.moves;
      path = path-next users c.args.walk.now turns n turn c.loop-index.walk c.step.new.walk at c.in_ok-step.ensures.leads c.loop-index.invariant.path;
    }

pub returns-clause-path : goal.returns-clause-path
returns-clause-path g c = λ to path.
    let users = c.args.users.now in
    let turns = c.args.turns.now in
    let full : length turns ≤ c.loop-index.index = let done = c.loop-index-test.false in omega (arith, done) in
    c.loop-index.invariant.path to (subst (λ ls. Path (Leads users) c.args.walk.now ls to) (sym (take-all turns c.loop-index.index full)) path)
