use Rattle.std.specs.Prelude.{◌≤◌, ◌<◌, length, slice_index_or}
use Rattle.std.proofs.Common.{arith, refl, subst, ◌∙◌}
use Rattle.mcs_explore_orders.specs.Exploring.{AreNextsOf, numbers_of}
use Rattle.mcs_explore_orders.specs.Shown.{HasCounted, Tells}
use Rattle.mcs_explore_orders.specs.Watching.{counting}
use Rattle.mcs_explore_walk.specs.declared.walk.Turn.{Turn}
use Rattle.mcs_explore_orders.specs.Later.{goes-further, goes-itself}
use Rattle.mcs_explore_walk.proofs.Turning.{or-at}
use Rattle.mcs_explore_orders.proofs.Nexts.{next-more, no-nexts, take-all}
use Rattle.mcs_explore_orders.proofs.Telling.{nothing-reported, tells-more}
use Rattle.mcs_explore_orders.proofs.explorer.Explorer.add_nexts.Goals as goal

pub loop-index-init : goal.loop-index-init
loop-index-init g c = record {
  later = goes-itself g.W.Watch.aim _;
  trail = refl;
  nexts = no-nexts _ _ c.args.turns.now c.args.nexts.now.items c.requires.none;
  tells = nothing-reported (HasCounted g.W.Watch.HasSeen) _ _ _ _;
}

pub loop-index-preserved : goal.loop-index-preserved
loop-index-preserved g c =
    let kept = c.loop-index.invariant in
    let turns = c.args.turns.now in
    let n = c.loop-index.index in
    let few : n < length turns = c.loop-index-test.true in
    let turn : Turn = slice_index_or turns n (record { core = record { 0 = 0 }; pick = record { user = 0; number = 0 } }) in
    let at = or-at turns n (record { core = record { 0 = 0 }; pick = record { user = 0; number = 0 } }) few in
    record {
      later = goes-further g.W.Watch.aim _ c.loop-index.self _ kept.later c.in_ok-add_copy.ensures.later;
      trail = c.in_ok-add_copy.ensures.trail ∙ kept.trail;
      nexts = next-more c.add_copy.new.self.search c.args.walk.now turns n turn _ at (c.in_ok-add_copy.ensures.nexts _ kept.nexts);
      tells = tells-more (HasCounted g.W.Watch.HasSeen) _ (counting c.loop-index.self) (counting c.add_copy.new.self) _ c.loop-index.self.search.users c.args.place c.args.walk.now turns n turn kept.later.search.users at c.in_ok-add_copy.ensures.reported kept.tells;
    }

pub returns-clause-nexts : goal.returns-clause-nexts
returns-clause-nexts g c =
    let full : length c.args.turns.now ≤ c.loop-index.index = let done = c.loop-index-test.false in omega (arith, done) in
    subst (λ ts. AreNextsOf c.loop-index.self.search c.args.walk.now ts (numbers_of c.loop-index.nexts.items)) (take-all c.args.turns.now c.loop-index.index full) c.loop-index.invariant.nexts

pub returns-clause-reported : goal.returns-clause-reported
returns-clause-reported g c =
    let full : length c.args.turns.now ≤ c.loop-index.index = let done = c.loop-index-test.false in omega (arith, done) in
    subst (λ ts. Tells (HasCounted g.W.Watch.HasSeen) (counting c.args.self.now) (counting c.loop-index.self) c.args.self.now.search.users c.args.place c.args.walk.now ts) (take-all c.args.turns.now c.loop-index.index full) c.loop-index.invariant.tells
