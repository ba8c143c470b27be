use Rattle.std.proofs.Common.{◌≡◌, take}
use Rattle.mcs_explore_orders.specs.Exploring.{AreNextsOf, numbers_of}
use Rattle.mcs_explore_orders.specs.Shown.{HasCounted, Tells}
use Rattle.mcs_explore_orders.specs.Watching.{GoesOn, counting}
use Rattle.mcs_explore_orders.proofs.explorer.Explorer.add_nexts.Given as goal

abbrev pub invariant-loop-index : goal.invariant-loop-index
invariant-loop-index g l = record {
  later : GoesOn g.W.Watch.aim l.initial.self l.self;
  trail : l.self.search.trail ≡ l.initial.self.search.trail;
  nexts : AreNextsOf l.self.search l.walk (take l.index l.turns) (numbers_of l.nexts.items);
  tells : Tells (HasCounted g.W.Watch.HasSeen) (counting l.initial.self) (counting l.self) l.initial.self.search.users l.place l.walk (take l.index l.turns);
}
