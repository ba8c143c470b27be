use Rattle.std.specs.Prelude.{◌≡◌, ◌<◌, ◌^◌, drop}
use Rattle.mcs_test_examples.specs.Rings.{turned_all}
use Rattle.mcs_test_examples.proofs.rings.Ring.turned_all.Given as goal

abbrev pub invariant-loop-doubles : goal.invariant-loop-doubles
invariant-loop-doubles l = record {
  place : turned_all l.self.n (drop l.doubles-index l.path) l.at ≡ turned_all l.self.n l.path 0;
  small : l.at < 2 ^ 32;
}
