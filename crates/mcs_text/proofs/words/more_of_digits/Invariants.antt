use Rattle.std.proofs.Common.{◌-◌, ◌<◌, ◌≤◌, ◌^◌}
use Rattle.mcs_text.specs.Digits.{Begins}
use Rattle.mcs_text.proofs.words.more_of_digits.Given as goal

abbrev pub invariant-loop-count : goal.invariant-loop-count
invariant-loop-count l = record {
  begins : Begins l.text l.count l.n;
  below : l.n < 10 ^ l.count;
  few : l.count ≤ 18;
}

abbrev pub decreases-loop-count : goal.decreases-loop-count
decreases-loop-count l = 18 - l.count
