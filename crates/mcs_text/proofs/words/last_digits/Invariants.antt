use Rattle.std.proofs.Common.{◌<◌, ◌^◌}
use Rattle.mcs_text.specs.Digits.{Begins}
use Rattle.mcs_text.proofs.words.last_digits.Given as goal

abbrev pub invariant-loop-count : goal.invariant-loop-count
invariant-loop-count l = record {
  begins : Begins l.text l.count l.n;
  below : l.n < 10 ^ l.count;
}
