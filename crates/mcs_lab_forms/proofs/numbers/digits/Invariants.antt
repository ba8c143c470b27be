use Rattle.std.proofs.Common.{◌≡◌, ◌<◌, drop}
use Rattle.mcs_text.specs.Reading.{value_after, value}
use Rattle.mcs_lab_forms.proofs.numbers.digits.Given as goal

abbrev pub invariant-loop-digit : goal.invariant-loop-digit
invariant-loop-digit l = record {
  so_far : value_after l.n (drop l.digit-index l.word) ≡ value l.word;
  fits : l.n < 18446744073709551616;
}
