use Rattle.std.proofs.Common.{◌≡◌, drop}
use Rattle.mcs_text.specs.Reading.{all_digits}
use Rattle.mcs_lab_forms.proofs.numbers.all_digits.Given as goal

abbrev pub invariant-loop-b : goal.invariant-loop-b
invariant-loop-b l = all_digits (drop l.b-index l.word) ≡ all_digits l.word
