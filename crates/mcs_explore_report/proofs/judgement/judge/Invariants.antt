use Rattle.std.specs.Prelude.{ℕ, ◌≡◌, ◌<◌, ◌≤◌, Option, Some, length, slice_get}
use Rattle.mcs_explore_script.specs.declared.questions.AskedLine.{AskedLine}
use Rattle.mcs_explore_report.specs.declared.judgement.Sighting.{Sighting}
use Rattle.mcs_explore_report.specs.Judged.{judged}
use Rattle.mcs_explore_report.proofs.judgement.judge.Given as goal

abbrev pub invariant-loop-number : goal.invariant-loop-number
invariant-loop-number l = record {
  long : length l.failed.items ≡ length l.initial.failed.items;
  done : (k : ℕ) (q : AskedLine) (f : Option Sighting) → k < l.number → slice_get l.asked k ≡ Some q → slice_get l.initial.failed.items k ≡ Some f → slice_get l.failed.items k ≡ Some (judged l.users q.asked l.seen l.walk f);
  rest : (k : ℕ) → l.number ≤ k → slice_get l.failed.items k ≡ slice_get l.initial.failed.items k;
}
