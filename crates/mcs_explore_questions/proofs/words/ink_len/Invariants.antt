use Rattle.std.proofs.Common.{◌≡◌, ◌≤◌, drop}
use Rattle.mcs_explore_questions.specs.Questions.{ink_len}
use Rattle.mcs_explore_questions.proofs.words.ink_len.Given as goal

abbrev pub invariant-loop-place : goal.invariant-loop-place
invariant-loop-place l = record {
  same : ink_len 0 0 l.text ≡ ink_len l.kept l.place (drop l.place l.text);
  within : l.kept ≤ l.place;
}
