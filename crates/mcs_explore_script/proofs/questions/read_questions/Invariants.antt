use Rattle.std.proofs.Common.{◌≡◌, ◌≤◌, ◌+◌, ◌++◌, length, map}
use Rattle.mcs_text.specs.Reading.{lines_of}
use Rattle.mcs_explore_questions.specs.There.{scene_of}
use Rattle.mcs_explore_script.specs.Questions.{questions_from, said_by}
use Rattle.mcs_explore_script.proofs.questions.read_questions.Given as goal

abbrev pub invariant-loop-line : goal.invariant-loop-line
invariant-loop-line l = record {
  said : map said_by l.all.items ++ questions_from (scene_of l.there) l.number l.lines ≡ questions_from (scene_of l.there) 1 (lines_of l.text);
  few : l.number + length l.lines ≤ 1 + length l.text;
}

abbrev pub decreases-loop-line : goal.decreases-loop-line
decreases-loop-line l = length l.lines
