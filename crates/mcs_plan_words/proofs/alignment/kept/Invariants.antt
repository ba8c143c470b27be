use Rattle.std.proofs.Common.{◌≡◌, ◌++◌, length}
use Rattle.mcs_text.specs.Reading.{lines_of}
use Rattle.mcs_plan_words.specs.Alignment.{kept}
use Rattle.mcs_plan_words.proofs.alignment.kept.Given as goal

abbrev pub invariant-loop-line : goal.invariant-loop-line
invariant-loop-line l = (l.all.items ++ kept l.asks l.lines) ≡ kept l.asks (lines_of l.text)

abbrev pub decreases-loop-line : goal.decreases-loop-line
decreases-loop-line l = length l.lines
