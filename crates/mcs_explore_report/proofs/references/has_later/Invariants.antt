use Rattle.std.proofs.Common.{◌≡◌, length}
use Rattle.std.specs.List.{list_any}
use Rattle.mcs_text.specs.Reading.{words_of}
use Rattle.mcs_explore_report.specs.Naming.{is_later}
use Rattle.mcs_explore_report.proofs.references.has_later.Given as goal

abbrev pub invariant-loop-word : goal.invariant-loop-word
invariant-loop-word l = list_any (is_later l.boot) (words_of l.pattern) ≡ list_any (is_later l.boot) l.words

abbrev pub decreases-loop-word : goal.decreases-loop-word
decreases-loop-word l = length l.words
