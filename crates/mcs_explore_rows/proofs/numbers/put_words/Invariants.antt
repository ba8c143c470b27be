use Rattle.std.proofs.Common.{◌≡◌, ◌++◌, drop}
use Rattle.mcs_explore_rows.specs.Numbers.{one, list_numbers}
use Rattle.mcs_explore_rows.proofs.numbers.put_words.Given as goal

abbrev pub invariant-loop-word : goal.invariant-loop-word
invariant-loop-word l = l.fn.row.items ++ list_numbers one l.words ≡ l.row.items ++ list_numbers one (drop l.word-index l.words)
