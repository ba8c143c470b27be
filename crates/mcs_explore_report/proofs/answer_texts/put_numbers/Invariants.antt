use Rattle.std.specs.Prelude.{◌≡◌, ◌++◌, take}
use Rattle.std.specs.List.{flat_map}
use Rattle.mcs_explore_report.specs.Saying.{number_text}
use Rattle.mcs_explore_report.proofs.answer_texts.put_numbers.Given as goal

abbrev pub invariant-loop-index : goal.invariant-loop-index
invariant-loop-index l = l.text.items ≡ l.initial.text.items ++ flat_map number_text (take l.index l.numbers)
