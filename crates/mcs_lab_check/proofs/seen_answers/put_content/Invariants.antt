use Rattle.std.proofs.Common.{◌≡◌, ◌++◌, take}
use Rattle.std.specs.Prelude.{decimal}
use Rattle.std.specs.List.{flat_map}
use Rattle.mcs_text.specs.Spelling.{then_text}
use Rattle.mcs_lab_check.proofs.seen_answers.put_content.Given as goal

abbrev pub invariant-loop-word : goal.invariant-loop-word
invariant-loop-word l = l.to ≡ l.initial.to ++ flat_map (λ n. then_text (decimal n)) (take l.word-index l.words)
