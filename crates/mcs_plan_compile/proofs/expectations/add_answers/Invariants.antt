use Rattle.std.proofs.Common.{◌≡◌, ◌+◌, length, string_bytes}
use Rattle.mcs_plan_compile.specs.Wanting.{answers_more}
use Rattle.mcs_plan_compile.proofs.expectations.add_answers.Given as goal

abbrev pub invariant-loop : goal.invariant-loop
invariant-loop l =
    (length l.words + l.counter ≡ l.end) × (answers_more l.names l.fn.words (string_bytes l.fn.to) ≡ answers_more l.names l.words (string_bytes l.to))
