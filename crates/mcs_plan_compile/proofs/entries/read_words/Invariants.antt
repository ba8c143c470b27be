use Rattle.std.proofs.Common.{◌≡◌, ◌+◌, length, string_bytes}
use Rattle.mcs_plan_compile.specs.Entries.{numbers_more}
use Rattle.mcs_plan_compile.proofs.entries.read_words.Given as goal

abbrev pub invariant-loop : goal.invariant-loop
invariant-loop l =
    (length l.words + l.counter ≡ l.end) × (numbers_more l.fn.words (string_bytes l.fn.to) ≡ numbers_more l.words (string_bytes l.to))
