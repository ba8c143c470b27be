use Rattle.std.proofs.Common.{◌≡◌, ◌+◌, true, drop}
use Rattle.mcs_plan_source.specs.Cutting.{code_len}
use Rattle.mcs_plan_source.proofs.words.code_len.Given as goal

abbrev pub invariant-loop-place : goal.invariant-loop-place
invariant-loop-place l = code_len true l.line ≡ l.place + code_len l.begins (drop l.place l.line)
