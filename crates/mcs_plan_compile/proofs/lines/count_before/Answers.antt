use Rattle.std.proofs.Common.{◌≡◌, ◌+◌, drop, sym, ◌∙◌, arith}
use Rattle.mcs_plan_source.specs.Naming.{texts}
use Rattle.mcs_plan_compile.specs.Stepping.{count_before}
use Rattle.mcs_plan_compile.proofs.Colons.{stops_here, goes_on}
use Rattle.mcs_plan_compile.proofs.lines.count_before.Goals as goal

pub returns-then-begins_steps-clause-value : goal.returns-then-begins_steps-clause-value
returns-then-begins_steps-clause-value c =
    let here = stops_here c.args.lines.now c.loop-place.place _ c.loop-place-test.true (sym c.begins_steps.ensures ∙ c.if-begins_steps.true) in
    let all : count_before (texts c.args.lines.now) ≡ c.loop-place.place + count_before (drop c.loop-place.place (texts c.args.lines.now)) = c.loop-place.invariant in
    omega (arith, here, all)

pub loop-place-preserved : goal.loop-place-preserved
loop-place-preserved c =
    let here = goes_on c.args.lines.now c.loop-place.place _ c.loop-place-test.true (sym c.begins_steps.ensures ∙ c.if-begins_steps.false) in
    let all : count_before (texts c.args.lines.now) ≡ c.loop-place.place + count_before (drop c.loop-place.place (texts c.args.lines.now)) = c.loop-place.invariant in
    omega (arith, here, all)
