use Rattle.std.proofs.Common.{◌≡◌, true, [], subst}
use Rattle.mcs_explore_run.specs.Samples.{any_fails}
use Rattle.mcs_explore_run.proofs.Judging.{one-of}
use Rattle.mcs_explore_run.proofs.evidence.all_judged.Goals as goal

none_fails : any_fails [] ≡ true → ⊥
none_fails e = absurd cc

pub loop-number-init : goal.loop-number-init
loop-number-init c = λ any. absurd (none_fails (subst (λ js. any_fails js ≡ true) c.new-all.ensures.items any))

pub loop-number-preserved : goal.loop-number-preserved
loop-number-preserved c = λ any. one-of c.loop-number.invariant (c.in_ok-push_judged.ensures any)
