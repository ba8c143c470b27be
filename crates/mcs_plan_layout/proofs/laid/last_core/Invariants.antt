use Rattle.std.proofs.Common.{◌≡◌, fold, max, take}
use Rattle.mcs_plan_layout.proofs.laid.last_core.Given as goal

abbrev pub invariant-loop-core : goal.invariant-loop-core
invariant-loop-core l = l.last ≡ fold (λ last core. max core.0 last) 0 (take l.core-index l.contexts)
