use Rattle.std.proofs.Common.{◌≡◌, fold, map, take}
use Rattle.mcs_plan_source.specs.Saying.{said, said_space, said_passive}
use Rattle.mcs_plan_layout.specs.Starting.{no_slots, with_context_of}
use Rattle.mcs_plan_layout.proofs.starter.space_of.Given as goal

abbrev pub invariant-loop-passive : goal.invariant-loop-passive
invariant-loop-passive l =
    said_space l.space ≡ fold (λ space p. with_context_of (said l.plan) p.thread space) no_slots (map said_passive (take l.passive-index l.plan.passives.items))
