use Rattle.std.proofs.Common.{◌≡◌, drop}
use Rattle.mcs_plan_domains.specs.Lowered.{plain_put}
use Rattle.mcs_plan_domains.specs.Pages.{page_of}
use Rattle.mcs_plan_domains.proofs.lowering.put_plain.Given as goal

abbrev pub invariant-loop-plain : goal.invariant-loop-plain
invariant-loop-plain l = plain_put (page_of l.out) (drop l.plain-index l.lines) ≡ plain_put (page_of l.fn.out) l.lines
