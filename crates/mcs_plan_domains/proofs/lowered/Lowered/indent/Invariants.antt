use Rattle.std.proofs.Common.{◌≡◌}
use Rattle.mcs_plan_domains.specs.Pages.{indented, page_of}
use Rattle.mcs_plan_domains.proofs.lowered.Lowered.indent.Given as goal

abbrev pub invariant-loop : goal.invariant-loop
invariant-loop l = page_of l.self ≡ indented (page_of l.fn.self) l.counter
