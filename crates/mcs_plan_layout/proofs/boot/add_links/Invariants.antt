use Rattle.std.proofs.Common.{◌≡◌, ◌++◌}
use Rattle.mcs_plan_layout.specs.Boot.{each, link_lines}
use Rattle.mcs_plan_layout.proofs.boot.add_links.Given as goal

abbrev pub invariant-loop-leaf : goal.invariant-loop-leaf
invariant-loop-leaf l = l.to.items ≡ l.initial.to.items ++ each l.leaf (link_lines l.site)
