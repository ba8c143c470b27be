use Rattle.std.proofs.Common.{◌≡◌, ◌≤◌, take, length, map, vec_capacity}
use Rattle.mcs_slots.specs.Pages.{empty_page, ArePages}
use Rattle.mcs_slots.proofs.pages.Pages.new.Given as goal

abbrev pub invariant-loop-radix : goal.invariant-loop-radix
invariant-loop-radix l = (l.pages.items ≡ map empty_page (take l.radix-index l.radices)) × (length l.radices ≤ vec_capacity l.pages) × ArePages l.pages.items
