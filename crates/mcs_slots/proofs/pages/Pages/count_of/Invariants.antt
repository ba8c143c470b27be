use Rattle.std.proofs.Common.{◌≡◌, ◌≤◌, ◌*◌, take, length}
use Rattle.mcs_slots.specs.Pages.{held}
use Rattle.mcs_slots.proofs.pages.Pages.count_of.Given as goal

abbrev pub invariant-loop-page : goal.invariant-loop-page
invariant-loop-page l = (l.page-items ≡ l.self) × (l.count ≡ held (take l.page-index l.page-items) l.obj) × (l.count ≤ 256 * l.page-index) × (length l.page-items ≤ 64)
