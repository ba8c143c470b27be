use Rattle.std.proofs.Common.{◌≡◌, ◌≤◌, take, length, count_by}
use Rattle.mcs_book.specs.Slots.{is_cap_to}
use Rattle.mcs_slots.proofs.page.Page.count_of.Given as goal

abbrev pub invariant-loop-cap : goal.invariant-loop-cap
invariant-loop-cap l = (l.cap-items ≡ l.self.caps) × (l.count ≡ count_by (is_cap_to l.obj) (take l.cap-index l.cap-items)) × (l.count ≤ l.cap-index) × (length l.cap-items ≤ 256)
