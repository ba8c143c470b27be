use Rattle.std.proofs.Common.{◌≡◌, ◌≤◌, length, take, vec_capacity, vec_len}
use Rattle.mcs_slots.proofs.pages.copied_pages.Given as goal

abbrev pub invariant-loop-page : goal.invariant-loop-page
invariant-loop-page l = (l.copied.items ≡ take l.page-index l.pages) × (vec_len l.copied ≡ l.page-index) × (length l.pages ≤ vec_capacity l.copied)
