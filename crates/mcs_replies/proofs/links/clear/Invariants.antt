use Rattle.std.proofs.Common.{◌≡◌, length, None, ℕ, ◌-◌, cond}
use Rattle.mcs_replies.specs.Places.{place_number}
use Rattle.mcs_replies.specs.Links.{link_at, walk}
use Rattle.mcs_replies.specs.Neighbours.{has, Apart}
use Rattle.mcs_replies.proofs.links.clear.Given as goal

abbrev pub invariant-loop-step : goal.invariant-loop-step
invariant-loop-step l =
    Apart (walk (link_at l.links.items) (256 - l._step) (place_number l.at))
    × ((u : ℕ) → cond (has u (walk (link_at l.links.items) (256 - l._step) (place_number l.at))) None (link_at l.links.items u) ≡ cond (has u (walk (link_at l.fn.links.items) 256 (place_number l.fn.from))) None (link_at l.fn.links.items u))
    × (length l.links.items ≡ length l.fn.links.items)
