use Rattle.std.proofs.Common.{◌-◌, ◌≡◌, ◌≤◌, IfSome}
use Rattle.mcs_types.specs.declared.id.Kind.TheVariants as kind
use Rattle.mcs_book.specs.Sound.{IsThere}
use Rattle.mcs_state.specs.Now.{so_far}
use Rattle.mcs_state.specs.Picking.{thread_at, best_below}
use Rattle.mcs_state.proofs.state.State.pick.Given as goal

abbrev pub invariant-loop-number : goal.invariant-loop-number
invariant-loop-number g l =
    (l.number ≤ l.count)
    × (l.best ≡ best_below (so_far l.self) l.core l.passed l.number)
    × IfSome l.best (λ n. IsThere (so_far l.self) kind.Thread (thread_at n))

abbrev pub decreases-loop-number : goal.decreases-loop-number
decreases-loop-number g l = l.count - l.number
