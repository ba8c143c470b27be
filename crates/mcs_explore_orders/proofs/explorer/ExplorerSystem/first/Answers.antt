use Rattle.std.specs.Prelude.{◌≡◌}
use Rattle.std.proofs.Common.{sym, ◌∙◌}
use Rattle.mcs_turns.specs.Turns.{beginning}
use Rattle.mcs_explore_orders.proofs.Nexts.{keyed}
use Rattle.mcs_explore_orders.proofs.Telling.{ok-any}
use Rattle.mcs_explore_orders.proofs.explorer.ExplorerSystem.first.Goals as goal

pub returns-clause-key : goal.returns-clause-key
returns-clause-key g c =
    let begin : c.deref-2.result.now ≡ beginning c.self.inside.users.now c.self.inside.boot.now = c.deref-2.ensures ∙ sym c.in_ok-walk.ensures.walk ∙ c.self.invariant.0 in
    keyed c.key.result _ _ _ _ c.key.new.self.met c.self.inside.users.now c.deref-2.result.now (beginning c.self.inside.users.now c.self.inside.boot.now) c.key.ensures.mode c.key.ensures.apart begin c.key.ensures.exact

pub returns-clause-seen : goal.returns-clause-seen
returns-clause-seen g c = rw (← c.self.view_is) (ok-any c.key.result (λ seen. seen))
