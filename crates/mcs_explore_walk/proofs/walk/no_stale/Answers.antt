use Rattle.std.proofs.Common.{ap, ◌∙◌, sym, ◌++◌, ◌∷◌, [], ◌-◌, ◌+◌}
use Rattle.mcs_turns.specs.Due.{none_stale}
use Rattle.mcs_explore_walk.proofs.Picking.{none-next}
use Rattle.mcs_explore_walk.proofs.walk.no_stale.Goals as goal

pub loop-core-preserved : goal.loop-core-preserved
loop-core-preserved c = c.loop-core.invariant ∙ none-next c.loop-core.stale.items c.args.cores c.loop-core.core c.loop-core-test.true
    ∙ ap (λ s. s ++ none_stale (c.args.cores - (c.loop-core.core + 1))) (ap (λ p. c.loop-core.stale.items ++ p ∷ []) (sym c.new.ensures) ∙ sym c.in_ok-push.ensures)
