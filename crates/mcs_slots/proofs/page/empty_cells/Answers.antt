use Rattle.std.proofs.Common.{◌++◌, ◌∷◌, [], None, ap, ◌∙◌}
use Rattle.std.proofs.lemmas.List.{replicate-append-replicate}
use Rattle.mcs_slots.proofs.page.empty_cells.Goals as goal

pub loop-preserved : goal.loop-preserved
loop-preserved c = c.in_ok-push.ensures.items ∙ rw c.empty.ensures (ap (λ l. l ++ None ∷ []) c.loop.invariant ∙ replicate-append-replicate c.loop.counter 1 None)
