use Rattle.std.proofs.Common.{◌+◌, length, subst, sym}
use Rattle.std.proofs.lemmas.Option.{slice_get-get_or}
use Rattle.mcs_book.specs.History.{log_of}
use Rattle.mcs_explore_report.specs.Origins.{AreSo, IsOrigin}
use Rattle.mcs_explore_report.proofs.Slotting.{so-next}
use Rattle.mcs_explore_report.proofs.slots.origins_in.Goals as goal

pub loop-place-preserved : goal.loop-place-preserved
loop-place-preserved c =
    let Is = IsOrigin c.args.boot.now (log_of c.args.kernel.now) in
    let place = c.loop-place.place in
    let all = c.args.standing.now in
    subst (λ xs. AreSo Is all (place + 1) xs) (sym c.in_ok-push.ensures.items)
    (so-next Is all place c.loop-place.origins.items _ c.origin_of.result (slice_get-get_or all place _ c.loop-place-test.true) c.origin_of.ensures c.loop-place.invariant)
