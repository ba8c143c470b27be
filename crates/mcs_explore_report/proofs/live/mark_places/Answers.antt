use Rattle.std.specs.Prelude.{◌≤◌, ◌+◌, drop, get_or, length}
use Rattle.std.proofs.Common.{arith, refl, ◌∙◌, ap}
use Rattle.std.proofs.lemmas.Option.{slice_get-get_or}
use Rattle.mcs_explore_report.specs.Stuck.{with_marks}
use Rattle.mcs_explore_report.proofs.Stuck.{marks-done, marks-on}
use Rattle.mcs_explore_report.proofs.live.mark_places.Goals as goal

pub loop-place-init : goal.loop-place-init
loop-place-init c = refl

pub loop-place-preserved : goal.loop-place-preserved
loop-place-preserved c =
    let i = c.loop-place.place-index in
    let all = c.args.places.now in
    ap (λ ms. with_marks (drop (i + 1) all) ms) c.mark_place.ensures ∙ marks-on all i (get_or all i 0) c.loop-place.marks.items (slice_get-get_or all i 0 c.loop-place-test.true) ∙ c.loop-place.invariant

pub returns : goal.returns
returns c =
    let long : length c.args.places.now ≤ c.loop-place.place-index = let done = c.loop-place-test.false in omega (arith, done) in
    marks-done c.args.places.now c.loop-place.place-index c.loop-place.marks.items long ∙ c.loop-place.invariant
