use Rattle.std.specs.Prelude.{◌≡◌, ◌<◌, length}
use Rattle.std.proofs.Common.{arith, refl}
use Rattle.mcs_explore_search.proofs.Places.{at-within}
use Rattle.mcs_explore_report.proofs.Lists.{same-lists}
use Rattle.mcs_explore_report.proofs.ends.is_same_kind.Goals as goal

pub returns : goal.returns
returns c =
    let one = c.args.standing.now in
    let other = c.args.other.now in
    let long : length one ≡ length other = let is = c.if-standing-other.false in omega (arith, is) in (
      λ h. same-lists one other long (λ i x y p q.
          let lt : i < c.loop-index.index = let within = at-within one i x p in let done = c.loop-index-test.false in omega (arith, within, done) in
          c.loop-index.invariant i x y lt p q),
      λ e. refl,
    )
