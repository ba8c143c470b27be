use Rattle.std.proofs.Common.{[], ap, ◌∙◌}
use Rattle.mcs_book.specs.Boots.{Boot}
use Rattle.mcs_book.specs.History.{Book}
use Rattle.mcs_kernel.proofs.Serving.{rests-begun}
use Rattle.mcs_kernel.proofs.kernel.Kernel.after.Goals as goal

pub invariant_of-result : goal.invariant_of-result
invariant_of-result g c =
    let begun : Boot → Book = λ b. record { boot = b; lines = [] } in
    rests-begun c.args.boot c.in_ok-state.state c.into_book-book.ensures.faultless c.in_ok-state.ensures.hand (c.in_ok-state.ensures.book ∙ ap begun c.into_book-book.ensures.boot)
