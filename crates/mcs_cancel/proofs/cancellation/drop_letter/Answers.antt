use Rattle.std.proofs.Common.{◌≡◌, Some, ap, sym, ◌∙◌, option_copied}
use Rattle.mcs_book.specs.Messages.{open_of}
use Rattle.mcs_book.proofs.Messages.MessageLaws.{open_of-open}
use Rattle.mcs_state.specs.Now.{so_far}
use Rattle.mcs_cancel.proofs.cancellation.drop_letter.Goals as goal

pub drops-requires-clause-allowed : goal.drops-requires-clause-allowed
drops-requires-clause-allowed g c =
    let R = so_far c.args.state.now in
    let is : open_of R c.args.thread ≡ Some c.in-Some.letter.now = sym c.letter.ensures ∙ ap (λ o. option_copied o) c.in-Some.is in
    (open_of-open R c.args.thread c.in-Some.letter.now is).1
