use Rattle.std.proofs.Common.{◌∙◌, ◌++◌}
use Rattle.mcs_book.specs.History.{log_of}
use Rattle.mcs_book.specs.Logs.{Log}
use Rattle.mcs_state.proofs.Asking.{word-said}
use Rattle.mcs_state.proofs.state.State.word.Goals as goal

pub returns : goal.returns
returns g c =
    let R : Log = c.self.inside.book.hand ++ log_of c.self.inside.book.book in
    rw (← c.self.view_is) (c.word.ensures ∙ c.self.invariant.1.notifications.words c.args.notification ∙ word-said R c.args.notification)
