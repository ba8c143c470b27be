use Rattle.std.proofs.Common.{◌∙◌, ◌++◌}
use Rattle.mcs_book.specs.History.{log_of}
use Rattle.mcs_book.specs.Logs.{Log}
use Rattle.mcs_state.proofs.Asking.{unsaid-rowless, said-row, priority-row}
use Rattle.mcs_state.proofs.state.State.priority_of.Goals as goal

pub returns-in-None : goal.returns-in-None
returns-in-None g c = rw (← c.self.view_is) (unsaid-rowless _ c.args.thread _ c.self.invariant.1.sound (c.in-None.ensures ∙ c.self.invariant.1.threads.rows c.args.thread))

pub returns-in-Some : goal.returns-in-Some
returns-in-Some g c =
    let R : Log = c.self.inside.book.hand ++ log_of c.self.inside.book.book in
    let row = c.in-Some.ensures ∙ c.self.invariant.1.threads.rows c.args.thread in
    rw (← c.self.view_is) (said-row R c.args.thread _ _ _ c.self.invariant.1.sound row (priority-row R c.args.thread _ row))
