use Rattle.std.proofs.Common.{◌≡◌, true, subst, sym}
use Rattle.mcs_book.specs.History.{log_of}
use Rattle.mcs_book.specs.Statuses.{may_enter}
use Rattle.mcs_turns.specs.Turns.{User, RunState}
use Rattle.mcs_explore_walk.proofs.Walking.{limit}
use Rattle.mcs_explore_walk.proofs.walk.Walk.enter.Goals as goal

pub limit_of-requires : goal.limit_of-requires
limit_of-requires g c =
    let enters = subst (λ (u : User). may_enter (log_of c.self.inside.kernel) c.args.turn.core u.thread ≡ true) (sym c.list.view_is)
    (subst (λ (w : RunState). may_enter (log_of w.book) c.args.turn.core c.args.list.now.thread ≡ true) (sym c.self.view_is) c.requires.enters) in
    limit c.self.inside.kernel c.args.turn.core c.list.inside.thread c.enter.result c.in-Err.fault enters c.enter.ensures.turned c.enter.ensures.memory c.in-Err.is
