use Rattle.std.specs.Prelude.{option_copied, slice_get}
use Rattle.std.proofs.Common.{◌≡◌, Some, ap, sym, subst, ◌∙◌}
use Rattle.mcs_book.specs.History.{log_of}
use Rattle.mcs_book.specs.Picking.{GoesBefore}
use Rattle.mcs_turns.specs.Turns.{User, RunState}
use Rattle.mcs_explore_walk.specs.Walks.{IsBestBelow}
use Rattle.mcs_explore_walk.proofs.Picking.{goes_after, goes_first}
use Rattle.mcs_explore_walk.proofs.walk.Walk.better.Goals as goal

pub returns-then-goes_before : goal.returns-then-goes_before
returns-then-goes_before g c =
    let users = c.args.users.now in
    let walk = c.args.self.now in
    let at : slice_get users c.in-Some.before.user ≡ Some c.in-Some-at.list.now = sym c.at.ensures ∙ ap (λ o. option_copied o) c.in-Some-at.is in
    let goes = subst (λ (w : RunState). GoesBefore (log_of w.book) c.args.candidate.thread c.in-Some-at.list.now.thread) c.self.view_is
    (subst (λ (u : User). GoesBefore (log_of c.self.inside.kernel) c.args.candidate.thread u.thread) c.list.view_is (c.goes_before.ensures.yes c.if-goes_before.true)) in
    goes_first users walk c.args.user c.args.candidate c.in-Some.before c.in-Some-at.list.now c.requires.candidate
    (subst (λ b. IsBestBelow users walk c.args.candidate.core c.args.user b) c.in-Some.is c.requires.best) at goes

pub returns-else-goes_before : goal.returns-else-goes_before
returns-else-goes_before g c =
    let users = c.args.users.now in
    let walk = c.args.self.now in
    let at : slice_get users c.in-Some.before.user ≡ Some c.in-Some-at.list.now = sym c.at.ensures ∙ ap (λ o. option_copied o) c.in-Some-at.is in
    let goes = subst (λ (w : RunState). GoesBefore (log_of w.book) c.in-Some-at.list.now.thread c.args.candidate.thread) c.self.view_is
    (subst (λ (u : User). GoesBefore (log_of c.self.inside.kernel) u.thread c.args.candidate.thread) c.list.view_is (c.goes_before.ensures.no c.if-goes_before.false)) in
    goes_after users walk c.args.user c.args.candidate c.in-Some.before c.in-Some-at.list.now c.requires.candidate
    (subst (λ b. IsBestBelow users walk c.args.candidate.core c.args.user b) c.in-Some.is c.requires.best) at goes
