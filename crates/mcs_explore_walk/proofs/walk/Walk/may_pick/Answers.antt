use Rattle.std.specs.Prelude.{Some, nat_lt, option_copied, slice_get}
use Rattle.std.proofs.Common.{◌≡◌, ap, sym, ◌∙◌}
use Rattle.mcs_book.specs.History.{Book, log_of}
use Rattle.mcs_book.specs.Threads.{prio_of}
use Rattle.mcs_turns.specs.Turns.{User, RunState}
use Rattle.mcs_explore_walk.proofs.Scheduled.{equal-no, equal-yes, off, on, serial-no}
use Rattle.mcs_explore_walk.proofs.walk.Walk.may_pick.Goals as goal

pub returns-in-Serial-clause-no : goal.returns-in-Serial-clause-no
returns-in-Serial-clause-no g c = λ no.
    let candidate = c.args.candidate in
    let serial = sym (ap (λ (u : User). u.schedule) c.user.view_is) ∙ c.in-Serial.is in
    serial-no c.args.users.now c.args.self.now candidate.core c.args.best c.requires.best c.are_apart.ensures candidate.pick candidate.thread c.args.user.now
    c.requires.candidate.0 c.requires.user serial (sym c.is_same.ensures ∙ no)

pub returns-in-Some-clause-yes : goal.returns-in-Some-clause-yes
returns-in-Some-clause-yes g c = λ yes.
    let candidate = c.args.candidate in
    let walk : RunState = c.args.self.now in
    let first : User = c.in-Some.first.now in
    let equal = sym (ap (λ (u : User). u.schedule) c.user.view_is) ∙ c.in-Equal.is in
    let at : slice_get c.args.users.now c.args.best.user ≡ Some first = sym c.at.ensures ∙ ap (λ o. option_copied o) c.in-Some.is in
    let below : c.is_below.result ≡ nat_lt (prio_of (log_of walk.book) candidate.thread) (prio_of (log_of walk.book) first.thread) =
    c.is_below.ensures ∙ ap (λ (b : Book). nat_lt (prio_of (log_of b) candidate.thread) (prio_of (log_of b) c.first.inside.thread)) c.kernel.ensures
    ∙ ap (λ (u : User). nat_lt (prio_of (log_of walk.book) candidate.thread) (prio_of (log_of walk.book) u.thread)) c.first.view_is in
    equal-yes c.args.users.now walk candidate.core c.args.best c.requires.best candidate.pick candidate.thread c.args.user.now first
    c.requires.candidate.0 c.requires.user equal at (sym below ∙ off c.is_below.result yes)

pub returns-in-Some-clause-no : goal.returns-in-Some-clause-no
returns-in-Some-clause-no g c = λ no.
    let candidate = c.args.candidate in
    let walk : RunState = c.args.self.now in
    let first : User = c.in-Some.first.now in
    let equal = sym (ap (λ (u : User). u.schedule) c.user.view_is) ∙ c.in-Equal.is in
    let at : slice_get c.args.users.now c.args.best.user ≡ Some first = sym c.at.ensures ∙ ap (λ o. option_copied o) c.in-Some.is in
    let below : c.is_below.result ≡ nat_lt (prio_of (log_of walk.book) candidate.thread) (prio_of (log_of walk.book) first.thread) =
    c.is_below.ensures ∙ ap (λ (b : Book). nat_lt (prio_of (log_of b) candidate.thread) (prio_of (log_of b) c.first.inside.thread)) c.kernel.ensures
    ∙ ap (λ (u : User). nat_lt (prio_of (log_of walk.book) candidate.thread) (prio_of (log_of walk.book) u.thread)) c.first.view_is in
    equal-no c.args.users.now walk candidate.core c.args.best c.requires.best candidate.pick candidate.thread c.args.user.now first
    c.requires.candidate.0 c.requires.user equal at (sym below ∙ on c.is_below.result no)
