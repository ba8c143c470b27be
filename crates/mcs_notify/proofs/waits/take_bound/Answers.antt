use Rattle.std.proofs.Common.{◌∙◌, ap, sym, subst, arith}
use Rattle.mcs_book.specs.Receiving.{pending_of_any}
use Rattle.mcs_book.proofs.SoundLogs.KeptLaws.{bound-there}
use Rattle.mcs_state.specs.Now.{so_far, adds_all}
use Rattle.mcs_state.specs.Doing.{Holds}
use Rattle.mcs_notify.proofs.Words.{bound-hears, bound-silent, bound-allowed}
use Rattle.mcs_notify.proofs.waits.take_bound.Goals as goal

pub returns-in_err-notification-clause-heard : goal.returns-in_err-notification-clause-heard
returns-in_err-notification-clause-heard g c =
    let R = so_far c.args.state.now in
    let none = ap (λ b. pending_of_any R b) (sym c.bound_of.ensures ∙ c.in_err-notification.was) in
    ap (λ made. adds_all made c.args.state.now) (sym (bound-silent R c.args.thread none))

pub pending-requires : goal.pending-requires
pending-requires g c = (bound-there (so_far c.args.state.now) c.args.thread c.in_ok-notification.notification c.is_sound.ensures.sound (sym c.bound_of.ensures ∙ c.in_ok-notification.was)).1

pub returns-in_err-word-clause-heard : goal.returns-in_err-word-clause-heard
returns-in_err-word-clause-heard g c =
    let R = so_far c.args.state.now in
    let none = ap (λ b. pending_of_any R b) (sym c.bound_of.ensures ∙ c.in_ok-notification.was) ∙ sym c.pending.ensures ∙ c.in_err-word.was in
    ap (λ made. adds_all made c.args.state.now) (sym (bound-silent R c.args.thread none))

pub hears-requires-clause-allowed : goal.hears-requires-clause-allowed
hears-requires-clause-allowed g c =
    bound-allowed (so_far c.args.state.now) c.args.thread c.in_ok-notification.notification c.in_ok-word.word c.is_sound.ensures.sound (sym c.bound_of.ensures ∙ c.in_ok-notification.was) (sym c.pending.ensures ∙ c.in_ok-word.was)

pub hears-requires-clause-room : goal.hears-requires-clause-room
hears-requires-clause-room g c =
    let is = bound-hears (so_far c.args.state.now) c.args.thread c.in_ok-notification.notification c.in_ok-word.word (sym c.bound_of.ensures ∙ c.in_ok-notification.was) (sym c.pending.ensures ∙ c.in_ok-word.was) in
    let room = subst (λ made. Holds made c.args.state.now) is c.requires in
    omega (arith, room)

pub returns-clause-heard : goal.returns-clause-heard
returns-clause-heard g c =
    let is = bound-hears (so_far c.args.state.now) c.args.thread c.in_ok-notification.notification c.in_ok-word.word (sym c.bound_of.ensures ∙ c.in_ok-notification.was) (sym c.pending.ensures ∙ c.in_ok-word.was) in
    c.hears.ensures ∙ ap (λ made. adds_all made c.args.state.now) (sym is)
