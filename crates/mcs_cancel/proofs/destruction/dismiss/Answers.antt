use Rattle.std.proofs.Common.{refl, sym, ◌∙◌, subst}
use Rattle.mcs_types.specs.declared.record.Mode.TheVariants.{Inactive}
use Rattle.mcs_types.specs.declared.record.Queue.TheVariants.{Receivers}
use Rattle.mcs_book.specs.Cancelling.{cancel}
use Rattle.mcs_book.specs.Pieces.{with_any}
use Rattle.mcs_book.specs.Sound.{IsUnattended}
use Rattle.mcs_book.proofs.SoundLogs.KeptLaws.{standing-thread}
use Rattle.mcs_book.proofs.Threads.UserLaws.{receiver_with-named, unattended-none}
use Rattle.mcs_state.specs.Doing.{Makes, HasRoomFor}
use Rattle.mcs_state.specs.Now.{so_far}
use Rattle.mcs_state.proofs.Doing.{so_far-made}
use Rattle.mcs_cancel.proofs.Voiding.{dismissed}
use Rattle.mcs_cancel.proofs.destruction.dismiss.Goals as goal

pub cancel-requires-clause-there : goal.cancel-requires-clause-there
cancel-requires-clause-there g c =
    let R = so_far c.args.state.now in
    let ((e, at), with) = receiver_with-named R c.args.reply c.in-Some.receiver (sym c.receiver_with.ensures ∙ c.in-Some.is) in
    standing-thread R c.in-Some.receiver (Receivers e) c.is_sound.ensures.sound at

pub cancel-requires-clause-room : goal.cancel-requires-clause-room
cancel-requires-clause-room g c = subst (λ o. HasRoomFor (with_any o (λ x. cancel x Inactive)) c.args.state.now) (sym c.receiver_with.ensures ∙ c.in-Some.is) c.requires.room

pub returns-in-None-clause-made : goal.returns-in-None-clause-made
returns-in-None-clause-made g c = subst (λ o. Makes (with_any o (λ x. cancel x Inactive)) c.args.state.now c.args.state.now) (sym c.in-None.is ∙ c.receiver_with.ensures) refl

pub returns-in-None-clause-unattended : goal.returns-in-None-clause-unattended
returns-in-None-clause-unattended g c = unattended-none (so_far c.args.state.now) c.args.reply c.is_sound.ensures.sound (sym c.receiver_with.ensures ∙ c.in-None.is)

pub returns-in-Some-clause-made : goal.returns-in-Some-clause-made
returns-in-Some-clause-made g c = subst (λ o. Makes (with_any o (λ x. cancel x Inactive)) c.args.state.now c.cancel.new.state) (sym c.in-Some.is ∙ c.receiver_with.ensures) c.cancel.ensures

pub returns-in-Some-clause-unattended : goal.returns-in-Some-clause-unattended
returns-in-Some-clause-unattended g c =
    let R = so_far c.args.state.now in
    let left = dismissed R c.args.reply c.in-Some.receiver c.is_sound.ensures.sound (sym c.receiver_with.ensures ∙ c.in-Some.is) in
    subst (λ S. IsUnattended S c.args.reply) (sym (so_far-made (cancel c.in-Some.receiver Inactive) c.args.state.now c.cancel.new.state c.cancel.ensures)) left
