use Rattle.std.proofs.Common.{refl, ap, ◌∙◌, ◌∷◌, arith}
use Rattle.mcs_types.specs.declared.record.Rec.TheVariants as rec
use Rattle.mcs_book.specs.Logs.{Log}
use Rattle.mcs_book.specs.Messages.{is_sent, next_message}
use Rattle.mcs_book.specs.Sound.{Allowed}
use Rattle.mcs_state.proofs.Answering.{counted-le}
use Rattle.mcs_state.proofs.ThreadLaws.{thread-there}
use Rattle.mcs_state.proofs.Following.{fewer-lines, inside, inside-room-two, seen}
use Rattle.mcs_state.proofs.Handing.{hands}
use Rattle.mcs_state.proofs.state.State.hands.Goals as goal

pub overflow_add-self : goal.overflow_add-self
overflow_add-self g c =
    let all = counted-le is_sent (c.self.inside.book.hand) in
    let lines = fewer-lines c.self.view_is c.requires.few in
    omega (arith, c.self.invariant.1.sent.few, c.self.invariant.1.few, all, lines)

pub unwrap-requires : goal.unwrap-requires
unwrap-requires g c =
    let taken = seen c.self.view_is (λ R. Allowed (rec.Sent c.args.sender c.args.endpoint c.args.mode c.args.badge c.args.message ∷ R) (rec.Took (next_message R) c.args.receiver)) c.requires.taken in
    c.set_mail.ensures.found.1 (thread-there _ c.self.inside.threads c.args.receiver c.self.invariant.1.sound c.self.invariant.1.threads taken.0)

pub invariant_of-self : goal.invariant_of-self
invariant_of-self g c =
    let x = c.args.sender in
    let e = c.args.endpoint in
    let p = c.args.receiver in
    let ok = inside (rec.Sent x e c.args.mode c.args.badge c.args.message) c.self.view_is c.requires.sent in
    let taken = seen c.self.view_is (λ R. Allowed (rec.Sent x e c.args.mode c.args.badge c.args.message ∷ R) (rec.Took (next_message R) p)) c.requires.taken in
    let there = thread-there _ c.self.inside.threads p c.self.invariant.1.sound c.self.invariant.1.threads taken.0 in
    let mails = rw (c.noted.view_is ∙ c.made.ensures) at c.set_mail.ensures.mails there in
    let one = rw c.message.view_is at c.note_sent.ensures.hand in
    let both = c.note.ensures.hand ∙ ap (λ (R : Log). rec.Took c.self.inside.sent p ∷ R) one ∙ ap (λ n. rec.Took n p ∷ rec.Sent x e c.args.mode c.args.badge c.args.message ∷ c.self.inside.book.hand) c.self.invariant.1.sent.all in
    let room = inside-room-two c.self.view_is c.requires.room c.self.invariant.0 in (
      omega (arith, c.self.invariant.0, c.note_sent.ensures.whole, c.note.ensures.whole),
      hands _ _ _ _ _ _ x e c.args.mode c.args.badge c.args.message p (c.note.ensures.book ∙ c.note_sent.ensures.book) both room ok taken
          (record { threads = record { made = c.set_mail.ensures.made; rows = c.set_mail.ensures.rows; mails = mails }; letters = refl; contexts = refl; queues = refl; replies = refl; notifications = refl; slots = refl; sent = refl }) c.self.invariant.1,
    )
