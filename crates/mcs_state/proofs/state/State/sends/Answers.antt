use Rattle.mcs_book.specs.Messages.{is_sent}
use Rattle.mcs_state.proofs.Answering.{counted-le}
use Rattle.mcs_state.proofs.ThreadLaws.{thread-there}
use Rattle.mcs_state.proofs.Following.{fewer-lines}
use Rattle.std.proofs.Common.{refl, arith, ◌∙◌}
use Rattle.mcs_types.specs.declared.record.Rec.TheVariants as rec
use Rattle.mcs_state.proofs.Following.{follows, inside, inside-room}
use Rattle.mcs_state.proofs.state.State.sends.Goals as goal

pub overflow_add-self : goal.overflow_add-self
overflow_add-self g c =
    let all = counted-le is_sent (c.self.inside.book.hand) in
    let lines = fewer-lines c.self.view_is c.requires.few in
    omega (arith, c.self.invariant.1.sent.few, c.self.invariant.1.few, all, lines)

pub open-requires : goal.open-requires
open-requires g c =
    let ok = inside (rec.Sent c.args.sender c.args.endpoint c.args.mode c.args.badge c.args.message) c.self.view_is c.requires.allowed in
    (c.are_few.ensures c.args.sender (thread-there _ c.self.inside.threads c.args.sender c.self.invariant.1.sound c.self.invariant.1.threads ok.0))

pub invariant_of-self : goal.invariant_of-self
invariant_of-self g c = let kept = rw (c.noted.view_is ∙ c.made.ensures, c.self.invariant.1.sent.all) at c.open.ensures in
    let items = rw c.message.view_is at c.note_sent.ensures.hand in (
      omega (arith, c.self.invariant.0, c.note_sent.ensures.whole),
      follows (rec.Sent c.args.sender c.args.endpoint c.args.mode c.args.badge c.args.message) _ _ _ _ _ _ c.note_sent.ensures.book items (inside-room c.self.view_is c.requires.room c.self.invariant.0) (inside (rec.Sent c.args.sender c.args.endpoint c.args.mode c.args.badge c.args.message) c.self.view_is c.requires.allowed)
          (record { threads = refl; letters = kept; contexts = refl; queues = refl; replies = refl; notifications = refl; slots = refl; sent = refl }) c.self.invariant.1,
    )
