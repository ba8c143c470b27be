use Rattle.std.proofs.Common.{refl, arith, ◌∙◌}
use Rattle.mcs_types.specs.declared.record.Ending.TheVariants.{Deleted}
use Rattle.mcs_types.specs.declared.record.Rec.TheVariants as rec
use Rattle.mcs_book.proofs.SoundLogs.KeptLaws.{owed-there}
use Rattle.mcs_state.specs.Following.{DropsDebt}
use Rattle.mcs_state.proofs.DebtLaws.{ended-there, ended-topped}
use Rattle.mcs_state.proofs.ThreadLaws.{thread-there}
use Rattle.mcs_state.proofs.Following.{follows, inside, inside-room}
use Rattle.mcs_state.proofs.state.State.paid.Goals as goal

pub answers-requires : goal.answers-requires
answers-requires g c =
    let owed = inside (rec.Paid c.args.reply c.args.caller c.args.message) c.self.view_is c.requires.allowed in
    thread-there _ c.self.inside.threads c.args.caller c.self.invariant.1.sound c.self.invariant.1.threads (owed-there _ c.args.reply c.args.caller c.self.invariant.1.sound owed).1

pub topped-requires : goal.topped-requires
topped-requires g c =
    let owed = inside (rec.Paid c.args.reply c.args.caller c.args.message) c.self.view_is c.requires.allowed in
    ended-there _ c.self.inside.replies c.args.reply c.args.caller c.pay.result c.self.invariant.1.replies owed c.pay.ensures.caller

pub invariant_of-self : goal.invariant_of-self
invariant_of-self g c =
    let pay = c.pay.ensures in
    let replies : DropsDebt c.args.reply Deleted c.self.inside.replies c.pay.new.self = record { same = record { objects = record { counts = pay.counts; there = pay.there }; receivers = pay.receivers }; owed = pay.owed; chains = pay.chains } in
    let threads = rw (c.noted.view_is ∙ c.made.ensures) at c.answers.ensures in
    let items = rw c.message.view_is at c.note_paid.ensures.hand in (
      omega (arith, c.self.invariant.0, c.note_paid.ensures.whole),
      follows (rec.Paid c.args.reply c.args.caller c.args.message) _ _ _ _ _ _ c.note_paid.ensures.book items (inside-room c.self.view_is c.requires.room c.self.invariant.0) (inside (rec.Paid c.args.reply c.args.caller c.args.message) c.self.view_is c.requires.allowed)
          (record { threads = threads; letters = refl; contexts = refl; queues = refl; replies = replies; notifications = refl; slots = refl; sent = refl }) c.self.invariant.1,
    )

pub returns-clause-topped : goal.returns-clause-topped
returns-clause-topped g c =
    let owed = inside (rec.Paid c.args.reply c.args.caller c.args.message) c.self.view_is c.requires.allowed in
    rw (← c.self.view_is) (c.topped.ensures ∙ ended-topped _ c.self.inside.replies c.args.reply c.args.caller c.pay.result c.self.invariant.1.sound c.self.invariant.1.replies owed c.pay.ensures.caller c.pay.ensures.topped)
