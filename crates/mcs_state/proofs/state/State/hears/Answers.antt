use Rattle.std.proofs.Common.{refl, arith}
use Rattle.mcs_types.specs.declared.record.Rec.TheVariants as rec
use Rattle.mcs_state.proofs.ThreadLaws.{thread-there}
use Rattle.mcs_state.proofs.Following.{follows, inside, inside-room}
use Rattle.mcs_state.proofs.state.State.hears.Goals as goal

pub unwrap-requires : goal.unwrap-requires
unwrap-requires g c =
    let ok = inside (rec.Heard c.args.thread c.args.notification c.args.word) c.self.view_is c.requires.allowed in
    c.set_mail.ensures.found.1 (thread-there _ c.self.inside.threads c.args.thread c.self.invariant.1.sound c.self.invariant.1.threads ok.0)

pub invariant_of-self : goal.invariant_of-self
invariant_of-self g c =
    let ok = inside (rec.Heard c.args.thread c.args.notification c.args.word) c.self.view_is c.requires.allowed in
    let there = thread-there _ c.self.inside.threads c.args.thread c.self.invariant.1.sound c.self.invariant.1.threads ok.0 in
    let mail = c.set_mail.ensures in
    let hear = c.hear.ensures in (
      omega (arith, c.self.invariant.0, c.note.ensures.whole),
      follows (rec.Heard c.args.thread c.args.notification c.args.word) _ _ _ _ _ _ c.note.ensures.book c.note.ensures.hand (inside-room c.self.view_is c.requires.room c.self.invariant.0) (inside (rec.Heard c.args.thread c.args.notification c.args.word) c.self.view_is c.requires.allowed)
          (record {
            threads = record { made = mail.made; rows = mail.rows; mails = mail.mails there };
            letters = refl;
            contexts = refl;
            queues = refl;
            replies = refl;
            notifications = record { objects = record { counts = hear.counts; there = hear.there }; words = hear.words; threads = hear.threads; homed = hear.homed };
            slots = refl;
            sent = refl;
          }) c.self.invariant.1,
    )
