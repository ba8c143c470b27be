use Rattle.std.proofs.Common.{refl, arith, ◌∙◌}
use Rattle.mcs_types.specs.declared.record.Rec.TheVariants as rec
use Rattle.mcs_book.proofs.SoundLogs.KeptLaws.{owed-there}
use Rattle.mcs_state.specs.Following.{DropsDebt}
use Rattle.mcs_state.proofs.DebtLaws.{ended-there, ended-topped}
use Rattle.mcs_state.proofs.ThreadLaws.{thread-there}
use Rattle.mcs_state.proofs.Following.{follows, inside, inside-room}
use Rattle.mcs_state.proofs.state.State.voids.Goals as goal

pub unwrap-requires : goal.unwrap-requires
unwrap-requires g c =
    let ok = inside (rec.Void c.args.reply c.args.caller c.args.how) c.self.view_is c.requires.allowed in
    c.unblock.ensures.found.1 (thread-there _ c.self.inside.threads c.args.caller c.self.invariant.1.sound c.self.invariant.1.threads (owed-there _ c.args.reply c.args.caller c.self.invariant.1.sound ok).1)

pub topped-requires : goal.topped-requires
topped-requires g c =
    let owed = inside (rec.Void c.args.reply c.args.caller c.args.how) c.self.view_is c.requires.allowed in
    ended-there _ c.self.inside.replies c.args.reply c.args.caller c.void.result c.self.invariant.1.replies owed c.void.ensures.caller

pub invariant_of-self : goal.invariant_of-self
invariant_of-self g c =
    let void = c.void.ensures in
    let replies : DropsDebt c.args.reply c.args.how c.self.inside.replies c.void.new.self = record { same = record { objects = record { counts = void.counts; there = void.there }; receivers = void.receivers }; owed = void.owed; chains = void.chains } in (
      omega (arith, c.self.invariant.0, c.note.ensures.whole),
      follows (rec.Void c.args.reply c.args.caller c.args.how) _ _ _ _ _ _ c.note.ensures.book c.note.ensures.hand (inside-room c.self.view_is c.requires.room c.self.invariant.0) (inside (rec.Void c.args.reply c.args.caller c.args.how) c.self.view_is c.requires.allowed)
          (record { threads = c.unblock.ensures.changed; letters = refl; contexts = refl; queues = refl; replies = replies; notifications = refl; slots = refl; sent = refl }) c.self.invariant.1,
    )

pub returns-clause-topped : goal.returns-clause-topped
returns-clause-topped g c =
    let owed = inside (rec.Void c.args.reply c.args.caller c.args.how) c.self.view_is c.requires.allowed in
    rw (← c.self.view_is) (c.topped.ensures ∙ ended-topped _ c.self.inside.replies c.args.reply c.args.caller c.void.result c.self.invariant.1.sound c.self.invariant.1.replies owed c.void.ensures.caller c.void.ensures.topped)
