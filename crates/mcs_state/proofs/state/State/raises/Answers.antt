use Rattle.std.proofs.Common.{◌++◌, refl, arith, ◌∙◌}
use Rattle.mcs_types.specs.declared.id.Kind.TheVariants as kind
use Rattle.mcs_types.specs.declared.record.Rec.TheVariants as rec
use Rattle.mcs_book.specs.History.{log_of}
use Rattle.mcs_state.proofs.ThereLaws.{there}
use Rattle.mcs_state.proofs.Following.{follows, inside, inside-room}
use Rattle.mcs_state.proofs.state.State.raises.Goals as goal

pub raise-requires : goal.raise-requires
raise-requires g c =
    let ok = inside (rec.Raised c.args.notification c.args.badge) c.self.view_is c.requires.allowed in
    c.self.invariant.1.notifications.there c.args.notification ∙ there (c.self.inside.book.hand ++ log_of c.self.inside.book.book) kind.Notification c.args.notification ok.0

pub invariant_of-self : goal.invariant_of-self
invariant_of-self g c =
    let raise = c.raise.ensures in (
      omega (arith, c.self.invariant.0, c.note.ensures.whole),
      follows (rec.Raised c.args.notification c.args.badge) _ _ _ _ _ _ c.note.ensures.book c.note.ensures.hand (inside-room c.self.view_is c.requires.room c.self.invariant.0) (inside (rec.Raised c.args.notification c.args.badge) c.self.view_is c.requires.allowed)
          (record { threads = refl; letters = refl; contexts = refl; queues = refl; replies = refl; notifications = record { objects = record { counts = raise.counts; there = raise.there }; words = raise.words; threads = raise.threads; homed = raise.homed }; slots = refl; sent = refl }) c.self.invariant.1,
    )
