use Rattle.std.proofs.Common.{◌≡◌, refl, arith}
use Rattle.mcs_types.specs.declared.record.Rec.TheVariants as rec
use Rattle.mcs_book.specs.Contexts.{home_of}
use Rattle.mcs_state.proofs.ContextLaws.{homed-made, homed-changes}
use Rattle.mcs_state.proofs.NotificationLaws.{home-listed, homed-listed}
use Rattle.mcs_state.proofs.Following.{follows, inside, inside-room, seen}
use Rattle.mcs_state.proofs.state.State.homes.Goals as goal

pub home-requires-clause-changes : goal.home-requires-clause-changes
home-requires-clause-changes g c = homed-changes _ _ c.args.context c.args.notification c.self.invariant.1.contexts (inside (rec.Homed c.args.context c.args.notification) c.self.view_is c.requires.allowed)

pub home-requires-clause-made : goal.home-requires-clause-made
home-requires-clause-made g c = homed-made _ _ c.args.context c.args.notification c.self.invariant.1.sound c.self.invariant.1.contexts (inside (rec.Homed c.args.context c.args.notification) c.self.view_is c.requires.allowed)

pub rehome-requires-clause-from : goal.rehome-requires-clause-from
rehome-requires-clause-from g c =
    let old = seen c.self.view_is (λ R. c.home_of-old.result ≡ home_of R c.args.context) c.home_of-old.ensures in
    rw old (home-listed _ c.self.inside.notifications c.args.context c.self.invariant.1.sound c.self.invariant.1.notifications)

pub rehome-requires-clause-to : goal.rehome-requires-clause-to
rehome-requires-clause-to g c =
    let ok = inside (rec.Homed c.args.context c.args.notification) c.self.view_is c.requires.allowed in
    homed-listed _ c.self.inside.notifications c.args.context c.args.notification c.self.invariant.1.notifications ok

pub invariant_of-self : goal.invariant_of-self
invariant_of-self g c =
    let old = seen c.self.view_is (λ R. c.home_of-old.result ≡ home_of R c.args.context) c.home_of-old.ensures in
    let notifications = rw old at c.rehome.ensures in (
      omega (arith, c.self.invariant.0, c.note.ensures.whole),
      follows (rec.Homed c.args.context c.args.notification) _ _ _ _ _ _ c.note.ensures.book c.note.ensures.hand (inside-room c.self.view_is c.requires.room c.self.invariant.0) (inside (rec.Homed c.args.context c.args.notification) c.self.view_is c.requires.allowed)
          (record { threads = refl; letters = refl; contexts = c.home.ensures; queues = refl; replies = refl; notifications = notifications; slots = refl; sent = refl }) c.self.invariant.1,
    )
