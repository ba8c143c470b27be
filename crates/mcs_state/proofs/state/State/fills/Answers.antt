use Rattle.mcs_state.proofs.SlotLaws.{has-slot}
use Rattle.std.proofs.Common.{refl, arith}
use Rattle.mcs_types.specs.declared.record.Rec.TheVariants as rec
use Rattle.mcs_state.proofs.Following.{follows, inside, inside-room}
use Rattle.mcs_state.proofs.state.State.fills.Goals as goal

pub set-requires : goal.set-requires
set-requires g c =
    let ok = inside (rec.Slot c.args.at.cnode c.args.at.index c.args.cap) c.self.view_is c.requires.allowed in
    has-slot _ c.self.inside.slots c.args.at c.self.invariant.1.slots c.self.invariant.1.sound ok.0 ok.1

pub invariant_of-self : goal.invariant_of-self
invariant_of-self g c = let set = rw c.cap_again.ensures at c.set.ensures in (
  omega (arith, c.self.invariant.0, c.note.ensures.whole),
  follows (rec.Slot c.args.at.cnode c.args.at.index c.args.cap) _ _ _ _ _ _ c.note.ensures.book c.note.ensures.hand (inside-room c.self.view_is c.requires.room c.self.invariant.0) (inside (rec.Slot c.args.at.cnode c.args.at.index c.args.cap) c.self.view_is c.requires.allowed)
      (record { threads = refl; letters = refl; contexts = refl; queues = refl; replies = refl; notifications = refl; slots = (c.are_pages.ensures.pages, set); sent = refl }) c.self.invariant.1,
)
