use Rattle.std.proofs.Common.{refl, arith}
use Rattle.mcs_types.specs.declared.record.Rec.TheVariants as rec
use Rattle.mcs_book.specs.Messages.{open_of}
use Rattle.mcs_state.specs.Now.{IsNumberOf}
use Rattle.mcs_state.proofs.LetterLaws.{dropped}
use Rattle.mcs_state.proofs.Following.{follows, inside, inside-room, seen}
use Rattle.mcs_state.proofs.state.State.drops.Goals as goal

pub invariant_of-self : goal.invariant_of-self
invariant_of-self g c =
    let number = seen c.self.view_is (λ R. IsNumberOf c.args.number (open_of R c.args.sender)) c.requires.open in
    let letters = dropped _ _ _ c.args.sender c.args.number c.self.invariant.1.sound number c.close.ensures.kept in (
      omega (arith, c.self.invariant.0, c.note.ensures.whole),
      follows (rec.Dropped c.args.number) _ _ _ _ _ _ c.note.ensures.book c.note.ensures.hand (inside-room c.self.view_is c.requires.room c.self.invariant.0) (inside (rec.Dropped c.args.number) c.self.view_is c.requires.allowed)
          (record { threads = refl; letters = letters; contexts = refl; queues = refl; replies = refl; notifications = refl; slots = refl; sent = refl }) c.self.invariant.1,
    )
