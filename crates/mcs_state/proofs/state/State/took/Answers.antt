use Rattle.std.proofs.Common.{sym, ◌∙◌}
use Rattle.mcs_book.specs.Messages.{open_of}
use Rattle.mcs_state.specs.Now.{IsNumberOf}
use Rattle.mcs_state.proofs.Answering.{open-is}
use Rattle.mcs_state.proofs.LetterLaws.{number-open, opened}
use Rattle.mcs_state.proofs.ThreadLaws.{thread-there}
use Rattle.mcs_state.proofs.Following.{seen}
use Rattle.std.proofs.Common.{refl, arith}
use Rattle.mcs_types.specs.declared.record.Rec.TheVariants as rec
use Rattle.mcs_state.proofs.Following.{follows, inside, inside-room}
use Rattle.mcs_state.proofs.state.State.took.Goals as goal

pub unreachable-requires : goal.unreachable-requires
unreachable-requires g c =
    let number = seen c.self.view_is (λ R. IsNumberOf c.args.number (open_of R c.args.sender)) c.requires.open in
    let found = number-open _ c.args.sender c.args.number c.self.invariant.1.sound number in
    let no = c.in-None.ensures.value ∙ c.self.invariant.1.letters c.args.sender ∙ found.1.0 in
    absurd cc

pub deliver-requires : goal.deliver-requires
deliver-requires g c =
    let ok = inside (rec.Took c.args.number c.args.receiver) c.self.view_is c.requires.allowed in
    thread-there _ c.self.inside.threads c.args.receiver c.self.invariant.1.sound c.self.invariant.1.threads ok.0

pub invariant_of-self : goal.invariant_of-self
invariant_of-self g c = let number = seen c.self.view_is (λ R. IsNumberOf c.args.number (open_of R c.args.sender)) c.requires.open in
    let is = c.in-Some.ensures.value ∙ c.self.invariant.1.letters c.args.sender in
    let taken = opened _ c.args.sender c.args.number c.in-Some.letter c.self.invariant.1.sound number (sym is) in
    let mails = c.deliver.ensures.mails in (
      omega (arith, c.self.invariant.0, c.note.ensures.whole),
      follows (rec.Took c.args.number c.args.receiver) _ _ _ _ _ _ c.note.ensures.book c.note.ensures.hand (inside-room c.self.view_is c.requires.room c.self.invariant.0) (inside (rec.Took c.args.number c.args.receiver) c.self.view_is c.requires.allowed)
          (record { threads = (c.in-Some.letter, (taken.letter, record { made = c.deliver.ensures.made; rows = c.deliver.ensures.rows; mails = mails })); letters = (c.in-Some.letter, (taken.kept, taken.number, rw taken.sender c.in-Some.ensures.kept)); contexts = refl; queues = refl; replies = refl; notifications = refl; slots = refl; sent = refl }) c.self.invariant.1,
    )

pub returns-clause-message : goal.returns-clause-message
returns-clause-message g c =
    let same_letter = open-is _ c.args.sender _ c.self.invariant.1.sound (c.in-Some.ensures.value ∙ c.self.invariant.1.letters c.args.sender) in
    rw (← c.self.view_is, ← same_letter) c.deliver.ensures.answer
