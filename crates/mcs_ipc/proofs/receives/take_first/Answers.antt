use Rattle.std.proofs.Common.{◌≡◌, Option, Some, None, IfSome, ap, sym, ◌∙◌, subst, option_copied}
use Rattle.mcs_types.specs.declared.record.Queue.TheVariants.{Senders}
use Rattle.mcs_types.specs.declared.entry.Answer.TheVariants.{Got}
use Rattle.mcs_types.specs.Views.{Content}
use Rattle.mcs_types.specs.declared.record.Letter.{Letter}
use Rattle.mcs_book.specs.Logs.{Log}
use Rattle.mcs_book.specs.Queues.{first_in}
use Rattle.mcs_book.specs.Messages.{open_of}
use Rattle.mcs_book.specs.Pieces.{Outcome}
use Rattle.mcs_book.specs.Receiving.{open_of_any}
use Rattle.mcs_state.specs.Now.{so_far}
use Rattle.mcs_state.specs.Doing.{Gives, Holds}
use Rattle.mcs_ipc.proofs.Freeing.{take-alone, take-takes}
use Rattle.mcs_ipc.proofs.receives.take_first.Goals as goal

-- the message of a letter that is there
taken-message : (o : Option Letter) (l : Letter) (m : Content) → o ≡ Some l → IfSome o (λ k. m ≡ k.message) → m ≡ l.message
taken-message o l m is h = subst (λ z. IfSome z (λ k. m ≡ k.message)) is h

pub stand-requires-clause-room : goal.stand-requires-clause-room
stand-requires-clause-room g c =
    let R : Log = so_far c.args.state.now in
    let none : open_of_any R (first_in R (Senders c.args.endpoint)) ≡ None = ap (λ o. open_of_any R o) (sym c.first.ensures ∙ c.in-None.is) in
    subst (λ (o : Outcome). Holds o.records c.args.state.now) (take-alone R c.args.blocks c.args.thread c.args.endpoint c.args.reply none) c.requires.room

pub stand-requires-in-None-letter-clause-room : goal.stand-requires-in-None-letter-clause-room
stand-requires-in-None-letter-clause-room g c =
    let R : Log = so_far c.args.state.now in
    let none : open_of_any R (first_in R (Senders c.args.endpoint)) ≡ None = ap (λ o. open_of_any R o) (sym c.first.ensures ∙ c.in-Some.is) ∙ sym c.letter.ensures ∙ ap (λ o. option_copied o) c.in-None-letter.is in
    subst (λ (o : Outcome). Holds o.records c.args.state.now) (take-alone R c.args.blocks c.args.thread c.args.endpoint c.args.reply none) c.requires.room

pub take-message-requires-clause-room : goal.take-message-requires-clause-room
take-message-requires-clause-room g c =
    let R : Log = so_far c.args.state.now in
    let is : open_of R c.in-Some.sender ≡ Some c.in-Some-letter.letter.now = sym c.letter.ensures ∙ ap (λ o. option_copied o) c.in-Some-letter.is in
    subst (λ (o : Outcome). Holds o.records c.args.state.now) (take-takes R c.args.blocks c.args.thread c.args.endpoint c.args.reply c.in-Some.sender c.in-Some-letter.letter.now c.requires.ready.stand (sym c.first.ensures ∙ c.in-Some.is) is) c.requires.room

pub returns-in-None : goal.returns-in-None
returns-in-None g c =
    let R : Log = so_far c.args.state.now in
    let none : open_of_any R (first_in R (Senders c.args.endpoint)) ≡ None = ap (λ o. open_of_any R o) (sym c.first.ensures ∙ c.in-None.is) in
    subst (λ (o : Outcome). Gives o c.args.state.now c.stand.new.answer c.stand.new.state) (sym (take-alone R c.args.blocks c.args.thread c.args.endpoint c.args.reply none)) c.stand.ensures

pub returns-in-None-letter : goal.returns-in-None-letter
returns-in-None-letter g c =
    let R : Log = so_far c.args.state.now in
    let none : open_of_any R (first_in R (Senders c.args.endpoint)) ≡ None = ap (λ o. open_of_any R o) (sym c.first.ensures ∙ c.in-Some.is) ∙ sym c.letter.ensures ∙ ap (λ o. option_copied o) c.in-None-letter.is in
    subst (λ (o : Outcome). Gives o c.args.state.now c.stand-in-None-letter.new.answer c.stand-in-None-letter.new.state) (sym (take-alone R c.args.blocks c.args.thread c.args.endpoint c.args.reply none)) c.stand-in-None-letter.ensures

pub returns-in-Some-letter : goal.returns-in-Some-letter
returns-in-Some-letter g c =
    let R : Log = so_far c.args.state.now in
    let is : open_of R c.in-Some.sender ≡ Some c.in-Some-letter.letter.now = sym c.letter.ensures ∙ ap (λ o. option_copied o) c.in-Some-letter.is in
    subst (λ (o : Outcome). Gives o c.args.state.now (Got c.in-Some-letter.letter.now.badge c.take-message.result) c.take-message.new.state) (sym (take-takes R c.args.blocks c.args.thread c.args.endpoint c.args.reply c.in-Some.sender c.in-Some-letter.letter.now c.requires.ready.stand (sym c.first.ensures ∙ c.in-Some.is) is))
    (record { records = c.take-message.ensures.taken; answer = ap (λ m. Got c.in-Some-letter.letter.now.badge m) (taken-message (open_of R c.in-Some.sender) c.in-Some-letter.letter.now c.take-message.result is c.take-message.ensures.message) })
