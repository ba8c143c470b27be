use Rattle.std.proofs.Common.{◌≡◌, ◌≤◌, ◌*◌, ◌++◌, length, reverse, ◌∙◌, ap, arith}
use Rattle.std.proofs.lemmas.List.{reverse-reverse}
use Rattle.mcs_book.specs.Logs.{Log}
use Rattle.mcs_book.specs.Messages.{is_sent}
use Rattle.mcs_book.specs.History.{Book, log_of}
use Rattle.mcs_state.specs.Tables.{HAND}
use Rattle.mcs_state.proofs.Answering.{counted-le}
use Rattle.mcs_state.proofs.Opening.{moved-kept, onto-reverse}
use Rattle.mcs_state.proofs.state.State.close.Goals as goal

pub invariant_of-self : goal.invariant_of-self
invariant_of-self g c =
    let i = c.self.invariant in
    let all = counted-le is_sent (c.self.inside.book.hand) in
    let longer = ap (λ (b : Book). length b.lines) c.close.ensures.line in
    let few : c.self.inside.sent ≤ HAND * length c.close.new.self.book.lines = omega (arith, i.1.sent.few, i.1.few, all, longer) in
    let none = ap (λ (h : Log). length h) c.close.ensures.hand in
    let same : log_of c.close.new.self.book ≡ c.self.inside.book.hand ++ log_of c.self.inside.book.book = ap (λ (b : Book). log_of b) c.close.ensures.line ∙ onto-reverse (reverse c.self.inside.book.hand) (log_of c.self.inside.book.book) ∙ ap (λ h. h ++ log_of c.self.inside.book.book) (reverse-reverse c.self.inside.book.hand) in
    (omega (arith, i.0, c.close.ensures.room, none), rw c.close.ensures.hand (moved-kept (length c.close.new.self.book.lines) (log_of c.close.new.self.book) same few i.1))
