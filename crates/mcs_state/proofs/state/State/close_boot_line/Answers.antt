use Rattle.std.proofs.Common.{◌≡◌, ◌≤◌, ◌*◌, ◌+◌, ◌++◌, List, [], length, sym, ◌∙◌, subst, ap, arith}
use Rattle.mcs_book.specs.Logs.{Log, counted, onto}
use Rattle.mcs_book.specs.Messages.{is_sent}
use Rattle.mcs_book.specs.History.{Book, Line, log_of}
use Rattle.mcs_book.specs.Boots.{boot_line}
use Rattle.mcs_state.specs.Now.{Now}
use Rattle.mcs_state.specs.Tables.{HAND}
use Rattle.mcs_state.proofs.Opening.{moved-kept, boot-moved, boot-sends-none}
use Rattle.mcs_state.proofs.state.State.close_boot_line.Goals as goal

pub invariant_of-self : goal.invariant_of-self
invariant_of-self g c =
    let i = c.self.invariant in
    let hand : Log = c.self.inside.book.hand in
    let book : Book = c.self.inside.book.book in
    let P : Now → Type 0 = λ n. (n.book.lines ≡ []) × (n.hand ≡ onto (boot_line (log_of n.book) c.args.line) []) in
    let was : P (record { book = book; hand = hand; boot_room = c.self.inside.book.boot_room; room = c.self.inside.book.room + length hand }) = subst P (sym c.self.view_is) (c.requires.boot, c.requires.records) in
    let none = ap (λ (h : Log). counted is_sent h) was.1 ∙ boot-sends-none (log_of book) c.args.line in
    let empty = ap (λ (ls : List Line). length ls) was.0 in
    let kept = ap (λ (b : Book). length b.lines) c.add_boot_line.ensures.line in
    let few : c.self.inside.sent ≤ HAND * length c.add_boot_line.new.self.book.lines = omega (arith, i.1.sent.few, none, empty, kept) in
    let gone = ap (λ (h : Log). length h) c.add_boot_line.ensures.hand in
    let same : log_of c.add_boot_line.new.self.book ≡ hand ++ log_of book = ap (λ (b : Book). log_of b) c.add_boot_line.ensures.line ∙ boot-moved book.boot.lines book.lines c.args.line hand was.0 was.1 in
    (omega (arith, i.0, c.add_boot_line.ensures.room, gone), rw c.add_boot_line.ensures.hand (moved-kept (length c.add_boot_line.new.self.book.lines) (log_of c.add_boot_line.new.self.book) same few i.1))
