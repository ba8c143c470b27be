use Rattle.std.proofs.Common.{◌≡◌, ◌+◌, ◌++◌, take, drop, reverse}
use Rattle.mcs_book.proofs.book.Book.note_all.Given as goal

abbrev pub invariant-loop-fact : goal.invariant-loop-fact
invariant-loop-fact l = record {
  hand : l.self.hand ≡ reverse (take l.fact-index l.initial.records) ++ l.initial.self.hand;
  rest : drop l.fact-index l.records ≡ drop l.fact-index l.initial.records;
  book : l.self.book ≡ l.initial.self.book;
  room : l.self.room + l.fact-index ≡ l.initial.self.room;
}
