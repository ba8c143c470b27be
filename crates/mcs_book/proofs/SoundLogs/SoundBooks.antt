-- Every legal book is sound: each record was allowed when it was made. And the laws of single
-- records that follow.
use Rattle.std.specs.Prelude.{List, [], ◌∷◌}
use Rattle.std.proofs.Common.{◌∙◌, ap}
use Rattle.mcs_types.specs.declared.record.Rec.{Rec}
use Rattle.mcs_types.specs.declared.record.Rec.TheVariants as rec
use Rattle.mcs_book.specs.Logs.{Log}
use Rattle.mcs_book.specs.Objects.{was_made}
use Rattle.mcs_book.specs.Boots.{boot_log}
use Rattle.mcs_book.specs.History.{Line, Book, past, log_of, AreLegal, IsLegal}
use Rattle.mcs_book.specs.Each.{Each, AfterEach, EachRecord}
use Rattle.mcs_book.specs.Fair.{AnswersOwed, TakesAlive, TakesFirst, TakesInOrder}
use Rattle.mcs_book.specs.Sound.{Sound}
use Rattle.mcs_book.specs.Serials.{TakesNextId, MadeOnce}
use Rattle.mcs_book.proofs.Messages.SendersOpen.{Rests, legal-rests_after}
use Rattle.mcs_book.proofs.Firm.Laws.{Firm, Strict, each-weaker, firm-sound, none-later}
use Rattle.mcs_book.proofs.Objects.CountLaws.{next-unmade}
use Rattle.mcs_book.proofs.Firm.Table.{firm-does}
use Rattle.mcs_book.proofs.Firm.Boots.{firm-boot}

-- what holds after each line holds after the last
pub after-last : (P : Log → Type 0) (B : Log) (ls : List Line) → AfterEach P B ls → P (past B ls)
after-last P B [] h = h
after-last P B (l ∷ ls) h = h.0

-- the log of legal lines after a firm log is firm
pub firm-past : (B : Log) (ls : List Line) → AreLegal B ls → AfterEach Rests B ls → Firm B → Firm (past B ls)
firm-past B [] legal rests firm = firm
firm-past B (l ∷ ls) legal rests firm = rw legal.0.records (firm-does (past B ls) l.step.core l.step.thread l.step.entry legal.0.in_range legal.0.enters (after-last Rests B ls rests.1) (firm-past B ls legal.1 rests.1 firm))

-- the log of a legal book is firm
pub legal-firm : (b : Book) → IsLegal b → Firm (log_of b)
legal-firm b legal = firm-past (boot_log b.boot.lines) b.lines legal.lines (legal-rests_after b legal) (firm-boot b.boot.cores b.boot.lines legal.boot.few_cores legal.boot.lines)

-- the law: the log of a legal book is sound
pub legal-sound : (b : Book) → IsLegal b → Sound (log_of b)
legal-sound b legal = firm-sound (log_of b) (legal-firm b legal)

-- each record of a firm log, with the firm log before it
each-firm : (P : Log → Rec → Type 0) → ((R : Log) (r : Rec) → Firm R → Strict R r → P R r) → (R : Log) → Firm R → Each P R
each-firm P f [] h = tt
each-firm P f (r ∷ R) h = (f R r h.1 h.0, each-firm P f R h.1)

-- what is answered was owed
pub legal-answers_owed : (b : Book) → IsLegal b → EachRecord AnswersOwed b
legal-answers_owed b legal = each-weaker Strict AnswersOwed go (log_of b) (legal-firm b legal)
  where
    go : (R : Log) (r : Rec) → Strict R r → AnswersOwed R r
    go R (rec.Paid r x message) h = h.0
    go R (rec.Void r x ending) h = h.0
    go R (rec.Owes r x s) h = h.0.1.0
    go R _ h = tt

-- the endpoint of a message that is taken is there
pub legal-takes_alive : (b : Book) → IsLegal b → EachRecord TakesAlive b
legal-takes_alive b legal = each-weaker Strict TakesAlive go (log_of b) (legal-firm b legal)
  where
    go : (R : Log) (r : Rec) → Strict R r → TakesAlive R r
    go R (rec.Took m p) h = h.1.0
    go R _ h = tt

-- who takes a message, or whose message is taken, is the first of its queue
pub legal-takes_first : (b : Book) → IsLegal b → EachRecord TakesFirst b
legal-takes_first b legal = each-weaker Strict TakesFirst go (log_of b) (legal-firm b legal)
  where
    go : (R : Log) (r : Rec) → Strict R r → TakesFirst R r
    go R (rec.Took m p) h = h.1.1
    go R _ h = tt

-- no later message of the sender was taken before
pub legal-takes_in_order : (b : Book) → IsLegal b → EachRecord TakesInOrder b
legal-takes_in_order b legal = each-firm TakesInOrder go (log_of b) (legal-firm b legal)
  where
    go : (R : Log) (r : Rec) → Firm R → Strict R r → TakesInOrder R r
    go R (rec.Took m p) firm h = λ later lt s l hs hl of_sender. absurd (none-later R m later s l (firm-sound R firm) lt hs hl of_sender h.0.1)
    go R _ firm h = tt

-- an object that is made has the next id
pub legal-next_id : (b : Book) → IsLegal b → EachRecord TakesNextId b
legal-next_id b legal = each-weaker Strict TakesNextId go (log_of b) (legal-firm b legal)
  where
    go : (R : Log) (r : Rec) → Strict R r → TakesNextId R r
    go R (rec.Made o form) h = h.0.0
    go R _ h = tt

-- no object is made twice
pub legal-made_once : (b : Book) → IsLegal b → EachRecord MadeOnce b
legal-made_once b legal = each-firm MadeOnce go (log_of b) (legal-firm b legal)
  where
    go : (R : Log) (r : Rec) → Firm R → Strict R r → MadeOnce R r
    go R (rec.Made o form) firm h = ap (λ z. was_made R z) h.0.0 ∙ next-unmade R o.kind (firm-sound R firm)
    go R _ firm h = tt
