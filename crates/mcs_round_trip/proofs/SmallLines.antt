-- Each line of a legal book has forms whose lines are short.
use Rattle.std.specs.Prelude.{ℕ, ◌≡◌, List, [], ◌∷◌, Option, Some, None}
use Rattle.std.proofs.Common.{sym, subst, arith}
use Rattle.mcs_types.specs.Views.{Content}
use Rattle.mcs_types.specs.declared.id.ObjId.{ObjId}
use Rattle.mcs_types.specs.declared.boot.BootLine.{BootLine}
use Rattle.mcs_types.specs.declared.boot.BootLine.TheVariants as boot
use Rattle.mcs_types.specs.declared.record.Queue.{Queue}
use Rattle.mcs_types.specs.declared.record.Queue.TheVariants.{Senders, Receivers, Waiters}
use Rattle.mcs_types.specs.declared.record.Rec.{Rec}
use Rattle.mcs_types.specs.declared.record.Rec.TheVariants as rec
use Rattle.mcs_types.specs.declared.entry.Step.{Step}
use Rattle.mcs_types.specs.declared.entry.Entry.{Entry}
use Rattle.mcs_types.specs.declared.entry.Entry.TheVariants.{Send, NbSend, Call, ReplyRecv, NbSendRecv, NbSendWait}
use Rattle.mcs_types.specs.declared.entry.Answer.{Answer}
use Rattle.mcs_types.specs.declared.entry.Answer.TheVariants as ans
use Rattle.mcs_book.specs.Logs.{Log, onto}
use Rattle.mcs_book.specs.Boots.{boot_line, boot_log}
use Rattle.mcs_types.specs.Ranges.{IsMessage, InRange}
use Rattle.mcs_book.specs.Table.{does}
use Rattle.mcs_book.specs.History.{Line, Book, IsLegal, Follows, AreLegal, past}
use Rattle.mcs_book.specs.Each.{Each, EachOf, EachLineAfter}
use Rattle.mcs_types.specs.Brings.{message_of}
use Rattle.mcs_book.specs.Fair.{IsSentWhole, IsPaidWhole, IsWholeLine, AnswersWhole}
use Rattle.mcs_book.proofs.SoundLogs.Safety.{each-onto}
use Rattle.mcs_book.proofs.SoundLogs.SoundBooks.{legal-sound}
use Rattle.mcs_book.proofs.WholeMessages.Lines.{legal-whole, sound-answers_whole}
use Rattle.mcs_text.specs.Table.{entry_form, answer_form, rec_form, joins_form}
use Rattle.mcs_sim.specs.Trace.{sent_with}
use Rattle.mcs_round_trip.proofs.Lengths.{IsSmall, small-few, small-with}
use Rattle.mcs_round_trip.proofs.Lines.{record_forms, line_forms}
use Rattle.mcs_round_trip.proofs.Scripts.{AreSmall}
use Rattle.mcs_round_trip.proofs.FewWords.{HasFewWords, FewAnswer, few-does}

-- the message that an entry carries is in its ranges
message_of-few : (e : Entry) (m : Content) → InRange e → message_of e ≡ Some m → IsMessage m
message_of-few (Send a message) m h is = let it : message ≡ m = cc in subst IsMessage it h.1
message_of-few (NbSend a message) m h is = let it : message ≡ m = cc in subst IsMessage it h.1
message_of-few (Call a message) m h is = let it : message ≡ m = cc in subst IsMessage it h.1
message_of-few (ReplyRecv a r message) m h is = let it : message ≡ m = cc in subst IsMessage it h.2
message_of-few (NbSendRecv a f r message) m h is = let it : message ≡ m = cc in subst IsMessage it h.3
message_of-few (NbSendWait a f message) m h is = let it : message ≡ m = cc in subst IsMessage it h.2
message_of-few _ m h is = absurd cc

-- so is that of a record
few-record : (R after S : Log) (l : Line) (r : Rec) → InRange l.step.entry → IsSentWhole R l S r → IsPaidWhole after l S r → HasFewWords S r
few-record R after S l (rec.Sent x e mode badge message) range sent paid = message_of-few l.step.entry message range sent.1
few-record R after S l (rec.Paid r x message) range sent paid = message_of-few l.step.entry message range paid.0
few-record R after S l _ range sent paid = tt

-- so are those of the records of a line
few-records : (R after S : Log) (l : Line) (rs : List Rec) → InRange l.step.entry → EachOf (IsSentWhole R l) S rs → EachOf (IsPaidWhole after l) S rs → EachOf HasFewWords S rs
few-records R after S l [] range sent paid = tt
few-records R after S l (r ∷ rs) range sent paid = (few-record R after S l r range sent.0 paid.0, few-records R after (r ∷ S) l rs range sent.1 paid.1)

-- a line of the boot records no message
few-boot_line : (R S : Log) (line : BootLine) → Each HasFewWords R → Each HasFewWords (onto (boot_line S line) R)
few-boot_line R S (boot.Thread priority maximum root guard runs (Some s)) h = (tt, (tt, (tt, (tt, h))))
few-boot_line R S (boot.Thread priority maximum root guard runs None) h = (tt, (tt, (tt, h)))
few-boot_line R S _ h = (tt, h)

-- nor does a boot
few-boot : (lines : List BootLine) → Each HasFewWords (boot_log lines)
unfolding boot_log
few-boot [] = tt
few-boot (line ∷ lines) = few-boot_line (boot_log lines) (boot_log lines) line (few-boot lines)

-- each record of these lines
AreFew : Log → List Line → Type 0
AreFew B [] = Unit {0}
AreFew B (l ∷ ls) = EachOf HasFewWords (past B ls) l.records × AreFew B ls

-- such are legal lines of whole messages
few-lines : (B : Log) (ls : List Line) → AreLegal B ls → EachLineAfter IsWholeLine B ls → EachLineAfter AnswersWhole B ls → AreFew B ls
unfolding AreFew
few-lines B [] legal whole answers = tt
few-lines B (l ∷ ls) legal whole answers = (few-records (past B ls) (onto l.records (past B ls)) (past B ls) l l.records legal.0.in_range whole.0.0 answers.0.1, few-lines B ls legal.1 whole.1 answers.1)

-- so is each record of the log after them
few-past : (B : Log) (ls : List Line) → Each HasFewWords B → AreFew B ls → Each HasFewWords (past B ls)
unfolding AreFew
few-past B [] boot few = boot
few-past B (l ∷ ls) boot few = each-onto HasFewWords (past B ls) l.records (few-past B ls boot few.1) few.0

-- ---- forms

-- a thread that joins a line
small-joins : (t : ObjId) (q : Queue) (r : Option ObjId) → IsSmall (joins_form t q r)
small-joins t (Senders e) r = small-few _ (omega arith)
small-joins t (Receivers e) r = small-few _ (omega arith)
small-joins t (Waiters n) r = small-few _ (omega arith)

-- the form of a record of few words
small-record : (R : Log) (n : ℕ) (r : Rec) → HasFewWords R r → IsSmall (rec_form n r)
small-record R n (rec.Joins t q r) h = small-joins t q r
small-record R n (rec.Sent x e mode badge message) h = small-with _ _ (badge.0 ∷ message.label ∷ []) message h (omega arith)
small-record R n (rec.Paid r x message) h = small-with _ _ (message.label ∷ []) message h (omega arith)
small-record R n _ h = small-few _ (omega arith)

-- the forms of such records
small-records : (R : Log) (n : ℕ) (rs : List Rec) → EachOf HasFewWords R rs → AreSmall (record_forms n rs)
unfolding AreSmall
small-records R n [] h = tt
small-records R n (r ∷ rs) h = (small-record R n r h.0, small-records (r ∷ R) (sent_with n r) rs h.1)

-- the form of an answer of few words
small-answer : (a : Answer) → FewAnswer a → IsSmall (answer_form a)
small-answer (ans.Got b m) h = small-with _ _ (b.0 ∷ m.label ∷ []) m h (omega arith)
small-answer _ h = small-few _ (omega arith)

-- the form of a step
small-entry : (s : Step) (e : Entry) → InRange e → IsSmall (entry_form s e)
small-entry s (Send a message) h = small-with _ _ (a ∷ message.label ∷ []) message h.1 (omega arith)
small-entry s (NbSend a message) h = small-with _ _ (a ∷ message.label ∷ []) message h.1 (omega arith)
small-entry s (Call a message) h = small-with _ _ (a ∷ message.label ∷ []) message h.1 (omega arith)
small-entry s (ReplyRecv a r message) h = small-with _ _ (a ∷ r ∷ message.label ∷ []) message h.2 (omega arith)
small-entry s (NbSendRecv a f r message) h = small-with _ _ (a ∷ f ∷ r ∷ message.label ∷ []) message h.3 (omega arith)
small-entry s (NbSendWait a f message) h = small-with _ _ (a ∷ f ∷ message.label ∷ []) message h.2 (omega arith)
small-entry s _ h = small-few _ (omega arith)

-- the forms of a line that follows a log of few words
small-line : (R : Log) (l : Line) → Follows R l → Each HasFewWords R → EachOf HasFewWords R l.records → (n : ℕ) → AreSmall (line_forms n l)
unfolding AreSmall
small-line R l follows before few n =
    let after : Each HasFewWords (onto l.records R) = each-onto HasFewWords R l.records before few in
    let answered : FewAnswer ((does R l.step.core l.step.thread l.step.entry).answer) = few-does R l.step.core l.step.thread l.step.entry (subst (λ (rs : List Rec). Each HasFewWords (onto rs R)) follows.records after) in
    (small-entry l.step l.step.entry follows.in_range, (small-answer l.answer (subst FewAnswer (sym follows.answer) answered), small-records R n l.records few))

-- the forms of each of these lines
unfoldable pub AreSmallLines : List Line → Type 0
AreSmallLines [] = Unit {0}
AreSmallLines (l ∷ ls) = ((n : ℕ) → AreSmall (line_forms n l)) × AreSmallLines ls

-- such are the forms of lines of few words
small-past : (B : Log) (ls : List Line) → Each HasFewWords B → AreLegal B ls → AreFew B ls → AreSmallLines ls
unfolding AreFew AreSmallLines
small-past B [] boot legal few = tt
small-past B (l ∷ ls) boot legal few = (small-line (past B ls) l legal.0 (few-past B ls boot few.1) few.0, small-past B ls boot legal.1 few.1)

-- each line of a legal book has forms of few words
pub small-legal : (b : Book) → IsLegal b → AreSmallLines b.lines
small-legal b legal =
    let B : Log = boot_log b.boot.lines in
    small-past B b.lines (few-boot b.boot.lines) legal.lines (few-lines B b.lines legal.lines (legal-whole b legal) (sound-answers_whole b legal (legal-sound b legal)))
