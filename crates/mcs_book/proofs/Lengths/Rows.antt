-- How many records each entry makes at most.
use Rattle.std.specs.Prelude.{ℕ, ◌+◌, ◌*◌, ◌≤◌, Bool, true, false, ◌≡◌, List, [], ◌∷◌, Option, Some, None, Ok, Err, refl, length}
use Rattle.std.proofs.Common.{◌∙◌, ap, arith}
use Rattle.mcs_types.specs.Views.{Content}
use Rattle.mcs_types.specs.declared.id.ObjId.{ObjId}
use Rattle.mcs_types.specs.declared.id.Kind.{Kind}
use Rattle.mcs_types.specs.declared.id.Kind.TheVariants.{CNode, Thread, Endpoint, Notification, Reply, Context}
use Rattle.mcs_types.specs.declared.cap.Cap.{Cap}
use Rattle.mcs_types.specs.declared.record.SendMode.TheVariants as how
use Rattle.mcs_types.specs.declared.record.Queue.{Queue}
use Rattle.mcs_types.specs.declared.record.Queue.TheVariants.{Receivers, Waiters}
use Rattle.mcs_types.specs.declared.record.Letter.{Letter}
use Rattle.mcs_types.specs.declared.record.Rec.{Rec}
use Rattle.mcs_types.specs.declared.record.Rec.TheVariants as rec
use Rattle.mcs_types.specs.declared.entry.Answer.{Answer}
use Rattle.mcs_types.specs.declared.entry.Answer.TheVariants.{Done}
use Rattle.mcs_book.specs.Logs.{Log, onto}
use Rattle.mcs_book.specs.Queues.{first_in}
use Rattle.mcs_book.specs.Checks.{Checked}
use Rattle.mcs_book.specs.Pieces.{Piece, ◌then◌, say, with_any, Act, answers, before}
use Rattle.mcs_book.specs.Taking.{handed}
use Rattle.mcs_book.specs.Receiving.{if_at_home, go_home, stand, send_receive, joins_or, hear, take_open, receive_message, receive_on, free, wait_on, receive_by, receive_over, pay_any}
use Rattle.std.specs.Prelude.{ℕ, true, false, ◌≡◌, List, ◌∷◌, Option, Some, None, Ok, Err, refl}
use Rattle.mcs_types.specs.declared.id.CoreId.{CoreId}
use Rattle.mcs_types.specs.declared.id.Kind.TheVariants.{Endpoint, Notification, Reply, Context}
use Rattle.mcs_types.specs.declared.cap.Place.{Place}
use Rattle.mcs_types.specs.declared.id.Badge.{Badge}
use Rattle.mcs_types.specs.declared.record.Mode.{Mode}
use Rattle.mcs_types.specs.declared.record.Mode.TheVariants.{Restart}
use Rattle.mcs_types.specs.declared.record.Form.{Form}
use Rattle.mcs_types.specs.declared.entry.Answer.TheVariants.{Done, Waits}
use Rattle.mcs_types.specs.declared.entry.Entry.{Entry}
use Rattle.mcs_types.specs.declared.entry.Entry.TheVariants.{Send, NbSend, Call, Recv, NbRecv, Wait, NbWait, ReplyRecv, Resume, CancelBadged, MoveCap, NbSendRecv, NbSendWait}
use Rattle.mcs_book.specs.Slots.{SlotName}
use Rattle.mcs_book.specs.Threads.{mode_of}
use Rattle.mcs_book.specs.Checks.{Checked}
use Rattle.mcs_book.specs.Rights.{call_mode}
use Rattle.mcs_book.specs.Pieces.{◌then◌, nothing, say, Act, answers, silently, before}
use Rattle.mcs_book.specs.Cancelling.{cancel, cancel_all, unbind}
use Rattle.mcs_book.specs.Signalling.{signal}
use Rattle.mcs_book.specs.Receiving.{reply_receive}
use Rattle.mcs_book.specs.Placing.{senders_with, delete, make}
use Rattle.mcs_book.specs.Table.{row, wakes, outcome_of, does}
use Rattle.mcs_book.specs.Sending.{letter_over, sent, sends_to, sends, queues, send_by, send_over}
use Rattle.mcs_book.specs.Objects.{next_id}
use Rattle.mcs_types.specs.declared.record.SendMode.{SendMode}
use Rattle.mcs_book.proofs.Books.Checking.{OnPassed, passed-ok, passed-err, passed-after, passed-bind, passed-next}
use Rattle.mcs_types.specs.declared.boot.BootLine.{BootLine}
use Rattle.mcs_types.specs.declared.boot.BootLine.TheVariants as boot
use Rattle.mcs_book.specs.Threads.{threads}
use Rattle.mcs_book.specs.Boots.{boot_line, boot_log}
use Rattle.mcs_book.specs.History.{Line, Book, past, AreLegal, IsLegal}
use Rattle.mcs_book.specs.Each.{EachLineAfter, EachLine}
use Rattle.mcs_book.specs.Limits.{threads_of, most_records, HasAtMost}
use Rattle.mcs_book.proofs.Lengths.Queues.{badged-short}
use Rattle.mcs_book.proofs.Lengths.Pieces.{FewRecords, Few, few-append, few-more, few-within, few-nothing, few-say, few-then, few-any, few-if, few-handed, few-taken, few-pay, few-cancel, few-cancel_all, few-free, few-wakes, few-signal, few-let_go, few-unbind, few-destroy_last}
use Rattle.mcs_book.specs.Binding.{bind_by}
use Rattle.mcs_book.specs.Contexts.{context_of}
use Rattle.mcs_book.specs.Notifications.{bound_of}

-- T are the threads that were made
module _ (T : List ObjId) where
  -- an act that makes at most n
  record FewAct (n : ℕ) (act : Act) : Type 0 where
    at : (S : Log) → threads S ≡ T → FewRecords T n S ((act S).records)

  -- an act of a row
  abbrev RowAct : Act → Type 0
  RowAct = FewAct (3 * length T + 13)

  -- a piece, and then an act
  few-before : (m n : ℕ) (p : Piece) (act : Act) → Few T m p → FewAct n act → FewAct (m + n) (before p act)
  unfolding before
  few-before m n p act hp ha = record { at = λ S is. let h : FewRecords T m S (p S) = hp.at S is in few-append T m n S (p S) ((act (onto (p S) S)).records) h (ha.at (onto (p S) S) h.threads_same) }

  -- an act that makes at most as many makes at most more
  act-within : (m n : ℕ) (act : Act) → m ≤ n → FewAct m act → FewAct n act
  act-within m n act le h = record { at = λ S is. few-more T m n S ((act S).records) le (h.at S is) }

  -- an act that only makes a piece
  act-piece : (n : ℕ) (a : Answer) (p : Piece) → n ≤ 3 * length T + 13 → Few T n p → OnPassed RowAct (Ok (answers a p))
  act-piece n a p le h = passed-ok _ _ (record { at = λ S is. few-more T n (3 * length T + 13) S (p S) le (h.at S is) })

  -- the same of fewer
  few-answers : (m n : ℕ) (a : Answer) (p : Piece) → m ≤ n → Few T m p → FewAct n (answers a p)
  few-answers m n a p le h = record { at = λ S is. few-more T m n S (p S) le (h.at S is) }

  -- one record
  act-say : (r : Rec) → ((S : Log) → threads (r ∷ S) ≡ threads S) → OnPassed RowAct (Ok (answers Done (say r)))
  act-say r e = act-piece 1 Done (say r) (omega arith) (few-say T r e)

  -- a message is sent, and its sender is in its queue
  few-queues : (t : ObjId) (held : Cap) (mode : SendMode) (message : Content) → FewAct 2 (queues (letter_over t held mode message))
  unfolding queues ◌then◌
  few-queues t held mode message = record { at = λ S is. record { few = omega arith; threads_same = is } }

  -- a message is sent
  few-sends : (t : ObjId) (held : Cap) (mode : SendMode) (message : Content) (a : Answer) (alone : Act) → FewAct 2 alone → FewAct 6 (sends (letter_over t held mode message) a alone)
  unfolding sends sends_to
  few-sends t held mode message a alone h = record { at = λ S is. go S is (first_in S (Receivers held.obj)) }
    where
      go : (S : Log) → threads S ≡ T → (o : Option ObjId) → FewRecords T 6 S ((sends_to (letter_over t held mode message S) a alone o S).records)
      go S is None = few-more T 2 6 S ((alone S).records) (omega arith) (h.at S is)
      go S is (Some p) = (few-then T 1 5 (sent (letter_over t held mode message S)) (handed (letter_over t held mode message S) p) (few-say T _ (λ R. refl)) (few-handed T (letter_over t held mode message S) p)).at S is

  -- a send, by the kind of its capability
  few-send_by : (k : Kind) (mode : SendMode) (t : ObjId) (held : Cap) (message : Content) (alone : Act) → FewAct 2 alone → OnPassed (FewAct 6) (send_by k mode t held message alone)
  unfolding send_by
  few-send_by Endpoint mode t held message alone h = passed-next _ _ _ (passed-ok _ _ (few-sends t held mode message Done alone h))
  few-send_by Notification mode t held message alone h = passed-next _ _ _ (passed-ok _ _ (few-answers 5 6 Done _ (omega arith) (few-signal T held.obj held.badge)))
  few-send_by Reply mode t held message alone h = passed-ok _ _ (few-answers 3 6 Done _ (omega arith) (few-pay T held.obj message))
  few-send_by CNode mode t held message alone h = passed-err _ _
  few-send_by Thread mode t held message alone h = passed-err _ _
  few-send_by Context mode t held message alone h = passed-err _ _

  -- t may give up its context
  few-go_home : (t : ObjId) (n : Option ObjId) → Few T 1 (go_home t n)
  unfolding go_home
  few-go_home t n = record { at = λ S is. (few-let_go T (if_at_home S n (context_of S t))).at S is }

  -- t joins a queue, or is answered at once
  few-joins : (b : Bool) (t : ObjId) (q : Queue) (r n : Option ObjId) (S : Log) → threads S ≡ T → FewRecords T 4 S ((joins_or b (stand t q r n) S).records)
  unfolding joins_or stand
  few-joins true t q r n S is = few-more T 2 4 S ((say (rec.Joins t q r) then go_home t n) S) (omega arith) ((few-then T 1 1 (say (rec.Joins t q r)) (go_home t n) (few-say T (rec.Joins t q r) (λ S. refl)) (few-go_home t n)).at S is)
  few-joins false t q r n S is = record { few = omega arith; threads_same = is }

  -- a pending word comes first
  few-hear : (t : ObjId) (n : Option ObjId) (word : Option ℕ) (otherwise : Act) (S : Log) → threads S ≡ T → FewRecords T 4 S ((otherwise S).records) → FewRecords T 4 S ((hear t n word otherwise S).records)
  unfolding hear
  few-hear t (Some n) (Some word) otherwise S is h = record { few = omega arith; threads_same = is }
  few-hear t None word otherwise S is h = h
  few-hear t (Some n) None otherwise S is h = h

  -- an open message is taken, if there is one
  few-take_open : (t : ObjId) (r : Option ObjId) (l : Option Letter) (otherwise : Act) (S : Log) → threads S ≡ T → FewRecords T 4 S ((otherwise S).records) → FewRecords T 4 S ((take_open t r l otherwise S).records)
  unfolding take_open
  few-take_open t r None otherwise S is h = h
  few-take_open t r (Some l) otherwise S is h = (few-taken T l t r).at S is

  -- a receive
  few-receive_message : (t e : ObjId) (r : Option ObjId) (blocking : Bool) → FewAct 4 (receive_message t e r blocking)
  unfolding receive_message
  few-receive_message t e r blocking = record { at = λ S is. few-hear t _ _ _ S is (few-take_open t r _ _ S is (few-joins blocking t (Receivers e) r (bound_of S t) S is)) }

  -- a receive with a reply object
  few-receive_on : (t e : ObjId) (r : Option ObjId) (blocking : Bool) → FewAct 7 (receive_on t e r blocking)
  unfolding receive_on
  few-receive_on t e r blocking = few-before 3 4 (with_any r free) _ (few-any T 3 r free (few-free T)) (few-receive_message t e r blocking)

  -- a wait
  few-wait_on : (t n : ObjId) (blocking : Bool) → FewAct 4 (wait_on t n blocking)
  unfolding wait_on
  few-wait_on t n blocking = record { at = λ S is. few-hear t _ _ _ S is (few-joins blocking t (Waiters n) None (Some n) S is) }

  -- a receive, by the kind of its source
  few-receive_by : (k : Kind) (R : Log) (t : ObjId) (held : Cap) (reply : Checked (Option ObjId)) (blocking : Bool) → OnPassed (FewAct 7) (receive_by k R t held reply blocking)
  unfolding receive_by
  few-receive_by Endpoint R t held reply blocking = passed-next _ _ _ (passed-bind _ _ _ (λ r. passed-ok _ _ (few-receive_on t held.obj r blocking)))
  few-receive_by Notification R t held reply blocking = passed-next _ _ _ (passed-next _ _ _ (passed-ok _ _ (act-within 4 7 _ (omega arith) (few-wait_on t held.obj blocking))))
  few-receive_by CNode R t held reply blocking = passed-err _ _
  few-receive_by Thread R t held reply blocking = passed-err _ _
  few-receive_by Reply R t held reply blocking = passed-err _ _
  few-receive_by Context R t held reply blocking = passed-err _ _

  -- a receive over a capability
  few-receive_over : (R : Log) (t : ObjId) (held : Cap) (reply : Checked (Option ObjId)) (blocking : Bool) → OnPassed (FewAct 7) (receive_over R t held reply blocking)
  unfolding receive_over
  few-receive_over R t held reply blocking = few-receive_by held.obj.kind R t held reply blocking

  -- a receive is a row's act
  row-receive : (m : Checked Act) → OnPassed (FewAct 7) m → OnPassed RowAct m
  unfolding OnPassed
  row-receive (Ok act) h = act-within 7 (3 * length T + 13) act (omega arith) h
  row-receive (Err refusal) h = tt

  -- so is a send
  row-send : (m : Checked Act) → OnPassed (FewAct 6) m → OnPassed RowAct m
  unfolding OnPassed
  row-send (Ok act) h = act-within 6 (3 * length T + 13) act (omega arith) h
  row-send (Err refusal) h = tt

  -- sends, and then receives
  few-send_receive : (R : Log) (t : ObjId) (sending : Checked Act) (address : ℕ) (reply : Checked (Option ObjId)) → OnPassed (FewAct 6) sending → OnPassed RowAct (send_receive R t sending address reply)
  unfolding send_receive
  few-send_receive R t sending address reply h = passed-after (FewAct 6) RowAct sending _ h (λ send k. passed-bind _ _ _ (λ source.
      passed-after (FewAct 7) RowAct _ _ (few-receive_over R t source reply true) (λ act later. passed-ok RowAct _ (act-within 13 (3 * length T + 13) _ (omega arith) (few-before 6 7 (silently send) act (record { at = λ S is. k.at S is }) later)))))

  -- a context is bound, by the kind of what it is bound to
  few-bind_by : (k : Kind) (R : Log) (s o : ObjId) → OnPassed RowAct (bind_by k R s o)
  unfolding bind_by
  few-bind_by Thread R s o = passed-next _ _ _ (act-say (rec.Holds s (Some o)) (λ S. refl))
  few-bind_by Notification R s o = passed-next _ _ _ (act-say (rec.Homed s (Some o)) (λ S. refl))
  few-bind_by CNode R s o = passed-err _ _
  few-bind_by Endpoint R s o = passed-err _ _
  few-bind_by Reply R s o = passed-err _ _
  few-bind_by Context R s o = passed-err _ _

  -- an object of another kind than a thread is made
  few-make : (R : Log) (t : ObjId) (k : Kind) (rights : ℕ) (form : Form) (place : Place) → ((S : Log) → threads (rec.Made (next_id R k) form ∷ S) ≡ threads S) → OnPassed RowAct (make R t k rights form place)
  unfolding make
  few-make R t k rights form place e =
      passed-bind _ _ _ (λ at. passed-next _ _ _ (passed-next _ _ _ (act-piece 2 Done _ (omega arith) (few-then T 1 1 _ _ (few-say T (rec.Made (next_id R k) form) e) (few-say T _ (λ S. refl))))))

  -- a capability is deleted
  few-delete : (at : SlotName) (held : Option Cap) → OnPassed RowAct (Ok (delete at held))
  unfolding delete
  few-delete at None = act-piece 0 Done nothing (omega arith) (few-nothing T)
  few-delete at (Some held) = act-piece (1 + (3 * length T + 7)) Done _ (omega arith) (few-then T 1 (3 * length T + 7) _ _ (few-say T (rec.Slot at.cnode at.index None) (λ S. refl)) (few-destroy_last T held.obj))

  -- nothing is done where no thread receives
  few-alone : FewAct 2 (answers Done nothing)
  few-alone = record { at = λ S same. record { few = omega arith; threads_same = same } }

  -- one piece is a row's act
  row-signal : (n : ObjId) (badge : Badge) → OnPassed RowAct (Ok (answers Done (signal n badge)))
  row-signal n badge = act-piece 5 Done _ (omega arith) (few-signal T n badge)

  row-unbind : (s : ObjId) → OnPassed RowAct (Ok (answers Done (unbind s)))
  row-unbind s = act-piece 2 Done _ (omega arith) (few-unbind T s)

  row-cancel : (x : ObjId) (mode : Mode) → OnPassed RowAct (Ok (answers Done (cancel x mode)))
  row-cancel x mode = act-piece 3 Done _ (omega arith) (few-cancel T x mode)

  -- what each row does, where its checks are passed
  few-row : (R : Log) (core : CoreId) (t : ObjId) (entry : Entry) → threads R ≡ T → OnPassed RowAct (row R core t entry)
  unfolding row send_over reply_receive
  few-row R core t (Send a message) is = passed-bind _ _ _ (λ held. row-send _ (few-send_by held.obj.kind how.Plain t held message _ (few-queues t held how.Plain message)))
  few-row R core t (NbSend a message) is = passed-bind _ _ _ (λ held. row-send _ (few-send_by held.obj.kind how.Plain t held message _ few-alone))
  few-row R core t (Call a message) is = passed-bind _ _ _ (λ held. passed-next _ _ _ (passed-ok _ _ (act-within 6 (3 * length T + 13) _ (omega arith) (few-sends t held (call_mode held) message Waits _ (few-queues t held (call_mode held) message)))))
  few-row R core t (Recv a r) is = passed-bind _ _ _ (λ held. row-receive _ (few-receive_over R t held _ true))
  few-row R core t (NbRecv a r) is = passed-bind _ _ _ (λ held. row-receive _ (few-receive_over R t held _ false))
  few-row R core t (Wait a) is = passed-bind _ _ _ (λ held. row-receive _ (few-receive_over R t held _ true))
  few-row R core t (NbWait a) is = passed-bind _ _ _ (λ held. row-receive _ (few-receive_over R t held _ false))
  few-row R core t (ReplyRecv a r message) is =
      passed-bind _ _ _ (λ held. passed-next _ _ _ (passed-next _ _ _ (passed-bind _ _ _ (λ o.
      passed-after (FewAct 7) _ _ _ (few-receive_over R t held (Ok o) true) (λ act k. passed-ok _ _ (act-within 10 (3 * length T + 13) _ (omega arith) (few-before 3 7 (pay_any o message) act (few-any T 3 o _ (λ r. few-pay T r message)) k)))))))
  few-row R core t (Resume x) is = passed-bind _ _ _ (λ thread. act-piece 3 Done _ (omega arith) (few-if T 3 _ nothing (cancel thread.obj Restart) (few-within T 0 3 nothing (omega arith) (few-nothing T)) (few-cancel T thread.obj Restart)))
  few-row R core t (NbSendRecv a source r message) is = few-send_receive R t _ source _ (passed-bind _ _ _ (λ held. few-send_by held.obj.kind how.Give t held message _ few-alone))
  few-row R core t (NbSendWait a source message) is = few-send_receive R t _ source _ (passed-bind _ _ _ (λ held. few-send_by held.obj.kind how.Give t held message _ few-alone))
  few-row R core t (CancelBadged a) is =
      passed-bind _ _ _ (λ held. passed-next _ _ _ (
      let xs : List ObjId = senders_with R held.obj held.badge.0 in
      let le : length xs ≤ length (threads R) = badged-short R held.obj held.badge.0 in
      let e : length (threads R) ≡ length T = ap length is in
      act-piece (3 * length xs) Done _ (omega (arith, le, e)) (few-if T (3 * length xs) _ nothing (cancel_all xs Restart) (few-within T 0 (3 * length xs) nothing (omega arith) (few-nothing T)) (few-cancel_all T xs Restart))))
  few-row R core t (MoveCap source dest) is = passed-bind _ _ _ (λ at. act-piece 2 Done _ (omega arith) (few-then T 1 1 _ _ (few-say T (rec.Slot _ _ _) (λ S. refl)) (few-say T (rec.Slot _ _ _) (λ S. refl))))
  few-row R core t _ is = search (passed-bind, passed-next, act-say, row-signal, row-unbind, row-cancel, few-bind_by, few-delete, few-make) depth 9

  -- what each entry does
  few-does : (R : Log) (core : CoreId) (t : ObjId) (entry : Entry) → threads R ≡ T → FewRecords T (4 * length T + 32) R ((does R core t entry).records)
  unfolding does OnPassed
  few-does R core t entry is = go (row R core t entry) (few-row R core t entry is)
    where
      go : (m : Checked Act) → OnPassed RowAct m → FewRecords T (4 * length T + 32) R ((outcome_of R t m).records)
      go (Ok act) k = (act-within (1 + (3 * length T + 13)) (4 * length T + 32) _ (omega arith) (few-before 1 (3 * length T + 13) (wakes (mode_of R t) t) act (few-wakes T (mode_of R t) t) k)).at R is
      go (Err refusal) k = record { few = omega arith; threads_same = is }

-- the law: an entry makes no more records than its bound
pub does-short : (R : Log) (core : CoreId) (t : ObjId) (entry : Entry) → length ((does R core t entry).records) ≤ most_records (length (threads R))
does-short R core t entry = (few-does (threads R) R core t entry refl).few

-- a line of the boot makes as many threads as it says
boot_line-threads : (R : Log) (line : BootLine) (lines : List BootLine) → length (threads R) ≡ threads_of lines → length (threads (onto (boot_line R line) R)) ≡ threads_of (line ∷ lines)
boot_line-threads R (boot.Thread priority maximum root guard runs (Some s)) lines h = omega (arith, h)
boot_line-threads R (boot.Thread priority maximum root guard runs None) lines h = omega (arith, h)
boot_line-threads R _ lines h = h

-- so does a boot
boot-threads : (lines : List BootLine) → length (threads (boot_log lines)) ≡ threads_of lines
unfolding boot_log
boot-threads [] = refl
boot-threads (line ∷ lines) = boot_line-threads (boot_log lines) line lines (boot-threads lines)

-- no line makes a thread
pub past-threads : (B : Log) (ls : List Line) → AreLegal B ls → threads (past B ls) ≡ threads B
past-threads B [] h = refl
past-threads B (l ∷ ls) h =
    let made : threads (onto l.records (past B ls)) ≡ threads (past B ls) = rw h.0.records ((few-does (threads (past B ls)) (past B ls) l.step.core l.step.thread l.step.entry refl).threads_same) in
    made ∙ past-threads B ls h.1

-- each line is within the bound
lines-short : (B : Log) (n : ℕ) (ls : List Line) → length (threads B) ≡ n → AreLegal B ls → EachLineAfter (HasAtMost (most_records n)) B ls
lines-short B n [] e h = tt
lines-short B n (l ∷ ls) e h =
    let le : length ((does (past B ls) l.step.core l.step.thread l.step.entry).records) ≤ most_records (length (threads (past B ls))) = does-short (past B ls) l.step.core l.step.thread l.step.entry in
    let same_records : length l.records ≡ length ((does (past B ls) l.step.core l.step.thread l.step.entry).records) = ap length h.0.records in
    let same_threads : length (threads (past B ls)) ≡ n = ap length (past-threads B ls h.1) ∙ e in
    (omega (arith, le, same_records, same_threads), lines-short B n ls e h.1)

-- the law: no line after the boot's has more records than its bound
pub legal-short : (b : Book) → IsLegal b → EachLine (HasAtMost (most_records (threads_of b.boot.lines))) b
legal-short b legal = lines-short (boot_log b.boot.lines) (threads_of b.boot.lines) b.lines (boot-threads b.boot.lines) legal.lines
