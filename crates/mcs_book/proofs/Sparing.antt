-- Which records the pieces and acts of entries do not have.
use Rattle.std.specs.Prelude.{ℕ, Bool, true, false, cond, ◌||◌, ◌==◌, ◌≡◌, List, [], ◌∷◌, ◌++◌, Option, Some, None, Ok, Err, refl}
use Rattle.std.specs.List.{list_any}
use Rattle.std.proofs.Common.{◌∙◌, ap}
use Rattle.std.proofs.lemmas.List.Folds.{list_any-append}
use Rattle.mcs_types.specs.Views.{Content}
use Rattle.mcs_types.specs.Changes.{changes_slots, makes_object}
use Rattle.mcs_types.specs.declared.id.ObjId.{ObjId}
use Rattle.mcs_types.specs.declared.id.CoreId.{CoreId}
use Rattle.mcs_types.specs.declared.id.Badge.{Badge}
use Rattle.mcs_types.specs.declared.id.Kind.{Kind}
use Rattle.mcs_types.specs.declared.id.Kind.TheVariants.{CNode, Thread, Endpoint, Notification, Reply, Context}
use Rattle.mcs_types.specs.declared.cap.Cap.{Cap}
use Rattle.mcs_types.specs.declared.record.SendMode.{SendMode}
use Rattle.mcs_types.specs.declared.record.SendMode.TheVariants as how
use Rattle.mcs_types.specs.declared.record.Mode.{Mode}
use Rattle.mcs_types.specs.declared.record.Mode.TheVariants.{Running, Restart, Inactive}
use Rattle.mcs_types.specs.declared.record.Ending.TheVariants.{Deleted}
use Rattle.mcs_types.specs.declared.record.Queue.{Queue}
use Rattle.mcs_types.specs.declared.record.Queue.TheVariants.{Senders, Receivers, Waiters}
use Rattle.mcs_types.specs.declared.record.Letter.{Letter}
use Rattle.mcs_types.specs.declared.record.Rec.{Rec}
use Rattle.mcs_types.specs.declared.record.Rec.TheVariants as rec
use Rattle.mcs_types.specs.declared.entry.Answer.{Answer}
use Rattle.mcs_types.specs.declared.entry.Answer.TheVariants.{Done, Waits}
use Rattle.mcs_types.specs.declared.entry.Entry.{Entry}
use Rattle.mcs_types.specs.declared.entry.Entry.TheVariants.{Send, NbSend, Call, Recv, NbRecv, Wait, NbWait, ReplyRecv, Resume, CancelBadged, CopyCap, MintCap, MoveCap, DeleteCap, MakeEndpoint, MakeNotification, MakeReply, MakeContext, NbSendRecv, NbSendWait}
use Rattle.mcs_book.specs.Logs.{Log, onto}
use Rattle.mcs_book.specs.Threads.{mode_of}
use Rattle.mcs_book.specs.Slots.{SlotName, count_of}
use Rattle.mcs_book.specs.Messages.{open_of}
use Rattle.mcs_book.specs.Queues.{queue_of, first_in, reply_with, queued_in}
use Rattle.mcs_book.specs.Contexts.{context_of, holder_of, home_of, homed_at}
use Rattle.mcs_book.specs.Replies.{owed_by, owing, receiver_with, user_of}
use Rattle.mcs_book.specs.Chains.{topped_by}
use Rattle.mcs_book.specs.Notifications.{bound_of, tied_to, pending}
use Rattle.mcs_book.specs.Checks.{Checked}
use Rattle.mcs_book.specs.Rights.{call_mode}
use Rattle.mcs_book.specs.Pieces.{Piece, ◌then◌, nothing, say, with_any, for_each, Act, answers, silently, before}
use Rattle.mcs_book.specs.Taking.{debt, owe, back_to, give_back, give, settle, handed, taken, pay}
use Rattle.mcs_book.specs.Signalling.{queue_of_any, spare_at, wake, hearer, reach, signal}
use Rattle.mcs_book.specs.Cancelling.{drop_message, leave, cancel, cancel_all, let_go, unbind, void_deleted, release, destroy}
use Rattle.mcs_book.specs.Sending.{letter_over, sent, sends_to, sends, queues, send_by, send_over}
use Rattle.mcs_book.specs.Receiving.{if_at_home, go_home, stand, send_receive, joins_or, hear, take_open, receive_message, receive_on, free, wait_on, receive_by, receive_over, pay_any, reply_receive}
use Rattle.mcs_book.specs.Placing.{senders_with, destroy_last, delete}
use Rattle.mcs_book.specs.Binding.{bind_by}
use Rattle.mcs_book.specs.SlotRecords.{HasNone, is_making, is_of_slots}
use Rattle.mcs_book.specs.Table.{row, wakes, outcome_of, does}
use Rattle.mcs_book.proofs.Books.Checking.{OnPassed, passed-ok, passed-err, passed-after, passed-bind, passed-next}

-- a test that no record passes but those of slots
module _ (f : Rec → Bool) (others : (r : Rec) → is_of_slots r ≡ false → f r ≡ false) where
  -- a piece without such records
  record Spares (p : Piece) : Type 0 where
    at : (S : Log) → HasNone f (p S)

  -- an act without such records
  record SparesAct (act : Act) : Type 0 where
    at : (S : Log) → HasNone f ((act S).records)

  -- records after others
  none-append : (made more : List Rec) → HasNone f made → HasNone f more → HasNone f (made ++ more)
  none-append made more h k = list_any-append f made more ∙ (ap (λ b. b || list_any f more) h ∙ k)

  spares-nothing : Spares nothing
  spares-nothing = record { at = λ S. refl }

  -- one record that the test refuses
  spares-rec : (r : Rec) → f r ≡ false → Spares (say r)
  spares-rec r e = record { at = λ S. ap (λ b. b || false) e }

  -- one record of none of the three kinds
  spares-say : (r : Rec) → is_of_slots r ≡ false → Spares (say r)
  spares-say r e = spares-rec r (others r e)

  spares-then : (p q : Piece) → Spares p → Spares q → Spares (p then q)
  unfolding ◌then◌
  spares-then p q hp hq = record { at = λ S. none-append (p S) (q (onto (p S) S)) (hp.at S) (hq.at (onto (p S) S)) }

  spares-any : {A : Type 0} (o : Option A) (p : A → Piece) → ((x : A) → Spares (p x)) → Spares (with_any o p)
  spares-any None p h = spares-nothing
  spares-any (Some x) p h = h x

  spares-if : (b : Bool) (p q : Piece) → Spares p → Spares q → Spares (cond b p q)
  spares-if true p q hp hq = hp
  spares-if false p q hp hq = hq

  spares-each : (xs : List ObjId) (p : ObjId → Piece) → ((x : ObjId) → Spares (p x)) → Spares (for_each xs p)
  spares-each [] p h = spares-nothing
  spares-each (x ∷ xs) p h = spares-then (p x) (for_each xs p) (h x) (spares-each xs p h)

  -- a debt, and the context that is brought
  spares-owe : (r x p : ObjId) → Spares (owe r x p)
  unfolding owe ◌then◌
  spares-owe r x p = record { at = λ S. go S (context_of S p) (context_of S x) }
    where
      owes : (c : Option ObjId) → f (rec.Owes r x c) ≡ false
      owes c = others (rec.Owes r x c) refl

      go : (S : Log) (o o' : Option ObjId) → HasNone f (debt r x p o o')
      go S None (Some s) = (spares-then (say (rec.Owes r x (Some s))) (say (rec.Holds s (Some p))) (spares-rec _ (owes (Some s))) (spares-say _ refl)).at S
      go S None None = (spares-rec _ (owes None)).at S
      go S (Some s) None = (spares-rec _ (owes None)).at S
      go S (Some s) (Some s') = (spares-rec _ (owes None)).at S

  -- a context passes to x
  spares-back : (s : Option ObjId) (x : ObjId) → Spares (give_back s x)
  unfolding give_back
  spares-back s x = record { at = λ S. go S s (context_of S x) }
    where
      go : (S : Log) (o o' : Option ObjId) → HasNone f (back_to x o o')
      go S (Some s) None = (spares-say (rec.Holds s (Some x)) refl).at S
      go S None o = refl
      go S (Some s) (Some s') = refl

  -- the context of x passes to p
  spares-give : (x p : ObjId) → Spares (give x p)
  unfolding give
  spares-give x p = record { at = λ S. (spares-back (context_of S x) p).at S }

  spares-let_go : (s : Option ObjId) → Spares (let_go s)
  spares-let_go s = spares-any s _ (λ c. spares-say _ refl)

  spares-unbind : (s : ObjId) → Spares (unbind s)
  unfolding unbind
  spares-unbind s = record { at = λ S. (spares-then _ _ (spares-any (home_of S s) _ (λ n. spares-say _ refl)) (spares-any (holder_of S s) _ (λ t. spares-say _ refl))).at S }

  -- what becomes of a sender
  spares-settle : (mode : SendMode) (x p : ObjId) (r : Option ObjId) (goes_on : Piece) → Spares goes_on → Spares (settle mode x p r goes_on)
  spares-settle how.Plain x p r goes_on h = h
  spares-settle how.Call x p (Some r) goes_on h = spares-owe r x p
  spares-settle how.Call x p None goes_on h = spares-say _ refl
  spares-settle how.Give x p r goes_on h = spares-give x p
  spares-settle how.Mute x p r goes_on h = spares-say _ refl

  -- a message just sent is handed over
  spares-handed : (s : Letter) (p : ObjId) → Spares (handed s p)
  unfolding handed
  spares-handed s p = record {
    at = λ S. (spares-then _ _ (spares-then _ _ (spares-then _ _ (spares-say (rec.Took s.number p) refl) (spares-say (rec.Parts p (Receivers s.endpoint)) refl))
        (spares-settle s.mode s.sender p (reply_with S p) nothing spares-nothing)) (spares-say (rec.Turns p Running) refl)).at S;
  }

  -- the message of a queued sender is taken
  spares-taken : (s : Letter) (p : ObjId) (r : Option ObjId) → Spares (taken s p r)
  unfolding taken
  spares-taken s p r = spares-then _ _ (spares-then _ _ (spares-say (rec.Took s.number p) refl) (spares-say (rec.Parts s.sender (Senders s.endpoint)) refl))
      (spares-settle s.mode s.sender p r (say (rec.Turns s.sender Running)) (spares-say _ refl))

  -- a caller is answered
  spares-pay : (r : ObjId) (message : Content) → Spares (pay r message)
  unfolding pay
  spares-pay r message = record { at = λ S. (spares-any (owed_by S r) _ (λ x. spares-then _ _ (spares-then _ _ (spares-say (rec.Paid r x message) refl) (spares-say (rec.Turns x Running) refl)) (spares-back (topped_by S r) x))).at S }

  -- x leaves its queue, with its message if it is a sender
  spares-leave : (R : Log) (x : ObjId) (q : Option Queue) → Spares (leave R x q)
  spares-leave R x (Some (Senders e)) = spares-then (drop_message (open_of R x)) (say (rec.Parts x (Senders e))) (dropped (open_of R x)) (spares-say _ refl)
    where
      dropped : (o : Option Letter) → Spares (drop_message o)
      dropped (Some s) = spares-say _ refl
      dropped None = spares-nothing
  spares-leave R x (Some (Receivers e)) = spares-say _ refl
  spares-leave R x (Some (Waiters n)) = spares-say _ refl
  spares-leave R x None = spares-any (owing R x) _ (λ r. spares-say _ refl)

  -- x is cancelled
  spares-cancel : (x : ObjId) (mode : Mode) → Spares (cancel x mode)
  unfolding cancel
  spares-cancel x mode = record { at = λ S. (spares-then (leave S x (queue_of S x)) _ (spares-leave S x (queue_of S x)) (spares-say (rec.Turns x mode) refl)).at S }

  spares-cancel_all : (xs : List ObjId) (mode : Mode) → Spares (cancel_all xs mode)
  spares-cancel_all xs mode = spares-each xs _ (λ x. spares-cancel x mode)

  -- a reply object is freed
  spares-free : (r : ObjId) → Spares (free r)
  unfolding free
  spares-free r = record { at = λ S. (spares-any (user_of S r) _ (λ x. spares-cancel x Inactive)).at S }

  -- a thread becomes Running with its entry
  spares-wakes : (mode : Mode) (t : ObjId) → Spares (wakes mode t)
  spares-wakes Restart t = spares-say _ refl
  spares-wakes Running t = spares-nothing
  spares-wakes Inactive t = spares-nothing

  -- who hears a word wakes
  spares-wake : (n x : ObjId) (q : Queue) (word : ℕ) → Spares (wake n x q word)
  unfolding wake
  spares-wake n x q word = record {
    at = λ S. (spares-then _ _ (spares-then _ _ (spares-then _ _ (spares-say (rec.Heard x n word) refl) (spares-say (rec.Parts x q) refl)) (spares-say (rec.Turns x Running) refl)) (spares-back (spare_at S n) x)).at S;
  }

  -- a signal
  spares-signal : (n : ObjId) (badge : Badge) → Spares (signal n badge)
  unfolding signal
  spares-signal n badge = record { at = λ S. (spares-then (say (rec.Raised n badge)) (reach S n badge.0 (pending S n)) (spares-say _ refl) (go S (pending S n))).at S }
    where
      heard : (o : Option ObjId) (q : Option Queue) (w : Option ObjId) → Spares (hearer n o q w badge.0)
      heard (Some x) (Some (Receivers e)) w = spares-wake n x (Receivers e) badge.0
      heard None q (Some x) = spares-wake n x (Waiters n) badge.0
      heard None q None = spares-nothing
      heard (Some y) None (Some x) = spares-wake n x (Waiters n) badge.0
      heard (Some y) None None = spares-nothing
      heard (Some y) (Some (Senders e)) (Some x) = spares-wake n x (Waiters n) badge.0
      heard (Some y) (Some (Senders e)) None = spares-nothing
      heard (Some y) (Some (Waiters e)) (Some x) = spares-wake n x (Waiters n) badge.0
      heard (Some y) (Some (Waiters e)) None = spares-nothing

      go : (S : Log) (o : Option ℕ) → Spares (reach S n badge.0 o)
      go S (Some old) = spares-nothing
      go S None = heard (tied_to S n) (queue_of_any S (tied_to S n)) (first_in S (Waiters n))

  -- a deleted reply object owes no thread any more
  spares-void : (r : ObjId) → Spares (void_deleted r)
  unfolding void_deleted
  spares-void r = record { at = λ S. (spares-any (owed_by S r) _ (λ x. spares-then _ _ (spares-then _ _ (spares-say (rec.Void r x Deleted) refl) (spares-say (rec.Turns x Inactive) refl)) (spares-back (topped_by S r) x))).at S }

  -- no thread is left with an object
  spares-release : (R : Log) (o : ObjId) (k : Kind) → Spares (release R o k)
  spares-release R o CNode = spares-nothing
  spares-release R o Endpoint = spares-cancel_all _ Restart
  spares-release R o Notification = spares-then _ _ (spares-then _ _ (spares-cancel_all (queued_in R (Waiters o)) Restart) (spares-any (tied_to R o) _ (λ x. spares-say _ refl))) (spares-any (homed_at R o) _ (λ s. spares-say _ refl))
  spares-release R o Reply = spares-then _ _ (spares-any (receiver_with R o) _ (λ x. spares-cancel x Inactive)) (spares-void o)
  spares-release R o Context = spares-unbind o
  spares-release R o Thread = spares-then _ _ (spares-then _ _ (spares-cancel o Inactive) (spares-any (bound_of R o) _ (λ n. spares-say _ refl))) (spares-any (context_of R o) _ (λ s. spares-say _ refl))

  -- a piece, and then an act
  spares-before : (p : Piece) (act : Act) → Spares p → SparesAct act → SparesAct (before p act)
  unfolding before
  spares-before p act hp ha = record { at = λ S. none-append (p S) ((act (onto (p S) S)).records) (hp.at S) (ha.at (onto (p S) S)) }

  -- an act that only makes a piece
  spares-answers : (a : Answer) (p : Piece) → Spares p → SparesAct (answers a p)
  spares-answers a p h = record { at = λ S. h.at S }

  -- the same where checks are passed
  act-piece : (a : Answer) (p : Piece) → Spares p → OnPassed SparesAct (Ok (answers a p))
  act-piece a p h = passed-ok _ _ (spares-answers a p h)

  -- one record
  act-say : (r : Rec) → is_of_slots r ≡ false → OnPassed SparesAct (Ok (answers Done (say r)))
  act-say r e = act-piece Done (say r) (spares-say r e)

  -- a message is sent, and its sender is in its queue
  spares-queues : (t : ObjId) (held : Cap) (mode : SendMode) (message : Content) → SparesAct (queues (letter_over t held mode message))
  unfolding queues
  spares-queues t held mode message = record { at = λ S. (spares-then (sent (letter_over t held mode message S)) (say (rec.Joins t (Senders held.obj) None)) (spares-say _ refl) (spares-say _ refl)).at S }

  -- a message is sent
  spares-sends : (t : ObjId) (held : Cap) (mode : SendMode) (message : Content) (a : Answer) (alone : Act) → SparesAct alone → SparesAct (sends (letter_over t held mode message) a alone)
  unfolding sends sends_to
  spares-sends t held mode message a alone h = record { at = λ S. go S (first_in S (Receivers held.obj)) }
    where
      go : (S : Log) (o : Option ObjId) → HasNone f ((sends_to (letter_over t held mode message S) a alone o S).records)
      go S None = h.at S
      go S (Some p) = (spares-then (sent (letter_over t held mode message S)) (handed (letter_over t held mode message S) p) (spares-say _ refl) (spares-handed (letter_over t held mode message S) p)).at S

  -- a send, by the kind of its capability
  spares-send_by : (k : Kind) (mode : SendMode) (t : ObjId) (held : Cap) (message : Content) (alone : Act) → SparesAct alone → OnPassed SparesAct (send_by k mode t held message alone)
  unfolding send_by
  spares-send_by Endpoint mode t held message alone h = passed-next _ _ _ (passed-ok _ _ (spares-sends t held mode message Done alone h))
  spares-send_by Notification mode t held message alone h = passed-next _ _ _ (act-piece Done _ (spares-signal held.obj held.badge))
  spares-send_by Reply mode t held message alone h = act-piece Done _ (spares-pay held.obj message)
  spares-send_by CNode mode t held message alone h = passed-err _ _
  spares-send_by Thread mode t held message alone h = passed-err _ _
  spares-send_by Context mode t held message alone h = passed-err _ _

  -- t may give up its context
  spares-go_home : (t : ObjId) (n : Option ObjId) → Spares (go_home t n)
  unfolding go_home
  spares-go_home t n = record { at = λ S. (spares-let_go (if_at_home S n (context_of S t))).at S }

  -- t joins a queue, or is answered at once
  spares-joins : (b : Bool) (t : ObjId) (q : Queue) (r n : Option ObjId) → SparesAct (joins_or b (stand t q r n))
  unfolding joins_or stand
  spares-joins true t q r n = spares-answers _ _ (spares-then (say (rec.Joins t q r)) (go_home t n) (spares-say _ refl) (spares-go_home t n))
  spares-joins false t q r n = spares-answers _ _ spares-nothing

  -- a pending word comes first
  spares-hear : (t : ObjId) (n : Option ObjId) (word : Option ℕ) (otherwise : Act) → SparesAct otherwise → SparesAct (hear t n word otherwise)
  unfolding hear
  spares-hear t (Some n) (Some word) otherwise h = spares-answers _ _ (spares-say _ refl)
  spares-hear t None word otherwise h = h
  spares-hear t (Some n) None otherwise h = h

  -- an open message is taken, if there is one
  spares-take_open : (t : ObjId) (r : Option ObjId) (l : Option Letter) (otherwise : Act) → SparesAct otherwise → SparesAct (take_open t r l otherwise)
  unfolding take_open
  spares-take_open t r None otherwise h = h
  spares-take_open t r (Some l) otherwise h = spares-answers _ _ (spares-taken l t r)

  -- a receive
  spares-receive_message : (t e : ObjId) (r : Option ObjId) (blocking : Bool) → SparesAct (receive_message t e r blocking)
  unfolding receive_message
  spares-receive_message t e r blocking = record { at = λ S. (spares-hear t _ _ _ (spares-take_open t r _ _ (spares-joins blocking t (Receivers e) r (bound_of S t)))).at S }

  -- a receive with a reply object
  spares-receive_on : (t e : ObjId) (r : Option ObjId) (blocking : Bool) → SparesAct (receive_on t e r blocking)
  unfolding receive_on
  spares-receive_on t e r blocking = spares-before (with_any r free) _ (spares-any r free spares-free) (spares-receive_message t e r blocking)

  -- a wait
  spares-wait_on : (t n : ObjId) (blocking : Bool) → SparesAct (wait_on t n blocking)
  unfolding wait_on
  spares-wait_on t n blocking = record { at = λ S. (spares-hear t _ _ _ (spares-joins blocking t (Waiters n) None (Some n))).at S }

  -- a receive, by the kind of its source
  spares-receive_by : (k : Kind) (R : Log) (t : ObjId) (held : Cap) (reply : Checked (Option ObjId)) (blocking : Bool) → OnPassed SparesAct (receive_by k R t held reply blocking)
  unfolding receive_by
  spares-receive_by Endpoint R t held reply blocking = passed-next _ _ _ (passed-bind _ _ _ (λ r. passed-ok _ _ (spares-receive_on t held.obj r blocking)))
  spares-receive_by Notification R t held reply blocking = passed-next _ _ _ (passed-next _ _ _ (passed-ok _ _ (spares-wait_on t held.obj blocking)))
  spares-receive_by CNode R t held reply blocking = passed-err _ _
  spares-receive_by Thread R t held reply blocking = passed-err _ _
  spares-receive_by Reply R t held reply blocking = passed-err _ _
  spares-receive_by Context R t held reply blocking = passed-err _ _

  -- a receive over a capability
  spares-receive_over : (R : Log) (t : ObjId) (held : Cap) (reply : Checked (Option ObjId)) (blocking : Bool) → OnPassed SparesAct (receive_over R t held reply blocking)
  unfolding receive_over
  spares-receive_over R t held reply blocking = spares-receive_by held.obj.kind R t held reply blocking

  -- sends, and then receives
  spares-send_receive : (R : Log) (t : ObjId) (sending : Checked Act) (address : ℕ) (reply : Checked (Option ObjId)) → OnPassed SparesAct sending → OnPassed SparesAct (send_receive R t sending address reply)
  unfolding send_receive
  spares-send_receive R t sending address reply h = passed-after SparesAct SparesAct sending _ h (λ send k. passed-bind _ _ _ (λ source.
      passed-after SparesAct SparesAct _ _ (spares-receive_over R t source reply true) (λ act later. passed-ok SparesAct _ (spares-before (silently send) act (record { at = λ S. k.at S }) later))))

  -- a context is bound, by the kind of what it is bound to
  spares-bind_by : (k : Kind) (R : Log) (s o : ObjId) → OnPassed SparesAct (bind_by k R s o)
  unfolding bind_by
  spares-bind_by Thread R s o = passed-next _ _ _ (act-say _ refl)
  spares-bind_by Notification R s o = passed-next _ _ _ (act-say _ refl)
  spares-bind_by CNode R s o = passed-err _ _
  spares-bind_by Endpoint R s o = passed-err _ _
  spares-bind_by Reply R s o = passed-err _ _
  spares-bind_by Context R s o = passed-err _ _

  -- nothing is done where no thread receives
  spares-alone : SparesAct (answers Done nothing)
  spares-alone = spares-answers _ _ spares-nothing

  -- one piece is a row's act
  row-signal : (n : ObjId) (badge : Badge) → OnPassed SparesAct (Ok (answers Done (signal n badge)))
  row-signal n badge = act-piece Done _ (spares-signal n badge)

  row-unbind : (s : ObjId) → OnPassed SparesAct (Ok (answers Done (unbind s)))
  row-unbind s = act-piece Done _ (spares-unbind s)

  row-cancel : (x : ObjId) (mode : Mode) → OnPassed SparesAct (Ok (answers Done (cancel x mode)))
  row-cancel x mode = act-piece Done _ (spares-cancel x mode)

  -- an entry that changes slots is none of them
  never : (m : Checked Act) → true ≡ false → OnPassed SparesAct m
  never m is = absurd cc

  -- what each row does that changes no slots, where its checks are passed
  spares-row : (R : Log) (core : CoreId) (t : ObjId) (entry : Entry) → changes_slots entry ≡ false → OnPassed SparesAct (row R core t entry)
  unfolding row send_over reply_receive
  spares-row R core t (Send a message) is = passed-bind _ _ _ (λ held. spares-send_by held.obj.kind how.Plain t held message _ (spares-queues t held how.Plain message))
  spares-row R core t (NbSend a message) is = passed-bind _ _ _ (λ held. spares-send_by held.obj.kind how.Plain t held message _ spares-alone)
  spares-row R core t (Call a message) is = passed-bind _ _ _ (λ held. passed-next _ _ _ (passed-ok _ _ (spares-sends t held (call_mode held) message Waits _ (spares-queues t held (call_mode held) message))))
  spares-row R core t (Recv a r) is = passed-bind _ _ _ (λ held. spares-receive_over R t held _ true)
  spares-row R core t (NbRecv a r) is = passed-bind _ _ _ (λ held. spares-receive_over R t held _ false)
  spares-row R core t (Wait a) is = passed-bind _ _ _ (λ held. spares-receive_over R t held _ true)
  spares-row R core t (NbWait a) is = passed-bind _ _ _ (λ held. spares-receive_over R t held _ false)
  spares-row R core t (ReplyRecv a r message) is =
      passed-bind _ _ _ (λ held. passed-next _ _ _ (passed-next _ _ _ (passed-bind _ _ _ (λ o.
      passed-after SparesAct _ _ _ (spares-receive_over R t held (Ok o) true) (λ act k. passed-ok _ _ (spares-before (pay_any o message) act (spares-any o _ (λ r. spares-pay r message)) k))))))
  spares-row R core t (Resume x) is = passed-bind _ _ _ (λ thread. act-piece Done _ (spares-if _ nothing (cancel thread.obj Restart) spares-nothing (spares-cancel thread.obj Restart)))
  spares-row R core t (NbSendRecv a source r message) is = spares-send_receive R t _ source _ (passed-bind _ _ _ (λ held. spares-send_by held.obj.kind how.Give t held message _ spares-alone))
  spares-row R core t (NbSendWait a source message) is = spares-send_receive R t _ source _ (passed-bind _ _ _ (λ held. spares-send_by held.obj.kind how.Give t held message _ spares-alone))
  spares-row R core t (CancelBadged a) is = passed-bind _ _ _ (λ held. passed-next _ _ _ (act-piece Done _ (spares-if _ nothing (cancel_all (senders_with R held.obj held.badge.0) Restart) spares-nothing (spares-cancel_all _ Restart))))
  spares-row R core t _ is = search (never, passed-bind, passed-next, act-say, row-signal, row-unbind, row-cancel, spares-bind_by) depth 9

  -- what an entry does, where its row has no such records
  spares-does : (R : Log) (core : CoreId) (t : ObjId) (entry : Entry) → OnPassed SparesAct (row R core t entry) → HasNone f ((does R core t entry).records)
  unfolding does OnPassed
  spares-does R core t entry h = go (row R core t entry) h
    where
      go : (m : Checked Act) → OnPassed SparesAct m → HasNone f ((outcome_of R t m).records)
      go (Ok act) k = (spares-before (wakes (mode_of R t) t) act (spares-wakes (mode_of R t) t) k).at R
      go (Err refusal) k = refl

-- the law: an entry that changes no slots has no record of slots
pub does-no_slots : (R : Log) (core : CoreId) (t : ObjId) (entry : Entry) → changes_slots entry ≡ false → HasNone is_of_slots ((does R core t entry).records)
does-no_slots R core t entry is = spares-does is_of_slots (λ r e. e) R core t entry (spares-row is_of_slots (λ r e. e) R core t entry is)

-- a record that is not of slots makes no object
not_making : (r : Rec) → is_of_slots r ≡ false → is_making r ≡ false
not_making (rec.Made o form) e = absurd cc
not_making _ e = refl

-- an act that makes no object
abbrev MakesNone : Act → Type 0
MakesNone = SparesAct is_making not_making

-- an object ends
none-destroy_last : (o : ObjId) → Spares is_making not_making (destroy_last o)
unfolding destroy_last destroy
none-destroy_last o = record { at = λ S. go S (count_of S o == 0) }
  where
    go : (S : Log) (b : Bool) → HasNone is_making (cond b (destroy o) nothing S)
    go S true = (spares-then is_making not_making (release S o o.kind) (say (rec.Closed o)) (spares-release is_making not_making S o o.kind) (spares-rec is_making not_making (rec.Closed o) refl)).at S
    go S false = refl

-- a slot is written
none-slot : (c : ObjId) (i : ℕ) (held : Option Cap) → Spares is_making not_making (say (rec.Slot c i held))
none-slot c i held = spares-rec is_making not_making (rec.Slot c i held) refl

row-slot : (c : ObjId) (i : ℕ) (held : Option Cap) → OnPassed MakesNone (Ok (answers Done (say (rec.Slot c i held))))
row-slot c i held = act-piece is_making not_making Done _ (none-slot c i held)

-- a capability is deleted
none-delete : (at : SlotName) (held : Option Cap) → OnPassed MakesNone (Ok (delete at held))
unfolding delete
none-delete at None = act-piece is_making not_making Done nothing (spares-nothing is_making not_making)
none-delete at (Some held) = act-piece is_making not_making Done _ (spares-then is_making not_making _ _ (none-slot at.cnode at.index None) (none-destroy_last held.obj))

-- an entry that makes an object is none of them
makes-never : (m : Checked Act) → true ≡ false → OnPassed MakesNone m
makes-never m is = absurd cc

-- what each row does that makes no object, where its checks are passed
none-row : (R : Log) (core : CoreId) (t : ObjId) (entry : Entry) → makes_object entry ≡ false → OnPassed MakesNone (row R core t entry)
unfolding row
none-row R core t (CopyCap source dest rights) is = passed-bind _ _ _ (λ at. row-slot _ _ _)
none-row R core t (MintCap source dest rights badge) is = passed-bind _ _ _ (λ at. passed-next _ _ _ (passed-next _ _ _ (row-slot _ _ _)))
none-row R core t (MoveCap source dest) is = passed-bind _ _ _ (λ at. act-piece is_making not_making Done _ (spares-then is_making not_making _ _ (none-slot _ _ _) (none-slot _ _ _)))
none-row R core t (DeleteCap place) is = passed-bind _ _ _ (λ at. passed-next _ _ _ (none-delete at _))
none-row R core t (MakeEndpoint place) is = makes-never _ is
none-row R core t (MakeNotification place) is = makes-never _ is
none-row R core t (MakeReply place) is = makes-never _ is
none-row R core t (MakeContext place) is = makes-never _ is
none-row R core t entry is = spares-row is_making not_making R core t entry refl

-- the law: an entry that makes no object has no record of one
pub does-no_making : (R : Log) (core : CoreId) (t : ObjId) (entry : Entry) → makes_object entry ≡ false → HasNone is_making ((does R core t entry).records)
does-no_making R core t entry is = spares-does is_making not_making R core t entry (none-row R core t entry is)
