-- How many records each piece makes, and that none makes a thread.
use Rattle.std.specs.Prelude.{ℕ, suc, ◌+◌, ◌*◌, ◌≤◌, Bool, true, false, cond, ◌==◌, ◌≡◌, List, [], ◌∷◌, ◌++◌, Option, Some, None, refl, length}
use Rattle.std.proofs.Common.{◌∙◌, ap, arith}
use Rattle.std.proofs.lemmas.List.{length-append}
use Rattle.mcs_types.specs.Views.{Content}
use Rattle.mcs_types.specs.declared.id.ObjId.{ObjId}
use Rattle.mcs_types.specs.declared.id.Badge.{Badge}
use Rattle.mcs_types.specs.declared.id.Kind.{Kind}
use Rattle.mcs_types.specs.declared.id.Kind.TheVariants.{CNode, Thread, Endpoint, Notification, Reply, Context}
use Rattle.mcs_types.specs.declared.record.SendMode.{SendMode}
use Rattle.mcs_types.specs.declared.record.SendMode.TheVariants as how
use Rattle.mcs_types.specs.declared.record.Mode.{Mode}
use Rattle.mcs_types.specs.declared.record.Mode.TheVariants.{Running, Restart, Inactive}
use Rattle.mcs_types.specs.declared.record.Ending.TheVariants.{Deleted, Cancelled}
use Rattle.mcs_types.specs.declared.record.Queue.{Queue}
use Rattle.mcs_types.specs.declared.record.Queue.TheVariants.{Senders, Receivers, Waiters}
use Rattle.mcs_types.specs.declared.record.Letter.{Letter}
use Rattle.mcs_types.specs.declared.record.Rec.{Rec}
use Rattle.mcs_types.specs.declared.record.Rec.TheVariants as rec
use Rattle.mcs_book.specs.Logs.{Log, onto}
use Rattle.mcs_book.specs.Threads.{threads}
use Rattle.mcs_book.specs.Slots.{count_of}
use Rattle.mcs_book.specs.Messages.{open_of}
use Rattle.mcs_book.specs.Queues.{queue_of, first_in, reply_with, queued_in}
use Rattle.mcs_book.specs.Contexts.{context_of, holder_of, home_of, homed_at}
use Rattle.mcs_book.specs.Replies.{owed_by, owing, receiver_with, user_of}
use Rattle.mcs_book.specs.Chains.{topped_by}
use Rattle.mcs_book.specs.Notifications.{bound_of, tied_to, pending}
use Rattle.mcs_book.specs.Pieces.{Piece, ◌then◌, nothing, say, with_any, for_each}
use Rattle.mcs_book.specs.Taking.{debt, owe, back_to, give_back, give, settle, handed, taken, pay}
use Rattle.mcs_book.specs.Signalling.{queue_of_any, spare_at, wake, hearer, reach, signal}
use Rattle.mcs_book.specs.Cancelling.{drop_message, leave, cancel, cancel_all, let_go, unbind, void_deleted, release, destroy}
use Rattle.mcs_book.specs.Receiving.{free}
use Rattle.mcs_book.specs.Placing.{destroy_last}
use Rattle.mcs_book.specs.Table.{wakes}
use Rattle.mcs_book.proofs.SoundLogs.Keeping.{onto-append}
use Rattle.mcs_book.proofs.Lengths.Queues.{line-short, lines-short}

-- T are the threads that were made
module _ (T : List ObjId) where
  -- records of which there are at most n, and none makes a thread
  pub record FewRecords (n : ℕ) (S : Log) (made : List Rec) : Type 0 where
    pub few : length made ≤ n
    pub threads_same : threads (onto made S) ≡ T

  -- a piece of such records
  pub record Few (n : ℕ) (p : Piece) : Type 0 where
    pub at : (S : Log) → threads S ≡ T → FewRecords n S (p S)

  -- records after others
  pub few-append : (m n : ℕ) (S : Log) (made more : List Rec) → FewRecords m S made → FewRecords n (onto made S) more → FewRecords (m + n) S (made ++ more)
  few-append m n S made more h k =
      let e : length (made ++ more) ≡ length made + length more = length-append made more in
      let a : length made ≤ m = h.few in
      let b : length more ≤ n = k.few in
      record { few = omega (arith, e, a, b); threads_same = ap (λ z. threads z) (onto-append made more S) ∙ k.threads_same }

  -- at most as many are at most more
  pub few-more : (m n : ℕ) (S : Log) (made : List Rec) → m ≤ n → FewRecords m S made → FewRecords n S made
  few-more m n S made le h = let a : length made ≤ m = h.few in record { few = omega (arith, le, a); threads_same = h.threads_same }

  -- the same of a piece
  pub few-within : (m n : ℕ) (p : Piece) → m ≤ n → Few m p → Few n p
  few-within m n p le h = record { at = λ S is. few-more m n S (p S) le (h.at S is) }

  -- no record
  pub few-nothing : Few 0 nothing
  few-nothing = record { at = λ S is. record { few = omega arith; threads_same = is } }

  -- one record
  pub few-say : (r : Rec) → ((S : Log) → threads (r ∷ S) ≡ threads S) → Few 1 (say r)
  few-say r e = record { at = λ S is. record { few = omega arith; threads_same = e S ∙ is } }

  -- two pieces, one after the other
  pub few-then : (m n : ℕ) (p q : Piece) → Few m p → Few n q → Few (m + n) (p then q)
  unfolding ◌then◌
  few-then m n p q hp hq = record { at = λ S is. let h : FewRecords m S (p S) = hp.at S is in few-append m n S (p S) (q (onto (p S) S)) h (hq.at (onto (p S) S) h.threads_same) }

  -- a piece about somebody, if there is somebody
  pub few-any : {A : Type 0} (n : ℕ) (o : Option A) (p : A → Piece) → ((x : A) → Few n (p x)) → Few n (with_any o p)
  few-any n None p h = few-within 0 n nothing (omega arith) few-nothing
  few-any n (Some x) p h = h x

  -- one of two pieces
  pub few-if : (n : ℕ) (b : Bool) (p q : Piece) → Few n p → Few n q → Few n (cond b p q)
  few-if n true p q hp hq = hp
  few-if n false p q hp hq = hq

  -- a piece of three records for each of a list
  pub few-each : (xs : List ObjId) (p : ObjId → Piece) → ((x : ObjId) → Few 3 (p x)) → Few (3 * length xs) (for_each xs p)
  few-each [] p h = few-nothing
  few-each (x ∷ xs) p h = few-within (3 + 3 * length xs) (3 * suc (length xs)) (p x then for_each xs p) (omega arith) (few-then 3 (3 * length xs) (p x) (for_each xs p) (h x) (few-each xs p h))

  -- a debt, and the context that is brought
  few-owe : (r x p : ObjId) → Few 2 (owe r x p)
  unfolding owe
  few-owe r x p = record { at = λ S is. go S is (context_of S p) (context_of S x) }
    where
      go : (S : Log) → threads S ≡ T → (o o' : Option ObjId) → FewRecords 2 S (debt r x p o o')
      go S is None (Some s) = record { few = omega arith; threads_same = is }
      go S is None None = record { few = omega arith; threads_same = is }
      go S is (Some s) None = record { few = omega arith; threads_same = is }
      go S is (Some s) (Some s') = record { few = omega arith; threads_same = is }

  -- a context passes to x
  few-back : (s : Option ObjId) (x : ObjId) → Few 1 (give_back s x)
  unfolding give_back
  few-back s x = record { at = λ S is. go S is s (context_of S x) }
    where
      go : (S : Log) → threads S ≡ T → (o o' : Option ObjId) → FewRecords 1 S (back_to x o o')
      go S is (Some s) None = record { few = omega arith; threads_same = is }
      go S is None o = record { few = omega arith; threads_same = is }
      go S is (Some s) (Some s') = record { few = omega arith; threads_same = is }

  -- the context of x passes to p
  few-give : (x p : ObjId) → Few 1 (give x p)
  unfolding give
  few-give x p = record { at = λ S is. (few-back (context_of S x) p).at S is }

  -- a context is dropped
  pub few-let_go : (s : Option ObjId) → Few 1 (let_go s)
  few-let_go s = few-any 1 s _ (λ c. few-say (rec.Holds c None) (λ S. refl))

  -- a context is homed nowhere and held by no thread
  pub few-unbind : (s : ObjId) → Few 2 (unbind s)
  unfolding unbind
  few-unbind s = record { at = λ S is. (few-then 1 1 _ _ (few-any 1 (home_of S s) _ (λ n. few-say (rec.Homed s None) (λ S. refl))) (few-any 1 (holder_of S s) _ (λ t. few-say (rec.Holds s None) (λ S. refl)))).at S is }

  -- what becomes of a sender
  few-settle : (mode : SendMode) (x p : ObjId) (r : Option ObjId) (goes_on : Piece) → Few 1 goes_on → Few 2 (settle mode x p r goes_on)
  few-settle how.Plain x p r goes_on h = few-within 1 2 goes_on (omega arith) h
  few-settle how.Call x p (Some r) goes_on h = few-owe r x p
  few-settle how.Call x p None goes_on h = few-within 1 2 (say (rec.Turns x Inactive)) (omega arith) (few-say (rec.Turns x Inactive) (λ S. refl))
  few-settle how.Give x p r goes_on h = few-within 1 2 (give x p) (omega arith) (few-give x p)
  few-settle how.Mute x p r goes_on h = few-within 1 2 (say (rec.Turns x Inactive)) (omega arith) (few-say (rec.Turns x Inactive) (λ S. refl))

  -- a message just sent is handed over
  pub few-handed : (s : Letter) (p : ObjId) → Few 5 (handed s p)
  unfolding handed
  few-handed s p = record {
    at = λ S is. (few-then 4 1 _ _ (few-then 2 2 _ _ (few-then 1 1 _ _ (few-say (rec.Took s.number p) (λ S. refl)) (few-say (rec.Parts p (Receivers s.endpoint)) (λ S. refl)))
        (few-settle s.mode s.sender p (reply_with S p) nothing (few-within 0 1 nothing (omega arith) few-nothing))) (few-say (rec.Turns p Running) (λ S. refl))).at S is;
  }

  -- the message of a queued sender is taken
  pub few-taken : (s : Letter) (p : ObjId) (r : Option ObjId) → Few 4 (taken s p r)
  unfolding taken
  few-taken s p r = few-then 2 2 _ _ (few-then 1 1 _ _ (few-say (rec.Took s.number p) (λ S. refl)) (few-say (rec.Parts s.sender (Senders s.endpoint)) (λ S. refl)))
      (few-settle s.mode s.sender p r (say (rec.Turns s.sender Running)) (few-say (rec.Turns s.sender Running) (λ S. refl)))

  -- a caller is answered
  pub few-pay : (r : ObjId) (message : Content) → Few 3 (pay r message)
  unfolding pay
  few-pay r message = record { at = λ S is. (few-any 3 (owed_by S r) _ (λ x. few-then 2 1 _ _ (few-then 1 1 _ _ (few-say (rec.Paid r x message) (λ S. refl)) (few-say (rec.Turns x Running) (λ S. refl))) (few-back (topped_by S r) x))).at S is }

  -- x leaves its queue, with its message if it is a sender
  few-leave : (R : Log) (x : ObjId) (q : Option Queue) → Few 2 (leave R x q)
  few-leave R x (Some (Senders e)) = few-then 1 1 (drop_message (open_of R x)) (say (rec.Parts x (Senders e))) (dropped (open_of R x)) (few-say (rec.Parts x (Senders e)) (λ S. refl))
    where
      dropped : (o : Option Letter) → Few 1 (drop_message o)
      dropped (Some s) = few-say (rec.Dropped s.number) (λ S. refl)
      dropped None = few-within 0 1 nothing (omega arith) few-nothing
  few-leave R x (Some (Receivers e)) = few-within 1 2 (say (rec.Parts x (Receivers e))) (omega arith) (few-say (rec.Parts x (Receivers e)) (λ S. refl))
  few-leave R x (Some (Waiters n)) = few-within 1 2 (say (rec.Parts x (Waiters n))) (omega arith) (few-say (rec.Parts x (Waiters n)) (λ S. refl))
  few-leave R x None = few-within 1 2 _ (omega arith) (few-any 1 (owing R x) _ (λ r. few-say (rec.Void r x Cancelled) (λ S. refl)))

  -- x is cancelled
  pub few-cancel : (x : ObjId) (mode : Mode) → Few 3 (cancel x mode)
  unfolding cancel
  few-cancel x mode = record { at = λ S is. (few-then 2 1 (leave S x (queue_of S x)) _ (few-leave S x (queue_of S x)) (few-say (rec.Turns x mode) (λ S. refl))).at S is }

  -- all of a list are cancelled
  pub few-cancel_all : (xs : List ObjId) (mode : Mode) → Few (3 * length xs) (cancel_all xs mode)
  few-cancel_all xs mode = few-each xs _ (λ x. few-cancel x mode)

  -- a reply object is freed
  pub few-free : (r : ObjId) → Few 3 (free r)
  unfolding free
  few-free r = record { at = λ S is. (few-any 3 (user_of S r) _ (λ x. few-cancel x Inactive)).at S is }

  -- a thread becomes Running with its entry
  pub few-wakes : (mode : Mode) (t : ObjId) → Few 1 (wakes mode t)
  few-wakes Restart t = few-say (rec.Turns t Running) (λ S. refl)
  few-wakes Running t = few-within 0 1 nothing (omega arith) few-nothing
  few-wakes Inactive t = few-within 0 1 nothing (omega arith) few-nothing

  -- who hears a word wakes
  few-wake : (n x : ObjId) (q : Queue) (word : ℕ) → Few 4 (wake n x q word)
  unfolding wake
  few-wake n x q word = record {
    at = λ S is. (few-then 3 1 _ _ (few-then 2 1 _ _ (few-then 1 1 _ _ (few-say (rec.Heard x n word) (λ S. refl)) (few-say (rec.Parts x q) (λ S. refl))) (few-say (rec.Turns x Running) (λ S. refl))) (few-back (spare_at S n) x)).at S is;
  }

  -- a signal
  pub few-signal : (n : ObjId) (badge : Badge) → Few 5 (signal n badge)
  unfolding signal
  few-signal n badge = record { at = λ S is. (few-then 1 4 (say (rec.Raised n badge)) (reach S n badge.0 (pending S n)) (few-say (rec.Raised n badge) (λ S. refl)) (go S (pending S n))).at S is }
    where
      none : Few 4 nothing
      none = few-within 0 4 nothing (omega arith) few-nothing

      heard : (o : Option ObjId) (q : Option Queue) (w : Option ObjId) → Few 4 (hearer n o q w badge.0)
      heard (Some x) (Some (Receivers e)) w = few-wake n x (Receivers e) badge.0
      heard None q (Some x) = few-wake n x (Waiters n) badge.0
      heard None q None = none
      heard (Some y) None (Some x) = few-wake n x (Waiters n) badge.0
      heard (Some y) None None = none
      heard (Some y) (Some (Senders e)) (Some x) = few-wake n x (Waiters n) badge.0
      heard (Some y) (Some (Senders e)) None = none
      heard (Some y) (Some (Waiters e)) (Some x) = few-wake n x (Waiters n) badge.0
      heard (Some y) (Some (Waiters e)) None = none

      go : (S : Log) (o : Option ℕ) → Few 4 (reach S n badge.0 o)
      go S (Some old) = none
      go S None = heard (tied_to S n) (queue_of_any S (tied_to S n)) (first_in S (Waiters n))

  -- a deleted reply object owes no thread any more
  few-void : (r : ObjId) → Few 3 (void_deleted r)
  unfolding void_deleted
  few-void r = record { at = λ S is. (few-any 3 (owed_by S r) _ (λ x. few-then 2 1 _ _ (few-then 1 1 _ _ (few-say (rec.Void r x Deleted) (λ S. refl)) (few-say (rec.Turns x Inactive) (λ S. refl))) (few-back (topped_by S r) x))).at S is }

  -- no thread is left with an object
  few-release : (R : Log) (o : ObjId) (k : Kind) → threads R ≡ T → Few (3 * length T + 6) (release R o k)
  few-release R o CNode is = few-within 0 (3 * length T + 6) nothing (omega arith) few-nothing
  few-release R o Endpoint is =
      let le : length (queued_in R (Senders o) ++ queued_in R (Receivers o)) ≤ length (threads R) = lines-short R o in
      let e : length (threads R) ≡ length T = ap length is in
      few-within (3 * length (queued_in R (Senders o) ++ queued_in R (Receivers o))) (3 * length T + 6) _ (omega (arith, le, e)) (few-cancel_all (queued_in R (Senders o) ++ queued_in R (Receivers o)) Restart)
  few-release R o Notification is =
      let le : length (queued_in R (Waiters o)) ≤ length (threads R) = line-short R (Waiters o) in
      let e : length (threads R) ≡ length T = ap length is in
      few-within (3 * length (queued_in R (Waiters o)) + 1 + 1) (3 * length T + 6) _ (omega (arith, le, e))
      (few-then (3 * length (queued_in R (Waiters o)) + 1) 1 _ _ (few-then (3 * length (queued_in R (Waiters o))) 1 _ _ (few-cancel_all (queued_in R (Waiters o)) Restart) (few-any 1 (tied_to R o) _ (λ x. few-say _ (λ S. refl))))
      (few-any 1 (homed_at R o) _ (λ s. few-say (rec.Homed s None) (λ S. refl))))
  few-release R o Reply is = few-within 6 (3 * length T + 6) _ (omega arith) (few-then 3 3 _ _ (few-any 3 (receiver_with R o) _ (λ x. few-cancel x Inactive)) (few-void o))
  few-release R o Context is = few-within 2 (3 * length T + 6) _ (omega arith) (few-unbind o)
  few-release R o Thread is =
      few-within 5 (3 * length T + 6) _ (omega arith)
      (few-then 4 1 _ _ (few-then 3 1 _ _ (few-cancel o Inactive) (few-any 1 (bound_of R o) _ (λ n. few-say _ (λ S. refl)))) (few-any 1 (context_of R o) _ (λ s. few-say (rec.Holds s None) (λ S. refl))))

  -- an object ends
  few-destroy : (o : ObjId) → Few (3 * length T + 7) (destroy o)
  unfolding destroy
  few-destroy o = few-within (3 * length T + 6 + 1) (3 * length T + 7) (destroy o) (omega arith)
      (record { at = λ S is. (few-then (3 * length T + 6) 1 (release S o o.kind) _ (few-release S o o.kind is) (few-say (rec.Closed o) (λ S. refl))).at S is })

  -- so where it ends with its last capability
  pub few-destroy_last : (o : ObjId) → Few (3 * length T + 7) (destroy_last o)
  unfolding destroy_last
  few-destroy_last o = record { at = λ S is. (few-if (3 * length T + 7) (count_of S o == 0) (destroy o) nothing (few-destroy o) (few-within 0 (3 * length T + 7) nothing (omega arith) few-nothing)).at S is }
