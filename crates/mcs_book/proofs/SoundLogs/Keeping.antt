-- What each piece keeps, if the steps that belong together do. A step is one record aside, or the
-- records of a message or a line that come together.
use Rattle.std.specs.Prelude.{ℕ, Bool, true, false, cond, ◌≡◌, List, [], ◌∷◌, ◌++◌, Option, Some, None, refl}
use Rattle.mcs_types.specs.Views.{Content}
use Rattle.mcs_types.specs.declared.id.ObjId.{ObjId}
use Rattle.mcs_types.specs.declared.id.Badge.{Badge}
use Rattle.mcs_types.specs.declared.id.Kind.{Kind}
use Rattle.mcs_types.specs.declared.id.Kind.TheVariants.{CNode, Thread, Endpoint, Notification, Reply, Context}
use Rattle.mcs_types.specs.declared.record.SendMode.{SendMode}
use Rattle.mcs_types.specs.declared.record.SendMode.TheVariants as how
use Rattle.mcs_types.specs.declared.record.Mode.{Mode}
use Rattle.mcs_types.specs.declared.record.Mode.TheVariants.{Restart, Inactive}
use Rattle.mcs_types.specs.declared.record.Queue.{Queue}
use Rattle.mcs_types.specs.declared.record.Queue.TheVariants.{Senders, Receivers, Waiters}
use Rattle.mcs_types.specs.declared.record.Rec.{Rec}
use Rattle.mcs_types.specs.declared.record.Rec.TheVariants as rec
use Rattle.mcs_book.specs.Logs.{Log, onto}
use Rattle.mcs_types.specs.declared.record.Letter.{Letter}
use Rattle.mcs_book.specs.Messages.{open_of}
use Rattle.mcs_book.specs.Queues.{queue_of, first_in, reply_with}
use Rattle.mcs_book.specs.Contexts.{context_of, holder_of, home_of, homed_at}
use Rattle.mcs_book.specs.Replies.{owed_by, owing, receiver_with}
use Rattle.mcs_book.specs.Chains.{topped_by}
use Rattle.mcs_book.specs.Notifications.{bound_of, tied_to, pending}
use Rattle.mcs_book.specs.Pieces.{Piece, ◌then◌, nothing, say, with_any, for_each}
use Rattle.mcs_book.specs.Taking.{debt, owe, back_to, give_back, give, settle, handed, taken, pay}
use Rattle.mcs_book.specs.Signalling.{queue_of_any, spare_at, wake, hearer, reach, signal}
use Rattle.mcs_book.proofs.Queues.QueueLaws.{first-stands}
use Rattle.mcs_book.specs.Cancelling.{drop_message, leave, cancel, cancel_all, untie, let_go, unhome, unbind, void_deleted, release, destroy}

-- whether a record is of no message and no line
abbrev pub is_aside : Rec → Bool
is_aside (rec.Sent x e mode badge message) = false
is_aside (rec.Took m p) = false
is_aside (rec.Dropped m) = false
is_aside (rec.Joins t q reply) = false
is_aside (rec.Parts t q) = false
is_aside _ = true

-- the record of a message that is sent
abbrev pub sent_record : Letter → Rec
sent_record s = rec.Sent s.sender s.endpoint s.mode s.badge s.message

-- records after others
pub onto-append : (made more : List Rec) (R : Log) → onto (made ++ more) R ≡ onto more (onto made R)
onto-append [] more R = refl
onto-append (rec ∷ made) more R = onto-append made more (rec ∷ R)

-- steps that keep J, with what the definitions say where they are made
pub record Steps (J : Log → Type 0) : Type 0 where
  pub aside : (R : Log) (r : Rec) → is_aside r ≡ true → J R → J (r ∷ R)
  pub drops : (R : Log) (e x : ObjId) (s : Letter) → queue_of R x ≡ Some (Senders e) → open_of R x ≡ Some s → J R → J (rec.Parts x (Senders e) ∷ rec.Dropped s.number ∷ R)
  pub leaves_none : (R : Log) (e x : ObjId) → queue_of R x ≡ Some (Senders e) → open_of R x ≡ None → J R → J (rec.Parts x (Senders e) ∷ R)
  pub leaves_receiver : (R : Log) (e x : ObjId) → queue_of R x ≡ Some (Receivers e) → J R → J (rec.Parts x (Receivers e) ∷ R)
  pub leaves_waiter : (R : Log) (n x : ObjId) → queue_of R x ≡ Some (Waiters n) → J R → J (rec.Parts x (Waiters n) ∷ R)

-- pieces that keep J, one after another
module _ (J : Log → Type 0) where
  -- a piece that keeps it
  abbrev pub Keeps : Piece → Type 0
  Keeps p = (R : Log) → J R → J (onto (p R) R)

  -- no record keeps it
  pub keeps-nothing : Keeps nothing
  keeps-nothing R h = h

  -- a piece kept at this log, and then one kept everywhere
  pub then-at : (p q : Piece) (R : Log) → J (onto (p R) R) → Keeps q → J (onto ((p then q) R) R)
  unfolding ◌then◌
  then-at p q R hp hq = rw (onto-append (p R) (q (onto (p R) R)) R) (hq (onto (p R) R) hp)

  -- two pieces that keep it, one after the other
  pub keeps-then : (p q : Piece) → Keeps p → Keeps q → Keeps (p then q)
  keeps-then p q hp hq R h = then-at p q R (hp R h) hq

  -- a piece, and then one kept after it
  pub then-next : (p q : Piece) (R : Log) → J (onto (q (onto (p R) R)) (onto (p R) R)) → J (onto ((p then q) R) R)
  unfolding ◌then◌
  then-next p q R h = rw (onto-append (p R) (q (onto (p R) R)) R) h

  -- a piece about somebody, if there is somebody
  pub keeps-any : {A : Type 0} (o : Option A) (p : A → Piece) → ((x : A) → Keeps (p x)) → Keeps (with_any o p)
  keeps-any None p h = keeps-nothing
  keeps-any (Some x) p h = h x

  -- a piece for each of a list
  pub keeps-each : {A : Type 0} (xs : List A) (p : A → Piece) → ((x : A) → Keeps (p x)) → Keeps (for_each xs p)
  keeps-each [] p h = keeps-nothing
  keeps-each (x ∷ xs) p h = keeps-then (p x) (for_each xs p) (h x) (keeps-each xs p h)

  -- one of two pieces
  pub keeps-if : (b : Bool) (p q : Piece) → Keeps p → Keeps q → Keeps (cond b p q)
  keeps-if true p q hp hq = hp
  keeps-if false p q hp hq = hq

-- what these steps keep, pieces keep
module _ (J : Log → Type 0) (steps : Steps J) where
  -- one record aside
  pub keeps-say : (r : Rec) → is_aside r ≡ true → Keeps J (say r)
  keeps-say r e R h = steps.aside R r e h

  -- a debt, and the context that is brought
  keeps-owe : (r x p : ObjId) → Keeps J (owe r x p)
  unfolding owe
  keeps-owe r x p R h = go (context_of R p) (context_of R x)
    where
      go : (o o' : Option ObjId) → J (onto (debt r x p o o') R)
      go None (Some s) = steps.aside _ _ refl (steps.aside R _ refl h)
      go None None = steps.aside R _ refl h
      go (Some s) None = steps.aside R _ refl h
      go (Some s) (Some s') = steps.aside R _ refl h

  -- a context passes to x
  keeps-back : (s : Option ObjId) (x : ObjId) → Keeps J (give_back s x)
  unfolding give_back
  keeps-back s x R h = go s (context_of R x)
    where
      go : (o o' : Option ObjId) → J (onto (back_to x o o') R)
      go (Some s) None = steps.aside R _ refl h
      go None o = h
      go (Some s) (Some s') = h

  -- the context of x passes to p
  keeps-give : (x p : ObjId) → Keeps J (give x p)
  unfolding give
  keeps-give x p R h = keeps-back (context_of R x) p R h

  -- what becomes of a sender
  keeps-settle : (mode : SendMode) (x p : ObjId) (r : Option ObjId) (goes_on : Piece) → Keeps J goes_on → Keeps J (settle mode x p r goes_on)
  keeps-settle how.Plain x p r goes_on h = h
  keeps-settle how.Call x p (Some r) goes_on h = keeps-owe r x p
  keeps-settle how.Call x p None goes_on h = keeps-say _ refl
  keeps-settle how.Mute x p r goes_on h = keeps-say _ refl
  keeps-settle how.Give x p r goes_on h = keeps-give x p

  -- a caller is answered
  pub keeps-pay : (r : ObjId) (message : Content) → Keeps J (pay r message)
  unfolding pay
  keeps-pay r message R = keeps-any J (owed_by R r) _ (λ x. keeps-then J _ _ (keeps-then J _ _ (keeps-say _ refl) (keeps-say _ refl)) (keeps-back (topped_by R r) x)) R

  -- x leaves its queue, with its message if it is a sender
  keeps-leave : (R : Log) (x : ObjId) (q : Option Queue) → queue_of R x ≡ q → J R → J (onto (leave R x q R) R)
  unfolding ◌then◌
  keeps-leave R x (Some (Senders e)) at h = go (open_of R x) refl
    where
      go : (o : Option Letter) → open_of R x ≡ o → J (onto ((drop_message o then say (rec.Parts x (Senders e))) R) R)
      go (Some s) is = steps.drops R e x s at is h
      go None is = steps.leaves_none R e x at is h
  keeps-leave R x (Some (Receivers e)) at h = steps.leaves_receiver R e x at h
  keeps-leave R x (Some (Waiters n)) at h = steps.leaves_waiter R n x at h
  keeps-leave R x None at h = keeps-any J (owing R x) _ (λ r. keeps-say _ refl) R h

  -- x is cancelled
  pub keeps-cancel : (x : ObjId) (mode : Mode) → Keeps J (cancel x mode)
  unfolding cancel
  keeps-cancel x mode R h = then-at J (leave R x (queue_of R x)) _ R (keeps-leave R x (queue_of R x) refl h) (keeps-say _ refl)

  -- all of a list are cancelled
  pub keeps-cancel_all : (xs : List ObjId) (mode : Mode) → Keeps J (cancel_all xs mode)
  keeps-cancel_all xs mode = keeps-each J xs _ (λ x. keeps-cancel x mode)

  -- a message just sent is handed over
  pub keeps-handed : (R : Log) (s : Letter) (p : ObjId) → J (rec.Parts p (Receivers s.endpoint) ∷ rec.Took s.number p ∷ R) → J (onto (handed s p R) R)
  unfolding handed
  keeps-handed R s p h =
      then-at J _ _ R (then-at J _ _ R (then-next J (say (rec.Took s.number p)) (say (rec.Parts p (Receivers s.endpoint))) R h) (keeps-settle s.mode s.sender p (reply_with R p) nothing (keeps-nothing J))) (keeps-say _ refl)

  -- the message of a queued sender is taken
  pub keeps-taken : (R : Log) (s : Letter) (t : ObjId) (r : Option ObjId) → J (rec.Parts s.sender (Senders s.endpoint) ∷ rec.Took s.number t ∷ R) → J (onto (taken s t r R) R)
  unfolding taken
  keeps-taken R s t r h =
      then-at J _ _ R (then-next J (say (rec.Took s.number t)) (say (rec.Parts s.sender (Senders s.endpoint))) R h) (keeps-settle s.mode s.sender t r _ (keeps-say _ refl))

  -- x hears a word, and leaves its queue
  keeps-wake : (R : Log) (n x : ObjId) (q : Queue) (word : ℕ) → J (rec.Parts x q ∷ rec.Heard x n word ∷ R) → J (onto (wake n x q word R) R)
  unfolding wake
  keeps-wake R n x q word h = then-at J _ _ R (then-at J _ _ R (then-next J (say (rec.Heard x n word)) (say (rec.Parts x q)) R h) (keeps-say _ refl)) (keeps-back (spare_at R n) x)

  -- who hears a word is where it is said to be
  keeps-hearer : (R : Log) (n : ObjId) (bound : Option ObjId) (q : Option Queue) (waiter : Option ObjId) (word : ℕ)
      → queue_of_any R bound ≡ q → ((x : ObjId) → waiter ≡ Some x → queue_of R x ≡ Some (Waiters n)) → J R → J (onto (hearer n bound q waiter word R) R)
  keeps-hearer R n bound q waiter word at waits h = go bound q waiter at waits
    where
      waiter_wakes : (x : ObjId) → queue_of R x ≡ Some (Waiters n) → J (onto (wake n x (Waiters n) word R) R)
      waiter_wakes x stands = keeps-wake R n x (Waiters n) word (steps.leaves_waiter _ n x stands (steps.aside R (rec.Heard x n word) refl h))

      go : (o : Option ObjId) (q : Option Queue) (w : Option ObjId) → queue_of_any R o ≡ q → ((x : ObjId) → w ≡ Some x → queue_of R x ≡ Some (Waiters n)) → J (onto (hearer n o q w word R) R)
      go (Some x) (Some (Receivers e)) w stands f = keeps-wake R n x (Receivers e) word (steps.leaves_receiver _ e x stands (steps.aside R (rec.Heard x n word) refl h))
      go None q (Some x) stands f = waiter_wakes x (f x refl)
      go None q None stands f = h
      go (Some y) None (Some x) stands f = waiter_wakes x (f x refl)
      go (Some y) None None stands f = h
      go (Some y) (Some (Senders e)) (Some x) stands f = waiter_wakes x (f x refl)
      go (Some y) (Some (Senders e)) None stands f = h
      go (Some y) (Some (Waiters e)) (Some x) stands f = waiter_wakes x (f x refl)
      go (Some y) (Some (Waiters e)) None stands f = h

  -- a signal
  pub keeps-signal : (n : ObjId) (badge : Badge) → Keeps J (signal n badge)
  unfolding signal
  keeps-signal n badge R h = then-next J (say (rec.Raised n badge)) (reach R n badge.0 (pending R n)) R (go (pending R n))
    where
      raised : J (rec.Raised n badge ∷ R)
      raised = steps.aside R (rec.Raised n badge) refl h

      standing : (o : Option ObjId) → queue_of_any (rec.Raised n badge ∷ R) o ≡ queue_of_any R o
      standing None = refl
      standing (Some x) = refl

      go : (o : Option ℕ) → J (onto (reach R n badge.0 o (rec.Raised n badge ∷ R)) (rec.Raised n badge ∷ R))
      go (Some old) = raised
      go None = keeps-hearer (rec.Raised n badge ∷ R) n (tied_to R n) _ (first_in R (Waiters n)) badge.0 (standing (tied_to R n)) (λ x first. first-stands R (Waiters n) x first) raised

  -- a context is dropped
  keeps-let_go : (s : Option ObjId) → Keeps J (let_go s)
  keeps-let_go s = keeps-any J s _ (λ x. keeps-say _ refl)

  -- a thread is unbound
  keeps-untie : (s : Option ObjId) → Keeps J (untie s)
  keeps-untie s = keeps-any J s _ (λ x. keeps-say _ refl)

  -- a context is homed nowhere
  keeps-unhome : (s : Option ObjId) → Keeps J (unhome s)
  keeps-unhome s = keeps-any J s _ (λ x. keeps-say _ refl)

  -- it is also held by no thread
  pub keeps-unbind : (s : ObjId) → Keeps J (unbind s)
  unfolding unbind
  keeps-unbind s R = keeps-then J _ _ (keeps-any J (home_of R s) _ (λ n. keeps-say _ refl)) (keeps-any J (holder_of R s) _ (λ t. keeps-say _ refl)) R

  -- a deleted reply object owes no thread any more
  keeps-void : (r : ObjId) → Keeps J (void_deleted r)
  unfolding void_deleted
  keeps-void r R = keeps-any J (owed_by R r) _ (λ x. keeps-then J _ _ (keeps-then J _ _ (keeps-say _ refl) (keeps-say _ refl)) (keeps-back (topped_by R r) x)) R

  -- no thread is left with an object
  keeps-release : (R : Log) (o : ObjId) (k : Kind) → Keeps J (release R o k)
  keeps-release R o CNode = keeps-nothing J
  keeps-release R o Endpoint = keeps-cancel_all _ Restart
  keeps-release R o Notification = keeps-then J _ _ (keeps-then J _ _ (keeps-cancel_all _ Restart) (keeps-untie _)) (keeps-unhome (homed_at R o))
  keeps-release R o Reply = keeps-then J _ _ (keeps-any J (receiver_with R o) _ (λ x. keeps-cancel x Inactive)) (keeps-void o)
  keeps-release R o Context = keeps-unbind o
  keeps-release R o Thread = keeps-then J _ _ (keeps-then J _ _ (keeps-cancel o Inactive) (keeps-any J (bound_of R o) _ (λ n. keeps-say _ refl))) (keeps-let_go _)

  -- an object ends
  pub keeps-destroy : (o : ObjId) → Keeps J (destroy o)
  unfolding destroy
  keeps-destroy o R = keeps-then J (release R o o.kind) _ (keeps-release R o o.kind) (keeps-say _ refl) R
