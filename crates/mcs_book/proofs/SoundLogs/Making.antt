-- Which records each piece makes. Messages, answers and words are in few pieces, and so are
-- beginnings and ends of objects.
use Rattle.std.specs.Prelude.{ℕ, Bool, true, false, cond, ◌≡◌, List, [], ◌∷◌, ◌++◌, Option, Some, None, refl}
use Rattle.mcs_types.specs.declared.id.ObjId.{ObjId}
use Rattle.mcs_types.specs.declared.id.Badge.{Badge}
use Rattle.mcs_types.specs.declared.id.Kind.{Kind}
use Rattle.mcs_types.specs.declared.id.Kind.TheVariants.{CNode, Thread, Endpoint, Notification, Reply, Context}
use Rattle.mcs_types.specs.declared.record.Mode.{Mode}
use Rattle.mcs_types.specs.declared.record.Mode.TheVariants.{Running, Restart, Inactive}
use Rattle.mcs_types.specs.declared.record.Queue.{Queue}
use Rattle.mcs_types.specs.declared.record.Queue.TheVariants.{Senders, Receivers, Waiters}
use Rattle.mcs_types.specs.declared.record.Ending.TheVariants.{Deleted, Cancelled}
use Rattle.mcs_types.specs.declared.record.Letter.{Letter}
use Rattle.mcs_types.specs.declared.record.Rec.{Rec}
use Rattle.mcs_types.specs.declared.record.Rec.TheVariants as rec
use Rattle.mcs_book.specs.Logs.{Log, onto}
use Rattle.mcs_book.specs.Messages.{open_of}
use Rattle.mcs_book.specs.Queues.{queue_of, first_in}
use Rattle.mcs_book.specs.Contexts.{context_of, holder_of, home_of, homed_at}
use Rattle.mcs_book.specs.Replies.{owed_by, owing, receiver_with, user_of}
use Rattle.mcs_book.specs.Chains.{topped_by}
use Rattle.mcs_book.specs.Notifications.{bound_of, tied_to, pending}
use Rattle.mcs_book.specs.Pieces.{Piece, ◌then◌, nothing, say, with_any, for_each}
use Rattle.mcs_book.specs.Taking.{back_to, give_back, give}
use Rattle.mcs_book.specs.Signalling.{queue_of_any, spare_at, wake, hearer, reach, signal}
use Rattle.mcs_book.specs.Cancelling.{drop_message, leave, cancel, cancel_all, let_go, unbind, void_deleted, release}
use Rattle.mcs_book.specs.Receiving.{free}
use Rattle.mcs_book.specs.Table.{wakes}

-- each of a list of records passes the test
abbrev pub Passes : (Rec → Bool) → List Rec → Type 0
Passes q [] = Unit {0}
Passes q (r ∷ made) = (q r ≡ true) × Passes q made

-- a piece whose records pass the test
pub record Makes (q : Rec → Bool) (p : Piece) : Type 0 where
  pub passes : (R : Log) → Passes q (p R)

-- whether a record is no message, answer or word, joins no queue, owes no thread, fills no slot,
-- and neither makes nor closes an object
abbrev pub is_plain : Rec → Bool
is_plain (rec.Made o form) = false
is_plain (rec.Closed o) = false
is_plain (rec.Joins t q reply) = false
is_plain (rec.Owes r x c) = false
is_plain (rec.Slot c i held) = false
is_plain (rec.Sent x e mode badge message) = false
is_plain (rec.Took m p) = false
is_plain (rec.Paid r x message) = false
is_plain (rec.Heard x n word) = false
is_plain _ = true

-- whether a record is no message that is sent or taken and no answer, joins no queue, owes no
-- thread, fills no slot, and neither makes nor closes an object
abbrev pub is_quiet : Rec → Bool
is_quiet (rec.Sent x e mode badge message) = false
is_quiet (rec.Took m p) = false
is_quiet (rec.Paid r x message) = false
is_quiet (rec.Joins t q reply) = false
is_quiet (rec.Owes r x c) = false
is_quiet (rec.Slot c i held) = false
is_quiet (rec.Made o form) = false
is_quiet (rec.Closed o) = false
is_quiet _ = true

-- a plain record is quiet
pub plain-quiet : (r : Rec) → is_plain r ≡ true → is_quiet r ≡ true
plain-quiet (rec.Sent x e mode badge message) h = absurd cc
plain-quiet (rec.Took m p) h = absurd cc
plain-quiet (rec.Paid r x message) h = absurd cc
plain-quiet (rec.Joins t q reply) h = absurd cc
plain-quiet (rec.Owes r x c) h = absurd cc
plain-quiet (rec.Slot c i held) h = absurd cc
plain-quiet (rec.Made o form) h = absurd cc
plain-quiet (rec.Closed o) h = absurd cc
plain-quiet _ h = refl

-- what passes one test passes another that follows
pub passes-map : (q s : Rec → Bool) → ((r : Rec) → q r ≡ true → s r ≡ true) → (made : List Rec) → Passes q made → Passes s made
passes-map q s f [] h = tt
passes-map q s f (r ∷ made) h = (f r h.0, passes-map q s f made h.1)

-- pieces that make such records, one after another
module _ (q : Rec → Bool) where
  -- records after others
  pub passes-append : (made more : List Rec) → Passes q made → Passes q more → Passes q (made ++ more)
  passes-append [] more h k = k
  passes-append (r ∷ made) more h k = (h.0, passes-append made more h.1 k)

  -- no record
  pub makes-nothing : Makes q nothing
  makes-nothing = record { passes = λ R. tt }

  -- one record
  pub makes-say : (r : Rec) → q r ≡ true → Makes q (say r)
  makes-say r e = record { passes = λ R. (e, tt) }

  -- two pieces, one after the other
  pub makes-then : (p s : Piece) → Makes q p → Makes q s → Makes q (p then s)
  unfolding ◌then◌
  makes-then p s hp hs = record { passes = λ R. passes-append (p R) (s (onto (p R) R)) (hp.passes R) (hs.passes (onto (p R) R)) }

  -- a piece about somebody, if there is somebody
  pub makes-any : {A : Type 0} (o : Option A) (p : A → Piece) → ((x : A) → Makes q (p x)) → Makes q (with_any o p)
  makes-any None p h = makes-nothing
  makes-any (Some x) p h = h x

  -- a piece for each of a list
  pub makes-each : {A : Type 0} (xs : List A) (p : A → Piece) → ((x : A) → Makes q (p x)) → Makes q (for_each xs p)
  makes-each [] p h = makes-nothing
  makes-each (x ∷ xs) p h = makes-then (p x) (for_each xs p) (h x) (makes-each xs p h)

  -- one of two pieces
  pub makes-if : (b : Bool) (p s : Piece) → Makes q p → Makes q s → Makes q (cond b p s)
  makes-if true p s hp hs = hp
  makes-if false p s hp hs = hs

-- a piece whose records are plain
abbrev pub Plain : Piece → Type 0
Plain = Makes is_plain

-- a piece whose records are quiet
abbrev pub Quiet : Piece → Type 0
Quiet = Makes is_quiet

-- a plain piece is quiet
pub quiet-piece : (p : Piece) → Plain p → Quiet p
quiet-piece p h = record { passes = λ R. passes-map is_plain is_quiet plain-quiet (p R) (h.passes R) }

-- a context returns
pub plain-back : (s : Option ObjId) (x : ObjId) → Plain (give_back s x)
unfolding give_back
plain-back s x = record { passes = λ R. go s (context_of R x) }
  where
    go : (o o' : Option ObjId) → Passes is_plain (back_to x o o')
    go (Some s) None = (refl, tt)
    go None o = tt
    go (Some s) (Some s') = tt

-- the context of x passes to p
pub plain-give : (x p : ObjId) → Plain (give x p)
unfolding give
plain-give x p = record { passes = λ R. (plain-back (context_of R x) p).passes R }

-- a context is dropped
pub plain-let_go : (s : Option ObjId) → Plain (let_go s)
plain-let_go s = makes-any is_plain s _ (λ c. makes-say is_plain _ refl)

-- a context is homed nowhere and held by no thread
pub plain-unbind : (s : ObjId) → Plain (unbind s)
unfolding unbind
plain-unbind s = record { passes = λ R. (makes-then is_plain _ _ (makes-any is_plain (home_of R s) _ (λ n. makes-say is_plain (rec.Homed s None) refl)) (makes-any is_plain (holder_of R s) _ (λ t. makes-say is_plain (rec.Holds s None) refl))).passes R }

-- a test that the records of a cancellation pass
pub record CancelPasses (q : Rec → Bool) : Type 0 where
  pub drops : (m : ℕ) → q (rec.Dropped m) ≡ true
  pub leaves : (x : ObjId) (k : Queue) → q (rec.Parts x k) ≡ true
  pub voids : (r x : ObjId) → q (rec.Void r x Cancelled) ≡ true
  pub turns : (x : ObjId) (mode : Mode) → q (rec.Turns x mode) ≡ true

module _ (q : Rec → Bool) (h : CancelPasses q) where
  -- x leaves its queue, with its message if it is a sender
  makes-leave : (R : Log) (x : ObjId) (k : Option Queue) → Makes q (leave R x k)
  makes-leave R x (Some (Senders e)) = makes-then q (drop_message (open_of R x)) (say (rec.Parts x (Senders e))) (dropped (open_of R x)) (makes-say q (rec.Parts x (Senders e)) (h.leaves x (Senders e)))
    where
      dropped : (o : Option Letter) → Makes q (drop_message o)
      dropped (Some s) = makes-say q (rec.Dropped s.number) (h.drops s.number)
      dropped None = makes-nothing q
  makes-leave R x (Some (Receivers e)) = makes-say q (rec.Parts x (Receivers e)) (h.leaves x (Receivers e))
  makes-leave R x (Some (Waiters n)) = makes-say q (rec.Parts x (Waiters n)) (h.leaves x (Waiters n))
  makes-leave R x None = makes-any q (owing R x) _ (λ r. makes-say q (rec.Void r x Cancelled) (h.voids r x))

  -- x is cancelled
  makes-cancel : (x : ObjId) (mode : Mode) → Makes q (cancel x mode)
  unfolding cancel
  makes-cancel x mode = record { passes = λ R. (makes-then q (leave R x (queue_of R x)) _ (makes-leave R x (queue_of R x)) (makes-say q (rec.Turns x mode) (h.turns x mode))).passes R }

  -- a reply object is freed
  pub makes-free : (r : ObjId) → Makes q (free r)
  unfolding free
  makes-free r = record { passes = λ R. (makes-any q (user_of R r) _ (λ x. makes-cancel x Inactive)).passes R }

-- a cancellation is plain
cancel-plain : CancelPasses is_plain
cancel-plain = record { drops = λ m. refl; leaves = λ x k. refl; voids = λ r x. refl; turns = λ x mode. refl }

-- x is cancelled
pub plain-cancel : (x : ObjId) (mode : Mode) → Plain (cancel x mode)
plain-cancel x mode = makes-cancel is_plain cancel-plain x mode

-- whether a record gives and takes no context
abbrev pub is_unheld : Rec → Bool
is_unheld (rec.Holds s t) = false
is_unheld _ = true

-- no context changes its holder when a reply object is freed
pub unheld-free : (r : ObjId) → Makes is_unheld (free r)
unheld-free r = makes-free is_unheld (record { drops = λ m. refl; leaves = λ x k. refl; voids = λ r x. refl; turns = λ x mode. refl }) r

-- all of a list are cancelled
pub plain-cancel_all : (xs : List ObjId) (mode : Mode) → Plain (cancel_all xs mode)
plain-cancel_all xs mode = makes-each is_plain xs _ (λ x. plain-cancel x mode)

-- a reply object is freed
pub plain-free : (r : ObjId) → Plain (free r)
plain-free r = makes-free is_plain cancel-plain r

-- a thread becomes Running with its entry
pub plain-wakes : (mode : Mode) (t : ObjId) → Plain (wakes mode t)
plain-wakes Restart t = makes-say is_plain _ refl
plain-wakes Running t = makes-nothing is_plain
plain-wakes Inactive t = makes-nothing is_plain

-- who hears a word wakes
quiet-wake : (n x : ObjId) (q : Queue) (word : ℕ) → Quiet (wake n x q word)
unfolding wake
quiet-wake n x q word = record { passes = λ R. (makes-then is_quiet _ _ (makes-then is_quiet _ _ (makes-then is_quiet _ _ (makes-say is_quiet (rec.Heard x n word) refl) (makes-say is_quiet (rec.Parts x q) refl)) (makes-say is_quiet (rec.Turns x Running) refl)) (quiet-piece _ (plain-back (spare_at R n) x))).passes R }

-- a signal is quiet
pub quiet-signal : (n : ObjId) (badge : Badge) → Quiet (signal n badge)
unfolding signal
quiet-signal n badge = record { passes = λ R. (makes-then is_quiet (say (rec.Raised n badge)) (reach R n badge.0 (pending R n)) (makes-say is_quiet (rec.Raised n badge) refl) (go R (pending R n))).passes R }
  where
    heard : (o : Option ObjId) (q : Option Queue) (w : Option ObjId) → Quiet (hearer n o q w badge.0)
    heard (Some x) (Some (Receivers e)) w = quiet-wake n x (Receivers e) badge.0
    heard None q (Some x) = quiet-wake n x (Waiters n) badge.0
    heard None q None = makes-nothing is_quiet
    heard (Some y) None (Some x) = quiet-wake n x (Waiters n) badge.0
    heard (Some y) None None = makes-nothing is_quiet
    heard (Some y) (Some (Senders e)) (Some x) = quiet-wake n x (Waiters n) badge.0
    heard (Some y) (Some (Senders e)) None = makes-nothing is_quiet
    heard (Some y) (Some (Waiters e)) (Some x) = quiet-wake n x (Waiters n) badge.0
    heard (Some y) (Some (Waiters e)) None = makes-nothing is_quiet

    go : (R : Log) (o : Option ℕ) → Quiet (reach R n badge.0 o)
    go R (Some old) = makes-nothing is_quiet
    go R None = heard (tied_to R n) (queue_of_any R (tied_to R n)) (first_in R (Waiters n))

-- a deleted reply object owes no thread any more
plain-void : (r : ObjId) → Plain (void_deleted r)
unfolding void_deleted
plain-void r = record { passes = λ R. (makes-any is_plain (owed_by R r) _ (λ x. makes-then is_plain _ _ (makes-then is_plain _ _ (makes-say is_plain (rec.Void r x Deleted) refl) (makes-say is_plain (rec.Turns x Inactive) refl)) (plain-back (topped_by R r) x))).passes R }

-- no thread is left with an object
pub plain-release : (R : Log) (o : ObjId) (k : Kind) → Plain (release R o k)
plain-release R o CNode = makes-nothing is_plain
plain-release R o Endpoint = plain-cancel_all _ Restart
plain-release R o Notification = makes-then is_plain _ _ (makes-then is_plain _ _ (plain-cancel_all _ Restart) (makes-any is_plain (tied_to R o) _ (λ x. makes-say is_plain _ refl))) (makes-any is_plain (homed_at R o) _ (λ s. makes-say is_plain _ refl))
plain-release R o Reply = makes-then is_plain _ _ (makes-any is_plain (receiver_with R o) _ (λ x. plain-cancel x Inactive)) (plain-void o)
plain-release R o Context = plain-unbind o
plain-release R o Thread =
    makes-then is_plain _ _ (makes-then is_plain _ _ (plain-cancel o Inactive) (makes-any is_plain (bound_of R o) _ (λ n. makes-say is_plain _ refl))) (makes-any is_plain (context_of R o) _ (λ s. makes-say is_plain _ refl))
