-- Cancelling keeps a log firm; and what outlasts the records of cancelling.
use Rattle.std.specs.Prelude.{ℕ, ◌≡◌, ◌≢◌, List, [], ◌∷◌, ◌++◌, Option, Some, None, refl, filter}
use Rattle.std.proofs.Common.{sym, ◌∙◌, ap, inl, inr}
use Rattle.mcs_types.specs.declared.id.ObjId.{ObjId}
use Rattle.mcs_types.specs.declared.id.Kind.TheVariants as kind
use Rattle.mcs_types.specs.declared.record.Letter.{Letter}
use Rattle.mcs_types.specs.declared.record.Mode.{Mode}
use Rattle.mcs_types.specs.declared.record.Ending.TheVariants.{Cancelled}
use Rattle.mcs_types.specs.declared.record.Queue.{Queue}
use Rattle.mcs_types.specs.declared.record.Queue.TheVariants.{Senders, Receivers, Waiters}
use Rattle.mcs_types.specs.declared.record.Rec.TheVariants as rec
use Rattle.mcs_types.specs.Ids.{same}
use Rattle.mcs_book.specs.Logs.{Log, onto}
use Rattle.mcs_book.specs.Threads.{threads}
use Rattle.mcs_book.specs.Queues.{queue_of, is_ahead, stands_in, is_queue, queued_in}
use Rattle.mcs_book.specs.Messages.{open_of}
use Rattle.mcs_book.specs.Replies.{owed_by, owing}
use Rattle.mcs_book.specs.Pieces.{◌then◌, say, with_any}
use Rattle.mcs_book.specs.Cancelling.{drop_message, leave, cancel, cancel_all}
use Rattle.mcs_book.specs.Sound.{Sound, IsThere, IsIdle}
use Rattle.mcs_book.proofs.Objects.Same.{same_queue-self, is_queue-some}
use Rattle.mcs_book.proofs.Queues.Sorted.{In, in-filter, filter-in, in-sort, sort-in}
use Rattle.mcs_book.proofs.Queues.QueueLaws.{standing-made, ahead-irreflexive, ahead-transitive}
use Rattle.mcs_book.proofs.Messages.MessageLaws.{open_of-open}
use Rattle.mcs_book.proofs.Queues.NoneBeside.{left-queue}
use Rattle.mcs_book.proofs.SoundLogs.Keeping.{then-next}
use Rattle.mcs_book.proofs.SoundLogs.KeptLaws.{set-split, set-self, set-kept, same-never, standing-owed, owed-one}
use Rattle.mcs_book.proofs.Firm.Laws.{Firm, firm-sound, owing-none, owing-owed}

-- a firm log after x left what it was blocked on
pub record IsLeft (x : ObjId) (R : Log) : Type 0 where
  pub firm : Firm R
  pub there : IsThere R kind.Thread x
  pub idle : IsIdle R x

-- once x has left the line in which it was, it is idle
pub parted-idle : (R : Log) (x : ObjId) (q : Queue) → Sound R → queue_of R x ≡ Some q → IsIdle (rec.Parts x q ∷ R) x
parted-idle R x q sound at = (set-self x None (queue_of R x), λ r o. standing-owed R x q r sound at o)

-- x leaves its queue, or the reply object that owes it
left : (R : Log) (x : ObjId) (q : Option Queue) → queue_of R x ≡ q → IsThere R kind.Thread x → Firm R → IsLeft x (onto (leave R x q R) R)
unfolding ◌then◌
left R x (Some (Senders e)) at there firm = go (open_of R x) refl
  where
    go : (o : Option Letter) → open_of R x ≡ o → IsLeft x (onto ((drop_message o then say (rec.Parts x (Senders e))) R) R)
    go (Some s) is =
        let f : Firm (rec.Dropped s.number ∷ R) = (((open_of-open R x s is).1, tt), firm) in
        record { firm = ((at, tt), f); there = there; idle = parted-idle (rec.Dropped s.number ∷ R) x (Senders e) (firm-sound (rec.Dropped s.number ∷ R) f) at }
    go None is = record { firm = ((at, tt), firm); there = there; idle = parted-idle R x (Senders e) (firm-sound R firm) at }
left R x (Some (Receivers e)) at there firm = record { firm = ((at, tt), firm); there = there; idle = parted-idle R x (Receivers e) (firm-sound R firm) at }
left R x (Some (Waiters n)) at there firm = record { firm = ((at, tt), firm); there = there; idle = parted-idle R x (Waiters n) (firm-sound R firm) at }
left R x None at there firm = go (owing R x) refl
  where
    go : (o : Option ObjId) → owing R x ≡ o → IsLeft x (onto (with_any o (λ r. say (rec.Void r x Cancelled)) R) R)
    go None is = record { firm = firm; there = there; idle = (at, owing-none R x (firm-sound R firm) is) }
    go (Some r) is =
        let owed : owed_by R r ≡ Some x = owing-owed R x r is in
        record {
          firm = ((owed, tt), firm);
          there = there;
          idle = (at, λ d o. elim (set-split d r None (owed_by R d) (Some x) o) [ inl (who, is) ↦ absurd cc | inr (other, still) ↦ same-never d r (owed-one R d r x (firm-sound R firm) still owed) other ]);
        }

-- x is cancelled
pub cancelled : (x : ObjId) (mode : Mode) (R : Log) → IsThere R kind.Thread x → Firm R → IsLeft x (onto (cancel x mode R) R)
unfolding cancel
cancelled x mode R there firm =
    let l : IsLeft x (onto (leave R x (queue_of R x) R) R) = left R x (queue_of R x) refl there firm in
    then-next (IsLeft x) (leave R x (queue_of R x)) (say (rec.Turns x mode)) R (record { firm = (((l.there, l.idle), tt), l.firm); there = l.there; idle = l.idle })

-- what the records of a cancellation of x leave as it is
pub record Outlasts (x : ObjId) (mode : Mode) (F : Log → Type 0) : Type 0 where
  pub dropped : (R : Log) (m : ℕ) → F R → F (rec.Dropped m ∷ R)
  pub parts : (R : Log) (q : Queue) → F R → F (rec.Parts x q ∷ R)
  pub voided : (R : Log) (r : ObjId) → F R → F (rec.Void r x Cancelled ∷ R)
  pub turns : (R : Log) → F R → F (rec.Turns x mode ∷ R)

module _ (F : Log → Type 0) where
  -- it outlasts the leaving
  outlasts-leave : (x : ObjId) (mode : Mode) (f : Outlasts x mode F) (R : Log) (q : Option Queue) → F R → F (onto (leave R x q R) R)
  unfolding ◌then◌
  outlasts-leave x mode f R (Some (Senders e)) h = go (open_of R x)
    where
      go : (o : Option Letter) → F (onto ((drop_message o then say (rec.Parts x (Senders e))) R) R)
      go (Some s) = f.parts _ _ (f.dropped R s.number h)
      go None = f.parts R _ h
  outlasts-leave x mode f R (Some (Receivers e)) h = f.parts R _ h
  outlasts-leave x mode f R (Some (Waiters n)) h = f.parts R _ h
  outlasts-leave x mode f R None h = go (owing R x)
    where
      go : (o : Option ObjId) → F (onto (with_any o (λ r. say (rec.Void r x Cancelled)) R) R)
      go (Some r) = f.voided R r h
      go None = h

  -- and the cancellation
  pub outlasts-cancel : (x : ObjId) (mode : Mode) (f : Outlasts x mode F) (R : Log) → F R → F (onto (cancel x mode R) R)
  unfolding cancel
  outlasts-cancel x mode f R h = then-next F (leave R x (queue_of R x)) (say (rec.Turns x mode)) R (f.turns _ (outlasts-leave x mode f R (queue_of R x) h))

  -- and the cancellation of all of a list
  pub outlasts-cancel_all : (xs : List ObjId) (mode : Mode) → ((x : ObjId) → Outlasts x mode F) → (R : Log) → F R → F (onto (cancel_all xs mode R) R)
  outlasts-cancel_all [] mode f R h = h
  outlasts-cancel_all (x ∷ xs) mode f R h = then-next F (cancel x mode) (cancel_all xs mode) R (outlasts-cancel_all xs mode f (onto (cancel x mode R) R) (outlasts-cancel x mode (f x) R h))

-- who is in no queue still does not
outlasts-nowhere : (y x : ObjId) (mode : Mode) → Outlasts x mode (λ R. queue_of R y ≡ None)
outlasts-nowhere y x mode = record { dropped = λ R m h. h; parts = λ R q h. set-kept (same y x) None (queue_of R y) h; voided = λ R r h. h; turns = λ R h. h }

-- threads that are there
outlasts-threads : (xs : List ObjId) (x : ObjId) (mode : Mode) → Outlasts x mode (λ R. (y : ObjId) → In y xs → IsThere R kind.Thread y)
outlasts-threads xs x mode = record { dropped = λ R m h. h; parts = λ R q h. h; voided = λ R r h. h; turns = λ R h. h }

-- all of a list are cancelled, and then are nowhere
pub all-cancelled : (xs : List ObjId) (mode : Mode) (R : Log) → ((y : ObjId) → In y xs → IsThere R kind.Thread y) → Firm R → Firm (onto (cancel_all xs mode R) R) × ((y : ObjId) → In y xs → queue_of (onto (cancel_all xs mode R) R) y ≡ None)
all-cancelled [] mode R there firm = (firm, λ y i. absurd i)
all-cancelled (x ∷ xs) mode R there firm =
    let l : IsLeft x (onto (cancel x mode R) R) = cancelled x mode R (there x (inl refl)) firm in
    let rest = all-cancelled xs mode (onto (cancel x mode R) R) (outlasts-cancel (λ R. (y : ObjId) → In y xs → IsThere R kind.Thread y) x mode (outlasts-threads xs x mode) R (λ y i. there y (inr i))) l.firm in
    let J : Log → Type 0 = λ R'. Firm R' × ((y : ObjId) → In y (x ∷ xs) → queue_of R' y ≡ None) in
    then-next J (cancel x mode) (cancel_all xs mode) R (
      rest.0,
      λ y i. elim i [
        | inl is ↦ ap (λ z. queue_of (onto (cancel_all xs mode (onto (cancel x mode R) R)) (onto (cancel x mode R) R)) z) is ∙ outlasts-cancel_all (λ R. queue_of R x ≡ None) xs mode (λ z. outlasts-nowhere x z mode) (onto (cancel x mode R) R) l.idle.0
        | inr j ↦ rest.1 y j
      ],
    )

-- who is in a queue is in its list
pub line-in : (R : Log) (q : Queue) (x : ObjId) → Sound R → queue_of R x ≡ Some q → In x (queued_in R q)
line-in R q x sound at =
    in-sort (is_ahead R) (ahead-irreflexive R) (ahead-transitive R) (filter (stands_in R q) (threads R)) x (in-filter (stands_in R q) (threads R) x (standing-made R x q sound at) (ap (λ o. is_queue o q) at ∙ same_queue-self q))

-- who is in the list of a queue is there
pub in-line : (R : Log) (q : Queue) (x : ObjId) → In x (queued_in R q) → queue_of R x ≡ Some q
in-line R q x i = is_queue-some (queue_of R x) q ((filter-in (stands_in R q) (threads R) x (sort-in (is_ahead R) (ahead-irreflexive R) (ahead-transitive R) (filter (stands_in R q) (threads R)) x i)).1)

-- those who are in a queue are among a list
outlasts-among : (q : Queue) (xs : List ObjId) (x : ObjId) (mode : Mode) → Outlasts x mode (λ R. (y : ObjId) → queue_of R y ≡ Some q → In y xs)
outlasts-among q xs x mode = record { dropped = λ R m h. h; parts = λ R k h y at. h y ((left-queue R x y k q at).1); voided = λ R r h. h; turns = λ R h. h }

-- when all of a list are cancelled among whom are all of a line, the line is empty
pub line-emptied : (xs : List ObjId) (mode : Mode) (q : Queue) (R : Log) → ((y : ObjId) → In y xs → IsThere R kind.Thread y) → Firm R → ((y : ObjId) → queue_of R y ≡ Some q → In y xs) → (y : ObjId) → queue_of (onto (cancel_all xs mode R) R) y ≢ Some q
line-emptied xs mode q R there firm among y at =
    let i : In y xs = outlasts-cancel_all (λ R. (y : ObjId) → queue_of R y ≡ Some q → In y xs) xs mode (λ x. outlasts-among q xs x mode) R among y at in
    let none : queue_of (onto (cancel_all xs mode R) R) y ≡ None = (all-cancelled xs mode R there firm).1 y i in
    let no : None ≡ Some q = sym none ∙ at in
    absurd cc

-- a list beside another
pub in-left : (x : ObjId) (xs ys : List ObjId) → In x xs → In x (xs ++ ys)
in-left x [] ys i = absurd i
in-left x (z ∷ xs) ys (inl e) = inl e
in-left x (z ∷ xs) ys (inr i) = inr (in-left x xs ys i)

-- the other
pub in-right : (x : ObjId) (xs ys : List ObjId) → In x ys → In x (xs ++ ys)
in-right x [] ys i = i
in-right x (z ∷ xs) ys i = inr (in-right x xs ys i)

-- who is in both together is in one
pub in-either : (x : ObjId) (xs ys : List ObjId) (P : Type 0) → (In x xs → P) → (In x ys → P) → In x (xs ++ ys) → P
in-either x [] ys P f g i = g i
in-either x (z ∷ xs) ys P f g (inl e) = f (inl e)
in-either x (z ∷ xs) ys P f g (inr i) = in-either x xs ys P (λ j. f (inr j)) g i
