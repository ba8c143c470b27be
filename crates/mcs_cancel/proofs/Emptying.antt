-- Queues that are emptied, one thread after another: what is left of each queue, and what is left
-- to be recorded.
use Rattle.std.specs.Prelude.{◌≡◌, ◌<◌, List, [], ◌∷◌, ◌++◌, Option, Some, None, length}
use Rattle.std.proofs.Common.{refl, ap, sym, ◌∙◌, inl, subst, append_assoc, arith}
use Rattle.mcs_types.specs.declared.id.ObjId.{ObjId}
use Rattle.mcs_types.specs.declared.record.Letter.{Letter}
use Rattle.mcs_types.specs.declared.record.Mode.{Mode}
use Rattle.mcs_types.specs.declared.record.Mode.TheVariants.{Restart}
use Rattle.mcs_types.specs.declared.record.Queue.{Queue}
use Rattle.mcs_types.specs.declared.record.Queue.TheVariants.{Senders, Receivers, Waiters}
use Rattle.mcs_types.specs.declared.record.Rec.TheVariants as rec
use Rattle.mcs_types.specs.Chains.{head_of}
use Rattle.mcs_types.proofs.Ids.{same-self}
use Rattle.mcs_book.specs.Logs.{Log, onto}
use Rattle.mcs_book.specs.Cancelling.{drop_message, leave, cancel, cancel_all}
use Rattle.mcs_book.specs.Growing.{growing_queue, threads_in, without}
use Rattle.mcs_book.specs.Messages.{open_of}
use Rattle.mcs_book.specs.Pieces.{◌then◌, say}
use Rattle.mcs_book.specs.Queues.{queue_of, queued_in, first_in}
use Rattle.mcs_book.specs.Sound.{Sound, IsEmptyLine}
use Rattle.mcs_book.proofs.Firm.Cancel.{line-in, in-line}
use Rattle.mcs_book.proofs.Queues.QueueLaws.{queued_in-growing}
use Rattle.mcs_book.proofs.Queues.Sorted.{In, Distinct}
use Rattle.mcs_book.proofs.SoundLogs.Keeping.{onto-append, then-next}
use Rattle.mcs_state.specs.Doing.{Makes, HasRoomFor}
use Rattle.mcs_state.specs.Now.{Now, so_far, adds_all}
use Rattle.mcs_state.proofs.Doing.{so_far-made, makes-then, room-first, room-next}
use Rattle.mcs_cancel.specs.Emptying.{restarts_all, KeepsOthers}
use Rattle.mcs_cancel.proofs.Followers.{removed, removed-none, threads-without}
use Rattle.mcs_cancel.proofs.Restarting.{line-distinct}

-- a thread leaves its queue
line-left : (R : Log) (x : ObjId) (q p : Queue) → growing_queue (onto (leave R x (Some q) R) R) p ≡ without x (growing_queue R p)
unfolding ◌then◌
line-left R x (Senders e) p = go (open_of R x)
  where
    go : (o : Option Letter) → growing_queue (onto ((drop_message o then say (rec.Parts x (Senders e))) R) R) p ≡ without x (growing_queue R p)
    go None = refl
    go (Some s) = refl
line-left R x (Receivers e) p = refl
line-left R x (Waiters n) p = refl

-- it is cancelled
line-cancelled : (R : Log) (x : ObjId) (q p : Queue) (mode : Mode) → queue_of R x ≡ Some q → growing_queue (onto (cancel x mode R) R) p ≡ without x (growing_queue R p)
unfolding cancel
line-cancelled R x q p mode at =
    let h : growing_queue (onto (leave R x (queue_of R x) R) R) p ≡ without x (growing_queue R p) = subst (λ o. growing_queue (onto (leave R x o R) R) p ≡ without x (growing_queue R p)) (sym at) (line-left R x q p) in
    then-next (λ S. growing_queue S p ≡ without x (growing_queue R p)) (leave R x (queue_of R x)) (say (rec.Turns x mode)) R h

-- between two turns: once those who are in the queue restart, all do that were to
pub record IsEmptying (q : Queue) (old now : Now) : Type 0 where
  pub sound : Sound (so_far now)
  pub room : HasRoomFor (restarts_all (so_far now) q) now
  pub made : adds_all (restarts_all (so_far now) q (so_far now)) now ≡ adds_all (restarts_all (so_far old) q (so_far old)) old
  pub others : KeepsOthers q (so_far old) (so_far now)

-- what a turn keeps, and that fewer are left after it
pub record Turn (q : Queue) (old now new : Now) : Type 0 where
  pub emptying : IsEmptying q old new
  pub less : length (queued_in (so_far new) q) < length (queued_in (so_far now) q)

-- what follows the first of a list
abbrev pub rest_of : List ObjId → List ObjId
rest_of [] = []
rest_of (x ∷ xs) = xs

headed : (xs : List ObjId) (x : ObjId) → head_of xs ≡ Some x → xs ≡ x ∷ rest_of xs
headed [] x h = absurd cc
headed (y ∷ xs) x h = let it : y ≡ x = cc in ap (λ z. z ∷ xs) it

-- a list that has none
headless : (xs : List ObjId) → head_of xs ≡ None → xs ≡ []
headless [] h = refl
headless (y ∷ xs) h = absurd cc

first-head : (R : Log) (q : Queue) → first_in R q ≡ head_of (queued_in R q)
unfolding first_in
first-head R q = refl

-- the first of a list in which each is once is removed
first-removed : (x : ObjId) (xs : List ObjId) → Distinct (x ∷ xs) → removed x (x ∷ xs) ≡ xs
first-removed x xs d = rw (same-self x) (removed-none x xs d.0)

-- a turn at x, the first of the queue
module _ (q : Queue) (old now new : Now) (x : ObjId) (h : IsEmptying q old now) (first : first_in (so_far now) q ≡ Some x) where
  abbrev pub R : Log
  R = so_far now

  abbrev pub rest : List ObjId
  rest = rest_of (queued_in R q)

  line-is : queued_in R q ≡ x ∷ rest
  line-is = headed (queued_in R q) x (sym (first-head R q) ∙ first)

  pub stands : queue_of R x ≡ Some q
  stands = in-line R q x (subst (λ xs. In x xs) (sym line-is) (inl refl))

  room-all : HasRoomFor (cancel x Restart then cancel_all rest Restart) now
  room-all = subst (λ xs. HasRoomFor (cancel_all xs Restart) now) line-is h.room

  pub room-cancel : HasRoomFor (cancel x Restart) now
  room-cancel = room-first (cancel x Restart) (cancel_all rest Restart) now room-all

  module _ (makes : Makes (cancel x Restart) now new) (sound : Sound (so_far new)) where
    abbrev pub S : Log
    S = so_far new

    -- each queue loses x
    loses : (p : Queue) → queued_in S p ≡ removed x (queued_in R p)
    loses p =
        let line : growing_queue S p ≡ without x (growing_queue R p) = subst (λ L. growing_queue L p ≡ without x (growing_queue R p)) (sym (so_far-made (cancel x Restart) now new makes)) (line-cancelled R x q p Restart stands) in
        queued_in-growing S p sound ∙ ap (λ vs. threads_in vs) line ∙ threads-without x (growing_queue R p) ∙ sym (ap (λ xs. removed x xs) (queued_in-growing R p h.sound))

    left-is : queued_in S q ≡ rest
    left-is = loses q ∙ ap (λ xs. removed x xs) line-is ∙ first-removed x rest (subst (λ xs. Distinct xs) line-is (line-distinct R q h.sound))

    others-kept : KeepsOthers q (so_far old) S
    others-kept p other = loses p ∙ removed-none x (queued_in R p) (λ i. other (let both : Some p ≡ Some q = sym (in-line R p x i) ∙ stands in cc)) ∙ h.others p other

    pub turned : Turn q old now new
    turned = record {
      emptying = record {
        sound = sound;
        room = subst (λ xs. HasRoomFor (cancel_all xs Restart) new) (sym left-is) (room-next (cancel x Restart) (cancel_all rest Restart) now new makes room-all);
        made = ap (λ xs. adds_all (cancel_all xs Restart S) new) left-is
            ∙ makes-then (cancel x Restart) (cancel_all rest Restart) now new _ makes refl
            ∙ sym (ap (λ xs. adds_all (cancel_all xs Restart R) now) line-is) ∙ h.made;
        others = others-kept;
      };
      less = let all = ap length line-is in let left = ap length left-is in omega (arith, all, left);
    }

-- nobody who is no one is first
pub nobody : (o : Option ObjId) → ((x : ObjId) → o ≡ Some x → ⊥) → o ≡ None
nobody None h = refl
nobody (Some x) h = absurd (h x refl)

-- at the end no thread is there
pub emptied : (R : Log) (q : Queue) → Sound R → first_in R q ≡ None → IsEmptyLine R q
emptied R q sound none y at = subst (λ xs. In y xs) (headless (queued_in R q) (sym (first-head R q) ∙ none)) (line-in R q y sound at)

-- and all were made
pub all-made : (q : Queue) (old now : Now) → IsEmptying q old now → first_in (so_far now) q ≡ None → Makes (restarts_all (so_far old) q) old now
all-made q old now h none =
    let no : queued_in (so_far now) q ≡ [] = headless (queued_in (so_far now) q) (sym (first-head (so_far now) q) ∙ none) in
    sym (ap (λ xs. adds_all (cancel_all xs Restart (so_far now)) now) no) ∙ h.made

-- all of a list are cancelled, and then all of another
pub both-cancelled : (xs ys : List ObjId) (mode : Mode) (R : Log) → (cancel_all xs mode then cancel_all ys mode) R ≡ cancel_all (xs ++ ys) mode R
unfolding ◌then◌
both-cancelled [] ys mode R = refl
both-cancelled (x ∷ xs) ys mode R =
    let one = cancel x mode R in
    let rest = cancel_all xs mode (onto one R) in
    ap (λ L. (one ++ rest) ++ cancel_all ys mode L) (onto-append one rest R) ∙ append_assoc one rest (cancel_all ys mode (onto rest (onto one R))) ∙ ap (λ l. one ++ l) (both-cancelled xs ys mode (onto one R))

-- a queue that was empty still is, where it stayed as it was
pub still-empty : (R S : Log) (q : Queue) → Sound S → IsEmptyLine R q → queued_in S q ≡ queued_in R q → IsEmptyLine S q
still-empty R S q sound empty same y at = empty y (in-line R q y (subst (λ xs. In y xs) same (line-in S q y sound at)))
