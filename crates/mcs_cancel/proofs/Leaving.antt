-- A thread that leaves what it is blocked on: what is recorded, and what holds then.
use Rattle.std.specs.Prelude.{◌≡◌, Bool, true, false, cond, not, ◌&&◌, List, ◌∷◌, Option, Some, None}
use Rattle.std.proofs.Common.{refl, ap, sym, ◌∙◌, subst}
use Rattle.mcs_types.specs.declared.id.ObjId.{ObjId}
use Rattle.mcs_types.specs.declared.id.Kind.TheVariants as kind
use Rattle.mcs_types.specs.declared.record.Letter.{Letter}
use Rattle.mcs_types.specs.declared.record.Mode.{Mode}
use Rattle.mcs_types.specs.declared.record.Mode.TheVariants.{Running, Restart, Inactive}
use Rattle.mcs_types.specs.declared.record.Queue.{Queue}
use Rattle.mcs_types.specs.declared.record.Queue.TheVariants.{Senders, Receivers, Waiters}
use Rattle.mcs_types.specs.declared.record.Ending.TheVariants.{Cancelled}
use Rattle.mcs_types.specs.declared.record.Rec.{Rec}
use Rattle.mcs_types.specs.declared.record.Rec.TheVariants as rec
use Rattle.mcs_types.specs.declared.record.Status.{Status}
use Rattle.mcs_types.specs.declared.record.Status.TheVariants as status
use Rattle.mcs_types.specs.Ids.{same_kind}
use Rattle.mcs_book.specs.Logs.{Log, onto}
use Rattle.mcs_book.specs.Messages.{open_of}
use Rattle.mcs_book.specs.Objects.{was_made, was_closed}
use Rattle.mcs_book.specs.Pieces.{Piece, ◌then◌, say, with_any}
use Rattle.mcs_book.specs.Queues.{queue_of}
use Rattle.mcs_book.specs.Cancelling.{drop_message, leave, cancel}
use Rattle.mcs_book.specs.Replies.{owing}
use Rattle.mcs_book.specs.Sound.{Sound, Allowed, IsThere}
use Rattle.mcs_book.specs.Statuses.{status_by, status_of}
use Rattle.mcs_book.specs.Threads.{mode_of}
use Rattle.mcs_types.proofs.Ids.{parts, both}
use Rattle.mcs_book.proofs.Firm.Cancel.{parted-idle}
use Rattle.mcs_book.proofs.Firm.Laws.{owing-none, owing-owed}
use Rattle.mcs_book.proofs.Messages.MessageLaws.{open_of-open}
use Rattle.mcs_book.proofs.SoundLogs.KeptLaws.{ended-idle}
use Rattle.mcs_state.specs.Doing.{Holds, Makes, HasRoomFor}
use Rattle.mcs_state.specs.Now.{Now, so_far, adds_all}
use Rattle.mcs_state.proofs.Doing.{makes-then, room-first, room-next}
use Rattle.mcs_cancel.specs.Leaving.{drops_from, leaves_queue, reply_awaited, leaves_reply, leaves}

-- a piece that is one and then another
module _ (whole p q : Piece) (is : (R : Log) → (p then q) R ≡ whole R) (n : Now) where
  -- room for it is room for the one
  pub room-one : HasRoomFor whole n → HasRoomFor p n
  room-one room = room-first p q n (subst (λ made. Holds made n) (sym (is (so_far n))) room)

  -- and for the other
  pub room-other : (m : Now) → Makes p n m → HasRoomFor whole n → HasRoomFor q m
  room-other m first room = room-next p q n m first (subst (λ made. Holds made n) (sym (is (so_far n))) room)

  -- both make it
  pub both-made : (m l : Now) → Makes p n m → Makes q m l → Makes whole n l
  both-made m l first next = makes-then p q n m l first next ∙ ap (λ (made : List Rec). adds_all made n) (is (so_far n))

-- a thread that leaves a queue drops its message, and parts
pub queue-left : (x : ObjId) (q : Queue) (R : Log) → (drops_from x q then say (rec.Parts x q)) R ≡ leaves_queue x q R
unfolding ◌then◌
queue-left x (Senders e) R = refl
queue-left x (Receivers e) R = refl
queue-left x (Waiters n) R = refl

-- what is not so
unless : (b : Bool) → not b ≡ true → b ≡ false
unless true h = absurd cc
unless false h = refl

-- the status of a thread that is there
status-there : (R : Log) (x : ObjId) → IsThere R kind.Thread x → status_of R x ≡ Some (status_by (queue_of R x) (owing R x) (mode_of R x))
unfolding status_of
status-there R x there =
    let S = status_by (queue_of R x) (owing R x) (mode_of R x) in
    let made = parts (was_made R x) (not (was_closed R x)) there.1 in
    let thread : (same_kind x.kind kind.Thread && was_made R x) ≡ true = both _ _ (ap (λ k. same_kind k kind.Thread) there.0) made.0 in
    ap (λ b. cond b (Some (cond (was_closed R x) status.Closed S)) None) thread ∙ ap (λ b. Some (cond b status.Closed S)) (unless (was_closed R x) made.1)

-- the reply object on which a thread waits that is in no queue is the one that owes it
pub owing-awaited : (R : Log) (x : ObjId) (s : Option Status) (o : Option ObjId) → IsThere R kind.Thread x → queue_of R x ≡ None → s ≡ status_of R x → o ≡ reply_awaited s → owing R x ≡ o
owing-awaited R x s o there none is awaited =
    sym (awaited ∙ ap reply_awaited (is ∙ status-there R x there ∙ ap (λ q. Some (status_by q (owing R x) (mode_of R x))) none) ∙ go (owing R x) (mode_of R x))
  where
    go : (o : Option ObjId) (m : Mode) → reply_awaited (Some (status_by None o m)) ≡ o
    go (Some r) m = refl
    go None Running = refl
    go None Restart = refl
    go None Inactive = refl

-- x may turn to any mode, once it left a queue
parted-turns : (R : Log) (x : ObjId) (q : Queue) (mode : Mode) → Sound R → IsThere R kind.Thread x → queue_of R x ≡ Some q → Allowed (onto (leaves_queue x q R) R) (rec.Turns x mode)
unfolding ◌then◌
parted-turns R x (Senders e) mode sound there at = go (open_of R x) refl
  where
    go : (o : Option Letter) → open_of R x ≡ o → Allowed (onto ((drop_message o then say (rec.Parts x (Senders e))) R) R) (rec.Turns x mode)
    go None is = (there, parted-idle R x (Senders e) sound at)
    go (Some s) is = (there, parted-idle (rec.Dropped s.number ∷ R) x (Senders e) ((open_of-open R x s is).1, sound) at)
parted-turns R x (Receivers e) mode sound there at = (there, parted-idle R x (Receivers e) sound at)
parted-turns R x (Waiters n) mode sound there at = (there, parted-idle R x (Waiters n) sound at)

-- or nothing owes it any more
voided-turns : (R : Log) (x : ObjId) (mode : Mode) → Sound R → IsThere R kind.Thread x → queue_of R x ≡ None → Allowed (onto (leaves_reply x R) R) (rec.Turns x mode)
voided-turns R x mode sound there none = go (owing R x) refl
  where
    go : (o : Option ObjId) → owing R x ≡ o → Allowed (onto (with_any o (λ r. say (rec.Void r x Cancelled)) R) R) (rec.Turns x mode)
    go None is = (there, (none, owing-none R x sound is))
    go (Some r) is = (there, ended-idle R r x (rec.Void r x Cancelled) sound (owing-owed R x r is) (λ d. refl) refl)

-- once it left what it was blocked on
pub left-turns : (R : Log) (x : ObjId) (mode : Mode) → Sound R → IsThere R kind.Thread x → Allowed (onto (leaves x R) R) (rec.Turns x mode)
left-turns R x mode sound there = go (queue_of R x) refl
  where
    go : (o : Option Queue) → queue_of R x ≡ o → Allowed (onto (leave R x o R) R) (rec.Turns x mode)
    go None is = voided-turns R x mode sound there is
    go (Some q) is = parted-turns R x q mode sound there is

-- a cancellation is the leaving, and the mode
pub cancel-is : (x : ObjId) (mode : Mode) (R : Log) → (leaves x then say (rec.Turns x mode)) R ≡ cancel x mode R
unfolding cancel ◌then◌
cancel-is x mode R = refl
