-- Who hears a word: what a signal records, and what holds of the hearer.
use Rattle.std.specs.Prelude.{ℕ, ◌≡◌, ◌≢◌, ◌<◌, ◌+◌, ◌∷◌, List, length, Option, Some, None, option_and_then, option_map}
use Rattle.std.specs.Option.{IfSome, option_or}
use Rattle.std.proofs.Common.{refl, ap, sym, ◌∙◌, subst, arith}
use Rattle.mcs_types.specs.declared.id.ObjId.{ObjId}
use Rattle.mcs_types.specs.declared.id.Badge.{Badge}
use Rattle.mcs_types.specs.declared.id.Kind.TheVariants as kind
use Rattle.mcs_types.specs.declared.record.Queue.{Queue}
use Rattle.mcs_types.specs.declared.record.Queue.TheVariants.{Senders, Receivers, Waiters}
use Rattle.mcs_types.specs.declared.record.Rec.{Rec}
use Rattle.mcs_types.specs.declared.record.Rec.TheVariants as rec
use Rattle.mcs_book.specs.Logs.{Log, onto}
use Rattle.mcs_book.specs.Notifications.{tied_to, pending}
use Rattle.mcs_book.specs.Pieces.{◌then◌, say, with_any}
use Rattle.mcs_book.specs.Queues.{queue_of, first_in}
use Rattle.mcs_book.specs.Signalling.{queue_of_any, spare_at, wake, hearer, reach, signal}
use Rattle.mcs_book.specs.Sound.{Sound, IsThere}
use Rattle.mcs_book.specs.Taking.{give_back}
use Rattle.mcs_book.proofs.Firm.Laws.{tied-bound, spare-there}
use Rattle.mcs_book.proofs.Queues.QueueLaws.{first-stands}
use Rattle.mcs_book.proofs.SoundLogs.KeptLaws.{bound-one}
use Rattle.mcs_state.specs.Doing.{Holds, Makes, HasRoomFor}
use Rattle.mcs_state.specs.Entering.{OnlyBoundWait}
use Rattle.mcs_state.specs.Now.{Now, so_far, adds_all}
use Rattle.mcs_state.proofs.Doing.{makes-then, room-first, room-next}
use Rattle.mcs_notify.specs.declared.signals.Hearer.{Hearer}
use Rattle.mcs_notify.specs.Hearing.{among_receivers, waiter, next_hearer, unless_pending, reached, goes_on, heard_by}
use Rattle.mcs_notify.specs.Waiting.{NoneElseBound}

-- what a signal records: the badge, and who hears it
pub signal-is : (R : Log) (n : ObjId) (badge : Badge) → signal n badge R ≡ (say (rec.Raised n badge) then with_any (reached R n) (heard_by n badge.0)) R
unfolding signal ◌then◌
signal-is R n badge = ap (λ made. rec.Raised n badge ∷ made) (go (pending R n))
  where
    S : Log
    S = rec.Raised n badge ∷ R

    over : (b : Option ObjId) (q : Option Queue) (w : Option ObjId)
        → hearer n b q w badge.0 S ≡ with_any (option_or (option_and_then (λ x. among_receivers x q) b) (option_map (waiter n) w)) (heard_by n badge.0) S
    over (Some x) (Some (Receivers e)) w = refl
    over (Some x) (Some (Senders e)) None = refl
    over (Some x) (Some (Senders e)) (Some y) = refl
    over (Some x) (Some (Waiters e)) None = refl
    over (Some x) (Some (Waiters e)) (Some y) = refl
    over (Some x) None None = refl
    over (Some x) None (Some y) = refl
    over None q None = refl
    over None q (Some y) = refl

    hears : (b : Option ObjId) (w : Option ObjId)
        → hearer n b (queue_of_any R b) w badge.0 S ≡ with_any (option_or (option_and_then (λ x. among_receivers x (queue_of R x)) b) (option_map (waiter n) w)) (heard_by n badge.0) S
    hears None w = over None None w
    hears (Some x) w = over (Some x) (queue_of R x) w

    go : (o : Option ℕ) → reach R n badge.0 o S ≡ with_any (unless_pending o (next_hearer R n)) (heard_by n badge.0) S
    go (Some old) = refl
    go None = hears (tied_to R n) (first_in R (Waiters n))

-- who hears goes on, and then the spare context passes to it
pub heard-is : (R : Log) (n : ObjId) (word : ℕ) (h : Hearer) → (goes_on n word h then give_back (spare_at R n) h.thread) R ≡ heard_by n word h R
unfolding wake goes_on
heard-is R n word h = refl

-- the hearer is there still, and so is the spare context
pub still-hearer : (R : Log) (n : ObjId) (word : ℕ) (h : Hearer) → IsThere R kind.Thread h.thread → IsThere (onto (goes_on n word h R) R) kind.Thread h.thread
unfolding goes_on ◌then◌
still-hearer R n word h there = there

pub still-spare : (R : Log) (n : ObjId) (word : ℕ) (h : Hearer) → Sound R → IfSome (spare_at R n) (λ s. IsThere (onto (goes_on n word h R) R) kind.Context s)
unfolding goes_on ◌then◌
still-spare R n word h sound = go (spare_at R n) refl
  where
    go : (o : Option ObjId) → spare_at R n ≡ o → IfSome o (λ s. IsThere R kind.Context s)
    go None is = tt
    go (Some s) is = spare-there R n s sound is

-- what holds of whom a signal reaches
pub record IsReached (R : Log) (n : ObjId) (h : Hearer) : Type 0 where
  pub stands : queue_of R h.thread ≡ Some h.queue
  pub receives : (e : ObjId) → h.queue ≢ Senders e
  pub silent : pending R n ≡ None
  pub alone : NoneElseBound R n h.thread

-- a waiter, or the bound thread where it receives
pub reached-is : (R : Log) (n : ObjId) (h : Hearer) → Sound R → OnlyBoundWait R → reached R n ≡ Some h → IsReached R n h
reached-is R n h sound only found = go (pending R n) refl found
  where
    Reached : Hearer → Type 0
    Reached x = IsReached R n x

    waits : pending R n ≡ None → (w : Option ObjId) → first_in R (Waiters n) ≡ w → option_map (waiter n) w ≡ Some h → IsReached R n h
    waits none None is e = absurd cc
    waits none (Some x) is e =
        let it : waiter n x ≡ h = cc in
        let stands : queue_of R x ≡ Some (Waiters n) = first-stands R (Waiters n) x is in
        subst Reached it (record { stands = stands; receives = λ e k. absurd cc; silent = none; alone = λ u bound. only x n u stands bound })

    at_place : pending R n ≡ None → (x : ObjId) → tied_to R n ≡ Some x → (q : Option Queue) → queue_of R x ≡ q → option_or (among_receivers x q) (option_map (waiter n) (first_in R (Waiters n))) ≡ Some h → IsReached R n h
    at_place none x tied (Some (Receivers e)) at is =
        let it : record { thread = x; queue = Receivers e } ≡ h = cc in
        subst Reached it (record { stands = at; receives = λ e' k. absurd cc; silent = none; alone = λ u bound. bound-one R u x n sound bound (tied-bound R n x tied) })
    at_place none x tied (Some (Senders e)) at is = waits none (first_in R (Waiters n)) refl is
    at_place none x tied (Some (Waiters e)) at is = waits none (first_in R (Waiters n)) refl is
    at_place none x tied None at is = waits none (first_in R (Waiters n)) refl is

    bound : pending R n ≡ None → (b : Option ObjId) → tied_to R n ≡ b → option_or (option_and_then (λ x. among_receivers x (queue_of R x)) b) (option_map (waiter n) (first_in R (Waiters n))) ≡ Some h → IsReached R n h
    bound none None tied is = waits none (first_in R (Waiters n)) refl is
    bound none (Some x) tied is = at_place none x tied (queue_of R x) refl is

    go : (o : Option ℕ) → pending R n ≡ o → unless_pending o (next_hearer R n) ≡ Some h → IsReached R n h
    go (Some old) is e = absurd cc
    go None is e = bound is (tied_to R n) refl e

-- a signal, and then who hears it
module _ (n : Now) (at : ObjId) (badge : Badge) where
  -- room for a signal is room for the badge
  pub room-raised : HasRoomFor (signal at badge) n → length n.hand + 1 < n.room
  room-raised room =
      let first = room-first (say (rec.Raised at badge)) (with_any (reached (so_far n) at) (heard_by at badge.0)) n (subst (λ made. Holds made n) (signal-is (so_far n) at badge) room) in
      omega (arith, first)

  -- and for who hears it
  pub room-heard : (m : Now) (o : Option Hearer) → o ≡ reached (so_far n) at → Makes (say (rec.Raised at badge)) n m → HasRoomFor (signal at badge) n → HasRoomFor (with_any o (heard_by at badge.0)) m
  room-heard m o is made room =
      rw is (room-next (say (rec.Raised at badge)) (with_any (reached (so_far n) at) (heard_by at badge.0)) n m made (subst (λ made. Holds made n) (signal-is (so_far n) at badge) room))

  -- both are made
  pub signal-made : (m l : Now) (o : Option Hearer) → o ≡ reached (so_far n) at → Makes (say (rec.Raised at badge)) n m → Makes (with_any o (heard_by at badge.0)) m l → Makes (signal at badge) n l
  signal-made m l o is made heard =
      let rest = subst (λ x. Makes (with_any x (heard_by at badge.0)) m l) is heard in
      makes-then (say (rec.Raised at badge)) (with_any (reached (so_far n) at) (heard_by at badge.0)) n m l made rest
      ∙ ap (λ (more : List Rec). adds_all more n) (sym (signal-is (so_far n) at badge))
