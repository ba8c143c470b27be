-- Cancelling, and the end of an object, make the same records on alike logs.
use Rattle.std.specs.Prelude.{ℕ, ◌≡◌, ◌++◌, ◌==◌, Bool, true, false, cond, List, Option, Some, None, option_map}
use Rattle.std.proofs.Common.{refl, ap}
use Rattle.mcs_types.specs.declared.id.ObjId.{ObjId}
use Rattle.mcs_types.specs.declared.id.Kind.{Kind}
use Rattle.mcs_types.specs.declared.id.Kind.TheVariants as kind
use Rattle.mcs_types.specs.declared.record.Letter.{Letter}
use Rattle.mcs_types.specs.declared.record.Mode.{Mode}
use Rattle.mcs_types.specs.declared.record.Mode.TheVariants.{Restart, Inactive}
use Rattle.mcs_types.specs.declared.record.Queue.{Queue}
use Rattle.mcs_types.specs.declared.record.Queue.TheVariants.{Senders, Receivers, Waiters}
use Rattle.mcs_types.specs.declared.record.Ending.TheVariants.{Deleted, Cancelled}
use Rattle.mcs_types.specs.declared.record.Rec.TheVariants as rec
use Rattle.mcs_book.specs.Logs.{Log}
use Rattle.mcs_book.specs.Messages.{open_of}
use Rattle.mcs_book.specs.Queues.{queue_of, queued_in}
use Rattle.mcs_book.specs.Contexts.{context_of, holder_of, home_of, homed_at}
use Rattle.mcs_book.specs.Replies.{owed_by, owing, receiver_with, user_of}
use Rattle.mcs_book.specs.Chains.{topped_by}
use Rattle.mcs_book.specs.Notifications.{bound_of, tied_to}
use Rattle.mcs_book.specs.Slots.{count_of}
use Rattle.mcs_book.specs.Pieces.{◌then◌, nothing, say, with_any}
use Rattle.mcs_book.specs.Taking.{back_to, give_back}
use Rattle.mcs_book.specs.Cancelling.{drop_message, leave, cancel, cancel_all, untie, untie_from, let_go, unhome, unbind, void_deleted, release, destroy}
use Rattle.mcs_book.specs.Receiving.{free}
use Rattle.mcs_book.specs.Placing.{destroy_last}
use Rattle.mcs_explore_equivalence.specs.ButNumbers.{unnumbered, AlikeButNumbers, MatchAll}
use Rattle.mcs_explore_equivalence.proofs.Settled.{open-of}
use Rattle.mcs_explore_equivalence.proofs.Asking.{queued-same, open-same, context-same, owing-same, tied-same, homed-same, topped-same, receiver-same, user-same}
use Rattle.mcs_explore_equivalence.proofs.Acting.{Agree, Respects, say-respects, nothing-respects, then-agrees, then-respects, with_any-respects, each-respects, asking-respects}

-- the open message of a thread is dropped
drop-agrees : (R S : Log) → AlikeButNumbers R S → (x : ObjId) → Agree R S (drop_message (open_of R x)) (drop_message (open_of S x))
drop-agrees R S a x h k = go (open_of R x) refl (open_of S x) refl (open-same R S a x)
  where
    go : (o : Option Letter) → open_of R x ≡ o → (p : Option Letter) → open_of S x ≡ p → option_map unnumbered o ≡ option_map unnumbered p → MatchAll R S (drop_message o R) (drop_message p S)
    go None e None f same = tt
    go None e (Some l) f same = absurd cc
    go (Some s) e None f same = absurd cc
    go (Some s) e (Some l) f same = ((l.number, (refl, open-of R S x s l a.left a.right e f)), tt)

pub give_back-respects : (s : Option ObjId) (x : ObjId) → Respects (give_back s x)
unfolding give_back
give_back-respects s x = asking-respects (λ R. context_of R x) (λ c R. back_to x s c) (λ R S a. context-same R S a x) (λ c. go s c)
  where
    go : (s c : Option ObjId) → Respects (λ R. back_to x s c)
    go (Some s) None = say-respects (rec.Holds s (Some x)) refl
    go (Some s) (Some c) = nothing-respects
    go None c = nothing-respects

pub cancel-respects : (x : ObjId) (mode : Mode) → Respects (cancel x mode)
unfolding cancel
cancel-respects x mode = asking-respects (λ R. queue_of R x) (λ (q : Option Queue) (R : Log). (leave R x q then say (rec.Turns x mode)) R) (λ R S a. a.queues x) go
  where
    go : (q : Option Queue) → Respects (λ R. (leave R x q then say (rec.Turns x mode)) R)
    go None = asking-respects (λ R. owing R x) (λ w. with_any w (λ r. say (rec.Void r x Cancelled)) then say (rec.Turns x mode)) (λ R S a. owing-same R S a x) (λ w. then-respects _ _ (with_any-respects w _ (λ r. say-respects _ refl)) (say-respects _ refl))
    go (Some (Senders e)) = record {
      on = λ R S a. then-agrees (drop_message (open_of R x) then say (rec.Parts x (Senders e))) (drop_message (open_of S x) then say (rec.Parts x (Senders e))) (say (rec.Turns x mode)) R S a
          (then-agrees (drop_message (open_of R x)) (drop_message (open_of S x)) (say (rec.Parts x (Senders e))) R S a (drop-agrees R S a x) (say-respects _ refl)) (say-respects _ refl);
    }
    go (Some (Receivers e)) = then-respects _ _ (say-respects _ refl) (say-respects _ refl)
    go (Some (Waiters e)) = then-respects _ _ (say-respects _ refl) (say-respects _ refl)

pub cancel_all-respects : (xs : List ObjId) (mode : Mode) → Respects (cancel_all xs mode)
cancel_all-respects xs mode = each-respects xs _ (λ x. cancel-respects x mode)

-- the user of a reply object is cancelled
pub free-respects : (r : ObjId) → Respects (free r)
unfolding free
free-respects r = asking-respects (λ R. user_of R r) (λ u. with_any u (λ x. cancel x Inactive)) (λ R S a. user-same R S a r) (λ u. with_any-respects u _ (λ x. cancel-respects x Inactive))

void-respects : (r : ObjId) → Respects (void_deleted r)
unfolding void_deleted
void-respects r =
    asking-respects (λ R. topped_by R r) (λ (s : Option ObjId) (R : Log). with_any (owed_by R r) (λ x. say (rec.Void r x Deleted) then say (rec.Turns x Inactive) then give_back s x) R) (λ R S a. topped-same R S a r)
    (λ s. asking-respects (λ R. owed_by R r) (λ o. with_any o (λ x. say (rec.Void r x Deleted) then say (rec.Turns x Inactive) then give_back s x)) (λ R S a. a.owed r)
    (λ o. with_any-respects o _ (λ x. then-respects _ _ (then-respects _ _ (say-respects _ refl) (say-respects _ refl)) (give_back-respects s x))))

-- a context leaves its home and its holder
pub unbind-respects : (s : ObjId) → Respects (unbind s)
unfolding unbind
unbind-respects s =
    asking-respects (λ R. home_of R s) (λ (h : Option ObjId) (R : Log). (with_any h (λ n. say (rec.Homed s None)) then with_any (holder_of R s) (λ t. say (rec.Holds s None))) R) (λ R S a. a.homes s)
    (λ h. asking-respects (λ R. holder_of R s) (λ y. with_any h (λ n. say (rec.Homed s None)) then with_any y (λ t. say (rec.Holds s None))) (λ R S a. a.holders s)
    (λ y. then-respects _ _ (with_any-respects h _ (λ n. say-respects _ refl)) (with_any-respects y _ (λ t. say-respects _ refl))))

-- the end of an object
pub destroy-respects : (o : ObjId) → Respects (destroy o)
unfolding destroy
destroy-respects o = go o.kind
  where
    go : (k : Kind) → Respects (λ R. (release R o k then say (rec.Closed o)) R)
    go kind.CNode = then-respects _ _ nothing-respects (say-respects _ refl)
    go kind.Endpoint =
        asking-respects (λ R. queued_in R (Senders o)) (λ (xs : List ObjId) (R : Log). (cancel_all (xs ++ queued_in R (Receivers o)) Restart then say (rec.Closed o)) R) (λ R S a. queued-same R S a (Senders o))
        (λ xs. asking-respects (λ R. queued_in R (Receivers o)) (λ ys. cancel_all (xs ++ ys) Restart then say (rec.Closed o)) (λ R S a. queued-same R S a (Receivers o)) (λ ys. then-respects _ _ (cancel_all-respects (xs ++ ys) Restart) (say-respects _ refl)))
    go kind.Notification =
        asking-respects (λ R. queued_in R (Waiters o)) (λ (xs : List ObjId) (R : Log). (((cancel_all xs Restart then untie (tied_to R o)) then unhome (homed_at R o)) then say (rec.Closed o)) R) (λ R S a. queued-same R S a (Waiters o))
        (λ xs. asking-respects (λ R. tied_to R o) (λ (y : Option ObjId) (R : Log). (((cancel_all xs Restart then untie y) then unhome (homed_at R o)) then say (rec.Closed o)) R) (λ R S a. tied-same R S a o)
        (λ y. asking-respects (λ R. homed_at R o) (λ s. ((cancel_all xs Restart then untie y) then unhome s) then say (rec.Closed o)) (λ R S a. homed-same R S a o)
        (λ s. then-respects _ _ (then-respects _ _ (then-respects _ _ (cancel_all-respects xs Restart) (with_any-respects y _ (λ x. say-respects _ refl))) (with_any-respects s _ (λ c. say-respects _ refl))) (say-respects _ refl))))
    go kind.Reply =
        asking-respects (λ R. receiver_with R o) (λ y. (with_any y (λ x. cancel x Inactive) then void_deleted o) then say (rec.Closed o)) (λ R S a. receiver-same R S a o)
        (λ y. then-respects _ _ (then-respects _ _ (with_any-respects y _ (λ x. cancel-respects x Inactive)) (void-respects o)) (say-respects _ refl))
    go kind.Context = then-respects _ _ (unbind-respects o) (say-respects _ refl)
    go kind.Thread =
        asking-respects (λ R. bound_of R o) (λ (y : Option ObjId) (R : Log). (((cancel o Inactive then untie_from y o) then let_go (context_of R o)) then say (rec.Closed o)) R) (λ R S a. a.bounds o)
        (λ y. asking-respects (λ R. context_of R o) (λ s. ((cancel o Inactive then untie_from y o) then let_go s) then say (rec.Closed o)) (λ R S a. context-same R S a o)
        (λ s. then-respects _ _ (then-respects _ _ (then-respects _ _ (cancel-respects o Inactive) (with_any-respects y _ (λ n. say-respects _ refl))) (with_any-respects s _ (λ x. say-respects _ refl))) (say-respects _ refl)))

pub destroy_last-respects : (o : ObjId) → Respects (destroy_last o)
unfolding destroy_last
destroy_last-respects o = asking-respects (λ R. count_of R o) (λ (n : ℕ). cond (n == 0) (destroy o) nothing) (λ R S a. a.held o) (λ n. go (n == 0))
  where
    go : (b : Bool) → Respects (cond b (destroy o) nothing)
    go true = destroy-respects o
    go false = nothing-respects
