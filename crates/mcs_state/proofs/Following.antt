-- The state after one record more.
use Rattle.std.specs.Prelude.{ℕ, ◌≡◌, ◌<◌, ◌≤◌, ◌+◌, ◌++◌, ◌∷◌, length}
use Rattle.std.proofs.Common.{ap, sym, ◌∙◌, subst, arith}
use Rattle.mcs_types.specs.declared.record.Rec.{Rec}
use Rattle.mcs_types.specs.declared.record.Rec.TheVariants as rec
use Rattle.mcs_types.specs.declared.id.Kind.{Kind}
use Rattle.mcs_types.specs.declared.id.ObjId.{ObjId}
use Rattle.mcs_types.specs.declared.record.Form.{Form}
use Rattle.mcs_book.specs.Logs.{Log}
use Rattle.mcs_book.specs.History.{Book, log_of}
use Rattle.mcs_book.specs.Objects.{next_id}
use Rattle.mcs_book.specs.Sound.{Allowed}
use Rattle.mcs_state.specs.Now.{Now, so_far}
use Rattle.mcs_state.specs.Tables.{HAND, Tables, IsKept, SentAgrees}
use Rattle.mcs_state.specs.Following.{Follows, FollowsClosed, SentFollows, ThreadsFollowClosed, ContextsFollowClosed, QueuesFollowClosed, RepliesFollowClosed, NotificationsFollowClosed}
use Rattle.mcs_state.proofs.ThreadLaws.{threads-follow}
use Rattle.mcs_state.proofs.LetterLaws.{letters-follow}
use Rattle.mcs_state.proofs.ContextLaws.{contexts-follow}
use Rattle.mcs_state.proofs.QueueLaws.{queues-follow}
use Rattle.mcs_state.proofs.ReplyLaws.{replies-follow}
use Rattle.mcs_state.proofs.NotificationLaws.{notifications-follow}
use Rattle.mcs_state.proofs.SlotLaws.{slots-follow}

-- what holds of all records so far, as they are seen, holds of them inside
pub seen : {n m : Now} → n ≡ m → (P : Log → Type 0) → P (so_far m) → P (so_far n)
seen is P h = subst (λ (k : Now). P (so_far k)) (sym is) h

-- what was allowed of what is seen is allowed inside
pub inside : {n m : Now} (r : Rec) → n ≡ m → Allowed (so_far m) r → Allowed (so_far n) r
inside r is ok = subst (λ (k : Now). Allowed (so_far k) r) (sym is) ok

-- and there is as much room
pub inside-room : {n m : Now} → n ≡ m → length m.hand + 1 < m.room → n.room ≤ HAND + 1 → length n.hand < HAND
inside-room {n} {m} is room few = let here : length n.hand + 1 < n.room = subst (λ (k : Now). length k.hand + 1 < k.room) (sym is) room in omega (arith, here, few)

-- and as much for two records
pub inside-room-two : {n m : Now} → n ≡ m → length m.hand + 2 < m.room → n.room ≤ HAND + 1 → length n.hand + 1 < HAND
inside-room-two {n} {m} is room few = let here : length n.hand + 2 < n.room = subst (λ (k : Now). length k.hand + 2 < k.room) (sym is) room in omega (arith, here, few)

-- the number of messages follows a record
pub sent-follows : (r : Rec) (sent sent' lines : ℕ) (hand R : Log) → SentFollows r sent sent' → SentAgrees sent lines hand R → SentAgrees sent' lines (r ∷ hand) (r ∷ R)
sent-follows (rec.Sent x e mode badge message) sent sent' lines hand R h a = record { all = h ∙ ap (λ n. n + 1) a.all; few = let few = a.few in omega (arith, h, few) }
sent-follows _ sent sent' lines hand R h a = rw h (record { all = a.all; few = a.few })

-- after any record
pub follows : (r : Rec) (T T' : Tables) (hand hand' : Log) (book book' : Book) → book' ≡ book → hand' ≡ r ∷ hand → length hand < HAND → Allowed (hand ++ log_of book) r → Follows (hand ++ log_of book) r T T'
    → IsKept T (length book.lines) hand (hand ++ log_of book) → IsKept T' (length book'.lines) hand' (hand' ++ log_of book')
follows r T T' hand hand' book book' same noted room ok f a = rw (same, noted) (record {
  few = omega (arith, room);
  sound = (ok, a.sound);
  threads = threads-follow r (hand ++ log_of book) T.threads T'.threads a.sound ok f.threads a.threads;
  letters = letters-follow r (hand ++ log_of book) T.letters T'.letters a.sound ok f.letters a.letters;
  contexts = contexts-follow r (hand ++ log_of book) T.contexts T'.contexts a.sound ok f.contexts a.contexts;
  queues = queues-follow r (hand ++ log_of book) T.queues T'.queues a.sound ok f.queues a.queues;
  replies = replies-follow r (hand ++ log_of book) T.replies T'.replies a.sound ok f.replies a.replies;
  notifications = notifications-follow r (hand ++ log_of book) T.notifications T'.notifications a.sound ok f.notifications a.notifications;
  slots = slots-follow r (hand ++ log_of book) T.slots T'.slots a.sound ok f.slots a.slots;
  sent = sent-follows r T.sent T'.sent (length book.lines) hand (hand ++ log_of book) f.sent a.sent;
})

-- as many lines are seen as there are
pub fewer-lines : {n m : Now} {k : ℕ} → n ≡ m → length m.book.lines < k → length n.book.lines < k
fewer-lines {k = k} is few = subst (λ (x : Now). length x.book.lines < k) (sym is) few

-- what may be made as it is seen may be made inside
pub inside-made : {n m : Now} (k : Kind) (f : Form) → n ≡ m → Allowed (so_far m) (rec.Made (next_id (so_far m) k) f) → Allowed (so_far n) (rec.Made (next_id (so_far n) k) f)
inside-made k f is ok = subst (λ (x : Now). Allowed (so_far x) (rec.Made (next_id (so_far x) k) f)) (sym is) ok

-- what follows the end of an object of its kind follows the end of the object
pub follows-closed : (R : Log) (o : ObjId) (k : Kind) (old new : Tables) → o.kind ≡ k → FollowsClosed k o old new → Follows R (rec.Closed o) old new
follows-closed R o k old new e f = record {
  threads = subst (λ (j : Kind). ThreadsFollowClosed j o old.threads new.threads) (sym e) f.threads;
  letters = f.letters;
  contexts = subst (λ (j : Kind). ContextsFollowClosed j o old.contexts new.contexts) (sym e) f.contexts;
  queues = subst (λ (j : Kind). QueuesFollowClosed j o old.queues new.queues) (sym e) f.queues;
  replies = subst (λ (j : Kind). RepliesFollowClosed j o old.replies new.replies) (sym e) f.replies;
  notifications = subst (λ (j : Kind). NotificationsFollowClosed j o old.notifications new.notifications) (sym e) f.notifications;
  slots = f.slots;
  sent = f.sent;
}
