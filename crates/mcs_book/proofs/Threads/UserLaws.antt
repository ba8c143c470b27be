-- In a sound log at most one thread receives with a reply object.
use Rattle.std.specs.Prelude.{Bool, true, false, ◌&&◌, ◌≡◌, [], ◌∷◌, Option, Some, None, refl, unwrap_or}
use Rattle.std.specs.Option.{IfSome}
use Rattle.std.proofs.Common.{sym, ◌∙◌, ap, subst}
use Rattle.mcs_types.specs.declared.id.ObjId.{ObjId}
use Rattle.mcs_types.specs.declared.record.Mode.{Mode}
use Rattle.mcs_types.specs.declared.record.Queue.{Queue}
use Rattle.mcs_types.specs.declared.record.Queue.TheVariants.{Senders, Receivers, Waiters}
use Rattle.mcs_types.specs.declared.record.Rec.TheVariants as rec
use Rattle.mcs_types.specs.Ids.{same}
use Rattle.mcs_book.specs.Logs.{Log, given}
use Rattle.mcs_types.specs.Ids.{is_just}
use Rattle.mcs_book.specs.Threads.{threads}
use Rattle.mcs_book.specs.Queues.{queue_of, reply_with, receives_at, is_receiving}
use Rattle.mcs_book.specs.Replies.{receiver_with}
use Rattle.mcs_book.specs.Sound.{Sound, IsUnattended}
use Rattle.mcs_types.proofs.Ids.{same-self, same-equal, parts, both}
use Rattle.mcs_book.proofs.Objects.Same.{is_just-some}
use Rattle.mcs_book.proofs.Queues.QueueLaws.{standing-made}
use Rattle.mcs_book.proofs.Messages.MessageLaws.{find-passes}
use Rattle.mcs_book.proofs.Queues.NoneBeside.{left-queue}
use Rattle.mcs_book.proofs.Threads.HoldingLaws.{find-alone}

-- what is said of an option holds of its value
pub if_some : {A : Type 0} (P : A → Type 0) (o : Option A) (x : A) → IfSome o P → o ≡ Some x → P x
if_some P (Some y) x h e = let it : y ≡ x = cc in subst P it h
if_some P None x h e = absurd cc

-- the law: who receives with r is one
pub one_user : (R : Log) (x y e e' r : ObjId) → Sound R → queue_of R x ≡ Some (Receivers e) → reply_with R x ≡ Some r → queue_of R y ≡ Some (Receivers e') → reply_with R y ≡ Some r → x ≡ y
one_user [] x y e e' r sound at with at' with' = absurd cc
one_user (rec.Joins u k reply ∷ R) x y e e' r sound at with at' with' = go (same x u) refl (same y u) refl at with at' with' (one_user R x y e e' r sound.1)
  where
    -- the reply object with which u joins was free
    free : (z d : ObjId) → reply ≡ Some r → queue_of R z ≡ Some (Receivers d) → reply_with R z ≡ Some r → ⊥
    free z d is stands named = (if_some _ reply r sound.0.4 is).1.1 z d stands named

    go : (b : Bool) → same x u ≡ b → (c : Bool) → same y u ≡ c → unwrap_or (given b (Some k)) (queue_of R x) ≡ Some (Receivers e) → unwrap_or (given b reply) (reply_with R x) ≡ Some r
        → unwrap_or (given c (Some k)) (queue_of R y) ≡ Some (Receivers e') → unwrap_or (given c reply) (reply_with R y) ≡ Some r
        → (queue_of R x ≡ Some (Receivers e) → reply_with R x ≡ Some r → queue_of R y ≡ Some (Receivers e') → reply_with R y ≡ Some r → x ≡ y) → x ≡ y
    go true a true b h i j l later = same-equal x u a ∙ sym (same-equal y u b)
    go true a false b h i j l later = absurd (free y e' i j l)
    go false a true b h i j l later = absurd (free x e l h i)
    go false a false b h i j l later = later h i j l
one_user (rec.Parts u k ∷ R) x y e e' r sound at with at' with' = one_user R x y e e' r sound.1 ((left-queue R u x k (Receivers e) at).1) with ((left-queue R u y k (Receivers e') at').1) with'
one_user (_ ∷ R) x y e e' r sound at with at' with' = one_user R x y e e' r sound.1 at with at' with'

-- a queue of receivers
receives-some : (o : Option Queue) → receives_at o ≡ true → (e : ObjId) × (o ≡ Some (Receivers e))
receives-some (Some (Receivers e)) h = (e, refl)
receives-some (Some (Senders e)) h = absurd cc
receives-some (Some (Waiters n)) h = absurd cc
receives-some None h = absurd cc

-- who is found to receive with r does so
pub receiver_with-named : (R : Log) (r x : ObjId) → receiver_with R r ≡ Some x → ((e : ObjId) × (queue_of R x ≡ Some (Receivers e))) × (reply_with R x ≡ Some r)
unfolding receiver_with
receiver_with-named R r x h =
    let p : (is_receiving R x ≡ true) × (is_just (reply_with R x) r ≡ true) = parts _ _ (find-passes (λ t. is_receiving R t && is_just (reply_with R t) r) (threads R) x h) in
    (receives-some (queue_of R x) p.0, is_just-some (reply_with R x) r p.1)

-- the test by which a receiver with r is found
receives-test : (R : Log) (r x e : ObjId) → queue_of R x ≡ Some (Receivers e) → reply_with R x ≡ Some r → (is_receiving R x && is_just (reply_with R x) r) ≡ true
receives-test R r x e at with = both _ _ (ap (λ o. receives_at o) at) (ap (λ o. is_just o r) with ∙ same-self r)

-- who receives with r is found
pub receiver_with-found : (R : Log) (r x e : ObjId) → Sound R → queue_of R x ≡ Some (Receivers e) → reply_with R x ≡ Some r → receiver_with R r ≡ Some x
unfolding receiver_with
receiver_with-found R r x e sound at with =
    find-alone (λ t. is_receiving R t && is_just (reply_with R t) r) (threads R) x (standing-made R x (Receivers e) sound at) (receives-test R r x e at with)
    (λ z is.
    let p : (is_receiving R z ≡ true) × (is_just (reply_with R z) r ≡ true) = parts _ _ is in
    let (d, stands) = receives-some (queue_of R z) p.0 in
    one_user R z x d e r sound stands (is_just-some (reply_with R z) r p.1) at with)

-- no thread is found, so no thread receives with r
pub unattended-none : (R : Log) (r : ObjId) → Sound R → receiver_with R r ≡ None → IsUnattended R r
unattended-none R r sound none x e at with = let no : None ≡ Some x = sym none ∙ receiver_with-found R r x e sound at with in absurd cc

-- when the one who receives with r has left its queue, no thread does
pub unattended-parted : (R : Log) (r x e : ObjId) (mode : Mode) → Sound R → receiver_with R r ≡ Some x → queue_of R x ≡ Some (Receivers e) → IsUnattended (rec.Turns x mode ∷ rec.Parts x (Receivers e) ∷ R) r
unattended-parted R r x e mode sound found stands y d at with =
    let (other, still) = left-queue R x y (Receivers e) (Receivers d) at in
    other (one_user R y x d e r sound still with stands (receiver_with-named R r x found).1)
