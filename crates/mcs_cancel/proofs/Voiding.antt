-- The end of a reply object: what is recorded, and what holds between.
use Rattle.std.specs.Prelude.{◌≡◌, [], ◌∷◌, Option, Some, None}
use Rattle.std.proofs.Common.{refl, ap, sym, subst}
use Rattle.mcs_types.specs.declared.id.ObjId.{ObjId}
use Rattle.mcs_types.specs.declared.id.Kind.TheVariants as kind
use Rattle.mcs_types.specs.declared.record.Ending.TheVariants.{Deleted}
use Rattle.mcs_types.specs.declared.record.Mode.TheVariants.{Inactive}
use Rattle.mcs_types.specs.declared.record.Queue.TheVariants.{Receivers}
use Rattle.mcs_types.specs.declared.record.Rec.TheVariants as rec
use Rattle.mcs_book.specs.Logs.{Log, onto}
use Rattle.mcs_book.specs.Cancelling.{cancel, leave, void_deleted}
use Rattle.mcs_book.specs.Chains.{topped_by}
use Rattle.mcs_book.specs.Pieces.{◌then◌, say}
use Rattle.mcs_book.specs.Queues.{queue_of}
use Rattle.mcs_book.specs.Replies.{owed_by, receiver_with}
use Rattle.mcs_book.specs.Sound.{Sound, Allowed, IsUnattended, IsFreeReply}
use Rattle.mcs_book.specs.Taking.{give_back}
use Rattle.mcs_book.proofs.Firm.Ends.{OutlastsEnding, outlasts-void, void-free}
use Rattle.mcs_book.proofs.SoundLogs.KeptLaws.{owed-there, ended-idle}
use Rattle.mcs_book.proofs.Threads.UserLaws.{receiver_with-named, unattended-parted}
use Rattle.mcs_cancel.specs.Releasing.{releases, dismisses}

-- no thread is owed
pub void-nobody : (R : Log) (r : ObjId) → owed_by R r ≡ None → void_deleted r R ≡ []
unfolding void_deleted
void-nobody R r none = rw none refl

-- somebody is
pub void-somebody : (R : Log) (r x : ObjId) (lent : Option ObjId) → owed_by R r ≡ Some x → lent ≡ topped_by R r
    → void_deleted r R ≡ (say (rec.Void r x Deleted) then say (rec.Turns x Inactive) then give_back lent x) R
unfolding void_deleted
void-somebody R r x lent owed is = rw (owed, is) refl

-- whom it owed is idle
pub voided-turns : (R : Log) (r x : ObjId) → Sound R → owed_by R r ≡ Some x → Allowed (rec.Void r x Deleted ∷ R) (rec.Turns x Inactive)
voided-turns R r x sound owed = ((owed-there R r x sound owed).1, ended-idle R r x (rec.Void r x Deleted) sound owed (λ d. refl) refl)

-- a receiver that is cancelled leaves its queue
receiver-cancelled : (R : Log) (x e : ObjId) → queue_of R x ≡ Some (Receivers e) → onto (cancel x Inactive R) R ≡ rec.Turns x Inactive ∷ rec.Parts x (Receivers e) ∷ R
unfolding cancel ◌then◌
receiver-cancelled R x e at = ap (λ q. onto ((leave R x q then say (rec.Turns x Inactive)) R) R) at

-- no thread receives with a reply object whose receiver was cancelled
pub dismissed : (R : Log) (r x : ObjId) → Sound R → receiver_with R r ≡ Some x → IsUnattended (onto (cancel x Inactive R) R) r
dismissed R r x sound found =
    let ((e, at), with) = receiver_with-named R r x found in
    subst (λ S. IsUnattended S r) (sym (receiver-cancelled R x e at)) (unattended-parted R r x e Inactive sound found at)

-- the end of a reply object
pub reply-is : (r : ObjId) (R : Log) → (dismisses r then void_deleted r) R ≡ releases r kind.Reply R
unfolding ◌then◌
reply-is r R = refl

-- no thread is left with it: no thread receives with it still, and it owes no thread
pub reply-released : (R S : Log) (r : ObjId) → S ≡ onto (void_deleted r R) R → IsUnattended R r → IsFreeReply S r
reply-released R S r is h = subst (λ L. IsFreeReply L r) (sym is) (void-free r R, outlasts-void (λ L. IsUnattended L r) kept r R h)
  where
    kept : OutlastsEnding Inactive (λ L. IsUnattended L r)
    kept = record { paid = λ L d x message k. k; voided = λ L d x how k. k; turns = λ L x k. k; holds = λ L s x k. k }
