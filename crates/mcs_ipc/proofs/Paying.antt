-- Callers that are answered: what is recorded, and what holds between.
use Rattle.std.specs.Prelude.{◌≡◌, ◌≢◌, [], ◌∷◌, Option, Some, None, unwrap_or}
use Rattle.std.specs.Option.{IfSome}
use Rattle.std.proofs.Common.{refl, inl, inr}
use Rattle.mcs_types.specs.Views.{Content}
use Rattle.mcs_types.specs.declared.id.ObjId.{ObjId}
use Rattle.mcs_types.specs.declared.id.Kind.TheVariants as kind
use Rattle.mcs_types.specs.declared.record.Mode.TheVariants.{Running}
use Rattle.mcs_types.specs.declared.record.Rec.{Rec}
use Rattle.mcs_types.specs.declared.record.Rec.TheVariants as rec
use Rattle.mcs_types.specs.declared.entry.Answer.TheVariants.{Done}
use Rattle.mcs_types.specs.Ids.{same}
use Rattle.mcs_book.specs.Logs.{Log, onto, given}
use Rattle.mcs_book.specs.Threads.{mode_of}
use Rattle.mcs_book.specs.Replies.{owed_by}
use Rattle.mcs_book.specs.Chains.{topped_by}
use Rattle.mcs_book.specs.Pieces.{◌then◌, say}
use Rattle.mcs_book.specs.Taking.{give_back, pay}
use Rattle.mcs_book.specs.Sound.{Sound, Allowed, IsThere, IsOwedNothing}
use Rattle.mcs_book.proofs.SoundLogs.KeptLaws.{set-split, set-kept, owed-there, ended-idle}
use Rattle.mcs_book.proofs.Firm.Ends.{OutlastsEnding, outlasts-pay}
use Rattle.mcs_state.specs.Entering.{IsActing}
use Rattle.mcs_ipc.specs.declared.checks.Source.{Source}
use Rattle.mcs_ipc.specs.declared.checks.Source.TheVariants as source
use Rattle.mcs_ipc.specs.Ready.{IsReceiving, IsWaiting, IsReceivingFrom}
use Rattle.mcs_ipc.specs.Rows.{pay_act}

-- a reply object is paid, and the answer is Done
pub pays : (R : Log) (r : ObjId) (message : Content) → pay_act r message R ≡ record { answer = Done; records = pay r message R }
unfolding pay_act
pays R r message = refl

-- no thread is owed
pub pay-nobody : (R : Log) (r : ObjId) (message : Content) → owed_by R r ≡ None → pay r message R ≡ []
unfolding pay
pay-nobody R r message none = rw none refl

-- somebody is
pub pay-somebody : (R : Log) (r x : ObjId) (message : Content) (lent : Option ObjId) → owed_by R r ≡ Some x → lent ≡ topped_by R r
    → pay r message R ≡ (say (rec.Paid r x message) then say (rec.Turns x Running) then give_back lent x) R
unfolding pay
pay-somebody R r x message lent owed is = rw (owed, is) refl

-- who was answered may run
pub paid-runs : (R : Log) (r x : ObjId) (message : Content) → Sound R → owed_by R r ≡ Some x → Allowed (rec.Paid r x message ∷ R) (rec.Turns x Running)
paid-runs R r x message sound owed = ((owed-there R r x sound owed).1, ended-idle R r x (rec.Paid r x message) sound owed (λ d. refl) refl)

-- who is owed nothing is owed nothing after a debt ended
unowed : (R : Log) (t q : ObjId) → IsOwedNothing R t → (d : ObjId) → unwrap_or (given (same d q) None) (owed_by R d) ≢ Some t
unowed R t q h d o = elim (set-split d q None (owed_by R d) (Some t) o) [ inl (who, is) ↦ absurd cc | inr (other, is) ↦ h d is ]

-- that a thread acts outlasts an answer
acts : (t : ObjId) → OutlastsEnding Running (λ R. IsActing R t)
acts t = record {
  paid = λ R q x message h. record { there = h.there; idle = (h.idle.0, unowed R t q h.idle.1); runs = h.runs };
  voided = λ R q x how h. record { there = h.there; idle = (h.idle.0, unowed R t q h.idle.1); runs = h.runs };
  turns = λ R x h. record { there = h.there; idle = (h.idle.0, h.idle.1); runs = set-kept (same t x) Running (mode_of R t) h.runs };
  holds = λ R s x h. record { there = h.there; idle = (h.idle.0, h.idle.1); runs = h.runs };
}

-- what holds of a thread that is to receive does
receives : (t e : ObjId) (r : Option ObjId) → OutlastsEnding Running (λ R. IsReceiving R t e r)
receives t e r = record {
  paid = λ R q x message h. record {
    acting = (acts t).paid R q x message h.acting;
    stand = λ y c m still. h.stand y c m (record { sent = still.sent; is_letter = still.is_letter; is_open = still.is_open; of_sender = still.of_sender; on_endpoint = still.on_endpoint });
    endpoint = h.endpoint;
    reply = same_reply R (rec.Paid q x message) r h.reply (λ d there. there);
  };
  voided = λ R q x how h. record {
    acting = (acts t).voided R q x how h.acting;
    stand = λ y c m still. h.stand y c m (record { sent = still.sent; is_letter = still.is_letter; is_open = still.is_open; of_sender = still.of_sender; on_endpoint = still.on_endpoint });
    endpoint = h.endpoint;
    reply = same_reply R (rec.Void q x how) r h.reply (λ d there. there);
  };
  turns = λ R x h. record {
    acting = (acts t).turns R x h.acting;
    stand = λ y c m still. h.stand y c m (record { sent = still.sent; is_letter = still.is_letter; is_open = still.is_open; of_sender = still.of_sender; on_endpoint = still.on_endpoint });
    endpoint = h.endpoint;
    reply = same_reply R (rec.Turns x Running) r h.reply (λ d there. there);
  };
  holds = λ R s x h. record {
    acting = (acts t).holds R s x h.acting;
    stand = λ y c m still. h.stand y c m (record { sent = still.sent; is_letter = still.is_letter; is_open = still.is_open; of_sender = still.of_sender; on_endpoint = still.on_endpoint });
    endpoint = h.endpoint;
    reply = same_reply R (rec.Holds s (Some x)) r h.reply (λ d there. there);
  };
}
  where
    same_reply : (R : Log) (made : Rec) (o : Option ObjId) → IfSome o (λ d. IsThere R kind.Reply d) → ((d : ObjId) → IsThere R kind.Reply d → IsThere (made ∷ R) kind.Reply d) → IfSome o (λ d. IsThere (made ∷ R) kind.Reply d)
    same_reply R made None h f = tt
    same_reply R made (Some d) h f = f d h

-- and what holds of one that is to wait
waits : (t n : ObjId) → OutlastsEnding Running (λ R. IsWaiting R t n)
waits t n = record {
  paid = λ R q x message h. record { acting = (acts t).paid R q x message h.acting; there = h.there; alone = h.alone };
  voided = λ R q x how h. record { acting = (acts t).voided R q x how h.acting; there = h.there; alone = h.alone };
  turns = λ R x h. record { acting = (acts t).turns R x h.acting; there = h.there; alone = h.alone };
  holds = λ R s x h. record { acting = (acts t).holds R s x h.acting; there = h.there; alone = h.alone };
}

-- who is to receive still is, when a reply object was paid
pub paid-receives : (R : Log) (t : ObjId) (s : Source) (q : ObjId) (message : Content) → IsReceivingFrom R t s → IsReceivingFrom (onto (pay q message R) R) t s
paid-receives R t (source.Endpoint at) q message h = outlasts-pay (λ R. IsReceiving R t at.endpoint at.reply) (receives t at.endpoint at.reply) q message R h
paid-receives R t (source.Notification n) q message h = outlasts-pay (λ R. IsWaiting R t n) (waits t n) q message R h
