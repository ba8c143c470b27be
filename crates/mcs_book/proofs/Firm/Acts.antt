-- The entering thread while it acts: it runs and is blocked on nothing, while others are answered
-- and cancelled.
use Rattle.std.specs.Prelude.{◌<◌, ◌^◌, Bool, true, false, ◌≡◌, ◌≢◌, ◌⊎◌, List, [], ◌∷◌, Option, Some, None, refl, unwrap_or}
use Rattle.std.specs.Option.{option_or}
use Rattle.std.proofs.Common.{sym, ◌∙◌, ap, inl, inr, subst}
use Rattle.mcs_types.specs.Views.{Content}
use Rattle.mcs_types.specs.declared.id.ObjId.{ObjId}
use Rattle.mcs_types.specs.declared.id.Kind.TheVariants as kind
use Rattle.mcs_types.specs.declared.record.Mode.{Mode}
use Rattle.mcs_types.specs.declared.record.Mode.TheVariants.{Running, Inactive}
use Rattle.mcs_types.specs.declared.record.Queue.{Queue}
use Rattle.mcs_types.specs.declared.record.Queue.TheVariants.{Receivers}
use Rattle.mcs_types.specs.Ids.{same}
use Rattle.mcs_book.specs.Logs.{Log, onto, given}
use Rattle.mcs_book.specs.Objects.{is_alive}
use Rattle.mcs_book.specs.Threads.{mode_of}
use Rattle.mcs_types.specs.Chains.{head_of}
use Rattle.mcs_book.specs.Queues.{queue_of, is_ahead, queued_in, first_in}
use Rattle.mcs_book.specs.Replies.{owed_by, receiver_with}
use Rattle.mcs_book.specs.Notifications.{bound_of}
use Rattle.mcs_book.specs.Pieces.{with_any}
use Rattle.mcs_book.specs.Taking.{pay}
use Rattle.mcs_book.specs.Cancelling.{cancel}
use Rattle.mcs_book.specs.Receiving.{free}
use Rattle.mcs_book.specs.Fair.{IsFirst}
use Rattle.mcs_book.specs.Sound.{Sound, IsThere, IsIdle, IsUnattended, IsFreeReply}
use Rattle.mcs_book.proofs.Queues.Sorted.{In, Sorted, ahead-in}
use Rattle.mcs_book.proofs.Queues.QueueLaws.{queued_in-growing, line-sorted, first-stands}
use Rattle.mcs_book.proofs.Queues.NoneBeside.{left-queue}
use Rattle.mcs_book.proofs.Threads.UserLaws.{receiver_with-named, unattended-none}
use Rattle.mcs_book.proofs.Messages.SendersOpen.{Idle, idle-steps}
use Rattle.mcs_book.proofs.SoundLogs.Keeping.{keeps-cancel, keeps-pay, keeps-signal}
use Rattle.mcs_book.proofs.SoundLogs.KeptLaws.{set-split, set-other, set-kept, never-both, standing-thread, owed-there, owed-unattended}
use Rattle.mcs_book.proofs.Firm.Laws.{Firm, firm-sound}
use Rattle.mcs_book.proofs.Firm.Cancel.{IsLeft, cancelled, Outlasts, outlasts-cancel, line-in}
use Rattle.mcs_book.proofs.Firm.Ends.{OutlastsEnding, firm-pay, outlasts-pay, unattended-left}
use Rattle.mcs_book.proofs.Firm.Taking.{OutlastsSend, outlasts-signal, firm-signal}
use Rattle.mcs_book.specs.Signalling.{signal}
use Rattle.mcs_types.specs.declared.id.Badge.{Badge}

-- the first of a queue is the head of its order
pub first-is : (R : Log) (q : Queue) (x : ObjId) → Sound R → first_in R q ≡ Some x → IsFirst R q x
unfolding first_in
first-is R q x sound first = (first-stands R q x first, λ u at ne. go (queued_in R q) sorted first (line-in R q u sound at) ne)
  where
    sorted : Sorted (is_ahead R) (queued_in R q)
    sorted = subst (λ (xs : List ObjId). Sorted (is_ahead R) xs) (sym (queued_in-growing R q sound)) (line-sorted R q sound)

    go : (xs : List ObjId) → Sorted (is_ahead R) xs → head_of xs ≡ Some x → {u : ObjId} → In u xs → u ≢ x → is_ahead R x u ≡ true
    go [] s h i ne = absurd i
    go (y ∷ ys) s h {u = u} (inl e) ne = let it : y ≡ x = cc in absurd (ne (e ∙ it))
    go (y ∷ ys) s h {u = u} (inr i) ne = let it : y ≡ x = cc in subst (λ (z : ObjId). is_ahead R z u ≡ true) it (ahead-in (is_ahead R) y ys u s.0 i)

-- who is owed by d, or no thread, after some debt is void
still : (b : Bool) (o : Option ObjId) (x : ObjId) → (o ≡ Some x) ⊎ (o ≡ None) → (unwrap_or (given b None) o ≡ Some x) ⊎ (unwrap_or (given b None) o ≡ None)
still true o x h = inr refl
still false o x h = h

-- a reply object with which no thread is queued stays so while another is cancelled
unattended-cancel : (d x : ObjId) → Outlasts x Inactive (λ R. IsUnattended R d)
unattended-cancel d x = record { dropped = λ R m h. h; parts = λ R q h y e at with. h y e ((left-queue R x y q (Receivers e) at).1) with; voided = λ R r h. h; turns = λ R h. h }

-- the entering thread t is there, runs, and is blocked on nothing
pub record Apart (t : ObjId) (R : Log) : Type 0 where
  pub there : IsThere R kind.Thread t
  pub idle : IsIdle R t
  pub running : mode_of R t ≡ Running

-- the same in a firm log, where those who are among senders are those with an open message
pub record Acting (t : ObjId) (R : Log) : Type 0 where
  pub firm : Firm R
  pub there : IsThere R kind.Thread t
  pub idle : IsIdle R t
  pub running : mode_of R t ≡ Running
  pub calm : Idle t R

-- who is there in one log is there in a later one, and the bindings are the same
pub record Since (R W : Log) : Type 0 where
  pub alive : (o : ObjId) → is_alive R o ≡ true → is_alive W o ≡ true
  pub bound : (x : ObjId) → bound_of W x ≡ bound_of R x

-- that outlasts a cancellation
since-cancel : (S : Log) (x : ObjId) (mode : Mode) → Outlasts x mode (Since S)
since-cancel S x mode = record {
  dropped = λ R m h. record { alive = h.alive; bound = h.bound };
  parts = λ R q h. record { alive = h.alive; bound = h.bound };
  voided = λ R r h. record { alive = h.alive; bound = h.bound };
  turns = λ R h. record { alive = h.alive; bound = h.bound };
}

-- and an answer
pub since-ending : (S : Log) → OutlastsEnding Running (Since S)
since-ending S = record {
  paid = λ R r x message h. record { alive = h.alive; bound = h.bound };
  voided = λ R r x how h. record { alive = h.alive; bound = h.bound };
  turns = λ R x h. record { alive = h.alive; bound = h.bound };
  holds = λ R s x h. record { alive = h.alive; bound = h.bound };
}

-- and a signal, and a message that is handed over
pub since-send : (S : Log) → OutlastsSend (Since S)
since-send S = record {
  raised = λ R n badge h. record { alive = h.alive; bound = h.bound };
  heard = λ R x n word h. record { alive = h.alive; bound = h.bound };
  parts = λ R x q h. record { alive = h.alive; bound = h.bound };
  turns = λ R x h. record { alive = h.alive; bound = h.bound };
  holds = λ R s x h. record { alive = h.alive; bound = h.bound };
  sends = λ R s h. record { alive = h.alive; bound = h.bound };
  took = λ R m p h. record { alive = h.alive; bound = h.bound };
}

module _ (t : ObjId) where
  -- t is as it was after another is cancelled
  apart-cancel : (x : ObjId) (mode : Mode) → t ≢ x → Outlasts x mode (Apart t)
  apart-cancel x mode ne = record {
    dropped = λ R m h. record { there = h.there; idle = h.idle; running = h.running };
    parts = λ R q h. record { there = h.there; idle = (set-kept (same t x) None (queue_of R t) h.idle.0, h.idle.1); running = h.running };
    voided = λ R r h. record { there = h.there; idle = (h.idle.0, λ d o. elim (set-split d r None (owed_by R d) (Some t) o) [ inl (who, is) ↦ absurd cc | inr (other, is) ↦ h.idle.1 d is ]); running = h.running };
    turns = λ R h. record { there = h.there; idle = h.idle; running = set-other t x mode (mode_of R t) ne ∙ h.running };
  }

  -- and after an answer
  apart-ending : OutlastsEnding Running (Apart t)
  apart-ending = record {
    paid = λ R r x message h. record { there = h.there; idle = (h.idle.0, λ d o. elim (set-split d r None (owed_by R d) (Some t) o) [ inl (who, is) ↦ absurd cc | inr (other, is) ↦ h.idle.1 d is ]); running = h.running };
    voided = λ R r x how h. record { there = h.there; idle = (h.idle.0, λ d o. elim (set-split d r None (owed_by R d) (Some t) o) [ inl (who, is) ↦ absurd cc | inr (other, is) ↦ h.idle.1 d is ]); running = h.running };
    turns = λ R x h. record { there = h.there; idle = h.idle; running = set-kept (same t x) Running (mode_of R t) h.running };
    holds = λ R s x h. record { there = h.there; idle = h.idle; running = h.running };
  }

  -- and after a signal, or a message that is handed over
  pub apart-send : OutlastsSend (Apart t)
  apart-send = record {
    raised = λ R n badge h. record { there = h.there; idle = h.idle; running = h.running };
    heard = λ R x n word h. record { there = h.there; idle = h.idle; running = h.running };
    parts = λ R x q h. record { there = h.there; idle = (set-kept (same t x) None (queue_of R t) h.idle.0, h.idle.1); running = h.running };
    turns = λ R x h. record { there = h.there; idle = h.idle; running = set-kept (same t x) Running (mode_of R t) h.running };
    holds = λ R s x h. record { there = h.there; idle = h.idle; running = h.running };
    sends = λ R s h. record { there = h.there; idle = h.idle; running = h.running };
    took = λ R m p h. record { there = h.there; idle = h.idle; running = h.running };
  }

  -- what is known of t beside the messages
  pub apart : (R : Log) → Acting t R → Apart t R
  apart R h = record { there = h.there; idle = h.idle; running = h.running }

  -- another is cancelled
  acting-cancel : (R : Log) (x : ObjId) → t ≢ x → IsThere R kind.Thread x → Acting t R → Acting t (onto (cancel x Inactive R) R)
  acting-cancel R x ne there h =
      let a : Apart t (onto (cancel x Inactive R) R) = outlasts-cancel (Apart t) x Inactive (apart-cancel x Inactive ne) R (apart R h) in
      record { firm = (cancelled x Inactive R there h.firm).firm; there = a.there; idle = a.idle; running = a.running; calm = keeps-cancel (Idle t) (idle-steps t) x Inactive R h.calm }

  -- a caller is answered
  pub acting-pay : (R : Log) (r : ObjId) (message : Content) → Acting t R → Acting t (onto (pay r message R) R)
  acting-pay R r message h =
      let a : Apart t (onto (pay r message R) R) = outlasts-pay (Apart t) apart-ending r message R (apart R h) in
      record { firm = firm-pay r message R h.firm; there = a.there; idle = a.idle; running = a.running; calm = keeps-pay (Idle t) (idle-steps t) r message R h.calm }

  -- a notification is signalled
  pub acting-signal : (R : Log) (n : ObjId) (badge : Badge) → IsThere R kind.Notification n → badge.0 < 2 ^ 64 → Acting t R → Acting t (onto (signal n badge R) R)
  acting-signal R n badge there small h =
      let a : Apart t (onto (signal n badge R) R) = outlasts-signal (Apart t) apart-send n badge R (apart R h) in
      record { firm = firm-signal n badge R there small h.firm; there = a.there; idle = a.idle; running = a.running; calm = keeps-signal (Idle t) (idle-steps t) n badge R h.calm }

  -- who uses a reply object is a thread that is there, and another than t
  record IsOther (R : Log) (x : ObjId) : Type 0 where
    other : t ≢ x
    there : IsThere R kind.Thread x

  -- whom it owes
  owed-other : (R : Log) (d x : ObjId) → Acting t R → owed_by R d ≡ Some x → IsOther R x
  owed-other R d x h owed = record { other = λ is. h.idle.1 d (owed ∙ ap (λ z. Some z) (sym is)); there = (owed-there R d x (firm-sound R h.firm) owed).1 }

  -- who is queued with it
  standing-other : (R : Log) (x : ObjId) (q : Queue) → Acting t R → queue_of R x ≡ Some q → IsOther R x
  standing-other R x q h at = record { other = λ is. never-both (queue_of R x) q at (ap (λ z. queue_of R z) (sym is) ∙ h.idle.0); there = standing-thread R x q (firm-sound R h.firm) at }

  -- a reply object that is freed has no user, and t acts as before
  pub record IsFreed (S : Log) (d : ObjId) (R : Log) : Type 0 where
    pub acting : Acting t R
    pub since : Since S R
    pub unused : IsFreeReply R d

  -- its user is cancelled
  pub freed : (S R : Log) (d : ObjId) → Since S R → Acting t R → IsFreed S d (onto (free d R) R)
  unfolding free
  freed S R d since h = go (owed_by R d) refl (receiver_with R d) refl
    where
      sound : Sound R
      sound = firm-sound R h.firm

      by : Option ObjId → Option ObjId → Log
      by o w = onto (with_any (option_or o w) (λ x. cancel x Inactive) R) R

      go : (o : Option ObjId) → owed_by R d ≡ o → (w : Option ObjId) → receiver_with R d ≡ w → IsFreed S d (by o w)
      go (Some x) is w found =
          let o : IsOther R x = owed-other R d x h is in
          let l : IsLeft x (onto (cancel x Inactive R) R) = cancelled x Inactive R o.there h.firm in
          let F : Log → Type 0 = λ R'. (owed_by R' d ≡ Some x) ⊎ (owed_by R' d ≡ None) in
          let owes : F (onto (cancel x Inactive R) R) = outlasts-cancel F x Inactive (record {
            dropped = λ R m k. k;
            parts = λ R q k. k;
            voided = λ R r k. still (same d r) (owed_by R d) x k;
            turns = λ R k. k;
          }) R (inl is) in
          record {
            acting = acting-cancel R x o.other o.there h;
            since = outlasts-cancel (Since S) x Inactive (since-cancel S x Inactive) R since;
            unused = (elim owes [ inl k ↦ absurd (l.idle.1 d k) | inr k ↦ k ], outlasts-cancel (λ R'. IsUnattended R' d) x Inactive (unattended-cancel d x) R (owed-unattended R d x sound is));
          }
      go None is None found = record { acting = h; since = since; unused = (is, unattended-none R d sound found) }
      go None is (Some x) found =
          let ((e, at), with) = receiver_with-named R d x found in
          let o : IsOther R x = standing-other R x (Receivers e) h at in
          let l : IsLeft x (onto (cancel x Inactive R) R) = cancelled x Inactive R o.there h.firm in
          record {
            acting = acting-cancel R x o.other o.there h;
            since = outlasts-cancel (Since S) x Inactive (since-cancel S x Inactive) R since;
            unused = (
              outlasts-cancel (λ R'. owed_by R' d ≡ None) x Inactive (record { dropped = λ R m k. k; parts = λ R q k. k; voided = λ R r k. set-kept (same d r) None (owed_by R d) k; turns = λ R k. k }) R is,
              unattended-left R d x e h.firm at with,
            );
          }
