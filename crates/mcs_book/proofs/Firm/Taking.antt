-- Signals, and messages that are taken, keep a log firm.
use Rattle.std.specs.Prelude.{ℕ, ◌<◌, ◌^◌, true, cond, ◌≡◌, ◌≢◌, ◌∷◌, Option, Some, None, refl}
use Rattle.std.proofs.Common.{sym, ◌∙◌, ap, inl, inr}
use Rattle.mcs_types.specs.declared.id.ObjId.{ObjId}
use Rattle.mcs_types.specs.declared.id.Badge.{Badge}
use Rattle.mcs_types.specs.declared.id.Kind.TheVariants as kind
use Rattle.mcs_types.specs.declared.record.Letter.{Letter}
use Rattle.mcs_types.specs.declared.record.Mode.TheVariants.{Running}
use Rattle.mcs_types.specs.declared.record.Queue.{Queue}
use Rattle.mcs_types.specs.declared.record.Queue.TheVariants.{Senders, Receivers, Waiters}
use Rattle.mcs_types.specs.declared.record.Rec.TheVariants as rec
use Rattle.mcs_types.specs.declared.record.SendMode.{SendMode}
use Rattle.mcs_types.specs.declared.record.SendMode.TheVariants as how
use Rattle.mcs_types.specs.Words.{with_badge}
use Rattle.mcs_book.specs.Logs.{Log, onto}
use Rattle.mcs_book.specs.Queues.{queue_of, reply_with, first_in}
use Rattle.mcs_book.specs.Messages.{is_open}
use Rattle.mcs_book.specs.Contexts.{context_of}
use Rattle.mcs_book.specs.Replies.{owed_by}
use Rattle.mcs_book.specs.Notifications.{bound_of, tied_to, pending}
use Rattle.mcs_book.specs.Growing.{growing_word}
use Rattle.mcs_book.specs.Pieces.{Piece, ◌then◌, nothing, say}
use Rattle.mcs_book.specs.Taking.{debt, owe, back_to, give_back, give, settle, handed, taken}
use Rattle.mcs_book.specs.Signalling.{queue_of_any, spare_at, wake, hearer, reach, signal}
use Rattle.mcs_book.specs.Fair.{TakesAlive, TakesFirst}
use Rattle.mcs_book.specs.Sound.{IsThere, IsIdle, IsFreeReply}
use Rattle.mcs_types.proofs.Ids.{same-self}
use Rattle.mcs_book.proofs.Queues.WordLaws.{pending-growing}
use Rattle.mcs_book.proofs.Queues.QueueLaws.{first-stands}
use Rattle.mcs_book.proofs.Queues.NoneBeside.{left-queue}
use Rattle.mcs_book.proofs.Threads.HoldingLaws.{context_of-holder}
use Rattle.mcs_book.proofs.Threads.UserLaws.{one_user}
use Rattle.mcs_book.proofs.SoundLogs.Keeping.{sent_record, then-next}
use Rattle.mcs_book.proofs.SoundLogs.KeptLaws.{set-split, set-other, standing-thread, reply-there, held-there, bound-one}
use Rattle.mcs_book.proofs.Firm.Laws.{Firm, firm-sound, context-none, tied-bound, waiter-bound, spare-there}
use Rattle.mcs_book.proofs.Firm.Cancel.{parted-idle}

-- a context that is there, if there is one, passes to a thread
firm-back : (s : Option ObjId) (x : ObjId) (R : Log) → ((c : ObjId) → s ≡ Some c → IsThere R kind.Context c) → IsThere R kind.Thread x → Firm R → Firm (onto (give_back s x R) R)
unfolding give_back
firm-back s x R there thread firm = go s there (context_of R x) refl
  where
    go : (s : Option ObjId) → ((c : ObjId) → s ≡ Some c → IsThere R kind.Context c) → (o : Option ObjId) → context_of R x ≡ o → Firm (onto (back_to x s o) R)
    go (Some c) f None none = (((f c refl, thread, context-none R x (firm-sound R firm) none), tt), firm)
    go (Some c) f (Some d) is = firm
    go None f o is = firm

-- the context of x passes to p
firm-give : (x p : ObjId) (R : Log) → IsThere R kind.Thread p → Firm R → Firm (onto (give x p R) R)
unfolding give
firm-give x p R taker firm = firm-back (context_of R x) p R (λ c is. (held-there R c x (firm-sound R firm) (context_of-holder R x c is)).0) taker firm

-- x hears the word that is pending, leaves its queue, and goes on
firm-wake : (R : Log) (n x : ObjId) (q : Queue) (word : ℕ) → queue_of R x ≡ Some q → pending R n ≡ Some word → ((u : ObjId) → bound_of R u ≡ Some n → u ≡ x) → Firm R → Firm (onto (wake n x q word R) R)
unfolding wake ◌then◌
firm-wake R n x q word at waits alone firm =
    let there : IsThere R kind.Thread x = standing-thread R x q (firm-sound R firm) at in
    let heard : Firm (rec.Heard x n word ∷ R) = (((there, waits, alone), tt), firm) in
    let woken : Log = rec.Turns x Running ∷ rec.Parts x q ∷ rec.Heard x n word ∷ R in
    let firm3 : Firm woken = (((there, parted-idle (rec.Heard x n word ∷ R) x q (firm-sound (rec.Heard x n word ∷ R) heard) at), tt), ((at, tt), heard)) in
    firm-back (spare_at R n) x woken (λ c is. spare-there R n c (firm-sound R firm) is) there firm3

-- the word is the badge, where none was pending
pub raised-word : (R : Log) (n : ObjId) (badge : Badge) → pending R n ≡ None → pending (rec.Raised n badge ∷ R) n ≡ Some badge.0
raised-word R n badge none =
    let before : growing_word R n ≡ None = sym (pending-growing R n) ∙ none in
    pending-growing (rec.Raised n badge ∷ R) n ∙ ap (λ b. cond b (Some (with_badge badge.0 (growing_word R n))) (growing_word R n)) (same-self n) ∙ ap (λ o. Some (with_badge badge.0 o)) before

-- a signal
pub firm-signal : (n : ObjId) (badge : Badge) (R : Log) → IsThere R kind.Notification n → badge.0 < 2 ^ 64 → Firm R → Firm (onto (signal n badge R) R)
unfolding signal
firm-signal n badge R there small firm = then-next Firm (say (rec.Raised n badge)) (reach R n badge.0 (pending R n)) R (go (pending R n) refl)
  where
    S : Log
    S = rec.Raised n badge ∷ R

    raised : Firm S
    raised = (((there, small), tt), firm)

    hears : (b : Option ObjId) → tied_to R n ≡ b → (q : Option Queue) → queue_of_any R b ≡ q → (w : Option ObjId) → ((x : ObjId) → w ≡ Some x → queue_of R x ≡ Some (Waiters n)) → pending R n ≡ None → Firm (onto (hearer n b q w badge.0 S) S)
    hears b tied q at w waits none = at_place b tied q at w waits
      where
        waiter : (x : ObjId) → queue_of R x ≡ Some (Waiters n) → Firm (onto (wake n x (Waiters n) badge.0 S) S)
        waiter x stands = firm-wake S n x (Waiters n) badge.0 stands (raised-word R n badge none) (λ u bound. waiter-bound R x n u firm stands bound) raised

        at_place : (b : Option ObjId) → tied_to R n ≡ b → (q : Option Queue) → queue_of_any R b ≡ q → (w : Option ObjId) → ((x : ObjId) → w ≡ Some x → queue_of R x ≡ Some (Waiters n)) → Firm (onto (hearer n b q w badge.0 S) S)
        at_place (Some x) tied (Some (Receivers e)) at w waits = firm-wake S n x (Receivers e) badge.0 at (raised-word R n badge none) (λ u bound. bound-one R u x n (firm-sound R firm) bound (tied-bound R n x tied)) raised
        at_place None tied q at (Some x) waits = waiter x (waits x refl)
        at_place None tied q at None waits = raised
        at_place (Some y) tied None at (Some x) waits = waiter x (waits x refl)
        at_place (Some y) tied None at None waits = raised
        at_place (Some y) tied (Some (Senders e)) at (Some x) waits = waiter x (waits x refl)
        at_place (Some y) tied (Some (Senders e)) at None waits = raised
        at_place (Some y) tied (Some (Waiters e)) at (Some x) waits = waiter x (waits x refl)
        at_place (Some y) tied (Some (Waiters e)) at None waits = raised

    go : (o : Option ℕ) → pending R n ≡ o → Firm (onto (reach R n badge.0 o S) S)
    go (Some old) is = raised
    go None is = hears (tied_to R n) refl (queue_of_any R (tied_to R n)) refl (first_in R (Waiters n)) (λ x first. first-stands R (Waiters n) x first) is

-- a free reply object that is there comes to owe an idle thread, with the contexts that the two
-- hold
firm-owe : (r x p : ObjId) (R : Log) → IsThere R kind.Reply r → IsFreeReply R r → IsThere R kind.Thread x → IsIdle R x → IsThere R kind.Thread p → Firm R → Firm (onto (owe r x p R) R)
unfolding owe
firm-owe r x p R there free caller idle taker firm = go (context_of R p) refl (context_of R x) refl
  where
    plain : Firm (rec.Owes r x None ∷ R)
    plain = (((there, free, caller, idle, tt), tt), firm)

    go : (c : Option ObjId) → context_of R p ≡ c → (d : Option ObjId) → context_of R x ≡ d → Firm (onto (debt r x p c d) R)
    go None none (Some s) is =
        let held = context_of-holder R x s is in
        ((((held-there R s x (firm-sound R firm) held).0, taker, context-none R p (firm-sound R firm) none), tt), (((there, free, caller, idle, held), tt), firm))
    go None none None is = plain
    go (Some s) is None k = plain
    go (Some s) is (Some d) k = plain

-- what becomes of an idle sender
firm-settle : (mode : SendMode) (x p : ObjId) (r : Option ObjId) (goes_on : Piece) (R : Log) → IsThere R kind.Thread x → IsIdle R x → IsThere R kind.Thread p → ((d : ObjId) → r ≡ Some d → IsThere R kind.Reply d × IsFreeReply R d)
    → Firm (onto (goes_on R) R) → Firm R → Firm (onto (settle mode x p r goes_on R) R)
firm-settle how.Plain x p r goes_on R caller idle taker free on firm = on
firm-settle how.Call x p (Some r) goes_on R caller idle taker free on firm = let f = free r refl in firm-owe r x p R f.0 f.1 caller idle taker firm
firm-settle how.Call x p None goes_on R caller idle taker free on firm = (((caller, idle), tt), firm)
firm-settle how.Mute x p r goes_on R caller idle taker free on firm = (((caller, idle), tt), firm)
firm-settle how.Give x p r goes_on R caller idle taker free on firm = firm-give x p R taker firm

-- p is idle, and there
pub record IsReady (p : ObjId) (R : Log) : Type 0 where
  pub there : IsThere R kind.Thread p
  pub idle : IsIdle R p

-- it stays so while it takes the message of another
pub settle-ready : (mode : SendMode) (x p : ObjId) (r : Option ObjId) (R : Log) → x ≢ p → IsReady p R → IsReady p (onto (settle mode x p r nothing R) R)
unfolding owe give give_back
settle-ready how.Plain x p r R ne h = h
settle-ready how.Give x p r R ne h = go (context_of R x) (context_of R p)
  where
    go : (c d : Option ObjId) → IsReady p (onto (back_to p c d) R)
    go (Some s) None = record { there = h.there; idle = h.idle }
    go (Some s) (Some d) = h
    go None d = h
settle-ready how.Call x p None R ne h = record { there = h.there; idle = h.idle }
settle-ready how.Mute x p r R ne h = record { there = h.there; idle = h.idle }
settle-ready how.Call x p (Some r) R ne h = go (context_of R p) (context_of R x)
  where
    owed_none : (c : Option ObjId) (d : ObjId) → owed_by (rec.Owes r x c ∷ R) d ≢ Some p
    owed_none c d o = elim (set-split d r (Some x) (owed_by R d) (Some p) o) [ inl (who, is) ↦ (let it : x ≡ p = cc in ne it) | inr (other, is) ↦ h.idle.1 d is ]

    go : (c d : Option ObjId) → IsReady p (onto (debt r x p c d) R)
    go None (Some s) = record { there = h.there; idle = (h.idle.0, owed_none (Some s)) }
    go None None = record { there = h.there; idle = (h.idle.0, owed_none None) }
    go (Some s) None = record { there = h.there; idle = (h.idle.0, owed_none None) }
    go (Some s) (Some d) = record { there = h.there; idle = (h.idle.0, owed_none None) }

-- a message just sent is handed over to p, who is in its queue for it
pub firm-handed : (R : Log) (s : Letter) (p : ObjId) → is_open R s.number ≡ true → TakesAlive R (rec.Took s.number p) → TakesFirst R (rec.Took s.number p) → queue_of R p ≡ Some (Receivers s.endpoint)
    → IsThere R kind.Thread s.sender → IsIdle R s.sender → Firm R → Firm (onto (handed s p R) R)
unfolding handed
firm-handed R s p unsettled alive first at there idle firm = then-next Firm (took then parted then settling) (say (rec.Turns p Running)) R (ends _ (then-next Both (took then parted) settling R (then-next Rest took parted R settled)))
  where
    took : Piece
    took = say (rec.Took s.number p)

    parted : Piece
    parted = say (rec.Parts p (Receivers s.endpoint))

    settling : Piece
    settling = settle s.mode s.sender p (reply_with R p) nothing

    U : Log
    U = rec.Parts p (Receivers s.endpoint) ∷ rec.Took s.number p ∷ R

    taker : IsThere R kind.Thread p
    taker = standing-thread R p (Receivers s.endpoint) (firm-sound R firm) at

    firm1 : Firm (rec.Took s.number p ∷ R)
    firm1 = (((taker, unsettled), (alive, first)), firm)

    firm2 : Firm U
    firm2 = ((at, tt), firm1)

    -- the sender is nowhere, and so is another
    other : s.sender ≢ p
    other is = let no : None ≡ Some (Receivers s.endpoint) = sym idle.0 ∙ ap (λ z. queue_of R z) is ∙ at in absurd cc

    -- it stays idle while p leaves its queue
    sender_idle : IsIdle U s.sender
    sender_idle = (set-other s.sender p None (queue_of R s.sender) other ∙ idle.0, idle.1)

    ready : IsReady p U
    ready = record { there = taker; idle = parted-idle (rec.Took s.number p ∷ R) p (Receivers s.endpoint) (firm-sound (rec.Took s.number p ∷ R) firm1) at }

    -- the reply object with which p was is free
    free : (d : ObjId) → reply_with R p ≡ Some d → IsThere U kind.Reply d × IsFreeReply U d
    free d named =
        let f : IsThere R kind.Reply d × (owed_by R d ≡ None) = reply-there R p s.endpoint d (firm-sound R firm) at named in
        (f.0, (f.1, λ y e at' with'. let (ne, still) = left-queue R p y (Receivers s.endpoint) (Receivers e) at' in ne (one_user R y p e s.endpoint d (firm-sound R firm) still with' at named)))

    Both : Log → Type 0
    Both R' = Firm R' × IsReady p R'

    Rest : Log → Type 0
    Rest R' = Both (onto (settling R') R')

    settled : Rest U
    settled = (firm-settle s.mode s.sender p (reply_with R p) nothing U there sender_idle taker free firm2 firm2, settle-ready s.mode s.sender p (reply_with R p) U other ready)

    ends : (R' : Log) → Both R' → Firm (rec.Turns p Running ∷ R')
    ends R' h = (((h.1.there, h.1.idle), tt), h.0)

-- the message of a sender who is in its queue is taken by t, who receives with a free reply object,
-- or with none
pub firm-taken : (R : Log) (s : Letter) (t : ObjId) (r : Option ObjId) → is_open R s.number ≡ true → TakesAlive R (rec.Took s.number t) → TakesFirst R (rec.Took s.number t) → queue_of R s.sender ≡ Some (Senders s.endpoint)
    → IsThere R kind.Thread t → ((d : ObjId) → r ≡ Some d → IsThere R kind.Reply d × IsFreeReply R d) → Firm R → Firm (onto (taken s t r R) R)
unfolding taken
firm-taken R s t r unsettled alive first at taker free firm = then-next Firm (took then parted) settling R (then-next (λ R'. Firm (onto (settling R') R')) took parted R settled)
  where
    took : Piece
    took = say (rec.Took s.number t)

    parted : Piece
    parted = say (rec.Parts s.sender (Senders s.endpoint))

    settling : Piece
    settling = settle s.mode s.sender t r (say (rec.Turns s.sender Running))

    U : Log
    U = rec.Parts s.sender (Senders s.endpoint) ∷ rec.Took s.number t ∷ R

    there : IsThere R kind.Thread s.sender
    there = standing-thread R s.sender (Senders s.endpoint) (firm-sound R firm) at

    firm1 : Firm (rec.Took s.number t ∷ R)
    firm1 = (((taker, unsettled), (alive, first)), firm)

    firm2 : Firm U
    firm2 = ((at, tt), firm1)

    idle : IsIdle U s.sender
    idle = parted-idle (rec.Took s.number t ∷ R) s.sender (Senders s.endpoint) (firm-sound (rec.Took s.number t ∷ R) firm1) at

    settled : Firm (onto (settling U) U)
    settled = firm-settle s.mode s.sender t r (say (rec.Turns s.sender Running)) U there idle taker
        (λ d is. let f : IsThere R kind.Reply d × IsFreeReply R d = free d is in (f.0, (f.1.0, λ y e at' with'. f.1.1 y e ((left-queue R s.sender y (Senders s.endpoint) (Receivers e) at').1) with')))
        (((there, idle), tt), firm2) firm2

-- what the records of a signal leave as it is, and those of a message that is sent with its
-- sender's context and handed over
pub record OutlastsSend (F : Log → Type 0) : Type 0 where
  pub raised : (R : Log) (n : ObjId) (badge : Badge) → F R → F (rec.Raised n badge ∷ R)
  pub heard : (R : Log) (x n : ObjId) (word : ℕ) → F R → F (rec.Heard x n word ∷ R)
  pub parts : (R : Log) (x : ObjId) (q : Queue) → F R → F (rec.Parts x q ∷ R)
  pub turns : (R : Log) (x : ObjId) → F R → F (rec.Turns x Running ∷ R)
  pub holds : (R : Log) (s x : ObjId) → F R → F (rec.Holds s (Some x) ∷ R)
  pub sends : (R : Log) (s : Letter) → F R → F (sent_record s ∷ R)
  pub took : (R : Log) (m : ℕ) (p : ObjId) → F R → F (rec.Took m p ∷ R)

-- what outlasts them
module _ (F : Log → Type 0) (f : OutlastsSend F) where
  -- a context passes to x
  outlasts-back : (s : Option ObjId) (x : ObjId) (R : Log) → F R → F (onto (give_back s x R) R)
  unfolding give_back
  outlasts-back s x R h = go s (context_of R x)
    where
      go : (s o : Option ObjId) → F (onto (back_to x s o) R)
      go (Some c) None = f.holds R c x h
      go (Some c) (Some d) = h
      go None o = h

  -- x wakes
  outlasts-wake : (n x : ObjId) (q : Queue) (word : ℕ) (R : Log) → F R → F (onto (wake n x q word R) R)
  unfolding wake ◌then◌
  outlasts-wake n x q word R h = outlasts-back (spare_at R n) x (rec.Turns x Running ∷ rec.Parts x q ∷ rec.Heard x n word ∷ R) (f.turns _ x (f.parts _ x q (f.heard R x n word h)))

  -- a word reaches somebody
  outlasts-hearer : (n : ObjId) (b : Option ObjId) (q : Option Queue) (w : Option ObjId) (word : ℕ) (R : Log) → F R → F (onto (hearer n b q w word R) R)
  outlasts-hearer n (Some x) (Some (Receivers e)) w word R h = outlasts-wake n x (Receivers e) word R h
  outlasts-hearer n None q (Some x) word R h = outlasts-wake n x (Waiters n) word R h
  outlasts-hearer n None q None word R h = h
  outlasts-hearer n (Some y) None (Some x) word R h = outlasts-wake n x (Waiters n) word R h
  outlasts-hearer n (Some y) None None word R h = h
  outlasts-hearer n (Some y) (Some (Senders e)) (Some x) word R h = outlasts-wake n x (Waiters n) word R h
  outlasts-hearer n (Some y) (Some (Senders e)) None word R h = h
  outlasts-hearer n (Some y) (Some (Waiters e)) (Some x) word R h = outlasts-wake n x (Waiters n) word R h
  outlasts-hearer n (Some y) (Some (Waiters e)) None word R h = h

  -- a signal
  pub outlasts-signal : (n : ObjId) (badge : Badge) (R : Log) → F R → F (onto (signal n badge R) R)
  unfolding signal
  outlasts-signal n badge R h = then-next F (say (rec.Raised n badge)) (reach R n badge.0 (pending R n)) R (go (pending R n))
    where
      go : (o : Option ℕ) → F (onto (reach R n badge.0 o (rec.Raised n badge ∷ R)) (rec.Raised n badge ∷ R))
      go (Some old) = f.raised R n badge h
      go None = outlasts-hearer n (tied_to R n) (queue_of_any R (tied_to R n)) (first_in R (Waiters n)) badge.0 (rec.Raised n badge ∷ R) (f.raised R n badge h)

  -- a message is handed over with its sender's context
  pub outlasts-handed : (s : Letter) (p : ObjId) (R : Log) → s.mode ≡ how.Give → F R → F (onto (handed s p R) R)
  unfolding handed ◌then◌ give
  outlasts-handed s p R gives h =
      let U : Log = rec.Parts p (Receivers s.endpoint) ∷ rec.Took s.number p ∷ R in
      then-next F (say (rec.Took s.number p) then say (rec.Parts p (Receivers s.endpoint)) then settle s.mode s.sender p (reply_with R p) nothing) (say (rec.Turns p Running)) R
      (f.turns _ p (then-next F (say (rec.Took s.number p) then say (rec.Parts p (Receivers s.endpoint))) (settle s.mode s.sender p (reply_with R p) nothing) R (go U s.mode gives (f.parts _ p (Receivers s.endpoint) (f.took R s.number p h)))))
    where
      go : (U : Log) (mode : SendMode) → mode ≡ how.Give → F U → F (onto (settle mode s.sender p (reply_with R p) nothing U) U)
      go U how.Give is k = outlasts-back (context_of U s.sender) p U k
      go U how.Plain is k = absurd cc
      go U how.Call is k = absurd cc
      go U how.Mute is k = absurd cc
