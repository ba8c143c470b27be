-- Entries have the same answer and the same records on alike logs.
use Rattle.std.specs.Prelude.{ℕ, ◌≡◌, ◌++◌, Bool, true, false, [], ◌∷◌, Option, Some, None, Ok, Err}
use Rattle.std.proofs.Common.{refl, ap, sym, ◌∙◌, subst}
use Rattle.mcs_types.specs.Views.{Content}
use Rattle.mcs_types.specs.declared.id.ObjId.{ObjId}
use Rattle.mcs_types.specs.declared.id.CoreId.{CoreId}
use Rattle.mcs_types.specs.declared.id.Badge.{Badge}
use Rattle.mcs_types.specs.declared.id.Kind.TheVariants as kind
use Rattle.mcs_types.specs.declared.cap.Cap.{Cap}
use Rattle.mcs_types.specs.declared.record.Letter.{Letter}
use Rattle.mcs_types.specs.declared.record.Mode.{Mode}
use Rattle.mcs_types.specs.declared.record.Mode.TheVariants.{Running, Restart, Inactive}
use Rattle.mcs_types.specs.declared.record.SendMode.{SendMode}
use Rattle.mcs_types.specs.declared.record.SendMode.TheVariants as how
use Rattle.mcs_types.specs.declared.record.Queue.{Queue}
use Rattle.mcs_types.specs.declared.record.Queue.TheVariants.{Senders, Receivers, Waiters}
use Rattle.mcs_types.specs.declared.record.Rec.TheVariants as rec
use Rattle.mcs_types.specs.declared.entry.Answer.{Answer}
use Rattle.mcs_types.specs.declared.entry.Answer.TheVariants as answer
use Rattle.mcs_types.specs.declared.entry.Entry.{Entry}
use Rattle.mcs_book.specs.Logs.{Log, onto}
use Rattle.mcs_book.specs.Threads.{mode_of}
use Rattle.mcs_book.specs.Queues.{queue_of, first_in, reply_with}
use Rattle.mcs_book.specs.Contexts.{context_of}
use Rattle.mcs_book.specs.Replies.{owed_by}
use Rattle.mcs_book.specs.Chains.{topped_by}
use Rattle.mcs_book.specs.Notifications.{tied_to, pending}
use Rattle.mcs_book.specs.Checks.{Checked}
use Rattle.mcs_book.specs.Pieces.{Piece, ◌then◌, nothing, say, with_any, Act, before}
use Rattle.mcs_book.specs.Taking.{debt, owe, settle, handed, give_back, give, pay}
use Rattle.mcs_book.specs.Sending.{letter_over, sent, sends_to, sends}
use Rattle.mcs_book.specs.Signalling.{spare_at, wake, hearer, reach, queue_of_any, signal}
use Rattle.mcs_book.specs.Cancelling.{let_go}
use Rattle.mcs_book.specs.Receiving.{if_at_home, go_home, stand, joins_or, hear, wait_on}
use Rattle.mcs_book.specs.Table.{row, wakes, outcome_of, does}
use Rattle.mcs_book.specs.Messages.{next_message}
use Rattle.mcs_book.specs.Sound.{Sound, IsThere}
use Rattle.mcs_book.proofs.SoundLogs.Keeping.{sent_record}
use Rattle.mcs_explore_equivalence.specs.ButNumbers.{AlikeButNumbers, AreOf}
use Rattle.mcs_explore_equivalence.proofs.Settled.{sent-of}
use Rattle.mcs_explore_equivalence.proofs.Adding.{sound-before}
use Rattle.mcs_explore_equivalence.proofs.Asking.{first-same, pending-same, context-same, tied-same, topped-same, spare-same, at-home-same}
use Rattle.mcs_explore_equivalence.proofs.Ending.{give_back-respects}
use Rattle.mcs_explore_equivalence.proofs.Acting.{Agree, AgreeAct, Respects, RespectsAct, MatchOut, say-respects, nothing-respects, then-respects, with_any-respects, then-agree, then-agrees, asking-respects, answers-agree, answers-respects, asking-act, before-respects}

-- a debt, with what the two threads hold
pub owe-respects : (r x p : ObjId) → Respects (owe r x p)
unfolding owe
owe-respects r x p = asking-respects (λ R. context_of R p) (λ c R. debt r x p c (context_of R x)) (λ R S a. context-same R S a p) (λ c. asking-respects (λ R. context_of R x) (λ d R. debt r x p c d) (λ R S a. context-same R S a x) (λ d. go c d))
  where
    go : (c d : Option ObjId) → Respects (λ R. debt r x p c d)
    go None (Some s) = record { on = λ R S a h k. (refl, (refl, tt)) }
    go None None = say-respects (rec.Owes r x None) refl
    go (Some c) d = say-respects (rec.Owes r x None) refl

-- the context of x passes to p
give-respects : (x p : ObjId) → Respects (give x p)
unfolding give
give-respects x p = asking-respects (λ R. context_of R x) (λ c. give_back c p) (λ R S a. context-same R S a x) (λ c. give_back-respects c p)

pub settle-respects : (m : SendMode) (x p : ObjId) (r : Option ObjId) (goes_on : Piece) → Respects goes_on → Respects (settle m x p r goes_on)
settle-respects how.Plain x p r goes_on h = h
settle-respects how.Call x p (Some r) goes_on h = owe-respects r x p
settle-respects how.Call x p None goes_on h = say-respects (rec.Turns x Inactive) refl
settle-respects how.Mute x p r goes_on h = say-respects (rec.Turns x Inactive) refl
settle-respects how.Give x p r goes_on h = give-respects x p

-- the messages of one thread are taken
pub took-agrees : (m n : ℕ) (p : ObjId) (R S : Log) → AreOf R S m n → Agree R S (say (rec.Took m p)) (say (rec.Took n p))
took-agrees m n p R S of h k = ((n, (refl, of)), tt)

-- a message that was just sent is taken, with the reply object of its receiver
abbrev hands : Letter → ObjId → Option ObjId → Piece
hands s p r = say (rec.Took s.number p) then say (rec.Parts p (Receivers s.endpoint)) then settle s.mode s.sender p r nothing then say (rec.Turns p Running)

-- the same letter with another number
abbrev pub numbered : Letter → ℕ → Letter
numbered s n = record { number = n; sender = s.sender; endpoint = s.endpoint; mode = s.mode; badge = s.badge; message = s.message }

hands-agree : (s : Letter) (n : ℕ) (p : ObjId) (r : Option ObjId) (R S : Log) → AlikeButNumbers R S → AreOf R S s.number n → Agree R S (hands s p r) (hands (numbered s n) p r)
hands-agree s n p r R S a of =
    then-agrees (took s.number then parts then settles) (took n then parts then settles) (say (rec.Turns p Running)) R S a
    (then-agrees (took s.number then parts) (took n then parts) settles R S a
    (then-agrees (took s.number) (took n) parts R S a (took-agrees s.number n p R S of) (say-respects _ refl))
    (settle-respects s.mode s.sender p r nothing nothing-respects)) (say-respects _ refl)
  where
    took : ℕ → Piece
    took m = say (rec.Took m p)

    parts : Piece
    parts = say (rec.Parts p (Receivers s.endpoint))

    settles : Piece
    settles = settle s.mode s.sender p r nothing

-- the receiver was in the queue
stood : (s : Letter) (p : ObjId) (r : Option ObjId) (R : Log) → Sound (onto (hands s p r R) R) → queue_of R p ≡ Some (Receivers s.endpoint)
unfolding ◌then◌
stood s p r R h = (sound-before (settle s.mode s.sender p r nothing (rec.Parts p (Receivers s.endpoint) ∷ rec.Took s.number p ∷ R) ++ rec.Turns p Running ∷ []) (rec.Parts p (Receivers s.endpoint) ∷ rec.Took s.number p ∷ R) h).0

handed-agree : (s : Letter) (n : ℕ) (p : ObjId) (R S : Log) → AlikeButNumbers R S → AreOf R S s.number n → Agree R S (handed s p) (handed (numbered s n) p)
unfolding handed
handed-agree s n p R S a of h k =
    let e : reply_with R p ≡ reply_with S p = a.replies p (Receivers s.endpoint) (stood s p (reply_with R p) R h) in
    subst (λ r. Agree R S (hands s p (reply_with R p)) (hands (numbered s n) p r)) e (hands-agree s n p (reply_with R p) R S a of) h k

-- a message is sent and handed over: it has the number that is next in each log
over-agree : (s : Letter) (n : ℕ) (p : ObjId) (R S : Log) → AlikeButNumbers R S → s.number ≡ next_message R → n ≡ next_message S → Agree R S (sent s then handed s p) (sent (numbered s n) then handed (numbered s n) p)
over-agree s n p R S a e f =
    then-agree (sent s) (sent (numbered s n)) (handed s p) (handed (numbered s n) p) R S a (λ h k. (refl, tt))
    (λ b. handed-agree s n p (sent_record s ∷ R) (sent_record s ∷ S) b (subst (λ m. AreOf (sent_record s ∷ R) (sent_record s ∷ S) m n) (sym e) (subst (λ m. AreOf (sent_record s ∷ R) (sent_record s ∷ S) (next_message R) m) (sym f)
    (sent-of R S s.sender s.endpoint s.mode s.badge s.message))))

pub sends-respects : (C : Log → Type 0) (t : ObjId) (cap : Cap) (mode : SendMode) (message : Content) (said : Answer) (alone : Act) → RespectsAct C alone → RespectsAct C (sends (letter_over t cap mode message) said alone)
unfolding sends sends_to
sends-respects C t cap mode message said alone hd R S a c =
    subst (λ o. AgreeAct R S (sends_to (letter_over t cap mode message R) said alone (first_in R (Receivers cap.obj))) (sends_to (letter_over t cap mode message S) said alone o)) (first-same R S a (Receivers cap.obj)) (go (first_in R (Receivers cap.obj)))
  where
    go : (o : Option ObjId) → AgreeAct R S (sends_to (letter_over t cap mode message R) said alone o) (sends_to (letter_over t cap mode message S) said alone o)
    go None = hd R S a c
    go (Some p) = answers-agree said (sent (letter_over t cap mode message R) then handed (letter_over t cap mode message R) p) (sent (letter_over t cap mode message S) then handed (letter_over t cap mode message S) p) R S
        (over-agree (letter_over t cap mode message R) (next_message S) p R S a refl refl)

-- x receives the word, leaves its queue, and continues with the context that is homed there
wake-respects : (n x : ObjId) (q : Queue) (word : ℕ) → Respects (wake n x q word)
unfolding wake
wake-respects n x q word = asking-respects (λ R. spare_at R n) (λ s. say (rec.Heard x n word) then say (rec.Parts x q) then say (rec.Turns x Running) then give_back s x) (λ R S a. spare-same R S a n)
    (λ s. then-respects _ _ (then-respects _ _ (then-respects _ _ (say-respects _ refl) (say-respects _ refl)) (say-respects _ refl)) (give_back-respects s x))

-- which thread receives the word
hearer-respects : (n : ObjId) (b : Option ObjId) (q : Option Queue) (w : Option ObjId) (word : ℕ) → Respects (hearer n b q w word)
hearer-respects n (Some x) (Some (Receivers e)) w word = wake-respects n x (Receivers e) word
hearer-respects n None q (Some x) word = wake-respects n x (Waiters n) word
hearer-respects n None q None word = nothing-respects
hearer-respects n (Some y) None (Some x) word = wake-respects n x (Waiters n) word
hearer-respects n (Some y) None None word = nothing-respects
hearer-respects n (Some y) (Some (Senders e)) (Some x) word = wake-respects n x (Waiters n) word
hearer-respects n (Some y) (Some (Senders e)) None word = nothing-respects
hearer-respects n (Some y) (Some (Waiters e)) (Some x) word = wake-respects n x (Waiters n) word
hearer-respects n (Some y) (Some (Waiters e)) None word = nothing-respects

-- which thread a signal reaches
reach-respects : (R : Log) (n : ObjId) (word : ℕ) (w : Option ℕ) → Respects (reach R n word w)
reach-respects R n word (Some old) = nothing-respects
reach-respects R n word None = hearer-respects n (tied_to R n) (queue_of_any R (tied_to R n)) (first_in R (Waiters n)) word

-- it is the same
reach-same : (R S : Log) → AlikeButNumbers R S → (n : ObjId) (word : ℕ) → IsThere R kind.Notification n → reach R n word (pending R n) ≡ reach S n word (pending S n)
reach-same R S a n word there = ap (λ w. reach R n word w) (pending-same R S a n there) ∙ go (pending S n)
  where
    standing : (x : Option ObjId) → queue_of_any R x ≡ queue_of_any S x
    standing None = refl
    standing (Some x) = a.queues x

    go : (w : Option ℕ) → reach R n word w ≡ reach S n word w
    go (Some old) = refl
    go None =
        ap (λ b. hearer n b (queue_of_any R b) (first_in R (Waiters n)) word) (tied-same R S a n)
        ∙ ap (λ q. hearer n (tied_to S n) q (first_in R (Waiters n)) word) (standing (tied_to S n))
        ∙ ap (λ w. hearer n (tied_to S n) (queue_of_any S (tied_to S n)) w word) (first-same R S a (Waiters n))

-- a signal
pub signal-respects : (n : ObjId) (badge : Badge) → Respects (signal n badge)
unfolding signal ◌then◌
signal-respects n badge = record {
  on = λ R S a h k.
      let there : IsThere R kind.Notification n = (sound-before (reach R n badge.0 (pending R n) (rec.Raised n badge ∷ R)) (rec.Raised n badge ∷ R) h).0.0 in
      let e : reach R n badge.0 (pending R n) ≡ reach S n badge.0 (pending S n) = reach-same R S a n badge.0 there in
      subst (λ (p : Piece). Agree R S (say (rec.Raised n badge) then reach R n badge.0 (pending R n)) (say (rec.Raised n badge) then p)) e
      ((then-respects (say (rec.Raised n badge)) (reach R n badge.0 (pending R n)) (say-respects _ refl) (reach-respects R n badge.0 (pending R n))).on R S a) h k;
}

-- a caller is answered
pub pay-respects : (r : ObjId) (message : Content) → Respects (pay r message)
unfolding pay
pay-respects r message =
    asking-respects (λ R. topped_by R r) (λ (s : Option ObjId) (R : Log). with_any (owed_by R r) (λ x. say (rec.Paid r x message) then say (rec.Turns x Running) then give_back s x) R) (λ R S a. topped-same R S a r)
    (λ s. asking-respects (λ R. owed_by R r) (λ o. with_any o (λ x. say (rec.Paid r x message) then say (rec.Turns x Running) then give_back s x)) (λ R S a. a.owed r)
    (λ o. with_any-respects o _ (λ x. then-respects _ _ (then-respects _ _ (say-respects _ refl) (say-respects _ refl)) (give_back-respects s x))))

-- t gives up its context where that is homed at n
go_home-respects : (t : ObjId) (n : Option ObjId) → Respects (go_home t n)
unfolding go_home
go_home-respects t n = asking-respects (λ R. if_at_home R n (context_of R t)) let_go (λ R S a. at-home-same R S a n t) (λ s. with_any-respects s _ (λ c. say-respects _ refl))

-- t is in a queue
pub stand-respects : (t : ObjId) (q : Queue) (r n : Option ObjId) → Respects (stand t q r n)
unfolding stand
stand-respects t q r n = then-respects _ _ (say-respects _ refl) (go_home-respects t n)

-- t blocks, or is answered at once
pub joins-respects : (C : Log → Type 0) (b : Bool) (stands : Piece) → Respects stands → RespectsAct C (joins_or b stands)
unfolding joins_or
joins-respects C true stands h = answers-respects C answer.Waits stands h
joins-respects C false stands h = answers-respects C answer.Empty nothing nothing-respects

-- a wait on a notification that is there
pub wait_on-respects : (t n : ObjId) (blocking : Bool) → RespectsAct (λ R. IsThere R kind.Notification n) (wait_on t n blocking)
unfolding wait_on hear
wait_on-respects t n blocking =
    asking-act (λ R. IsThere R kind.Notification n) (λ R. pending R n) (λ (w : Option ℕ). hear t (Some n) w (joins_or blocking (stand t (Waiters n) None (Some n)))) (λ R S a alive. pending-same R S a n alive) go
  where
    go : (w : Option ℕ) → RespectsAct (λ R. IsThere R kind.Notification n) (hear t (Some n) w (joins_or blocking (stand t (Waiters n) None (Some n))))
    go (Some word) = answers-respects _ (answer.Heard word) (say (rec.Heard t n word)) (say-respects _ refl)
    go None = joins-respects _ blocking _ (stand-respects t (Waiters n) None (Some n))

-- the thread wakes from Restart with its first entry
pub wakes-respects : (m : Mode) (t : ObjId) → Respects (wakes m t)
wakes-respects Restart t = say-respects _ refl
wakes-respects Running t = nothing-respects
wakes-respects Inactive t = nothing-respects

-- what holds of an act that is not refused
abbrev pub GoodAs : (Act → Type 0) → Checked Act → Type 0
GoodAs P (Err why) = Unit {0}
GoodAs P (Ok act) = P act

-- it respects alike logs
abbrev pub Good : (Log → Type 0) → Checked Act → Type 0
Good C m = GoodAs (RespectsAct C) m

-- an entry whose row is the same, with an act that respects alike logs
pub does-same : (C : Log → Type 0) (R S : Log) (core : CoreId) (t : ObjId) (e : Entry) → AlikeButNumbers R S → IsThere R kind.Thread t → C R → ((Q : Log) (m : Mode) → C Q → C (onto (wakes m t Q) Q))
    → row R core t e ≡ row S core t e → Good C (row R core t e) → Sound (onto (does R core t e).records R) → Sound (onto (does S core t e).records S) → MatchOut R S (does R core t e) (does S core t e)
unfolding does
does-same C R S core t e a alive c keeps same good h k = subst (λ m. Sound (onto (outcome_of S t m).records S) → MatchOut R S (outcome_of R t (row R core t e)) (outcome_of S t m)) same (go (row R core t e) good h) k
  where
    go : (m : Checked Act) → Good C m → Sound (onto (outcome_of R t m).records R) → Sound (onto (outcome_of S t m).records S) → MatchOut R S (outcome_of R t m) (outcome_of S t m)
    go (Err why) good h k = record { answer = refl; records = tt }
    go (Ok act) good h k =
        let mode : mode_of R t ≡ mode_of S t = a.modes t alive in
        subst (λ m. Sound (onto (before (wakes m t) act S).records S) → MatchOut R S (before (wakes (mode_of R t) t) act R) (before (wakes m t) act S)) mode
        (before-respects C (wakes (mode_of R t) t) act (wakes-respects (mode_of R t) t) (λ Q. keeps Q (mode_of R t)) good R S a c h) k
