-- Whole messages and answers, a piece at a time: what is sent, taken and paid, and what reaches its
-- taker or caller.
use Rattle.std.specs.Prelude.{ℕ, Bool, true, false, ◌≡◌, ◌≢◌, List, [], ◌∷◌, ◌++◌, Option, Some, None, refl, unwrap_or}
use Rattle.std.proofs.Common.{sym, ◌∙◌, ap, subst}
use Rattle.mcs_types.specs.Views.{Content}
use Rattle.mcs_types.specs.declared.id.ObjId.{ObjId}
use Rattle.mcs_types.specs.declared.id.CoreId.{CoreId}
use Rattle.mcs_types.specs.declared.record.Form.TheVariants.{OnCore}
use Rattle.mcs_types.specs.declared.cap.Cap.{Cap}
use Rattle.mcs_types.specs.declared.id.Kind.TheVariants as kind
use Rattle.mcs_book.specs.Sound.{Sound, IsOwedNothing}
use Rattle.mcs_types.specs.declared.record.SendMode.{SendMode}
use Rattle.mcs_types.specs.declared.record.SendMode.TheVariants as how
use Rattle.mcs_types.specs.declared.record.Mode.TheVariants.{Running, Inactive}
use Rattle.mcs_types.specs.declared.record.Queue.{Queue}
use Rattle.mcs_types.specs.declared.record.Queue.TheVariants.{Senders, Receivers}
use Rattle.mcs_types.specs.declared.record.Letter.{Letter}
use Rattle.mcs_types.specs.declared.record.Rec.{Rec}
use Rattle.mcs_types.specs.declared.record.Rec.TheVariants as rec
use Rattle.mcs_types.specs.declared.entry.Answer.{Answer}
use Rattle.mcs_types.specs.declared.entry.Answer.TheVariants.{Got, Waits}
use Rattle.mcs_types.specs.declared.entry.Step.{Step}
use Rattle.mcs_types.specs.Ids.{same}
use Rattle.mcs_book.specs.Logs.{Log, onto, given}
use Rattle.mcs_book.specs.Objects.{makes, was_made, is_alive}
use Rattle.mcs_book.specs.Slots.{slot}
use Rattle.mcs_book.specs.Contexts.{holder_of, context_of}
use Rattle.mcs_book.proofs.Threads.HoldingLaws.{context_of-holder}
use Rattle.mcs_book.specs.Messages.{open_of}
use Rattle.mcs_book.specs.Queues.{queue_of, first_in, reply_with}
use Rattle.mcs_book.specs.Replies.{owed_by}
use Rattle.mcs_book.specs.Pieces.{Piece, ◌then◌, nothing, say, Act, answers}
use Rattle.mcs_book.specs.Taking.{debt, owe, back_to, give_back, give, settle, handed, taken}
use Rattle.mcs_book.specs.Sending.{letter_over, sends_to, sends, queues}
use Rattle.mcs_book.specs.Statuses.{mail_of}
use Rattle.mcs_book.specs.Paths.{IsNamed}
use Rattle.mcs_book.specs.History.{Line}
use Rattle.mcs_book.specs.Each.{Each, EachOf}
use Rattle.mcs_types.specs.Brings.{message_of}
use Rattle.mcs_book.specs.Fair.{address_used, IsSentWhole, IsTakenWhole, IsPaidWhole, GivesBack}
use Rattle.mcs_book.proofs.SoundLogs.Keeping.{onto-append, sent_record}
use Rattle.mcs_book.proofs.Queues.QueueLaws.{first-stands}
use Rattle.mcs_book.proofs.Messages.MessageLaws.{open_of-open, open_of-letter}
use Rattle.mcs_book.proofs.Queues.NoneBeside.{made-more}
use Rattle.mcs_types.proofs.Ids.{same-equal, same-other}
use Rattle.mcs_book.proofs.SoundLogs.Safety.{IsReplyMade, Safe, plain-safe, none-plain, parted-none, paid-owed, owed-plain, IsStanding, safe-standing, safe-named}
use Rattle.mcs_book.proofs.SoundLogs.Making.{Passes, passes-map, passes-append, is_plain, is_quiet, plain-quiet, Plain, makes-say, makes-nothing, plain-give}
use Rattle.mcs_book.proofs.Messages.MailLaws.{plain-lasting, alive-last, is_still, plain-still, other-still, mail-still, mail-took}

-- what holds of each record of two lists holds of each of both together
pub each-append : (P : Log → Rec → Type 0) (R : Log) (made more : List Rec) → EachOf P R made → EachOf P (onto made R) more → EachOf P R (made ++ more)
each-append P R [] more h k = k
each-append P R (r ∷ made) more h k = (h.0, each-append P (r ∷ R) made more h.1 k)

-- what follows holds of each record too
pub each_of-map : (P Q : Log → Rec → Type 0) → ((R : Log) (r : Rec) → P R r → Q R r) → (R : Log) (made : List Rec) → EachOf P R made → EachOf Q R made
each_of-map P Q f R [] h = tt
each_of-map P Q f R (r ∷ made) h = (f R r h.0, each_of-map P Q f (r ∷ R) made h.1)

-- what holds of each record that passes a test
pub each-passes : (P : Log → Rec → Type 0) (q : Rec → Bool) → ((R : Log) (r : Rec) → q r ≡ true → P R r) → (R : Log) (made : List Rec) → Passes q made → EachOf P R made
each-passes P q f R [] h = tt
each-passes P q f R (r ∷ made) h = (f R r h.0, each-passes P q f (r ∷ R) made h.1)

-- a context that is made is one of this core
abbrev pub MadeOn : CoreId → Rec → Type 0
MadeOn core (rec.Made o form) = (c : CoreId) → form ≡ OnCore c → c ≡ core
MadeOn core _ = Unit {0}

-- what is said of the records of a step with its answer: R is before its line, and `after` once it
-- is done; what returns is said where the records so far were allowed
abbrev pub IsWhole : Log → Log → Step → Answer → Log → Rec → Type 0
IsWhole R after s a S r =
    let l : Line = record { step = s; answer = a; records = [] } in
    IsSentWhole R l S r × IsTakenWhole after l S r × IsPaidWhole after l S r × Safe S r × MadeOn s.core r × (Sound S → GivesBack after S r)

-- nothing is said of a quiet record
pub quiet-whole : (R after : Log) (s : Step) (a : Answer) (S : Log) (r : Rec) → is_quiet r ≡ true → IsWhole R after s a S r
quiet-whole R after s a S (rec.Sent x e mode badge message) h = absurd cc
quiet-whole R after s a S (rec.Took m p) h = absurd cc
quiet-whole R after s a S (rec.Paid r x message) h = absurd cc
quiet-whole R after s a S (rec.Joins t q reply) h = absurd cc
quiet-whole R after s a S (rec.Owes r x c) h = absurd cc
quiet-whole R after s a S (rec.Slot c i held) h = absurd cc
quiet-whole R after s a S (rec.Made o form) h = absurd cc
quiet-whole R after s a S (rec.Closed o) h = absurd cc
quiet-whole R after s a S _ h = (tt, tt, tt, tt, tt, λ sound. tt)

-- all of a list of records are whole
abbrev pub AreWhole : Log → Log → Step → Answer → Log → List Rec → Type 0
AreWhole R after s a S made = EachOf (IsWhole R after s a) S made

-- quiet records are
pub quiet-all : (R after : Log) (s : Step) (a : Answer) (S : Log) (made : List Rec) → Passes is_quiet made → AreWhole R after s a S made
quiet-all R after s a S made h = each-passes (IsWhole R after s a) is_quiet (quiet-whole R after s a) S made h

-- plain records are
pub plain-all : (R after : Log) (s : Step) (a : Answer) (S : Log) (made : List Rec) → Passes is_plain made → AreWhole R after s a S made
plain-all R after s a S made h = quiet-all R after s a S made (passes-map is_plain is_quiet plain-quiet made h)

-- the entering thread t is there, is in no queue and is owed nothing; all records so far are safe,
-- and what the slots hold after R was made
pub record Begins (R : Log) (t : ObjId) (S : Log) : Type 0 where
  pub thread : t.kind ≡ kind.Thread
  pub alive : is_alive S t ≡ true
  pub stands_none : queue_of S t ≡ None
  pub owed_nothing : IsOwedNothing S t
  pub safe : Each Safe S
  pub held : (c : ObjId) (i : ℕ) (k : Cap) → slot R c i ≡ Some k → was_made S k.obj ≡ true

-- so it is after a plain record
pub begins-plain : (R : Log) (t : ObjId) (S : Log) (r : Rec) → is_plain r ≡ true → Begins R t S → Begins R t (r ∷ S)
begins-plain R t S r e b = record {
  thread = b.thread;
  alive = alive-last S t r (plain-lasting r e) ∙ b.alive;
  stands_none = none-plain S t r e b.stands_none;
  owed_nothing = owed-plain S t r e b.owed_nothing;
  safe = (plain-safe S r e, b.safe);
  held = λ c i k is. made-more (makes k.obj r) _ (b.held c i k is);
}

-- and after several
pub begins-plains : (R : Log) (t : ObjId) (S : Log) (made : List Rec) → Passes is_plain made → Begins R t S → Begins R t (onto made S)
begins-plains R t S [] h b = b
begins-plains R t S (r ∷ made) h b = begins-plains R t (r ∷ S) made h.1 (begins-plain R t S r h.0 b)

-- and after an answer
pub begins-paid : (R : Log) (t : ObjId) (S : Log) (r x : ObjId) (message : Content) → Begins R t S → Begins R t (rec.Paid r x message ∷ S)
begins-paid R t S r x message b = record { thread = b.thread; alive = b.alive; stands_none = b.stands_none; owed_nothing = λ s. paid-owed S t r s b.owed_nothing; safe = (tt, b.safe); held = b.held }

-- who is in a queue is another
begins-other : (R : Log) (t : ObjId) (S : Log) (x : ObjId) (q : Queue) → Begins R t S → queue_of S x ≡ Some q → x ≢ t
begins-other R t S x q b at e = let clash : None ≡ Some q = sym b.stands_none ∙ ap (λ z. queue_of S z) (sym e) ∙ at in absurd cc

-- who is owed is another
pub begins-owed : (R : Log) (t : ObjId) (S : Log) (r x : ObjId) → Begins R t S → owed_by S r ≡ Some x → x ≢ t
begins-owed R t S r x b owed e = b.owed_nothing r (owed ∙ ap (λ z. Some z) e)

-- an act whose records are whole
pub record WholeAct (R : Log) (s : Step) (act : Act) : Type 0 where
  pub whole : (S : Log) → Begins R s.thread S → AreWhole R (onto ((act S).records) S) s ((act S).answer) S ((act S).records)

-- a message over this capability is what the step's entry says
pub record IsSending (R : Log) (s : Step) (cap : Cap) (message : Content) : Type 0 where
  pub carries : message_of s.entry ≡ Some message
  pub address : ℕ
  pub used : address_used s.entry ≡ Some address
  pub named : IsNamed R s.thread address cap

-- a message that is sent so is whole
sent-whole : (R after : Log) (s : Step) (a : Answer) (S : Log) (cap : Cap) (mode : SendMode) (message : Content) → IsSending R s cap message → IsWhole R after s a S (sent_record (letter_over s.thread cap mode message S))
sent-whole R after s a S cap mode message h = ((refl, h.carries, (h.address, cap, h.used, h.named, refl, refl)), tt, tt, tt, tt, λ sound. tt)

-- records that bring nothing to anybody, and are whole where Q holds
record Rest (Q : Type 0) (S : Log) (made : List Rec) : Type 0 where
  whole : Q → (R after : Log) (s : Step) (a : Answer) → AreWhole R after s a S made
  still : (x : ObjId) → Passes (is_still x) made

-- plain records are such
rest-plain : (Q : Type 0) (S : Log) (made : List Rec) → Passes is_plain made → Rest Q S made
rest-plain Q S made h = record { whole = λ q R after s a. plain-all R after s a S made h; still = λ x. passes-map is_plain (is_still x) (plain-still x) made h }

-- such records after others
rest-append : (Q : Type 0) (S : Log) (made more : List Rec) → Rest Q S made → Rest Q (onto made S) more → Rest Q S (made ++ more)
rest-append Q S made more h k = record { whole = λ q R after s a. each-append _ S made more (h.whole q R after s a) (k.whole q R after s a); still = λ x. passes-append (is_still x) made more (h.still x) (k.still x) }

-- the reply object, if there is one, may owe x
abbrev pub MayOwe : Log → Option ObjId → ObjId → Type 0
MayOwe S r x = (o : ObjId) (c : Option ObjId) → r ≡ Some o → Safe S (rec.Owes o x c)

-- what becomes of a sender
settle-rest : (S : Log) (mode : SendMode) (x p : ObjId) (r : Option ObjId) (goes_on : Piece) → Plain goes_on → Rest (MayOwe S r x) S (settle mode x p r goes_on S)
unfolding owe
settle-rest S how.Plain x p r goes_on h = rest-plain (MayOwe S r x) S (goes_on S) (h.passes S)
settle-rest S how.Call x p (Some o) goes_on h = go (context_of S p) (context_of S x)
  where
    go : (c d : Option ObjId) → Rest (MayOwe S (Some o) x) S (debt o x p c d)
    go None (Some k) = record { whole = λ q R after s a. ((tt, tt, tt, q o (Some k) refl, tt, λ sound. tt), ((tt, tt, tt, tt, tt, λ sound. tt), tt)); still = λ y. (refl, (refl, tt)) }
    go None None = record { whole = λ q R after s a. ((tt, tt, tt, q o None refl, tt, λ sound. tt), tt); still = λ y. (refl, tt) }
    go (Some k) None = record { whole = λ q R after s a. ((tt, tt, tt, q o None refl, tt, λ sound. tt), tt); still = λ y. (refl, tt) }
    go (Some k) (Some k') = record { whole = λ q R after s a. ((tt, tt, tt, q o None refl, tt, λ sound. tt), tt); still = λ y. (refl, tt) }
settle-rest S how.Call x p None goes_on h = rest-plain (MayOwe S None x) S (rec.Turns x Inactive ∷ []) (refl, tt)
settle-rest S how.Give x p r goes_on h = rest-plain (MayOwe S r x) S (give x p S) ((plain-give x p).passes S)
settle-rest S how.Mute x p r goes_on h = rest-plain (MayOwe S r x) S (rec.Turns x Inactive ∷ []) (refl, tt)

-- the log when a message was taken, and who was in line has left it
abbrev left_log : Log → Letter → ObjId → ObjId → Queue → Log
left_log S l p x q = rec.Parts x q ∷ rec.Took l.number p ∷ S

-- what is handed over: the message is taken, and the rest brings nothing to anybody
handed-shape : (S : Log) (l : Letter) (p : ObjId) → (rest : List Rec) × (handed l p S ≡ rec.Took l.number p ∷ rest) × Rest (MayOwe (left_log S l p p (Receivers l.endpoint)) (reply_with S p) l.sender) (rec.Took l.number p ∷ S) rest
unfolding handed ◌then◌
handed-shape S l p =
    let S' : Log = left_log S l p p (Receivers l.endpoint) in
    let Q : Type 0 = MayOwe S' (reply_with S p) l.sender in
    let made : List Rec = settle l.mode l.sender p (reply_with S p) nothing S' in (
      rec.Parts p (Receivers l.endpoint) ∷ (made ++ rec.Turns p Running ∷ []),
      refl,
      rest-append Q (rec.Took l.number p ∷ S) (rec.Parts p (Receivers l.endpoint) ∷ []) (made ++ rec.Turns p Running ∷ []) (rest-plain Q (rec.Took l.number p ∷ S) (rec.Parts p (Receivers l.endpoint) ∷ []) (refl, tt))
          (rest-append Q S' made (rec.Turns p Running ∷ []) (settle-rest S' l.mode l.sender p (reply_with S p) nothing (makes-nothing is_plain)) (rest-plain Q (onto made S') (rec.Turns p Running ∷ []) (refl, tt))),
    )

-- what is taken from a queued sender
taken-shape : (S : Log) (l : Letter) (p : ObjId) (r : Option ObjId) → (rest : List Rec) × (taken l p r S ≡ rec.Took l.number p ∷ rest) × Rest (MayOwe (left_log S l p l.sender (Senders l.endpoint)) r l.sender) (rec.Took l.number p ∷ S) rest
unfolding taken ◌then◌
taken-shape S l p r =
    let S' : Log = left_log S l p l.sender (Senders l.endpoint) in
    let Q : Type 0 = MayOwe S' r l.sender in
    let goes_on : Piece = say (rec.Turns l.sender Running) in (
      rec.Parts l.sender (Senders l.endpoint) ∷ settle l.mode l.sender p r goes_on S',
      refl,
      rest-append Q (rec.Took l.number p ∷ S) (rec.Parts l.sender (Senders l.endpoint) ∷ []) (settle l.mode l.sender p r goes_on S') (rest-plain Q (rec.Took l.number p ∷ S) (rec.Parts l.sender (Senders l.endpoint) ∷ []) (refl, tt))
          (settle-rest S' l.mode l.sender p r goes_on (makes-say is_plain (rec.Turns l.sender Running) refl)),
    )

-- a message that is handed over is taken by another thread, and reaches it, where nothing more does
handed-whole : (R after : Log) (s : Step) (a : Answer) (S : Log) (l : Letter) (p : ObjId) (more : List Rec) → is_alive S p ≡ true → p ≢ s.thread → MayOwe (left_log S l p p (Receivers l.endpoint)) (reply_with S p) l.sender
    → Passes (is_still p) more → after ≡ onto more (onto (handed l p S) S) → AreWhole R after s a S (handed l p S)
handed-whole R after s a S l p more alive other owes still e =
    let (rest, is, h) = handed-shape S l p in
    let ended : after ≡ onto (rest ++ more) (rec.Took l.number p ∷ S) = e ∙ ap (λ made. onto more (onto made S)) is ∙ sym (onto-append rest more (rec.Took l.number p ∷ S)) in
    let all_still : Passes (is_still p) (rest ++ more) = passes-append (is_still p) rest more (h.still p) still in
    subst (λ made. AreWhole R after s a S made) (sym is) (
      (tt, λ k at. (λ e. absurd (other e), λ ne. ap (λ z. mail_of z p) ended ∙ mail-still (rec.Took l.number p ∷ S) p (rest ++ more) all_still ∙ mail-took S l.number p k alive at), tt, tt, tt, λ sound. tt),
      h.whole owes R after s a,
    )

-- a message is sent, and taken by the first receiver or left to what is done alone
pub sends-whole : (R : Log) (s : Step) (cap : Cap) (mode : SendMode) (message : Content) (a : Answer) (alone : Act) → IsSending R s cap message → WholeAct R s alone → WholeAct R s (sends (letter_over s.thread cap mode message) a alone)
unfolding sends sends_to ◌then◌
sends-whole R s cap mode message a alone h ha = record { whole = λ S b. go S b (first_in S (Receivers cap.obj)) refl }
  where
    go : (S : Log) → Begins R s.thread S → (o : Option ObjId) → first_in S (Receivers cap.obj) ≡ o
        → let act : Act = sends_to (letter_over s.thread cap mode message S) a alone o in AreWhole R (onto ((act S).records) S) s ((act S).answer) S ((act S).records)
    go S b None is = ha.whole S b
    go S b (Some p) is =
        let l : Letter = letter_over s.thread cap mode message S in
        let at : queue_of S p ≡ Some (Receivers cap.obj) = first-stands S (Receivers cap.obj) p is in
        let there : IsStanding S p = safe-standing S p (Receivers cap.obj) b.safe at in
        let owes : MayOwe (left_log (sent_record l ∷ S) l p p (Receivers cap.obj)) (reply_with S p) s.thread
        = λ o c named. (safe-named S p o b.safe named, b.thread, b.alive, none-plain (rec.Took l.number p ∷ sent_record l ∷ S) s.thread (rec.Parts p (Receivers cap.obj)) refl b.stands_none, b.owed_nothing) in
        (sent-whole R (onto (handed l p (sent_record l ∷ S)) (sent_record l ∷ S)) s a S cap mode message h, handed-whole R (onto (handed l p (sent_record l ∷ S)) (sent_record l ∷ S)) s a (sent_record l ∷ S) l p [] there.alive (begins-other R s.thread S p (Receivers cap.obj) b at) owes tt refl)

-- a message is sent with its sender's context before more is done, which reaches no thread but the
-- sender
pub sends-first : (R after : Log) (s : Step) (cap : Cap) (message : Content) (done nobody a : Answer) (S : Log) (more : List Rec) → IsSending R s cap message → Begins R s.thread S → ((x : ObjId) → x ≢ s.thread → Passes (is_still x) more)
    → let made : List Rec = (sends (letter_over s.thread cap how.Give message) done (answers nobody nothing) S).records in after ≡ onto more (onto made S) → AreWhole R after s a S made
unfolding sends sends_to ◌then◌
sends-first R after s cap message done nobody a S more h b still e = go (first_in S (Receivers cap.obj)) refl e
  where
    l : Letter
    l = letter_over s.thread cap how.Give message S

    go : (o : Option ObjId) → first_in S (Receivers cap.obj) ≡ o → let made : List Rec = (sends_to l done (answers nobody nothing) o S).records in after ≡ onto more (onto made S) → AreWhole R after s a S made
    go None is e = tt
    go (Some p) is e =
        let at : queue_of S p ≡ Some (Receivers cap.obj) = first-stands S (Receivers cap.obj) p is in
        let there : IsStanding S p = safe-standing S p (Receivers cap.obj) b.safe at in
        let other : p ≢ s.thread = begins-other R s.thread S p (Receivers cap.obj) b at in
        let owes : MayOwe (left_log (sent_record l ∷ S) l p p (Receivers cap.obj)) (reply_with S p) s.thread
        = λ o c named. (safe-named S p o b.safe named, b.thread, b.alive, none-plain (rec.Took l.number p ∷ sent_record l ∷ S) s.thread (rec.Parts p (Receivers cap.obj)) refl b.stands_none, b.owed_nothing) in
        (sent-whole R after s a S cap how.Give message h, handed-whole R after s a (sent_record l ∷ S) l p more there.alive other owes (still p other) e)

-- what is handed over with its sender's context: the message is taken, and the rest is plain
given-shape : (S : Log) (l : Letter) (p : ObjId) → l.mode ≡ how.Give → (rest : List Rec) × (handed l p S ≡ rec.Took l.number p ∷ rest) × Passes is_plain rest
unfolding handed ◌then◌
given-shape S l p gives =
    let S' : Log = left_log S l p p (Receivers l.endpoint) in
    let made : List Rec = settle l.mode l.sender p (reply_with S p) nothing S' in
    (rec.Parts p (Receivers l.endpoint) ∷ (made ++ rec.Turns p Running ∷ []), refl, (refl, passes-append is_plain made (rec.Turns p Running ∷ []) (go S' l.mode gives) (refl, tt)))
  where
    go : (S' : Log) (mode : SendMode) → mode ≡ how.Give → Passes is_plain (settle mode l.sender p (reply_with S p) nothing S')
    go S' how.Give is = (plain-give l.sender p).passes S'
    go S' how.Plain is = absurd cc
    go S' how.Call is = absurd cc
    go S' how.Mute is = absurd cc

-- what began goes on after it
pub begins-sends : (R : Log) (t : ObjId) (cap : Cap) (message : Content) (done nobody : Answer) (S : Log) → Begins R t S → Begins R t (onto ((sends (letter_over t cap how.Give message) done (answers nobody nothing) S).records) S)
unfolding sends sends_to ◌then◌
begins-sends R t cap message done nobody S b = go (first_in S (Receivers cap.obj))
  where
    l : Letter
    l = letter_over t cap how.Give message S

    go : (o : Option ObjId) → Begins R t (onto ((sends_to l done (answers nobody nothing) o S).records) S)
    go None = b
    go (Some p) =
        let (rest, shape, plain) = given-shape (sent_record l ∷ S) l p refl in
        let b1 : Begins R t (rec.Took l.number p ∷ sent_record l ∷ S) = record { thread = b.thread; alive = b.alive; stands_none = b.stands_none; owed_nothing = b.owed_nothing; safe = (tt, (tt, b.safe)); held = b.held } in
        subst (λ made. Begins R t (onto made (sent_record l ∷ S))) (sym shape) (begins-plains R t (rec.Took l.number p ∷ sent_record l ∷ S) rest plain b1)

-- a message is sent, and its sender is in its queue
pub queues-whole : (R : Log) (s : Step) (cap : Cap) (mode : SendMode) (message : Content) → IsSending R s cap message → WholeAct R s (queues (letter_over s.thread cap mode message))
unfolding queues ◌then◌
queues-whole R s cap mode message h = record {
  whole = λ S b.
      let l : Letter = letter_over s.thread cap mode message S in
      (sent-whole R (rec.Joins s.thread (Senders cap.obj) None ∷ sent_record l ∷ S) s Waits S cap mode message h, ((tt, tt, tt, (b.thread, b.alive, b.owed_nothing, λ r e. absurd cc), tt, λ sound. tt), tt));
}

-- the message of a queued sender is taken by the entering thread, which is answered with it
pub taken-whole : (R : Log) (s : Step) (S : Log) (x : ObjId) (q : Queue) (l : Letter) (r : Option ObjId) → Begins R s.thread S → queue_of S x ≡ Some q → ((o : ObjId) → r ≡ Some o → IsReplyMade S o) → open_of S x ≡ Some l
    → AreWhole R (onto (taken l s.thread r S) S) s (Got l.badge l.message) S (taken l s.thread r S)
taken-whole R s S x q l r b at replies is =
    let (rest, shape, h) = taken-shape S l s.thread r in
    let who : l.sender ≡ x = same-equal l.sender x (open_of-open S x l is).0 in
    let there : IsStanding S l.sender = subst (λ (z : ObjId). IsStanding S z) (sym who) (safe-standing S x q b.safe at) in
    let owes : MayOwe (left_log S l s.thread l.sender (Senders l.endpoint)) r l.sender = λ o c e. (replies o e, there.thread, there.alive, parted-none (rec.Took l.number s.thread ∷ S) l.sender (Senders l.endpoint), there.owed_nothing) in
    subst (λ made. AreWhole R (onto made S) s (Got l.badge l.message) S made) (sym shape) (
      (tt, λ k at. (λ e. let same_letter : Some l ≡ Some k = sym (open_of-letter S x l is) ∙ at in let it : l ≡ k = cc in ap (λ (z : Letter). Got z.badge z.message) it, λ ne. absurd (ne refl)), tt, tt, tt, λ sound. tt),
      h.whole owes R (onto rest (rec.Took l.number s.thread ∷ S)) s (Got l.badge l.message),
    )

-- it reaches no other thread
pub taken-still : (S : Log) (t x : ObjId) (l : Letter) (r : Option ObjId) → x ≢ t → Passes (is_still x) (taken l t r S)
taken-still S t x l r ne =
    let (rest, shape, h) = taken-shape S l t r in
    subst (λ made. Passes (is_still x) made) (sym shape) (other-still x t ne, h.still x)

-- a holder of a context that another context does not change
pub other-held : (S : Log) (c k y : ObjId) (p : Option ObjId) → c ≢ k → holder_of S c ≡ Some y → holder_of (rec.Holds k p ∷ S) c ≡ Some y
other-held S c k y p ne h = go (same c k) (same-other c k ne)
  where
    go : (b : Bool) → b ≡ false → unwrap_or (given b p) (holder_of S c) ≡ Some y
    go true e = absurd cc
    go false e = h

-- a context that comes along with a debt is the caller's
settle-holders : (S : Log) (mode : SendMode) (x p : ObjId) (r : Option ObjId) (goes_on : Piece) (c y : ObjId) → y ≢ x → holder_of S c ≡ Some y → holder_of (onto (goes_on S) S) c ≡ Some y → holder_of (onto (settle mode x p r goes_on S) S) c ≡ Some y
unfolding owe give give_back
settle-holders S how.Plain x p r goes_on c y ne h k = k
settle-holders S how.Give x p r goes_on c y ne h k = go (context_of S x) (context_of S p) refl
  where
    go : (a b : Option ObjId) → context_of S x ≡ a → holder_of (onto (back_to p a b) S) c ≡ Some y
    go (Some d) None is = other-held S c d y (Some p) (λ e. let who : Some y ≡ Some x = sym h ∙ ap (λ z. holder_of S z) e ∙ context_of-holder S x d is in ne cc) h
    go (Some d) (Some d') is = h
    go None b is = h
settle-holders S how.Call x p (Some o) goes_on c y ne h k = go (context_of S p) (context_of S x) refl
  where
    go : (a b : Option ObjId) → context_of S x ≡ b → holder_of (onto (debt o x p a b) S) c ≡ Some y
    go None (Some d) is = other-held (rec.Owes o x (Some d) ∷ S) c d y (Some p) (λ e. let who : Some y ≡ Some x = sym h ∙ ap (λ z. holder_of S z) e ∙ context_of-holder S x d is in ne cc) h
    go None None is = h
    go (Some d) None is = h
    go (Some d) (Some d') is = h
settle-holders S how.Call x p None goes_on c y ne h k = h
settle-holders S how.Mute x p r goes_on c y ne h k = h

-- who is in no queue keeps its context when a message is taken
pub taken-holders : (S : Log) (t x : ObjId) (q : Queue) (l : Letter) (r : Option ObjId) (c y : ObjId) → queue_of S x ≡ Some q → open_of S x ≡ Some l → holder_of S c ≡ Some y → queue_of S y ≡ None → holder_of (onto (taken l t r S) S) c ≡ Some y
unfolding taken ◌then◌
taken-holders S t x q l r c y at is h none =
    let who : l.sender ≡ x = same-equal l.sender x (open_of-open S x l is).0 in
    let other : y ≢ l.sender = λ e. let clash : None ≡ Some q = sym none ∙ ap (λ z. queue_of S z) (e ∙ who) ∙ at in absurd cc in
    settle-holders (left_log S l t l.sender (Senders l.endpoint)) l.mode l.sender t r (say (rec.Turns l.sender Running)) c y other h h
