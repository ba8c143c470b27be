-- In every legal book no endpoint has both a sender and a receiver in its queues, after each line.
use Rattle.std.specs.Prelude.{ℕ, ◌<◌, Bool, true, false, cond, not, ◌&&◌, ◌||◌, ◌==◌, ◌≡◌, ◌≢◌, ◌⊎◌, List, [], ◌∷◌, Option, Some, None, refl, find, is_some, unwrap_or}
use Rattle.std.specs.List.{list_any}
use Rattle.std.proofs.Common.{sym, ◌∙◌, ap, inl, inr, arith, subst}
use Rattle.std.proofs.lemmas.Bool.{eqb-true, eq-eqb}
use Rattle.mcs_types.specs.declared.id.ObjId.{ObjId}
use Rattle.mcs_types.specs.declared.id.CoreId.{CoreId}
use Rattle.mcs_types.specs.declared.id.Kind.TheVariants as kind
use Rattle.mcs_types.specs.declared.entry.Entry.{Entry}
use Rattle.mcs_types.specs.declared.record.Queue.{Queue}
use Rattle.mcs_types.specs.declared.record.Queue.TheVariants.{Senders, Receivers, Waiters}
use Rattle.mcs_types.specs.declared.record.Rec.{Rec}
use Rattle.mcs_types.specs.declared.record.Rec.TheVariants as rec
use Rattle.mcs_types.specs.Ids.{same}
use Rattle.mcs_book.specs.Logs.{Log, onto, given}
use Rattle.mcs_book.specs.Objects.{was_made}
use Rattle.mcs_book.specs.Queues.{queue_of, first_in}
use Rattle.mcs_types.specs.declared.record.Letter.{Letter}
use Rattle.mcs_book.specs.Messages.{next_message, letters, letter, settles, is_open, open_of}
use Rattle.mcs_book.specs.Statuses.{may_enter}
use Rattle.mcs_book.specs.Receiving.{open_of_any}
use Rattle.mcs_book.specs.Boots.{boot_log}
use Rattle.mcs_book.specs.Table.{does}
use Rattle.mcs_book.specs.History.{Book, IsLegal}
use Rattle.mcs_book.specs.Each.{Each, AfterEachLine}
use Rattle.mcs_book.specs.Fair.{EndsOpen, NoneWaitBeside}
use Rattle.mcs_types.proofs.Ids.{same-self, same-equal, parts, both}
use Rattle.mcs_book.proofs.Queues.QueueLaws.{first-none, first-stands}
use Rattle.mcs_book.proofs.SoundLogs.Keeping.{is_aside, sent_record, Steps}
use Rattle.mcs_book.proofs.SoundLogs.KeepingRows.{Entering, keeps-does}
use Rattle.mcs_book.proofs.Books.HistoryLaws.{boot-keeps, legal-after, after-map}
use Rattle.mcs_book.proofs.Messages.MessageLaws.{open_of-open, open-below, sent-open, sent-open_at, find-passes, number-other, pass, open_of-letter}
use Rattle.mcs_book.proofs.Messages.TakenOnce.{aside-ends}
use Rattle.mcs_book.proofs.Threads.EntersLaws.{enters-made}

-- x has an open message
pub record HasOpen (R : Log) (x : ObjId) : Type 0 where
  pub number : ℕ
  pub sent : Letter
  pub is_letter : letter R number ≡ Some sent
  pub open_still : is_open R number ≡ true
  pub of_sender : sent.sender ≡ x

-- who is in a queue was made, a queued sender has an open message, and no thread waits beside; the
-- entering thread t was made
pub record Beside (t : ObjId) (R : Log) : Type 0 where
  pub ends : Each EndsOpen R
  pub made : (x : ObjId) (q : Queue) → queue_of R x ≡ Some q → (x.kind ≡ kind.Thread) × (was_made R x ≡ true)
  pub queued : (x e : ObjId) → queue_of R x ≡ Some (Senders e) → HasOpen R x
  pub none : NoneWaitBeside R
  pub entering : (t.kind ≡ kind.Thread) × (was_made R t ≡ true)

-- a record aside changes no message and no line
pub letters-aside : (R : Log) (r : Rec) → is_aside r ≡ true → letters (r ∷ R) ≡ letters R
letters-aside R (rec.Sent x e mode badge message) h = absurd cc
letters-aside R _ h = refl

-- a record aside settles no message
pub settles-aside : (r : Rec) (m : ℕ) → is_aside r ≡ true → settles m r ≡ false
settles-aside (rec.Took k p) m h = absurd cc
settles-aside (rec.Dropped k) m h = absurd cc
settles-aside _ m h = refl

-- a record aside moves no thread
pub queue-aside : (R : Log) (r : Rec) (x : ObjId) → is_aside r ≡ true → queue_of (r ∷ R) x ≡ queue_of R x
queue-aside R (rec.Joins t q reply) x h = absurd cc
queue-aside R (rec.Parts t q) x h = absurd cc
queue-aside R _ x h = refl

-- "or" with a second that is true
pub made-more : (b c : Bool) → c ≡ true → (b || c) ≡ true
made-more true c h = refl
made-more false c h = h

-- a record of the letters that settles no message n leaves an open one open
open-kept : (R : Log) (r : Rec) (x : ObjId) (h : HasOpen R x) → letters (r ∷ R) ≡ letters R → settles h.number r ≡ false → HasOpen (r ∷ R) x
open-kept R r x h same_letters none = record {
  number = h.number;
  sent = h.sent;
  is_letter = ap (λ ls. find (λ s. s.number == h.number) ls) same_letters ∙ h.is_letter;
  open_still = both _ _ (ap (λ ls. is_some (find (λ s. s.number == h.number) ls)) same_letters ∙ (parts (is_some (letter R h.number)) _ h.open_still).0)
      (ap (λ b. not (b || list_any (settles h.number) R)) none ∙ (parts (is_some (letter R h.number)) _ h.open_still).1);
  of_sender = h.of_sender;
}

-- a message that is sent leaves the others open
open-sent : (R : Log) (s : Letter) (x : ObjId) → HasOpen R x → HasOpen (sent_record s ∷ R) x
open-sent R s x h =
    let lt : h.number < next_message R = open-below R h.number h.open_still in
    let other : (next_message R == h.number) ≡ false = number-other (next_message R) h.number (λ e. absurd (omega (arith, lt, e))) in
    let same_letter : letter (sent_record s ∷ R) h.number ≡ letter R h.number = pass (next_message R == h.number) _ _ other in
    record {
      number = h.number;
      sent = h.sent;
      is_letter = same_letter ∙ h.is_letter;
      open_still = both _ _ (ap (λ o. is_some o) same_letter ∙ (parts (is_some (letter R h.number)) _ h.open_still).0) ((parts (is_some (letter R h.number)) _ h.open_still).1);
      of_sender = h.of_sender;
    }

-- messages of two senders have two numbers
numbers-apart : (R : Log) (x y : ObjId) (s : Letter) (h : HasOpen R y) → open_of R x ≡ Some s → letter R s.number ≡ Some s → y ≢ s.sender → h.number ≢ s.number
numbers-apart R x y s h is is_letter ne e =
    let one : Some h.sent ≡ Some s = sym h.is_letter ∙ ap (λ m. letter R m) e ∙ is_letter in
    let senders : h.sent ≡ s = cc in
    ne (sym h.of_sender ∙ ap (λ (l : Letter). l.sender) senders)

-- where one passes a second test, the second finds one
find-some : {A : Type 0} (p q : A → Bool) (xs : List A) (y : A) → find p xs ≡ Some y → q y ≡ true → is_some (find q xs) ≡ true
find-some p q [] y h k = absurd cc
find-some p q (x ∷ xs) y h k = go (p x) h (find-some p q xs y) (q x) refl
  where
    go : (b : Bool) → cond b (Some x) (find p xs) ≡ Some y → (find p xs ≡ Some y → q y ≡ true → is_some (find q xs) ≡ true) → (c : Bool) → q x ≡ c → is_some (cond c (Some x) (find q xs)) ≡ true
    go b e later true f = refl
    go true e later false f = let same_one : x ≡ y = cc in let no : true ≡ false = sym k ∙ ap q (sym same_one) ∙ f in absurd cc
    go false e later false f = later e k

-- who has an open message is found to have one
pub has-open : (R : Log) (x : ObjId) → HasOpen R x → is_some (open_of R x) ≡ true
unfolding open_of
has-open R x h =
    let number : h.sent.number ≡ h.number = eqb-true _ _ (find-passes (λ s. s.number == h.number) (letters R) h.sent h.is_letter) in
    find-some (λ s. s.number == h.number) (λ s. same s.sender x && is_open R s.number) (letters R) h.sent h.is_letter
    (both _ _ (ap (λ (y : ObjId). same y x) h.of_sender ∙ same-self x) (ap (λ n. is_open R n) number ∙ h.open_still))

-- who is after a thread left a line, and after one joined
pub left-queue : (R : Log) (x y : ObjId) (q k : Queue) → queue_of (rec.Parts x q ∷ R) y ≡ Some k → (y ≢ x) × (queue_of R y ≡ Some k)
left-queue R x y q k h = go (same y x) refl h
  where
    go : (b : Bool) → same y x ≡ b → unwrap_or (given b None) (queue_of R y) ≡ Some k → (y ≢ x) × (queue_of R y ≡ Some k)
    go true e h = absurd cc
    go false e h = (λ s. let no : true ≡ false = sym (same-self y) ∙ ap (λ (z : ObjId). same y z) s ∙ e in absurd cc, h)

-- who is after t joined a queue was there before, or is t
pub joined-queue : (R : Log) (t x : ObjId) (q k : Queue) (r : Option ObjId) → queue_of (rec.Joins t q r ∷ R) x ≡ Some k → ((x ≡ t) × (q ≡ k)) ⊎ (queue_of R x ≡ Some k)
joined-queue R t x q k r h = go (same x t) refl h
  where
    go : (b : Bool) → same x t ≡ b → unwrap_or (given b (Some q)) (queue_of R x) ≡ Some k → ((x ≡ t) × (q ≡ k)) ⊎ (queue_of R x ≡ Some k)
    go true e h = inl (same-equal x t e, cc)
    go false e h = inr h

module _ (t : ObjId) where
  -- a record aside keeps it
  beside-aside : (R : Log) (r : Rec) → is_aside r ≡ true → Beside t R → Beside t (r ∷ R)
  beside-aside R r e h = record {
    ends = (aside-ends R r e, h.ends);
    made = λ x q k. let m : (x.kind ≡ kind.Thread) × (was_made R x ≡ true) = h.made x q (sym (queue-aside R r x e) ∙ k) in (m.0, made-more _ _ m.1);
    queued = λ x q k. let o : HasOpen R x = h.queued x q (sym (queue-aside R r x e) ∙ k) in open-kept R r x o (letters-aside R r e) (settles-aside r o.number e);
    none = λ q x p a b. h.none q x p (sym (queue-aside R r x e) ∙ a) (sym (queue-aside R r p e) ∙ b);
    entering = (h.entering.0, made-more _ _ h.entering.1);
  }

  -- x leaves a queue: then only the others need an open message
  beside-parts : (R : Log) (x : ObjId) (q : Queue) → Each EndsOpen R
      → ((y : ObjId) (k : Queue) → queue_of R y ≡ Some k → (y.kind ≡ kind.Thread) × (was_made R y ≡ true))
      → ((y e : ObjId) → y ≢ x → queue_of R y ≡ Some (Senders e) → HasOpen R y) → NoneWaitBeside R → (t.kind ≡ kind.Thread) × (was_made R t ≡ true) → Beside t (rec.Parts x q ∷ R)
  beside-parts R x q ends made queued none entering = record {
    ends = (tt, ends);
    made = λ y k h. made y k ((left-queue R x y q k h).1);
    queued = λ y e h. let (ne, l) = left-queue R x y q (Senders e) h in open-kept R (rec.Parts x q) y (queued y e ne l) refl refl;
    none = λ e y p a b. none e y p ((left-queue R x y q (Senders e) a).1) ((left-queue R x p q (Receivers e) b).1);
    entering = entering;
  }

  -- t joins a queue, with an open message among senders, and where no thread is on the other side
  beside-joins : (R : Log) (q : Queue) (r : Option ObjId) → Beside t R → ((e : ObjId) → q ≡ Senders e → HasOpen R t × ((p : ObjId) → queue_of R p ≢ Some (Receivers e)))
      → ((e : ObjId) → q ≡ Receivers e → (x : ObjId) → queue_of R x ≢ Some (Senders e)) → Beside t (rec.Joins t q r ∷ R)
  beside-joins R q r h sends receives = record {
    ends = (tt, h.ends);
    made = λ y k j. elim (joined-queue R t y q k r j) [ inl (y_is, k_is) ↦ (ap (λ (z : ObjId). z.kind) y_is ∙ h.entering.0, ap (λ (z : ObjId). was_made R z) y_is ∙ h.entering.1) | inr o ↦ h.made y k o ];
    queued = λ y e j. open-kept R (rec.Joins t q r) y (elim (joined-queue R t y q (Senders e) r j) [ inl (y_is, k_is) ↦ subst (λ (z : ObjId). HasOpen R z) (sym y_is) ((sends e k_is).0) | inr o ↦ h.queued y e o ]) refl refl;
    none = λ e x p a b. elim (joined-queue R t x q (Senders e) r a) [
      | inl (x_is, k_is) ↦ elim (joined-queue R t p q (Receivers e) r b) [
        | inl (p_is, l_is) ↦ (let no : Senders e ≡ Receivers e = sym k_is ∙ l_is in absurd cc)
        | inr o ↦ absurd ((sends e k_is).1 p o)
      ]
      | inr o ↦ elim (joined-queue R t p q (Receivers e) r b) [
        | inl (p_is, l_is) ↦ absurd (receives e l_is x o)
        | inr o' ↦ h.none e x p o o'
      ]
    ];
    entering = h.entering;
  }

  -- a message that is sent
  beside-sent : (R : Log) (s : Letter) → Beside t R → Beside t (sent_record s ∷ R)
  beside-sent R s h = record {
    ends = (tt, h.ends);
    made = h.made;
    queued = λ x e k. open-sent R s x (h.queued x e k);
    none = h.none;
    entering = h.entering;
  }

  -- t sends a message, and joins the senders
  beside-alone : (R : Log) (s : Letter) → s.number ≡ next_message R → s.sender ≡ t → first_in R (Receivers s.endpoint) ≡ None → Beside t R → Beside t (rec.Joins s.sender (Senders s.endpoint) None ∷ sent_record s ∷ R)
  beside-alone R s number sender none h =
      subst (λ (x : ObjId). Beside t (rec.Joins x (Senders s.endpoint) None ∷ sent_record s ∷ R)) (sym sender)
      (beside-joins (sent_record s ∷ R) (Senders s.endpoint) None (beside-sent R s h)
      (λ e is. let at : s.endpoint ≡ e = cc in (mine, λ p k. first-none R (Receivers s.endpoint) h.made none p (k ∙ ap (λ (z : ObjId). Some (Receivers z)) (sym at)))) (λ e is. absurd cc))
    where
      first : (b : Bool) (l : Letter) (o : Option Letter) → b ≡ true → cond b (Some l) o ≡ Some l
      first true l o e = refl
      first false l o e = absurd cc

      mine : HasOpen (sent_record s ∷ R) t
      mine = record {
        number = next_message R;
        sent = record s { number = next_message R };
        is_letter = first (next_message R == next_message R) (record s { number = next_message R }) (letter R (next_message R)) (eq-eqb (next_message R) (next_message R) refl);
        open_still = sent-open R s h.ends;
        of_sender = sender;
      }

  -- a message that is settled leaves those of other senders open
  others-open : (R : Log) (r : Rec) (x y : ObjId) (s : Letter) → letters (r ∷ R) ≡ letters R → ((m : ℕ) → settles m r ≡ (m == s.number)) → open_of R x ≡ Some s → y ≢ s.sender → HasOpen R y → HasOpen (r ∷ R) y
  others-open R r x y s same_letters settling is ne h = open-kept R r y h same_letters (settling h.number ∙ number-other h.number s.number (numbers-apart R x y s h is (open_of-letter R x s is) ne))

  -- a message is handed over at once
  beside-hands : (R : Log) (s : Letter) (p : ObjId) → s.number ≡ next_message R → Beside t R → Beside t (rec.Parts p (Receivers s.endpoint) ∷ rec.Took s.number p ∷ sent_record s ∷ R)
  unfolding open-sent
  beside-hands R s p number h =
      beside-parts (rec.Took s.number p ∷ sent_record s ∷ R) p (Receivers s.endpoint) (sent-open_at R s number h.ends, (tt, h.ends)) h.made
      (λ y e ne k.
      let o : HasOpen R y = h.queued y e k in
      let lt : o.number < next_message R = open-below R o.number o.open_still in
      open-kept (sent_record s ∷ R) (rec.Took s.number p) y (open-sent R s y o) refl (number-other o.number s.number (λ e. absurd (omega (arith, lt, e, number))))) h.none h.entering

  -- a queued message is settled, and its sender leaves
  beside-settled : (R : Log) (r : Rec) (x : ObjId) (s : Letter) (q : Queue) → EndsOpen R r → ((y : ObjId) → queue_of (r ∷ R) y ≡ queue_of R y) → ((y : ObjId) → was_made (r ∷ R) y ≡ was_made R y) → letters (r ∷ R) ≡ letters R → ((m : ℕ) → settles m r ≡ (m == s.number))
      → open_of R x ≡ Some s → Beside t R → Beside t (rec.Parts s.sender q ∷ r ∷ R)
  beside-settled R r x s q ends queues makes same_letters settling is h =
      beside-parts (r ∷ R) s.sender q (ends, h.ends) (λ y k e. let m : (y.kind ≡ kind.Thread) × (was_made R y ≡ true) = h.made y k (sym (queues y) ∙ e) in (m.0, makes y ∙ m.1))
      (λ y e ne k. others-open R r x y s same_letters settling is ne (h.queued y e (sym (queues y) ∙ k))) (λ e y p a b. h.none e y p (sym (queues y) ∙ a) (sym (queues p) ∙ b)) (h.entering.0, makes t ∙ h.entering.1)

  -- a queued message is dropped
  beside-drops : (R : Log) (e x : ObjId) (s : Letter) → queue_of R x ≡ Some (Senders e) → open_of R x ≡ Some s → Beside t R → Beside t (rec.Parts x (Senders e) ∷ rec.Dropped s.number ∷ R)
  beside-drops R e x s at is h =
      let sender : s.sender ≡ x = same-equal s.sender x ((open_of-open R x s is).0) in
      subst (λ (y : ObjId). Beside t (rec.Parts y (Senders e) ∷ rec.Dropped s.number ∷ R)) sender
      (beside-settled R (rec.Dropped s.number) x s (Senders e) ((open_of-open R x s is).1) (λ y. refl) (λ y. refl) refl (λ m. refl) is h)

  -- t joins the receivers, where no message waits
  beside-receives : (R : Log) (e : ObjId) (r : Option ObjId) → open_of_any R (first_in R (Senders e)) ≡ None → Beside t R → Beside t (rec.Joins t (Receivers e) r ∷ R)
  beside-receives R e r none h = beside-joins R (Receivers e) r h (λ e' is. absurd cc) (λ e' is. let at : e ≡ e' = cc in λ x k. nobody (first_in R (Senders e)) refl none x (k ∙ ap (λ (z : ObjId). Some (Senders z)) (sym at)))
    where
      nobody : (o : Option ObjId) → first_in R (Senders e) ≡ o → open_of_any R o ≡ None → (x : ObjId) → queue_of R x ≢ Some (Senders e)
      nobody None first n = first-none R (Senders e) h.made first
      nobody (Some y) first n =
          let has : is_some (open_of R y) ≡ true = has-open R y (h.queued y e (first-stands R (Senders e) y first)) in
          let no : false ≡ true = ap (λ o. is_some o) (sym n) ∙ has in
          λ x k. absurd cc

  -- the steps that keep it
  pub beside-steps : Steps (Beside t)
  beside-steps = record {
    aside = beside-aside;
    drops = beside-drops;
    leaves_none = λ R e x at is h. beside-parts R x (Senders e) h.ends h.made (λ y e' ne k. h.queued y e' k) h.none h.entering;
    leaves_receiver = λ R e x at h. beside-parts R x (Receivers e) h.ends h.made (λ y e' ne k. h.queued y e' k) h.none h.entering;
    leaves_waiter = λ R n x at h. beside-parts R x (Waiters n) h.ends h.made (λ y e' ne k. h.queued y e' k) h.none h.entering;
  }

  -- the steps of t
  pub beside-entering : Entering t (Beside t) (Beside t)
  beside-entering = record {
    steps = beside-steps;
    ends = λ R h. h;
    hands = λ R s p number sender first h. beside-hands R s p number h;
    takes = λ R e x s first is h. beside-settled R (rec.Took s.number t) x s (Senders s.endpoint) ((open_of-open R x s is).1) (λ y. refl) (λ y. refl) refl (λ m. refl) is h;
    sends_alone = beside-alone;
    receives = beside-receives;
    waits = λ R n h. beside-joins R (Waiters n) None h (λ e is. absurd cc) (λ e is. absurd cc);
    gives_up = λ R s h. beside-aside R (rec.Holds s None) refl h;
  }

  -- each entry of t keeps it
  pub does-beside : (R : Log) (core : CoreId) (entry : Entry) → Beside t R → Beside t (onto ((does R core t entry).records) R)
  does-beside = keeps-does t (Beside t) (Beside t) beside-entering

-- the same, whoever enters next
pub record Calm (R : Log) : Type 0 where
  pub ends : Each EndsOpen R
  pub made : (x : ObjId) (q : Queue) → queue_of R x ≡ Some q → (x.kind ≡ kind.Thread) × (was_made R x ≡ true)
  pub queued : (x e : ObjId) → queue_of R x ≡ Some (Senders e) → HasOpen R x
  pub none : NoneWaitBeside R

-- each entry keeps it
pub calm-step : (R : Log) (core : CoreId) (t : ObjId) (entry : Entry) → may_enter R core t ≡ true → Calm R → Calm (onto ((does R core t entry).records) R)
calm-step R core t entry enters h =
    let b : Beside t (onto ((does R core t entry).records) R) = does-beside t R core entry (record { ends = h.ends; made = h.made; queued = h.queued; none = h.none; entering = enters-made R core t enters }) in
    record { ends = b.ends; made = b.made; queued = b.queued; none = b.none }

-- each line of a boot keeps it
pub calm-aside : (R : Log) (r : Rec) → is_aside r ≡ true → Calm R → Calm (r ∷ R)
calm-aside R r e h = record {
  ends = (aside-ends R r e, h.ends);
  made = λ x q k. let m : (x.kind ≡ kind.Thread) × (was_made R x ≡ true) = h.made x q (sym (queue-aside R r x e) ∙ k) in (m.0, made-more _ _ m.1);
  queued = λ x q k. let o : HasOpen R x = h.queued x q (sym (queue-aside R r x e) ∙ k) in open-kept R r x o (letters-aside R r e) (settles-aside r o.number e);
  none = λ q x p a b. h.none q x p (sym (queue-aside R r x e) ∙ a) (sym (queue-aside R r p e) ∙ b);
}

-- it holds at first
pub calm-empty : Calm []
calm-empty = record { ends = tt; made = λ x q k. absurd cc; queued = λ x e k. absurd cc; none = λ e x p a b. absurd cc }

-- after each line of a legal book all this holds
pub legal-calm : (b : Book) → IsLegal b → AfterEachLine Calm b
legal-calm b legal = legal-after Calm calm-step (boot_log b.boot.lines) b.lines legal.lines (boot-keeps Calm calm-empty calm-aside b.boot.lines)

-- the law: after each line of a legal book no sender waits beside a waiting receiver
pub legal-none_beside : (b : Book) → IsLegal b → AfterEachLine NoneWaitBeside b
legal-none_beside b legal = after-map Calm NoneWaitBeside (λ R h. h.none) (boot_log b.boot.lines) b.lines (legal-calm b legal)
