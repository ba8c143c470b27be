-- In every legal book, after each line, a thread is queued among the senders of an endpoint exactly
-- where a message of it is open there, and no thread has two.
use Rattle.std.specs.Prelude.{ℕ, Bool, true, false, cond, not, ◌||◌, ◌==◌, ◌≡◌, ◌≢◌, ◌⊎◌, [], ◌∷◌, Option, Some, None, refl, find, is_some, unwrap_or}
use Rattle.std.specs.List.{list_any}
use Rattle.std.proofs.Common.{sym, ◌∙◌, ap, inl, inr, subst}
use Rattle.std.proofs.lemmas.Bool.{eqb-true, eq-eqb}
use Rattle.mcs_types.specs.declared.id.ObjId.{ObjId}
use Rattle.mcs_types.specs.declared.id.CoreId.{CoreId}
use Rattle.mcs_types.specs.declared.entry.Entry.{Entry}
use Rattle.mcs_types.specs.declared.record.Letter.{Letter}
use Rattle.mcs_types.specs.declared.record.Queue.{Queue}
use Rattle.mcs_types.specs.declared.record.Queue.TheVariants.{Senders, Receivers, Waiters}
use Rattle.mcs_types.specs.declared.record.Rec.{Rec}
use Rattle.mcs_types.specs.declared.record.Rec.TheVariants as rec
use Rattle.mcs_types.specs.Ids.{same}
use Rattle.mcs_book.specs.Logs.{Log, onto, given}
use Rattle.mcs_book.specs.Queues.{queue_of, first_in}
use Rattle.mcs_book.specs.Messages.{next_message, letters, letter, settles, is_open, open_of}
use Rattle.mcs_book.specs.Statuses.{may_enter}
use Rattle.mcs_book.specs.Boots.{boot_log}
use Rattle.mcs_book.specs.Table.{does}
use Rattle.mcs_book.specs.History.{Book, IsLegal, log_of}
use Rattle.mcs_book.specs.Each.{AfterEachLine}
use Rattle.mcs_book.specs.Fair.{IsOpenOf, SendersAreOpen}
use Rattle.mcs_types.proofs.Ids.{same-self, same-equal, parts, both}
use Rattle.mcs_book.proofs.Queues.QueueLaws.{first-stands}
use Rattle.mcs_book.proofs.Messages.MessageLaws.{open_of-open, open_of-letter}
use Rattle.mcs_book.proofs.SoundLogs.Keeping.{is_aside, sent_record, Steps}
use Rattle.mcs_book.proofs.SoundLogs.KeepingRows.{Entering, keeps-does}
use Rattle.mcs_book.proofs.Books.HistoryLaws.{boot-keeps, legal-past, legal-after, after-map}
use Rattle.mcs_book.proofs.Threads.EntersLaws.{IsEntering, enters-ready}
use Rattle.mcs_book.proofs.Queues.NoneBeside.{HasOpen, Beside, Calm, letters-aside, queue-aside, has-open, beside-steps, beside-entering, calm-aside, calm-empty}

-- each open message's sender is queued among the senders of its endpoint, and no thread has two
-- open
pub record Opened (R : Log) : Type 0 where
  pub open_queued : (x e : ObjId) (m : ℕ) → IsOpenOf R x e m → queue_of R x ≡ Some (Senders e)
  pub one : (x e e' : ObjId) (m n : ℕ) → IsOpenOf R x e m → IsOpenOf R x e' n → m ≡ n

-- a message that is open after a record which sends none was open before, and the record does not
-- settle it
pub open-back : (R : Log) (r : Rec) (x e : ObjId) (m : ℕ) → letters (r ∷ R) ≡ letters R → IsOpenOf (r ∷ R) x e m → (settles m r ≡ false) × IsOpenOf R x e m
open-back R r x e m same_letters h =
    let same_letter : letter (r ∷ R) m ≡ letter R m = ap (λ ls. find (λ s. s.number == m) ls) same_letters in
    let p : (is_some (letter (r ∷ R) m) ≡ true) × (not (settles m r || list_any (settles m) R) ≡ true) = parts _ _ h.is_open in
    let q : (settles m r ≡ false) × (not (list_any (settles m) R) ≡ true) = neither (settles m r) (list_any (settles m) R) p.1 in
    (q.0, record { sent = h.sent; is_letter = sym same_letter ∙ h.is_letter; is_open = both _ _ (ap (λ o. is_some o) (sym same_letter) ∙ p.0) q.1; of_sender = h.of_sender; on_endpoint = h.on_endpoint })
  where
    neither : (a b : Bool) → not (a || b) ≡ true → (a ≡ false) × (not b ≡ true)
    neither true b k = absurd cc
    neither false b k = (refl, k)

-- a message that is open after one is sent is that one, or was open before
pub open-sent_back : (R : Log) (s : Letter) (x e : ObjId) (m : ℕ) → IsOpenOf (sent_record s ∷ R) x e m → ((m ≡ next_message R) × (x ≡ s.sender) × (e ≡ s.endpoint)) ⊎ IsOpenOf R x e m
open-sent_back R s x e m h = go (next_message R == m) refl h.is_letter p.0
  where
    new : Letter
    new = record s { number = next_message R }

    p : (is_some (letter (sent_record s ∷ R) m) ≡ true) × (not (list_any (settles m) R) ≡ true)
    p = parts _ _ h.is_open

    go : (b : Bool) → (next_message R == m) ≡ b → cond b (Some new) (letter R m) ≡ Some h.sent → is_some (cond b (Some new) (letter R m)) ≡ true → ((m ≡ next_message R) × (x ≡ s.sender) × (e ≡ s.endpoint)) ⊎ IsOpenOf R x e m
    go true at is there =
        let it : new ≡ h.sent = cc in
        inl (sym (eqb-true (next_message R) m at), sym h.of_sender ∙ ap (λ (l : Letter). l.sender) (sym it), sym h.on_endpoint ∙ ap (λ (l : Letter). l.endpoint) (sym it))
    go false at is there = inr (record { sent = h.sent; is_letter = is; is_open = both _ _ there p.1; of_sender = h.of_sender; on_endpoint = h.on_endpoint })

-- the open message that is found is open
pub open_of-is : (R : Log) (x : ObjId) (s : Letter) → open_of R x ≡ Some s → IsOpenOf R x s.endpoint s.number
open_of-is R x s is = let o : (same s.sender x ≡ true) × (is_open R s.number ≡ true) = open_of-open R x s is in record { sent = s; is_letter = open_of-letter R x s is; is_open = o.1; of_sender = same-equal s.sender x o.0; on_endpoint = refl }

-- a record that sends nothing and moves no thread
opened-still : (R : Log) (r : Rec) → letters (r ∷ R) ≡ letters R → ((y : ObjId) → queue_of (r ∷ R) y ≡ queue_of R y) → Opened R → Opened (r ∷ R)
opened-still R r same_letters queues h = record {
  open_queued = λ x e m o. queues x ∙ h.open_queued x e m ((open-back R r x e m same_letters o).1);
  one = λ x e e' m n o p. h.one x e e' m n ((open-back R r x e m same_letters o).1) ((open-back R r x e' n same_letters p).1);
}

-- who has no open message leaves its queue
opened-parts : (R : Log) (x : ObjId) (q : Queue) → ((e : ObjId) (m : ℕ) → IsOpenOf R x e m → ⊥) → Opened R → Opened (rec.Parts x q ∷ R)
opened-parts R x q none h = record {
  open_queued = λ y e m o. go y e m ((open-back R (rec.Parts x q) y e m refl o).1) (same y x) refl;
  one = λ y e e' m n o p. h.one y e e' m n ((open-back R (rec.Parts x q) y e m refl o).1) ((open-back R (rec.Parts x q) y e' n refl p).1);
}
  where
    go : (y e : ObjId) (m : ℕ) → IsOpenOf R y e m → (b : Bool) → same y x ≡ b → unwrap_or (given b None) (queue_of R y) ≡ Some (Senders e)
    go y e m o true is = absurd (none e m (subst (λ (z : ObjId). IsOpenOf R z e m) (same-equal y x is) o))
    go y e m o false is = h.open_queued y e m o

-- t joins a queue: its open message, if there is one, is of that line
opened-joins : (R : Log) (t : ObjId) (q : Queue) (r : Option ObjId) → ((y e : ObjId) (m : ℕ) → y ≢ t → IsOpenOf R y e m → queue_of R y ≡ Some (Senders e)) → ((e : ObjId) (m : ℕ) → IsOpenOf R t e m → q ≡ Senders e)
    → ((x e e' : ObjId) (m n : ℕ) → IsOpenOf R x e m → IsOpenOf R x e' n → m ≡ n) → Opened (rec.Joins t q r ∷ R)
opened-joins R t q r others mine one = record {
  open_queued = λ y e m o. go y e m ((open-back R (rec.Joins t q r) y e m refl o).1) (same y t) refl;
  one = λ y e e' m n o p. one y e e' m n ((open-back R (rec.Joins t q r) y e m refl o).1) ((open-back R (rec.Joins t q r) y e' n refl p).1);
}
  where
    go : (y e : ObjId) (m : ℕ) → IsOpenOf R y e m → (b : Bool) → same y t ≡ b → unwrap_or (given b (Some q)) (queue_of R y) ≡ Some (Senders e)
    go y e m o true is = ap (λ k. Some k) (mine e m (subst (λ (z : ObjId). IsOpenOf R z e m) (same-equal y t is) o))
    go y e m o false is = others y e m (λ s. let no : true ≡ false = sym (same-self y) ∙ ap (λ (z : ObjId). same y z) s ∙ is in absurd cc) o

-- who is in another queue, or in none, has no open message
other-none : (R : Log) (x : ObjId) (o : Option Queue) → Opened R → queue_of R x ≡ o → ((e : ObjId) → o ≢ Some (Senders e)) → (e : ObjId) (m : ℕ) → IsOpenOf R x e m → ⊥
other-none R x o h at other e m is = other e (sym at ∙ h.open_queued x e m is)

-- once its open message is settled, x has none
settled-none : (R : Log) (r : Rec) (x : ObjId) (s : Letter) → letters (r ∷ R) ≡ letters R → ((m : ℕ) → settles m r ≡ (m == s.number)) → open_of R x ≡ Some s → Opened R → (e : ObjId) (m : ℕ) → IsOpenOf (r ∷ R) x e m → ⊥
settled-none R r x s same_letters settling is h e m o =
    let b : (settles m r ≡ false) × IsOpenOf R x e m = open-back R r x e m same_letters o in
    let it : m ≡ s.number = h.one x e s.endpoint m s.number b.1 (open_of-is R x s is) in
    let no : true ≡ false = sym (eq-eqb m s.number it) ∙ sym (settling m) ∙ b.0 in
    absurd cc

-- who is nowhere does so after another, or it, leaves a queue
parts-none : (R : Log) (t x : ObjId) (q : Queue) → queue_of R t ≡ None → queue_of (rec.Parts x q ∷ R) t ≡ None
parts-none R t x q h = go (same t x)
  where
    go : (b : Bool) → unwrap_or (given b None) (queue_of R t) ≡ None
    go true = refl
    go false = h

-- while t enters it is nowhere, and so has no open message
pub record Idle (t : ObjId) (R : Log) : Type 0 where
  pub beside : Beside t R
  pub opened : Opened R
  pub stands_none : queue_of R t ≡ None

-- when it has ended
record Ended (t : ObjId) (R : Log) : Type 0 where
  beside : Beside t R
  opened : Opened R

module _ (t : ObjId) where
  -- t has no open message
  pub idle-none : (R : Log) → Idle t R → (e : ObjId) (m : ℕ) → IsOpenOf R t e m → ⊥
  idle-none R h = other-none R t None h.opened h.stands_none (λ e k. absurd cc)

  -- the open message of x is settled, and x leaves its queue
  idle-settled : (R : Log) (r : Rec) (x : ObjId) (s : Letter) (q : Queue) → letters (r ∷ R) ≡ letters R → ((y : ObjId) → queue_of (r ∷ R) y ≡ queue_of R y) → ((m : ℕ) → settles m r ≡ (m == s.number))
      → open_of R x ≡ Some s → Beside t (rec.Parts x q ∷ r ∷ R) → Idle t R → Idle t (rec.Parts x q ∷ r ∷ R)
  idle-settled R r x s q same_letters queues settling is b h = record {
    beside = b;
    opened = opened-parts (r ∷ R) x q (settled-none R r x s same_letters settling is h.opened) (opened-still R r same_letters queues h.opened);
    stands_none = parts-none (r ∷ R) t x q (queues t ∙ h.stands_none);
  }

  -- who is no sender leaves its queue
  idle-leaves : (R : Log) (x : ObjId) (q : Queue) → queue_of R x ≡ Some q → ((e : ObjId) → q ≢ Senders e) → Beside t (rec.Parts x q ∷ R) → Idle t R → Idle t (rec.Parts x q ∷ R)
  idle-leaves R x q at other b h = record {
    beside = b;
    opened = opened-parts R x q (other-none R x (Some q) h.opened at (λ e k. let it : q ≡ Senders e = cc in other e it)) h.opened;
    stands_none = parts-none R t x q h.stands_none;
  }

  -- the steps that keep t idle
  pub idle-steps : Steps (Idle t)
  idle-steps = record {
    aside = λ R r e h. record { beside = (beside-steps t).aside R r e h.beside; opened = opened-still R r (letters-aside R r e) (λ y. queue-aside R r y e) h.opened; stands_none = queue-aside R r t e ∙ h.stands_none };
    drops = λ R e x s at is h. idle-settled R (rec.Dropped s.number) x s (Senders e) refl (λ y. refl) (λ m. refl) is ((beside-steps t).drops R e x s at is h.beside) h;
    leaves_none = λ R e x at is h. let no : false ≡ true = ap (λ o. is_some o) (sym is) ∙ has-open R x (h.beside.queued x e at) in absurd cc;
    leaves_receiver = λ R e x at h. idle-leaves R x (Receivers e) at (λ e' k. absurd cc) ((beside-steps t).leaves_receiver R e x at h.beside) h;
    leaves_waiter = λ R n x at h. idle-leaves R x (Waiters n) at (λ e' k. absurd cc) ((beside-steps t).leaves_waiter R n x at h.beside) h;
  }

  -- a message is handed to p, who was among the receivers
  pub idle-hands : (R : Log) (s : Letter) (p : ObjId) → s.number ≡ next_message R → s.sender ≡ t → first_in R (Receivers s.endpoint) ≡ Some p → Idle t R → Idle t (rec.Parts p (Receivers s.endpoint) ∷ rec.Took s.number p ∷ sent_record s ∷ R)
  idle-hands R s p number sender first h = record {
    beside = (beside-entering t).hands R s p number sender first h.beside;
    opened = opened-parts (rec.Took s.number p ∷ sent_record s ∷ R) p (Receivers s.endpoint) (λ e m o. other-none R p (Some (Receivers s.endpoint)) h.opened (first-stands R (Receivers s.endpoint) p first) (λ e' k. absurd cc) e m (back p e m o))
        (record { open_queued = λ x e m o. h.opened.open_queued x e m (back x e m o); one = λ x e e' m n o o'. h.opened.one x e e' m n (back x e m o) (back x e' n o') });
    stands_none = parts-none (rec.Took s.number p ∷ sent_record s ∷ R) t p (Receivers s.endpoint) h.stands_none;
  }
    where
      back : (x e : ObjId) (m : ℕ) → IsOpenOf (rec.Took s.number p ∷ sent_record s ∷ R) x e m → IsOpenOf R x e m
      back x e m o =
          let b : ((m == s.number) ≡ false) × IsOpenOf (sent_record s ∷ R) x e m = open-back (sent_record s ∷ R) (rec.Took s.number p) x e m refl o in
          elim (open-sent_back R s x e m b.1) [ inl (at, who, there) ↦ (let no : true ≡ false = sym (eq-eqb m s.number (at ∙ sym number)) ∙ b.0 in absurd cc) | inr old ↦ old ]

  -- t joins a queue where it has no open message
  idle-joins : (R : Log) (q : Queue) (r : Option ObjId) → Beside t (rec.Joins t q r ∷ R) → Idle t R → Ended t (rec.Joins t q r ∷ R)
  idle-joins R q r b h = record { beside = b; opened = opened-joins R t q r (λ y e m ne o. h.opened.open_queued y e m o) (λ e m o. absurd (idle-none R h e m o)) h.opened.one }

  -- t sends a message, and joins the senders
  idle-alone : (R : Log) (s : Letter) → s.number ≡ next_message R → s.sender ≡ t → first_in R (Receivers s.endpoint) ≡ None → Idle t R → Ended t (rec.Joins s.sender (Senders s.endpoint) None ∷ sent_record s ∷ R)
  idle-alone R s number sender none h = record {
    beside = (beside-entering t).sends_alone R s number sender none h.beside;
    opened = opened-joins (sent_record s ∷ R) s.sender (Senders s.endpoint) None
        (λ y e m ne o. elim (open-sent_back R s y e m o) [ inl (at, who, there) ↦ absurd (ne who) | inr old ↦ h.opened.open_queued y e m old ])
        (λ e m o. elim (open-sent_back R s s.sender e m o) [ inl (at, who, there) ↦ ap (λ k. Senders k) (sym there) | inr old ↦ absurd (mine e m old) ]) one;
  }
    where
      mine : (e : ObjId) (m : ℕ) → IsOpenOf R s.sender e m → ⊥
      mine e m o = idle-none R h e m (subst (λ (z : ObjId). IsOpenOf R z e m) sender o)

      of_sender : (x e : ObjId) (m : ℕ) → x ≡ s.sender → IsOpenOf R x e m → ⊥
      of_sender x e m who o = mine e m (subst (λ (z : ObjId). IsOpenOf R z e m) who o)

      one : (x e e' : ObjId) (m n : ℕ) → IsOpenOf (sent_record s ∷ R) x e m → IsOpenOf (sent_record s ∷ R) x e' n → m ≡ n
      one x e e' m n o p = elim (open-sent_back R s x e m o) [
        | inl (at, who, there) ↦ elim (open-sent_back R s x e' n p) [ inl (at', who', there') ↦ at ∙ sym at' | inr old ↦ absurd (of_sender x e' n who old) ]
        | inr old ↦ elim (open-sent_back R s x e' n p) [ inl (at', who', there') ↦ absurd (of_sender x e m who' old) | inr old' ↦ h.opened.one x e e' m n old old' ]
      ]

  -- the steps of t
  idle-entering : Entering t (Idle t) (Ended t)
  idle-entering = record {
    steps = idle-steps;
    ends = λ R h. record { beside = h.beside; opened = h.opened };
    hands = idle-hands;
    takes = λ R e x s first is h.
        let who : s.sender ≡ x = same-equal s.sender x ((open_of-open R x s is).0) in
        let b : Beside t (rec.Parts s.sender (Senders s.endpoint) ∷ rec.Took s.number t ∷ R) = (beside-entering t).takes R e x s first is h.beside in
        idle-settled R (rec.Took s.number t) s.sender s (Senders s.endpoint) refl (λ y. refl) (λ m. refl) (ap (λ z. open_of R z) who ∙ is) b h;
    sends_alone = idle-alone;
    receives = λ R e r none h. idle-joins R (Receivers e) r ((beside-entering t).receives R e r none h.beside) h;
    waits = λ R n h. idle-joins R (Waiters n) None ((beside-entering t).waits R n h.beside) h;
    gives_up = λ R s h. record { beside = (beside-entering t).gives_up R s h.beside; opened = opened-still R (rec.Holds s None) refl (λ y. refl) h.opened };
  }

-- what holds between lines
pub record Rests (R : Log) : Type 0 where
  pub calm : Calm R
  pub opened : Opened R

-- each entry keeps it
rests-step : (R : Log) (core : CoreId) (t : ObjId) (entry : Entry) → may_enter R core t ≡ true → Rests R → Rests (onto ((does R core t entry).records) R)
rests-step R core t entry enters h =
    let who : IsEntering R t = enters-ready R core t enters in
    let begins : Beside t R = record { ends = h.calm.ends; made = h.calm.made; queued = h.calm.queued; none = h.calm.none; entering = (who.thread, who.made) } in
    let k : Ended t (onto ((does R core t entry).records) R) = keeps-does t (Idle t) (Ended t) (idle-entering t) R core entry (record { beside = begins; opened = h.opened; stands_none = who.stands_none }) in
    let b : Beside t (onto ((does R core t entry).records) R) = k.beside in
    record { calm = record { ends = b.ends; made = b.made; queued = b.queued; none = b.none }; opened = k.opened }

-- each line of a boot keeps it
rests-aside : (R : Log) (r : Rec) → is_aside r ≡ true → Rests R → Rests (r ∷ R)
rests-aside R r e h = record { calm = calm-aside R r e h.calm; opened = opened-still R r (letters-aside R r e) (λ y. queue-aside R r y e) h.opened }

-- it holds at first
rests-empty : Rests []
rests-empty = record { calm = calm-empty; opened = record { open_queued = λ x e m o. let no : None ≡ Some o.sent = o.is_letter in absurd cc; one = λ x e e' m n o p. let no : None ≡ Some o.sent = o.is_letter in absurd cc } }

-- the log of a legal book, and that after each of its lines
pub legal-rests : (b : Book) → IsLegal b → Rests (log_of b)
legal-rests b legal = legal-past Rests rests-step (boot_log b.boot.lines) b.lines legal.lines (boot-keeps Rests rests-empty rests-aside b.boot.lines)

-- it holds after each line of a legal book
pub legal-rests_after : (b : Book) → IsLegal b → AfterEachLine Rests b
legal-rests_after b legal = legal-after Rests rests-step (boot_log b.boot.lines) b.lines legal.lines (boot-keeps Rests rests-empty rests-aside b.boot.lines)

-- then the senders are those with an open message
pub rests-senders : (R : Log) → Rests R → SendersAreOpen R
rests-senders R h = record { queued = queued; open_queued = h.opened.open_queued; one = h.opened.one }
  where
    queued : (x e : ObjId) → queue_of R x ≡ Some (Senders e) → (m : ℕ) × IsOpenOf R x e m
    queued x e at =
        let o : HasOpen R x = h.calm.queued x e at in
        let is : IsOpenOf R x o.sent.endpoint o.number = record { sent = o.sent; is_letter = o.is_letter; is_open = o.open_still; of_sender = o.of_sender; on_endpoint = refl } in
        let stands : Some (Senders o.sent.endpoint) ≡ Some (Senders e) = sym (h.opened.open_queued x o.sent.endpoint o.number is) ∙ at in
        let there : o.sent.endpoint ≡ e = cc in
        (o.number, record { sent = o.sent; is_letter = o.is_letter; is_open = o.open_still; of_sender = o.of_sender; on_endpoint = there })

-- the law, after each line
pub legal-not_cancelled : (b : Book) → IsLegal b → AfterEachLine SendersAreOpen b
legal-not_cancelled b legal = after-map Rests SendersAreOpen rests-senders (boot_log b.boot.lines) b.lines (legal-rests_after b legal)

-- the same of the log so far
pub legal-senders : (b : Book) → IsLegal b → SendersAreOpen (log_of b)
legal-senders b legal = rests-senders (log_of b) (legal-rests b legal)
