-- Sending, receiving and waiting keep a log firm.
use Rattle.std.specs.Prelude.{ℕ, Bool, true, false, cond, ◌&&◌, ◌==◌, ◌≡◌, ◌≢◌, ◌∷◌, Option, Some, None, refl, is_some}
use Rattle.std.specs.Option.{IfSome}
use Rattle.std.proofs.Common.{sym, ◌∙◌, ap, inl, inr, subst}
use Rattle.std.proofs.lemmas.Bool.{eq-eqb}
use Rattle.mcs_types.specs.Views.{Content}
use Rattle.mcs_types.specs.declared.id.ObjId.{ObjId}
use Rattle.mcs_types.specs.declared.id.Kind.TheVariants as kind
use Rattle.mcs_types.specs.declared.cap.Cap.{Cap}
use Rattle.mcs_types.specs.declared.entry.Answer.{Answer}
use Rattle.mcs_types.specs.declared.record.Letter.{Letter}
use Rattle.mcs_types.specs.declared.record.Queue.{Queue}
use Rattle.mcs_types.specs.declared.record.Queue.TheVariants.{Senders, Receivers, Waiters}
use Rattle.mcs_types.specs.declared.record.Rec.TheVariants as rec
use Rattle.mcs_types.specs.declared.record.SendMode.{SendMode}
use Rattle.mcs_types.specs.declared.record.SendMode.TheVariants as how
use Rattle.mcs_book.specs.Logs.{Log, onto}
use Rattle.mcs_book.specs.Objects.{is_alive}
use Rattle.mcs_types.specs.Ids.{is_just}
use Rattle.mcs_book.specs.Contexts.{context_of, home_of}
use Rattle.mcs_book.specs.Chains.{is_unlent}
use Rattle.mcs_book.specs.Cancelling.{let_go}
use Rattle.mcs_book.proofs.Threads.HoldingLaws.{context_of-holder}
use Rattle.mcs_book.specs.Queues.{queue_of, first_in}
use Rattle.mcs_book.specs.Messages.{next_message, letter, open_of}
use Rattle.mcs_book.specs.Notifications.{bound_of, pending}
use Rattle.mcs_book.specs.Pieces.{Piece, ◌then◌, nothing, say, with_any, Act, answers, before}
use Rattle.mcs_book.specs.Taking.{handed}
use Rattle.mcs_book.specs.Sending.{letter_over, sent, sends_to, sends, queues}
use Rattle.mcs_book.specs.Receiving.{if_at_home, go_home, stand, joins_or, hear, take_open, open_of_any, pending_of_any, receive_message, receive_on, free, wait_on}
use Rattle.mcs_book.specs.Fair.{IsFirst, IsFirstOfOne}
use Rattle.mcs_book.specs.Sound.{IsThere, IsFreeReply}
use Rattle.mcs_types.proofs.Ids.{same-equal}
use Rattle.mcs_book.proofs.Queues.QueueLaws.{first-stands}
use Rattle.mcs_book.proofs.Messages.MessageLaws.{open_of-open, open_of-letter, sent-open_at}
use Rattle.mcs_book.proofs.Messages.OpenLaws.{sound-ends}
use Rattle.mcs_book.proofs.Messages.SendersOpen.{Idle, idle-none, idle-steps, idle-hands, open_of-is}
use Rattle.mcs_book.proofs.SoundLogs.Keeping.{onto-append, sent_record, then-next, keeps-handed}
use Rattle.mcs_book.proofs.SoundLogs.KeptLaws.{bound-one}
use Rattle.mcs_book.proofs.Firm.Laws.{Firm, Strict, firm-sound}
use Rattle.mcs_book.proofs.Firm.Taking.{firm-handed, firm-taken, outlasts-handed}
use Rattle.mcs_book.proofs.Firm.Acts.{first-is, Apart, apart, apart-send, Acting, Since, since-send, IsFreed, freed}

-- what holds of the value, if there is one
for-some : {A : Type 0} (P : A → Type 0) (o : Option A) → ((x : A) → o ≡ Some x → P x) → IfSome o P
for-some P None f = tt
for-some P (Some x) f = f x refl

-- a piece, and then an act
pub firm-before : (p : Piece) (act : Act) (R : Log) → Firm (onto ((act (onto (p R) R)).records) (onto (p R) R)) → Firm (onto ((before p act R).records) R)
unfolding before
firm-before p act R h = rw (onto-append (p R) ((act (onto (p R) R)).records) R) h

-- a message just sent is the letter of its number
sent-letter : (R : Log) (s : Letter) → s.number ≡ next_message R → letter (sent_record s ∷ R) s.number ≡ Some s
sent-letter R s number = here (next_message R == s.number) (eq-eqb (next_message R) s.number (sym number))
  where
    it : record s { number = next_message R } ≡ s
    it = λ i. record s { number = sym number i }

    here : (b : Bool) → b ≡ true → cond b (Some (record s { number = next_message R })) (letter R s.number) ≡ Some s
    here true e = ap (λ z. Some z) it
    here false e = absurd cc

-- somebody is in a queue, or does not block
firm-joins_or : (b : Bool) (p : Piece) (R : Log) → Firm (onto (p R) R) → Firm R → Firm (onto ((joins_or b p R).records) R)
unfolding joins_or
firm-joins_or true p R stands firm = stands
firm-joins_or false p R stands firm = firm

-- the reply object that is named, if there is one, is there and free
abbrev pub IsFreeAny : Log → Option ObjId → Type 0
IsFreeAny R r = (d : ObjId) → r ≡ Some d → IsThere R kind.Reply d × IsFreeReply R d

module _ (t : ObjId) where
  -- a pending word comes first
  firm-hear : (R : Log) (n : Option ObjId) (word : Option ℕ) (otherwise : Act) → pending_of_any R n ≡ word → ((m u : ObjId) → n ≡ Some m → bound_of R u ≡ Some m → u ≡ t) → Acting t R → Firm (onto ((otherwise R).records) R) → Firm (onto ((hear t n word otherwise R).records) R)
  unfolding hear
  firm-hear R (Some n) (Some word) otherwise is alone h on = (((h.there, is, λ u bound. alone n u refl bound), tt), h.firm)
  firm-hear R None word otherwise is alone h on = on
  firm-hear R (Some n) None otherwise is alone h on = on

  -- t joins a queue, and may give up its context
  firm-stand : (q : Queue) (r n : Option ObjId) (R : Log) → Strict R (rec.Joins t q r) → Firm R → Firm (onto (stand t q r n R) R)
  unfolding stand go_home
  firm-stand q r n R strict firm = then-next Firm (say (rec.Joins t q r)) (go_home t n) R (go n (context_of S t) refl)
    where
      S : Log
      S = rec.Joins t q r ∷ R

      firm1 : Firm S
      firm1 = (strict, firm)

      gives : (c : ObjId) (b : Bool) → context_of S t ≡ Some c → Firm (onto (let_go (cond b (Some c) None) S) S)
      gives c true is = ((ap (λ o. is_some o) (context_of-holder S t c is), tt), firm1)
      gives c false is = firm1

      go : (n o : Option ObjId) → context_of S t ≡ o → Firm (onto (let_go (if_at_home S n o) S) S)
      go (Some m) (Some c) is = gives c (is_just (home_of S c) m && is_unlent S c) is
      go (Some m) None is = firm1
      go None o is = firm1

  -- t joins the receivers, or does not block
  firm-receives : (R : Log) (e : ObjId) (r : Option ObjId) (blocking : Bool) → IsThere R kind.Endpoint e → IsFreeAny R r → Acting t R → Firm (onto ((joins_or blocking (stand t (Receivers e) r (bound_of R t)) R).records) R)
  firm-receives R e r blocking there unused h =
      firm-joins_or blocking (stand t (Receivers e) r (bound_of R t)) R (firm-stand (Receivers e) r (bound_of R t) R ((h.there, h.idle, h.running, there, for-some (λ d. IsThere R kind.Reply d × IsFreeReply R d) r unused), tt) h.firm) h.firm

  -- the open message of the first sender, if there is one
  firm-take_open : (R : Log) (e : ObjId) (r : Option ObjId) (blocking : Bool) (x : Option ObjId) → first_in R (Senders e) ≡ x → IsThere R kind.Endpoint e → IsFreeAny R r → Acting t R
      → Firm (onto ((take_open t r (open_of_any R x) (joins_or blocking (stand t (Receivers e) r (bound_of R t))) R).records) R)
  unfolding take_open
  firm-take_open R e r blocking None first there unused h = firm-receives R e r blocking there unused h
  firm-take_open R e r blocking (Some x) first there unused h = go (open_of R x) refl
    where
      go : (o : Option Letter) → open_of R x ≡ o → Firm (onto ((take_open t r o (joins_or blocking (stand t (Receivers e) r (bound_of R t))) R).records) R)
      go None is = firm-receives R e r blocking there unused h
      go (Some s) is =
          let who : s.sender ≡ x = same-equal s.sender x ((open_of-open R x s is).0) in
          let stands : queue_of R x ≡ Some (Senders e) = first-stands R (Senders e) x first in
          let opened : queue_of R x ≡ Some (Senders s.endpoint) = h.calm.opened.open_queued x s.endpoint s.number (open_of-is R x s is) in
          let same_line : Some (Senders e) ≡ Some (Senders s.endpoint) = sym stands ∙ opened in
          let on : e ≡ s.endpoint = cc in
          let ahead : IsFirst R (Senders s.endpoint) s.sender = subst (λ (d : ObjId). IsFirst R (Senders d) s.sender) on (subst (λ (z : ObjId). IsFirst R (Senders e) z) (sym who) (first-is R (Senders e) x (firm-sound R h.firm) first)) in
          let one : (l : Letter) → letter R s.number ≡ Some l → s ≡ l = λ l k. let both_are : Some s ≡ Some l = sym (open_of-letter R x s is) ∙ k in cc in
          firm-taken R s t r ((open_of-open R x s is).1) (λ l k. subst (λ (z : Letter). is_alive R z.endpoint ≡ true) (one l k) (subst (λ (d : ObjId). is_alive R d ≡ true) on there.1))
          (λ l k. subst (λ (z : Letter). IsFirstOfOne R z t) (one l k) (inl (ahead, λ at. let no : None ≡ Some (Receivers s.endpoint) = sym h.idle.0 ∙ at in absurd cc)))
          (ahead.0) h.there unused h.firm

  -- a receive, where the reply object is free
  firm-receive_message : (R : Log) (e : ObjId) (r : Option ObjId) (blocking : Bool) → IsThere R kind.Endpoint e → IsFreeAny R r → Acting t R → Firm (onto ((receive_message t e r blocking R).records) R)
  unfolding receive_message
  firm-receive_message R e r blocking there unused h =
      firm-hear R (bound_of R t) (pending_of_any R (bound_of R t)) _ refl (λ m u is bound. bound-one R u t m (firm-sound R h.firm) bound is) h
      (firm-take_open R e r blocking (first_in R (Senders e)) refl there unused h)

  -- a receive with a reply object, which is freed first
  pub firm-receive_on : (S : Log) (e : ObjId) (r : Option ObjId) (blocking : Bool) → IsThere S kind.Endpoint e → ((d : ObjId) → r ≡ Some d → IsThere S kind.Reply d) → (R : Log) → Since S R → Acting t R → Firm (onto ((receive_on t e r blocking R).records) R)
  unfolding receive_on
  firm-receive_on S e None blocking there known R since h = firm-before (with_any None free) _ R (firm-receive_message R e None blocking (there.0, since.alive e there.1) (λ d is. absurd cc) h)
  firm-receive_on S e (Some d) blocking there known R since h =
      let f : IsFreed t S d (onto (free d R) R) = freed t S R d since h in
      let reply : IsThere S kind.Reply d = known d refl in
      firm-before (with_any (Some d) free) _ R (firm-receive_message (onto (free d R) R) e (Some d) blocking (there.0, f.since.alive e there.1) (λ c is.
      let it : d ≡ c = cc in subst (λ (z : ObjId). IsThere (onto (free d R) R) kind.Reply z × IsFreeReply (onto (free d R) R) z) it ((reply.0, f.since.alive d reply.1), f.unused)) f.acting)

  -- a wait on a notification to which no other thread is bound
  pub firm-wait_on : (S : Log) (n : ObjId) (blocking : Bool) → IsThere S kind.Notification n → ((u : ObjId) → bound_of S u ≡ Some n → u ≡ t) → (R : Log) → Since S R → Acting t R → Firm (onto ((wait_on t n blocking R).records) R)
  unfolding wait_on
  firm-wait_on S n blocking there alone R since h =
      firm-hear R (Some n) (pending R n) _ refl (λ m u is bound. let it : n ≡ m = cc in mine u (bound ∙ ap (λ z. Some z) (sym it))) h
      (firm-joins_or blocking (stand t (Waiters n) None (Some n)) R (firm-stand (Waiters n) None (Some n) R ((h.there, h.idle, h.running, (there.0, since.alive n there.1), tt), mine) h.firm) h.firm)
    where
      mine : (u : ObjId) → bound_of R u ≡ Some n → u ≡ t
      mine u bound = alone u (sym (since.bound u) ∙ bound)

  -- a message that t sends
  firm-sent : (R : Log) (cap : Cap) (mode : SendMode) (message : Content) → IsThere R kind.Endpoint cap.obj → Acting t R → Firm (sent_record (letter_over t cap mode message R) ∷ R)
  firm-sent R cap mode message there h = (((h.there, h.idle, there, λ e m o. idle-none t R h.calm e m o), tt), h.firm)

  -- a message is sent, and its sender is in its queue
  pub firm-queues : (R : Log) (cap : Cap) (mode : SendMode) (message : Content) → IsThere R kind.Endpoint cap.obj → Acting t R → Firm (onto ((queues (letter_over t cap mode message) R).records) R)
  unfolding queues
  firm-queues R cap mode message there h =
      then-next Firm (sent (letter_over t cap mode message R)) (say (rec.Joins t (Senders cap.obj) None)) R (((h.there, h.idle, h.running, there, tt), tt), firm-sent R cap mode message there h)

  -- a message is sent, and handed over where somebody receives
  pub firm-sends : (R : Log) (cap : Cap) (mode : SendMode) (message : Content) (answer : Answer) (alone : Act) → IsThere R kind.Endpoint cap.obj → Acting t R → Firm (onto ((alone R).records) R) → Firm (onto ((sends (letter_over t cap mode message) answer alone R).records) R)
  unfolding sends sends_to
  firm-sends R cap mode message answer alone there h on = go (first_in R (Receivers cap.obj)) refl
    where
      s : Letter
      s = letter_over t cap mode message R

      After : Log
      After = sent_record s ∷ R

      one : (l : Letter) → letter After s.number ≡ Some l → s ≡ l
      one l k = let both_are : Some s ≡ Some l = sym (sent-letter R s refl) ∙ k in cc

      go : (o : Option ObjId) → first_in R (Receivers cap.obj) ≡ o → Firm (onto ((sends_to s answer alone o R).records) R)
      go None first = on
      go (Some p) first =
          let ahead : IsFirst R (Receivers cap.obj) p = first-is R (Receivers cap.obj) p (firm-sound R h.firm) first in
          let aside : queue_of R t ≢ Some (Senders cap.obj) = λ at. let no : None ≡ Some (Senders cap.obj) = sym h.idle.0 ∙ at in absurd cc in
          then-next Firm (sent s) (handed s p) R (firm-handed After s p (sent-open_at R s refl (sound-ends R (firm-sound R h.firm)))
          (λ l k. subst (λ (z : Letter). is_alive R z.endpoint ≡ true) (one l k) there.1) (λ l k. subst (λ (z : Letter). IsFirstOfOne After z p) (one l k) (inr (ahead, aside)))
          ahead.0 h.there h.idle (firm-sent R cap mode message there h))

  -- t acts as before once a message was handed over with its context, or where no thread receives
  pub acting-sends : (R : Log) (cap : Cap) (message : Content) (answer nobody : Answer) → IsThere R kind.Endpoint cap.obj → Acting t R
      → let act : Act = sends (letter_over t cap how.Give message) answer (answers nobody nothing) in Acting t (onto ((act R).records) R)
  unfolding sends sends_to
  acting-sends R cap message answer nobody there h = go (first_in R (Receivers cap.obj)) refl (firm-sends R cap how.Give message answer (answers nobody nothing) there h h.firm)
    where
      s : Letter
      s = letter_over t cap how.Give message R

      alone : Act
      alone = answers nobody nothing

      go : (o : Option ObjId) → first_in R (Receivers cap.obj) ≡ o → Firm (onto ((sends_to s answer alone o R).records) R) → Acting t (onto ((sends_to s answer alone o R).records) R)
      go None first firm = h
      go (Some p) first firm =
          let a : Apart t (onto ((sent s then handed s p) R) R) = then-next (Apart t) (sent s) (handed s p) R (outlasts-handed (Apart t) (apart-send t) s p (sent_record s ∷ R) refl ((apart-send t).sends R s (apart t R h))) in
          record {
            firm = firm;
            there = a.there;
            idle = a.idle;
            running = a.running;
            calm = then-next (Idle t) (sent s) (handed s p) R (keeps-handed (Idle t) (idle-steps t) (sent_record s ∷ R) s p (idle-hands t R s p refl refl first h.calm));
          }

  -- who is there stays there, and the bindings stay
  pub since-sends : (S R : Log) (cap : Cap) (message : Content) (answer nobody : Answer) → Since S R
      → let act : Act = sends (letter_over t cap how.Give message) answer (answers nobody nothing) in Since S (onto ((act R).records) R)
  unfolding sends sends_to
  since-sends S R cap message answer nobody h = go (first_in R (Receivers cap.obj))
    where
      s : Letter
      s = letter_over t cap how.Give message R

      go : (o : Option ObjId) → Since S (onto ((sends_to s answer (answers nobody nothing) o R).records) R)
      go None = h
      go (Some p) = then-next (Since S) (sent s) (handed s p) R (outlasts-handed (Since S) (since-send S) s p (sent_record s ∷ R) refl ((since-send S).sends R s h))
