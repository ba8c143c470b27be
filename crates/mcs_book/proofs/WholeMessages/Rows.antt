-- What each row of the table sends, takes and answers is whole.
use Rattle.std.specs.Prelude.{ℕ, Bool, true, false, cond, ◌&&◌, ◌≡◌, ◌≢◌, List, [], ◌∷◌, ◌++◌, Option, Some, None, Ok, Err, refl, unwrap_or}
use Rattle.std.proofs.Common.{sym, ◌∙◌, ap, subst}
use Rattle.mcs_types.specs.Views.{Content}
use Rattle.mcs_types.specs.declared.id.ObjId.{ObjId}
use Rattle.mcs_types.specs.declared.id.Kind.{Kind}
use Rattle.mcs_types.specs.declared.id.Kind.TheVariants.{CNode, Thread, Endpoint, Notification, Reply, Context}
use Rattle.mcs_types.specs.declared.cap.Cap.{Cap}
use Rattle.mcs_types.specs.declared.record.SendMode.TheVariants as how
use Rattle.mcs_types.specs.declared.record.Mode.TheVariants.{Running}
use Rattle.mcs_types.specs.declared.record.Queue.{Queue}
use Rattle.mcs_types.specs.declared.record.Queue.TheVariants.{Senders, Receivers, Waiters}
use Rattle.mcs_types.specs.declared.record.Letter.{Letter}
use Rattle.mcs_types.specs.declared.record.Rec.{Rec}
use Rattle.mcs_types.specs.declared.record.Rec.TheVariants as rec
use Rattle.mcs_types.specs.declared.entry.Answer.{Answer}
use Rattle.mcs_types.specs.declared.entry.Answer.TheVariants.{Done, Waits}
use Rattle.mcs_types.specs.declared.entry.Refusal.TheVariants.{WrongKind}
use Rattle.mcs_types.specs.declared.entry.Step.{Step}
use Rattle.mcs_types.specs.Ids.{same, is_just}
use Rattle.mcs_book.specs.Logs.{Log, onto, given}
use Rattle.mcs_book.specs.Messages.{open_of}
use Rattle.mcs_book.specs.Queues.{queue_of, first_in}
use Rattle.mcs_book.specs.Replies.{owed_by}
use Rattle.mcs_book.specs.Chains.{topped_by}
use Rattle.mcs_book.specs.Contexts.{holder_of, context_of, home_of}
use Rattle.mcs_book.specs.Chains.{is_unlent}
use Rattle.mcs_book.specs.Notifications.{bound_of}
use Rattle.mcs_book.specs.Signalling.{signal}
use Rattle.mcs_book.specs.Cancelling.{let_go}
use Rattle.mcs_book.proofs.Threads.HoldingLaws.{context_of-holder}
use Rattle.mcs_book.specs.Statuses.{mail_of}
use Rattle.mcs_book.specs.Checks.{Checked, ◌>>=◌, ◌>>◌, need}
use Rattle.mcs_book.specs.Rights.{is_kind}
use Rattle.mcs_book.specs.Lookup.{capability, of_kind}
use Rattle.mcs_book.specs.Pieces.{Piece, ◌then◌, nothing, say, with_any, Outcome, Act, answers, silently, before}
use Rattle.mcs_book.specs.Taking.{back_to, give_back, pay}
use Rattle.mcs_book.specs.Sending.{send_by}
use Rattle.mcs_book.specs.Receiving.{if_at_home, go_home, stand, send_receive, joins_or, hear, take_open, open_of_any, receive_message, receive_on, free, wait_on, receive_by, receive_over, reply_at, pay_any}
use Rattle.mcs_book.specs.Slots.{slot}
use Rattle.mcs_book.specs.Objects.{was_made}
use Rattle.mcs_book.specs.Paths.{IsNamed}
use Rattle.mcs_book.proofs.Paths.PathLaws.{capability-named}
use Rattle.mcs_book.proofs.Queues.QueueLaws.{first-stands}
use Rattle.mcs_types.proofs.Ids.{same-self, same_kind-equal}
use Rattle.mcs_book.proofs.SoundLogs.Safety.{IsReplyMade, safe-owed, safe-standing, none-plains}
use Rattle.mcs_book.proofs.Chains.GivingBack.{top-brought, top-found}
use Rattle.mcs_book.specs.Sound.{Sound}
use Rattle.mcs_types.specs.Brings.{message_of}
use Rattle.mcs_book.specs.Fair.{GivesBack}
use Rattle.mcs_book.proofs.SoundLogs.Keeping.{onto-append}
use Rattle.mcs_book.proofs.Books.Checking.{OnPassed, passed-ok, passed-err, passed-after, passed-bind, passed-next}
use Rattle.mcs_book.proofs.SoundLogs.Making.{Makes, is_unheld, unheld-free, Passes, passes-map, passes-append, is_plain, Plain, Quiet, makes-any, plain-back, plain-free, plain-let_go, is_quiet, quiet-signal}
use Rattle.mcs_book.proofs.Messages.MailLaws.{is_still, plain-still, other-still, mail-still, mail-paid}
use Rattle.mcs_book.proofs.WholeMessages.Records.{each-append, AreWhole, quiet-all, plain-all, Begins, begins-plain, begins-plains, begins-paid, begins-owed, WholeAct, IsSending, sends-whole, sends-first, begins-sends, other-held, taken-whole, taken-still, taken-holders}

-- after a check that gives a value, which is known
pub passed-found : {A B : Type 0} (P : B → Type 0) (m : Checked A) (f : A → Checked B) → ((x : A) → m ≡ Ok x → OnPassed P (f x)) → OnPassed P (m >>= f)
unfolding OnPassed ◌>>=◌
passed-found P (Ok x) f h = h x refl
passed-found P (Err refusal) f h = tt

-- a capability of a kind is the one at its address
pub of_kind-found : (R : Log) (t : ObjId) (k : Kind) (a : ℕ) (held : Cap) → of_kind R t k a ≡ Ok held → capability R t a ≡ Ok held
unfolding of_kind ◌>>=◌ ◌>>◌ need
of_kind-found R t k a held h = go (capability R t a) h
  where
    kind_checked : (c : Cap) (b : Bool) → (need b WrongKind >> Ok c) ≡ Ok held → c ≡ held
    kind_checked c true e = cc
    kind_checked c false e = absurd cc

    go : (m : Checked Cap) → (m >>= (λ c. need (is_kind k c) WrongKind >> Ok c)) ≡ Ok held → m ≡ Ok held
    go (Ok c) e = ap (λ x. Ok x) (kind_checked c (is_kind k c) e)
    go (Err refusal) e = absurd cc

-- what is answered: the caller is paid, and the rest is plain
pay-shape : (S : Log) (r : ObjId) (message : Content) (x : ObjId) → owed_by S r ≡ Some x → (rest : List Rec) × (pay r message S ≡ rec.Paid r x message ∷ rest) × Passes is_plain rest
unfolding pay ◌then◌
pay-shape S r message x owed =
    let S' : Log = rec.Turns x Running ∷ rec.Paid r x message ∷ S in (
      rec.Turns x Running ∷ give_back (topped_by S r) x S',
      ap (λ o. with_any o (λ y. say (rec.Paid r y message) then say (rec.Turns y Running) then give_back (topped_by S r) y) S) owed,
      (refl, (plain-back (topped_by S r) x).passes S'),
    )

-- no thread is answered
pay-none : (S : Log) (r : ObjId) (message : Content) → owed_by S r ≡ None → pay r message S ≡ []
unfolding pay ◌then◌
pay-none S r message none = ap (λ o. with_any o (λ y. say (rec.Paid r y message) then say (rec.Turns y Running) then give_back (topped_by S r) y) S) none

-- what began goes on after it
begins-pay : (R : Log) (t : ObjId) (S : Log) (r : ObjId) (message : Content) → Begins R t S → Begins R t (onto (pay r message S) S)
begins-pay R t S r message b = go (owed_by S r) refl
  where
    go : (o : Option ObjId) → owed_by S r ≡ o → Begins R t (onto (pay r message S) S)
    go None none = subst (λ made. Begins R t (onto made S)) (sym (pay-none S r message none)) b
    go (Some x) owed =
        let (rest, shape, plain) = pay-shape S r message x owed in
        subst (λ made. Begins R t (onto made S)) (sym shape) (begins-plains R t (rec.Paid r x message ∷ S) rest plain (begins-paid R t S r x message b))

-- the context whose chain is topped returns at once
pay-holder : (S : Log) (r : ObjId) (message : Content) (x c : ObjId) → owed_by S r ≡ Some x → topped_by S r ≡ Some c → context_of S x ≡ None → holder_of (onto (pay r message S) S) c ≡ Some x
unfolding pay ◌then◌ give_back context_of
pay-holder S r message x c owed top none =
    ap (λ made. holder_of (onto made S) c) (ap (λ o. with_any o (λ y. say (rec.Paid r y message) then say (rec.Turns y Running) then give_back (topped_by S r) y) S) owed ∙ (λ i. rec.Paid r x message ∷ rec.Turns x Running ∷ back_to x (top i) (none i)))
    ∙ holds (same c c) (same-self c)
  where
    holds : (b : Bool) → b ≡ true → unwrap_or (given b (Some x)) (holder_of S c) ≡ Some x
    holds true e = refl
    holds false e = absurd cc

-- who is owed is in no queue, also once it is paid
pay-none_stands : (R : Log) (t : ObjId) (S : Log) (r : ObjId) (message : Content) (x : ObjId) → Begins R t S → owed_by S r ≡ Some x → queue_of (onto (pay r message S) S) x ≡ None
pay-none_stands R t S r message x b owed =
    let (rest, shape, plain) = pay-shape S r message x owed in
    subst (λ made. queue_of (onto made S) x ≡ None) (sym shape) (none-plains (rec.Paid r x message ∷ S) x rest plain (go (queue_of S x) refl))
  where
    go : (o : Option Queue) → queue_of S x ≡ o → queue_of S x ≡ None
    go None is = is
    go (Some q) is = absurd ((safe-standing S x q b.safe is).owed_nothing r owed)

-- what comes after an answer: it reaches no thread but the entering thread, and any other who is in
-- no queue keeps its context
pub record Follows (t : ObjId) (S : Log) (more : List Rec) : Type 0 where
  pub still : (x : ObjId) → x ≢ t → Passes (is_still x) more
  pub holders : (c y : ObjId) → y ≢ t → holder_of S c ≡ Some y → queue_of S y ≡ None → holder_of (onto more S) c ≡ Some y

-- an answer is whole, where nothing more reaches its caller; and the context that it brought
-- returns
pay-whole : (R after : Log) (s : Step) (a : Answer) (S : Log) (r : ObjId) (message : Content) (more : List Rec) → message_of s.entry ≡ Some message → Begins R s.thread S
    → Follows s.thread (onto (pay r message S) S) more → after ≡ onto more (onto (pay r message S) S) → AreWhole R after s a S (pay r message S)
pay-whole R after s a S r message more carries b f is = go (owed_by S r) refl
  where
    back : (x : ObjId) → owed_by S r ≡ Some x → Sound S → GivesBack after S (rec.Paid r x message)
    back x owed sound c top none = (
      top-brought S c r sound top,
      ap (λ z. holder_of z c) is ∙ f.holders c x (begins-owed R s.thread S r x b owed) (pay-holder S r message x c owed (top-found S c r sound top) none) (pay-none_stands R s.thread S r message x b owed),
    )

    go : (o : Option ObjId) → owed_by S r ≡ o → AreWhole R after s a S (pay r message S)
    go None none = subst (λ made. AreWhole R after s a S made) (sym (pay-none S r message none)) tt
    go (Some x) owed =
        let (rest, shape, plain) = pay-shape S r message x owed in
        let all_still : Passes (is_still x) (rest ++ more) = passes-append (is_still x) rest more (passes-map is_plain (is_still x) (plain-still x) rest plain) (f.still x (begins-owed R s.thread S r x b owed)) in
        let ended : after ≡ onto (rest ++ more) (rec.Paid r x message ∷ S) = is ∙ ap (λ made. onto more (onto made S)) shape ∙ sym (onto-append rest more (rec.Paid r x message ∷ S)) in
        subst (λ made. AreWhole R after s a S made) (sym shape) (
          (tt, tt, (carries, ap (λ z. mail_of z x) ended ∙ mail-still (rec.Paid r x message ∷ S) x (rest ++ more) all_still ∙ mail-paid S r x message (safe-owed S r x b.safe owed).alive), tt, tt, back x owed),
          plain-all R after s a (rec.Paid r x message ∷ S) rest plain,
        )

-- a reply object to which a slot holds a capability
pub record HeldReply (R : Log) (o : ObjId) : Type 0 where
  pub reply : o.kind ≡ Reply
  pub cnode : ObjId
  pub index : ℕ
  pub held : Cap
  pub there : slot R cnode index ≡ Some held
  pub to : held.obj ≡ o

-- so is the one that is named, if there is one
abbrev pub HoldsReply : Log → Option ObjId → Type 0
HoldsReply R r = (o : ObjId) → r ≡ Some o → HeldReply R o

-- it was made
held-made : (R : Log) (t : ObjId) (S : Log) (r : Option ObjId) → Begins R t S → HoldsReply R r → (o : ObjId) → r ≡ Some o → IsReplyMade S o
held-made R t S r b h o is = let k : HeldReply R o = h o is in (k.reply, ap (λ z. was_made S z) (sym k.to) ∙ b.held k.cnode k.index k.held k.there)

-- an outcome of the entering thread whose records are whole, and reach no other thread
pub record WholeReceived (R : Log) (s : Step) (S : Log) (o : Outcome) : Type 0 where
  pub whole : Begins R s.thread S → AreWhole R (onto o.records S) s o.answer S o.records
  pub follows : Follows s.thread S o.records

-- an act of such outcomes
pub record WholeReceive (R : Log) (s : Step) (act : Act) : Type 0 where
  pub at : (S : Log) → WholeReceived R s S (act S)

-- a thread that may give up its context takes none from others
home-holders : (t : ObjId) (n : Option ObjId) (S : Log) (c y : ObjId) → y ≢ t → holder_of S c ≡ Some y → holder_of (onto (go_home t n S) S) c ≡ Some y
unfolding go_home
home-holders t n S c y ne h = go n (context_of S t) refl
  where
    gone : (d : ObjId) (b : Bool) → context_of S t ≡ Some d → holder_of (onto (let_go (cond b (Some d) None) S) S) c ≡ Some y
    gone d true is = other-held S c d y None (λ e. let who : Some y ≡ Some t = sym h ∙ ap (λ z. holder_of S z) e ∙ context_of-holder S t d is in ne cc) h
    gone d false is = h

    go : (n o : Option ObjId) → context_of S t ≡ o → holder_of (onto (let_go (if_at_home S n o) S) S) c ≡ Some y
    go (Some m) (Some d) is = gone d (is_just (home_of S d) m && is_unlent S d) is
    go (Some m) None is = h
    go None o is = h

-- the records by which it does so are plain
plain-go_home : (t : ObjId) (n : Option ObjId) → Plain (go_home t n)
unfolding go_home
plain-go_home t n = record { passes = λ S. (plain-let_go (if_at_home S n (context_of S t))).passes S }

-- the thread joins a queue, or is answered at once
received-joins : (R : Log) (s : Step) (S : Log) (blocking : Bool) (q : Queue) (r n : Option ObjId) → HoldsReply R r → WholeReceived R s S (joins_or blocking (stand s.thread q r n) S)
unfolding joins_or stand ◌then◌
received-joins R s S true q r n h =
    let S' : Log = rec.Joins s.thread q r ∷ S in
    let made : List Rec = go_home s.thread n S' in
    let plain : Passes is_plain made = (plain-go_home s.thread n).passes S' in
    record {
      whole = λ b. ((tt, tt, tt, (b.thread, b.alive, b.owed_nothing, held-made R s.thread S r b h), tt, λ sound. tt), plain-all R (onto made S') s Waits S' made plain);
      follows = record { still = λ x ne. (refl, passes-map is_plain (is_still x) (plain-still x) made plain); holders = λ c y ne held none. home-holders s.thread n S' c y ne held };
    }
received-joins R s S false q r n h = record { whole = λ b. tt; follows = record { still = λ x ne. tt; holders = λ c y ne held none. held } }

-- a pending word comes first
received-hear : (R : Log) (s : Step) (S : Log) (n : Option ObjId) (word : Option ℕ) (otherwise : Act) → WholeReceived R s S (otherwise S) → WholeReceived R s S (hear s.thread n word otherwise S)
unfolding hear
received-hear R s S (Some n) (Some word) otherwise h = record { whole = λ b. ((tt, tt, tt, tt, tt, λ sound. tt), tt); follows = record { still = λ x ne. (other-still x s.thread ne, tt); holders = λ c y ne held none. held } }
received-hear R s S None word otherwise h = h
received-hear R s S (Some n) None otherwise h = h

-- the open message of the first sender, if there is one
received-open : (R : Log) (s : Step) (S : Log) (e : ObjId) (r x : Option ObjId) (otherwise : Act) → HoldsReply R r → first_in S (Senders e) ≡ x → WholeReceived R s S (otherwise S) → WholeReceived R s S (take_open s.thread r (open_of_any S x) otherwise S)
unfolding take_open
received-open R s S e r None otherwise replies first h = h
received-open R s S e r (Some x) otherwise replies first h = go (open_of S x) refl
  where
    go : (o : Option Letter) → open_of S x ≡ o → WholeReceived R s S (take_open s.thread r o otherwise S)
    go None is = h
    go (Some l) is = record { whole = λ b. taken-whole R s S x (Senders e) l r b (first-stands S (Senders e) x first) (held-made R s.thread S r b replies) is; follows = record { still = λ y ne. taken-still S s.thread y l r ne; holders = λ c y ne held none. taken-holders S s.thread x (Senders e) l r c y (first-stands S (Senders e) x first) is held none } }

-- no holder changes by records that give and take no context
unheld-holders : (S : Log) (c : ObjId) (made : List Rec) → Passes is_unheld made → holder_of (onto made S) c ≡ holder_of S c
unheld-holders S c [] h = refl
unheld-holders S c (r ∷ made) h = unheld-holders (r ∷ S) c made h.1 ∙ one r h.0
  where
    one : (r : Rec) → is_unheld r ≡ true → holder_of (r ∷ S) c ≡ holder_of S c
    one (rec.Holds k t) e = absurd cc
    one _ e = refl

-- a piece of plain records that gives and takes no context, and then a receive
receive-before : (R : Log) (s : Step) (p : Piece) (act : Act) → Plain p → Makes is_unheld p → WholeReceive R s act → WholeReceive R s (before p act)
unfolding before
receive-before R s p act hp hu ha = record {
  at = λ S.
      let made : List Rec = p S in
      let o : Outcome = act (onto made S) in
      let h : WholeReceived R s (onto made S) o = ha.at (onto made S) in
      record {
        whole = λ b. subst (λ after. AreWhole R after s o.answer S (made ++ o.records)) (sym (onto-append made o.records S))
            (each-append _ S made o.records (plain-all R (onto o.records (onto made S)) s o.answer S made (hp.passes S)) (h.whole (begins-plains R s.thread S made (hp.passes S) b)));
        follows = record {
          still = λ x ne. passes-append (is_still x) made o.records (passes-map is_plain (is_still x) (plain-still x) made (hp.passes S)) (h.follows.still x ne);
          holders = λ c y ne held none. ap (λ z. holder_of z c) (onto-append made o.records S) ∙ h.follows.holders c y ne (unheld-holders S c made (hu.passes S) ∙ held) (none-plains S y made (hp.passes S) none);
        };
      };
}

-- a receive
receive-message : (R : Log) (s : Step) (e : ObjId) (r : Option ObjId) (blocking : Bool) → HoldsReply R r → WholeReceive R s (receive_message s.thread e r blocking)
unfolding receive_message
receive-message R s e r blocking h = record { at = λ S. received-hear R s S _ _ _ (received-open R s S e r (first_in S (Senders e)) _ h refl (received-joins R s S blocking (Receivers e) r (bound_of S s.thread) h)) }

-- a receive with a reply object
receive-on : (R : Log) (s : Step) (e : ObjId) (r : Option ObjId) (blocking : Bool) → HoldsReply R r → WholeReceive R s (receive_on s.thread e r blocking)
unfolding receive_on
receive-on R s e r blocking h = receive-before R s (with_any r free) _ (makes-any is_plain r free plain-free) (makes-any is_unheld r free unheld-free) (receive-message R s e r blocking h)

-- no reply object
holds-none : (R : Log) → HoldsReply R None
holds-none R o is = absurd cc

-- a wait
wait-on : (R : Log) (s : Step) (n : ObjId) (blocking : Bool) → WholeReceive R s (wait_on s.thread n blocking)
unfolding wait_on
wait-on R s n blocking = record { at = λ S. received-hear R s S _ _ _ (received-joins R s S blocking (Waiters n) None (Some n) (holds-none R)) }

-- a reply object that is looked up is held by a slot
abbrev pub FindsReply : Log → Checked (Option ObjId) → Type 0
FindsReply R reply = (r : Option ObjId) → reply ≡ Ok r → HoldsReply R r

-- a receive, by the kind of its source
receive-by : (k : Kind) (R : Log) (s : Step) (held : Cap) (reply : Checked (Option ObjId)) (blocking : Bool) → FindsReply R reply → OnPassed (WholeReceive R s) (receive_by k R s.thread held reply blocking)
unfolding receive_by
receive-by Endpoint R s held reply blocking h = passed-next _ _ _ (passed-found _ _ _ (λ r e. passed-ok _ _ (receive-on R s held.obj r blocking (h r e))))
receive-by Notification R s held reply blocking h = passed-next _ _ _ (passed-next _ _ _ (passed-ok _ _ (wait-on R s held.obj blocking)))
receive-by CNode R s held reply blocking h = passed-err _ _
receive-by Thread R s held reply blocking h = passed-err _ _
receive-by Reply R s held reply blocking h = passed-err _ _
receive-by Context R s held reply blocking h = passed-err _ _

-- a receive over a capability
pub receive-over : (R : Log) (s : Step) (held : Cap) (reply : Checked (Option ObjId)) (blocking : Bool) → FindsReply R reply → OnPassed (WholeReceive R s) (receive_over R s.thread held reply blocking)
unfolding receive_over
receive-over R s held reply blocking h = receive-by held.obj.kind R s held reply blocking h

-- what is looked up as a reply object is held by a slot
pub reply-at : (R : Log) (t : ObjId) (address : ℕ) → FindsReply R (reply_at R t address)
unfolding reply_at of_kind ◌>>=◌ ◌>>◌ need
reply-at R t address r found = go (capability R t address) refl found
  where
    kind_checked : (c : Cap) → capability R t address ≡ Ok c → (b : Bool) → is_kind Reply c ≡ b → ((need b WrongKind >> Ok c) >>= (λ c. Ok (Some c.obj))) ≡ Ok r → HoldsReply R r
    kind_checked c at true is e o named =
        let n : IsNamed R t address c = capability-named R t address c at in
        let it : Some c.obj ≡ r = cc in
        let whole : Some c.obj ≡ Some o = it ∙ named in
        let obj : c.obj ≡ o = cc in
        record { reply = ap (λ (z : ObjId). z.kind) (sym obj) ∙ same_kind-equal c.obj.kind Reply is; cnode = n.named.at.cnode; index = n.named.at.index; held = c; there = n.named.there; to = obj }
    kind_checked c at false is e o named = absurd cc

    go : (m : Checked Cap) → capability R t address ≡ m → ((m >>= (λ c. need (is_kind Reply c) WrongKind >> Ok c)) >>= (λ c. Ok (Some c.obj))) ≡ Ok r → HoldsReply R r
    go (Ok c) at e = kind_checked c at (is_kind Reply c) refl e
    go (Err refusal) at e = absurd cc

-- no reply object is looked up
pub no-reply : (R : Log) → FindsReply R (Ok None)
no-reply R r e o is = let none : None ≡ r = cc in let clash : None ≡ Some o = none ∙ is in absurd cc

-- one that was found is so again
pub found-reply : (R : Log) (r : Option ObjId) → HoldsReply R r → FindsReply R (Ok r)
found-reply R r h k e o is = let it : r ≡ k = cc in h o (it ∙ is)

-- a receive is an act
act-receive : (R : Log) (s : Step) (act : Act) → WholeReceive R s act → WholeAct R s act
act-receive R s act h = record { whole = λ S b. (h.at S).whole b }

-- a receive is one of the acts that a row may be
pub act-receives : (R : Log) (s : Step) (m : Checked Act) → OnPassed (WholeReceive R s) m → OnPassed (WholeAct R s) m
unfolding OnPassed
act-receives R s (Ok act) h = act-receive R s act h
act-receives R s (Err refusal) h = tt

-- a quiet piece
pub act-quiet : (R : Log) (s : Step) (a : Answer) (p : Piece) → Quiet p → OnPassed (WholeAct R s) (Ok (answers a p))
act-quiet R s a p h = passed-ok _ _ (record { whole = λ S b. quiet-all R (onto (p S) S) s a S (p S) (h.passes S) })

-- an answer is paid
act-pay : (R : Log) (s : Step) (a : Answer) (r : ObjId) (message : Content) → message_of s.entry ≡ Some message → WholeAct R s (answers a (pay r message))
act-pay R s a r message carries = record { whole = λ S b. pay-whole R (onto (pay r message S) S) s a S r message [] carries b (record { still = λ x ne. tt; holders = λ c y ne held none. held }) refl }

-- an answer is paid, and then its payer receives
pub act-pay_receive : (R : Log) (s : Step) (r : Option ObjId) (message : Content) (act : Act) → message_of s.entry ≡ Some message → WholeReceive R s act → WholeAct R s (before (pay_any r message) act)
unfolding before
act-pay_receive R s None message act carries h = act-receive R s act h
act-pay_receive R s (Some r) message act carries h = record {
  whole = λ S b.
      let made : List Rec = pay r message S in
      let o : Outcome = act (onto made S) in
      let k : WholeReceived R s (onto made S) o = h.at (onto made S) in
      each-append _ S made o.records (pay-whole R (onto (made ++ o.records) S) s o.answer S r message o.records carries b k.follows (onto-append made o.records S))
      (subst (λ after. AreWhole R after s o.answer (onto made S) o.records) (sym (onto-append made o.records S)) (k.whole (begins-pay R s.thread S r message b)));
}

-- a send, by the kind of its capability
pub act-send_by : (k : Kind) (R : Log) (s : Step) (held : Cap) (message : Content) (alone : Act) → IsSending R s held message → WholeAct R s alone → OnPassed (WholeAct R s) (send_by k how.Plain s.thread held message alone)
unfolding send_by
act-send_by Endpoint R s held message alone h ha = passed-next _ _ _ (passed-ok _ _ (sends-whole R s held how.Plain message Done alone h ha))
act-send_by Notification R s held message alone h ha = passed-next _ _ _ (act-quiet R s Done _ (quiet-signal held.obj held.badge))
act-send_by Reply R s held message alone h ha = passed-ok _ _ (act-pay R s Done held.obj message h.carries)
act-send_by CNode R s held message alone h ha = passed-err _ _
act-send_by Thread R s held message alone h ha = passed-err _ _
act-send_by Context R s held message alone h ha = passed-err _ _

-- what began goes on after a quiet record
begins-quiet : (R : Log) (t : ObjId) (S : Log) (r : Rec) → is_quiet r ≡ true → Begins R t S → Begins R t (r ∷ S)
begins-quiet R t S (rec.Heard x n word) e b = record { thread = b.thread; alive = b.alive; stands_none = b.stands_none; owed_nothing = b.owed_nothing; safe = (tt, b.safe); held = b.held }
begins-quiet R t S (rec.Sent x d mode badge message) e b = absurd cc
begins-quiet R t S (rec.Took m p) e b = absurd cc
begins-quiet R t S (rec.Paid r x message) e b = absurd cc
begins-quiet R t S (rec.Joins x q reply) e b = absurd cc
begins-quiet R t S (rec.Owes r x c) e b = absurd cc
begins-quiet R t S (rec.Slot c i held) e b = absurd cc
begins-quiet R t S (rec.Made o form) e b = absurd cc
begins-quiet R t S (rec.Closed o) e b = absurd cc
begins-quiet R t S r e b = begins-plain R t S r refl b

-- and after several
begins-quiets : (R : Log) (t : ObjId) (S : Log) (made : List Rec) → Passes is_quiet made → Begins R t S → Begins R t (onto made S)
begins-quiets R t S [] h b = b
begins-quiets R t S (r ∷ made) h b = begins-quiets R t (r ∷ S) made h.1 (begins-quiet R t S r h.0 b)

-- what is sent before a receive: it is whole where what comes after it reaches no other thread, and
-- the entering thread goes on
pub record WholeFirst (R : Log) (s : Step) (p : Piece) : Type 0 where
  pub whole : (S after : Log) (a : Answer) (more : List Rec) → Begins R s.thread S → Follows s.thread (onto (p S) S) more → after ≡ onto more (onto (p S) S) → AreWhole R after s a S (p S)
  pub begins : (S : Log) → Begins R s.thread S → Begins R s.thread (onto (p S) S)

-- a send with the sender's context, by the kind of its capability
pub first-send_by : (k : Kind) (R : Log) (s : Step) (held : Cap) (message : Content) → IsSending R s held message → OnPassed (λ send. WholeFirst R s (silently send)) (send_by k how.Give s.thread held message (answers Done nothing))
unfolding send_by
first-send_by Endpoint R s held message h = passed-next _ _ _ (passed-ok (λ send. WholeFirst R s (silently send)) _ (record {
  whole = λ S after a more b f is. sends-first R after s held message Done Done a S more h b f.still is;
  begins = λ S b. begins-sends R s.thread held message Done Done S b;
}))
first-send_by Notification R s held message h = passed-next _ _ _ (passed-ok (λ send. WholeFirst R s (silently send)) _ (record {
  whole = λ S after a more b f is. quiet-all R after s a S (signal held.obj held.badge S) ((quiet-signal held.obj held.badge).passes S);
  begins = λ S b. begins-quiets R s.thread S (signal held.obj held.badge S) ((quiet-signal held.obj held.badge).passes S) b;
}))
first-send_by Reply R s held message h = passed-ok (λ send. WholeFirst R s (silently send)) _ (record {
  whole = λ S after a more b f is. pay-whole R after s a S held.obj message more h.carries b f is;
  begins = λ S b. begins-pay R s.thread S held.obj message b;
})
first-send_by CNode R s held message h = passed-err _ _
first-send_by Thread R s held message h = passed-err _ _
first-send_by Context R s held message h = passed-err _ _

-- a piece that is sent, and then a receive
act-first_receive : (R : Log) (s : Step) (p : Piece) (act : Act) → WholeFirst R s p → WholeReceive R s act → WholeAct R s (before p act)
unfolding before
act-first_receive R s p act f h = record {
  whole = λ S b.
      let made : List Rec = p S in
      let o : Outcome = act (onto made S) in
      let k : WholeReceived R s (onto made S) o = h.at (onto made S) in
      each-append _ S made o.records (f.whole S (onto (made ++ o.records) S) o.answer o.records b k.follows (onto-append made o.records S))
      (subst (λ after. AreWhole R after s o.answer (onto made S) o.records) (sym (onto-append made o.records S)) (k.whole (f.begins S b)));
}

-- sends, and then receives
pub act-send_receive : (R : Log) (s : Step) (sending : Checked Act) (address : ℕ) (reply : Checked (Option ObjId)) → OnPassed (λ send. WholeFirst R s (silently send)) sending → FindsReply R reply
    → OnPassed (WholeAct R s) (send_receive R s.thread sending address reply)
unfolding send_receive
act-send_receive R s sending address reply sends finds = passed-after (λ send. WholeFirst R s (silently send)) (WholeAct R s) sending _ sends (λ send f. passed-bind _ _ _ (λ source.
    passed-after (WholeReceive R s) (WholeAct R s) _ _ (receive-over R s source reply true finds) (λ act k. passed-ok (WholeAct R s) _ (act-first_receive R s (silently send) act f k))))
