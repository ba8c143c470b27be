-- Nothing is known of what was never made, and nothing of an object that is asked for as another
-- kind. So logs that answer alike of what was made answer alike of everything.
use Rattle.std.specs.Prelude.{ℕ, zero, suc, ◌+◌, ◌^◌, ◌<◌, ◌≤◌, ◌≡◌, ◌⊎◌, ◌&&◌, ◌||◌, ◌==◌, Bool, true, false, not, cond, nat_le, List, [], ◌∷◌, Option, Some, None, option_and_then, option_map}
use Rattle.std.specs.Option.{IfSome}
use Rattle.std.proofs.lemmas.Bool.{eqb-true}
use Rattle.std.proofs.Common.{refl, ap, sym, ◌∙◌, subst, arith, inl, inr}
use Rattle.mcs_types.specs.declared.id.ObjId.{ObjId}
use Rattle.mcs_types.specs.declared.id.CoreId.{CoreId}
use Rattle.mcs_types.specs.declared.id.Kind.{Kind}
use Rattle.mcs_types.specs.declared.id.Kind.TheVariants as kind
use Rattle.mcs_types.specs.declared.cap.Cap.{Cap}
use Rattle.mcs_types.specs.declared.record.Ending.{Ending}
use Rattle.mcs_types.specs.declared.record.Ending.TheVariants as ending
use Rattle.mcs_types.specs.declared.record.Form.{Form}
use Rattle.mcs_types.specs.declared.record.Form.TheVariants as form
use Rattle.mcs_types.specs.declared.record.Letter.{Letter}
use Rattle.mcs_types.specs.declared.record.Queue.{Queue}
use Rattle.mcs_types.specs.declared.record.Queue.TheVariants.{Senders, Receivers, Waiters}
use Rattle.mcs_types.specs.declared.record.Rec.TheVariants as rec
use Rattle.mcs_types.specs.Chains.{taken_off, ended}
use Rattle.mcs_types.specs.Ids.{same, same_kind, is_just}
use Rattle.mcs_types.proofs.Ids.{same_kind-equal, same_kind-self, same-equal, same-self, parts}
use Rattle.mcs_book.specs.Logs.{Log, counted}
use Rattle.mcs_book.specs.Objects.{was_made, was_closed, is_alive, form_of, makes_kind}
use Rattle.mcs_book.specs.Queues.{queue_of, queued_in}
use Rattle.mcs_book.specs.Growing.{Waiter, growing_queue, growing_open, growing_chain, threads_in, unless_number, is_among}
use Rattle.mcs_book.specs.Chains.{chain_of}
use Rattle.mcs_book.specs.Contexts.{holder_of, home_of}
use Rattle.mcs_book.specs.Lookup.{radix_kept}
use Rattle.mcs_book.specs.Messages.{next_message, open_of}
use Rattle.mcs_book.specs.Notifications.{pending}
use Rattle.mcs_book.specs.Replies.{owed_by}
use Rattle.mcs_book.specs.Slots.{SlotName, slot, count_of, is_cap_to, written}
use Rattle.mcs_book.specs.Sound.{Sound, IsThere, IsFormOf, IsLineThere}
use Rattle.mcs_book.proofs.Objects.MadeLaws.{alive-made}
use Rattle.mcs_book.proofs.Objects.Same.{is_queue-some, is_just-some}
use Rattle.mcs_book.proofs.Queues.QueueLaws.{among-line, queued_in-growing}
use Rattle.mcs_book.proofs.Chains.ChainLaws.{chain_of-growing}
use Rattle.mcs_book.proofs.Messages.OpenLaws.{open_of-growing}
use Rattle.mcs_book.proofs.SoundLogs.KeptLaws.{given-split, held-there, home-there, line-there, owed-there, slot-alive}
use Rattle.mcs_threads.specs.declared.row.ThreadRow.{ThreadRow}
use Rattle.mcs_state.specs.Questions.{word_of}
use Rattle.mcs_state.specs.Saying.{row_said}
use Rattle.mcs_state.specs.Tables.{core_kept, core_said}
use Rattle.mcs_state.proofs.Saying.{form-fits, formed, row-there}
use Rattle.mcs_state.proofs.Answering.{made-where}
use Rattle.mcs_explore_equivalence.specs.ButNumbers.{unnumbered}
use Rattle.mcs_explore_equivalence.specs.Answers.{IsMade, AnswerAlike, AnswerButNumbers}

-- each question has the same answer but for the numbers of messages, whatever it is asked of
pub record AnswerAll (R S : Log) : Type 0 where
  pub counts : (k : Kind) → counted (makes_kind k) R ≡ counted (makes_kind k) S
  pub made : (o : ObjId) → was_made R o ≡ was_made S o
  pub there : (o : ObjId) → is_alive R o ≡ is_alive S o
  pub rows : (t : ObjId) → row_said R t ≡ row_said S t
  pub letters : (t : ObjId) → option_map unnumbered (open_of R t) ≡ option_map unnumbered (open_of S t)
  pub lines : (q : Queue) → queued_in R q ≡ queued_in S q
  pub words : (n : ObjId) → word_of R n ≡ word_of S n
  pub owed : (r : ObjId) → owed_by R r ≡ owed_by S r
  pub cores : (s : ObjId) → core_said R s ≡ core_said S s
  pub holders : (s : ObjId) → holder_of R s ≡ holder_of S s
  pub homes : (s : ObjId) → home_of R s ≡ home_of S s
  pub chains : (s : ObjId) → chain_of R s ≡ chain_of S s
  pub radices : (c : ObjId) → radix_kept (form_of R c) ≡ radix_kept (form_of S c)
  pub slots : (c : ObjId) (i : ℕ) → slot R c i ≡ slot S c i
  pub held : (o : ObjId) → count_of R o ≡ count_of S o

-- what is there was made
there-made : (R : Log) (k : Kind) (o : ObjId) → IsThere R k o → IsMade R k o
there-made R k o h = (h.0, alive-made R o h.1)

-- what was made stays made
made-still : (a b : Bool) → b ≡ true → (a || b) ≡ true
made-still true b h = refl
made-still false b h = h

-- an object of which something is known as one of a kind was made, and is of that kind
row-made : (R : Log) (t : ObjId) (r : ThreadRow) → Sound R → row_said R t ≡ Some r → IsMade R kind.Thread t
row-made R t r sound h = there-made R kind.Thread t (row-there R t r sound (sym h))

-- a message that is left was there before
before : {P : Type 0} (m : ℕ) (o : Option Letter) (s : Letter) → unless_number m o ≡ Some s → ((l : Letter) → o ≡ Some l → P) → P
before m None s h later = absurd cc
before m (Some l) s h later = later l refl

-- a message was sent by a thread that was made
sender-made : (R : Log) (x : ObjId) (s : Letter) → Sound R → growing_open R x ≡ Some s → IsMade R kind.Thread x
sender-made [] x s sound h = absurd cc
sender-made (rec.Made o f ∷ R) x s sound h = let m = sender-made R x s sound.1 h in (m.0, made-still (same x o) (was_made R x) m.1)
sender-made (rec.Sent y e mode badge message ∷ R) x s sound h = go (same y x) refl h (sender-made R x s sound.1)
  where
    go : (b : Bool) → same y x ≡ b → cond b (Some (record { number = next_message R; sender = y; endpoint = e; mode = mode; badge = badge; message = message })) (growing_open R x) ≡ Some s
        → (growing_open R x ≡ Some s → IsMade R kind.Thread x) → IsMade R kind.Thread x
    go true is k later = subst (λ z. IsMade R kind.Thread z) (same-equal y x is) (there-made R kind.Thread y sound.0.0)
    go false is k later = later k
sender-made (rec.Took m p ∷ R) x s sound h = before m (growing_open R x) s h (λ l. sender-made R x l sound.1)
sender-made (rec.Dropped m ∷ R) x s sound h = before m (growing_open R x) s h (λ l. sender-made R x l sound.1)
sender-made (_ ∷ R) x s sound h = sender-made R x s sound.1 h

open-made : (R : Log) (x : ObjId) (s : Letter) → Sound R → open_of R x ≡ Some s → IsMade R kind.Thread x
open-made R x s sound h = sender-made R x s sound (sym (open_of-growing R x sound) ∙ h)

numberless-made : (R : Log) (x : ObjId) (s : Letter) → Sound R → option_map unnumbered (open_of R x) ≡ Some s → IsMade R kind.Thread x
numberless-made R x s sound h = go (open_of R x) refl h
  where
    go : (o : Option Letter) → open_of R x ≡ o → option_map unnumbered o ≡ Some s → IsMade R kind.Thread x
    go None e k = absurd cc
    go (Some l) e k = open-made R x l sound e

-- the thread that is first in a queue is in a queue whose object exists
line-made : (R : Log) (q : Queue) (t : ObjId) (ts : List ObjId) → Sound R → queued_in R q ≡ t ∷ ts → IsLineThere R q
line-made R q t ts sound h = go (growing_queue R q) refl (sym (queued_in-growing R q sound) ∙ h)
  where
    go : (ws : List Waiter) → growing_queue R q ≡ ws → threads_in ws ≡ t ∷ ts → IsLineThere R q
    go [] e k = absurd cc
    go (w ∷ ws) e k = line-there R w.thread q sound (is_queue-some (queue_of R w.thread) q (sym (among-line R w.thread q sound) ∙ ap (λ vs. is_among w.thread vs) e ∙ ap (λ b. b || is_among w.thread ws) (same-self w.thread)))

-- a pending word is one of a notification
word-made : (R : Log) (n : ObjId) (word : ℕ) → word_of R n ≡ Some word → IsMade R kind.Notification n
word-made R n word h = go (same_kind n.kind kind.Notification) refl (is_alive R n) refl h
  where
    go : (b : Bool) → same_kind n.kind kind.Notification ≡ b → (c : Bool) → is_alive R n ≡ c → cond (b && c) (pending R n) None ≡ Some word → IsMade R kind.Notification n
    go true is true e k = (same_kind-equal n.kind kind.Notification is, alive-made R n e)
    go true is false e k = absurd cc
    go false is c e k = absurd cc

owed-made : (R : Log) (r x : ObjId) → Sound R → owed_by R r ≡ Some x → IsMade R kind.Reply r
owed-made R r x sound h = there-made R kind.Reply r (owed-there R r x sound h).0

-- a form with a core is one of a context
core-kind : (k : Kind) (core : CoreId) → IsFormOf k (form.OnCore core) → k ≡ kind.Context
core-kind kind.Context core h = refl
core-kind kind.CNode core h = absurd h
core-kind kind.Thread core h = absurd h
core-kind kind.Endpoint core h = absurd h
core-kind kind.Notification core h = absurd h
core-kind kind.Reply core h = absurd h

core-made : (R : Log) (s : ObjId) (core : CoreId) → Sound R → core_said R s ≡ Some core → IsMade R kind.Context s
core-made R s core sound h = go (is_alive R s) refl (form_of R s) refl h
  where
    go : (b : Bool) → is_alive R s ≡ b → (o : Option Form) → form_of R s ≡ o → cond b (option_and_then core_kept o) None ≡ Some core → IsMade R kind.Context s
    go true e (Some (form.OnCore c)) f k = (core-kind s.kind c (form-fits R s (form.OnCore c) sound f), alive-made R s e)
    go true e None f k = absurd cc
    go true e (Some form.Plain) f k = absurd cc
    go true e (Some (form.Slots n)) f k = absurd cc
    go true e (Some (form.Runner m r)) f k = absurd cc
    go false e o f k = absurd cc

holder-made : (R : Log) (s t : ObjId) → Sound R → holder_of R s ≡ Some t → IsMade R kind.Context s
holder-made R s t sound h = there-made R kind.Context s (held-there R s t sound h).0

home-made : (R : Log) (s n : ObjId) → Sound R → home_of R s ≡ Some n → IsMade R kind.Context s
home-made R s n sound h = there-made R kind.Context s (home-there R s n sound h).0

-- a context that was never made has no chain
chain-unmade : (R : Log) (s : ObjId) → Sound R → (IsMade R kind.Context s → ⊥) → growing_chain R s ≡ []
chain-unmade [] s sound new = refl
chain-unmade (rec.Made o f ∷ R) s sound new = chain-unmade R s sound.1 (λ m. new (m.0, made-still (same s o) (was_made R s) m.1))
chain-unmade (rec.Owes r x brought ∷ R) s sound new = go (is_just brought s) refl (chain-unmade R s sound.1 new)
  where
    held : (o : Option ObjId) → o ≡ Some s → IfSome o (λ c. holder_of R c ≡ Some x) → holder_of R s ≡ Some x
    held (Some c) e h = let it : c ≡ s = cc in subst (λ z. holder_of R z ≡ Some x) it h
    held None e h = absurd cc

    go : (b : Bool) → is_just brought s ≡ b → growing_chain R s ≡ [] → cond b (r ∷ growing_chain R s) (growing_chain R s) ≡ []
    go true is later = absurd (new (holder-made R s x sound.1 (held brought (is_just-some brought s is) sound.0.4)))
    go false is later = later
chain-unmade (rec.Paid r x message ∷ R) s sound new = ap (taken_off r) (chain-unmade R s sound.1 new)
chain-unmade (rec.Void r x how ∷ R) s sound new = ap (ended how r) (chain-unmade R s sound.1 new) ∙ go how
  where
    go : (e : Ending) → ended e r [] ≡ []
    go ending.Deleted = refl
    go ending.Cancelled = refl
chain-unmade (rec.Closed o ∷ R) s sound new = go (same s o) (growing_chain R s) (chain-unmade R s sound.1 new)
  where
    go : (b : Bool) (os : List ObjId) → os ≡ [] → cond b [] os ≡ []
    go true os e = refl
    go false os e = e
chain-unmade (_ ∷ R) s sound new = chain-unmade R s sound.1 new

-- a form with a radix is one of a CNode
radix-kind : (k : Kind) (n : ℕ) → IsFormOf k (form.Slots n) → (k ≡ kind.CNode) × (n < 9)
radix-kind kind.CNode n h = (refl, h)
radix-kind kind.Context n h = absurd h
radix-kind kind.Thread n h = absurd h
radix-kind kind.Endpoint n h = absurd h
radix-kind kind.Notification n h = absurd h
radix-kind kind.Reply n h = absurd h

-- a CNode that was never made has no radix
radix-unmade : (R : Log) (c : ObjId) → Sound R → (IsMade R kind.CNode c → ⊥) → radix_kept (form_of R c) ≡ 0
radix-unmade R c sound new = go (form_of R c) refl
  where
    go : (o : Option Form) → form_of R c ≡ o → radix_kept o ≡ 0
    go None e = refl
    go (Some form.Plain) e = refl
    go (Some (form.OnCore k)) e = refl
    go (Some (form.Runner m r)) e = refl
    go (Some (form.Slots n)) e = absurd (new ((radix-kind c.kind n (form-fits R c (form.Slots n) sound e)).0, formed R c (form.Slots n) e))

-- no radix is above 8
radix-small : (R : Log) (c : ObjId) → Sound R → radix_kept (form_of R c) ≤ 8
radix-small R c sound = go (form_of R c) refl
  where
    low : 0 ≤ 8
    low = omega arith

    below : (n : ℕ) → n < 9 → n ≤ 8
    below n h = omega (arith, h)

    go : (o : Option Form) → form_of R c ≡ o → radix_kept o ≤ 8
    go None e = low
    go (Some form.Plain) e = low
    go (Some (form.OnCore k)) e = low
    go (Some (form.Runner m r)) e = low
    go (Some (form.Slots n)) e = below n (radix-kind c.kind n (form-fits R c (form.Slots n) sound e)).1

-- so a slot has an index below 256
index-small : (n i : ℕ) → n ≤ 8 → i < 2 ^ n → i < 256
index-small zero i h k = omega (arith, k)
index-small (suc zero) i h k = omega (arith, k)
index-small (suc (suc zero)) i h k = omega (arith, k)
index-small (suc (suc (suc zero))) i h k = omega (arith, k)
index-small (suc (suc (suc (suc zero)))) i h k = omega (arith, k)
index-small (suc (suc (suc (suc (suc zero))))) i h k = omega (arith, k)
index-small (suc (suc (suc (suc (suc (suc zero)))))) i h k = omega (arith, k)
index-small (suc (suc (suc (suc (suc (suc (suc zero))))))) i h k = omega (arith, k)
index-small (suc (suc (suc (suc (suc (suc (suc (suc zero)))))))) i h k = k
index-small (suc (suc (suc (suc (suc (suc (suc (suc (suc n))))))))) i h k = absurd (omega (arith, h))

-- a slot that holds something is one of a CNode that was made
slot-made : (R : Log) (c : ObjId) (i : ℕ) (cap : Cap) → Sound R → slot R c i ≡ Some cap → IsMade R kind.CNode c × (i < 256)
slot-made [] c i cap sound h = absurd cc
slot-made (rec.Made o f ∷ R) c i cap sound h = let m = slot-made R c i cap sound.1 h in ((m.0.0, made-still (same c o) (was_made R c) m.0.1), m.1)
slot-made (rec.Slot d j held ∷ R) c i cap sound h = elim (given-split (same c d && (i == j)) held (slot R c i) (Some cap) h) [
  | inl (is, k) ↦ (let p : (same c d ≡ true) × ((i == j) ≡ true) = parts _ _ is in
      let it : c ≡ d = same-equal c d p.0 in
      let at : i ≡ j = eqb-true i j p.1 in
      (subst (λ z. IsMade R kind.CNode z) (sym it) (there-made R kind.CNode d sound.0.0), subst (λ n. n < 256) (sym at) (index-small (radix_kept (form_of R d)) j (radix-small R d sound.1) sound.0.1)))
  | inr (other, k) ↦ slot-made R c i cap sound.1 k
]
slot-made (_ ∷ R) c i cap sound h = slot-made R c i cap sound.1 h

-- no slot holds a capability to what was never made
unheld : (R : Log) (o : ObjId) → Sound R → was_made R o ≡ false → count_of R o ≡ 0
unheld R o sound new = go (written R)
  where
    none : (at : SlotName) (held : Option Cap) → slot R at.cnode at.index ≡ held → is_cap_to o held ≡ false
    none at None e = refl
    none at (Some cap) e = off (same cap.obj o) refl
      where
        off : (b : Bool) → same cap.obj o ≡ b → same cap.obj o ≡ false
        off false is = is
        off true is = let never : true ≡ false = sym (alive-made R cap.obj (slot-alive R at.cnode at.index cap sound e)) ∙ ap (was_made R) (same-equal cap.obj o is) ∙ new in absurd cc

    go : (ats : List SlotName) → counted (λ (at : SlotName). is_cap_to o (slot R at.cnode at.index)) ats ≡ 0
    go [] = refl
    go (at ∷ ats) = ap (λ b. cond b (counted (λ (x : SlotName). is_cap_to o (slot R x.cnode x.index)) ats + 1) (counted (λ (x : SlotName). is_cap_to o (slot R x.cnode x.index)) ats)) (none at (slot R at.cnode at.index) refl) ∙ go ats

-- two optional values are equal if they are equal whenever either is some
alike-some : {A P : Type 0} (f g : Option A) → ((x : A) → f ≡ Some x → P) → ((x : A) → g ≡ Some x → P) → (P → f ≡ g) → f ≡ g
alike-some None None l r h = refl
alike-some (Some x) g l r h = h (l x refl)
alike-some None (Some y) l r h = h (r y refl)

alike-list : {A P : Type 0} (f g : List A) → ((x : A) (xs : List A) → f ≡ x ∷ xs → P) → ((x : A) (xs : List A) → g ≡ x ∷ xs → P) → (P → f ≡ g) → f ≡ g
alike-list [] [] l r h = refl
alike-list (x ∷ xs) g l r h = h (l x xs refl)
alike-list [] (y ∷ ys) l r h = h (r y ys refl)

-- it is decidable whether an object was made
is-made : (R : Log) (k : Kind) (o : ObjId) → IsMade R k o ⊎ (IsMade R k o → ⊥)
is-made R k o = go (same_kind o.kind k) refl (was_made R o) refl
  where
    go : (b : Bool) → same_kind o.kind k ≡ b → (c : Bool) → was_made R o ≡ c → IsMade R k o ⊎ (IsMade R k o → ⊥)
    go true is true m = inl (same_kind-equal o.kind k is, m)
    go true is false m = inr (λ h. let no : true ≡ false = sym h.1 ∙ m in absurd cc)
    go false is c m = inr (λ h. let no : true ≡ false = sym (same_kind-self k) ∙ ap (λ j. same_kind j k) (sym h.0) ∙ is in absurd cc)

module _ (R S : Log) (left : Sound R) (right : Sound S) (looks : AnswerButNumbers R S) where
  made : (o : ObjId) → was_made R o ≡ was_made S o
  made o = made-where R o left ∙ ap (λ n. nat_le 1 o.serial && nat_le o.serial n) (looks.counts o.kind) ∙ sym (made-where S o right)

  back : (k : Kind) (o : ObjId) → IsMade S k o → IsMade R k o
  back k o h = (h.0, made o ∙ h.1)

  -- what is nothing of what was not made
  unless-made : {A : Type 0} (k : Kind) (o : ObjId) (f g nothing : A) → ((IsMade R k o → ⊥) → f ≡ nothing) → ((IsMade S k o → ⊥) → g ≡ nothing) → (IsMade R k o → f ≡ g) → f ≡ g
  unless-made k o f g nothing l r h = go (is-made R k o)
    where
      go : IsMade R k o ⊎ (IsMade R k o → ⊥) → f ≡ g
      go (inl m) = h m
      go (inr none) = l none ∙ sym (r (λ m. none (back k o m)))

  there : (o : ObjId) → is_alive R o ≡ is_alive S o
  there o = go (was_made R o) refl
    where
      go : (b : Bool) → was_made R o ≡ b → is_alive R o ≡ is_alive S o
      go true e = looks.there o e
      go false e = ap (λ m. m && not (was_closed R o)) e ∙ ap (λ m. m && not (was_closed S o)) (sym (sym (made o) ∙ e))

  held : (o : ObjId) → count_of R o ≡ count_of S o
  held o = go (was_made R o) refl
    where
      go : (b : Bool) → was_made R o ≡ b → count_of R o ≡ count_of S o
      go true e = looks.held o e
      go false e = unheld R o left e ∙ sym (unheld S o right (sym (made o) ∙ e))

  lines : (q : Queue) → queued_in R q ≡ queued_in S q
  lines (Senders e) = alike-list _ _ (λ x xs h. there-made R kind.Endpoint e (line-made R (Senders e) x xs left h)) (λ x xs h. back kind.Endpoint e (there-made S kind.Endpoint e (line-made S (Senders e) x xs right h))) (looks.senders e)
  lines (Receivers e) = alike-list _ _ (λ x xs h. there-made R kind.Endpoint e (line-made R (Receivers e) x xs left h)) (λ x xs h. back kind.Endpoint e (there-made S kind.Endpoint e (line-made S (Receivers e) x xs right h))) (looks.receivers e)
  lines (Waiters n) = alike-list _ _ (λ x xs h. there-made R kind.Notification n (line-made R (Waiters n) x xs left h)) (λ x xs h. back kind.Notification n (there-made S kind.Notification n (line-made S (Waiters n) x xs right h))) (looks.waiters n)

  slots : (c : ObjId) (i : ℕ) → slot R c i ≡ slot S c i
  slots c i = alike-some _ _ (λ x h. slot-made R c i x left h) (λ x h. let m = slot-made S c i x right h in (back kind.CNode c m.0, m.1)) (λ m. looks.slots c i m.0 m.1)

  chains : (s : ObjId) → chain_of R s ≡ chain_of S s
  chains s = unless-made kind.Context s _ _ [] (λ no. chain_of-growing R s left ∙ chain-unmade R s left no) (λ no. chain_of-growing S s right ∙ chain-unmade S s right no) (looks.chains s)

  pub answer-all : AnswerAll R S
  answer-all = record {
    counts = looks.counts;
    made = made;
    there = there;
    rows = λ t. alike-some _ _ (λ x h. row-made R t x left h) (λ x h. back kind.Thread t (row-made S t x right h)) (looks.rows t);
    letters = λ t. alike-some _ _ (λ x h. numberless-made R t x left h) (λ x h. back kind.Thread t (numberless-made S t x right h)) (looks.letters t);
    lines = lines;
    words = λ n. alike-some _ _ (λ x h. word-made R n x h) (λ x h. back kind.Notification n (word-made S n x h)) (looks.words n);
    owed = λ r. alike-some _ _ (λ x h. owed-made R r x left h) (λ x h. back kind.Reply r (owed-made S r x right h)) (looks.owed r);
    cores = λ s. alike-some _ _ (λ x h. core-made R s x left h) (λ x h. back kind.Context s (core-made S s x right h)) (looks.cores s);
    holders = λ s. alike-some _ _ (λ x h. holder-made R s x left h) (λ x h. back kind.Context s (holder-made S s x right h)) (looks.holders s);
    homes = λ s. alike-some _ _ (λ x h. home-made R s x left h) (λ x h. back kind.Context s (home-made S s x right h)) (looks.homes s);
    chains = chains;
    radices = λ c. unless-made kind.CNode c _ _ 0 (radix-unmade R c left) (radix-unmade S c right) (looks.radices c);
    slots = slots;
    held = held;
  }

-- numbers too
module _ (R S : Log) (left : Sound R) (right : Sound S) (looks : AnswerAlike R S) where
  pub answers-but : AnswerButNumbers R S
  answers-but = record {
    counts = looks.counts;
    there = looks.there;
    held = looks.held;
    rows = looks.rows;
    letters = λ t m. ap (λ o. option_map unnumbered o) (looks.letters t m);
    senders = looks.senders;
    receivers = looks.receivers;
    waiters = looks.waiters;
    words = looks.words;
    owed = looks.owed;
    cores = looks.cores;
    holders = looks.holders;
    homes = looks.homes;
    chains = looks.chains;
    radices = looks.radices;
    slots = looks.slots;
  }

  pub open-all : (t : ObjId) → open_of R t ≡ open_of S t
  open-all t = alike-some _ _ (λ x h. open-made R t x left h) (λ x h. back R S left right answers-but kind.Thread t (open-made S t x right h)) (looks.letters t)
