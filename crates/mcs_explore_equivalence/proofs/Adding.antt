-- Alike logs are alike after the same record.
use Rattle.std.specs.Prelude.{ℕ, ◌≡◌, ◌+◌, ◌&&◌, ◌||◌, ◌⊎◌, Bool, true, false, not, cond, List, [], ◌∷◌, Some, None, unwrap_or, option_map}
use Rattle.std.proofs.Common.{refl, ap, sym, ◌∙◌, subst, inl, inr, arith}
use Rattle.mcs_types.specs.declared.id.ObjId.{ObjId}
use Rattle.mcs_types.specs.declared.id.Kind.{Kind}
use Rattle.mcs_types.specs.declared.id.Kind.TheVariants as kind
use Rattle.mcs_types.specs.declared.record.Letter.{Letter}
use Rattle.mcs_types.specs.declared.record.Queue.{Queue}
use Rattle.mcs_types.specs.declared.record.Rec.{Rec}
use Rattle.mcs_types.specs.declared.record.Rec.TheVariants as rec
use Rattle.mcs_types.specs.Ids.{same, same_kind, is_just}
use Rattle.mcs_types.specs.Words.{with_badge}
use Rattle.mcs_types.specs.Chains.{taken_off, ended}
use Rattle.mcs_types.proofs.Ids.{same-equal}
use Rattle.mcs_book.specs.Logs.{Log, given, onto}
use Rattle.mcs_book.specs.Objects.{was_made, was_closed, is_alive, form_of, form_made, closes, makes, makes_kind, made_of}
use Rattle.mcs_book.specs.Threads.{prio_of, prio_set, mode_of, mode_set}
use Rattle.mcs_book.specs.Queues.{queue_of, queue_set, reply_with, same_queue}
use Rattle.mcs_book.specs.Growing.{growing_queue, growing_open, growing_chain, growing_word, insert_behind, without, shifted, unless_number}
use Rattle.mcs_book.specs.Messages.{next_message, is_sent}
use Rattle.mcs_book.specs.Lookup.{radix_kept}
use Rattle.mcs_book.specs.Notifications.{tied_set}
use Rattle.mcs_book.specs.Replies.{owed_set}
use Rattle.mcs_book.specs.Contexts.{holder_set, home_set}
use Rattle.mcs_book.specs.Slots.{slot, slot_set, count_of, is_cap_to}
use Rattle.mcs_book.specs.Sound.{Sound, Allowed, IsThere}
use Rattle.mcs_book.proofs.Objects.CountLaws.{count-filled}
use Rattle.mcs_book.proofs.Objects.MadeLaws.{alive-made}
use Rattle.mcs_state.proofs.Saying.{unsaid}
use Rattle.mcs_state.proofs.CountLaws.{never-made}
use Rattle.mcs_explore_equivalence.specs.ButNumbers.{unnumbered, AlikeButNumbers, Matches, MatchAll}
use Rattle.mcs_explore_equivalence.proofs.Settled.{settled-letters}

-- what is there after a record was there before, or was never made before
there-or-new : (r : Rec) (R : Log) (o : ObjId) → Sound R → Allowed R r → is_alive (r ∷ R) o ≡ true → (is_alive R o ≡ true) ⊎ (was_made R o ≡ false)
there-or-new (rec.Made u f) R o sound ok h = go (same o u) refl h
  where
    go : (b : Bool) → same o u ≡ b → ((b || was_made R o) && not (was_closed R o)) ≡ true → (is_alive R o ≡ true) ⊎ (was_made R o ≡ false)
    go true e h = inr (ap (was_made R) (same-equal o u e) ∙ never-made R u f sound ok)
    go false e h = inl h
there-or-new (rec.Closed u) R o sound ok h = go (same o u) (was_made R o) h
  where
    go : (b m : Bool) → (m && not (b || was_closed R o)) ≡ true → ((m && not (was_closed R o)) ≡ true) ⊎ (was_made R o ≡ false)
    go true true h = absurd cc
    go true false h = absurd cc
    go false m h = inl h
there-or-new _ R o sound ok h = inl h

-- no badge was raised of what was never made (as it is beside the laws of notifications)
unraised : (R : Log) (n : ObjId) → Sound R → was_made R n ≡ false → growing_word R n ≡ None
unraised [] n sound h = refl
unraised (rec.Made o f ∷ R) n sound h = go (same n o) h (unraised R n sound.1)
  where
    go : (b : Bool) → (b || was_made R n) ≡ false → (was_made R n ≡ false → growing_word R n ≡ None) → growing_word R n ≡ None
    go true h later = absurd cc
    go false h later = later h
unraised (rec.Raised k badge ∷ R) n sound h = go (same n k) refl (unraised R n sound.1 h)
  where
    go : (b : Bool) → same n k ≡ b → growing_word R n ≡ None → cond b (Some (with_badge badge.0 (growing_word R n))) (growing_word R n) ≡ None
    go true e later = let no : true ≡ false = sym (alive-made R k sound.0.0.1) ∙ ap (was_made R) (sym (same-equal n k e)) ∙ h in absurd cc
    go false e later = later
unraised (rec.Heard t k word ∷ R) n sound h = go (same n k) (unraised R n sound.1 h)
  where
    go : (b : Bool) → growing_word R n ≡ None → cond b None (growing_word R n) ≡ None
    go true later = refl
    go false later = later
unraised (_ ∷ R) n sound h = unraised R n sound.1 h

-- what the two logs say of what is there after the record, before it
module _ (r : Rec) (R S : Log) (a : AlikeButNumbers R S) (ok : Allowed R r) where
  form-before : (o : ObjId) → is_alive (r ∷ R) o ≡ true → form_of R o ≡ form_of S o
  form-before o h = go (there-or-new r R o a.left ok h)
    where
      go : (is_alive R o ≡ true) ⊎ (was_made R o ≡ false) → form_of R o ≡ form_of S o
      go (inl alive) = a.forms o alive
      go (inr new) = (unsaid R o a.left new).0 ∙ sym ((unsaid S o a.right (sym (a.made o) ∙ new)).0)

  prio-before : (o : ObjId) → IsThere (r ∷ R) kind.Thread o → prio_of R o ≡ prio_of S o
  prio-before o h = go (there-or-new r R o a.left ok h.1)
    where
      go : (is_alive R o ≡ true) ⊎ (was_made R o ≡ false) → prio_of R o ≡ prio_of S o
      go (inl alive) = a.prios o (h.0, alive)
      go (inr new) = (unsaid R o a.left new).1 ∙ sym ((unsaid S o a.right (sym (a.made o) ∙ new)).1)

  mode-before : (o : ObjId) → IsThere (r ∷ R) kind.Thread o → mode_of R o ≡ mode_of S o
  mode-before o h = go (there-or-new r R o a.left ok h.1)
    where
      go : (is_alive R o ≡ true) ⊎ (was_made R o ≡ false) → mode_of R o ≡ mode_of S o
      go (inl alive) = a.modes o (h.0, alive)
      go (inr new) = (unsaid R o a.left new).2 ∙ sym ((unsaid S o a.right (sym (a.made o) ∙ new)).2)

  word-before : (o : ObjId) → IsThere (r ∷ R) kind.Notification o → growing_word R o ≡ growing_word S o
  word-before o h = go (there-or-new r R o a.left ok h.1)
    where
      go : (is_alive R o ≡ true) ⊎ (was_made R o ≡ false) → growing_word R o ≡ growing_word S o
      go (inl alive) = a.words o (h.0, alive)
      go (inr new) = unraised R o a.left new ∙ sym (unraised S o a.right (sym (a.made o) ∙ new))

lists-after : (r : Rec) (R S : Log) (k : Kind) → made_of R k ≡ made_of S k → made_of (r ∷ R) k ≡ made_of (r ∷ S) k
lists-after (rec.Made o f) R S k e = ap (λ l. cond (same_kind o.kind k) (o ∷ l) l) e
lists-after _ R S k e = e

radix-after : (r : Rec) (R S : Log) (c : ObjId) → radix_kept (form_of R c) ≡ radix_kept (form_of S c) → radix_kept (form_of (r ∷ R) c) ≡ radix_kept (form_of (r ∷ S) c)
radix-after (rec.Made o f) R S c e = go (same c o)
  where
    go : (b : Bool) → radix_kept (unwrap_or (given b (Some f)) (form_of R c)) ≡ radix_kept (unwrap_or (given b (Some f)) (form_of S c))
    go true = refl
    go false = e
radix-after _ R S c e = e

word-after : (r : Rec) (R S : Log) (n : ObjId) → growing_word R n ≡ growing_word S n → growing_word (r ∷ R) n ≡ growing_word (r ∷ S) n
word-after (rec.Raised k badge) R S n e = ap (λ w. cond (same n k) (Some (with_badge badge.0 w)) w) e
word-after (rec.Heard t k word) R S n e = ap (λ w. cond (same n k) None w) e
word-after _ R S n e = e

replies-after : (r : Rec) (R S : Log) → AlikeButNumbers R S → (t : ObjId) (q : Queue) → queue_of (r ∷ R) t ≡ Some q → reply_with (r ∷ R) t ≡ reply_with (r ∷ S) t
replies-after (rec.Joins u k w) R S a t q h = go (same t u) h
  where
    go : (b : Bool) → unwrap_or (given b (Some k)) (queue_of R t) ≡ Some q → unwrap_or (given b w) (reply_with R t) ≡ unwrap_or (given b w) (reply_with S t)
    go true h = refl
    go false h = a.replies t q h
replies-after (rec.Parts u k) R S a t q h = go (same t u) h
  where
    go : (b : Bool) → unwrap_or (given b None) (queue_of R t) ≡ Some q → reply_with R t ≡ reply_with S t
    go true h = absurd cc
    go false h = a.replies t q h
replies-after _ R S a t q h = a.replies t q h

lines-after : (r : Rec) (R S : Log) → AlikeButNumbers R S → Allowed R r → (q : Queue) → growing_queue (r ∷ R) q ≡ growing_queue (r ∷ S) q
lines-after (rec.Joins t k reply) R S a ok q =
    ap (λ l. cond (same_queue k q) (insert_behind (record { thread = t; priority = prio_of R t }) l) l) (a.lines q)
    ∙ ap (λ p. cond (same_queue k q) (insert_behind (record { thread = t; priority = p }) (growing_queue S q)) (growing_queue S q)) (a.prios t ok.0)
lines-after (rec.Parts t k) R S a ok q = ap (λ l. without t l) (a.lines q)
lines-after (rec.Prio t p) R S a ok q = ap (λ l. shifted t p.0 l) (a.lines q)
lines-after _ R S a ok q = a.lines q

-- whether a record takes or drops a message
abbrev pub is_settling : Rec → Bool
is_settling (rec.Took m p) = true
is_settling (rec.Dropped m) = true
is_settling _ = false

letters-after : (r : Rec) (R S : Log) → AlikeButNumbers R S → is_settling r ≡ false → (x : ObjId) → option_map unnumbered (growing_open (r ∷ R) x) ≡ option_map unnumbered (growing_open (r ∷ S) x)
letters-after (rec.Sent y e mode badge message) R S a plain x = go (same y x)
  where
    new : Log → Letter
    new Q = record { number = next_message Q; sender = y; endpoint = e; mode = mode; badge = badge; message = message }

    go : (b : Bool) → option_map unnumbered (cond b (Some (new R)) (growing_open R x)) ≡ option_map unnumbered (cond b (Some (new S)) (growing_open S x))
    go true = refl
    go false = a.letters x
letters-after (rec.Took m p) R S a plain x = absurd cc
letters-after (rec.Dropped m) R S a plain x = absurd cc
letters-after _ R S a plain x = a.letters x

chain-after : (r : Rec) (R S : Log) (s : ObjId) → growing_chain R s ≡ growing_chain S s → growing_chain (r ∷ R) s ≡ growing_chain (r ∷ S) s
chain-after (rec.Owes r x brought) R S s e = ap (λ l. cond (is_just brought s) (r ∷ l) l) e
chain-after (rec.Paid r x message) R S s e = ap (λ l. taken_off r l) e
chain-after (rec.Void r x ending) R S s e = ap (λ l. ended ending r l) e
chain-after (rec.Closed o) R S s e = ap (λ l. cond (same s o) [] l) e
chain-after _ R S s e = e

held-after : (r : Rec) (R S : Log) → AlikeButNumbers R S → (o : ObjId) → count_of (r ∷ R) o ≡ count_of (r ∷ S) o
held-after (rec.Slot c i cap) R S a o =
    let left = count-filled R c i cap o in
    let right = count-filled S c i cap o in
    let right' : count_of (rec.Slot c i cap ∷ S) o + cond (is_cap_to o (slot R c i)) 1 0 ≡ count_of R o + cond (is_cap_to o cap) 1 0 =
    ap (λ h. count_of (rec.Slot c i cap ∷ S) o + cond (is_cap_to o h) 1 0) (a.slots c i) ∙ right ∙ ap (λ n. n + cond (is_cap_to o cap) 1 0) (sym (a.held o)) in
    plus-same _ _ _ _ left right'
  where
    plus-same : (m n x y : ℕ) → m + x ≡ y → n + x ≡ y → m ≡ n
    plus-same m n x y e f = omega (arith, e, f)
held-after _ R S a o = a.held o

-- after the same record, allowed in both, that settles no message
pub alike-after : (r : Rec) (R S : Log) → AlikeButNumbers R S → is_settling r ≡ false → Allowed R r → Allowed S r → AlikeButNumbers (r ∷ R) (r ∷ S)
alike-after r R S a plain ok ok' = record {
  left = (ok, a.left);
  right = (ok', a.right);
  counts = λ k. ap (λ n. cond (makes_kind k r) (n + 1) n) (a.counts k);
  lists = λ k. lists-after r R S k (a.lists k);
  made = λ o. ap (λ b. makes o r || b) (a.made o);
  closed = λ o. ap (λ b. closes o r || b) (a.closed o);
  forms = λ o h. ap (λ f. unwrap_or (form_made o r) f) (form-before r R S a ok o h);
  radices = λ c. radix-after r R S c (a.radices c);
  prios = λ t h. ap (λ p. unwrap_or (prio_set t r) p) (prio-before r R S a ok t h);
  modes = λ t h. ap (λ m. unwrap_or (mode_set t r) m) (mode-before r R S a ok t h);
  words = λ n h. word-after r R S n (word-before r R S a ok n h);
  queues = λ t. ap (λ q. unwrap_or (queue_set t r) q) (a.queues t);
  replies = replies-after r R S a;
  bounds = λ t. ap (λ n. unwrap_or (tied_set t r) n) (a.bounds t);
  owed = λ o. ap (λ x. unwrap_or (owed_set o r) x) (a.owed o);
  holders = λ s. ap (λ t. unwrap_or (holder_set s r) t) (a.holders s);
  homes = λ s. ap (λ n. unwrap_or (home_set s r) n) (a.homes s);
  slots = λ c i. ap (λ h. unwrap_or (slot_set c i r) h) (a.slots c i);
  held = held-after r R S a;
  lines = lines-after r R S a ok;
  letters = letters-after r R S a plain;
  chains = λ s. chain-after r R S s (a.chains s);
}

-- once messages with these numbers are settled, each thread has the same open message, but for its
-- number
abbrev LeaveSame : Log → Log → ℕ → ℕ → Type 0
LeaveSame R S m n = (y : ObjId) → option_map unnumbered (unless_number m (growing_open R y)) ≡ option_map unnumbered (unless_number n (growing_open S y))

-- after messages are taken that leave the same open ones, but for their numbers
pub alike-took : (m n : ℕ) (p : ObjId) (R S : Log) → AlikeButNumbers R S → LeaveSame R S m n → Allowed R (rec.Took m p) → Allowed S (rec.Took n p) → AlikeButNumbers (rec.Took m p ∷ R) (rec.Took n p ∷ S)
alike-took m n p R S a of ok ok' = record {
  left = (ok, a.left);
  right = (ok', a.right);
  counts = a.counts;
  lists = a.lists;
  made = a.made;
  closed = a.closed;
  forms = a.forms;
  radices = a.radices;
  prios = a.prios;
  modes = a.modes;
  words = a.words;
  queues = a.queues;
  replies = a.replies;
  bounds = a.bounds;
  owed = a.owed;
  holders = a.holders;
  homes = a.homes;
  slots = a.slots;
  held = a.held;
  lines = a.lines;
  letters = of;
  chains = a.chains;
}

-- after messages are dropped that leave the same open ones, but for their numbers
pub alike-dropped : (m n : ℕ) (R S : Log) → AlikeButNumbers R S → LeaveSame R S m n → Allowed R (rec.Dropped m) → Allowed S (rec.Dropped n) → AlikeButNumbers (rec.Dropped m ∷ R) (rec.Dropped n ∷ S)
alike-dropped m n R S a of ok ok' = record {
  left = (ok, a.left);
  right = (ok', a.right);
  counts = a.counts;
  lists = a.lists;
  made = a.made;
  closed = a.closed;
  forms = a.forms;
  radices = a.radices;
  prios = a.prios;
  modes = a.modes;
  words = a.words;
  queues = a.queues;
  replies = a.replies;
  bounds = a.bounds;
  owed = a.owed;
  holders = a.holders;
  homes = a.homes;
  slots = a.slots;
  held = a.held;
  lines = a.lines;
  letters = of;
  chains = a.chains;
}

-- after records that match
pub alike-matched : (r s : Rec) (R S : Log) → AlikeButNumbers R S → Matches R S r s → Allowed R r → Allowed S s → AlikeButNumbers (r ∷ R) (s ∷ S)
alike-matched (rec.Took m p) s R S a h ok ok' = subst (λ (z : Rec). AlikeButNumbers (rec.Took m p ∷ R) (z ∷ S)) h.1.0 (alike-took m h.0 p R S a (settled-letters R S a m h.0 h.1.1) ok (subst (λ (z : Rec). Allowed S z) (sym h.1.0) ok'))
alike-matched (rec.Dropped m) s R S a h ok ok' = subst (λ (z : Rec). AlikeButNumbers (rec.Dropped m ∷ R) (z ∷ S)) h.1.0 (alike-dropped m h.0 R S a (settled-letters R S a m h.0 h.1.1) ok (subst (λ (z : Rec). Allowed S z) (sym h.1.0) ok'))
alike-matched r s R S a h ok ok' = subst (λ (z : Rec). AlikeButNumbers (r ∷ R) (z ∷ S)) h (alike-after r R S a refl ok (subst (λ (z : Rec). Allowed S z) (sym h) ok'))

-- a log that sound records follow was sound
pub sound-before : (made : List Rec) (R : Log) → Sound (onto made R) → Sound R
sound-before [] R h = h
sound-before (r ∷ made) R h = (sound-before made (r ∷ R) h).1

-- after records that match, one by one
pub alike-onto : (made more : List Rec) (R S : Log) → AlikeButNumbers R S → MatchAll R S made more → Sound (onto made R) → Sound (onto more S) → AlikeButNumbers (onto made R) (onto more S)
alike-onto [] [] R S a m h k = a
alike-onto [] (s ∷ more) R S a m h k = absurd m
alike-onto (r ∷ made) [] R S a m h k = absurd m
alike-onto (r ∷ made) (s ∷ more) R S a m h k = alike-onto made more (r ∷ R) (s ∷ S) (alike-matched r s R S a m.0 (sound-before made (r ∷ R) h).0 (sound-before more (s ∷ S) k).0) m.1 h k
