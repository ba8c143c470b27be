-- Messages: numbers are given once, and what is settled was sent.
use Rattle.std.specs.Prelude.{ℕ, ◌+◌, ◌<◌, Bool, true, false, cond, ◌&&◌, ◌||◌, ◌==◌, ◌≡◌, ◌≢◌, List, [], ◌∷◌, Option, Some, refl, find, is_some}
use Rattle.std.specs.List.{list_any}
use Rattle.std.proofs.Common.{sym, ◌∙◌, ap, arith, subst}
use Rattle.std.proofs.lemmas.Bool.{eq-eqb, eqb-true, not_from_false}
use Rattle.mcs_types.specs.declared.id.ObjId.{ObjId}
use Rattle.mcs_types.specs.declared.record.Rec.{Rec}
use Rattle.mcs_types.specs.declared.record.Rec.TheVariants as rec
use Rattle.mcs_types.specs.Ids.{same}
use Rattle.mcs_book.specs.Logs.{Log}
use Rattle.mcs_types.specs.declared.record.Letter.{Letter}
use Rattle.mcs_book.specs.Messages.{is_sent, next_message, letters, letter, settles, is_open, open_of}
use Rattle.mcs_book.specs.Each.{Each}
use Rattle.mcs_book.specs.Fair.{EndsOpen}
use Rattle.mcs_types.proofs.Ids.{parts, both}
use Rattle.mcs_book.proofs.SoundLogs.Keeping.{sent_record}

-- what is found passes the test
pub find-passes : {A : Type 0} (p : A → Bool) (xs : List A) (y : A) → find p xs ≡ Some y → p y ≡ true
find-passes p [] y h = absurd cc
find-passes p (x ∷ xs) y h = go (p x) refl h (λ k. find-passes p xs y k)
  where
    go : (b : Bool) → p x ≡ b → cond b (Some x) (find p xs) ≡ Some y → (find p xs ≡ Some y → p y ≡ true) → p y ≡ true
    go true e k later = let same_one : x ≡ y = cc in rw same_one at e
    go false e k later = later k

-- the open message of x is open, and of x
pub open_of-open : (R : Log) (x : ObjId) (s : Letter) → open_of R x ≡ Some s → (same s.sender x ≡ true) × (is_open R s.number ≡ true)
unfolding open_of
open_of-open R x s h = parts _ _ (find-passes (λ s. same s.sender x && is_open R s.number) (letters R) s h)

-- a message that was sent has a number below the next
pub letter-below : (R : Log) (m : ℕ) → is_some (letter R m) ≡ true → m < next_message R
letter-below [] m h = absurd cc
letter-below (rec.Sent x e mode badge message ∷ R) m h = go (next_message R == m) refl h (letter-below R m)
  where
    s : Letter
    s = record { number = next_message R; sender = x; endpoint = e; mode = mode; badge = badge; message = message }

    go : (b : Bool) → (next_message R == m) ≡ b → is_some (cond b (Some s) (letter R m)) ≡ true → (is_some (letter R m) ≡ true → m < next_message R) → m < next_message R + 1
    go true e k later = let at : next_message R ≡ m = eqb-true (next_message R) m e in omega (arith, at)
    go false e k later = let lt : m < next_message R = later k in omega (arith, lt)
letter-below (_ ∷ R) m h = letter-below R m h

-- so has one that is open
pub open-below : (R : Log) (m : ℕ) → is_open R m ≡ true → m < next_message R
open-below R m h = letter-below R m ((parts (is_some (letter R m)) _ h).0)

-- a record settles what was sent
ends-below : (R : Log) (r : Rec) (m : ℕ) → EndsOpen R r → settles m r ≡ true → m < next_message R
ends-below R (rec.Took m' p) m h e = let known : m ≡ m' = eqb-true m m' e in rw known (open-below R m' h)
ends-below R (rec.Dropped m') m h e = let known : m ≡ m' = eqb-true m m' e in rw known (open-below R m' h)
ends-below R _ m h e = absurd cc

-- numbers only grow
more : (R : Log) (r : Rec) (m : ℕ) → m < next_message R → m < next_message (r ∷ R)
more R r m lt = go (is_sent r)
  where
    go : (b : Bool) → m < cond b (next_message R + 1) (next_message R)
    go true = omega (arith, lt)
    go false = lt

-- what was taken or dropped was sent
pub settled-below : (R : Log) (m : ℕ) → Each EndsOpen R → list_any (settles m) R ≡ true → m < next_message R
settled-below [] m h k = absurd cc
settled-below (r ∷ R) m h k = go (settles m r) refl k (settled-below R m h.1)
  where
    go : (b : Bool) → settles m r ≡ b → (b || list_any (settles m) R) ≡ true → (list_any (settles m) R ≡ true → m < next_message R) → m < next_message (r ∷ R)
    go true e k later = more R r m (ends-below R r m h.0 e)
    go false e k later = more R r m (later k)

-- the next message is not settled
none-settled : (R : Log) → Each EndsOpen R → list_any (settles (next_message R)) R ≡ false
none-settled R h = go (list_any (settles (next_message R)) R) refl
  where
    go : (b : Bool) → list_any (settles (next_message R)) R ≡ b → b ≡ false
    go false e = refl
    go true e = let lt : next_message R < next_message R = settled-below R (next_message R) h e in absurd (omega (arith, lt))

-- a choice whose first is taken is something
here : (b : Bool) (s : Letter) (o : Option Letter) → b ≡ true → is_some (cond b (Some s) o) ≡ true
here true s o e = refl
here false s o e = absurd cc

-- a message just sent is open
pub sent-open : (R : Log) (s : Letter) → Each EndsOpen R → is_open (sent_record s ∷ R) (next_message R) ≡ true
sent-open R s h =
    both _ _ (here (next_message R == next_message R) _ (letter R (next_message R)) (eq-eqb (next_message R) (next_message R) refl)) (not_from_false _ (none-settled R h))

-- the same under its number
pub sent-open_at : (R : Log) (s : Letter) → s.number ≡ next_message R → Each EndsOpen R → is_open (sent_record s ∷ R) s.number ≡ true
sent-open_at R s e h = subst (λ (n : ℕ). is_open (sent_record s ∷ R) n ≡ true) (sym e) (sent-open R s h)

-- two numbers that differ
pub number-other : (m n : ℕ) → m ≢ n → (m == n) ≡ false
number-other m n ne = go (m == n) refl
  where
    go : (v : Bool) → (m == n) ≡ v → v ≡ false
    go true e = absurd (ne (eqb-true m n e))
    go false e = refl

-- a choice whose second is taken
pub pass : {A : Type 0} (b : Bool) (x y : A) → b ≡ false → cond b x y ≡ y
pass true x y h = absurd cc
pass false x y h = refl

-- a message that is found among those sent is the one of its number
pub found-letter : (p : Letter → Bool) (R : Log) (s : Letter) → find p (letters R) ≡ Some s → letter R s.number ≡ Some s
found-letter p [] s h = absurd cc
found-letter p (rec.Sent x e mode badge message ∷ R) s h = go (p new) h (found-letter p R s)
  where
    new : Letter
    new = record { number = next_message R; sender = x; endpoint = e; mode = mode; badge = badge; message = message }

    first : (b : Bool) (o : Option Letter) → b ≡ true → cond b (Some new) o ≡ Some new
    first true o e = refl
    first false o e = absurd cc

    go : (b : Bool) → cond b (Some new) (find p (letters R)) ≡ Some s → (find p (letters R) ≡ Some s → letter R s.number ≡ Some s) → cond (next_message R == s.number) (Some new) (letter R s.number) ≡ Some s
    go true k later = let it : new ≡ s = cc in subst (λ (l : Letter). cond (next_message R == l.number) (Some new) (letter R l.number) ≡ Some l) it (first (next_message R == next_message R) (letter R (next_message R)) (eq-eqb (next_message R) (next_message R) refl))
    go false k later =
        let found : letter R s.number ≡ Some s = later k in
        let lt : s.number < next_message R = letter-below R s.number (ap (λ o. is_some o) found) in
        pass (next_message R == s.number) (Some new) (letter R s.number) (number-other (next_message R) s.number (λ e. absurd (omega (arith, lt, e)))) ∙ found
found-letter p (_ ∷ R) s h = found-letter p R s h

-- the open message that is found has its number
pub open_of-letter : (R : Log) (x : ObjId) (s : Letter) → open_of R x ≡ Some s → letter R s.number ≡ Some s
unfolding open_of
open_of-letter R x s h = found-letter (λ s. same s.sender x && is_open R s.number) R s h
