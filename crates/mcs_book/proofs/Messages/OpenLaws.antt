-- The open message of a thread as a recursion is the one that is found among those sent.
use Rattle.std.specs.Prelude.{ℕ, ◌+◌, ◌<◌, Bool, true, false, cond, not, ◌&&◌, ◌||◌, ◌==◌, ◌≡◌, List, [], ◌∷◌, Option, Some, None, refl, find, is_some}
use Rattle.std.specs.List.{list_any}
use Rattle.std.proofs.Common.{sym, ◌∙◌, ap, arith}
use Rattle.std.proofs.lemmas.Bool.{eqb-true}
use Rattle.mcs_types.specs.declared.id.ObjId.{ObjId}
use Rattle.mcs_types.specs.declared.record.Rec.TheVariants as rec
use Rattle.mcs_types.specs.Ids.{same}
use Rattle.mcs_book.specs.Logs.{Log}
use Rattle.mcs_types.specs.declared.record.Letter.{Letter}
use Rattle.mcs_book.specs.Messages.{next_message, letters, letter, settles, is_open, open_of}
use Rattle.mcs_book.specs.Each.{Each}
use Rattle.mcs_book.specs.Fair.{EndsOpen}
use Rattle.mcs_book.specs.Growing.{growing_open, unless_number}
use Rattle.mcs_book.specs.Sound.{Sound}
use Rattle.mcs_types.proofs.Ids.{same-equal, parts, both}
use Rattle.mcs_book.proofs.Messages.MessageLaws.{find-passes, sent-open, found-letter, number-other, pass}

-- what holds of each of a list
abbrev EachLetter : (Letter → Type 0) → List Letter → Type 0
EachLetter P [] = Unit {0}
EachLetter P (s ∷ ss) = P s × EachLetter P ss

-- what follows from it holds of each too
each-map : (P Q : Letter → Type 0) → ((s : Letter) → P s → Q s) → (ss : List Letter) → EachLetter P ss → EachLetter Q ss
each-map P Q f [] h = tt
each-map P Q f (s ∷ ss) h = (f s h.0, each-map P Q f ss h.1)

letters-below : (R : Log) → EachLetter (λ s. s.number < next_message R) (letters R)
letters-below [] = tt
letters-below (rec.Sent x e mode badge message ∷ R) = (omega arith, each-map (λ s. s.number < next_message R) (λ s. s.number < next_message R + 1) (λ s lt. omega (arith, lt)) (letters R) (letters-below R))
letters-below (_ ∷ R) = letters-below R

-- two tests that agree find the same
find-each : (p q : Letter → Bool) (ss : List Letter) → EachLetter (λ s. p s ≡ q s) ss → find p ss ≡ find q ss
find-each p q [] h = refl
find-each p q (s ∷ ss) h = ap (λ b. cond b (Some s) (find p ss)) h.0 ∙ ap (λ o. cond (q s) (Some s) o) (find-each p q ss h.1)

-- a test that fails wherever another does
module _ (p q : Letter → Bool) (weaker : (s : Letter) → q s ≡ true → p s ≡ true) where
  -- nothing is found by it where the other finds nothing
  find-none : (ss : List Letter) → find p ss ≡ None → find q ss ≡ None
  find-none [] h = refl
  find-none (s ∷ ss) h = go (p s) refl h (q s) refl (find-none ss)
    where
      go : (b : Bool) → p s ≡ b → cond b (Some s) (find p ss) ≡ None → (c : Bool) → q s ≡ c → (find p ss ≡ None → find q ss ≡ None) → cond c (Some s) (find q ss) ≡ None
      go true e k c f later = absurd cc
      go false e k true f later = let no : true ≡ false = sym (weaker s f) ∙ e in absurd cc
      go false e k false f later = later k

  -- what the other finds is found, if it passes
  find-still : (ss : List Letter) (l : Letter) → find p ss ≡ Some l → q l ≡ true → find q ss ≡ Some l
  find-still [] l h k = absurd cc
  find-still (s ∷ ss) l h k = go (p s) refl h (q s) refl (find-still ss l)
    where
      go : (b : Bool) → p s ≡ b → cond b (Some s) (find p ss) ≡ Some l → (c : Bool) → q s ≡ c → (find p ss ≡ Some l → q l ≡ true → find q ss ≡ Some l) → cond c (Some s) (find q ss) ≡ Some l
      go true e j true f later = j
      go true e j false f later = let it : s ≡ l = cc in let no : true ≡ false = sym k ∙ ap q (sym it) ∙ f in absurd cc
      go false e j true f later = let no : true ≡ false = sym (weaker s f) ∙ e in absurd cc
      go false e j false f later = later j k

-- a thread has one open message at most
pub one-open : (R : Log) → Sound R → (m n : ℕ) (s l : Letter) → letter R m ≡ Some s → letter R n ≡ Some l → is_open R m ≡ true → is_open R n ≡ true → s.sender ≡ l.sender → m ≡ n
one-open [] sound m n s l hs hl om on e = absurd cc
one-open (rec.Sent x e mode badge message ∷ R) sound m n s l hs hl om on same_sender = go (next_message R == m) refl (next_message R == n) refl hs hl ((parts _ _ om).0) ((parts _ _ on).0) (one-open R sound.1 m n s l)
  where
    new : Letter
    new = record { number = next_message R; sender = x; endpoint = e; mode = mode; badge = badge; message = message }

    unsettled : (k : ℕ) → is_open (rec.Sent x e mode badge message ∷ R) k ≡ true → not (list_any (settles k) R) ≡ true
    unsettled k o = (parts (is_some (letter (rec.Sent x e mode badge message ∷ R) k)) _ o).1

    -- x had none open
    none : (k : ℕ) (z : Letter) → letter R k ≡ Some z → not (list_any (settles k) R) ≡ true → z.sender ≡ x → ⊥
    none k z h o z_is = sound.0.3 z.endpoint k (record { sent = z; is_letter = h; is_open = both _ _ (ap (λ u. is_some u) h) o; of_sender = z_is; on_endpoint = refl })

    go : (b : Bool) → (next_message R == m) ≡ b → (c : Bool) → (next_message R == n) ≡ c → cond b (Some new) (letter R m) ≡ Some s → cond c (Some new) (letter R n) ≡ Some l
        → is_some (cond b (Some new) (letter R m)) ≡ true → is_some (cond c (Some new) (letter R n)) ≡ true
        → (letter R m ≡ Some s → letter R n ≡ Some l → is_open R m ≡ true → is_open R n ≡ true → s.sender ≡ l.sender → m ≡ n) → m ≡ n
    go true a true b hs hl im in_ later = sym (eqb-true (next_message R) m a) ∙ eqb-true (next_message R) n b
    go true a false b hs hl im in_ later = let it : new ≡ s = cc in absurd (none n l hl (unsettled n on) (sym same_sender ∙ ap (λ (z : Letter). z.sender) (sym it)))
    go false a true b hs hl im in_ later = let it : new ≡ l = cc in absurd (none m s hs (unsettled m om) (same_sender ∙ ap (λ (z : Letter). z.sender) (sym it)))
    go false a false b hs hl im in_ later = later hs hl (both _ _ im (unsettled m om)) (both _ _ in_ (unsettled n on)) same_sender
one-open (rec.Took k p ∷ R) sound m n s l hs hl om on e = one-open R sound.1 m n s l hs hl (less (is_some (letter R m)) (m == k) _ om) (less (is_some (letter R n)) (n == k) _ on) e
  where
    less : (a b c : Bool) → (a && not (b || c)) ≡ true → (a && not c) ≡ true
    less true true c h = absurd cc
    less true false c h = h
    less false b c h = absurd cc
one-open (rec.Dropped k ∷ R) sound m n s l hs hl om on e = one-open R sound.1 m n s l hs hl (less (is_some (letter R m)) (m == k) _ om) (less (is_some (letter R n)) (n == k) _ on) e
  where
    less : (a b c : Bool) → (a && not (b || c)) ≡ true → (a && not c) ≡ true
    less true true c h = absurd cc
    less true false c h = h
    less false b c h = absurd cc
one-open (_ ∷ R) sound m n s l hs hl om on e = one-open R sound.1 m n s l hs hl om on e

-- true is not false
never : true ≡ false → ⊥
never h = absurd cc

-- after message m is settled, the open message of x is what it was, unless that was m
settled-found : (R : Log) (x : ObjId) (m : ℕ) → Sound R
    → find (λ s. same s.sender x && (is_some (letter R s.number) && not ((s.number == m) || list_any (settles s.number) R))) (letters R) ≡ unless_number m (find (λ s. same s.sender x && is_open R s.number) (letters R))
settled-found R x m sound = go (find p (letters R)) refl
  where
    p : Letter → Bool
    p s = same s.sender x && is_open R s.number

    q : Letter → Bool
    q s = same s.sender x && (is_some (letter R s.number) && not ((s.number == m) || list_any (settles s.number) R))

    less : (a b c d : Bool) → (a && (b && not (c || d))) ≡ true → ((a && (b && not d)) ≡ true) × (c ≡ false)
    less true true false d h = (h, refl)
    less true true true d h = absurd cc
    less true false c d h = absurd cc
    less false b c d h = absurd cc

    more : (a b c d : Bool) → (a && (b && not d)) ≡ true → c ≡ false → (a && (b && not (c || d))) ≡ true
    more a b true d h e = absurd cc
    more a b false d h e = h

    weaker : (s : Letter) → q s ≡ true → p s ≡ true
    weaker s h = (less (same s.sender x) (is_some (letter R s.number)) (s.number == m) (list_any (settles s.number) R) h).0

    -- the open message is gone: no other is open
    gone : (s : Letter) → find p (letters R) ≡ Some s → (s.number == m) ≡ true → (o : Option Letter) → find q (letters R) ≡ o → o ≡ None
    gone s is e None found = refl
    gone s is e (Some l) found =
        let ql : q l ≡ true = find-passes q (letters R) l found in
        let pl : p l ≡ true = weaker l ql in
        let ps : p s ≡ true = find-passes p (letters R) s is in
        let senders : s.sender ≡ l.sender = same-equal s.sender x ((parts _ _ ps).0) ∙ sym (same-equal l.sender x ((parts _ _ pl).0)) in
        let numbers : s.number ≡ l.number = one-open R sound s.number l.number s l (found-letter p R s is) (found-letter q R l found) ((parts _ _ ps).1) ((parts _ _ pl).1) senders in
        let not_m : (l.number == m) ≡ false = (less (same l.sender x) (is_some (letter R l.number)) (l.number == m) (list_any (settles l.number) R) ql).1 in
        absurd (never (sym e ∙ ap (λ n. n == m) numbers ∙ not_m))

    at : (s : Letter) → find p (letters R) ≡ Some s → (b : Bool) → (s.number == m) ≡ b → find q (letters R) ≡ cond b None (Some s)
    at s is true e = gone s is e (find q (letters R)) refl
    at s is false e =
        find-still p q weaker (letters R) s is (more (same s.sender x) (is_some (letter R s.number)) (s.number == m) (list_any (settles s.number) R) (find-passes p (letters R) s is) e)

    go : (o : Option Letter) → find p (letters R) ≡ o → find q (letters R) ≡ unless_number m o
    go None is = find-none p q weaker (letters R) is
    go (Some s) is = at s is (s.number == m) refl

-- in a sound log what is settled is open
pub sound-ends : (R : Log) → Sound R → Each EndsOpen R
sound-ends [] sound = tt
sound-ends (rec.Took m p ∷ R) sound = (sound.0.1, sound-ends R sound.1)
sound-ends (rec.Dropped m ∷ R) sound = (sound.0, sound-ends R sound.1)
sound-ends (_ ∷ R) sound = (tt, sound-ends R sound.1)

-- the law: the two open messages are one
pub open_of-growing : (R : Log) (x : ObjId) → Sound R → open_of R x ≡ growing_open R x
unfolding open_of
open_of-growing [] x sound = refl
open_of-growing (rec.Sent y e mode badge message ∷ R) x sound = go (same y x) refl
    (find-each (λ s. same s.sender x && is_open (rec.Sent y e mode badge message ∷ R) s.number) (λ s. same s.sender x && is_open R s.number) (letters R)
    (each-map (λ s. s.number < next_message R) (λ s. (same s.sender x && is_open (rec.Sent y e mode badge message ∷ R) s.number) ≡ (same s.sender x && is_open R s.number))
    (λ s lt. ap (λ o. same s.sender x && (is_some o && not (list_any (settles s.number) R))) (pass (next_message R == s.number) (Some new) (letter R s.number) (number-other (next_message R) s.number (λ e. absurd (omega (arith, lt, e)))))) (letters R) (letters-below R)) ∙ open_of-growing R x sound.1)
  where
    new : Letter
    new = record { number = next_message R; sender = y; endpoint = e; mode = mode; badge = badge; message = message }

    fresh : is_open (rec.Sent y e mode badge message ∷ R) (next_message R) ≡ true
    fresh = sent-open R new (sound-ends R sound.1)

    go : (b : Bool) → same y x ≡ b → find (λ s. same s.sender x && is_open (rec.Sent y e mode badge message ∷ R) s.number) (letters R) ≡ growing_open R x
        → cond (b && is_open (rec.Sent y e mode badge message ∷ R) (next_message R)) (Some new) (find (λ s. same s.sender x && is_open (rec.Sent y e mode badge message ∷ R) s.number) (letters R)) ≡ cond b (Some new) (growing_open R x)
    go true is h = ap (λ b. cond b (Some new) (find (λ s. same s.sender x && is_open (rec.Sent y e mode badge message ∷ R) s.number) (letters R))) fresh
    go false is h = h
open_of-growing (rec.Took m p ∷ R) x sound = settled-found R x m sound.1 ∙ ap (unless_number m) (open_of-growing R x sound.1)
open_of-growing (rec.Dropped m ∷ R) x sound = settled-found R x m sound.1 ∙ ap (unless_number m) (open_of-growing R x sound.1)
open_of-growing (_ ∷ R) x sound = open_of-growing R x sound.1
