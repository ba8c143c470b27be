-- The open message of a thread, but for its number, after records that settle messages with one
-- sender.
use Rattle.std.specs.Prelude.{ℕ, ◌≡◌, ◌<◌, ◌==◌, Bool, true, false, cond, Option, Some, None, ◌∷◌, option_map}
use Rattle.std.proofs.Common.{refl, ap, sym, ◌∙◌, subst}
use Rattle.std.proofs.lemmas.Bool.{eq-eqb, eqb-true}
use Rattle.mcs_types.specs.Views.{Content}
use Rattle.mcs_types.specs.declared.id.ObjId.{ObjId}
use Rattle.mcs_types.specs.declared.id.Badge.{Badge}
use Rattle.mcs_types.specs.declared.record.Letter.{Letter}
use Rattle.mcs_types.specs.declared.record.SendMode.{SendMode}
use Rattle.mcs_types.specs.declared.record.Rec.TheVariants as rec
use Rattle.mcs_types.specs.Ids.{same}
use Rattle.mcs_types.proofs.Ids.{same-self, same-equal}
use Rattle.mcs_book.specs.Logs.{Log}
use Rattle.mcs_book.specs.Growing.{growing_open, unless_number}
use Rattle.mcs_book.specs.Messages.{next_message, letter, open_of}
use Rattle.mcs_book.specs.Sound.{Sound}
use Rattle.mcs_book.proofs.Messages.MessageLaws.{open_of-open, open_of-letter}
use Rattle.mcs_book.proofs.Messages.OpenLaws.{open_of-growing}
use Rattle.mcs_explore_equivalence.specs.ButNumbers.{unnumbered, AlikeButNumbers, open_number, AreOf}

-- the letter of a number
pub of-number : (o : Option Letter) (m : ℕ) → option_map (λ (s : Letter). s.number) o ≡ Some m → (s : Letter) × ((o ≡ Some s) × (s.number ≡ m))
of-number None m h = absurd cc
of-number (Some s) m h = (s, (refl, cc))

-- the open message of x was sent by x
sender-is : (R : Log) (x : ObjId) (s : Letter) → Sound R → growing_open R x ≡ Some s → s.sender ≡ x
sender-is R x s sound h = same-equal s.sender x ((open_of-open R x s (open_of-growing R x sound ∙ h)).0)

-- open messages with one number are of one thread
pub number-own : (R : Log) (x y : ObjId) (s u : Letter) → Sound R → growing_open R x ≡ Some s → growing_open R y ≡ Some u → s.number ≡ u.number → x ≡ y
number-own R x y s u sound h k e =
    let one : letter R s.number ≡ Some s = open_of-letter R x s (open_of-growing R x sound ∙ h) in
    let two : letter R u.number ≡ Some u = open_of-letter R y u (open_of-growing R y sound ∙ k) in
    let both : Some s ≡ Some u = sym one ∙ ap (letter R) e ∙ two in
    let it : s ≡ u = cc in
    sym (sender-is R x s sound h) ∙ ap (λ (l : Letter). l.sender) it ∙ sender-is R y u sound k

-- so a number that is the one of a thread is not that of another
of-other : (S : Log) (x y : ObjId) (v : Letter) (n : ℕ) → x ≡ y → open_number S x ≡ Some n → growing_open S y ≡ Some v → (v.number == n) ≡ true
of-other S x y v n e h k =
    let l = of-number (growing_open S x) n h in
    let both : Some l.0 ≡ Some v = sym l.1.0 ∙ ap (growing_open S) e ∙ k in
    let it : l.0 ≡ v = cc in
    eq-eqb v.number n (ap (λ (s : Letter). s.number) (sym it) ∙ l.1.1)

is-of : (R : Log) (x y : ObjId) (u : Letter) (m : ℕ) → Sound R → open_number R x ≡ Some m → growing_open R y ≡ Some u → (u.number == m) ≡ true → x ≡ y
is-of R x y u m sound h k e =
    let l = of-number (growing_open R x) m h in
    number-own R x y l.0 u sound l.1.0 k (l.1.1 ∙ sym (eqb-true u.number m e))

-- after messages of one thread are settled, each thread has the same open message, but for its
-- number
pub settled-letters : (R S : Log) → AlikeButNumbers R S → (m n : ℕ) → AreOf R S m n → (y : ObjId) → option_map unnumbered (unless_number m (growing_open R y)) ≡ option_map unnumbered (unless_number n (growing_open S y))
settled-letters R S a m n of y = go (growing_open R y) refl (growing_open S y) refl (a.letters y)
  where
    go : (o : Option Letter) → growing_open R y ≡ o → (p : Option Letter) → growing_open S y ≡ p → option_map unnumbered o ≡ option_map unnumbered p → option_map unnumbered (unless_number m o) ≡ option_map unnumbered (unless_number n p)
    go None e None f h = refl
    go None e (Some v) f h = absurd cc
    go (Some u) e None f h = absurd cc
    go (Some u) e (Some v) f h = at (u.number == m) refl (v.number == n) refl
      where
        at : (b : Bool) → (u.number == m) ≡ b → (c : Bool) → (v.number == n) ≡ c → option_map unnumbered (cond b None (Some u)) ≡ option_map unnumbered (cond c None (Some v))
        at true i true j = refl
        at false i false j = h
        at true i false j = let no : true ≡ false = sym (of-other S of.0 y v n (is-of R of.0 y u m a.left of.1.0 e i) of.1.1 f) ∙ j in absurd cc
        at false i true j = let no : true ≡ false = sym (of-other R of.0 y u m (is-of S of.0 y v n a.right of.1.1 f j) of.1.0 e) ∙ i in absurd cc

-- a message that was just sent is its sender's open one
pub sent-of : (R S : Log) (x e : ObjId) (mode : SendMode) (badge : Badge) (message : Content) → AreOf (rec.Sent x e mode badge message ∷ R) (rec.Sent x e mode badge message ∷ S) (next_message R) (next_message S)
sent-of R S x e mode badge message = (x, (at R, at S))
  where
    at : (Q : Log) → open_number (rec.Sent x e mode badge message ∷ Q) x ≡ Some (next_message Q)
    at Q = ap (λ b. option_map (λ (s : Letter). s.number) (cond b (Some (record { number = next_message Q; sender = x; endpoint = e; mode = mode; badge = badge; message = message })) (growing_open Q x))) (same-self x)

-- the open messages of one thread
pub open-of : (R S : Log) (x : ObjId) (s l : Letter) → Sound R → Sound S → open_of R x ≡ Some s → open_of S x ≡ Some l → AreOf R S s.number l.number
open-of R S x s l left right e f = (x, (ap (λ o. option_map (λ (z : Letter). z.number) o) (sym (open_of-growing R x left) ∙ e), ap (λ o. option_map (λ (z : Letter). z.number) o) (sym (open_of-growing S x right) ∙ f)))
