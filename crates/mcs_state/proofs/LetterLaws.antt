-- The open messages follow a record.
use Rattle.std.specs.Prelude.{ℕ, ◌≡◌, ◌≢◌, ◌==◌, Bool, true, false, cond, List, ◌∷◌, Option, Some, None}
use Rattle.std.proofs.Common.{refl, ap, sym, ◌∙◌}
use Rattle.std.proofs.lemmas.Bool.{eqb-true, eq-eqb}
use Rattle.mcs_types.specs.declared.id.ObjId.{ObjId}
use Rattle.mcs_types.specs.declared.id.Kind.TheVariants as kind
use Rattle.mcs_types.specs.declared.record.Letter.{Letter}
use Rattle.mcs_types.specs.declared.record.Rec.{Rec}
use Rattle.mcs_types.specs.declared.record.Rec.TheVariants as rec
use Rattle.mcs_types.specs.Ids.{same, value_after}
use Rattle.mcs_types.proofs.Ids.{same-self, same-equal}
use Rattle.mcs_book.specs.Logs.{Log}
use Rattle.mcs_book.specs.Growing.{growing_open, unless_number}
use Rattle.mcs_book.specs.Messages.{letter, open_of, next_message}
use Rattle.mcs_book.specs.Sound.{Allowed, Sound}
use Rattle.mcs_book.proofs.Messages.MessageLaws.{open_of-letter, open_of-open}
use Rattle.mcs_book.proofs.Messages.OpenLaws.{open_of-growing}
use Rattle.mcs_state.specs.Now.{IsNumberOf}
use Rattle.mcs_objects.specs.Places.{kept_at}
use Rattle.mcs_state.specs.Tables.{LettersAgree}
use Rattle.mcs_state.specs.Following.{KeepsLetter, LosesLetter, LettersFollow}

-- the open message of one thread has another number than that of another thread
apart : (R : Log) (x y : ObjId) (s l : Letter) → Sound R → growing_open R x ≡ Some s → growing_open R y ≡ Some l → x ≢ y → s.number ≢ l.number
apart R x y s l sound hs hl ne e =
    let os : open_of R x ≡ Some s = open_of-growing R x sound ∙ hs in
    let ol : open_of R y ≡ Some l = open_of-growing R y sound ∙ hl in
    let one : Some s ≡ Some l = sym (open_of-letter R x s os) ∙ ap (λ n. letter R n) e ∙ open_of-letter R y l ol in
    let it : s ≡ l = cc in
    let xs : s.sender ≡ x = same-equal s.sender x ((open_of-open R x s os).0) in
    let yl : l.sender ≡ y = same-equal l.sender y ((open_of-open R y l ol).0) in
    ne (sym xs ∙ ap (λ (z : Letter). z.sender) it ∙ yl)

-- a message that another thread sent stays open
pub stays : (R : Log) (x y : ObjId) (s : Letter) → Sound R → growing_open R x ≡ Some s → y ≢ x → unless_number s.number (growing_open R y) ≡ growing_open R y
stays R x y s sound h ne = go (growing_open R y) refl
  where
    go : (o : Option Letter) → growing_open R y ≡ o → unless_number s.number o ≡ o
    go None is = refl
    go (Some l) is = pass (l.number == s.number) refl
      where
        pass : (b : Bool) → (l.number == s.number) ≡ b → cond b None (Some l) ≡ Some l
        pass true same_number = absurd (apart R x y s l sound h is (λ e. ne (sym e)) (sym (eqb-true l.number s.number same_number)))
        pass false same_number = refl

-- being one object goes both ways
flip : (x y : ObjId) → same x y ≡ same y x
flip x y = go (same x y) refl (same y x) refl
  where
    go : (b : Bool) → same x y ≡ b → (c : Bool) → same y x ≡ c → b ≡ c
    go true e true f = refl
    go false e false f = refl
    go true e false f = let no : true ≡ false = sym (same-self x) ∙ ap (λ z. same z x) (same-equal x y e) ∙ f in absurd cc
    go false e true f = let no : true ≡ false = sym (same-self y) ∙ ap (λ z. same z y) (same-equal y x f) ∙ e in absurd cc

-- a message that is taken was open, and its sender has none any more
taken : (R : Log) (m : ℕ) (s : Letter) (y : ObjId) → Sound R → growing_open R s.sender ≡ Some s → s.number ≡ m → value_after y s.sender None (growing_open R y) ≡ unless_number m (growing_open R y)
taken R m s y sound h is = go (same y s.sender) refl
  where
    gone : unless_number m (Some s) ≡ None
    gone = rw (eq-eqb s.number m is) refl

    go : (b : Bool) → same y s.sender ≡ b → cond b None (growing_open R y) ≡ unless_number m (growing_open R y)
    go true e = sym (ap (λ z. unless_number m (growing_open R z)) (same-equal y s.sender e) ∙ ap (λ o. unless_number m o) h ∙ gone)
    go false e = sym (ap (λ n. unless_number n (growing_open R y)) (sym is) ∙ stays R s.sender y s sound h (λ it. let no : true ≡ false = sym (same-self y) ∙ ap (λ z. same y z) it ∙ e in absurd cc))

-- after a message is taken or dropped
lost : (R : Log) (m : ℕ) (old new : List (Option Letter)) → Sound R → LosesLetter R m old new → LettersAgree old R → (t : ObjId) → kept_at kind.Thread new t ≡ unless_number m (growing_open R t)
lost R m old new sound h a = λ t. h.1.2 t ∙ ap (λ o. value_after t h.0.sender None o) (a t) ∙ taken R m h.0 t sound h.1.0 h.1.1

-- after any record
pub letters-follow : (r : Rec) (R : Log) (old new : List (Option Letter)) → Sound R → Allowed R r → LettersFollow R r old new → LettersAgree old R → LettersAgree new (r ∷ R)
letters-follow (rec.Sent x e mode badge message) R old new sound ok h a =
    λ t. h t ∙ ap (λ o. value_after t x (Some (record { number = next_message R; sender = x; endpoint = e; mode = mode; badge = badge; message = message })) o) (a t) ∙ ap (λ b. cond b (Some (record { number = next_message R; sender = x; endpoint = e; mode = mode; badge = badge; message = message })) (growing_open R t)) (flip t x)
letters-follow (rec.Took m p) R old new sound ok h a = lost R m old new sound h a
letters-follow (rec.Dropped m) R old new sound ok h a = lost R m old new sound h a
letters-follow _ R old new sound ok h a = rw h a

-- a message whose number is known is open
pub number-open : (R : Log) (x : ObjId) (m : ℕ) → Sound R → IsNumberOf m (open_of R x) → (s : Letter) × ((growing_open R x ≡ Some s) × (s.number ≡ m))
number-open R x m sound number = go (open_of R x) refl number
  where
    go : (o : Option Letter) → open_of R x ≡ o → IsNumberOf m o → (s : Letter) × ((growing_open R x ≡ Some s) × (s.number ≡ m))
    go None e h = absurd h
    go (Some s) e h = (s, (sym (open_of-growing R x sound) ∙ e, h))

-- what is known of the open message of a thread
pub record IsOpenLetter (R : Log) (x : ObjId) (m : ℕ) (s : Letter) : Type 0 where
  pub letter : letter R m ≡ Some s
  pub number : s.number ≡ m
  pub sender : s.sender ≡ x
  pub kept : growing_open R s.sender ≡ Some s

pub opened : (R : Log) (x : ObjId) (m : ℕ) (s : Letter) → Sound R → IsNumberOf m (open_of R x) → growing_open R x ≡ Some s → IsOpenLetter R x m s
opened R x m s sound number h =
    let found = number-open R x m sound number in
    let same_letter : Some s ≡ Some found.0 = sym h ∙ found.1.0 in
    let it : s ≡ found.0 = cc in
    let is : s.number ≡ m = ap (λ (l : Letter). l.number) it ∙ found.1.1 in
    let open_is : open_of R x ≡ Some s = open_of-growing R x sound ∙ h in
    let own : s.sender ≡ x = same-equal s.sender x ((open_of-open R x s open_is).0) in
    record {
      letter = sym (ap (λ n. letter R n) is) ∙ open_of-letter R x s open_is;
      number = is;
      sender = own;
      kept = ap (λ y. growing_open R y) own ∙ h;
    }

-- the place of a sender whose open message has this number is emptied: that message is no thread's
-- any more
pub dropped : (R : Log) (old new : List (Option Letter)) (x : ObjId) (m : ℕ) → Sound R → IsNumberOf m (open_of R x) → KeepsLetter x None old new → LosesLetter R m old new
dropped R old new x m sound number h =
    let found = number-open R x m sound number in
    let is = opened R x m found.0 sound number found.1.0 in
    (found.0, (is.kept, is.number, rw is.sender h))
