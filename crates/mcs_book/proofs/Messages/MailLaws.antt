-- What last reached a thread: a message taken, or an answer, stays there until something else
-- reaches it.
use Rattle.std.specs.Prelude.{ℕ, Bool, true, false, cond, not, ◌≡◌, ◌≢◌, List, [], ◌∷◌, Option, Some, None, refl, unwrap_or, option_map}
use Rattle.std.proofs.Common.{◌∙◌, ap}
use Rattle.mcs_types.specs.Views.{Content}
use Rattle.mcs_types.specs.declared.id.ObjId.{ObjId}
use Rattle.mcs_types.specs.declared.record.Letter.{Letter}
use Rattle.mcs_types.specs.declared.record.Mail.{Mail}
use Rattle.mcs_types.specs.declared.record.Mail.TheVariants.{Message}
use Rattle.mcs_types.specs.declared.record.Rec.{Rec}
use Rattle.mcs_types.specs.declared.record.Rec.TheVariants as rec
use Rattle.mcs_types.specs.Ids.{same}
use Rattle.mcs_book.specs.Logs.{Log, onto, given, latest_knowing}
use Rattle.mcs_book.specs.Objects.{is_alive}
use Rattle.mcs_book.specs.Messages.{letter}
use Rattle.mcs_book.specs.Statuses.{letter_mail, mail_brought, mail_of}
use Rattle.mcs_types.proofs.Ids.{same-self, same-other}
use Rattle.mcs_book.proofs.SoundLogs.Making.{Passes, is_plain}

-- whether a record brings nothing to x, and neither makes nor closes an object
abbrev pub is_still : ObjId → Rec → Bool
is_still x (rec.Made o form) = false
is_still x (rec.Closed o) = false
is_still x (rec.Took m p) = not (same x p)
is_still x (rec.Paid r y message) = not (same x y)
is_still x (rec.Heard y n word) = not (same x y)
is_still x _ = true

-- a plain record brings nothing to anybody
pub plain-still : (x : ObjId) (r : Rec) → is_plain r ≡ true → is_still x r ≡ true
plain-still x (rec.Made o form) h = absurd cc
plain-still x (rec.Closed o) h = absurd cc
plain-still x (rec.Sent y e mode badge message) h = absurd cc
plain-still x (rec.Took m p) h = absurd cc
plain-still x (rec.Paid r y message) h = absurd cc
plain-still x (rec.Heard y n word) h = absurd cc
plain-still x _ h = refl

-- whether a record neither makes nor closes an object
abbrev pub is_lasting : Rec → Bool
is_lasting (rec.Made o form) = false
is_lasting (rec.Closed o) = false
is_lasting _ = true

-- a plain record does neither
pub plain-lasting : (r : Rec) → is_plain r ≡ true → is_lasting r ≡ true
plain-lasting (rec.Made o form) h = absurd cc
plain-lasting (rec.Closed o) h = absurd cc
plain-lasting _ h = refl

-- what is there after such a record was there before
pub alive-last : (R : Log) (x : ObjId) (r : Rec) → is_lasting r ≡ true → is_alive (r ∷ R) x ≡ is_alive R x
alive-last R x (rec.Made o form) h = absurd cc
alive-last R x (rec.Closed o) h = absurd cc
alive-last R x _ h = refl

-- the same after several
pub alive-lasts : (R : Log) (x : ObjId) (made : List Rec) → Passes is_lasting made → is_alive (onto made R) x ≡ is_alive R x
alive-lasts R x [] h = refl
alive-lasts R x (r ∷ made) h = alive-lasts (r ∷ R) x made h.1 ∙ alive-last R x r h.0

-- what brings x nothing does neither
still-lasting : (x : ObjId) (r : Rec) → is_still x r ≡ true → is_lasting r ≡ true
still-lasting x (rec.Made o form) h = absurd cc
still-lasting x (rec.Closed o) h = absurd cc
still-lasting x _ h = refl

-- what reaches another does not reach x
pub other-still : (x y : ObjId) → x ≢ y → not (same x y) ≡ true
other-still x y ne = ap not (same-other x y ne)

-- what reached x before the latest record, where that brings it nothing
kept-mail : (b : Bool) (mail : Option Mail) (o : Option Mail) → not b ≡ true → unwrap_or (given b mail) o ≡ o
kept-mail true mail o h = absurd cc
kept-mail false mail o h = refl

-- what a record brings to x that brings it nothing
brings-none : (R : Log) (x : ObjId) (r : Rec) → is_still x r ≡ true → unwrap_or (mail_brought x R r) (latest_knowing None (mail_brought x) R) ≡ latest_knowing None (mail_brought x) R
brings-none R x (rec.Took m p) h = kept-mail (same x p) (option_map letter_mail (letter R m)) _ h
brings-none R x (rec.Paid r y message) h = kept-mail (same x y) (Some (Message (record { 0 = 0 }) message)) _ h
brings-none R x (rec.Heard y n word) h = kept-mail (same x y) _ _ h
brings-none R x _ h = refl

-- after such records what last reached x is the same
pub mail-still : (R : Log) (x : ObjId) (made : List Rec) → Passes (is_still x) made → mail_of (onto made R) x ≡ mail_of R x
unfolding mail_of
mail-still R x [] h = refl
mail-still R x (r ∷ made) h =
    mail-still (r ∷ R) x made h.1
    ∙ ap (λ b. cond b (latest_knowing None (mail_brought x) (r ∷ R)) None) (alive-last R x r (still-lasting x r h.0))
    ∙ ap (λ o. cond (is_alive R x) o None) (brings-none R x r h.0)

-- a living thread that is meant gets it
meant : (b c : Bool) (o rest : Option Mail) → b ≡ true → c ≡ true → cond b (unwrap_or (given c o) rest) None ≡ o
meant true true o rest e f = refl
meant true false o rest e f = absurd cc
meant false c o rest e f = absurd cc

-- who takes a message has it
pub mail-took : (R : Log) (m : ℕ) (p : ObjId) (s : Letter) → is_alive R p ≡ true → letter R m ≡ Some s → mail_of (rec.Took m p ∷ R) p ≡ Some (letter_mail s)
unfolding mail_of
mail-took R m p s alive is = meant (is_alive R p) (same p p) (option_map letter_mail (letter R m)) _ alive (same-self p) ∙ ap (option_map letter_mail) is

-- who is answered has the answer
pub mail-paid : (R : Log) (r x : ObjId) (message : Content) → is_alive R x ≡ true → mail_of (rec.Paid r x message ∷ R) x ≡ Some (Message (record { 0 = 0 }) message)
unfolding mail_of
mail-paid R r x message alive = meant (is_alive R x) (same x x) (Some (Message (record { 0 = 0 }) message)) _ alive (same-self x)
