-- What the log says of threads, and that it says nothing of what was never made.
use Rattle.std.specs.Prelude.{◌≡◌, Bool, true, false, cond, find, ◌||◌, [], ◌∷◌, Option, Some, None, IsSome, unwrap_or}
use Rattle.std.proofs.Common.{refl, ap, sym, ◌∙◌, subst}
use Rattle.mcs_types.specs.declared.id.ObjId.{ObjId}
use Rattle.mcs_types.specs.declared.id.Kind.{Kind}
use Rattle.mcs_types.specs.declared.id.Kind.TheVariants as kind
use Rattle.mcs_types.specs.declared.record.Form.{Form}
use Rattle.mcs_types.specs.declared.record.Form.TheVariants as form
use Rattle.mcs_types.specs.declared.record.Mode.TheVariants.{Inactive}
use Rattle.mcs_types.specs.declared.record.Queue.{Queue}
use Rattle.mcs_types.specs.declared.record.Rec.{Rec}
use Rattle.mcs_types.specs.declared.record.Rec.TheVariants as rec
use Rattle.mcs_types.specs.Ids.{same, same_kind}
use Rattle.mcs_threads.specs.declared.row.ThreadRow.{ThreadRow}
use Rattle.mcs_book.specs.Logs.{Log, given, latest_knowing}
use Rattle.mcs_types.specs.Ids.{is_just}
use Rattle.mcs_book.specs.Objects.{was_made, was_closed, is_alive, form_of}
use Rattle.mcs_book.specs.Threads.{prio_of, mode_of}
use Rattle.mcs_book.specs.Queues.{queue_of, reply_with}
use Rattle.mcs_book.specs.Notifications.{bound_of}
use Rattle.mcs_book.specs.Statuses.{mail_brought}
use Rattle.mcs_book.specs.Sound.{Sound, IsThere, IsFormOf}
use Rattle.mcs_types.proofs.Ids.{same-equal}
use Rattle.mcs_book.proofs.Objects.MadeLaws.{alive-made}
use Rattle.mcs_book.specs.Replies.{owed_by, owing, replies}
use Rattle.mcs_book.proofs.Objects.CountLaws.{closed-made}
use Rattle.mcs_book.proofs.Firm.Laws.{owing-owed}
use Rattle.mcs_book.proofs.SoundLogs.KeptLaws.{standing-owed, owed-there}
use Rattle.mcs_state.specs.Saying.{block_said, row_with, row_said}

-- the log says nothing of t
abbrev pub IsUnsaid : Log → ObjId → Type 0
IsUnsaid R t = (form_of R t ≡ None) × (prio_of R t ≡ 0) × (mode_of R t ≡ Inactive) × (queue_of R t ≡ None) × (bound_of R t ≡ None)

-- who was made is not who was never made
apart : (R : Log) (t u : ObjId) → was_made R t ≡ false → was_made R u ≡ true → same t u ≡ false
apart R t u h made = go (same t u) refl
  where
    go : (b : Bool) → same t u ≡ b → b ≡ false
    go true e = let no : true ≡ false = sym made ∙ ap (was_made R) (sym (same-equal t u e)) ∙ h in absurd cc
    go false e = refl

-- nor is who is there
other : (R : Log) (t u : ObjId) → was_made R t ≡ false → is_alive R u ≡ true → same t u ≡ false
other R t u h alive = apart R t u h (alive-made R u alive)

-- a value that is not given, and one that is the default
unset : {A : Type 0} (b : Bool) (x y z : A) → b ≡ false → y ≡ z → unwrap_or (given b x) y ≡ z
unset true x y z off e = absurd cc
unset false x y z off e = e

reset : {A : Type 0} (b : Bool) (x y : A) → y ≡ x → unwrap_or (given b x) y ≡ x
reset true x y e = refl
reset false x y e = e

-- nothing is said of what was never made
pub unsaid : (R : Log) (t : ObjId) → Sound R → was_made R t ≡ false → IsUnsaid R t
unsaid [] t sound h = (refl, refl, refl, refl, refl)
unsaid (rec.Made o f ∷ R) t sound h = go (same t o) h (unsaid R t sound.1)
  where
    go : (b : Bool) → (b || was_made R t) ≡ false → (was_made R t ≡ false → IsUnsaid R t)
        → (unwrap_or (given b (Some f)) (form_of R t) ≡ None) × (prio_of R t ≡ 0) × (mode_of R t ≡ Inactive) × (queue_of R t ≡ None) × (bound_of R t ≡ None)
    go true h later = absurd cc
    go false h later = later h
unsaid (rec.Prio u p ∷ R) t sound h = let r = unsaid R t sound.1 h in (r.0, unset _ p.0 _ 0 (other R t u h sound.0.0.1) r.1, r.2, r.3, r.4)
unsaid (rec.Turns u m ∷ R) t sound h = let r = unsaid R t sound.1 h in (r.0, r.1, unset _ m _ Inactive (other R t u h sound.0.0.1) r.2, r.3, r.4)
unsaid (rec.Joins u q w ∷ R) t sound h = let r = unsaid R t sound.1 h in (r.0, r.1, r.2, unset _ (Some q) _ None (other R t u h sound.0.0.1) r.3, r.4)
unsaid (rec.Parts u q ∷ R) t sound h = let r = unsaid R t sound.1 h in (r.0, r.1, r.2, reset _ None _ r.3, r.4)
unsaid (rec.Tied u None ∷ R) t sound h = let r = unsaid R t sound.1 h in (r.0, r.1, r.2, r.3, reset _ None _ r.4)
unsaid (rec.Tied u (Some n) ∷ R) t sound h = let r = unsaid R t sound.1 h in (r.0, r.1, r.2, r.3, unset _ (Some n) _ None (other R t u h sound.0.0.1) r.4)
unsaid (_ ∷ R) t sound h = unsaid R t sound.1 h

-- who is owed an answer was made
owed-made : (R : Log) (r x : ObjId) → Sound R → owed_by R r ≡ Some x → was_made R x ≡ true
owed-made [] r x sound e = absurd cc
owed-made (rec.Made o f ∷ R) r x sound e = either (same x o) (owed-made R r x sound.1 e)
  where
    either : (b : Bool) → was_made R x ≡ true → (b || was_made R x) ≡ true
    either true h = refl
    either false h = h
owed-made (rec.Owes u y s ∷ R) r x sound e = go (same r u) e (owed-made R r x sound.1)
  where
    go : (b : Bool) → unwrap_or (given b (Some y)) (owed_by R r) ≡ Some x → (owed_by R r ≡ Some x → was_made R x ≡ true) → was_made R x ≡ true
    go true k later = let it : y ≡ x = cc in ap (was_made R) (sym it) ∙ alive-made R y sound.0.2.1
    go false k later = later k
owed-made (rec.Paid u y message ∷ R) r x sound e = go (same r u) e (owed-made R r x sound.1)
  where
    go : (b : Bool) → unwrap_or (given b None) (owed_by R r) ≡ Some x → (owed_by R r ≡ Some x → was_made R x ≡ true) → was_made R x ≡ true
    go true k later = absurd cc
    go false k later = later k
owed-made (rec.Void u y ending ∷ R) r x sound e = go (same r u) e (owed-made R r x sound.1)
  where
    go : (b : Bool) → unwrap_or (given b None) (owed_by R r) ≡ Some x → (owed_by R r ≡ Some x → was_made R x ≡ true) → was_made R x ≡ true
    go true k later = absurd cc
    go false k later = later k
owed-made (_ ∷ R) r x sound e = owed-made R r x sound.1 e

-- nothing reached what was never made
pub unmailed : (R : Log) (t : ObjId) → Sound R → was_made R t ≡ false → latest_knowing None (mail_brought t) R ≡ None
unmailed [] t sound h = refl
unmailed (rec.Made o f ∷ R) t sound h = go (same t o) h (unmailed R t sound.1)
  where
    go : (b : Bool) → (b || was_made R t) ≡ false → (was_made R t ≡ false → latest_knowing None (mail_brought t) R ≡ None) → latest_knowing None (mail_brought t) R ≡ None
    go true h later = absurd cc
    go false h later = later h
unmailed (rec.Took m p ∷ R) t sound h = unset _ _ _ None (other R t p h sound.0.0.1) (unmailed R t sound.1 h)
unmailed (rec.Paid r x message ∷ R) t sound h = unset _ _ _ None (apart R t x h (owed-made R r x sound.1 sound.0)) (unmailed R t sound.1 h)
unmailed (rec.Heard u n word ∷ R) t sound h = unset _ _ _ None (other R t u h sound.0.0.1) (unmailed R t sound.1 h)
unmailed (_ ∷ R) t sound h = unmailed R t sound.1 h

-- what has no form was never made
pub formless : (R : Log) (t : ObjId) → form_of R t ≡ None → was_made R t ≡ false
formless [] t e = refl
formless (rec.Made o f ∷ R) t e = go (same t o) e (formless R t)
  where
    go : (b : Bool) → unwrap_or (given b (Some f)) (form_of R t) ≡ None → (form_of R t ≡ None → was_made R t ≡ false) → (b || was_made R t) ≡ false
    go true k later = absurd cc
    go false k later = later k
formless (_ ∷ R) t e = formless R t e

-- what has a form was made
pub formed : (R : Log) (t : ObjId) (f : Form) → form_of R t ≡ Some f → was_made R t ≡ true
formed [] t f e = absurd cc
formed (rec.Made o g ∷ R) t f e = go (same t o) e (formed R t f)
  where
    go : (b : Bool) → unwrap_or (given b (Some g)) (form_of R t) ≡ Some f → (form_of R t ≡ Some f → was_made R t ≡ true) → (b || was_made R t) ≡ true
    go true k later = refl
    go false k later = later k
formed (_ ∷ R) t f e = formed R t f e

-- a form is one of the object's kind
pub form-fits : (R : Log) (o : ObjId) (f : Form) → Sound R → form_of R o ≡ Some f → IsFormOf o.kind f
form-fits [] o f sound e = absurd cc
form-fits (rec.Made u g ∷ R) o f sound e = go (same o u) refl e (form-fits R o f sound.1)
  where
    go : (b : Bool) → same o u ≡ b → unwrap_or (given b (Some g)) (form_of R o) ≡ Some f → (form_of R o ≡ Some f → IsFormOf o.kind f) → IsFormOf o.kind f
    go true is k later =
        let it : g ≡ f = cc in
        let here : o ≡ u = same-equal o u is in
        subst (λ (x : ObjId). IsFormOf x.kind f) (sym here) (subst (λ (x : Form). IsFormOf u.kind x) it sound.0.1)
    go false is k later = later k
form-fits (_ ∷ R) o f sound e = form-fits R o f sound.1 e

-- no reply object owes what was never made
pub unowed : (R : Log) (t : ObjId) → Sound R → was_made R t ≡ false → owing R t ≡ None
unowed R t sound h = go (owing R t) refl
  where
    go : (o : Option ObjId) → owing R t ≡ o → o ≡ None
    go None e = refl
    go (Some r) e = let no : true ≡ false = sym (owed-made R r t sound (owing-owed R t r e)) ∙ h in absurd cc

-- nor who is in a queue
pub standing-unowed : (R : Log) (t : ObjId) (q : Queue) → Sound R → queue_of R t ≡ Some q → owing R t ≡ None
standing-unowed R t q sound h = go (owing R t) refl
  where
    go : (o : Option ObjId) → owing R t ≡ o → o ≡ None
    go None e = refl
    go (Some r) e = absurd (standing-owed R t q r sound h (owing-owed R t r e))

-- what was never made owes no thread
pub owes-none : (R : Log) (r : ObjId) → Sound R → was_made R r ≡ false → owed_by R r ≡ None
owes-none R r sound h = go (owed_by R r) refl
  where
    go : (o : Option ObjId) → owed_by R r ≡ o → o ≡ None
    go None e = refl
    go (Some x) e = let there = (owed-there R r x sound e).0 in let no : true ≡ false = sym (alive-made R r there.1) ∙ h in absurd cc

-- whether a record neither makes an object nor makes or ends a debt
abbrev pub is_debtless : Rec → Bool
is_debtless (rec.Made o f) = false
is_debtless (rec.Owes r x s) = false
is_debtless (rec.Paid r x message) = false
is_debtless (rec.Void r x ending) = false
is_debtless _ = true

-- such a record leaves who owes whom
pub owing-kept : (r : Rec) (R : Log) (t : ObjId) → is_debtless r ≡ true → owing (r ∷ R) t ≡ owing R t
unfolding owing
owing-kept (rec.Made o f) R t h = absurd cc
owing-kept (rec.Owes u x s) R t h = absurd cc
owing-kept (rec.Paid u x message) R t h = absurd cc
owing-kept (rec.Void u x ending) R t h = absurd cc
owing-kept _ R t h = refl

-- and so does the making of an object
pub owing-made : (R : Log) (o t : ObjId) (f : Form) → Sound R → was_made R o ≡ false → owing (rec.Made o f ∷ R) t ≡ owing R t
unfolding owing
owing-made R o t f sound h = go (same_kind o.kind kind.Reply)
  where
    skip : cond (is_just (owed_by R o) t) (Some o) (find (λ r. is_just (owed_by R r) t) (replies R)) ≡ find (λ r. is_just (owed_by R r) t) (replies R)
    skip = ap (λ d. cond (is_just d t) (Some o) (find (λ r. is_just (owed_by R r) t) (replies R))) (owes-none R o sound h)

    go : (b : Bool) → find (λ r. is_just (owed_by R r) t) (cond b (o ∷ replies R) (replies R)) ≡ find (λ r. is_just (owed_by R r) t) (replies R)
    go true = skip
    go false = refl

-- what was never made was not closed
pub unclosed : (R : Log) (o : ObjId) → Sound R → was_made R o ≡ false → was_closed R o ≡ false
unclosed R o sound h = go (was_closed R o) refl
  where
    go : (b : Bool) → was_closed R o ≡ b → b ≡ false
    go false e = refl
    go true e = let no : true ≡ false = sym (closed-made R o sound e) ∙ h in absurd cc

-- what a row of the log says
pub record Says (R : Log) (t : ObjId) (r : ThreadRow) : Type 0 where
  pub alive : is_alive R t ≡ true
  pub form : form_of R t ≡ Some (form.Runner r.maximum r.root)
  pub priority : r.priority.0 ≡ prio_of R t
  pub mode : r.mode ≡ mode_of R t
  pub block : r.block ≡ block_said (queue_of R t) (reply_with R t) (owing R t)

pub said : (R : Log) (t : ObjId) (r : ThreadRow) → Some r ≡ row_said R t → Says R t r
said R t r h = go (is_alive R t) refl (form_of R t) refl h
  where
    go : (b : Bool) → is_alive R t ≡ b → (o : Option Form) → form_of R t ≡ o
        → Some r ≡ cond b (row_with o (prio_of R t) (mode_of R t) (block_said (queue_of R t) (reply_with R t) (owing R t)) (bound_of R t)) None → Says R t r
    go false a o e k = absurd cc
    go true a (Some (form.Runner maximum root)) e k =
        let it : r ≡ record { maximum = maximum; root = root; priority = record { 0 = prio_of R t }; mode = mode_of R t; block = block_said (queue_of R t) (reply_with R t) (owing R t); notification = bound_of R t } = cc in
        record {
          alive = a;
          form = e ∙ ap (λ (x : ThreadRow). Some (form.Runner x.maximum x.root)) (sym it);
          priority = ap (λ (x : ThreadRow). x.priority.0) it;
          mode = ap (λ (x : ThreadRow). x.mode) it;
          block = ap (λ (x : ThreadRow). x.block) it;
        }
    go true a None e k = absurd cc
    go true a (Some form.Plain) e k = absurd cc
    go true a (Some (form.Slots radix)) e k = absurd cc
    go true a (Some (form.OnCore core)) e k = absurd cc

-- a thread without a row is not there
pub rowless : (R : Log) (t : ObjId) → Sound R → t.kind ≡ kind.Thread → None ≡ row_said R t → is_alive R t ≡ false
rowless R t sound is h = go (is_alive R t) refl (form_of R t) refl h
  where
    no : (f : Form) → form_of R t ≡ Some f → IsFormOf kind.Thread f
    no f e = subst (λ k. IsFormOf k f) is (form-fits R t f sound e)

    go : (b : Bool) → is_alive R t ≡ b → (o : Option Form) → form_of R t ≡ o
        → None ≡ cond b (row_with o (prio_of R t) (mode_of R t) (block_said (queue_of R t) (reply_with R t) (owing R t)) (bound_of R t)) None → b ≡ false
    go false a o e k = refl
    go true a None e k = let never : true ≡ false = sym (alive-made R t a) ∙ formless R t e in absurd cc
    go true a (Some (form.Runner maximum root)) e k = absurd cc
    go true a (Some form.Plain) e k = absurd (no form.Plain e)
    go true a (Some (form.Slots radix)) e k = absurd (no (form.Slots radix) e)
    go true a (Some (form.OnCore core)) e k = absurd (no (form.OnCore core) e)

-- what has a row is a thread that is there
pub row-there : (R : Log) (t : ObjId) (r : ThreadRow) → Sound R → Some r ≡ row_said R t → IsThere R kind.Thread t
row-there R t r sound h = (go t.kind refl (form-fits R t (form.Runner r.maximum r.root) sound (said R t r h).form), (said R t r h).alive)
  where
    go : (k : Kind) → t.kind ≡ k → IsFormOf k (form.Runner r.maximum r.root) → t.kind ≡ kind.Thread
    go kind.Thread e fits = e
    go kind.CNode e fits = absurd fits
    go kind.Endpoint e fits = absurd fits
    go kind.Notification e fits = absurd fits
    go kind.Reply e fits = absurd fits
    go kind.Context e fits = absurd fits

-- a thread that is there has a row
pub has-row : (R : Log) (t : ObjId) → Sound R → IsThere R kind.Thread t → IsSome (row_said R t)
has-row R t sound there = go (row_said R t) refl
  where
    go : (o : Option ThreadRow) → row_said R t ≡ o → IsSome o
    go (Some r) e = refl
    go None e = let no : true ≡ false = sym there.1 ∙ rowless R t sound there.0 (sym e) in absurd cc
