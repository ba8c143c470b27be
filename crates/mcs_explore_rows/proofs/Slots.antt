-- A run of users that change no slots leaves the CNodes as the boot made them.
use Rattle.std.specs.Prelude.{ℕ, zero, suc, Bool, true, false, ◌≡◌, ◌||◌, List, [], ◌∷◌, Some, slice_get}
use Rattle.std.specs.List.{list_any}
use Rattle.std.proofs.Common.{refl, sym, ◌∙◌, subst}
use Rattle.mcs_types.specs.Changes.{changes_slots}
use Rattle.mcs_types.specs.declared.entry.Entry.{Entry}
use Rattle.mcs_types.specs.declared.entry.Entry.TheVariants as entry
use Rattle.mcs_types.specs.declared.id.ObjId.{ObjId}
use Rattle.mcs_types.specs.declared.record.Rec.{Rec}
use Rattle.mcs_types.specs.declared.record.Rec.TheVariants as rec
use Rattle.mcs_book.specs.Boots.{Boot}
use Rattle.mcs_book.specs.History.{log_of}
use Rattle.mcs_book.specs.Logs.{Log, onto}
use Rattle.mcs_book.specs.Objects.{is_alive, form_of}
use Rattle.mcs_book.specs.SlotRecords.{HasNone, is_of_slots}
use Rattle.mcs_book.specs.Slots.{slot, count_of}
use Rattle.mcs_book.specs.Table.{does}
use Rattle.mcs_book.proofs.Sparing.{does-no_slots}
use Rattle.mcs_turns.specs.declared.program.Fill.{Fill}
use Rattle.mcs_turns.specs.declared.program.Saved.{Saved}
use Rattle.mcs_turns.specs.Programs.{filled}
use Rattle.mcs_turns.specs.Turns.{User, RunState, beginning, given, saved_at, Follows, IsRun}
use Rattle.mcs_users.specs.Users.{change_slots, user_changes_slots}

-- neither of two holds
none-or : (a b : Bool) → (a || b) ≡ false → (a ≡ false) × (b ≡ false)
none-or true b h = absurd cc
none-or false b h = (refl, h)

-- an element of a list of which none passes a test
none-at : {A : Type 0} (p : A → Bool) (xs : List A) (i : ℕ) (x : A) → list_any p xs ≡ false → slice_get xs i ≡ Some x → p x ≡ false
none-at p [] i x h is = absurd cc
none-at p (y ∷ ys) zero x h is =
    let same : y ≡ x = cc in
    subst (λ z. p z ≡ false) same (none-or (p y) (list_any p ys) h).0
none-at p (y ∷ ys) (suc i) x h is = none-at p ys i x (none-or (p y) (list_any p ys) h).1 is

-- what is filled in changes no slots either
filled-none : (fs : List Fill) (n : ℕ) (s : Saved) (e : Entry) → changes_slots e ≡ false → changes_slots (filled fs n s e) ≡ false
filled-none fs n s (entry.Send a m) h = refl
filled-none fs n s (entry.NbSend a m) h = refl
filled-none fs n s (entry.Call a m) h = refl
filled-none fs n s (entry.ReplyRecv a r m) h = refl
filled-none fs n s (entry.NbSendRecv a b r m) h = refl
filled-none fs n s (entry.NbSendWait a b m) h = refl
filled-none fs n s _ h = h

-- what does not change in two logs: which objects are there, their forms, and all slots
pub record SameSlots (S R : Log) : Type 0 where
  pub there : (o : ObjId) → is_alive S o ≡ is_alive R o
  pub held : (o : ObjId) → count_of S o ≡ count_of R o
  pub forms : (o : ObjId) → form_of S o ≡ form_of R o
  pub slots : (c : ObjId) (i : ℕ) → slot S c i ≡ slot R c i

pub slots-back : (S R : Log) → SameSlots S R → SameSlots R S
slots-back S R h = record { there = λ o. sym (h.there o); held = λ o. sym (h.held o); forms = λ o. sym (h.forms o); slots = λ c i. sym (h.slots c i) }

pub slots-then : (S Q R : Log) → SameSlots S Q → SameSlots Q R → SameSlots S R
slots-then S Q R h k = record {
  there = λ o. h.there o ∙ k.there o;
  held = λ o. h.held o ∙ k.held o;
  forms = λ o. h.forms o ∙ k.forms o;
  slots = λ c i. h.slots c i ∙ k.slots c i;
}

-- so with a record that is not of slots
slots-record : (r : Rec) (R : Log) → is_of_slots r ≡ false → SameSlots (r ∷ R) R
slots-record (rec.Made o form) R h = absurd cc
slots-record (rec.Closed o) R h = absurd cc
slots-record (rec.Slot b i cap) R h = absurd cc
slots-record _ R h = record { there = λ o. refl; held = λ o. refl; forms = λ o. refl; slots = λ c i. refl }

-- with several
slots-onto : (rs : List Rec) (R : Log) → HasNone is_of_slots rs → SameSlots (onto rs R) R
slots-onto [] R h = record { there = λ o. refl; held = λ o. refl; forms = λ o. refl; slots = λ c i. refl }
slots-onto (r ∷ rs) R h =
    let both = none-or (is_of_slots r) (list_any is_of_slots rs) h in
    slots-then (onto rs (r ∷ R)) (r ∷ R) R (slots-onto rs (r ∷ R) both.1) (slots-record r R both.0)

-- after a turn
slots-turn : (users : List User) → change_slots users ≡ false → (g h : RunState) → Follows users g h → SameSlots (log_of h.book) (log_of g.book)
slots-turn users none g h f =
    let u = f.turn.user in
    let user_none : user_changes_slots u ≡ false = none-at user_changes_slots users f.pick.user u none f.turn.is_user in
    let entry_none : changes_slots f.turn.entry ≡ false = none-at changes_slots u.entries f.pick.number f.turn.entry user_none f.turn.is_entry in
    let e = given g u f.pick f.turn.entry in
    let given_none : changes_slots e ≡ false = filled-none u.fills f.pick.number (saved_at g f.pick.user) f.turn.entry entry_none in
    subst (λ (k : RunState). SameSlots (log_of k.book) (log_of g.book)) (sym f.turn.after)
    (slots-onto ((does (log_of g.book) f.core u.thread e).records) (log_of g.book) (does-no_slots (log_of g.book) f.core u.thread e given_none))

-- and after a run
slots-run : (users : List User) (boot : Boot) → change_slots users ≡ false → (n : ℕ) (g : RunState) → IsRun users boot n g → SameSlots (log_of g.book) (log_of (beginning users boot).book)
slots-run users boot none zero g run = subst (λ (h : RunState). SameSlots (log_of h.book) (log_of (beginning users boot).book)) (sym run)
    (record { there = λ o. refl; held = λ o. refl; forms = λ o. refl; slots = λ c i. refl })
slots-run users boot none (suc n) h (g, (run, f)) =
    slots-then (log_of h.book) (log_of g.book) (log_of (beginning users boot).book) (slots-turn users none g h f) (slots-run users boot none n g run)

-- two runs have the same slots
pub runs-slots : (users : List User) (boot : Boot) → change_slots users ≡ false → (m n : ℕ) (g h : RunState) → IsRun users boot m g → IsRun users boot n h
    → SameSlots (log_of g.book) (log_of h.book)
runs-slots users boot none m n g h left right =
    slots-then (log_of g.book) (log_of (beginning users boot).book) (log_of h.book) (slots-run users boot none m g left)
    (slots-back (log_of h.book) (log_of (beginning users boot).book) (slots-run users boot none n h right))
