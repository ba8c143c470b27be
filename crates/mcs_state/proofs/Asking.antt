-- What is asked of what may not be there.
use Rattle.std.specs.Prelude.{◌≡◌, ◌&&◌, ℕ, Bool, true, false, cond, Some, None}
use Rattle.std.proofs.Common.{refl, ap, sym, ◌∙◌}
use Rattle.mcs_types.specs.declared.id.ObjId.{ObjId}
use Rattle.mcs_types.specs.declared.id.Kind.TheVariants as kind
use Rattle.mcs_types.specs.declared.id.Prio.{Prio}
use Rattle.mcs_types.specs.Ids.{same_kind}
use Rattle.mcs_types.proofs.Ids.{same_kind-equal}
use Rattle.mcs_book.specs.Logs.{Log}
use Rattle.mcs_book.specs.Objects.{is_alive}
use Rattle.mcs_book.specs.Threads.{prio_of, root_of}
use Rattle.mcs_book.specs.Sound.{Sound}
use Rattle.mcs_book.proofs.Queues.WordLaws.{pending-growing}
use Rattle.mcs_threads.specs.declared.row.ThreadRow.{ThreadRow}
use Rattle.mcs_state.specs.Saying.{row_said}
use Rattle.mcs_state.specs.Tables.{is_there, word_said}
use Rattle.mcs_state.specs.Questions.{word_of, root_said}
use Rattle.mcs_state.proofs.Saying.{said, rowless, row-there}
use Rattle.mcs_state.proofs.Answering.{root-is}
use Rattle.mcs_state.proofs.ThereLaws.{there}

-- what has a row is a thread that is there
pub there-row : (R : Log) (t : ObjId) (r : ThreadRow) → Sound R → Some r ≡ row_said R t → is_there R kind.Thread t ≡ true
there-row R t r sound h = there R kind.Thread t (row-there R t r sound h)

-- what has none is no thread that is there
pub not-there-rowless : (R : Log) (t : ObjId) → Sound R → None ≡ row_said R t → is_there R kind.Thread t ≡ false
not-there-rowless R t sound none = go (same_kind t.kind kind.Thread) refl
  where
    go : (b : Bool) → same_kind t.kind kind.Thread ≡ b → (b && is_alive R t) ≡ false
    go false e = refl
    go true e = rowless R t sound (same_kind-equal t.kind kind.Thread e) none

-- of what has no row nothing is said, whatever it would be
pub unsaid-rowless : {A : Type 0} (R : Log) (t : ObjId) (said : A) → Sound R → None ≡ row_said R t → None ≡ cond (is_there R kind.Thread t) (Some said) None
unsaid-rowless R t said sound none = sym (ap (λ b. cond b (Some said) None) (not-there-rowless R t sound none))

-- of what has one it is said
pub said-row : {A : Type 0} (R : Log) (t : ObjId) (r : ThreadRow) (a said : A) → Sound R → Some r ≡ row_said R t → a ≡ said → Some a ≡ cond (is_there R kind.Thread t) (Some said) None
said-row R t r a said sound h e = ap (λ x. Some x) e ∙ sym (ap (λ b. cond b (Some said) None) (there-row R t r sound h))

-- the word that the table keeps is the pending one of a notification that is there
pub word-said : (R : Log) (n : ObjId) → word_said R n ≡ word_of R n
word-said R n = ap (λ w. cond (is_there R kind.Notification n) w None) (sym (pending-growing R n))

-- the priority of a thread with a row
pub priority-row : (R : Log) (t : ObjId) (r : ThreadRow) → Some r ≡ row_said R t → r.priority ≡ record { 0 = prio_of R t }
priority-row R t r h = ap (λ (n : ℕ). priority n) (said R t r h).priority
  where
    priority : ℕ → Prio
    priority n = record { 0 = n }

-- the root of a thread with a row
pub root-row : (R : Log) (t : ObjId) (r : ThreadRow) → Sound R → Some r ≡ row_said R t → Some r.root ≡ root_said R t
root-row R t r sound h = sym (ap (λ b. cond b (root_of R t) None) (there-row R t r sound h) ∙ root-is R t r h)

-- and of what has none
pub rootless : (R : Log) (t : ObjId) → Sound R → None ≡ row_said R t → None ≡ root_said R t
rootless R t sound none = sym (ap (λ b. cond b (root_of R t) None) (not-there-rowless R t sound none))
