-- What the tables answer is what the definitions say.
use Rattle.std.specs.Prelude.{ℕ, ◌≡◌, ◌≢◌, ◌≤◌, ◌+◌, ◌-◌, ◌&&◌, ◌||◌, not, Bool, true, false, cond, List, [], ◌∷◌, length, suc, nat_le, Ok, Option, Some, None, option_and_then}
use Rattle.std.proofs.Common.{refl, ap, sym, ◌∙◌, arith}
use Rattle.std.proofs.lemmas.Grind.{common_steps}
use Rattle.std.proofs.lemmas.Bool.{eq-eqb}
use Rattle.mcs_types.specs.declared.id.ObjId.{ObjId}
use Rattle.mcs_types.specs.declared.id.Kind.TheVariants as kind
use Rattle.mcs_types.specs.declared.cap.Cap.{Cap}
use Rattle.mcs_types.specs.declared.cap.Place.{Place}
use Rattle.mcs_types.specs.declared.record.Letter.{Letter}
use Rattle.mcs_types.specs.declared.record.Mode.{Mode}
use Rattle.mcs_types.specs.declared.record.Mode.TheVariants as mode
use Rattle.mcs_types.specs.declared.record.Queue.{Queue}
use Rattle.mcs_types.specs.declared.record.Rec.TheVariants as rec
use Rattle.mcs_types.specs.declared.record.Status.TheVariants as status
use Rattle.mcs_types.specs.declared.entry.Refusal.TheVariants.{DepthMismatch, Range}
use Rattle.mcs_types.specs.Ids.{same, same_kind, place_of, IsThread}
use Rattle.mcs_types.proofs.Ids.{same_kind-equal, same_kind-self}
use Rattle.mcs_book.specs.Logs.{Log, counted}
use Rattle.mcs_book.specs.Objects.{makes_kind, was_made, was_closed}
use Rattle.mcs_book.specs.Threads.{mode_of, root_of, root_kept}
use Rattle.mcs_types.specs.Chains.{head_of}
use Rattle.mcs_book.specs.Queues.{queue_of, reply_with, first_in}
use Rattle.mcs_book.specs.Replies.{owing}
use Rattle.mcs_book.specs.Notifications.{bound_of, pending}
use Rattle.mcs_book.specs.Statuses.{status_of, status_by}
use Rattle.mcs_book.specs.Messages.{open_of}
use Rattle.mcs_book.specs.Growing.{Waiter, growing_queue, growing_open, threads_in}
use Rattle.mcs_book.specs.Checks.{Checked, ◌>>=◌, ◌>>◌, need, needed}
use Rattle.mcs_book.specs.Slots.{SlotName}
use Rattle.mcs_book.specs.Lookup.{space_of, bits_of, is_none_left, is_depth, walk, capability_from, capability, slot_from, slot_named}
use Rattle.mcs_book.specs.Sound.{Sound, IsThere}
use Rattle.mcs_book.proofs.Objects.MadeLaws.{alive-made, made-serial}
use Rattle.mcs_book.proofs.SoundLogs.KeptLaws.{bound-there, standing-thread}
use Rattle.mcs_book.proofs.Queues.QueueLaws.{queued_in-growing}
use Rattle.mcs_book.proofs.Queues.WordLaws.{pending-growing}
use Rattle.mcs_book.proofs.Messages.OpenLaws.{open_of-growing}
use Rattle.mcs_objects.specs.Places.{HasPlace}
use Rattle.mcs_slots.specs.Pages.{Page}
use Rattle.mcs_cspace.specs.Spaces.{slots_space}
use Rattle.mcs_threads.specs.declared.row.ThreadRow.{ThreadRow}
use Rattle.mcs_threads.specs.Rows.{status_in, status_under}
use Rattle.mcs_object_queues.specs.Queues.{behind, behind_in}
use Rattle.mcs_state.specs.Saying.{block_said, row_said}
use Rattle.mcs_state.specs.Nexts.{next_among, next_in, next_of}
use Rattle.mcs_state.specs.Tables.{SlotsAgree, word_said}
use Rattle.mcs_state.proofs.Saying.{Says, said, rowless, row-there}
use Rattle.mcs_state.proofs.SlotLaws.{space-is}
use Rattle.mcs_state.proofs.ThereLaws.{there}

-- a thread that is there has a row
pub never-rowless : (R : Log) (t : ObjId) → Sound R → IsThere R kind.Thread t → None ≡ row_said R t → ⊥
never-rowless R t sound there none = let no : true ≡ false = sym there.1 ∙ rowless R t sound there.0 none in absurd cc

-- what has no row is in no queue
pub unqueued : (R : Log) (t : ObjId) → Sound R → None ≡ row_said R t → None ≡ queue_of R t
unqueued R t sound none = go (queue_of R t) refl
  where
    go : (q : Option Queue) → queue_of R t ≡ q → None ≡ q
    go None e = refl
    go (Some q) e = absurd (never-rowless R t sound (standing-thread R t q sound e) none)

-- nor is a notification bound to it
pub unbound : (R : Log) (t : ObjId) → Sound R → None ≡ row_said R t → None ≡ bound_of R t
unbound R t sound none = go (bound_of R t) refl
  where
    go : (o : Option ObjId) → bound_of R t ≡ o → None ≡ o
    go None e = refl
    go (Some n) e = absurd (never-rowless R t sound (bound-there R t n sound e).0 none)

-- the word that is said of a notification that is there is the pending one
pub word-pending : (R : Log) (n : ObjId) → IsThere R kind.Notification n → word_said R n ≡ pending R n
word-pending R n is = rw (there R kind.Notification n is) (sym (pending-growing R n))

-- the root of a thread with a row
pub root-is : (R : Log) (t : ObjId) (r : ThreadRow) → Some r ≡ row_said R t → root_of R t ≡ Some r.root
root-is R t r h = ap (λ f. option_and_then root_kept f) (said R t r h).form

-- the open message that the table keeps is the one found among those sent
pub open-is : (R : Log) (x : ObjId) (o : Option Letter) → Sound R → o ≡ growing_open R x → o ≡ open_of R x
open-is R x o sound e = e ∙ sym (open_of-growing R x sound)

-- the first of a queue in the table is the first in order
pub first-is : (R : Log) (q : Queue) (ws : List Waiter) → Sound R → ws ≡ growing_queue R q → head_of (threads_in ws) ≡ first_in R q
unfolding first_in
first-is R q ws sound e = ap (λ vs. head_of (threads_in vs)) e ∙ sym (ap (λ ts. head_of ts) (queued_in-growing R q sound))

-- the thread after another in the table is the next in order
pub next-is : (R : Log) (t : ObjId) (o : Option Queue) (line : Queue → List Waiter) → Sound R → o ≡ queue_of R t → ((q : Queue) → line q ≡ growing_queue R q) → behind_in o line t ≡ next_of R t
unfolding next_of
next-is R t o line sound e lines = go o ∙ ap (λ k. next_in R k t) e
  where
    list : (vs : List Waiter) → behind t vs ≡ next_among t (threads_in vs)
    list [] = refl
    list (v ∷ vs) = ap (λ n. cond (same t v.thread) (head_of (threads_in vs)) n) (list vs)

    go : (k : Option Queue) → behind_in k line t ≡ next_in R k t
    go None = refl
    go (Some q) = list (line q) ∙ ap (λ vs. next_among t (threads_in vs)) (lines q) ∙ sym (ap (λ ts. next_among t ts) (queued_in-growing R q sound))

-- an object was made exactly where its serial is one of those of its kind
pub made-from : (R : Log) (o : ObjId) → Sound R → 1 ≤ o.serial → o.serial ≤ counted (makes_kind o.kind) R → was_made R o ≡ true
made-from [] o sound low high = absurd (omega (arith, low, high))
made-from (rec.Made u f ∷ R) o sound low high = go (same o u) refl (same_kind u.kind o.kind) refl high (made-from R o sound.1 low)
  where
    same-here : same_kind u.kind o.kind ≡ true → o.serial ≡ counted (makes_kind o.kind) R + 1 → same o u ≡ true
    same-here k e =
        let kinds : u.kind ≡ o.kind = same_kind-equal u.kind o.kind k in
        let serial : u.serial ≡ counted (makes_kind o.kind) R + 1 = ap (λ (x : ObjId). x.serial) sound.0.0 ∙ ap (λ j. counted (makes_kind j) R + 1) kinds in
        rw (kinds, same_kind-self o.kind) (eq-eqb o.serial u.serial (e ∙ sym serial))

    go : (b : Bool) → same o u ≡ b → (c : Bool) → same_kind u.kind o.kind ≡ c → o.serial ≤ cond c (counted (makes_kind o.kind) R + 1) (counted (makes_kind o.kind) R)
        → (o.serial ≤ counted (makes_kind o.kind) R → was_made R o ≡ true) → (b || was_made R o) ≡ true
    go true e c k h later = refl
    go false e false k h later = later h
    go false e true k h later = at_most (nat_le o.serial (counted (makes_kind o.kind) R)) refl
      where
        at_most : (d : Bool) → nat_le o.serial (counted (makes_kind o.kind) R) ≡ d → was_made R o ≡ true
        at_most true le = later (grind (arith, common_steps, le))
        at_most false gt =
            let last : o.serial ≡ counted (makes_kind o.kind) R + 1 = grind (arith, common_steps, gt, h) in
            let no : true ≡ false = sym (same-here k last) ∙ e in absurd cc
made-from (_ ∷ R) o sound low high = made-from R o sound.1 low high

pub made-where : (R : Log) (o : ObjId) → Sound R → was_made R o ≡ (nat_le 1 o.serial && nat_le o.serial (counted (makes_kind o.kind) R))
made-where R o sound = go (was_made R o) refl
  where
    go : (b : Bool) → was_made R o ≡ b → b ≡ (nat_le 1 o.serial && nat_le o.serial (counted (makes_kind o.kind) R))
    go true h = let s = made-serial R o sound h in grind (arith, common_steps, s)
    go false h = none (nat_le 1 o.serial) refl (nat_le o.serial (counted (makes_kind o.kind) R)) refl
      where
        none : (c : Bool) → nat_le 1 o.serial ≡ c → (d : Bool) → nat_le o.serial (counted (makes_kind o.kind) R) ≡ d → false ≡ (c && d)
        none false e d f = refl
        none true e false f = refl
        none true e true f = let no : true ≡ false = sym (made-from R o sound (grind (arith, common_steps, e)) (grind (arith, common_steps, f))) ∙ h in absurd cc

-- what the row of a thread says that it does
pub status-row : (R : Log) (t : ObjId) (r : ThreadRow) → Sound R → Some r ≡ row_said R t → status_of R t ≡ Some (status_in r)
unfolding status_of
status-row R t r sound h =
    let says : Says R t r = said R t r h in
    let there : IsThere R kind.Thread t = row-there R t r sound h in
    let made : was_made R t ≡ true = alive-made R t says.alive in
    let open_still : was_closed R t ≡ false = alive-open (was_made R t) (was_closed R t) says.alive in
    let kinds : same_kind t.kind kind.Thread ≡ true = ap (λ k. same_kind k kind.Thread) there.0 in
    rw (kinds, made, open_still) (ap (λ s. Some s) (by_block (queue_of R t) (owing R t) r says.block ∙ ap (λ m. status_under r.block m) (sym says.mode)))
  where
    alive-open : (b c : Bool) → (b && not c) ≡ true → c ≡ false
    alive-open true false h = refl
    alive-open true true h = absurd cc
    alive-open false c h = absurd cc

    by_mode : (m : Mode) → status_by None None m ≡ status_under None m
    by_mode mode.Running = refl
    by_mode mode.Restart = refl
    by_mode mode.Inactive = refl

    by_block : (q : Option Queue) (o : Option ObjId) (row : ThreadRow) → row.block ≡ block_said q (reply_with R t) o → status_by q o (mode_of R t) ≡ status_under row.block (mode_of R t)
    by_block None None row e = rw e (by_mode (mode_of R t))
    by_block None (Some r) row e = rw e refl
    by_block (Some q) o row e = rw e refl

-- a thread that was made and has no row was closed
pub status-closed : (R : Log) (t : ObjId) → Sound R → same_kind t.kind kind.Thread ≡ true → was_made R t ≡ true → None ≡ row_said R t → status_of R t ≡ Some status.Closed
unfolding status_of
status-closed R t sound is made none =
    let gone : was_closed R t ≡ true = closed (was_made R t) (was_closed R t) made (rowless R t sound (same_kind-equal t.kind kind.Thread is) none) in
    rw (is, made, gone) refl
  where
    closed : (b c : Bool) → b ≡ true → (b && not c) ≡ false → c ≡ true
    closed true true e h = refl
    closed true false e h = absurd cc
    closed false c e h = absurd cc

-- what is no thread or was never made does nothing
pub status-none : (R : Log) (t : ObjId) (b c : Bool) → same_kind t.kind kind.Thread ≡ b → was_made R t ≡ c → (b && c) ≡ false → status_of R t ≡ None
unfolding status_of
status-none R t b c e f none = rw (e, f, none) refl

-- a thread with a root finds what its root finds
pub capability-is : (R : Log) (P : List Page) (t : ObjId) (root : Cap) (a : ℕ) → SlotsAgree P R → root_of R t ≡ Some root → capability R t a ≡ capability_from (slots_space P) root a
unfolding capability needed ◌>>=◌
capability-is R P t root a agrees is = rw is (ap (λ S. capability_from S root a) (sym (space-is R P agrees)))

-- the slot that a thread with a root names is the one that its root names
pub slot_named-is : (R : Log) (P : List Page) (t : ObjId) (root : Cap) (place : Place) → SlotsAgree P R → root_of R t ≡ Some root → slot_named R t place ≡ slot_from (slots_space P) root place
unfolding slot_named slot_from needed ◌>>=◌ ◌>>◌ need
slot_named-is R P t root place agrees is = rw is (go (is_depth place.depth) ∙ ap (λ S. slot_from S root place) (sym (space-is R P agrees)))
  where
    rest : Checked SlotName
    rest = walk 64 (space_of R) root (bits_of place.depth place.index) >>= λ at. need (is_none_left at.left) DepthMismatch >> Ok (record { cnode = at.cnode; index = at.index })

    go : (b : Bool) → (need b Range >> (need b Range >> rest)) ≡ (need b Range >> rest)
    go true = refl
    go false = refl

-- at most all of a list pass a test
pub counted-le : {A : Type 0} (p : A → Bool) (xs : List A) → counted p xs ≤ length xs
counted-le p [] = omega arith
counted-le p (x ∷ xs) = go (p x) (counted-le p xs)
  where
    go : (b : Bool) → counted p xs ≤ length xs → cond b (counted p xs + 1) (counted p xs) ≤ suc (length xs)
    go true h = omega (arith, h)
    go false h = omega (arith, h)

-- a thread has a place among 256
pub thread-place : {A : Type 0} (xs : List (Option A)) (t : ObjId) → length xs ≡ 256 → IsThread t → HasPlace kind.Thread xs t
thread-place xs t len is =
    let some : nat_le 1 t.serial ≡ true = (let low = is.1 in grind (arith, common_steps, low)) in
    let place : place_of kind.Thread t ≡ Some (t.serial - 1) = rw (is.0, some) refl in
    rw place (omega (arith, len, is.1, is.2))

-- no serial is 0, and the others were given up to a number
pub unmade-zero : (R : Log) (o : ObjId) → Sound R → o.serial ≡ 0 → false ≡ was_made R o
unmade-zero R o sound zero_serial = sym (made-where R o sound ∙ rw zero_serial refl)

pub made-below : (R : Log) (o : ObjId) → Sound R → o.serial ≢ 0 → nat_le o.serial (counted (makes_kind o.kind) R) ≡ was_made R o
made-below R o sound some = let low : nat_le 1 o.serial ≡ true = grind (arith, common_steps, some) in sym (made-where R o sound ∙ rw low refl)
