use Rattle.std.proofs.Common.{◌≡◌, Some, None, refl, subst, arith}
use Rattle.std.proofs.lemmas.Grind.{common_steps}
use Rattle.mcs_queues.specs.declared.slots.ThreadSlot.{ThreadSlot}
use Rattle.mcs_queues.specs.Numbers.{line_number}
use Rattle.mcs_queues.specs.Links.{stands_at, slot_at, spelled, relinked}
use Rattle.mcs_types.specs.Waiters.{without}
use Rattle.mcs_queues.specs.Fingers.{IsReleased}
use Rattle.mcs_queues.proofs.LinkLaws.{relinked-is, relinked-place, linked-spelled, spells-is}
use Rattle.mcs_queues.proofs.FingerLaws.{pointed-leave}
use Rattle.mcs_queues.proofs.ChangeLaws.{unchanged, relinked-changes}
use Rattle.mcs_queues.proofs.LinkSteps.{leave-ranged, leave-linked, leave-nothing}
use Rattle.mcs_queues.proofs.linked.leave.Goals as goal

pub returns-then-threads-t-clause-line : goal.returns-then-threads-t-clause-line
returns-then-threads-t-clause-line c =
    let out : stands_at c.args.slots.now c.args.t.0 ≡ None = grind (arith, common_steps) in
    λ k. spells-is c.args.slots.now k (without c.args.t.0 (spelled c.args.slots.now k)) (leave-nothing c.args.slots.now c.args.t.0 c.requires.linked out k)

pub returns-in_err-q-clause-line : goal.returns-in_err-q-clause-line
returns-in_err-q-clause-line c =
    let out : stands_at c.args.slots.now c.args.t.0 ≡ None = grind (arith, common_steps) in
    λ k. spells-is c.args.slots.now k (without c.args.t.0 (spelled c.args.slots.now k)) (leave-nothing c.args.slots.now c.args.t.0 c.requires.linked out k)

pub relink-requires : goal.relink-requires
relink-requires c =
    let in_q : line_number (slot_at c.args.slots.now c.args.t.0).line ≡ Some c.in_ok-q.q.0 = grind (arith, common_steps) in
    rw c.named-slot.ensures (leave-ranged c.args.slots.now c.args.t c.in_ok-q.q.0 c.requires.linked in_q)

pub returns-clause-linked : goal.returns-clause-linked
returns-clause-linked c =
    let l = c.args.slots.now in
    let in_q : line_number (slot_at l c.args.t.0).line ≡ Some c.in_ok-q.q.0 = grind (arith, common_steps) in
    let b = (slot_at l c.args.t.0).previous in
    let a = (slot_at l c.args.t.0).next in
    let s : ThreadSlot = record { line = None; priority = (slot_at l c.args.t.0).priority; previous = None; next = None } in
    rw c.relink.ensures (rw c.named-slot.ensures (linked-spelled (relinked c.in_ok-q.q.0 c.args.t.0 b a a b s l) (λ k. without c.args.t.0 (spelled l k)) (leave-linked l c.args.t c.in_ok-q.q.0 s c.requires.linked in_q refl)))

pub returns-clause-line : goal.returns-clause-line
returns-clause-line c =
    let l = c.args.slots.now in
    let in_q : line_number (slot_at l c.args.t.0).line ≡ Some c.in_ok-q.q.0 = grind (arith, common_steps) in
    let b = (slot_at l c.args.t.0).previous in
    let a = (slot_at l c.args.t.0).next in
    let s : ThreadSlot = record { line = None; priority = (slot_at l c.args.t.0).priority; previous = None; next = None } in
    λ k. rw c.relink.ensures (rw c.named-slot.ensures (spells-is (relinked c.in_ok-q.q.0 c.args.t.0 b a a b s l) k (without c.args.t.0 (spelled l k)) (leave-linked l c.args.t c.in_ok-q.q.0 s c.requires.linked in_q refl k)))

pub returns-clause-thread : goal.returns-clause-thread
returns-clause-thread c =
    let l = c.args.slots.now in
    let in_q : line_number (slot_at l c.args.t.0).line ≡ Some c.in_ok-q.q.0 = grind (arith, common_steps) in
    let r = leave-ranged l c.args.t c.in_ok-q.q.0 c.requires.linked in_q in
    let b = (slot_at l c.args.t.0).previous in
    let a = (slot_at l c.args.t.0).next in
    let s : ThreadSlot = record { line = None; priority = (slot_at l c.args.t.0).priority; previous = None; next = None } in
    let m = relinked-is c.in_ok-q.q.0 c.args.t.0 b a a b s l r in
    rw c.relink.ensures (rw c.named-slot.ensures (omega (arith, m.threads, r.thread)))

pub returns-clause-within : goal.returns-clause-within
returns-clause-within c =
    let l = c.args.slots.now in
    let in_q : line_number (slot_at l c.args.t.0).line ≡ Some c.in_ok-q.q.0 = grind (arith, common_steps) in
    let r = leave-ranged l c.args.t c.in_ok-q.q.0 c.requires.linked in_q in
    let b = (slot_at l c.args.t.0).previous in
    let a = (slot_at l c.args.t.0).next in
    let s : ThreadSlot = record { line = None; priority = (slot_at l c.args.t.0).priority; previous = None; next = None } in
    let m = relinked-is c.in_ok-q.q.0 c.args.t.0 b a a b s l r in
    rw c.relink.ensures (rw c.named-slot.ensures (omega (arith, m.lines, r.line)))

pub returns-then-threads-t-clause-changes : goal.returns-then-threads-t-clause-changes
returns-then-threads-t-clause-changes c = omega (arith, unchanged c.args.slots.now)

pub returns-in_err-q-clause-changes : goal.returns-in_err-q-clause-changes
returns-in_err-q-clause-changes c = omega (arith, unchanged c.args.slots.now)

pub returns-clause-changes : goal.returns-clause-changes
returns-clause-changes c =
    let s : ThreadSlot = record { line = None; priority = c.named-slot.result.priority; previous = None; next = None } in
    rw c.relink.ensures (relinked-changes c.in_ok-q.q.0 c.args.t.0 c.named-slot.result.previous c.named-slot.result.next c.named-slot.result.next c.named-slot.result.previous s c.args.slots.now)

pub returns-clause-place : goal.returns-clause-place
returns-clause-place c =
    let l = c.args.slots.now in
    let in_q : line_number (slot_at l c.args.t.0).line ≡ Some c.in_ok-q.q.0 = grind (arith, common_steps) in
    let b = (slot_at l c.args.t.0).previous in
    let a = (slot_at l c.args.t.0).next in
    let s : ThreadSlot = record { line = None; priority = (slot_at l c.args.t.0).priority; previous = None; next = None } in
    λ u. rw c.relink.ensures (rw c.named-slot.ensures (relinked-place c.in_ok-q.q.0 c.args.t.0 b a a b s l (leave-ranged l c.args.t c.in_ok-q.q.0 c.requires.linked in_q) u))

pub returns-clause-pointed : goal.returns-clause-pointed
returns-clause-pointed c =
    let l = c.args.slots.now in
    let in_q : line_number (slot_at l c.args.t.0).line ≡ Some c.in_ok-q.q.0 = grind (arith, common_steps) in
    let b = (slot_at l c.args.t.0).previous in
    let a = (slot_at l c.args.t.0).next in
    let s : ThreadSlot = record { line = None; priority = (slot_at l c.args.t.0).priority; previous = None; next = None } in
    let r = relinked-is c.in_ok-q.q.0 c.args.t.0 b a a b s l (leave-ranged l c.args.t c.in_ok-q.q.0 c.requires.linked in_q) in
    let P : ThreadSlot → Type 0 = λ z. IsReleased c.args.fingers.now c.release.new.self c.in_ok-q.q.0 (z.priority.0) c.args.t in
    rw c.relink.ensures (rw c.named-slot.ensures (pointed-leave c.args.fingers.now c.release.new.self c.in_ok-q.q.0 c.args.t b a a b s l (relinked c.in_ok-q.q.0 c.args.t.0 b a a b s l) c.requires.pointed r in_q (subst P c.named-slot.ensures c.release.ensures.released) c.release.ensures.lines))
