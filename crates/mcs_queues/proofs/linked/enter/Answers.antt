use Rattle.std.proofs.Common.{◌≡◌, Some, nat_eq, cond, refl, arith}
use Rattle.std.proofs.lemmas.Grind.{common_steps}
use Rattle.mcs_queues.specs.declared.slots.ThreadSlot.{ThreadSlot}
use Rattle.mcs_queues.specs.Links.{spelled, relinked}
use Rattle.mcs_types.specs.Waiters.{Waiter, insert_behind}
use Rattle.mcs_types.proofs.Waiters.{put-behind}
use Rattle.mcs_queues.proofs.LinkLaws.{relinked-is, relinked-place, linked-spelled, spells-is}
use Rattle.mcs_queues.proofs.FingerLaws.{pointed-enter}
use Rattle.mcs_queues.proofs.LinkSteps.{enter-ranged, enter-linked}
use Rattle.mcs_queues.proofs.linked.enter.Goals as goal

pub relink-requires : goal.relink-requires
relink-requires g c =
    enter-ranged c.args.slots.now c.args.t c.args.q.0 c.args.p.0 c.seek-before.result.0 c.seek-before.result.1 c.requires.linked c.requires.thread c.requires.line c.seek-before.ensures.between

pub returns-clause-linked : goal.returns-clause-linked
returns-clause-linked g c =
    let s : ThreadSlot = record { line = Some c.args.q; priority = c.args.p; previous = c.seek-before.result.0; next = c.seek-before.result.1 } in
    rw c.relink.ensures (linked-spelled (relinked c.args.q.0 c.args.t.0 c.seek-before.result.0 c.seek-before.result.1 (Some c.args.t) (Some c.args.t) s c.args.slots.now) (λ k. cond (nat_eq c.args.q.0 k) (insert_behind (record { thread = c.args.t.0; priority = c.args.p.0 }) (spelled c.args.slots.now k)) (spelled c.args.slots.now k))
    (enter-linked c.args.slots.now c.args.t c.args.q c.args.p.0 c.seek-before.result.0 c.seek-before.result.1 s c.requires.linked c.requires.thread c.requires.line c.requires.free c.seek-before.ensures.between refl refl refl refl))

pub returns-clause-line : goal.returns-clause-line
returns-clause-line g c =
    let s : ThreadSlot = record { line = Some c.args.q; priority = c.args.p; previous = c.seek-before.result.0; next = c.seek-before.result.1 } in
    λ k. rw c.relink.ensures (spells-is (relinked c.args.q.0 c.args.t.0 c.seek-before.result.0 c.seek-before.result.1 (Some c.args.t) (Some c.args.t) s c.args.slots.now) k (cond (nat_eq c.args.q.0 k) (insert_behind (record { thread = c.args.t.0; priority = c.args.p.0 }) (spelled c.args.slots.now k)) (spelled c.args.slots.now k))
    (enter-linked c.args.slots.now c.args.t c.args.q c.args.p.0 c.seek-before.result.0 c.seek-before.result.1 s c.requires.linked c.requires.thread c.requires.line c.requires.free c.seek-before.ensures.between refl refl refl refl k))

pub returns-clause-place : goal.returns-clause-place
returns-clause-place g c =
    let s : ThreadSlot = record { line = Some c.args.q; priority = c.args.p; previous = c.seek-before.result.0; next = c.seek-before.result.1 } in
    let r = enter-ranged c.args.slots.now c.args.t c.args.q.0 c.args.p.0 c.seek-before.result.0 c.seek-before.result.1 c.requires.linked c.requires.thread c.requires.line c.seek-before.ensures.between in
    λ u. rw c.relink.ensures (relinked-place c.args.q.0 c.args.t.0 c.seek-before.result.0 c.seek-before.result.1 (Some c.args.t) (Some c.args.t) s c.args.slots.now r u)

pub returns-clause-put : goal.returns-clause-put
returns-clause-put g c =
    let l = c.args.slots.now in
    let q = c.args.q.0 in
    let w : Waiter = record { thread = c.args.t.0; priority = c.args.p.0 } in
    let joined = returns-clause-line g c q in
    let behind : spelled c.relink.new.slots q ≡ insert_behind w (spelled l q) = grind (arith, common_steps, joined) in
    rw behind (put-behind w (spelled l q) (c.requires.linked q).rises)

pub returns-clause-pointed : goal.returns-clause-pointed
returns-clause-pointed g c =
    let s : ThreadSlot = record { line = Some c.args.q; priority = c.args.p; previous = c.seek-before.result.0; next = c.seek-before.result.1 } in
    let l = c.args.slots.now in
    let b = c.seek-before.result.0 in
    let a = c.seek-before.result.1 in
    let t = Some c.args.t in
    let r = relinked-is c.args.q.0 c.args.t.0 b a t t s l (enter-ranged l c.args.t c.args.q.0 c.args.p.0 b a c.requires.linked c.requires.thread c.requires.line c.seek-before.ensures.between) in
    rw c.relink.ensures (pointed-enter c.args.fingers.now c.offer-is_finger.new.fingers c.args.q.0 c.args.t b a t t s l (relinked c.args.q.0 c.args.t.0 b a t t s l) c.requires.pointed r c.requires.free refl c.offer-is_finger.result c.offer-is_finger.ensures.points c.offer-is_finger.ensures.lines)
