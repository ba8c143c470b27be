use Rattle.std.proofs.Common.{◌≡◌, ◌-◌, ℕ, Some, subst, sym, arith}
use Rattle.mcs_queues.specs.Links.{spelled, slot_at}
use Rattle.mcs_queues.specs.Linked.{Walked}
use Rattle.mcs_queues.proofs.FingerLaws.{finger-walks, finger-in_room}
use Rattle.mcs_queues.proofs.linked.begin.Goals as goal

pub visit-requires : goal.visit-requires
visit-requires g c = finger-in_room c.args.fingers.now c.args.slots.now c.args.q.0 c.args.p.0 c.in-Some.t c.requires.linked c.requires.pointed c.in-Some.ensures

pub returns-in-Some-clause-walked : goal.returns-in-Some-clause-walked
returns-in-Some-clause-walked g c =
    let l = c.args.slots.now in
    let w = finger-walks c.args.fingers.now l c.args.q.0 c.args.p.0 c.in-Some.t c.requires.linked c.requires.pointed c.in-Some.ensures in
    let e : c.visit.new.steps - c.args.steps.now ≡ 1 = omega (arith, c.visit.ensures.steps) in
    let Q : ℕ → Type 0 = λ n. Walked (spelled l c.args.q.0) c.args.p.0 (slot_at l c.in-Some.t.0).previous (Some c.in-Some.t) n in
    rw c.visit.ensures.slot (subst Q (sym e) w)
