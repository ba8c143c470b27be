use Rattle.std.proofs.Common.{rules, ℕ, ◌≡◌, ◌∷◌, [], replicate, arith}
use Rattle.std.proofs.lemmas.List.{length-replicate}
use Rattle.mcs_queues.specs.Fingers.{no_fingers}
use Rattle.mcs_queues.proofs.FingerRowLaws.{kept-blank}
use Rattle.mcs_queues.proofs.fingers.Fingers.new.Goals as goal

pub invariant_of-result : goal.invariant_of-result
invariant_of-result c =
    let r : c.push_reserved.new.self.items ≡ no_fingers ∷ [] = search rules in
    let p : c.in_ok-places.places.items ≡ replicate c.args.lines 0 = search rules in
    rw (r, p) (omega (arith, length-replicate {A = ℕ} c.args.lines 0, c.in_ok-rows.ensures.capacity, c.push_reserved.ensures.capacity), kept-blank c.args.lines (omega arith))
