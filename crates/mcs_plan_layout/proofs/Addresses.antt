-- The addresses of slots are small.
use Rattle.std.proofs.Common.{◌<◌, ◌≤◌, ◌+◌, ◌*◌, ◌^◌, ℕ, arith}
use Rattle.std.proofs.Math.Pow.{pow_mono}
use Rattle.std.proofs.lemmas.Nat.{pow_pos}
use Rattle.mcs_plan_layout.specs.declared.layout.Layout.{Layout}
use Rattle.mcs_plan_layout.specs.SpaceLayouts.{IsLaidOut}
use Rattle.mcs_plan_layout.proofs.Walks.{front-below}

pub address_few : (l : Layout) (index : ℕ) → IsLaidOut l → index < 2 ^ (l.root + l.leaf) → index * 2 ^ l.within < 2 ^ 63
address_few l index laid inside =
    let below : index * 2 ^ l.within + 0 < 2 ^ (l.root + l.leaf + l.within) = front-below index (l.root + l.leaf) l.within 0 inside (pow_pos l.within) in
    let most : 2 ^ (l.root + l.leaf + l.within) ≤ 2 ^ 63 = pow_mono {j = 63} (omega (arith, laid.root, laid.leaf, laid.within)) in
    omega (arith, below, most)
