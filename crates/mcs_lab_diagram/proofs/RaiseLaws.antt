-- Where a notification was raised last, and which thread raised it.
use Rattle.std.proofs.Common.{◌≡◌, ◌≢◌, ℕ, zero, suc, ◌+◌, ◌-◌, ◌≤◌, ◌<◌, Option, Some, None, List, [], ◌∷◌, ◌++◌, length, set, take, replicate, slice_get, refl, ap, ◌∙◌, arith}
use Rattle.std.specs.Prelude.{unwrap_or}
use Rattle.mcs_types.specs.declared.id.ObjId.{ObjId}
use Rattle.mcs_lab_diagram.specs.declared.arrows.Point.{Point}
use Rattle.mcs_lab_diagram.specs.Arrows.{point_or, raised_with}

-- a place that is there
pub raised_within : (ps : List (Option Point)) (n : ℕ) (here : Point) → n < length ps → set ps n (Some here) ≡ raised_with ps n here
raised_within [] n here lt = absurd (omega (arith, lt))
raised_within (p ∷ ps) zero here lt = refl
raised_within (p ∷ ps) (suc n) here lt = ap (λ (qs : List (Option Point)). p ∷ qs) (raised_within ps n here (omega (arith, lt)))

-- the places before one, and that one
fresh : (n k : ℕ) (here : Point) → k ≡ n → replicate k None ++ Some here ∷ [] ≡ raised_with [] n here
fresh zero zero here count = refl
fresh zero (suc k) here count = absurd (omega (arith, count))
fresh (suc n) zero here count = absurd (omega (arith, count))
fresh (suc n) (suc k) here count = ap (λ (qs : List (Option Point)). None ∷ qs) (fresh n k here (omega (arith, count)))

-- the same, after a list
beyond : (ps : List (Option Point)) (n k : ℕ) (here : Point) → length ps + k ≡ n → (take n ps ++ replicate k None) ++ Some here ∷ [] ≡ raised_with ps n here
beyond [] zero k here count = fresh zero k here (omega (arith, count))
beyond [] (suc n) k here count = fresh (suc n) k here (omega (arith, count))
beyond (p ∷ ps) zero k here count = absurd (omega (arith, count))
beyond (p ∷ ps) (suc n) k here count = ap (λ (qs : List (Option Point)). p ∷ qs) (beyond ps n k here (omega (arith, count)))

pub raised_beyond : (ps qs : List (Option Point)) (n : ℕ) (here : Point) → length ps ≤ n → qs ≡ take n ps ++ replicate (n - length ps) None
    → qs ++ Some here ∷ [] ≡ raised_with ps n here
raised_beyond ps qs n here le is =
    ap (λ (xs : List (Option Point)). xs ++ Some here ∷ []) is ∙ beyond ps n (n - length ps) here (omega (arith, le))

-- the thread of the point that is kept
abbrev pub thread_in : Option (Option Point) → Option ObjId
thread_in (Some (Some p)) = Some p.thread
thread_in (Some None) = None
thread_in None = None

pub point-thread : (here : Point) (o : Option (Option Point)) → (point_or here o).thread ≡ unwrap_or (thread_in o) here.thread
point-thread here (Some (Some p)) = refl
point-thread here (Some None) = refl
point-thread here None = refl

-- which raiser is kept after a raise, for its notification and for any other
pub raised-same : (ps : List (Option Point)) (n : ℕ) (here : Point) → thread_in (slice_get (raised_with ps n here) n) ≡ Some here.thread
raised-same [] zero here = refl
raised-same [] (suc n) here = raised-same [] n here
raised-same (p ∷ ps) zero here = refl
raised-same (p ∷ ps) (suc n) here = raised-same ps n here

pub raised-other : (ps : List (Option Point)) (n m : ℕ) (here : Point) → m ≢ n → thread_in (slice_get (raised_with ps n here) m) ≡ thread_in (slice_get ps m)
raised-other [] zero zero here ne = absurd (ne refl)
raised-other [] zero (suc m) here ne = refl
raised-other [] (suc n) zero here ne = refl
raised-other [] (suc n) (suc m) here ne = raised-other [] n m here (λ e. ne (ap suc e))
raised-other (p ∷ ps) zero zero here ne = absurd (ne refl)
raised-other (p ∷ ps) zero (suc m) here ne = refl
raised-other (p ∷ ps) (suc n) zero here ne = refl
raised-other (p ∷ ps) (suc n) (suc m) here ne = raised-other ps n m here (λ e. ne (ap suc e))
