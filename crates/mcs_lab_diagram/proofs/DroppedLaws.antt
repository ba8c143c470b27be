-- Records that accept nothing.
use Rattle.std.proofs.Common.{◌≡◌, ℕ, zero, suc, Bool, true, false, not, ◌&&◌, Some, slice_get, ◌+◌, List, [], ◌∷◌, drop, sym, ap, ◌∙◌, arith}
use Rattle.mcs_types.specs.declared.record.Rec.{Rec}
use Rattle.mcs_lab_diagram.specs.Dropped.{accepts, accepts_none}

-- what accepts something ends the search
stops : (rs : List Rec) (i : ℕ) (r : Rec) → slice_get rs i ≡ Some r → accepts r ≡ true → accepts_none (drop i rs) ≡ false
stops [] i r at true-of = absurd cc
stops (q ∷ rs) zero r at true-of =
    let it : q ≡ r = cc in
    ap (λ (x : Rec). not (accepts x) && accepts_none rs) it ∙ ap (λ (b : Bool). not b && accepts_none rs) true-of
stops (q ∷ rs) (suc i) r at true-of = stops rs i r at true-of

-- what accepts nothing is passed
passes : (rs : List Rec) (i : ℕ) (r : Rec) → slice_get rs i ≡ Some r → accepts r ≡ false → accepts_none (drop i rs) ≡ accepts_none (drop (suc i) rs)
passes [] i r at false-of = absurd cc
passes (q ∷ rs) zero r at false-of =
    let it : q ≡ r = cc in
    ap (λ (x : Rec). not (accepts x) && accepts_none rs) it ∙ ap (λ (b : Bool). not b && accepts_none rs) false-of
passes (q ∷ rs) (suc i) r at false-of = passes rs i r at false-of

-- the same, of all records
pub accepts_none_stops : (rs : List Rec) (i : ℕ) (r : Rec) → accepts_none rs ≡ accepts_none (drop i rs) → slice_get rs i ≡ Some r → accepts r ≡ true → false ≡ accepts_none rs
accepts_none_stops rs i r so-far at true-of = sym (so-far ∙ stops rs i r at true-of)

pub accepts_none_passes : (rs : List Rec) (i : ℕ) (r : Rec) → accepts_none rs ≡ accepts_none (drop i rs) → slice_get rs i ≡ Some r → accepts r ≡ false → accepts_none rs ≡ accepts_none (drop (i + 1) rs)
accepts_none_passes rs i r so-far at false-of =
    let next : suc i ≡ i + 1 = omega arith in
    so-far ∙ passes rs i r at false-of ∙ ap (λ n. accepts_none (drop n rs)) next
