-- The words of an entry, with 0 for each value.
use Rattle.std.proofs.Common.{◌≡◌, ◌+◌, ◌<◌, ◌≤◌, ◌++◌, ◌∷◌, [], ℕ, zero, suc, List, Bor, length, map, take, get_or, ap, arith, refl, sym, ◌∙◌}
use Rattle.std.proofs.lemmas.List.{map-append, map_more}
use Rattle.mcs_plan_source.specs.Naming.{texts}
use Rattle.mcs_plan_compile.specs.Programs.{zeroed}

abbrev pub zeroed_of : List (Bor (List ℕ)) → List (List ℕ)
zeroed_of ws = map (λ (w : Bor (List ℕ)). zeroed w.now) ws

-- one word more
pub zeroed-next : (ws plain : List (Bor (List ℕ))) (i : ℕ) (d w : Bor (List ℕ)) → i < length ws → w.now ≡ zeroed (get_or ws i d).now → texts plain ≡ zeroed_of (take i ws)
    → texts (plain ++ w ∷ []) ≡ zeroed_of (take (i + 1) ws)
zeroed-next ws plain i d w within is before =
    map-append (λ (m : Bor (List ℕ)). m.now) plain (w ∷ [])
    ∙ ap (λ (xs : List (List ℕ)). xs ++ w.now ∷ []) before
    ∙ ap (λ (x : List ℕ). zeroed_of (take i ws) ++ x ∷ []) is
    ∙ sym (map_more (λ (m : Bor (List ℕ)). zeroed m.now) ws i d within)

-- all of them
whole : (ws : List (Bor (List ℕ))) (n : ℕ) → length ws ≤ n → zeroed_of (take n ws) ≡ map zeroed (texts ws)
whole [] zero le = refl
whole [] (suc n) le = refl
whole (w ∷ ws) zero le = absurd (omega (arith, le))
whole (w ∷ ws) (suc n) le = ap (λ (xs : List (List ℕ)). zeroed w.now ∷ xs) (whole ws n (omega (arith, le)))

pub zeroed-all : (ws plain : List (Bor (List ℕ))) (i : ℕ) → length ws ≤ i → texts plain ≡ zeroed_of (take i ws) → texts plain ≡ map zeroed (texts ws)
zeroed-all ws plain i past so_far = so_far ∙ whole ws i past
