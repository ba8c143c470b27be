-- A machine has no more cores than seats, where no core lacks one.
use Rattle.std.specs.Prelude.{ℕ, zero, suc, Bool, true, false, ◌≡◌, ◌≤◌, ◌<◌, ◌+◌, ◌==◌, ◌||◌, if◌then◌else◌, nat_lt, List, [], ◌∷◌, length}
use Rattle.std.specs.List.{list_any}
use Rattle.std.proofs.Common.{refl, arith}
use Rattle.std.proofs.lemmas.Bool.Decides.{nat_tests}
use Rattle.mcs_book.specs.History.{Book}
use Rattle.mcs_seats.specs.Seats.{Seat}
use Rattle.mcs_seats.specs.Settling.{HasSeats}

-- one where this holds
abbrev one : Bool → ℕ
one b = if b then 1 else 0

-- how many seats are of the first n cores
abbrev below : ℕ → List Seat → ℕ
below n [] = 0
below n (s ∷ ss) = one (nat_lt s.core.0 n) + below n ss

below-most : (n : ℕ) (ss : List Seat) → below n ss ≤ length ss
below-most n [] = omega arith
below-most n (s ∷ ss) = go (nat_lt s.core.0 n) (below-most n ss)
  where
    go : (v : Bool) → below n ss ≤ length ss → one v + below n ss ≤ suc (length ss)
    go true h = omega (arith, h)
    go false h = omega (arith, h)

-- a core more
one-more : (c n : ℕ) → one (nat_lt c n) ≤ one (nat_lt c (n + 1))
one-more c n = go (nat_lt c n) (nat_lt c (n + 1)) refl refl
  where
    go : (v w : Bool) → nat_lt c n ≡ v → nat_lt c (n + 1) ≡ w → one v ≤ one w
    go true true a b = omega arith
    go true false a b =
        let lt : c < n = grind (arith, a) in
        let no : n + 1 ≤ c = grind (arith, b) in
        absurd (omega (arith, lt, no))
    go false true a b = omega arith
    go false false a b = omega arith

below-more : (n : ℕ) (ss : List Seat) → below n ss ≤ below (n + 1) ss
below-more n [] = omega arith
below-more n (s ∷ ss) = let h = below-more n ss in let first = one-more s.core.0 n in omega (arith, h, first)

-- a core that has a seat
below-next : (n : ℕ) (ss : List Seat) → list_any (λ (s : Seat). s.core.0 == n) ss ≡ true → below n ss + 1 ≤ below (n + 1) ss
below-next n [] any = absurd cc
below-next n (s ∷ ss) any = go (s.core.0 == n) refl any (below-next n ss)
  where
    go : (v : Bool) → (s.core.0 == n) ≡ v → v || list_any (λ (s : Seat). s.core.0 == n) ss ≡ true
        → (list_any (λ (s : Seat). s.core.0 == n) ss ≡ true → below n ss + 1 ≤ below (n + 1) ss)
        → one (nat_lt s.core.0 n) + below n ss + 1 ≤ one (nat_lt s.core.0 (n + 1)) + below (n + 1) ss
    go true e any later =
        let here : s.core.0 ≡ n = grind (arith, nat_tests, e) in
        let old : nat_lt s.core.0 n ≡ false = grind (arith, nat_tests, here) in
        let new : nat_lt s.core.0 (n + 1) ≡ true = grind (arith, nat_tests, here) in
        let rest = below-more n ss in
        rw (old, new) (omega (arith, rest))
    go false e any later = let rest = later any in let first = one-more s.core.0 n in omega (arith, rest, first)

-- the first n cores have as many seats at least
first-seats : (b : Book) (ss : List Seat) (n : ℕ) → HasSeats b ss → n ≤ b.boot.cores → n ≤ below n ss
first-seats b ss zero has le = omega arith
first-seats b ss (suc n) has le =
    let before = first-seats b ss n has (omega (arith, le)) in
    let next : below n ss + 1 ≤ below (n + 1) ss = below-next n ss (has n (omega (arith, le))) in
    let same : suc n ≡ n + 1 = omega arith in
    rw same (omega (arith, before, next))

pub enough-seats : (b : Book) (ss : List Seat) → HasSeats b ss → b.boot.cores ≤ length ss
enough-seats b ss has =
    let few = first-seats b ss b.boot.cores has (omega arith) in
    let most = below-most b.boot.cores ss in
    omega (arith, few, most)
