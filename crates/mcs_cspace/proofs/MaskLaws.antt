-- The low bits of a word by a mask, and what is in front of others.
use Rattle.std.specs.Prelude.{ℕ, ◌≡◌, ◌<◌, ◌≤◌, ◌-◌, ◌*◌, ◌/◌, ◌%◌, ◌^◌, bit_and}
use Rattle.std.proofs.Common.{ap, ◌∙◌, sym, arith}
use Rattle.std.proofs.lemmas.Nat.{and_mask}
use Rattle.std.proofs.Math.Nat.{mod-eq_of_lt, div-eq_of_lt}
use Rattle.std.proofs.Math.Pow.{pow-lt}

-- a mask of at most 63 bits
mask-is : (count : ℕ) → count ≤ 63 → 1 * 2 ^ count % 18446744073709551616 - 1 ≡ 2 ^ count - 1
mask-is count le =
    let fewer : count < 64 = omega (arith, le) in
    let lt : 2 ^ count < 2 ^ 64 = pow-lt fewer in
    let one : 1 * 2 ^ count ≡ 2 ^ count = omega arith in
    let small : 2 ^ count % 18446744073709551616 ≡ 2 ^ count = mod-eq_of_lt lt in
    ap (λ x. x % 18446744073709551616 - 1) one ∙ ap (λ x. x - 1) small

-- the low bits of a word by a mask
pub low-masked : (word count : ℕ) → count ≤ 63 → bit_and word (1 * 2 ^ count % 18446744073709551616 - 1) ≡ word % 2 ^ count
low-masked word count le = ap (λ m. bit_and word m) (mask-is count le) ∙ and_mask word count

-- nothing is in front of 64 bits
pub none-in_front : (word below : ℕ) → word < 2 ^ 64 → below ≤ 64 → 64 ≤ below → 0 ≡ word / 2 ^ below
none-in_front word below small le ge =
    let all : 64 ≡ below = omega (arith, le, ge) in
    sym (div-eq_of_lt small) ∙ ap (λ n. word / 2 ^ n) all
