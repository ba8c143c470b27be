-- Bits of an address as numbers: what shifts and remainders give is what the lists of bits say.
use Rattle.std.specs.Prelude.{ℕ, zero, suc, ◌≡◌, ◌<◌, ◌+◌, ◌*◌, ◌/◌, ◌%◌, ◌^◌, ◌==◌, ◌&&◌, cond, length, take, drop, fold}
use Rattle.std.specs.Cmp.Lexicographic.{pointwise}
use Rattle.std.proofs.Common.{refl, ap, sym, ◌∙◌, arith}
use Rattle.std.proofs.lemmas.Nat.{mod-pow-add, pow-add, pow_pos}
use Rattle.std.proofs.Math.Nat.{mod-lt, mod-one, div-div-eq-div-mul, add-mul, mul_comm, mul_assoc}
use Rattle.mcs_book.specs.Lookup.{bits_of, same_bit}
use Rattle.mcs_cspace.proofs.Numbering.{same-test, different}

-- as many bits as asked for
pub length-bits : (n a : ℕ) → length (bits_of n a) ≡ n
length-bits zero a = refl
length-bits (suc n) a = ap (λ k. suc k) (length-bits n a)

-- the low bits are what the high ones leave
pub drop-bits : (g m n a : ℕ) → n ≡ g + m → drop g (bits_of n a) ≡ bits_of m a
drop-bits zero m n a e = let same : n ≡ m = omega (arith, e) in ap (λ k. bits_of k a) same
drop-bits (suc g) m zero a e = absurd (omega (arith, e))
drop-bits (suc g) m (suc n) a e = drop-bits g m n a (omega (arith, e))

-- a bit is a remainder
bit-value : (x : ℕ) → x < 2 → cond (x == 1) 1 0 ≡ x
bit-value zero lt = refl
bit-value (suc zero) lt = refl
bit-value (suc (suc x)) lt = absurd (omega (arith, lt))

-- the remainder of one more bit
one-more : (x r : ℕ) → x % 2 ^ (suc r) ≡ (x / 2 ^ r % 2) * 2 ^ r + x % 2 ^ r
one-more x r = let e : 1 + r ≡ suc r = omega arith in ap (λ j. x % 2 ^ j) (sym e) ∙ mod-pow-add x 1 r

-- two shifts are one
two-shifts : (a k r n : ℕ) → n ≡ r + k → a / 2 ^ k / 2 ^ r ≡ a / 2 ^ n
two-shifts a k r n e = div-div-eq-div-mul a (2 ^ k) (2 ^ r) ∙ ap (λ p. a / p) (sym (pow-add 2 k r) ∙ ap (λ j. 2 ^ j) (omega (arith, e)))

-- a power of one more bit
twice : (r : ℕ) → 2 ^ (suc r) ≡ 2 * 2 ^ r
twice r = let e : suc r ≡ 1 + r = omega arith in ap (λ j. 2 ^ j) e ∙ pow-add 2 1 r

-- a bit in front of a number
spread : (a x p m : ℕ) → (2 * a + x) * p + m ≡ a * (2 * p) + (x * p + m)
spread a x p m =
    let one : (2 * a + x) * p ≡ 2 * a * p + x * p = add-mul (2 * a) x p in
    let two : 2 * a * p ≡ a * (2 * p) = ap (λ n. n * p) (mul_comm 2 a) ∙ mul_assoc a 2 p in
    omega (arith, one, two)

-- the number that the next bits spell
pub number-bits : (r k n a acc : ℕ) → n ≡ r + k → fold (λ m b. 2 * m + cond b 1 0) acc (take r (bits_of n a)) ≡ acc * 2 ^ r + (a / 2 ^ k) % 2 ^ r
number-bits zero k n a acc e = let one = mod-one (a / 2 ^ k) in omega (arith, one)
number-bits (suc r) k zero a acc e = absurd (omega (arith, e))
number-bits (suc r) k (suc n) a acc e =
    let f : n ≡ r + k = omega (arith, e) in
    let bit : cond ((a / 2 ^ n) % 2 == 1) 1 0 ≡ (a / 2 ^ n) % 2 = bit-value _ (mod-lt (a / 2 ^ n) (omega arith)) in
    let step = number-bits r k n a (2 * acc + cond ((a / 2 ^ n) % 2 == 1) 1 0) f in
    let rest : (a / 2 ^ k) % 2 ^ (suc r) ≡ ((a / 2 ^ n) % 2) * 2 ^ r + (a / 2 ^ k) % 2 ^ r = one-more (a / 2 ^ k) r ∙ ap (λ x. (x % 2) * 2 ^ r + (a / 2 ^ k) % 2 ^ r) (two-shifts a k r n f) in
    let pow : 2 ^ (suc r) ≡ 2 * 2 ^ r = twice r in
    step ∙ rw (bit, rest, pow) (spread acc ((a / 2 ^ n) % 2) (2 ^ r) ((a / 2 ^ k) % 2 ^ r))

-- two numbers of one more bit are the same where that bit and the others are
same-more : (x y p m n : ℕ) → m < p → n < p → x < 2 → y < 2 → (x * p + m == y * p + n) ≡ (same_bit (x == 1) (y == 1) && (m == n))
same-more zero zero p m n hm hn hx hy = same-test _ _ _ _ (λ e. omega (arith, e)) (λ e. omega (arith, e))
same-more (suc zero) (suc zero) p m n hm hn hx hy = same-test _ _ _ _ (λ e. omega (arith, e)) (λ e. omega (arith, e))
same-more zero (suc zero) p m n hm hn hx hy = different _ _ (λ e. omega (arith, e, hm, hn))
same-more (suc zero) zero p m n hm hn hx hy = different _ _ (λ e. omega (arith, e, hm, hn))
same-more (suc (suc x)) y p m n hm hn hx hy = absurd (omega (arith, hx))
same-more x (suc (suc y)) p m n hm hn hx hy = absurd (omega (arith, hy))

-- the next bits are those of v exactly where the numbers are the same
pub starts-bits : (g m n a v : ℕ) → n ≡ g + m → pointwise same_bit (bits_of g v) (take g (bits_of n a)) ≡ (v % 2 ^ g == (a / 2 ^ m) % 2 ^ g)
starts-bits zero m n a v e = let one = mod-one (a / 2 ^ m) in let own = mod-one v in rw (one, own) refl
starts-bits (suc g) m zero a v e = absurd (omega (arith, e))
starts-bits (suc g) m (suc n) a v e =
    let f : n ≡ g + m = omega (arith, e) in
    let later = starts-bits g m n a v f in
    let left : v % 2 ^ (suc g) ≡ (v / 2 ^ g % 2) * 2 ^ g + v % 2 ^ g = one-more v g in
    let right : (a / 2 ^ m) % 2 ^ (suc g) ≡ ((a / 2 ^ n) % 2) * 2 ^ g + (a / 2 ^ m) % 2 ^ g = one-more (a / 2 ^ m) g ∙ ap (λ x. (x % 2) * 2 ^ g + (a / 2 ^ m) % 2 ^ g) (two-shifts a m g n f) in
    ap (λ b. same_bit ((v / 2 ^ g) % 2 == 1) ((a / 2 ^ n) % 2 == 1) && b) later
    ∙ sym (same-more ((v / 2 ^ g) % 2) ((a / 2 ^ n) % 2) (2 ^ g) (v % 2 ^ g) ((a / 2 ^ m) % 2 ^ g) (mod-lt v (pow_pos g)) (mod-lt (a / 2 ^ m) (pow_pos g)) (mod-lt (v / 2 ^ g) (omega arith)) (mod-lt (a / 2 ^ n) (omega arith)))
    ∙ rw (left, right) refl
