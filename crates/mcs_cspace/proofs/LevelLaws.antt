-- One level by numbers is one level by bits.
use Rattle.std.specs.Prelude.{ℕ, zero, suc, ◌≡◌, ◌≢◌, ◌<◌, ◌≤◌, ◌+◌, ◌-◌, ◌*◌, ◌/◌, ◌%◌, ◌^◌, ◌==◌, Bool, true, false, cond, List, [], ◌∷◌, length, take, drop, nat_le, Ok, Err}
use Rattle.std.specs.List.{starts_with}
use Rattle.std.specs.Cmp.Lexicographic.{pointwise, unequal}
use Rattle.std.proofs.Common.{refl, ap, sym, ◌∙◌, arith}
use Rattle.std.proofs.lemmas.Grind.{common_steps}
use Rattle.mcs_types.specs.declared.cap.Cap.{Cap}
use Rattle.mcs_types.specs.declared.cap.Guard.{Guard}
use Rattle.mcs_types.specs.declared.entry.Refusal.{Refusal}
use Rattle.mcs_types.specs.declared.entry.Refusal.TheVariants.{DepthMismatch, GuardMismatch}
use Rattle.mcs_book.specs.Checks.{Checked, ◌>>=◌, ◌>>◌, need}
use Rattle.mcs_book.specs.Lookup.{Space, bits_of, number_of_bits, same_bit, Reached, level}
use Rattle.mcs_cspace.specs.declared.levels.Step.{Step}
use Rattle.mcs_cspace.specs.Levels.{past_guard, level_at}
use Rattle.mcs_cspace.proofs.Numbering.{same-test}
use Rattle.mcs_cspace.proofs.Bits.{length-bits, drop-bits, number-bits, starts-bits}

-- what is added to nothing
none-before : (x y : ℕ) → 0 * x + y ≡ y
none-before x y = omega arith

-- what a step by numbers reaches
abbrev pub reached : Cap → ℕ → Step → Reached
reached cap a s = record { cnode = cap.obj; index = s.index; left = bits_of s.left a }

-- what is taken from a list is no longer than it
take-few : (k : ℕ) (bits : List Bool) → length (take k bits) ≤ length bits
take-few zero bits = omega arith
take-few (suc k) [] = omega arith
take-few (suc k) (b ∷ bits) = let le : length (take k bits) ≤ length bits = take-few k bits in omega (arith, le)

-- where fewer bits are left than the guard has, they do not start with it
starts-short : (g n a v : ℕ) → nat_le g n ≡ false → starts_with same_bit (bits_of n a) (bits_of g v) ≡ false
starts-short g n a v short =
    unequal same_bit (bits_of g v) (take (length (bits_of g v)) (bits_of n a)) differ
  where
    differ : length (bits_of g v) ≢ length (take (length (bits_of g v)) (bits_of n a))
    differ e =
        let size : length (bits_of g v) ≡ g = length-bits g v in
        let all : length (bits_of n a) ≡ n = length-bits n a in
        let few : length (take (length (bits_of g v)) (bits_of n a)) ≤ length (bits_of n a) = take-few (length (bits_of g v)) (bits_of n a) in
        let fewer : n < g = grind (arith, common_steps, short) in
        omega (arith, e, size, all, few, fewer)

-- else they do exactly where the numbers are the same
starts-long : (g n a v : ℕ) → nat_le g n ≡ true → starts_with same_bit (bits_of n a) (bits_of g v) ≡ (a / 2 ^ (n - g) % 2 ^ g == v % 2 ^ g)
starts-long g n a v long =
    let whole : n ≡ g + (n - g) = grind (arith, common_steps, long) in
    ap (λ k. pointwise same_bit (bits_of g v) (take k (bits_of n a))) (length-bits g v)
    ∙ starts-bits g (n - g) n a v whole
    ∙ same-test (v % 2 ^ g) (a / 2 ^ (n - g) % 2 ^ g) (a / 2 ^ (n - g) % 2 ^ g) (v % 2 ^ g) (λ e. sym e) (λ e. sym e)

-- the law: one level by bits is one level by numbers
pub level-is : (S : Space) (cap : Cap) (n a : ℕ) → level S cap (bits_of n a) ≡ (level_at cap.guard (S.radix cap.obj) n a >>= λ s. Ok (reached cap a s))
unfolding level level_at ◌>>=◌ ◌>>◌ need
level-is S cap n a = go (nat_le g n) refl
  where
    g : ℕ
    g = cap.guard.bits

    v : ℕ
    v = cap.guard.value

    m : ℕ
    m = n - g

    radix : ℕ
    radix = S.radix cap.obj

    -- what is left after the guard
    after : List Bool
    after = drop (length (bits_of g v)) (bits_of n a)

    after-is : nat_le g n ≡ true → after ≡ bits_of m a
    after-is long =
        let whole : n ≡ g + m = grind (arith, common_steps, long) in
        ap (λ k. drop k (bits_of n a)) (length-bits g v) ∙ drop-bits g m n a whole

    -- the slot that is reached by these bits
    by_bits : List Bool → Reached
    by_bits bits = record { cnode = cap.obj; index = number_of_bits (take radix bits); left = drop radix bits }

    by_numbers : Step
    by_numbers = record { index = a / 2 ^ (m - radix) % 2 ^ radix; left = m - radix }

    same : nat_le radix m ≡ true → by_bits (bits_of m a) ≡ reached cap a by_numbers
    same le =
        let few : m ≡ radix + (m - radix) = grind (arith, common_steps, le) in
        let number : number_of_bits (take radix (bits_of m a)) ≡ a / 2 ^ (m - radix) % 2 ^ radix = number-bits radix (m - radix) m a 0 few ∙ none-before (2 ^ radix) (a / 2 ^ (m - radix) % 2 ^ radix) in
        let left : drop radix (bits_of m a) ≡ bits_of (m - radix) a = drop-bits radix (m - radix) m a few in
        λ i. record { cnode = cap.obj; index = number i; left = left i }

    -- the checks by bits, and by numbers
    checks : Bool → List Bool → ℕ → Checked Reached
    checks b bits n = need b GuardMismatch >> (need (nat_le radix n) DepthMismatch >> Ok (by_bits bits))

    tests : Bool → Bool → Bool → Checked Step
    tests b c d = cond b (cond c (cond d (Ok by_numbers) (Err DepthMismatch)) (Err GuardMismatch)) (Err GuardMismatch)

    ends : (c d : Bool) → (d ≡ true → by_bits (bits_of m a) ≡ reached cap a by_numbers)
        → (need c GuardMismatch >> (need d DepthMismatch >> Ok (by_bits (bits_of m a)))) ≡ (tests true c d >>= λ s. Ok (reached cap a s))
    ends true true h = ap (λ x. Ok x) (h refl)
    ends true false h = refl
    ends false d h = refl

    go : (b : Bool) → nat_le g n ≡ b → checks (starts_with same_bit (bits_of n a) (bits_of g v)) after (length after) ≡ (tests b (a / 2 ^ m % 2 ^ g == v % 2 ^ g) (nat_le radix m) >>= λ s. Ok (reached cap a s))
    go true e =
        (λ i. checks (starts-long g n a v e i) (after-is e i) ((ap (λ bits. length bits) (after-is e) ∙ length-bits m a) i))
        ∙ ends (a / 2 ^ m % 2 ^ g == v % 2 ^ g) (nat_le radix m) same
    go false e = ap (λ b. checks b after (length after)) (starts-short g n a v e)

-- a level in two steps: past the guard, and then along the index
abbrev along : ℕ → ℕ → ℕ → Checked Step
along radix a after = cond (nat_le radix after) (Ok (record { index = a / 2 ^ (after - radix) % 2 ^ radix; left = after - radix })) (Err DepthMismatch)

past-along : (guard : Guard) (radix n a after : ℕ) → past_guard guard n a ≡ Ok after → level_at guard radix n a ≡ along radix a after
unfolding past_guard level_at
past-along guard radix n a after e =
    go (n - guard.bits) (nat_le guard.bits n) (a / 2 ^ (n - guard.bits) % 2 ^ guard.bits == guard.value % 2 ^ guard.bits) e
  where
    go : (m : ℕ) (v w : Bool) → cond v (cond w (Ok m) (Err GuardMismatch)) (Err GuardMismatch) ≡ Ok after
        → cond v (cond w (along radix a m) (Err GuardMismatch)) (Err GuardMismatch) ≡ along radix a after
    go m true true h = let same : m ≡ after = cc in ap (along radix a) same
    go m true false h = absurd cc
    go m false w h = absurd cc

pub past-err : (guard : Guard) (radix n a : ℕ) (why : Refusal) → past_guard guard n a ≡ Err why → level_at guard radix n a ≡ Err why
unfolding past_guard level_at
past-err guard radix n a why e =
    go (n - guard.bits) (nat_le guard.bits n) (a / 2 ^ (n - guard.bits) % 2 ^ guard.bits == guard.value % 2 ^ guard.bits) e
  where
    go : (m : ℕ) (v w : Bool) → cond v (cond w (Ok m) (Err GuardMismatch)) (Err GuardMismatch) ≡ Err why
        → cond v (cond w (along radix a m) (Err GuardMismatch)) (Err GuardMismatch) ≡ Err why
    go m true true h = absurd cc
    go m true false h = let same : GuardMismatch ≡ why = cc in ap Err same
    go m false w h = let same : GuardMismatch ≡ why = cc in ap Err same

pub past-short : (guard : Guard) (radix n a after : ℕ) → past_guard guard n a ≡ Ok after → after < radix → level_at guard radix n a ≡ Err DepthMismatch
past-short guard radix n a after e short =
    let no : nat_le radix after ≡ false = grind (arith, common_steps, short) in
    past-along guard radix n a after e ∙ ap (λ b. cond b (Ok (record { index = a / 2 ^ (after - radix) % 2 ^ radix; left = after - radix })) (Err DepthMismatch)) no

pub past-long : (guard : Guard) (radix n a after index : ℕ) → past_guard guard n a ≡ Ok after → radix ≤ after → index ≡ a / 2 ^ (after - radix) % 2 ^ radix
    → Ok (record { index = index; left = after - radix }) ≡ level_at guard radix n a
past-long guard radix n a after index e long is =
    let yes : nat_le radix after ≡ true = grind (arith, common_steps, long) in
    let told : Step → Checked Step = Ok in
    ap (λ i. told (record { index = i; left = after - radix })) is
    ∙ sym (past-along guard radix n a after e ∙ ap (λ b. cond b (Ok (record { index = a / 2 ^ (after - radix) % 2 ^ radix; left = after - radix })) (Err DepthMismatch)) yes)
