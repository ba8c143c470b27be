-- One level of lookup, by numbers (manual: Capability Spaces, lookup).
use Rattle.std.specs.Prelude.{ℕ, ◌-◌, ◌/◌, ◌%◌, ◌^◌, ◌==◌, nat_le, cond, Ok, Err}
use Rattle.mcs_types.specs.declared.cap.Guard.{Guard}
use Rattle.mcs_types.specs.declared.entry.Refusal.TheVariants.{DepthMismatch, GuardMismatch}
use Rattle.mcs_book.specs.Checks.{Checked}
use Rattle.mcs_cspace.specs.declared.levels.Step.{Step}

-- how many bits are left after a guard, where n bits of a are left: the first of these are the
-- guard's low bits
unfoldable pub past_guard : Guard → ℕ → ℕ → Checked ℕ
past_guard guard n a =
    cond (nat_le guard.bits n)
    (cond (a / 2 ^ (n - guard.bits) % 2 ^ guard.bits == guard.value % 2 ^ guard.bits) (Ok (n - guard.bits)) (Err GuardMismatch))
    (Err GuardMismatch)

-- where n bits of a are left: the first of these are the guard's low bits, the next the index, and
-- the others are left
unfoldable pub level_at : Guard → ℕ → ℕ → ℕ → Checked Step
level_at guard radix n a =
    cond (nat_le guard.bits n)
    (cond (a / 2 ^ (n - guard.bits) % 2 ^ guard.bits == guard.value % 2 ^ guard.bits)
    (cond (nat_le radix (n - guard.bits)) (Ok (record { index = a / 2 ^ (n - guard.bits - radix) % 2 ^ radix; left = n - guard.bits - radix })) (Err DepthMismatch))
    (Err GuardMismatch))
    (Err GuardMismatch)
