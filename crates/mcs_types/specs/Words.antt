-- The words of notifications (manual: Notifications).
use Rattle.std.specs.Prelude.{ℕ, Option, Some, None, bit_or}

-- a word with one more badge
abbrev pub with_badge : ℕ → Option ℕ → ℕ
with_badge badge None = badge
with_badge badge (Some word) = bit_or word badge
