-- The numbers of refusals.
use Rattle.std.specs.Prelude.{ℕ}
use Rattle.mcs_types.specs.declared.entry.Refusal.{Refusal}
use Rattle.mcs_types.specs.declared.entry.Refusal.TheVariants as why

-- the number of a refusal
abbrev pub refusal_number : Refusal → ℕ
refusal_number why.Missing = 1
refusal_number why.DepthMismatch = 2
refusal_number why.GuardMismatch = 3
refusal_number why.WrongKind = 4
refusal_number why.NoRight = 5
refusal_number why.Range = 6
refusal_number why.SlotFull = 7
refusal_number why.SlotEmpty = 8
refusal_number why.AlreadyBound = 9
refusal_number why.NotBound = 10
refusal_number why.NoRoom = 11
refusal_number why.BadgeNotAllowed = 12
refusal_number why.LastCNode = 13
