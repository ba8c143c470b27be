-- Faults of a line that are not visible.
use Rattle.std.specs.Prelude.{ℕ, Bool, cond, List, [], ◌∷◌, Option, Some, None, nat_eq}
use Rattle.std.specs.List.{starts_with, ends_with}
use Rattle.mcs_lab_check.specs.declared.flaw.Flaw.{Flaw}
use Rattle.mcs_lab_check.specs.declared.flaw.Flaw.TheVariants.{ByteOrderMark, CarriageReturn}

-- the byte order mark of UTF-8 is at the beginning
abbrev pub has_mark : List ℕ → Bool
has_mark line = starts_with nat_eq line (0xEF ∷ 0xBB ∷ 0xBF ∷ [])

-- a carriage return is before the newline
abbrev pub has_return : List ℕ → Bool
has_return line = ends_with nat_eq line (13 ∷ 10 ∷ [])

-- the fault of a line
abbrev pub flaw_of : List ℕ → Option Flaw
flaw_of line = cond (has_mark line) (Some ByteOrderMark) (cond (has_return line) (Some CarriageReturn) None)
