-- When lines that a command names are refused.
use Rattle.std.specs.Prelude.{ℕ, cond, nat_lt, Option, Some, None}
use Rattle.mcs_plan_words.specs.declared.range.RangeFault.{RangeFault}
use Rattle.mcs_plan_words.specs.declared.range.RangeFault.TheVariants.{Beyond, Crossed}

-- the fault of a line beyond this many
abbrev pub past : Option ℕ → ℕ → Option RangeFault
past (Some line) count = cond (nat_lt count line) (Some (Beyond line count)) None
past None count = None

-- the first of two faults
abbrev pub first_fault : Option RangeFault → Option RangeFault → Option RangeFault
first_fault (Some fault) other = Some fault
first_fault None other = other

-- the fault of the first of two lines beyond this many
abbrev pub beyond : Option ℕ → Option ℕ → ℕ → Option RangeFault
beyond one other count = first_fault (past one count) (past other count)

-- the fault of a first line behind the last one
abbrev pub crossed : Option ℕ → Option ℕ → Option RangeFault
crossed (Some from) (Some to) = cond (nat_lt to from) (Some (Crossed from to)) None
crossed (Some from) None = None
crossed None to = None
