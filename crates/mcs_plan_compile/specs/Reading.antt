-- What the lines of a plan before its first step add, one after another, or the first that is
-- refused (own).
use Rattle.std.specs.Prelude.{◌≡◌, ◌+◌, ℕ, List, [], ◌∷◌, Result, Ok, Err, length, take, nat_le}
use Rattle.std.specs.Option.{ForSome}
use Rattle.mcs_plan_source.specs.declared.fault.PlanFault.{PlanFault}
use Rattle.mcs_plan_source.specs.Cutting.{words_of, code_of}
use Rattle.mcs_plan_source.specs.Refusals.{Refusal, Read, ◌>>◌, need, limit, refusal_by}
use Rattle.mcs_plan_source.specs.Saying.{Said, nothing_said}
use Rattle.mcs_plan_source.specs.ThreadLines.{line_more}
use Rattle.mcs_plan_compile.specs.declared.lines.TheConstants.{LINE_BYTES}
use Rattle.mcs_plan_compile.specs.Stepping.{count_before}

-- what is read, or the first fault and the line that it is reported at
abbrev pub ReadAt : Type 0 → Type 0
ReadAt X = Result X (ℕ × Refusal)

-- what is read of the line with this number
abbrev pub at_line : {X : Type 0} → ℕ → Read X → ReadAt X
at_line number (Ok x) = Ok x
at_line number (Err e) = Err (number, e)

-- a reading, and then one that continues with what it gave
abbrev pub and_then : {A B : Type 0} → ReadAt A → (A → ReadAt B) → ReadAt B
and_then (Ok x) f = f x
and_then (Err e) f = Err e

-- a reported fault is the one in which the reading ends, at its line; if memory was refused,
-- nothing is claimed
abbrev pub RefusesAt : {X : Type 0} → ReadAt X → PlanFault → Type 0
RefusesAt read fault = ForSome (refusal_by fault.why) (λ e. read ≡ Err (fault.line, e))

-- a line that is not too long
abbrev pub short : List ℕ → Read (Unit {0})
short line = need (nat_le (length line) LINE_BYTES) (limit LINE_BYTES)

-- what the line with this number adds: what its words say, without its comment
abbrev pub line_said : ℕ → List ℕ → Said → Read Said
line_said number line s = do
  short line
  line_more number (words_of (code_of line)) s

-- what lines add, one after another, after this many
abbrev pub lines_said : ℕ → List (List ℕ) → Said → ReadAt Said
lines_said count [] s = Ok s
lines_said count (line ∷ lines) s = and_then (at_line (count + 1) (line_said (count + 1) line s)) (lines_said (count + 1) lines)

-- the plan that lines say before the first step
abbrev pub plan_said : List (List ℕ) → ReadAt Said
plan_said lines = lines_said 0 (take (count_before lines) lines) nothing_said
