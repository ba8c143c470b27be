-- PlanError a line of a plan is refused, and readings that end there.
use Rattle.std.specs.Prelude.{◌≡◌, ℕ, Bool, true, false, List, Option, Some, None, Result, Ok, Err, string_bytes}
use Rattle.std.specs.Option.{ForSome}
use Rattle.mcs_types.specs.declared.boot.BootFault.{BootFault}
use Rattle.mcs_plan_source.specs.declared.fault.PlanError.{PlanError}
use Rattle.mcs_plan_source.specs.declared.fault.PlanError.TheVariants as why

-- a fault, and the word or the number that it tells
pub data Refusal : Type 0 where
  no_text : Refusal
  unknown : List ℕ → Refusal
  missing : Refusal
  too_many : List ℕ → Refusal
  not_wanted : List ℕ → Refusal
  twice : List ℕ → Refusal
  no_name : List ℕ → Refusal
  no_capability : List ℕ → List ℕ → Refusal
  limit : ℕ → Refusal
  late_cores : Refusal
  bound : List ℕ → Refusal
  late : Refusal
  no_step : Refusal
  mixed : Refusal
  passive_user : Refusal
  unclosed : Refusal
  boot : BootFault → Refusal

-- the fault that is reported; that memory was refused tells none, nor does what the statements of a
-- program say
abbrev pub refusal_by : PlanError → Option Refusal
refusal_by why.NotText = Some no_text
refusal_by (why.Unknown word) = Some (unknown (string_bytes word))
refusal_by (why.Missing wanted) = Some missing
refusal_by (why.TooMany word) = Some (too_many (string_bytes word))
refusal_by (why.Not word wanted) = Some (not_wanted (string_bytes word))
refusal_by (why.Twice word) = Some (twice (string_bytes word))
refusal_by (why.NoName word wanted there) = Some (no_name (string_bytes word))
refusal_by (why.NoCapability holder word there) = Some (no_capability (string_bytes holder) (string_bytes word))
refusal_by (why.Limit what most) = Some (limit most)
refusal_by why.LateCores = Some late_cores
refusal_by (why.Bound word) = Some (bound (string_bytes word))
refusal_by why.Late = Some late
refusal_by why.NoStep = Some no_step
refusal_by why.Mixed = Some mixed
refusal_by why.PassiveUser = Some passive_user
refusal_by (why.Unclosed opened) = Some unclosed
refusal_by (why.Program message) = None
refusal_by (why.Boot fault) = Some (boot fault)
refusal_by why.OutOfMemory = None

-- whether a line before the first step is refused for such a fault
abbrev pub is_of_line : Refusal → Bool
is_of_line no_text = false
is_of_line (unknown word) = true
is_of_line missing = true
is_of_line (too_many word) = true
is_of_line (not_wanted word) = true
is_of_line (twice word) = true
is_of_line (no_name word) = true
is_of_line (no_capability holder word) = false
is_of_line (limit most) = true
is_of_line late_cores = true
is_of_line (bound word) = true
is_of_line late = false
is_of_line no_step = false
is_of_line mixed = false
is_of_line passive_user = false
is_of_line unclosed = false
is_of_line (boot fault) = false

-- what is read, or the first fault
abbrev pub Read : Type 0 → Type 0
Read X = Result X Refusal

-- a reading, and then one that continues with what it gave
infixl 10 ◌>>=◌
abbrev pub ◌>>=◌ : {A B : Type 0} → Read A → (A → Read B) → Read B
(Ok x) >>= f = f x
(Err e) >>= f = Err e

-- a test, and then a reading
infixl 10 ◌>>◌
abbrev pub ◌>>◌ : {A B : Type 0} → Read A → Read B → Read B
(Ok x) >> next = next
(Err e) >> next = Err e

-- a fault where the test fails
abbrev pub need : Bool → Refusal → Read (Unit {0})
need true e = Ok tt
need false e = Err e

-- a fault that is reported is the one that the reading ends in
abbrev pub Refuses : {X : Type 0} → Read X → PlanError → Type 0
Refuses read w = ForSome (refusal_by w) (λ e. read ≡ Err e)

-- a fault that is reported is one of lines before the first step
abbrev pub TellsOfLine : PlanError → Type 0
TellsOfLine w = ForSome (refusal_by w) (λ e. is_of_line e ≡ true)
