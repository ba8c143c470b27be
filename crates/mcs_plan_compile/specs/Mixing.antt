-- Which lines may follow those before them (own).
use Rattle.std.specs.Prelude.{Bool, true, false, not, ◌&&◌, List, [], ◌∷◌, Option, Some, None, Ok, is_none}
use Rattle.mcs_types.specs.declared.id.CoreId.{CoreId}
use Rattle.mcs_plan_source.specs.Refusals.{Read, ◌>>◌, need, mixed, passive_user}
use Rattle.mcs_plan_layout.specs.Laid.{LaidPlan}
use Rattle.mcs_plan_compile.specs.declared.compiler.Entries.{Entries}
use Rattle.mcs_plan_compile.specs.declared.compiler.Entries.TheVariants.{Nothing, Program, Steps, Users}

-- whether lines of the other kind came before: a step names its core, a line of a user does not
abbrev pub is_mixed : Entries → Option CoreId → Bool
is_mixed Users (Some core) = true
is_mixed Steps None = true
is_mixed e core = false

-- what was so far, with a step or a line of a user
abbrev pub entries_of : Option CoreId → Entries
entries_of (Some core) = Steps
entries_of None = Users

abbrev pub is_any : {A : Type 0} → List A → Bool
is_any [] = false
is_any (x ∷ xs) = true

-- a line of a user is in a plan without passive threads
abbrev pub may_use : LaidPlan → Option CoreId → Bool
may_use laid core = not (is_none core && is_any laid.plan.passives)

-- what was so far with a step or a line of a user, where it may be
abbrev pub goes_on : LaidPlan → Entries → Option CoreId → Read Entries
goes_on laid e core = do
  need (not (is_mixed e core)) mixed
  need (may_use laid core) passive_user
  Ok (entries_of core)

-- whether a step came before
abbrev pub is_steps : Entries → Bool
is_steps Steps = true
is_steps Nothing = false
is_steps Users = false
is_steps (Program thread blocks) = false
