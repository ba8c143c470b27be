-- How many objects a plan makes.
use Rattle.std.specs.Prelude.{◌+◌, ◌==◌, ◌&&◌, ℕ, Bool, true, false, not, length, min, nat_le, if◌then◌else◌}
use Rattle.std.specs.List.{sum_by}
use Rattle.mcs_types.specs.declared.id.Kind.{Kind}
use Rattle.mcs_types.specs.declared.id.Kind.TheVariants.{CNode, Thread, Endpoint, Notification, Reply, Context}
use Rattle.mcs_plan_source.specs.Naming.{count_of, limit_of}
use Rattle.mcs_plan_source.specs.declared.plan.Plan.{Plan}
use Rattle.mcs_plan_source.specs.Refusals.{Read, need, limit}
use Rattle.mcs_plan_source.specs.Slots.{leaves_for, leaves_of}
use Rattle.mcs_plan_source.specs.Saying.{Said, SaidSpace}

-- whether each thread has one of this kind
abbrev pub is_of_thread : Kind → Bool
is_of_thread CNode = true
is_of_thread Thread = true
is_of_thread Endpoint = false
is_of_thread Notification = false
is_of_thread Reply = false
is_of_thread Context = true

-- how many CNodes its larger spaces take beside their roots
abbrev pub all_leaves : Plan → ℕ
all_leaves plan = sum_by leaves_of plan.spaces.items

-- how many a space takes as a plan says it
abbrev pub leaves_in : SaidSpace → ℕ
leaves_in space = leaves_for space.radix (min (length space.slots) 65535 + 1)

-- one more where a thread is passive: that of the thread which makes it so
abbrev pub of_starter : Said → Kind → ℕ
of_starter s kind = if is_of_thread kind && not (length s.passives == 0) then 1 else 0

-- the CNodes of larger spaces
abbrev pub of_spaces : Said → Kind → ℕ
of_spaces s CNode = sum_by leaves_in s.spaces
of_spaces s _ = 0

-- how many objects of a kind the script makes
abbrev pub made_of : Said → Kind → ℕ
made_of s kind = count_of kind s.names + of_starter s kind + of_spaces s kind

-- the script makes no more of a kind than there may be
abbrev pub keeps_limit : Kind → Said → Read (Unit {0})
keeps_limit kind s = need (nat_le (made_of s kind) (limit_of kind)) (limit (limit_of kind))
