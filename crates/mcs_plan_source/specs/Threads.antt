-- The threads of a plan, the spaces that words name, and which notifications are bound.
use Rattle.std.specs.Prelude.{ℕ, Bool, List, Option, Some, None, Ok, option_map, option_and_then, slice_get}
use Rattle.std.specs.List.{list_any}
use Rattle.std.specs.Option.{unwrap_or}
use Rattle.mcs_types.specs.declared.id.ObjId.{ObjId}
use Rattle.mcs_types.specs.declared.id.Kind.TheVariants as kind
use Rattle.mcs_types.specs.Ids.{same, place_of}
use Rattle.mcs_plan_source.specs.declared.plan.Plan.{Plan}
use Rattle.mcs_plan_source.specs.declared.plan.Thread.{Thread}
use Rattle.mcs_plan_source.specs.declared.plan.Tie.{Tie}
use Rattle.mcs_plan_source.specs.Refusals.{Read, ◌>>=◌}
use Rattle.mcs_plan_source.specs.Objects.{find_of_kind, named_as}
use Rattle.mcs_plan_source.specs.Saying.{Said}

-- a thread of some
abbrev pub thread_at : List Thread → ObjId → Option Thread
thread_at threads t = option_and_then (λ k. slice_get threads k) (place_of kind.Thread t)

-- the place of its space
abbrev pub space_at : List Thread → ObjId → ℕ
space_at threads t = unwrap_or (option_map (λ th. th.space) (thread_at threads t)) 0

-- the same of a plan
abbrev pub thread_in : Plan → ObjId → Option Thread
thread_in plan t = thread_at plan.threads.items t

abbrev pub space_of : Plan → ObjId → ℕ
space_of plan t = space_at plan.threads.items t

-- the place of a space by hand
abbrev pub cnode_place : ObjId → ℕ
cnode_place cnode = unwrap_or (place_of kind.CNode cnode) 0

-- the place of the space that a word names: that of a CNode, or else of a thread
abbrev pub place_or : Option ObjId → List ℕ → Said → Read ℕ
place_or (Some cnode) word s = Ok (cnode_place cnode)
place_or None word s = do
  thread ← named_as kind.Thread word s.names
  Ok (space_at s.threads thread)

abbrev pub space_named : List ℕ → Said → Read ℕ
space_named word s = place_or (find_of_kind kind.CNode word s.names) word s

-- whether a thread is bound; whether a notification is
abbrev pub is_thread_bound : List Tie → ObjId → Bool
is_thread_bound ties thread = list_any (λ tie. same tie.thread thread) ties

abbrev pub is_notification_bound : List Tie → ObjId → Bool
is_notification_bound ties notification = list_any (λ tie. same tie.notification notification) ties
