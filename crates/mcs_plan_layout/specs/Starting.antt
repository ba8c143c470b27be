-- The thread that makes others passive, which a plan has more where one is.
use Rattle.std.specs.Prelude.{◌≡◌, ◌++◌, ◌∷◌, ℕ, true, List, [], length, fold, Option, Some, None, Ok, Err, codes, bytes_eq, option_and_then, if◌then◌else◌}
use Rattle.std.specs.Option.{ForSome}
use Rattle.mcs_types.specs.declared.id.ObjId.{ObjId}
use Rattle.mcs_types.specs.declared.id.Kind.{Kind}
use Rattle.mcs_types.specs.declared.id.Kind.TheVariants as kind
use Rattle.mcs_plan_source.specs.declared.fault.PlanFault.{PlanFault}
use Rattle.mcs_plan_source.specs.Naming.{ByName, NameList, name_of, next_of}
use Rattle.mcs_plan_source.specs.declared.plan.Thread.{Thread}
use Rattle.mcs_plan_source.specs.Objects.{may_name}
use Rattle.mcs_plan_source.specs.Refusals.{Read, ◌>>=◌, ◌>>◌, refusal_by}
use Rattle.mcs_plan_source.specs.Saying.{Said, SaidSpace, SaidPassive, with_name, with_thread}
use Rattle.mcs_plan_source.specs.Threads.{thread_at}
use Rattle.mcs_plan_layout.specs.SpaceLayouts.{zero_guard}
use Rattle.mcs_plan_layout.specs.Boot.{bare}

-- its name, and those of its context and its space
abbrev pub own_name : List ℕ
own_name = codes "starter"

abbrev pub context_name : List ℕ
context_name = codes "starter.context"

abbrev pub space_name : List ℕ
space_name = codes "starter.space"

-- names with one more, where it may be given
abbrev pub name_more : Kind → List ℕ → NameList → Read NameList
name_more kind name names = do
  may_name kind name names
  Ok (with_name kind name names)

-- names with those of the thread
abbrev pub names_started : NameList → Read NameList
names_started names = do
  own ← name_more kind.Thread own_name names
  two ← name_more kind.Context context_name own
  name_more kind.CNode space_name two

-- its context
abbrev pub own_context : NameList → ObjId
own_context names = next_of kind.Context (with_name kind.Thread own_name names)

-- the thread, with this context
abbrev pub starter_with : ObjId → Said → Thread
starter_with context s =
    record {
      priority = record { 0 = 255 };
      maximum = record { 0 = 255 };
      space = length s.spaces;
      runs = true;
      context = Some context;
      core = record { 0 = 0 };
    }

-- slots with one of this name that holds this, in the place of one that has the name, or after the
-- others
abbrev pub with_slot : {X : Type 0} → List ℕ → X → ByName X → ByName X
with_slot name x [] = (name, x) ∷ []
with_slot name x (e ∷ es) = if bytes_eq name e.0 then (e.0, x) ∷ es else e ∷ with_slot name x es

-- a space with a slot of this name that holds a capability to an object
abbrev pub with_held : List ℕ → ObjId → SaidSpace → SaidSpace
with_held name obj space = record space { slots = with_slot name (Some (bare obj (zero_guard 0))) space.slots }

-- a space with a slot for a context, under its name
abbrev pub with_context : Said → SaidSpace → Option ObjId → SaidSpace
with_context s space None = space
with_context s space (Some context) = with_held (name_of s.names context) context space

-- a space with a slot for the context of a thread, where it has one
abbrev pub with_context_of : Said → ObjId → SaidSpace → SaidSpace
with_context_of s t space = with_context s space (option_and_then (λ th. th.context) (thread_at s.threads t))

-- a space that has no slots, and no radix that is said
abbrev pub no_slots : SaidSpace
no_slots = record { radix = None; slots = [] }

-- the space of the thread: the contexts of the passive threads, in order, and itself
abbrev pub space_started : Said → ObjId → SaidSpace
space_started s starter = with_held own_name starter (fold (λ space p. with_context_of s p.thread space) no_slots s.passives)

-- a plan with a context on core 0 more, and this space
abbrev pub with_parts : SaidSpace → Said → Said
with_parts space s = record s { contexts = s.contexts ++ (record { 0 = 0 }) ∷ []; spaces = s.spaces ++ space ∷ [] }

-- a plan with these names, and with a space for the thread
abbrev pub with_own_space : NameList → Said → Said
with_own_space names s =
    with_parts (space_started (record s { names = names }) (next_of kind.Thread s.names)) (record s { names = names })

-- a plan with the thread more, these names, its context and its space
abbrev pub with_starter : NameList → Said → Said
with_starter names s = with_thread (starter_with (own_context s.names) s) (with_own_space names s)

-- a plan has the thread more
pub record AddsStarter (old new : Said) : Type 0 where
  pub names : NameList
  pub named : names_started old.names ≡ Ok names
  pub same : new ≡ with_starter names old

-- the same where a thread is passive, and nothing more where none is
abbrev pub StartsFor : List SaidPassive → Said → Said → Type 0
StartsFor [] old new = new ≡ old
StartsFor (p ∷ ps) old new = AddsStarter old new

abbrev pub IsStarted : Said → Said → Type 0
IsStarted old new = StartsFor old.passives old new

-- the line of the first passive thread
abbrev pub first_line : List SaidPassive → Option ℕ
first_line [] = None
first_line (p ∷ ps) = Some p.line

-- a plan that has a passive thread may not have the thread more, which is reported at the line of
-- the first passive one; that memory was refused says nothing of it
abbrev pub RefusesStarter : Said → PlanFault → Type 0
RefusesStarter old fault =
    ForSome (refusal_by fault.why) (λ e. (first_line old.passives ≡ Some fault.line) × (names_started old.names ≡ Err e))
