-- What a plan says, and what is added to it.
use Rattle.std.specs.Prelude.{◌++◌, ◌∷◌, ℕ, zero, suc, List, [], Option, None, map, string_bytes}
use Rattle.mcs_types.specs.declared.id.ObjId.{ObjId}
use Rattle.mcs_types.specs.declared.id.CoreId.{CoreId}
use Rattle.mcs_types.specs.declared.id.Kind.{Kind}
use Rattle.mcs_types.specs.declared.id.Kind.TheVariants as kind
use Rattle.mcs_types.specs.declared.cap.Cap.{Cap}
use Rattle.mcs_plan_source.specs.Naming.{ByName, NameList, next_of}
use Rattle.mcs_plan_source.specs.declared.plan.Plan.{Plan}
use Rattle.mcs_plan_source.specs.declared.plan.Space.{Space}
use Rattle.mcs_plan_source.specs.declared.plan.Slot.{Slot}
use Rattle.mcs_plan_source.specs.declared.plan.Thread.{Thread}
use Rattle.mcs_plan_source.specs.declared.plan.Passive.{Passive}
use Rattle.mcs_plan_source.specs.declared.plan.Tie.{Tie}
use Rattle.mcs_plan_source.specs.Slots.{slots_of}

-- a space: its radix, where one is said, and what each slot holds, by its name
pub record SaidSpace : Type 0 where
  pub radix : Option ℕ
  pub slots : ByName (Option Cap)

-- a passive thread, and the line that makes it so
pub record SaidPassive : Type 0 where
  pub line : ℕ
  pub thread : ObjId
  pub endpoint : List ℕ
  pub reply : List ℕ

-- what a plan says before its first step
pub record Said : Type 0 where
  pub cores : Option ℕ
  pub names : NameList
  pub contexts : List CoreId
  pub threads : List Thread
  pub spaces : List SaidSpace
  pub passives : List SaidPassive
  pub ties : List Tie

-- what slots hold, by their names
abbrev pub held_in : ByName Slot → ByName (Option Cap)
held_in slots = map (λ s. (s.0, s.1.cap)) slots

abbrev pub said_space : Space → SaidSpace
said_space space = record { radix = space.radix; slots = held_in (slots_of space) }

abbrev pub said_passive : Passive → SaidPassive
said_passive p =
    record { line = p.line; thread = p.thread; endpoint = string_bytes p.endpoint; reply = string_bytes p.reply }

abbrev pub said : Plan → Said
said plan =
    record {
      cores = plan.cores;
      names = plan.names;
      contexts = plan.contexts.items;
      threads = plan.threads.items;
      spaces = map said_space plan.spaces.items;
      passives = map said_passive plan.passives.items;
      ties = plan.ties.items;
    }

-- a plan that says nothing
abbrev pub nothing_said : Said
nothing_said = record { cores = None; names = []; contexts = []; threads = []; spaces = []; passives = []; ties = [] }

-- a list with one of its elements changed, where it has that one
abbrev pub at_place : {X : Type 0} → ℕ → (X → X) → List X → List X
at_place place f [] = []
at_place zero f (x ∷ xs) = f x ∷ xs
at_place (suc place) f (x ∷ xs) = x ∷ at_place place f xs

-- a space with a slot more, after the others
abbrev pub with_last : List ℕ → Option Cap → SaidSpace → SaidSpace
with_last name cap space = record space { slots = space.slots ++ (name, cap) ∷ [] }

-- a plan in which the space at a place has a slot more
abbrev pub with_slot : ℕ → List ℕ → Option Cap → Said → Said
with_slot place name cap s = record s { spaces = at_place place (with_last name cap) s.spaces }

-- names with the next object of a kind
abbrev pub with_name : Kind → List ℕ → NameList → NameList
with_name kind name names = names ++ (name, next_of kind names) ∷ []

-- a plan with an object more; with a context more, and its core; with a space more, which has no
-- slots
abbrev pub with_object : Kind → List ℕ → Said → Said
with_object kind name s = record s { names = with_name kind name s.names }

abbrev pub with_context : List ℕ → CoreId → Said → Said
with_context name core s = record s { names = with_name kind.Context name s.names; contexts = s.contexts ++ core ∷ [] }

abbrev pub with_space : List ℕ → Option ℕ → Said → Said
with_space name radix s =
    record s { names = with_name kind.CNode name s.names; spaces = s.spaces ++ (record { radix = radix; slots = [] }) ∷ [] }

-- a plan with a thread more; with a binding more
abbrev pub with_thread : Thread → Said → Said
with_thread t s = record s { threads = s.threads ++ t ∷ [] }

abbrev pub with_tie : Tie → Said → Said
with_tie t s = record s { ties = s.ties ++ t ∷ [] }
