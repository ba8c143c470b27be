-- What holds of each plan that was read.
use Rattle.std.specs.Prelude.{◌≡◌, ◌<◌, ◌≤◌, ℕ, true, false, List, [], ◌∷◌, Some, None, length}
use Rattle.std.specs.List.{list_all}
use Rattle.mcs_types.specs.declared.id.ObjId.{ObjId}
use Rattle.mcs_types.specs.declared.id.Kind.{Kind}
use Rattle.mcs_types.specs.declared.id.Kind.TheVariants as kind
use Rattle.mcs_plan_source.specs.Naming.{ByName, NameList, find, is_name, count_of, limit_of}
use Rattle.mcs_plan_source.specs.declared.plan.Thread.{Thread}
use Rattle.mcs_plan_source.specs.declared.plan.Tie.{Tie}
use Rattle.mcs_plan_source.specs.Making.{made_of}
use Rattle.mcs_plan_source.specs.Saying.{Said, SaidSpace}
use Rattle.mcs_plan_source.specs.Slots.{most_slots}
use Rattle.mcs_plan_source.specs.Threads.{is_thread_bound, is_notification_bound}

-- no name is given twice
abbrev pub AreOnce : {X : Type 0} → ByName X → Type 0
AreOnce [] = Unit {0}
AreOnce (e ∷ es) = (find es e.0 ≡ None) × AreOnce es

-- no space has two slots of a name, or more slots than it may
abbrev pub AreWithin : List SaidSpace → Type 0
AreWithin [] = Unit {0}
AreWithin (space ∷ spaces) = AreOnce space.slots × (length space.slots ≤ most_slots space.radix) × AreWithin spaces

-- no thread and no notification is bound twice
abbrev pub AreApart : List Tie → Type 0
AreApart [] = Unit {0}
AreApart (tie ∷ ties) =
    (is_thread_bound ties tie.thread ≡ false) × (is_notification_bound ties tie.notification ≡ false) × AreApart ties

-- names are names, each given once; no more is made of a kind than there may be; spaces and
-- bindings are as they may be
pub record IsInOrder (s : Said) : Type 0 where
  pub names : list_all (λ n. is_name n.0) s.names ≡ true
  pub once : AreOnce s.names
  pub limits : (kind : Kind) → made_of s kind ≤ limit_of kind
  pub spaces : AreWithin s.spaces
  pub ties : AreApart s.ties

-- each object that has a name is one of those that were counted, from 1 on
abbrev pub AreCounted : NameList → Type 0
AreCounted names = (word : List ℕ) (o : ObjId) → find names word ≡ Some o → (1 ≤ o.serial) × (o.serial ≤ count_of o.kind names)

-- each thread is in one of this many spaces
abbrev pub AreHoused : ℕ → List Thread → Type 0
AreHoused spaces [] = Unit {0}
AreHoused spaces (thread ∷ threads) = (thread.space < spaces) × AreHoused spaces threads

-- each context, space and thread that has a name is there, and the space of each thread
pub record IsWhole (s : Said) : Type 0 where
  pub counted : AreCounted s.names
  pub contexts : length s.contexts ≡ count_of kind.Context s.names
  pub spaces : length s.spaces ≡ count_of kind.CNode s.names
  pub threads : length s.threads ≡ count_of kind.Thread s.names
  pub housed : AreHoused (length s.spaces) s.threads
