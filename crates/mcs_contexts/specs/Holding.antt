-- What a contract sees of `Contexts`: what is kept of each context that is there, and what each
-- thread holds.
use Rattle.std.specs.Prelude.{◌≡◌, Bool, cond, ◌&&◌, ◌||◌, List, length, nat_le, Option, Some, None, is_some, is_none, option_map, option_and_then, Result, Ok, Err}
use Rattle.mcs_types.specs.declared.id.ObjId.{ObjId}
use Rattle.mcs_types.specs.declared.id.CoreId.{CoreId}
use Rattle.mcs_types.specs.declared.id.Kind.TheVariants.{Context, Thread}
use Rattle.mcs_types.specs.declared.entry.Refusal.{Refusal}
use Rattle.mcs_types.specs.declared.entry.Refusal.TheVariants.{AlreadyBound, Missing, NotBound, Range}
use Rattle.mcs_types.specs.Ids.{same_kind, is_just, value_after, ChangesAt}
use Rattle.mcs_objects.specs.Store.{Objects, Shape, value_at, shape, next_id, is_full}
use Rattle.mcs_objects.specs.Places.{kept_at}
use Rattle.mcs_contexts.specs.declared.contexts.ContextRow.{ContextRow}

pub record Holding : Type 0 where
  pub rows : Objects ContextRow
  pub held : List (Option ObjId)

-- how many contexts were made and are there
abbrev pub counts : Holding → Shape
counts v = shape v.rows

-- whether no context can be made
abbrev pub no_room : Holding → Bool
no_room v = is_full v.rows

-- the context that is made next
abbrev pub next_context : Holding → ObjId
next_context v = next_id v.rows

-- the core of a context among rows, its holder, and the notification at which it is homed
abbrev pub core_at : Objects ContextRow → ObjId → Option CoreId
core_at rows s = option_map (λ r. r.core) (value_at rows s)

abbrev pub holder_at : Objects ContextRow → ObjId → Option ObjId
holder_at rows s = option_and_then (λ r. r.holder) (value_at rows s)

abbrev pub home_at : Objects ContextRow → ObjId → Option ObjId
home_at rows s = option_and_then (λ r. r.home) (value_at rows s)

-- the core of a context
abbrev pub core_in : Holding → ObjId → Option CoreId
core_in v s = core_at v.rows s

-- the thread that holds a context
abbrev pub holder_in : Holding → ObjId → Option ObjId
holder_in v s = holder_at v.rows s

-- the notification at which a context is homed
abbrev pub home_in : Holding → ObjId → Option ObjId
home_in v s = home_at v.rows s

-- the context that a thread holds
abbrev pub context_in : Holding → ObjId → Option ObjId
context_in v t = kept_at Thread v.held t

-- whether a thread holds a context
abbrev pub holds : Holding → ObjId → ObjId → Bool
holds v t s = is_just (context_in v t) s

-- the context that the thread x holds, unless it is s
abbrev pub context_but : Holding → ObjId → ObjId → Option ObjId
context_but v s x = cond (holds v x s) None (context_in v x)

-- the holder of s after the context of one thread went to another
abbrev pub lent_holder : Holding → ObjId → ObjId → ObjId → Option ObjId
lent_holder v from to s = cond (holds v from s) (Some to) (holder_in v s)

-- the context of the thread x after the context of one thread went to another
abbrev pub lent_context : Holding → ObjId → ObjId → ObjId → Option ObjId
lent_context v from to x = value_after x to (context_in v from) (value_after x from None (context_in v x))

-- this is the holder of one context now, and the others have those that they had
abbrev pub SetsHolder : Holding → Holding → ObjId → Option ObjId → Type 0
SetsHolder old new s holder = ChangesAt (holder_in old) (holder_in new) s holder

-- this is the context of one thread now, and the others have those that they had
abbrev pub SetsContext : Holding → Holding → ObjId → Option ObjId → Type 0
SetsContext old new t context = ChangesAt (context_in old) (context_in new) t context

-- this is the home of one context now, and the others have those that they had
abbrev pub SetsHome : Holding → Holding → ObjId → Option ObjId → Type 0
SetsHome old new s home = ChangesAt (home_in old) (home_in new) s home

-- the thread that held s holds none, and the others hold what they held
abbrev pub FreesHolder : Holding → Holding → ObjId → Type 0
FreesHolder old new s = (x : ObjId) → context_in new x ≡ context_but old s x

-- what a thread x holds, after this is held by a thread, if one is named
abbrev pub held_after : ObjId → Option ObjId → Option ObjId → Option ObjId → Option ObjId
held_after x None context o = o
held_after x (Some t) context o = value_after x t context o

-- what a thread x holds, after s went from who held it to a thread, or to no thread
abbrev pub given_context : Holding → ObjId → Option ObjId → ObjId → Option ObjId
given_context v s t x = held_after x t (Some s) (held_after x (holder_in v s) None (context_in v x))

-- the contexts of threads after that
abbrev pub GivesTo : Holding → Holding → ObjId → Option ObjId → Type 0
GivesTo old new s t = (x : ObjId) → context_in new x ≡ given_context old s t x

-- the holders after the context of one thread went to another
abbrev pub LendsHolders : Holding → Holding → ObjId → ObjId → Type 0
LendsHolders old new from to = (x : ObjId) → holder_in new x ≡ lent_holder old from to x

-- the contexts of threads after that
abbrev pub LendsContexts : Holding → Holding → ObjId → ObjId → Type 0
LendsContexts old new from to = (x : ObjId) → context_in new x ≡ lent_context old from to x

-- whether it is a thread of a serial from 1 to 256, which alone may hold a context
abbrev pub is_holder : ObjId → Bool
is_holder t = same_kind t.kind Thread && nat_le 1 t.serial && nat_le t.serial 256

-- whether a thread may lend its context to another: the first holds one, and the second may hold
-- one and holds none
abbrev pub may_lend : Holding → ObjId → ObjId → Bool
may_lend v from to = is_some (context_in v from) && is_holder to && is_none (context_in v to)

-- whether a thread can take a context: no thread holds it, it is homed nowhere, and the thread
-- holds none; or the refusal
abbrev pub joined : Holding → ObjId → ObjId → Result (Unit {0}) Refusal
joined v s t = cond (is_some (holder_in v s) || is_some (home_in v s) || is_some (context_in v t)) (Err AlreadyBound) (Ok tt)

-- whether a context may wake with a thread: it is there and no thread holds it, and the thread may
-- hold one and holds none
abbrev pub may_wake : Holding → ObjId → ObjId → Bool
may_wake v s t = is_some (core_in v s) && is_none (holder_in v s) && is_holder t && is_none (context_in v t)

-- whether a context can be bound to a thread: also, the context is there and the thread may hold
-- one; or the refusal
abbrev pub bound : Holding → ObjId → ObjId → Result (Unit {0}) Refusal
bound v s t = cond (is_none (core_in v s)) (Err Missing) (cond (is_holder t) (joined v s t) (Err Range))

-- whether a context can be unbound: some thread holds it; or the refusal
abbrev pub unbound : Holding → ObjId → Result (Unit {0}) Refusal
unbound v s = cond (is_some (holder_in v s)) (Ok tt) (Err NotBound)

-- whether a context can be homed: it is there and homed nowhere; or the refusal
abbrev pub homed : Holding → ObjId → Result (Unit {0}) Refusal
homed v s = cond (is_none (core_in v s)) (Err Missing) (cond (is_some (home_in v s)) (Err AlreadyBound) (Ok tt))

-- whether a context can leave its home: it has one; or the refusal
abbrev pub unhomed : Holding → ObjId → Result (Unit {0}) Refusal
unhomed v s = cond (is_some (home_in v s)) (Ok tt) (Err NotBound)

-- two contexts with one holder are one
abbrev pub HoldersDiffer : Holding → Type 0
HoldersDiffer v = (s u t : ObjId) → holder_in v s ≡ Some t → holder_in v u ≡ Some t → s ≡ u

-- a thread holds a context exactly where the context's holder is that thread
pub record IsOneToOne (v : Holding) : Type 0 where
  pub holder_holds : (s t : ObjId) → holder_in v s ≡ Some t → context_in v t ≡ Some s
  pub held_by_holder : (s t : ObjId) → context_in v t ≡ Some s → holder_in v s ≡ Some t

-- what holds of all contexts
pub record IsHolding (v : Holding) : Type 0 where
  pub room : v.rows.room ≡ 256
  pub kind : v.rows.kind ≡ Context
  pub places : length v.held ≡ 256
  pub one_to_one : IsOneToOne v
