-- Which thread a core runs next (own).
use Rattle.std.specs.Prelude.{◌≡◌, ◌≤◌, Bool, true, not, ◌&&◌, List, Option, Some, None}
use Rattle.mcs_types.specs.declared.id.ObjId.{ObjId}
use Rattle.mcs_types.specs.declared.id.CoreId.{CoreId}
use Rattle.mcs_types.specs.ThreadSets.{has}
use Rattle.mcs_book.specs.Logs.{Log}
use Rattle.mcs_book.specs.Threads.{prio_of}
use Rattle.mcs_book.specs.Statuses.{may_enter}

-- whether t may enter on this core, and is not among those that are passed over
abbrev pub is_candidate : Log → CoreId → List Bool → ObjId → Bool
is_candidate R core passed t = may_enter R core t && not (has passed t)

-- t goes before u: its priority is greater, or the same and its serial no greater
pub record GoesBefore (R : Log) (t u : ObjId) : Type 0 where
  pub priority : prio_of R u ≤ prio_of R t
  pub serial : prio_of R u ≡ prio_of R t → t.serial ≤ u.serial

-- the candidate that goes before all others; none if there is none
abbrev pub IsPick : Log → CoreId → List Bool → Option ObjId → Type 0
IsPick R core passed None = (u : ObjId) → is_candidate R core passed u ≡ true → ⊥
IsPick R core passed (Some t) = (is_candidate R core passed t ≡ true) × ((u : ObjId) → is_candidate R core passed u ≡ true → GoesBefore R t u)
