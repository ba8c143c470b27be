-- The pick as a search over the threads in order of their numbers.
use Rattle.std.specs.Prelude.{ℕ, ◌+◌, zero, suc, Bool, true, cond, ◌&&◌, nat_lt, List, Option, Some, None}
use Rattle.mcs_types.specs.declared.id.ObjId.{ObjId}
use Rattle.mcs_types.specs.declared.id.CoreId.{CoreId}
use Rattle.mcs_types.specs.declared.id.Kind.TheVariants.{Thread}
use Rattle.mcs_book.specs.Logs.{Log}
use Rattle.mcs_book.specs.Threads.{prio_of}
use Rattle.mcs_book.specs.Picking.{is_candidate}

-- the thread of a number: the one of serial n has the number n - 1
abbrev pub thread_at : ℕ → ObjId
thread_at i = record { kind = Thread; serial = i + 1 }

-- whether the thread of a number has a greater priority than the one found before, if there is one
abbrev pub is_above : Log → ℕ → Option ℕ → Bool
is_above R n None = true
is_above R n (Some m) = nat_lt (prio_of R (thread_at m)) (prio_of R (thread_at n))

-- what is found when the thread of one more number was looked at
abbrev pub better_of : Log → CoreId → List Bool → ℕ → Option ℕ → Option ℕ
better_of R core passed n best = cond (is_candidate R core passed (thread_at n) && is_above R n best) (Some n) best

-- what is found among the threads of the numbers below n
abbrev pub best_below : Log → CoreId → List Bool → ℕ → Option ℕ
best_below R core passed zero = None
best_below R core passed (suc n) = better_of R core passed n (best_below R core passed n)

-- the thread of a number, if there is one
abbrev pub picked : Option ℕ → Option ObjId
picked None = None
picked (Some n) = Some (thread_at n)
