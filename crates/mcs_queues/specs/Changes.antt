-- How lines change: who may join one, and what the lines and the places of threads are then.
use Rattle.std.specs.Prelude.{ℕ, ◌≡◌, ◌==◌, ◌&&◌, nat_lt, Bool, cond, List, Option, Some, None, is_none}
use Rattle.mcs_types.specs.declared.id.Prio.{Prio}
use Rattle.mcs_types.specs.Waiters.{Waiter, insert_behind, without, stands_in, is_place, IsPut}
use Rattle.mcs_queues.specs.declared.lines.ThreadNo.{ThreadNo}

-- how many threads and how many lines there are: their numbers are below it
pub record Rooms : Type 0 where
  pub threads : ℕ
  pub lines : ℕ

-- a thread in a line, with its priority
abbrev pub waiter : ThreadNo → Prio → Waiter
waiter t p = record { thread = t.0; priority = p.0 }

-- whether a thread may join a line: both are in range, and it is in none
abbrev pub may_join : Rooms → (ℕ → Option ℕ) → ℕ → ℕ → Bool
may_join rooms place t q = nat_lt t rooms.threads && nat_lt q rooms.lines && is_none (place t)

-- the lines after a thread joined one of them, if it did
abbrev pub JoinsLine : (ℕ → List Waiter) → (ℕ → List Waiter) → Bool → Waiter → ℕ → Type 0
JoinsLine old new joins w q = (k : ℕ) → new k ≡ cond (joins && (q == k)) (insert_behind w (old k)) (old k)

-- the places after that
abbrev pub JoinsPlace : (ℕ → Option ℕ) → (ℕ → Option ℕ) → Bool → ℕ → ℕ → Type 0
JoinsPlace old new joins t q = (u : ℕ) → new u ≡ cond (joins && (t == u)) (Some q) (old u)

-- the places after a thread left its line
abbrev pub LeavesPlace : (ℕ → Option ℕ) → (ℕ → Option ℕ) → ℕ → Type 0
LeavesPlace old new t = (u : ℕ) → new u ≡ cond (t == u) None (old u)

-- the lines after a thread went after all of its priority in its own, if it is in one
abbrev pub ShiftsLine : (ℕ → List Waiter) → (ℕ → List Waiter) → (ℕ → Option ℕ) → Waiter → Type 0
ShiftsLine old new place w = (k : ℕ) → new k ≡ cond (is_place (place w.thread) k) (insert_behind w (without w.thread (old k))) (old k)

-- a waiter is in the line after all of its priority and ahead of all lower ones
abbrev pub IsPutAnew : (ℕ → List Waiter) → (ℕ → List Waiter) → (ℕ → Option ℕ) → Waiter → Type 0
IsPutAnew old new place w = (k : ℕ) → place w.thread ≡ Some k → IsPut w (without w.thread (old k)) (new k)

-- a thread is in a line exactly where that is its place
abbrev pub StandsAtPlace : (ℕ → List Waiter) → (ℕ → Option ℕ) → ℕ → Type 0
StandsAtPlace line place t = (k : ℕ) → stands_in t (line k) ≡ is_place (place t) k
