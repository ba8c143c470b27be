-- Who follows a thread in its queue.
use Rattle.std.specs.Prelude.{ℕ, zero, suc, cond, Option, Some, None, List, [], ◌∷◌}
use Rattle.mcs_types.specs.declared.id.ObjId.{ObjId}
use Rattle.mcs_types.specs.declared.record.Queue.{Queue}
use Rattle.mcs_types.specs.Chains.{head_of}
use Rattle.mcs_types.specs.Ids.{same}
use Rattle.mcs_book.specs.Logs.{Log}
use Rattle.mcs_book.specs.Queues.{queue_of, queued_in}

-- the thread after t in a list, in which each is once
abbrev pub next_among : ObjId → List ObjId → Option ObjId
next_among t [] = None
next_among t (x ∷ xs) = cond (same t x) (head_of xs) (next_among t xs)

-- the thread after t in a queue; no thread where t is in none
abbrev pub next_in : Log → Option Queue → ObjId → Option ObjId
next_in R None t = None
next_in R (Some q) t = next_among t (queued_in R q)

-- the thread after t in the queue where t is
unfoldable pub next_of : Log → ObjId → Option ObjId
next_of R t = next_in R (queue_of R t) t

-- a thread and those after it in its queue, at most this many
abbrev pub behind : ℕ → Log → Option ObjId → List ObjId
behind zero R at = []
behind (suc n) R None = []
behind (suc n) R (Some t) = t ∷ behind n R (next_of R t)
