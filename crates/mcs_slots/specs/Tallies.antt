-- What the tallies tell of the slots.
use Rattle.std.specs.Prelude.{◌≡◌, ◌+◌, ◌-◌, ◌^◌, ℕ, cond, ◌==◌, min, Bool, List, Option, Some, None, slice_get, slice_set, sum_by, count_by}
use Rattle.mcs_types.specs.declared.id.ObjId.{ObjId}
use Rattle.mcs_types.specs.declared.cap.Cap.{Cap}
use Rattle.mcs_slots.specs.declared.tallies.Tally.{Tally}
use Rattle.mcs_slots.specs.Buckets.{bucket_of, falls_in, owns, is_owned}
use Rattle.mcs_slots.specs.Pages.{Page}

-- the number of slots that hold what passes a test
abbrev pub holding : (Option Cap → Bool) → List Page → ℕ
holding q S = sum_by (λ p. count_by q p.caps) S

-- a tally tells of bucket b how many slots hold a capability to one of its objects, the owner, and
-- how many to any of them
pub record TellsOf (S : List Page) (b : ℕ) (t : Tally) : Type 0 where
  pub held : t.held ≡ holding (is_owned b t.owner) S
  pub total : t.total ≡ holding (falls_in b) S

-- each tally tells of its bucket
abbrev pub Tells : List Tally → List Page → Type 0
Tells T S = (b : ℕ) (t : Tally) → slice_get T b ≡ Some t → TellsOf S b t

-- the tally of a bucket if there was none yet
abbrev pub no_tally : Tally
no_tally = record { owner = 0; held = 0; total = 0 }

-- with one capability to an object less
abbrev pub one_less : ObjId → Tally → Tally
one_less o t = record t { held = cond (owns t.owner o) (t.held - 1) t.held; total = t.total - 1 }

-- the object is the owner from now on if there is none
abbrev pub taken_over : ObjId → Tally → Tally
taken_over o t = cond (t.total == 0) (record { owner = o.serial; held = 0; total = 0 }) t

-- one more, in 16 bits
abbrev pub more_by_one : ℕ → ℕ
more_by_one n = min (n + 1) (2 ^ 16 - 1)

-- a capability to the object is counted
abbrev pub counted : ObjId → Tally → Tally
counted o t = record t { held = cond (owns t.owner o) (more_by_one t.held) t.held; total = more_by_one t.total }

-- with one capability to an object more
abbrev pub one_more : ObjId → Tally → Tally
one_more o t = counted o (taken_over o t)

-- the tally of bucket b is changed by f, if there is one, and no other
pub record Retold (f : Tally → Tally) (b : ℕ) (old new : List Tally) : Type 0 where
  pub is : (tally : Tally) → slice_get old b ≡ Some tally → new ≡ slice_set old b (f tally)
  pub none : slice_get old b ≡ None → new ≡ old

-- each of them is the tally of its bucket
abbrev pub AreFrom : List Tally → List Tally → Type 0
AreFrom new old = (b : ℕ) (t : Tally) → slice_get new b ≡ Some t → slice_get old b ≡ Some t

-- a slot released what it held
abbrev pub LetsGo : List Tally → Option Cap → List Tally → Type 0
LetsGo old None new = new ≡ old
LetsGo old (Some cap) new = Retold (one_less cap.obj) (bucket_of cap.obj) old new

-- an empty slot got this
abbrev pub Counts : List Tally → Option Cap → List Tally → Type 0
Counts old None new = new ≡ old
Counts old (Some cap) new = Retold (one_more cap.obj) (bucket_of cap.obj) old new
