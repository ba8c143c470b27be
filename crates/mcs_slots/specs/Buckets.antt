-- Buckets of objects: a tally is kept for each.
use Rattle.std.specs.Prelude.{ℕ, ◌+◌, ◌*◌, ◌%◌, ◌==◌, ◌&&◌, Bool, false, Option, Some, None}
use Rattle.mcs_types.specs.declared.id.ObjId.{ObjId}
use Rattle.mcs_types.specs.declared.cap.Cap.{Cap}
use Rattle.mcs_types.specs.Ids.{kind_number}
use Rattle.mcs_slots.specs.declared.tallies.TheConstants.{SERIALS}

-- the bucket of an object: objects of one kind share it where their serials differ by a multiple of
-- SERIALS
abbrev pub bucket_of : ObjId → ℕ
bucket_of o = (o.serial % SERIALS) * 6 + kind_number o.kind

-- whether it is a capability to an object of this bucket
abbrev pub falls_in : ℕ → Option Cap → Bool
falls_in b None = false
falls_in b (Some cap) = bucket_of cap.obj == b

-- whether an object of a bucket is its owner, which has this serial
abbrev pub owns : ℕ → ObjId → Bool
owns n x = n == x.serial

-- whether it is a capability to the owner of this bucket
abbrev pub is_owned : ℕ → ℕ → Option Cap → Bool
is_owned b n None = false
is_owned b n (Some cap) = (bucket_of cap.obj == b) && owns n cap.obj
