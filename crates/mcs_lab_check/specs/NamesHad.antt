-- The name that each object has.
use Rattle.std.specs.Prelude.{ℕ, ◌+◌, ◌*◌, ◌==◌, cond, List, Option, Some}
use Rattle.std.specs.Map.{lookup}
use Rattle.mcs_types.specs.declared.id.ObjId.{ObjId}
use Rattle.mcs_types.specs.Ids.{kind_number, same}

-- a number for an object, which no other has
abbrev pub key_of : ObjId → ℕ
key_of o = 8 * o.serial + kind_number o.kind

-- the name of an object, in a table by these numbers
abbrev pub name_in : List (ℕ × List ℕ) → ObjId → Option (List ℕ)
name_in names o = lookup (λ n. key_of o == n) names

-- the name of an object after one is given a name, where it had this one, or none
abbrev pub named_now : ObjId → List ℕ → Option (List ℕ) → ObjId → Option (List ℕ)
named_now given name before o = cond (same given o) (Some name) before
