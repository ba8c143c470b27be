-- Where the page of a CNode is.
use Rattle.std.specs.Prelude.{◌-◌, ℕ, cond, ◌||◌, ◌==◌, not, Option, Some, None}
use Rattle.mcs_types.specs.declared.id.ObjId.{ObjId}
use Rattle.mcs_types.specs.declared.id.Kind.TheVariants.{CNode}
use Rattle.mcs_types.specs.Ids.{same_kind}

-- where the page of an object is, counted from 0, if it can be a CNode
abbrev pub number_of : ObjId → Option ℕ
number_of c = cond (not (same_kind c.kind CNode) || (c.serial == 0)) None (Some (c.serial - 1))
