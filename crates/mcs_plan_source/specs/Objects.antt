-- The objects of a plan by their names: new ones, and those that a line names.
use Rattle.std.specs.Prelude.{ℕ, List, Option, Some, None, is_none, nat_lt, option_and_then, if◌then◌else◌}
use Rattle.std.specs.Option.{ok_or}
use Rattle.mcs_types.specs.declared.id.ObjId.{ObjId}
use Rattle.mcs_types.specs.declared.id.Kind.{Kind}
use Rattle.mcs_types.specs.Ids.{same_kind}
use Rattle.mcs_plan_source.specs.Naming.{NameList, find, count_of, limit_of, is_name}
use Rattle.mcs_plan_source.specs.Refusals.{Read, ◌>>◌, need, limit, no_name, not_wanted, twice}

-- a next object of a kind may have this name: it is a name, no object has it, and there is room
abbrev pub may_name : Kind → List ℕ → NameList → Read (Unit {0})
may_name kind word names = do
  need (is_name word) (not_wanted word)
  need (is_none (find names word)) (twice word)
  need (nat_lt (count_of kind names) (limit_of kind)) (limit (limit_of kind))

-- the object of a kind that a word names, where it names one
abbrev pub find_of_kind : Kind → List ℕ → NameList → Option ObjId
find_of_kind kind word names = option_and_then (λ o. if same_kind o.kind kind then Some o else None) (find names word)

-- the object of a kind that a word is to name
abbrev pub named_as : Kind → List ℕ → NameList → Read ObjId
named_as kind word names = ok_or (find_of_kind kind word names) (no_name word)
