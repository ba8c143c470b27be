-- What a thread names by a word.
use Rattle.std.specs.Prelude.{◌+◌, ℕ, Bool, List, Option, Some, None, Vec, fold, find, min, max, option_and_then, slice_get, string_bytes, bytes_eq}
use Rattle.mcs_types.specs.declared.id.CoreId.{CoreId}
use Rattle.mcs_types.specs.declared.id.ObjId.{ObjId}
use Rattle.mcs_types.specs.declared.id.Kind.TheVariants as kind
use Rattle.mcs_types.specs.Ids.{place_of}
use Rattle.mcs_plan_layout.specs.declared.tables.Named.{Named}

-- whether a name is this word
abbrev pub is_row : List ℕ → Named → Bool
is_row word n = bytes_eq (string_bytes n.name) word

-- what a thread names by a word: the first row of its table which is this word
abbrev pub named_by : {A : Type 0} → List (Vec Named A) → ObjId → List ℕ → Option Named
named_by {A} tables t word =
    option_and_then (λ (k : ℕ). option_and_then (λ (table : Vec Named A). find (is_row word) table.items) (slice_get tables k)) (place_of kind.Thread t)

-- how many cores there are: as many as the plan says, or one more than the last that a context is
-- on
abbrev pub cores_of : Option ℕ → List CoreId → ℕ
cores_of (Some cores) contexts = cores
cores_of None contexts = min (fold (λ last core. max core.0 last) 0 contexts + 1) 255
