-- What each thread of a plan can name.
use Rattle.std.specs.Prelude.{◌+◌, ◌-◌, ◌*◌, ◌^◌, ◌++◌, ℕ, List, [], ◌∷◌, Option, Some, None, Vec, length, map, codes, slice_get, string_bytes, option_map, if◌then◌else◌}
use Rattle.mcs_types.specs.declared.id.Kind.TheVariants as kind
use Rattle.mcs_types.specs.declared.cap.Cap.{Cap}
use Rattle.mcs_types.specs.declared.cap.Place.{Place}
use Rattle.mcs_types.specs.Ids.{place_of, same_kind}
use Rattle.mcs_plan_source.specs.Saying.{Said, SaidSpace}
use Rattle.mcs_plan_source.specs.Naming.{ByName}
use Rattle.mcs_plan_layout.specs.declared.layout.Layout.{Layout}
use Rattle.mcs_plan_layout.specs.SpaceLayouts.{has_slot}
use Rattle.mcs_plan_layout.specs.declared.tables.Named.{Named}
use Rattle.mcs_plan_layout.specs.Boot.{each, guarded, layout_at}
use Rattle.mcs_plan_layout.specs.Layouts.{layouts_of}

-- a name of a thread: what its slot holds when the boot has ended, its address if it has one, and
-- the place of the slot
pub record Row : Type 0 where
  pub name : List ℕ
  pub cap : Option Cap
  pub address : Option ℕ
  pub place : Place

abbrev pub row_of : Named → Row
row_of n = record { name = string_bytes n.name; cap = n.cap; address = n.address; place = n.place }

abbrev pub rows_of : List Named → List Row
rows_of table = map row_of table

abbrev pub table_rows : {A : Type 0} → List (Vec Named A) → List (List Row)
table_rows {A} tables = map (λ (table : Vec Named A). rows_of table.items) tables

-- the rows of slots with their names, each by its index, from 1 on
abbrev pub row_at : (ℕ → List ℕ → Option Cap → List Row) → ℕ → Option (List ℕ × Option Cap) → List Row
row_at rows i None = []
row_at rows i (Some slot) = rows (i + 1) slot.0 slot.1

abbrev pub rows_by : (ℕ → List ℕ → Option Cap → List Row) → ByName (Option Cap) → List Row
rows_by rows slots = each (length slots) (λ i. row_at rows i (slice_get slots i))

-- what a slot of a space holds when the boot has ended: a capability to a CNode has its guard
abbrev pub held_then : List Layout → ℕ → Option Cap → Option Cap
held_then layouts space cap = option_map (λ c. guarded layouts space c) cap

-- the address of a slot of a space, which the bits of the CNodes follow that it holds capabilities
-- to
abbrev pub address_in : Layout → ℕ → ℕ
address_in l index = index * 2 ^ l.within

-- the address by which an entry names what a slot holds: none where that is a capability to a
-- CNode, since lookup continues through it
abbrev pub naming_address : Option Cap → ℕ → Option ℕ
naming_address None address = Some address
naming_address (Some cap) address = if same_kind cap.obj.kind kind.CNode then None else Some address

-- the row of a slot of a space
abbrev pub own_row : List Layout → ℕ → ℕ → List ℕ → Option Cap → Row
own_row layouts space index name cap =
    record {
      name = name;
      cap = held_then layouts space cap;
      address = naming_address cap (address_in (layout_at layouts space) index);
      place = record { index = index; depth = 64 - (layout_at layouts space).within };
    }

-- a name in a space that is held under another name
abbrev pub path_of : List ℕ → List ℕ → List ℕ
path_of outer inner = (outer ++ codes "/") ++ inner

-- the row of a slot at this address, of a space that is held under another name
abbrev pub inner_row : List Layout → List ℕ → ℕ → ℕ → List ℕ → Option Cap → Row
inner_row layouts outer space address name cap =
    record {
      name = path_of outer name;
      cap = held_then layouts space cap;
      address = naming_address cap address;
      place = record { index = address; depth = 64 };
    }

-- the rows of one of its slots, whose slot 0 has this address, and of all, where there is such a
-- space
abbrev pub inner_slot : List Layout → List ℕ → ℕ → ℕ → ℕ → List ℕ → Option Cap → List Row
inner_slot layouts outer first space index name cap = inner_row layouts outer space (first + index) name cap ∷ []

abbrev pub inner_rows : List Layout → List ℕ → ℕ → ℕ → Option SaidSpace → List Row
inner_rows layouts outer first space None = []
inner_rows layouts outer first space (Some held) = rows_by (inner_slot layouts outer first space) held.slots

-- the rows after a slot: those of the CNode that it holds a capability to
abbrev pub rows_at : List Layout → List SaidSpace → List ℕ → ℕ → Option ℕ → List Row
rows_at layouts spaces outer first None = []
rows_at layouts spaces outer first (Some place) = inner_rows layouts outer first place (slice_get spaces place)

abbrev pub rows_inside : List Layout → List SaidSpace → List ℕ → ℕ → Option Cap → List Row
rows_inside layouts spaces outer first None = []
rows_inside layouts spaces outer first (Some cap) = rows_at layouts spaces outer first (place_of kind.CNode cap.obj)

-- the row of a slot, and those after it, where the space has it
abbrev pub own_rows : List Layout → List SaidSpace → ℕ → ℕ → List ℕ → Option Cap → List Row
own_rows layouts spaces space index name cap =
    if has_slot (layout_at layouts space) index then
    own_row layouts space index name cap ∷ rows_inside layouts spaces name (address_in (layout_at layouts space) index) cap
    else []

-- the table of a space: each slot in order
abbrev pub table_in : List Layout → List SaidSpace → ℕ → Option SaidSpace → List Row
table_in layouts spaces place None = []
table_in layouts spaces place (Some space) = rows_by (own_rows layouts spaces place) space.slots

abbrev pub table_of : List Layout → List SaidSpace → ℕ → List Row
table_of layouts spaces place = table_in layouts spaces place (slice_get spaces place)

-- the table of each thread: that of its space
abbrev pub tables_by : List Layout → Said → List (List Row)
tables_by layouts s = map (λ t. table_of layouts s.spaces t.space) s.threads

abbrev pub tables_of : Said → List (List Row)
tables_of s = tables_by (layouts_of s.spaces) s
