-- A plan whose spaces are laid out.
use Rattle.std.specs.Prelude.{◌≡◌, ℕ, List, Option, find, option_and_then, slice_get, bytes_eq}
use Rattle.mcs_types.specs.declared.id.ObjId.{ObjId}
use Rattle.mcs_types.specs.declared.id.Kind.TheVariants as kind
use Rattle.mcs_types.specs.Ids.{place_of}
use Rattle.mcs_plan_source.specs.Saying.{Said, said}
use Rattle.mcs_plan_layout.specs.declared.laid.PlanLayout.{PlanLayout}
use Rattle.mcs_plan_layout.specs.Layouts.{layouts_of}
use Rattle.mcs_plan_layout.specs.Tables.{Row, table_rows, tables_of}

-- what a plan says, and what each thread can name
pub record LaidPlan : Type 0 where
  pub plan : Said
  pub tables : List (List Row)

-- a plan that is laid out, as it is kept
abbrev pub laid_said : PlanLayout → LaidPlan
laid_said laid = record { plan = said laid.plan; tables = table_rows laid.tables.items }

-- a plan that is laid out
abbrev pub laid_of : Said → LaidPlan
laid_of s = record { plan = s; tables = tables_of s }

-- the layouts and the tables that are kept are those of the plan
pub record IsLaid (laid : PlanLayout) : Type 0 where
  pub layouts : laid.layouts.items ≡ layouts_of (said laid.plan).spaces
  pub tables : table_rows laid.tables.items ≡ tables_of (said laid.plan)

-- the row that a thread names by a word: the first of its table which is this word
abbrev pub row_named : List (List Row) → ObjId → List ℕ → Option Row
row_named tables t word =
    option_and_then (λ k. option_and_then (λ table. find (λ row. bytes_eq row.name word) table) (slice_get tables k)) (place_of kind.Thread t)
