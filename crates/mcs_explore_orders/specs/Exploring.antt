-- What a search through all orders goes through (own).
use Rattle.std.specs.Prelude.{ℕ, ◌≡◌, true, List, Some, Vec, map, slice_get}
use Rattle.std.specs.declared.alloc.Global.{Global}
use Rattle.std.specs.List.{Contains}
use Rattle.mcs_book.specs.Boots.{Boot, IsFaultless}
use Rattle.mcs_turns.specs.Turns.{User, RunState, AreInRange}
use Rattle.mcs_explore_walk.specs.declared.walk.Turn.{Turn}
use Rattle.mcs_explore_search.specs.Search.{IsAmong, IsNext}
use Rattle.mcs_explore_equivalence.specs.Runs.{AreAlike}
use Rattle.mcs_explore_rows.specs.Naming.{Keeps, Known}
use Rattle.mcs_explore_rows.specs.Rows.{IsKey}
use Rattle.mcs_explore_orders.specs.Trails.{Leads, Points}

-- the users, the boot, the interned rows, and the points that are cached along a path
pub record Exploring : Type 0 where
  pub users : List User
  pub boot : Boot
  pub keys : Known
  pub trail : Points

-- exact keys name all rows of a point
abbrev pub IsKeyIn : Exploring → RunState → List ℕ → Type 0
IsKeyIn e g numbers = e.keys.is_exact ≡ true → IsKey e.keys.numbered e.keys.met e.users g numbers

-- keys are exact, the boot has no fault, and all numbers of entries are in their ranges
pub record HasExactKeys (e : Exploring) : Type 0 where
  pub exact : e.keys.is_exact ≡ true
  pub boot : IsFaultless e.boot
  pub in_range : AreInRange e.users

-- then no later turn distinguishes two points
abbrev pub LooksLike : Exploring → RunState → RunState → Type 0
LooksLike e g h = HasExactKeys e → AreAlike e.keys.numbered e.users e.boot g h

-- the same search, which has interned more rows
pub record IsLater (e f : Exploring) : Type 0 where
  pub users : f.users ≡ e.users
  pub boot : f.boot ≡ e.boot
  pub exact : f.keys.is_exact ≡ e.keys.is_exact
  pub numbered : f.keys.numbered ≡ e.keys.numbered
  pub met : Keeps e.keys.met f.keys.met

-- what is noted of these turns from a point: of each that the rule has, a key of what is after it,
-- and nothing else
pub record AreNextsOf (e : Exploring) (g : RunState) (ts : List Turn) (nexts : List (Turn × List ℕ)) : Type 0 where
  pub each : (i : ℕ) (l : Turn) (k : List ℕ) → slice_get nexts i ≡ Some (l, k) → IsNext (Leads e.users) (IsKeyIn e) g l k
  pub all : (l : Turn) (h : RunState) → Contains ts l → Leads e.users l g h → IsAmong (IsKeyIn e) nexts l h

-- turns with the numbers of keys
abbrev pub numbers_of : List (Turn × Vec ℕ Global) → List (Turn × List ℕ)
numbers_of nexts = map (λ (n : Turn × Vec ℕ Global). (n.0, n.1.items)) nexts
