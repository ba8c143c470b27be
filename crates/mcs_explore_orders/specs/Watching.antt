-- A search, and the watch that it reports to (own).
use Rattle.std.specs.Prelude.{ℕ, ◌≡◌}
use Rattle.mcs_explore_orders.specs.Exploring.{Exploring, IsLater}
use Rattle.mcs_explore_orders.specs.Shown.{Counting}

-- what the search goes through, its watch, and how many turns it made and ends it saw
pub record Watching (W : Type 0) : Type 0 where
  pub search : Exploring
  pub watch : W
  pub turns : ℕ
  pub ends : ℕ

-- the watch, and what was counted
abbrev pub counting : {W : Type 0} → Watching W → Counting W
counting w = record { watch = w.watch; turns = w.turns; ends = w.ends }

-- the same search, which has interned more rows, and whose reports follow the same rule
pub record GoesOn {W A : Type 0} (by : W → A) (e f : Watching W) : Type 0 where
  pub search : IsLater e.search f.search
  pub aim : by f.watch ≡ by e.watch
