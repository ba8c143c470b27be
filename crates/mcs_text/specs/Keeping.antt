-- The numbers of a message that is read.
use Rattle.std.specs.Prelude.{◌<◌, ◌≤◌, ℕ, List, length, Option, Some, None, IsSome}
use Rattle.mcs_text.specs.declared.message.Kept.{Kept}

-- the numbers, where they fit
abbrev pub numbers_of : Option Kept → Option (List ℕ)
numbers_of None = None
numbers_of (Some kept) = Some kept.words.items

-- there are at most 120, and there is room for as many: where they are, or in the room
pub record MayGrow {X : Type 0} (kept : Kept) (desk : Option X) : Type 0 where
  pub few : length kept.words.items ≤ 120
  pub fits : length kept.words.items ≤ kept.words.capacity
  pub room : kept.words.capacity < 120 → IsSome desk
