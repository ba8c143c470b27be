-- What holds of a kernel between two entries.
use Rattle.std.specs.Prelude.{◌≡◌, ◌<◌, [], length}
use Rattle.mcs_types.specs.Limits.{line_limit}
use Rattle.mcs_book.specs.History.{IsLegal}
use Rattle.mcs_state.specs.Now.{Now}

-- no line is in hand, and the book is legal and not too long
pub record IsResting (n : Now) : Type 0 where
  pub hand : n.hand ≡ []
  pub legal : IsLegal n.book
  pub few : length n.book.lines < line_limit
