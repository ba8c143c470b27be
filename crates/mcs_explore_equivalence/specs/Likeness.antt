-- Likenesses of logs that steps respect.
use Rattle.std.specs.Prelude.{Bool, true, false}
use Rattle.mcs_book.specs.History.{Line, Book, IsLegal, log_of}
use Rattle.mcs_book.specs.Logs.{Log}
use Rattle.mcs_explore_equivalence.specs.Alike.{Alike}
use Rattle.mcs_explore_equivalence.specs.ButNumbers.{AlikeButNumbers}
use Rattle.mcs_explore_equivalence.specs.Books.{with_one, line_in}

-- logs that are alike by it are alike up to message numbers; it is transitive; and a step that may
-- follow one of two legal books leaves logs that are alike by it again
pub record IsLogLikeness (Like : Log → Log → Type 0) : Type 0 where
  pub numbers : (R S : Log) → Like R S → AlikeButNumbers R S
  pub trans : (R S W : Log) → Like R S → Like S W → Like R W
  pub steps : (b c : Book) (l : Line) → IsLegal (with_one l b) → IsLegal c → Like (log_of b) (log_of c) → Like (log_of (with_one l b)) (log_of (with_one (line_in c l.step) c))

-- logs that are alike, where the numbers of messages are distinguished, or are so but for numbers
abbrev pub AlikeBy : Bool → Log → Log → Type 0
AlikeBy true R S = Alike R S
AlikeBy false R S = AlikeButNumbers R S
