-- The two likenesses of logs.
use Rattle.std.specs.Prelude.{◌≡◌, Bool, true, false}
use Rattle.std.proofs.Common.{sym, ◌∙◌, ap, subst}
use Rattle.mcs_book.specs.History.{Line, Book, IsLegal, log_of, Follows}
use Rattle.mcs_book.specs.Pieces.{Outcome}
use Rattle.mcs_explore_equivalence.specs.Alike.{Alike}
use Rattle.mcs_explore_equivalence.specs.ButNumbers.{AlikeButNumbers}
use Rattle.mcs_explore_equivalence.specs.Books.{with_one, line_in}
use Rattle.mcs_explore_equivalence.specs.Likeness.{IsLogLikeness, AlikeBy}
use Rattle.mcs_explore_equivalence.proofs.Books.{line-alike}
use Rattle.mcs_explore_equivalence.proofs.ExactBooks.{exact-line, line-is}
use Rattle.mcs_explore_equivalence.proofs.Exactly.{but-numbers}
use Rattle.mcs_explore_equivalence.proofs.RunState.{but-on, alike-on}

pub numbers-likeness : IsLogLikeness AlikeButNumbers
numbers-likeness = record { numbers = λ R S a. a; trans = but-on; steps = line-alike }

pub exact-likeness : IsLogLikeness Alike
exact-likeness = record {
  numbers = but-numbers;
  trans = alike-on;
  steps = λ b c l left right a. subst (λ (m : Line). Alike (log_of (with_one l b)) (log_of (with_one m c))) (line-is b c l left right a) (exact-line b c l left right a);
}

pub by-likeness : (numbered : Bool) → IsLogLikeness (AlikeBy numbered)
by-likeness true = exact-likeness
by-likeness false = numbers-likeness
