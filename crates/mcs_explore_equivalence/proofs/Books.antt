-- A step that may follow one of two legal books whose logs are alike but for numbers may follow the
-- other.
use Rattle.std.specs.Prelude.{◌≡◌, map}
use Rattle.std.proofs.Common.{refl, ap, sym, ◌∙◌, subst}
use Rattle.mcs_types.specs.declared.id.Kind.TheVariants as kind
use Rattle.mcs_book.specs.Logs.{Log, onto}
use Rattle.mcs_book.specs.History.{Line, Book, log_of, line_for, Follows, IsLegal}
use Rattle.mcs_book.specs.Pieces.{Outcome}
use Rattle.mcs_book.specs.Table.{does}
use Rattle.mcs_book.specs.Sound.{Sound, IsThere}
use Rattle.mcs_book.proofs.SoundLogs.SoundBooks.{legal-sound}
use Rattle.mcs_state.proofs.Picking.{entrant-there}
use Rattle.mcs_explore_equivalence.specs.ButNumbers.{bare, AlikeButNumbers, SameButNumbers}
use Rattle.mcs_explore_equivalence.specs.Books.{with_one, line_in, outcome_of}
use Rattle.mcs_explore_equivalence.proofs.Acting.{MatchOut, out-same}
use Rattle.mcs_explore_equivalence.proofs.Entries.{entry-same, entry-alike}
use Rattle.mcs_explore_equivalence.proofs.Picking.{may_enter-same}

module _ (b c : Book) (l : Line) (left : IsLegal (with_one l b)) (right : IsLegal c) (a : AlikeButNumbers (log_of b) (log_of c)) where
  abbrev out : Log → Outcome
  out R = does R l.step.core l.step.thread l.step.entry

  follows : Follows (log_of b) l
  follows = left.lines.0

  there : IsThere (log_of b) kind.Thread l.step.thread
  there = entrant-there (log_of b) l.step.core l.step.thread follows.enters

  -- the step may be made in the other book, with the outcome that it has there
  pub line-legal : IsLegal (with_one (line_in c l.step) c)
  line-legal = record {
    boot = right.boot;
    lines = (record { enters = sym (may_enter-same (log_of b) (log_of c) a l.step.core l.step.thread) ∙ follows.enters; in_range = follows.in_range; answer = refl; records = refl }, right.lines);
  }

  sound-left : Sound (onto (out (log_of b)).records (log_of b))
  sound-left = subst (λ rs. Sound (onto rs (log_of b))) follows.records (legal-sound (with_one l b) left)

  sound-right : Sound (onto (out (log_of c)).records (log_of c))
  sound-right = legal-sound (with_one (line_in c l.step) c) line-legal

  -- the two outcomes match
  pub line-same : MatchOut (log_of b) (log_of c) (out (log_of b)) (out (log_of c))
  line-same = entry-same (log_of b) (log_of c) l.step.core l.step.thread l.step.entry a there sound-left sound-right

  -- and they leave alike logs
  pub line-alike : AlikeButNumbers (log_of (with_one l b)) (log_of (with_one (line_in c l.step) c))
  line-alike = subst (λ rs. AlikeButNumbers (onto rs (log_of b)) (onto (out (log_of c)).records (log_of c))) (sym follows.records)
      (entry-alike (log_of b) (log_of c) l.step.core l.step.thread l.step.entry a there sound-left sound-right)

  -- the line that was made, and that of its step
  pub line-outcomes : SameButNumbers (outcome_of l) (outcome_of (line_in c l.step))
  line-outcomes =
      let same : SameButNumbers (out (log_of b)) (out (log_of c)) = out-same (log_of b) (log_of c) (out (log_of b)) (out (log_of c)) line-same in
      record { answer = follows.answer ∙ same.answer; records = ap (λ rs. map bare rs) follows.records ∙ same.records }
