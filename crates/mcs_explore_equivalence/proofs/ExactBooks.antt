-- A line that may follow one of two legal books with alike logs may follow the other.
use Rattle.std.specs.Prelude.{◌≡◌}
use Rattle.std.proofs.Common.{refl, ap, sym, ◌∙◌, subst}
use Rattle.mcs_types.specs.declared.id.Kind.TheVariants as kind
use Rattle.mcs_book.specs.Logs.{Log, onto}
use Rattle.mcs_book.specs.History.{Line, Book, log_of, Follows, IsLegal}
use Rattle.mcs_book.specs.Pieces.{Outcome}
use Rattle.mcs_book.specs.Table.{does}
use Rattle.mcs_book.specs.Sound.{Sound, IsThere}
use Rattle.mcs_book.proofs.SoundLogs.SoundBooks.{legal-sound}
use Rattle.mcs_state.proofs.Picking.{entrant-there}
use Rattle.mcs_explore_equivalence.specs.Alike.{Alike}
use Rattle.mcs_explore_equivalence.specs.Books.{with_one, line_in}
use Rattle.mcs_explore_equivalence.proofs.Books.{line-legal}
use Rattle.mcs_explore_equivalence.proofs.Exactly.{but-numbers, exact-same, exact-alike}

module _ (b c : Book) (l : Line) (left : IsLegal (with_one l b)) (right : IsLegal c) (a : Alike (log_of b) (log_of c)) where
  abbrev out : Log → Outcome
  out R = does R l.step.core l.step.thread l.step.entry

  follows : Follows (log_of b) l
  follows = left.lines.0

  there : IsThere (log_of b) kind.Thread l.step.thread
  there = entrant-there (log_of b) l.step.core l.step.thread follows.enters

  -- the step may be made in the other book, with the outcome that it has there
  own : IsLegal (with_one (line_in c l.step) c)
  own = line-legal b c l left right (but-numbers (log_of b) (log_of c) a)

  sound-left : Sound (onto (out (log_of b)).records (log_of b))
  sound-left = subst (λ rs. Sound (onto rs (log_of b))) follows.records (legal-sound (with_one l b) left)

  sound-right : Sound (onto (out (log_of c)).records (log_of c))
  sound-right = legal-sound (with_one (line_in c l.step) c) own

  -- which is the same
  same : out (log_of b) ≡ out (log_of c)
  same = exact-same (log_of b) (log_of c) l.step.core l.step.thread l.step.entry a there sound-left sound-right

  pub exact-legal : IsLegal (with_one l c)
  exact-legal = record {
    boot = right.boot;
    lines = (record { enters = own.lines.0.enters; in_range = follows.in_range; answer = follows.answer ∙ ap (λ (o : Outcome). o.answer) same; records = follows.records ∙ ap (λ (o : Outcome). o.records) same }, right.lines);
  }

  pub exact-line : Alike (log_of (with_one l b)) (log_of (with_one l c))
  exact-line =
      let e : (out (log_of b)).records ≡ l.records = sym follows.records in
      let f : (out (log_of c)).records ≡ l.records = sym (ap (λ (o : Outcome). o.records) same) ∙ e in
      subst (λ rs. Alike (onto l.records (log_of b)) (onto rs (log_of c))) f (subst (λ rs. Alike (onto rs (log_of b)) (onto (out (log_of c)).records (log_of c))) e
      (exact-alike (log_of b) (log_of c) l.step.core l.step.thread l.step.entry a there sound-left sound-right))

  -- the line of the step is the same in both
  pub line-is : l ≡ line_in c l.step
  line-is = λ i. record { step = l.step; answer = (follows.answer ∙ ap (λ (o : Outcome). o.answer) same) i; records = (follows.records ∙ ap (λ (o : Outcome). o.records) same) i }
