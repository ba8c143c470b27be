use Rattle.std.specs.Prelude.{ℕ, ◌≡◌, ◌<◌, ◌≤◌, Some, length, slice_get}
use Rattle.mcs_explore_script.specs.declared.lives.Live.{Live}
use Rattle.mcs_explore_report.specs.Stuck.{Noted, with_made}
use Rattle.mcs_explore_report.proofs.live.note_turns.Given as goal

abbrev pub invariant-loop-number : goal.invariant-loop-number
invariant-loop-number l = record {
  long : length l.notes.items ≡ length l.initial.notes.items;
  done : (k : ℕ) (q : Live) (n : Noted) → k < l.number → slice_get l.lives k ≡ Some q → slice_get l.initial.notes.items k ≡ Some n → slice_get l.notes.items k ≡ Some (with_made l.users l.made.place l.made.turn l.made.answer.now l.made.from.now l.made.all.now q n);
  rest : (k : ℕ) → l.number ≤ k → slice_get l.notes.items k ≡ slice_get l.initial.notes.items k;
}
