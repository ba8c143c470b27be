-- Likeness carries over from one log to the next.
use Rattle.std.proofs.Common.{sym, ◌∙◌}
use Rattle.mcs_book.specs.Logs.{Log}
use Rattle.mcs_explore_equivalence.specs.Alike.{Alike}
use Rattle.mcs_explore_equivalence.specs.ButNumbers.{AlikeButNumbers}
use Rattle.mcs_explore_equivalence.proofs.Asking.{alive-same, there-same}
use Rattle.mcs_explore_equivalence.proofs.Exactly.{but-numbers, with-numbers}

pub but-on : (R S W : Log) → AlikeButNumbers R S → AlikeButNumbers S W → AlikeButNumbers R W
but-on R S W a b = record {
  left = a.left;
  right = b.right;
  counts = λ k. a.counts k ∙ b.counts k;
  lists = λ k. a.lists k ∙ b.lists k;
  made = λ o. a.made o ∙ b.made o;
  closed = λ o. a.closed o ∙ b.closed o;
  forms = λ o h. a.forms o h ∙ b.forms o (sym (alive-same R S a o) ∙ h);
  radices = λ c. a.radices c ∙ b.radices c;
  prios = λ t h. a.prios t h ∙ b.prios t (there-same R S a _ t h);
  modes = λ t h. a.modes t h ∙ b.modes t (there-same R S a _ t h);
  words = λ n h. a.words n h ∙ b.words n (there-same R S a _ n h);
  queues = λ t. a.queues t ∙ b.queues t;
  replies = λ t q h. a.replies t q h ∙ b.replies t q (sym (a.queues t) ∙ h);
  bounds = λ t. a.bounds t ∙ b.bounds t;
  owed = λ r. a.owed r ∙ b.owed r;
  holders = λ s. a.holders s ∙ b.holders s;
  homes = λ s. a.homes s ∙ b.homes s;
  slots = λ c i. a.slots c i ∙ b.slots c i;
  held = λ o. a.held o ∙ b.held o;
  lines = λ q. a.lines q ∙ b.lines q;
  letters = λ x. a.letters x ∙ b.letters x;
  chains = λ s. a.chains s ∙ b.chains s;
}

pub alike-on : (R S W : Log) → Alike R S → Alike S W → Alike R W
alike-on R S W a b = with-numbers R W (but-on R S W (but-numbers R S a) (but-numbers S W b)) (λ x. a.letters x ∙ b.letters x) (a.sent ∙ b.sent)
