-- Likeness of logs, from a log to itself and the other way round.
use Rattle.std.specs.Prelude.{◌≡◌, Bool, true, false}
use Rattle.std.proofs.Common.{refl, sym, ◌∙◌}
use Rattle.mcs_types.specs.declared.id.ObjId.{ObjId}
use Rattle.mcs_types.specs.declared.id.Kind.{Kind}
use Rattle.mcs_book.specs.Logs.{Log}
use Rattle.mcs_book.specs.Sound.{Sound, IsThere}
use Rattle.mcs_explore_equivalence.specs.Alike.{Alike}
use Rattle.mcs_explore_equivalence.specs.ButNumbers.{AlikeButNumbers}
use Rattle.mcs_explore_equivalence.specs.Likeness.{AlikeBy}
use Rattle.mcs_explore_equivalence.proofs.Asking.{alive-same}
use Rattle.mcs_explore_equivalence.proofs.Exactly.{but-numbers, with-numbers}

there-back : (R S : Log) → AlikeButNumbers R S → (k : Kind) (o : ObjId) → IsThere S k o → IsThere R k o
there-back R S a k o h = (h.0, alive-same R S a o ∙ h.1)

numbers-back : (R S : Log) → AlikeButNumbers R S → AlikeButNumbers S R
numbers-back R S a = record {
  left = a.right;
  right = a.left;
  counts = λ k. sym (a.counts k);
  lists = λ k. sym (a.lists k);
  made = λ o. sym (a.made o);
  closed = λ o. sym (a.closed o);
  forms = λ o h. sym (a.forms o (alive-same R S a o ∙ h));
  radices = λ c. sym (a.radices c);
  prios = λ t h. sym (a.prios t (there-back R S a _ t h));
  modes = λ t h. sym (a.modes t (there-back R S a _ t h));
  words = λ n h. sym (a.words n (there-back R S a _ n h));
  queues = λ t. sym (a.queues t);
  replies = λ t q h. sym (a.replies t q (a.queues t ∙ h));
  bounds = λ t. sym (a.bounds t);
  owed = λ r. sym (a.owed r);
  holders = λ s. sym (a.holders s);
  homes = λ s. sym (a.homes s);
  slots = λ c i. sym (a.slots c i);
  held = λ o. sym (a.held o);
  lines = λ q. sym (a.lines q);
  letters = λ x. sym (a.letters x);
  chains = λ s. sym (a.chains s);
}

exact-back : (R S : Log) → Alike R S → Alike S R
exact-back R S a = with-numbers S R (numbers-back R S (but-numbers R S a)) (λ x. sym (a.letters x)) (sym a.sent)

pub by-back : (numbered : Bool) (R S : Log) → AlikeBy numbered R S → AlikeBy numbered S R
by-back true R S a = exact-back R S a
by-back false R S a = numbers-back R S a

numbers-self : (R : Log) → Sound R → AlikeButNumbers R R
numbers-self R s = record {
  left = s;
  right = s;
  counts = λ k. refl;
  lists = λ k. refl;
  made = λ o. refl;
  closed = λ o. refl;
  forms = λ o h. refl;
  radices = λ c. refl;
  prios = λ t h. refl;
  modes = λ t h. refl;
  words = λ n h. refl;
  queues = λ t. refl;
  replies = λ t q h. refl;
  bounds = λ t. refl;
  owed = λ r. refl;
  holders = λ s. refl;
  homes = λ s. refl;
  slots = λ c i. refl;
  held = λ o. refl;
  lines = λ q. refl;
  letters = λ x. refl;
  chains = λ s. refl;
}

pub by-self : (numbered : Bool) (R : Log) → Sound R → AlikeBy numbered R R
by-self true R s = with-numbers R R (numbers-self R s) (λ x. refl) refl
by-self false R s = numbers-self R s
