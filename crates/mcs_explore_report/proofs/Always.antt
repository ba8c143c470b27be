-- What a look for an answer that is not of a pattern and one for an end without one come to
-- together.
use Rattle.std.specs.Prelude.{ℕ, ◌≡◌, ◌<◌, ◌+◌, ◌⊎◌, false, List, Option, Some, None, length, slice_get}
use Rattle.std.proofs.Common.{ap, sym, ◌∙◌, inl, inr, arith}
use Rattle.mcs_explore_questions.specs.declared.questions.Event.{Event}
use Rattle.mcs_explore_report.specs.declared.answers.Witness.{Witness}
use Rattle.mcs_explore_report.specs.declared.judgement.Sighting.{Sighting}
use Rattle.mcs_explore_report.specs.Ends.{Kind}
use Rattle.mcs_explore_report.specs.Verdicts.{HasEach, IsAlways, IsEndSearched, IsFoundIn, IsNotIn, lacks}
use Rattle.mcs_explore_search.proofs.Places.{some-same}
use Rattle.mcs_explore_report.proofs.Lists.{same-or-not}

pub answer_always : (witnesses : List Witness) (pattern : List ℕ) (kinds : List Kind) (e : Event) (seen : Sighting) → IsFoundIn witnesses pattern false seen → IsAlways witnesses pattern kinds e (Some seen)
answer_always witnesses pattern kinds e seen found = inl found

pub ends_always : (witnesses : List Witness) (pattern : List ℕ) (kinds : List Kind) (e : Event) (o : Option Sighting) → IsNotIn witnesses pattern false (length witnesses) → IsEndSearched kinds e o → IsAlways witnesses pattern kinds e o
ends_always witnesses pattern kinds e None none each = (none, each)
ends_always witnesses pattern kinds e (Some seen) none without = inr without

-- one kind of ends more that comes with an answer
pub each_more : (kinds : List Kind) (e : Event) (n : ℕ) (k : Kind) → slice_get kinds n ≡ Some k → lacks e k.standing ≡ false → HasEach kinds e n → HasEach kinds e (n + 1)
each_more kinds e n k at has before = λ i l lt there. go i l lt there (same-or-not i n)
  where
    go : (i : ℕ) (l : Kind) → i < n + 1 → slice_get kinds i ≡ Some l → (i ≡ n) ⊎ (i ≡ n → ⊥) → lacks e l.standing ≡ false
    go i l lt there (inl same) = ap (λ (x : Kind). lacks e x.standing) (some-same l k (sym there ∙ ap (λ m. slice_get kinds m) same ∙ at)) ∙ has
    go i l lt there (inr other) = before i l (omega (arith, lt, other)) there
