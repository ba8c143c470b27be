-- Spans, and those after them, each after `and`.
use Rattle.std.proofs.Common.{◌≡◌, ◌+◌, ◌<◌, ◌≤◌, ℕ, zero, suc, Bool, true, false, List, [], ◌∷◌, ◌++◌, length, Option, Some, None, refl, sym, ap, ◌∙◌, arith}
use Rattle.mcs_explore_questions.specs.declared.questions.Span.{Span}
use Rattle.mcs_explore_questions.specs.Reading.{◌>>=◌, has_words}
use Rattle.mcs_explore_questions.specs.Questions.{AddsSpan, and_span, spans_from}
use Rattle.mcs_explore_questions.specs.There.{Scene}

-- this many turns are left, and give what all of them give
pub record SpansLeft (s : Scene) (spans : List Span) (words : List (List ℕ)) (all : Option (List Span)) : Type 0 where
  pub turns : ℕ
  pub enough : length words ≤ turns
  pub same : spans_from turns s spans words ≡ all

pub spans_first : (s : Scene) (spans : List Span) (words : List (List ℕ)) → SpansLeft s spans words (spans_from (length words) s spans words)
spans_first s spans words = record { turns = length words; enough = omega arith; same = refl }

pub spans_turn : (s : Scene) (old new : List Span) (words left : List (List ℕ)) (all : Option (List Span)) → AddsSpan s words left old new → length left < length words
    → SpansLeft s old words all → SpansLeft s new left all
spans_turn s old new words left all adds shorter h = go words h.turns h.enough h.same adds.reads shorter
  where
    go : (ws : List (List ℕ)) (turns : ℕ) → length ws ≤ turns → spans_from turns s old ws ≡ all → and_span s ws ≡ Some (adds.span, left) → length left < length ws → SpansLeft s new left all
    go [] turns enough same reads less = absurd (omega (arith, less))
    go (w ∷ ws) zero enough same reads less = absurd (omega (arith, enough))
    go (w ∷ ws) (suc turns) enough same reads less =
        record {
          turns = turns;
          enough = omega (arith, enough, less);
          same = ap (λ (ss : List Span). spans_from turns s ss left) adds.adds
              ∙ sym (ap (λ (o : Option (Span × List (List ℕ))). o >>= (λ (r : Span × List (List ℕ)). spans_from turns s (old ++ r.0 ∷ []) r.1)) reads) ∙ same;
        }

-- a span that is refused
pub spans_refused : (s : Scene) (spans : List Span) (words : List (List ℕ)) (all : Option (List Span)) → has_words words ≡ true → and_span s words ≡ None
    → SpansLeft s spans words all → all ≡ None
spans_refused s spans words all more none h = go words h.turns h.enough h.same more none
  where
    go : (ws : List (List ℕ)) (turns : ℕ) → length ws ≤ turns → spans_from turns s spans ws ≡ all → has_words ws ≡ true → and_span s ws ≡ None → all ≡ None
    go [] turns enough same some out = absurd cc
    go (w ∷ ws) zero enough same some out = absurd (omega (arith, enough))
    go (w ∷ ws) (suc turns) enough same some out =
        sym same ∙ ap (λ (o : Option (Span × List (List ℕ))). o >>= (λ (r : Span × List (List ℕ)). spans_from turns s (spans ++ r.0 ∷ []) r.1)) out

-- no word is left
pub spans_end : (s : Scene) (spans : List Span) (words : List (List ℕ)) (all : Option (List Span)) → has_words words ≡ false → SpansLeft s spans words all → all ≡ Some spans
spans_end s spans words all none h = go words h.turns h.same none
  where
    go : (ws : List (List ℕ)) (turns : ℕ) → spans_from turns s spans ws ≡ all → has_words ws ≡ false → all ≡ Some spans
    go [] turns same out = sym same
    go (w ∷ ws) turns same out = absurd cc
