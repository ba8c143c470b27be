use Rattle.std.specs.Prelude.{ℕ, ◌≡◌, ◌<◌, ◌+◌, ◌↔◌, ◌⊎◌, Bool, true, false, List, Some, slice_get}
use Rattle.std.proofs.Common.{ap, refl, sym, ◌∙◌, inl, inr, arith}
use Rattle.std.proofs.lemmas.Option.{slice_get_read}
use Rattle.mcs_explore_report.specs.declared.answers.Witness.{Witness}
use Rattle.mcs_explore_report.specs.Verdicts.{IsNotIn, is_said}
use Rattle.mcs_explore_search.proofs.Places.{some-same}
use Rattle.mcs_explore_report.proofs.Lists.{same-or-not}
use Rattle.mcs_explore_report.proofs.verdicts.find_answer.Goals as goal

-- one answer more that is not so
not-more : (witnesses : List Witness) (pattern : List ℕ) (wanted : Bool) (n : ℕ) (one : Witness) (b : Bool) → slice_get witnesses n ≡ Some one → (b ≡ true) ↔ (is_said pattern one.answer ≡ wanted) → b ≡ false → IsNotIn witnesses pattern wanted n → IsNotIn witnesses pattern wanted (n + 1)
not-more witnesses pattern wanted n one b here is other before = λ i t lt at so. go i t lt at so (same-or-not i n)
  where
    go : (i : ℕ) (t : Witness) → i < n + 1 → slice_get witnesses i ≡ Some t → is_said pattern t.answer ≡ wanted → (i ≡ n) ⊎ (i ≡ n → ⊥) → ⊥
    go i t lt at so (inl e) =
        let same : one ≡ t = some-same one t (sym here ∙ ap (λ k. slice_get witnesses k) (sym e) ∙ at) in
        let yes_it = is.1 (ap (λ (x : Witness). is_said pattern x.answer) same ∙ so) in
        differ (sym yes_it ∙ other)
      where
        differ : true ≡ false → ⊥
        differ d = absurd cc
    go i t lt at so (inr ne) = before i t (omega (arith, lt, ne)) at so

pub loop-index-preserved : goal.loop-index-preserved
loop-index-preserved c =
    let at = slice_get_read c.args.witnesses.now _ c.loop-index.index c.index-witnesses-index.result refl c.loop-index-test.true c.index-witnesses-index.is in
    not-more c.args.witnesses.now c.args.pattern.now c.args.wanted c.loop-index.index c.index-witnesses-index.result c.in_ok-is_wanted.field-0 at c.in_ok-is_wanted.ensures c.if-branch.false c.loop-index.invariant
