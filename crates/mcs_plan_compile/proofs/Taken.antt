-- What the lines from the first step on are taken for, one after another.
use Rattle.std.proofs.Common.{◌≡◌, ◌+◌, ◌<◌, ◌≤◌, ℕ, List, length, drop, get_or, Ok, ap, ◌∙◌, arith, subst, Bor, drop_of_length-le}
use Rattle.std.proofs.lemmas.List.{length-map}
use Rattle.mcs_plan_source.specs.declared.fault.PlanFault.{PlanFault}
use Rattle.mcs_plan_source.specs.Naming.{texts}
use Rattle.mcs_plan_source.specs.Refusals.{Read}
use Rattle.mcs_plan_layout.specs.Laid.{LaidPlan}
use Rattle.mcs_plan_compile.specs.declared.compiler.Entries.{Entries}
use Rattle.mcs_plan_compile.specs.Reading.{ReadAt, RefusesAt, at_line, and_then}
use Rattle.mcs_plan_compile.specs.StepLines.{line_taken, lines_taken}
use Rattle.mcs_plan_compile.proofs.Said.{rest_is}

module _ (laid now : LaidPlan) (same : now ≡ laid) (ls : List (Bor (List ℕ))) (i : ℕ) (d : Bor (List ℕ)) (within : i < length ls) (e : Entries) (all : ReadAt Entries)
    (so_far : all ≡ lines_taken laid i (drop i (texts ls)) e) where
  one_line : all ≡ and_then (at_line (i + 1) (line_taken laid e (get_or ls i d).now)) (lines_taken laid (i + 1) (drop (i + 1) (texts ls)))
  one_line = so_far ∙ ap (λ ms. lines_taken laid i ms e) (rest_is ls i d within)

  -- the line there is taken, and those after it
  pub next_taken : (f : Entries) → line_taken now e (get_or ls i d).now ≡ Ok f → all ≡ lines_taken laid (i + 1) (drop (i + 1) (texts ls)) f
  next_taken f takes =
      let here : line_taken laid e (get_or ls i d).now ≡ Ok f = subst (λ v. line_taken v e (get_or ls i d).now ≡ Ok f) same takes in
      one_line ∙ ap (λ (r : Read Entries). and_then (at_line (i + 1) r) (lines_taken laid (i + 1) (drop (i + 1) (texts ls)))) here

  -- or it is refused
  pub step_refused : (fault : PlanFault) → RefusesAt (at_line (i + 1) (line_taken now e (get_or ls i d).now)) fault → RefusesAt all fault
  step_refused fault refuses r error =
      let here : RefusesAt (at_line (i + 1) (line_taken laid e (get_or ls i d).now)) fault =
      subst (λ v. RefusesAt (at_line (i + 1) (line_taken v e (get_or ls i d).now)) fault) same refuses in
      one_line ∙ ap (λ (r : ReadAt Entries). and_then r (lines_taken laid (i + 1) (drop (i + 1) (texts ls)))) (here r error)

pub all_taken : (laid : LaidPlan) (ls : List (Bor (List ℕ))) (i : ℕ) (e : Entries) (all : ReadAt Entries) → length ls ≤ i → all ≡ lines_taken laid i (drop i (texts ls)) e → all ≡ Ok e
all_taken laid ls i e all past so_far =
    let over : length (texts ls) ≤ i = omega (arith, past, length-map ls (λ (m : Bor (List ℕ)). m.now)) in
    so_far ∙ ap (λ ms. lines_taken laid i ms e) (drop_of_length-le (texts ls) over)
