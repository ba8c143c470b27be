-- What makes threads passive, one after another.
use Rattle.std.proofs.Common.{◌≡◌, ◌+◌, ◌<◌, ◌≤◌, ◌⊎◌, ◌∷◌, ℕ, suc, List, length, drop, get_or, slice_get, [], Some, None, option_map, Result, Ok, Err, IfErr, refl, inl, inr, sym, ap, ◌∙◌, arith, subst, string_bytes, drop-cons, drop_of_length-le}
use Rattle.std.proofs.lemmas.List.{length-map}
use Rattle.std.proofs.lemmas.Option.{slice_get-get_or, slice_get-map, slice_get_cases}
use Rattle.mcs_plan_source.specs.declared.fault.PlanFault.{PlanFault}
use Rattle.mcs_plan_source.specs.declared.fault.PlanError.{PlanError}
use Rattle.mcs_plan_source.specs.Refusals.{Read, Refuses}
use Rattle.mcs_plan_source.specs.declared.plan.Passive.{Passive}
use Rattle.mcs_plan_source.specs.declared.plan.Plan.{Plan}
use Rattle.mcs_plan_source.specs.Saying.{SaidPassive, said, said_passive}
use Rattle.mcs_plan_layout.specs.Laid.{LaidPlan}
use Rattle.mcs_plan_compile.specs.declared.compiler.Entries.{Entries}
use Rattle.mcs_plan_compile.specs.declared.compiler.PassiveSetup.{PassiveSetup}
use Rattle.mcs_plan_compile.specs.declared.steps.Head.{Head}
use Rattle.mcs_plan_compile.specs.Opening.{step_added, starter_head, leave_text, both_added, opened_at, opened_by, openings_said, left_said, opened_said, steps_said, after_said, IsOpeningOf, IsOpeningAt}
use Rattle.mcs_plan_compile.specs.Reading.{ReadAt, RefusesAt, at_line, and_then}

-- what was made of the thread at a place
pub opening_there : (plan : Plan) (i : ℕ) (p : Passive) (o : PassiveSetup) → i < length plan.passives.items → p ≡ get_or plan.passives.items i p
    → IsOpeningOf (said plan) (said_passive p) o → IsOpeningAt (said plan) i o
opening_there plan i p o within is opens =
    record {
      passive = said_passive p;
      there = slice_get-map said_passive plan.passives.items i
          ∙ ap (λ q. option_map said_passive q) (slice_get-get_or plan.passives.items i p within ∙ ap Some (sym is));
      opens = opens;
    }

-- as many threads are passive as the plan says
pub passives_said : (plan : Plan) → length (said plan).passives ≡ length plan.passives.items
passives_said plan = length-map plan.passives.items said_passive

-- what it does is what the thread at the place does
pub same_opening : (laid : LaidPlan) (i : ℕ) (o : PassiveSetup) → IsOpeningAt laid.plan i o
    → opened_at laid i ≡ at_line o.line (both_added laid o.head (string_bytes o.receive) (string_bytes o.unbind))
same_opening laid i o is =
    ap (λ p. opened_by laid p) is.there
    ∙ (λ k. at_line (sym is.opens.line k) (both_added laid (sym is.opens.head k) (sym is.opens.receive k) (sym is.opens.unbind k)))

module _ (laid : LaidPlan) (i : ℕ) (within : i < length laid.plan.passives) where
  abbrev after : ReadAt (Unit {0}) → ReadAt (Unit {0})
  after r = and_then r (λ done. openings_said laid (drop (i + 1) laid.plan.passives))

  from_there : (p : SaidPassive) → slice_get laid.plan.passives i ≡ Some p → get_or laid.plan.passives i p ≡ p
      → openings_said laid (drop i laid.plan.passives) ≡ after (opened_at laid i)
  from_there p there is =
      let next : suc i ≡ i + 1 = omega arith in
      ap (λ ps. openings_said laid ps)
      (drop-cons laid.plan.passives i p within ∙ ap (λ q. q ∷ drop (suc i) laid.plan.passives) is ∙ ap (λ k. p ∷ drop k laid.plan.passives) next)
      ∙ ap (λ o. after (opened_by laid o)) (sym there)

  opening_next : openings_said laid (drop i laid.plan.passives) ≡ after (opened_at laid i)
  opening_next = go (slice_get_cases laid.plan.passives i).1
    where
      go : ((x : SaidPassive) × (i < length laid.plan.passives) × (slice_get laid.plan.passives i ≡ Some x) × (get_or laid.plan.passives i x ≡ x))
          ⊎ ((length laid.plan.passives ≤ i) × (slice_get laid.plan.passives i ≡ None))
          → openings_said laid (drop i laid.plan.passives) ≡ after (opened_at laid i)
      go (inl h) = from_there h.0 h.2 h.3
      go (inr h) = absurd (omega (arith, h.0, within))

  -- a thread is made passive, and those after it
  pub next_opened : (now : LaidPlan) (all : ReadAt (Unit {0})) → now ≡ laid → all ≡ openings_said laid (drop i laid.plan.passives) → opened_at now i ≡ Ok tt
      → all ≡ openings_said laid (drop (i + 1) laid.plan.passives)
  next_opened now all same so_far is =
      so_far ∙ opening_next ∙ ap after (subst (λ l. opened_at l i ≡ Ok tt) same is)

  -- or that is refused
  pub opening_refused : (now : LaidPlan) (all : ReadAt (Unit {0})) (fault : PlanFault) → now ≡ laid → all ≡ openings_said laid (drop i laid.plan.passives)
      → RefusesAt (opened_at now i) fault → RefusesAt all fault
  opening_refused now all fault same so_far refuses e error =
      so_far ∙ opening_next ∙ ap after (subst (λ l. RefusesAt (opened_at l i) fault) same refuses e error)

pub all_opened : (laid : LaidPlan) (i : ℕ) (all : ReadAt (Unit {0})) → length laid.plan.passives ≤ i → all ≡ openings_said laid (drop i laid.plan.passives) → all ≡ Ok tt
all_opened laid i all past so_far = so_far ∙ ap (λ ps. openings_said laid ps) (drop_of_length-le laid.plan.passives past)

-- all of them, and then the one that made them so
abbrev leaving : LaidPlan → ReadAt (Unit {0}) → ReadAt (Unit {0})
leaving laid r = and_then r (λ done. left_said laid laid.plan.passives)

pub opened_first : (laid : LaidPlan) → openings_said laid laid.plan.passives ≡ Ok tt → opened_said laid ≡ left_said laid laid.plan.passives
opened_first laid is = ap (leaving laid) is

pub not_first : (laid : LaidPlan) (fault : PlanFault) → RefusesAt (openings_said laid laid.plan.passives) fault → RefusesAt (opened_said laid) fault
not_first laid fault refuses e error = ap (leaving laid) (refuses e error)

-- the one that made them so suspends itself
some_left : (laid : LaidPlan) (ps : List SaidPassive) → 0 < length ps → left_said laid ps ≡ at_line 0 (step_added laid (starter_head laid.plan) leave_text)
some_left laid [] some = absurd (omega (arith, some))
some_left laid (p ∷ ps) some = refl

-- or that is refused
pub left_refused : {T : Type 0} (laid : LaidPlan) (head : Head) (r : Result T PlanError) (fault : PlanFault) → 0 < length laid.plan.passives
    → head ≡ starter_head laid.plan → IfErr r (Refuses (step_added laid head leave_text)) → fault.line ≡ 0 → r ≡ Err fault.why
    → RefusesAt (left_said laid laid.plan.passives) fault
left_refused {T} laid head r fault some who error line is e tells =
    let here : Refuses (step_added laid head leave_text) fault.why = subst (λ (s : Result T PlanError). IfErr s (Refuses (step_added laid head leave_text))) is error in
    some_left laid laid.plan.passives some
    ∙ ap (λ h. at_line 0 (step_added laid h leave_text)) (sym who)
    ∙ ap (λ (s : Read (Unit {0})). at_line 0 s) (here e tells)
    ∙ ap (λ n. Err (n, e)) (sym line)

-- the steps that make threads passive, and then the lines
abbrev with_lines : LaidPlan → List (List ℕ) → ReadAt (Unit {0}) → ReadAt Entries
with_lines laid found r = and_then r (λ done. steps_said laid found)

pub after_opened : (laid : LaidPlan) (found : List (List ℕ)) → opened_said laid ≡ Ok tt
    → after_said laid found ≡ steps_said laid found
after_opened laid found is = ap (with_lines laid found) is

pub not_opened : (laid : LaidPlan) (found : List (List ℕ)) (fault : PlanFault) → RefusesAt (opened_said laid) fault → RefusesAt (after_said laid found) fault
not_opened laid found fault refuses e error = ap (with_lines laid found) (refuses e error)
