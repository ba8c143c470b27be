-- What a machine may have.
use Rattle.std.proofs.Common.{◌≡◌, ◌<◌, ◌+◌, ◌-◌, ◌/◌, ℕ, Bool, true, false, cond, List, [], ◌∷◌, Option, Some, None, length, map, min, get_or, nat_le, refl, sym, ap, ◌∙◌, arith}
use Rattle.std.specs.List.{sum_by}
use Rattle.std.proofs.lemmas.List.{length-map}
use Rattle.std.proofs.lemmas.List.Folds.{list_all_at}
use Rattle.std.proofs.lemmas.List.Sums.{sum_by-cons}
use Rattle.std.proofs.lemmas.Grind.{common_steps}
use Rattle.mcs_plan_source.specs.declared.plan.Plan.{Plan}
use Rattle.mcs_plan_source.specs.declared.plan.Space.{Space}
use Rattle.mcs_plan_source.specs.declared.plan.Slot.{Slot}
use Rattle.mcs_plan_source.specs.declared.plan.Thread.{Thread}
use Rattle.mcs_plan_source.specs.Making.{leaves_in, all_leaves}
use Rattle.mcs_plan_source.specs.Saying.{said, said_space}
use Rattle.mcs_plan_source.specs.Slots.{slots_of, leaves_of, leaves_for}
use Rattle.mcs_plan_layout.specs.Fitting.{cnodes_of, is_housed, are_housed}

-- the further CNodes of spaces, as a plan says them
same_leaves_of : (space : Space) → leaves_in (said_space space) ≡ leaves_of space
same_leaves_of space = ap (λ n. leaves_for space.radix (min n 65535 + 1)) (length-map (slots_of space) (λ (s : List ℕ × Slot). (s.0, s.1.cap)))

pub same_leaves : (spaces : List Space) → sum_by leaves_in (map said_space spaces) ≡ sum_by leaves_of spaces
same_leaves [] = refl
same_leaves (space ∷ spaces) =
    sum_by-cons leaves_in (said_space space) (map said_space spaces) ∙ (λ k. same_leaves_of space k + same_leaves spaces k)
    ∙ sym (sum_by-cons leaves_of space spaces)

-- how many CNodes the boot makes
pub cnodes_said : (plan : Plan) → cnodes_of (said plan) ≡ length plan.spaces.items + all_leaves plan
cnodes_said plan = (λ k. length-map plan.spaces.items said_space k + same_leaves plan.spaces.items k)

pub few_said : (plan : Plan) (b : Bool) → nat_le (length plan.spaces.items + all_leaves plan) 64 ≡ b → nat_le (cnodes_of (said plan)) 64 ≡ b
few_said plan b is = ap (λ n. nat_le n 64) (cnodes_said plan) ∙ is

-- a thread that is in a space which there may be
pub housed_at : (threads : List Thread) (i : ℕ) (thread : Thread) → i < length threads → thread ≡ get_or threads i thread → are_housed threads ≡ true → thread.space < 64
housed_at threads i thread within there housed = go (is_housed thread) refl
  where
    go : (b : Bool) → is_housed thread ≡ b → thread.space < 64
    go true is = grind (arith, common_steps, is)
    go false is =
        let none : are_housed threads ≡ false = list_all_at is_housed threads i thread within (ap (λ t. is_housed t) (sym there) ∙ is) in
        absurd (cc)

-- the CNode of a slot is one of the further ones of its space
pub leaf_within : (radix : Option ℕ) (slots index : ℕ) → index < slots → 0 < leaves_for radix slots → index / 256 < leaves_for radix slots
leaf_within (Some radix) slots index below some = absurd (omega (arith, some))
leaf_within None slots index below some = go (nat_le slots 256) some
  where
    go : (b : Bool) → 0 < cond b 0 ((slots - 1) / 256 + 1) → index / 256 < cond b 0 ((slots - 1) / 256 + 1)
    go true few = absurd (omega (arith, few))
    go false many = omega (arith, below)
