-- The turns of a line's parts, and of its slots.
use Rattle.std.proofs.Common.{◌≡◌, ◌+◌, ◌<◌, ◌≤◌, ℕ, zero, suc, List, [], ◌∷◌, length, Option, Ok, Err, refl, sym, ap, ◌∙◌, arith}
use Rattle.mcs_plan_source.specs.Refusals.{Refusal, Read, ◌>>=◌}
use Rattle.mcs_plan_source.specs.Saying.{Said}
use Rattle.mcs_plan_source.specs.Lines.{slot_kept, slots_more}
use Rattle.mcs_plan_source.specs.ThreadLines.{Form, next_part, parts_then}

-- the turns that are left give what all of them give
pub record PartsLeft (counter end : ℕ) (cores : Option ℕ) (words : List (List ℕ)) (form : Form) (all : Read Form) : Type 0 where
  pub left : ℕ
  pub sum : left + counter ≡ end
  pub same : parts_then left cores words form ≡ all

pub parts_first : (end : ℕ) (cores : Option ℕ) (words : List (List ℕ)) (form : Form) → end ≡ length words
    → PartsLeft 0 end cores words form (parts_then (length words) cores words form)
parts_first end cores words form e = record { left = end; sum = omega arith; same = ap (λ n. parts_then n cores words form) e }

pub parts_turn : (counter end : ℕ) (cores : Option ℕ) (old new : List (List ℕ)) (f g : Form) (all : Read Form) → counter < end
    → next_part cores old f ≡ Ok (g, new) → PartsLeft counter end cores old f all → PartsLeft (counter + 1) end cores new g all
parts_turn counter end cores old new f g all more next h = go h.left h.sum h.same
  where
    go : (left : ℕ) → left + counter ≡ end → parts_then left cores old f ≡ all → PartsLeft (counter + 1) end cores new g all
    go zero sum same = absurd (omega (arith, sum, more))
    go (suc left) sum same =
        record { left = left; sum = omega (arith, sum); same = sym (ap (λ o. o >>= (λ (r : Form × List (List ℕ)). parts_then left cores r.1 r.0)) next) ∙ same }

-- a part that is refused
pub parts_refused : (counter end : ℕ) (cores : Option ℕ) (words : List (List ℕ)) (form : Form) (all : Read Form) (e : Refusal) → counter < end
    → next_part cores words form ≡ Err e → PartsLeft counter end cores words form all → all ≡ Err e
parts_refused counter end cores words form all e more next h = go h.left h.sum h.same
  where
    go : (left : ℕ) → left + counter ≡ end → parts_then left cores words form ≡ all → all ≡ Err e
    go zero sum same = absurd (omega (arith, sum, more))
    go (suc left) sum same = sym same ∙ ap (λ o. o >>= (λ (r : Form × List (List ℕ)). parts_then left cores r.1 r.0)) next

pub parts_last : (counter end : ℕ) (cores : Option ℕ) (words : List (List ℕ)) (form : Form) (all : Read Form) → end ≤ counter
    → PartsLeft counter end cores words form all → all ≡ Ok form
parts_last counter end cores words form all over h =
    let none : h.left ≡ 0 = omega (arith, h.sum, over) in
    sym h.same ∙ ap (λ n. parts_then n cores words form) none

-- a turn of a line's slots
next_slot : (turns place : ℕ) (word : List ℕ) (words : List (List ℕ)) (s : Said)
    → slots_more (suc turns) place (word ∷ words) s ≡ (slot_kept place word words s >>= (λ (next : Said × List (List ℕ)). slots_more turns place next.1 next.0))
next_slot turns place word words s = refl

no_more_slots : (turns place : ℕ) (s : Said) → slots_more turns place [] s ≡ Ok s
no_more_slots zero place s = refl
no_more_slots (suc turns) place s = refl

-- the turns that are left give what all of them give
pub record SlotsLeft (counter end place : ℕ) (words : List (List ℕ)) (s : Said) (all : Read Said) : Type 0 where
  pub left : ℕ
  pub sum : left + counter ≡ end
  pub same : slots_more left place words s ≡ all

pub slots_first : (end place : ℕ) (words : List (List ℕ)) (s : Said) → end ≡ length words → SlotsLeft 0 end place words s (slots_more (length words) place words s)
slots_first end place words s e = record { left = end; sum = omega arith; same = ap (λ n. slots_more n place words s) e }

pub slots_turn : (counter end place : ℕ) (word : List ℕ) (old rest new : List (List ℕ)) (s t : Said) (all : Read Said) → counter < end
    → old ≡ word ∷ rest → slot_kept place word rest s ≡ Ok (t, new) → SlotsLeft counter end place old s all → SlotsLeft (counter + 1) end place new t all
slots_turn counter end place word old rest new s t all more taken added h = go h.left h.sum h.same
  where
    go : (left : ℕ) → left + counter ≡ end → slots_more left place old s ≡ all → SlotsLeft (counter + 1) end place new t all
    go zero sum same = absurd (omega (arith, sum, more))
    go (suc left) sum same =
        record {
          left = left;
          sum = omega (arith, sum);
          same = sym (ap (λ o. o >>= (λ (next : Said × List (List ℕ)). slots_more left place next.1 next.0)) added)
              ∙ sym (next_slot left place word rest s) ∙ ap (λ ws. slots_more (suc left) place ws s) (sym taken) ∙ same;
        }

-- a slot that is refused
pub slots_refused : (counter end place : ℕ) (word : List ℕ) (old rest : List (List ℕ)) (s : Said) (all : Read Said) (e : Refusal) → counter < end
    → old ≡ word ∷ rest → slot_kept place word rest s ≡ Err e → SlotsLeft counter end place old s all → all ≡ Err e
slots_refused counter end place word old rest s all e more taken refused h = go h.left h.sum h.same
  where
    go : (left : ℕ) → left + counter ≡ end → slots_more left place old s ≡ all → all ≡ Err e
    go zero sum same = absurd (omega (arith, sum, more))
    go (suc left) sum same =
        sym same ∙ ap (λ ws. slots_more (suc left) place ws s) taken ∙ next_slot left place word rest s
        ∙ ap (λ o. o >>= (λ (next : Said × List (List ℕ)). slots_more left place next.1 next.0)) refused

pub slots_end : (counter end place : ℕ) (old new : List (List ℕ)) (s : Said) (all : Read Said) → counter < end → old ≡ [] → new ≡ []
    → SlotsLeft counter end place old s all → SlotsLeft (counter + 1) end place new s all
slots_end counter end place old new s all more none left_none h = go h.left h.sum h.same
  where
    go : (left : ℕ) → left + counter ≡ end → slots_more left place old s ≡ all → SlotsLeft (counter + 1) end place new s all
    go zero sum same = absurd (omega (arith, sum, more))
    go (suc left) sum same =
        record {
          left = left;
          sum = omega (arith, sum);
          same = ap (λ ws. slots_more left place ws s) left_none ∙ no_more_slots left place s ∙ sym (no_more_slots (suc left) place s)
              ∙ ap (λ ws. slots_more (suc left) place ws s) (sym none) ∙ same;
        }

pub slots_last : (counter end place : ℕ) (words : List (List ℕ)) (s : Said) (all : Read Said) → end ≤ counter → SlotsLeft counter end place words s all → all ≡ Ok s
slots_last counter end place words s all over h =
    let none : h.left ≡ 0 = omega (arith, h.sum, over) in
    sym h.same ∙ ap (λ n. slots_more n place words s) none
