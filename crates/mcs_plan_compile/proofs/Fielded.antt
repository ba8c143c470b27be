-- The numbers and the fields of an entry, one after another.
use Rattle.std.proofs.Common.{◌≡◌, ◌+◌, ◌<◌, ◌≤◌, ℕ, suc, List, [], ◌∷◌, length, drop, get_or, Option, Some, None, option_map, Ok, Err, refl, ap, ◌∙◌, arith, drop-cons, drop_of_length-le, decimal}
use Rattle.std.specs.Option.{ok_or}
use Rattle.mcs_types.specs.declared.id.ObjId.{ObjId}
use Rattle.mcs_plan_source.specs.Naming.{with_word}
use Rattle.mcs_plan_source.specs.Numbers.{number_within}
use Rattle.mcs_plan_source.specs.Refusals.{Refusal, Read, ◌>>=◌, not_wanted}
use Rattle.mcs_plan_layout.specs.Laid.{LaidPlan}
use Rattle.mcs_plan_compile.specs.declared.fields.Field.{Field}
use Rattle.mcs_plan_compile.specs.Entries.{Line, number_more, numbers_more, field_more, fields_more}

abbrev most : ℕ
most = 18446744073709551615

abbrev one_number : List ℕ → List (List ℕ) → List ℕ → Option ℕ → Read Line
one_number word words line o =
    ok_or (option_map (λ n. (n, words)) o) (not_wanted word) >>= (λ (r : ℕ × List (List ℕ)). Ok (with_word line (decimal r.0), r.1))

-- a number, and those after it
numbers_next : (words : List (List ℕ)) (line : List ℕ) → 0 < length words → numbers_more words line ≡ (number_more most words line >>= (λ (more : Line). numbers_more more.1 more.0))
numbers_next [] line some = absurd (omega (arith, some))
numbers_next (word ∷ words) line some = go (number_within most word)
  where
    go : (o : Option ℕ) → (one_number word words line o >>= (λ (more : Line). numbers_more words more.0))
        ≡ (one_number word words line o >>= (λ (more : Line). numbers_more more.1 more.0))
    go None = refl
    go (Some n) = refl

pub numbers_turn : (words left : List (List ℕ)) (line new : List ℕ) → 0 < length words → number_more most words line ≡ Ok (new, left) → numbers_more words line ≡ numbers_more left new
numbers_turn words left line new some is = numbers_next words line some ∙ ap (λ (r : Read Line). r >>= (λ (more : Line). numbers_more more.1 more.0)) is

pub numbers_refused : (words : List (List ℕ)) (line : List ℕ) (e : Refusal) → 0 < length words → number_more most words line ≡ Err e → numbers_more words line ≡ Err e
numbers_refused words line e some is = numbers_next words line some ∙ ap (λ (r : Read Line). r >>= (λ (more : Line). numbers_more more.1 more.0)) is

abbrev left_in : Read Line → List (List ℕ)
left_in (Ok l) = l.1
left_in (Err e) = []

pub number_left : (words left : List (List ℕ)) (line new : List ℕ) → number_more most words line ≡ Ok (new, left) → length words ≡ 1 + length left
number_left [] left line new is = absurd (cc)
number_left (word ∷ words) left line new is = go (number_within most word) is
  where
    go : (o : Option ℕ) → one_number word words line o ≡ Ok (new, left) → length (word ∷ words) ≡ 1 + length left
    go None e = absurd (cc)
    go (Some n) e =
        let same : words ≡ left = ap left_in e in
        omega (arith, ap length same)

pub no_numbers : (words : List (List ℕ)) (line : List ℕ) → length words ≡ 0 → (words ≡ []) × (numbers_more words line ≡ Ok line)
no_numbers [] line none = (refl, refl)
no_numbers (word ∷ words) line none = absurd (omega (arith, none))

-- a field, and those after it
module _ (laid : LaidPlan) (t : ObjId) (fs : List Field) (i : ℕ) (d : Field) (within : i < length fs) where
  field_next : (words : List (List ℕ)) (line : List ℕ) → fields_more laid t (drop i fs) words line
      ≡ (field_more laid t (get_or fs i d) words line >>= (λ (more : Line). fields_more laid t (drop (i + 1) fs) more.1 more.0))
  field_next words line =
      let next : suc i ≡ i + 1 = omega arith in
      ap (λ gs. fields_more laid t gs words line) (drop-cons fs i d within ∙ ap (λ k. get_or fs i d ∷ drop k fs) next)

  pub field_turn : (words left : List (List ℕ)) (line new : List ℕ) (all : Read Line) → field_more laid t (get_or fs i d) words line ≡ Ok (new, left)
      → all ≡ fields_more laid t (drop i fs) words line → all ≡ fields_more laid t (drop (i + 1) fs) left new
  field_turn words left line new all is so_far =
      so_far ∙ field_next words line ∙ ap (λ (r : Read Line). r >>= (λ (more : Line). fields_more laid t (drop (i + 1) fs) more.1 more.0)) is

  pub field_refused : (words : List (List ℕ)) (line : List ℕ) (all : Read Line) (e : Refusal) → field_more laid t (get_or fs i d) words line ≡ Err e
      → all ≡ fields_more laid t (drop i fs) words line → all ≡ Err e
  field_refused words line all e is so_far =
      so_far ∙ field_next words line ∙ ap (λ (r : Read Line). r >>= (λ (more : Line). fields_more laid t (drop (i + 1) fs) more.1 more.0)) is

pub no_fields : (laid : LaidPlan) (t : ObjId) (fs : List Field) (i : ℕ) (words : List (List ℕ)) (line : List ℕ) (all : Read Line) → length fs ≤ i
    → all ≡ fields_more laid t (drop i fs) words line → all ≡ Ok (line, words)
no_fields laid t fs i words line all past so_far = so_far ∙ ap (λ gs. fields_more laid t gs words line) (drop_of_length-le fs past)
