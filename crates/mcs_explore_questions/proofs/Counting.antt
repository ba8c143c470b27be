-- The words of a message that a pattern has, one after another.
use Rattle.std.proofs.Common.{◌≡◌, ◌-◌, ◌==◌, ◌<◌, ◌||◌, ℕ, Bool, true, false, cond, List, [], ◌∷◌, Option, Some, None, refl, sym, ap, ◌∙◌, arith, if◌then◌else◌}
use Rattle.mcs_explore_questions.specs.declared.forms.WordKind.{WordKind}
use Rattle.mcs_explore_questions.specs.declared.forms.WordKind.TheVariants as sort
use Rattle.mcs_explore_questions.specs.Forms.{Fit, put, put_rest, sort_text, take_numbers, take_sort, take_word, taken, is_any}
use Rattle.mcs_explore_questions.specs.Patterns.{is_rest}
use Rattle.mcs_explore_questions.specs.Reading.{◌>>=◌, has_words}
use Rattle.mcs_explore_questions.specs.There.{Scene}

left_of : Option Fit → List (List ℕ)
left_of None = []
left_of (Some f) = f.left

-- a word that was taken is no longer left
taken_left : (s : Scene) (t : WordKind) (f g : Fit) (word : List ℕ) (words : List (List ℕ)) → taken s t f word words ≡ Some g → g.left ≡ words
taken_left s t f g word words e = by (is_rest word) (is_any word) (sort_text s t word) e
  where
    by : (a b : Bool) (o : Option (List ℕ)) → (if a then Some (put_rest f word words) else if b then Some (put f word words word) else (o >>= λ text. Some (put f word words text))) ≡ Some g → g.left ≡ words
    by true b o h = unfold left_of in sym (ap left_of h)
    by false true o h = unfold left_of in sym (ap left_of h)
    by false false (Some text) h = unfold left_of in sym (ap left_of h)
    by false false None h = absurd cc

-- one of them
pub numbers_turn : (s : Scene) (room : ℕ) (f g : Fit) (words : List (List ℕ)) → 0 < room → f.ended ≡ false → f.left ≡ words → has_words words ≡ true
    → take_sort s (sort.Number 0 18446744073709551615) f ≡ Some g → take_numbers s room f words ≡ take_numbers s (room - 1) g g.left
numbers_turn s room f g [] some unended left has took = absurd cc
numbers_turn s room f g (w ∷ ws) some unended left has took =
    let none : (room == 0) ≡ false = grind arith in
    let both : (room == 0 || f.ended) ≡ false = ap (λ (b : Bool). b || f.ended) none ∙ unended in
    let is : taken s (sort.Number 0 18446744073709551615) f w ws ≡ Some g =
    sym (ap (λ (b : Bool). cond b (Some f) (take_word s (sort.Number 0 18446744073709551615) f f.left)) unended ∙ ap (take_word s (sort.Number 0 18446744073709551615) f) left) ∙ took in
    ap (λ (b : Bool). cond b (Some f) (take_sort s (sort.Number 0 18446744073709551615) f >>= λ next. take_numbers s (room - 1) next ws)) both
    ∙ ap (λ (o : Option Fit). o >>= λ next. take_numbers s (room - 1) next ws) took
    ∙ ap (take_numbers s (room - 1) g) (sym (taken_left s (sort.Number 0 18446744073709551615) f g w ws is))

-- one that is refused
pub numbers_refused : (s : Scene) (room : ℕ) (f : Fit) (words : List (List ℕ)) → 0 < room → f.ended ≡ false → has_words words ≡ true
    → take_sort s (sort.Number 0 18446744073709551615) f ≡ None → take_numbers s room f words ≡ None
numbers_refused s room f [] some unended has out = absurd cc
numbers_refused s room f (w ∷ ws) some unended has out =
    let none : (room == 0) ≡ false = grind arith in
    let both : (room == 0 || f.ended) ≡ false = ap (λ (b : Bool). b || f.ended) none ∙ unended in
    ap (λ (b : Bool). cond b (Some f) (take_sort s (sort.Number 0 18446744073709551615) f >>= λ next. take_numbers s (room - 1) next ws)) both
    ∙ ap (λ (o : Option Fit). o >>= λ next. take_numbers s (room - 1) next ws) out

-- no room is left
pub numbers_full : (s : Scene) (room : ℕ) (f : Fit) (words : List (List ℕ)) → room ≡ 0 → take_numbers s room f words ≡ Some f
numbers_full s room f [] full = refl
numbers_full s room f (w ∷ ws) full = ap (λ (n : ℕ). cond (n == 0 || f.ended) (Some f) (take_sort s (sort.Number 0 18446744073709551615) f >>= λ next. take_numbers s (n - 1) next ws)) full

-- a word for the rest was taken
pub numbers_ended : (s : Scene) (room : ℕ) (f : Fit) (words : List (List ℕ)) → f.ended ≡ true → take_numbers s room f words ≡ Some f
numbers_ended s room f [] over = refl
numbers_ended s room f (w ∷ ws) over = by (room == 0) refl
  where
    by : (b : Bool) → (room == 0) ≡ b → take_numbers s room f (w ∷ ws) ≡ Some f
    by true is = ap (λ (c : Bool). cond (c || f.ended) (Some f) (take_sort s (sort.Number 0 18446744073709551615) f >>= λ next. take_numbers s (room - 1) next ws)) is
    by false is =
        ap (λ (c : Bool). cond (c || f.ended) (Some f) (take_sort s (sort.Number 0 18446744073709551615) f >>= λ next. take_numbers s (room - 1) next ws)) is
        ∙ ap (λ (c : Bool). cond c (Some f) (take_sort s (sort.Number 0 18446744073709551615) f >>= λ next. take_numbers s (room - 1) next ws)) over

-- no word is left
pub numbers_none : (s : Scene) (room : ℕ) (f : Fit) (words : List (List ℕ)) → has_words words ≡ false → take_numbers s room f words ≡ Some f
numbers_none s room f [] none = refl
numbers_none s room f (w ∷ ws) none = absurd cc
