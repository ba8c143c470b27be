-- The first row of a table that passes a test, and the parts of a word.
use Rattle.std.proofs.Common.{◌≡◌, ◌++◌, ◌+◌, ◌<◌, ◌==◌, nat_lt, ℕ, Bool, true, false, cond, List, [], ◌∷◌, Some, None, length, take, drop, find, get_or, suc, sym, ap, ◌∙◌, take-append-drop, drop-cons, arith}
use Rattle.std.proofs.lemmas.List.{take_more, take_all}
use Rattle.std.proofs.lemmas.List.Folds.{find-append}
use Rattle.std.specs.Option.{option_or}
use Rattle.std.specs.List.{after_first, position_or_len}
use Rattle.mcs_plan_source.specs.Capabilities.{front_of, rest_of}

module _ {X : Type 0} (test : X → Bool) (xs : List X) (i : ℕ) (x : X) where
  -- one more that does not pass
  pub passed_over : i < length xs → x ≡ get_or xs i x → find test (take i xs) ≡ None → test x ≡ false → find test (take (i + 1) xs) ≡ None
  passed_over within there before fails =
      ap (λ ys. find test ys) (take_more xs i x within ∙ ap (λ y. take i xs ++ y ∷ []) (sym there))
      ∙ find-append test (take i xs) (x ∷ [])
      ∙ (λ k. option_or (before k) (cond (fails k) (Some x) None))

  -- the first that passes
  pub first_passes : i < length xs → x ≡ get_or xs i x → find test (take i xs) ≡ None → test x ≡ true → find test xs ≡ Some x
  first_passes within there before passes =
      let rest : drop i xs ≡ x ∷ drop (suc i) xs =
      drop-cons xs i x within ∙ ap (λ y. y ∷ drop (suc i) xs) (sym there) in
      ap (λ ys. find test ys) (sym (take-append-drop i xs) ∙ ap (λ ys. take i xs ++ ys) rest)
      ∙ find-append test (take i xs) (x ∷ drop (suc i) xs)
      ∙ (λ k. option_or (before k) (cond (passes k) (Some x) (find test (drop (suc i) xs))))

-- a word with a mark, and one without
pub no_rest : (mark : ℕ) (text : List ℕ) → position_or_len (λ b. b == mark) text ≡ length text → (front_of mark text ≡ text) × (rest_of mark text ≡ None)
no_rest mark text none =
    let same : nat_lt (position_or_len (λ b. b == mark) text) (length text) ≡ false = grind (arith, none) in
    (ap (λ k. take k text) none ∙ take_all (length text) text (omega arith), ap (λ b. cond b (Some (after_first (λ b. b == mark) text)) None) same)

pub one_rest : (mark : ℕ) (text : List ℕ) → position_or_len (λ b. b == mark) text < length text → rest_of mark text ≡ Some (after_first (λ b. b == mark) text)
one_rest mark text some =
    let less : nat_lt (position_or_len (λ b. b == mark) text) (length text) ≡ true = grind (arith, some) in
    ap (λ b. cond b (Some (after_first (λ b. b == mark) text)) None) less
