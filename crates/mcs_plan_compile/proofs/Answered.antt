-- The words after a question, one after another, and the last dot of a word.
use Rattle.std.proofs.Common.{◌≡◌, ◌≢◌, ◌<◌, ◌==◌, ℕ, zero, suc, Bool, true, false, List, [], ◌∷◌, length, take, drop, get_or, Option, Some, None, Ok, Err, refl, sym, ap, ◌∙◌, arith, Bor, MatchOption, option_map, if◌then◌else◌, length-drop}
use Rattle.std.specs.Str.Pattern.{RFindsChar, SplitsAroundMatch}
use Rattle.std.proofs.lemmas.Str.Pattern.{NoCharPasses-char, drop_at_char}
use Rattle.mcs_plan_source.specs.Naming.{NameList}
use Rattle.mcs_plan_source.specs.Refusals.{Refusal, Read, ◌>>=◌}
use Rattle.mcs_plan_compile.specs.Wanting.{dot_or, cut_at_dot, answer_more, answers_more}

-- a word, and those after it
pub answer_turn : (names : NameList) (words left : List (List ℕ)) (word line new : List ℕ) → words ≡ word ∷ left → answer_more names word line ≡ Ok new
    → answers_more names words line ≡ answers_more names left new
answer_turn names words left word line new taken is =
    ap (λ ws. answers_more names ws line) taken ∙ ap (λ (r : Read (List ℕ)). r >>= (λ (more : List ℕ). answers_more names left more)) is

pub answer_refused : (names : NameList) (words left : List (List ℕ)) (word line : List ℕ) (e : Refusal) → words ≡ word ∷ left → answer_more names word line ≡ Err e
    → answers_more names words line ≡ Err e
answer_refused names words left word line e taken is =
    ap (λ ws. answers_more names ws line) taken ∙ ap (λ (r : Read (List ℕ)). r >>= (λ (more : List ℕ). answers_more names left more)) is

pub no_answers : (names : NameList) (words : List (List ℕ)) (line : List ℕ) → length words ≡ 0 → answers_more names words line ≡ Ok line
no_answers names [] line none = refl
no_answers names (word ∷ words) line none = absurd (omega (arith, none))

abbrev dot_if : List ℕ → Bool → Option (List ℕ × List ℕ)
dot_if bs t = if t then Some ([], bs) else None

-- no dot is in a word
no_dot : (s : List ℕ) → ((k : ℕ) → k < length s → get_or s k 0 ≢ 46) → cut_at_dot s ≡ None
no_dot [] lacks = refl
no_dot (b ∷ bs) lacks =
    ap (dot_or b bs) (no_dot bs (λ k l. lacks (suc k) (omega arith))) ∙ go (b == 46) refl
  where
    go : (t : Bool) → (b == 46) ≡ t → dot_if bs (b == 46) ≡ None
    go true e =
        let is : b ≡ 46 = grind (arith, e) in
        absurd (lacks 0 (omega arith) is)
    go false e = ap (dot_if bs) e

-- the last is at a place
last_dot : (s : List ℕ) (i : ℕ) (after : List ℕ) → drop i s ≡ 46 ∷ after → ((k : ℕ) → k < length after → get_or after k 0 ≢ 46)
    → cut_at_dot s ≡ Some (take i s, after)
last_dot [] i after there lacks = absurd (omega (arith, ap length there, length-drop {A = ℕ} i []))
last_dot (b ∷ bs) zero after there lacks = ap cut_at_dot there ∙ ap (dot_or 46 after) (no_dot after lacks)
last_dot (b ∷ bs) (suc i) after there lacks = ap (dot_or b bs) (last_dot bs i after there lacks)

-- what the library finds is that
pub cut_is : (s : List ℕ) (r : Option (Bor (List ℕ) × Bor (List ℕ)))
    → MatchOption r (RFindsChar 46 s None) (λ x. SplitsAroundMatch (RFindsChar 46) s x.0.now x.1.now)
    → option_map (λ p. (p.0.now, p.1.now)) r ≡ cut_at_dot s
cut_is s None none = sym (no_dot s (λ k l. NoCharPasses-char 46 s k none (omega arith) l))
cut_is s (Some x) h =
    (λ k. Some (h.3 k, h.4 k))
    ∙ sym (last_dot s h.0 (drop h.1 s) (drop_at_char 46 s h.0 h.1 h.2.1 (omega arith)) (λ k l. NoCharPasses-char 46 (drop h.1 s) k h.2.0 (omega arith) l))
