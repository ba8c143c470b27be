-- Where the comment of a line begins.
use Rattle.std.proofs.Common.{◌≡◌, ◌≢◌, ◌+◌, ◌<◌, ◌==◌, ◌&&◌, ℕ, Bool, true, false, cond, List, [], ◌∷◌, length, drop, get_or, Some, None, Option, refl, suc, sym, ap, ◌∙◌, subst, arith, ◌⊎◌, inl, inr, Bor, MatchOption, option_map}
use Rattle.std.specs.Str.{IsCharBoundary}
use Rattle.std.proofs.lemmas.Bool.{false≢true}
use Rattle.std.proofs.lemmas.Str.{IsCharBoundary-before_ascii, IsCharBoundary-end}
use Rattle.std.proofs.lemmas.Str.Pattern.{strip_prefix_char}
use Rattle.std.specs.Str.Pattern.{FindsCharPrefix}
use Rattle.mcs_plan_source.specs.Cutting.{is_white, code_len, without_first}

-- the comment's `#`, and what follows it
abbrev Stops : ℕ → List ℕ → Type 0
Stops n line = ((n ≡ length line) × (drop n line ≡ [])) ⊎ ((rest : List ℕ) × (n < length line) × (get_or line n 0 ≡ 35) × (drop n line ≡ 35 ∷ rest))

byte_is : (begins : Bool) (b : ℕ) → begins && b == 35 ≡ true → b ≡ 35
byte_is true b e = grind (arith, e)
byte_is false b e = absurd (false≢true e)

later : (n : ℕ) (b : ℕ) (bs : List ℕ) → Stops n bs → Stops (1 + n) (b ∷ bs)
later n b bs h =
    let next : suc n ≡ 1 + n = omega arith in
    subst (λ m. Stops m (b ∷ bs)) next (go h)
  where
    go : Stops n bs → Stops (suc n) (b ∷ bs)
    go (inl e) = inl (omega (arith, e.0), e.1)
    go (inr e) = inr (e.0, omega (arith, e.1), e.2, e.3)

stops : (begins : Bool) (line : List ℕ) → Stops (code_len begins line) line
stops begins [] = inl (refl, refl)
stops begins (b ∷ bs) = go (stops (is_white b) bs) (begins && b == 35) refl
  where
    at : Bool → Type 0
    at t = Stops (cond t 0 (1 + code_len (is_white b) bs)) (b ∷ bs)

    go : Stops (code_len (is_white b) bs) bs → (t : Bool) → begins && b == 35 ≡ t → at (begins && b == 35)
    go following true e =
        let hash : b ≡ 35 = byte_is begins b e in
        subst at (sym e) (inr (bs, omega arith, hash, ap (λ c. c ∷ bs) hash))
    go following false e = subst at (sym e) (later (code_len (is_white b) bs) b bs following)

-- a line may be cut there
pub cut_before : (line : List ℕ) → IsCharBoundary line (code_len true line)
cut_before line = go (code_len true line) (stops true line)
  where
    go : (n : ℕ) → Stops n line → IsCharBoundary line n
    go n (inl h) = subst (λ k. IsCharBoundary line k) (sym h.0) (IsCharBoundary-end line)
    go n (inr h) = IsCharBoundary-before_ascii line n h.1 (omega (arith, h.2))

-- what is left when the `#` is taken off
pub comment_is : (line rest : List ℕ) (r : Option (Bor (List ℕ))) → rest ≡ drop (code_len true line) line
    → MatchOption r (FindsCharPrefix 35 rest None) (λ x. (n : ℕ) × FindsCharPrefix 35 rest (Some n) × (x.now ≡ drop n rest) × (length x.now + n ≡ length rest))
    → option_map (λ c. c.now) r ≡ without_first (drop (code_len true line) line)
comment_is line rest r e strips = go r (strip_prefix_char 35 rest r strips (omega arith)) (stops true line)
  where
    go : (o : Option (Bor (List ℕ))) → MatchOption o ((following : List ℕ) → rest ≢ 35 ∷ following) (λ x. rest ≡ 35 ∷ x.now) → Stops (code_len true line) line
        → option_map (λ c. c.now) o ≡ without_first (drop (code_len true line) line)
    go None fails (inl h) = ap without_first (sym h.1)
    go None fails (inr h) = absurd (fails h.0 (e ∙ h.3))
    go (Some x) is _ = ap without_first (sym is ∙ e)
