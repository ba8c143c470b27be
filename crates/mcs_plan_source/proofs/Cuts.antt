-- How a text is cut at white space.
use Rattle.std.proofs.Common.{◌≡◌, ◌+◌, ◌<◌, ◌≤◌, ℕ, Bool, true, false, cond, List, [], ◌∷◌, ◌++◌, length, take, drop, get_or, Some, None, Option, sym, ap, ◌∙◌, subst, arith, ◌⊎◌, inl, inr, ⊎_elim, take-append-drop, MatchOption}
use Rattle.std.specs.List.{All, slice_split}
use Rattle.std.specs.Char.{char_set_contains}
use Rattle.std.specs.Str.{NoCharPasses}
use Rattle.std.specs.Str.Iter.{split_steps, split_text, split_has_more, split_pattern}
use Rattle.std.specs.Str.Pattern.{FindsBy}
use Rattle.std.proofs.lemmas.Bool.{cases_lt, false≢true}
use Rattle.std.proofs.lemmas.Bool.Decides.{nat_tests}
use Rattle.std.proofs.lemmas.Iterator.{YieldsList}
use Rattle.std.proofs.lemmas.Iterator.Splits.{YieldsList-from_shown_while}
use Rattle.std.proofs.lemmas.List.{get_or_default}
use Rattle.std.proofs.lemmas.List.Splits.{slice_split_none, slice_split_at}
use Rattle.std.proofs.lemmas.Str.{NoCharPasses-byte, encode_ascii, len_utf8_ascii}
use Rattle.mcs_plan_source.specs.Cutting.{is_white}

-- white space is ASCII
not_ascii : (b : ℕ) → 128 ≤ b → is_white b ≡ false
not_ascii b high = grind (arith, nat_tests)

is_ascii : (c : ℕ) → is_white c ≡ true → c < 128
is_ascii c white = go (cases_lt c 128)
  where
    go : (c < 128) ⊎ (128 ≤ c) → c < 128
    go (inl h) = h
    go (inr h) = absurd (false≢true (sym (not_ascii c h) ∙ white))

byte_at : (bs : List ℕ) → NoCharPasses is_white bs → (k : ℕ) → k < length bs → is_white (get_or bs k 0) ≡ false
byte_at bs none k l = ⊎_elim (λ low. NoCharPasses-byte is_white bs k none l low) (λ high. not_ascii (get_or bs k 0) high) (cases_lt (get_or bs k 0) 128)

no_white : (bs : List ℕ) → NoCharPasses is_white bs → All (λ b. is_white b ≡ false) bs
no_white bs none k d l = subst (λ b. is_white b ≡ false) (get_or_default bs k 0 d l) (byte_at bs none k l)

-- what a search for these characters gives, and that it stays one for them
abbrev Tests : List ℕ → (ℕ → Bool) → Type 0
Tests set test = (c : ℕ) → char_set_contains set c ≡ test c

abbrev pub finds : List ℕ → List ℕ → Option (ℕ × ℕ) → Type 0
finds set text at = (test : ℕ → Bool) → Tests set test → FindsBy test text at

abbrev pub keeps : List ℕ → List ℕ → Type 0
keeps set other = (test : ℕ → Bool) → Tests set test → Tests other test

same_tests : Tests (32 ∷ 9 ∷ []) is_white
same_tests c = grind (arith, nat_tests)

-- a piece has no white space; it is all of the text, or white space follows it
piece : (w x rest : List ℕ) (live : Bool) (o : Option (ℕ × ℕ)) → FindsBy is_white w o
    → MatchOption o ((x ≡ w) × (live ≡ false)) (λ q. 0 < q.1 → (x ≡ take q.0 w) × (live ≡ true) × (rest ≡ drop q.1 w))
    → slice_split is_white w ≡ x ∷ cond live (slice_split is_white rest) []
piece w x rest live None none cut =
    slice_split_none is_white w (no_white w none) ∙ (λ k. sym cut.0 k ∷ cond (sym cut.1 k) (slice_split is_white rest) [])
piece w x rest live (Some q) found cut =
    let c : ℕ = found.1.0 in
    let low : c < 128 = is_ascii c found.1.1 in
    let ends : q.1 ≡ q.0 + 1 = found.1.2.ends ∙ ap (λ n. q.0 + n) (len_utf8_ascii c low) in
    let parts = cut (omega (arith, ends)) in
    let following : drop q.0 w ≡ c ∷ drop q.1 w = found.1.2.split ∙ ap (λ v. v ++ drop q.1 w) (encode_ascii c low) in
    let whole : w ≡ take q.0 w ++ c ∷ drop q.1 w = sym (take-append-drop q.0 w) ∙ ap (λ v. take q.0 w ++ v) following in
    ap (slice_split is_white) whole ∙ slice_split_at is_white (take q.0 w) c (drop q.1 w) (no_white (take q.0 w) found.0) found.1.1
    ∙ (λ k. sym parts.0 k ∷ cond (sym parts.1 k) (slice_split is_white (sym parts.2 k)) [])

-- what a text is cut into at spaces and tabs
pub white_parts : {s : _} (bs : List ℕ) → split_text {P = List ℕ} s ≡ bs → split_has_more s ≡ true → split_pattern s ≡ 32 ∷ 9 ∷ []
    → YieldsList (split_steps finds keeps) (λ x. x.now) s (slice_split is_white bs)
white_parts {s} bs text more pattern =
    let parts = slice_split is_white in
    let shown = λ (t : _). cond (split_has_more t) (parts (split_text t)) [] in
    subst (YieldsList (split_steps finds keeps) (λ x. x.now) s) (λ i. cond (more i) (parts (text i)) [])
    (YieldsList-from_shown_while (split_steps finds keeps) (λ x. x.now) shown (λ t. Tests (split_pattern t) is_white)
    (λ t u h k. ap (λ b. length (cond b (parts (split_text t)) [])) (sym k.0))
    (λ t x u h k.
    let cut = k.1.1.1 in
    (k.1.0 is_white h, ap (λ b. cond b (parts (split_text t)) []) (sym k.0) ∙ piece (split_text t) x.now (split_text u) (split_has_more u) cut.0 (cut.1 is_white h) cut.2))
    s (subst (λ l. Tests l is_white) (sym pattern) same_tests))
