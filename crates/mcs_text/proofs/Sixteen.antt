-- Sixteen bytes of a text, of which the first may be digits.
use Rattle.std.proofs.Common.{◌≡◌, ℕ, zero, suc, ◌+◌, ◌-◌, ◌*◌, ◌%◌, ◌^◌, ◌≤◌, Bool, true, false, not, ◌||◌, List, [], ◌∷◌, ◌++◌, map, length, get_or, take, drop, replicate, Fits, w8, eqb, leb, refl, sym, ap, subst, ◌∙◌, arith}
use Rattle.std.proofs.lemmas.Bool.{agree_below, agree_below_at, leb-true, eqb-true}
use Rattle.std.proofs.lemmas.List.{length-map, take-take, drop-append-le, drop-replicate}
use Rattle.std.proofs.lemmas.List.Sums.{prefix_len-le-length}
use Rattle.std.proofs.lemmas.Simd.{map-map, mask_l-mod, first_set_mask_l, length-chunk, chunk-fits, pick_l_whole, length-replicate, Each1-weaker, Each1-replicate}
use Rattle.std.proofs.Math.Seq.{take-append-add}
use Rattle.std.specs.List.{prefix_len}
use lib.Lanes.{Each1, chunk, mask_l, top}
use mathlib.Core.Bool.{cond}
use Rattle.mcs_text.specs.Reading.{is_digit, all_digits, value_after, value}
use Rattle.mcs_text.specs.Digits.{Begins, first_set}

-- what is passed alike is passed alike in front
alike : (p q : ℕ → Bool) (xs : List ℕ) → Each1 (λ x. p x ≡ q x) xs → prefix_len p xs ≡ prefix_len q xs
alike p q [] h = refl
alike p q (x ∷ xs) h = rw (h.0, alike p q xs h.1) refl

-- how many digits are in front, where each lane of a mask says that one is none
pub front-is : (less : List ℕ) (r : ℕ) (z : List ℕ) → length less ≡ 16 → Each1 (Fits w8) less → r ≡ first_set (mask_l (map (top 7) z) % 2 ^ 64) → (f : ℕ → ℕ) → z ≡ map f less
    → agree_below (λ d. not (top 7 (f d))) (λ d. leb d 9) 256 ≡ true → r ≡ prefix_len (λ d. leb d 9) less
front-is less r z long fits found f lanes all =
    let stops : ℕ → Bool = λ d. top 7 (f d) in
    let mask : mask_l (map (top 7) z) % 2 ^ 64 ≡ mask_l (map stops less) =
    ap (λ l. mask_l l % 2 ^ 64) (ap (map (top 7)) lanes ∙ map-map (top 7) f less) ∙ mask_l-mod (map stops less) 64 (omega (arith, length-map less stops, long)) in
    found ∙ ap first_set mask ∙ first_set_mask_l stops less 16 long (omega arith)
    ∙ alike (λ d. not (stops d)) (λ d. leb d 9) less
    (Each1-weaker (Fits w8) (λ d. not (stops d) ≡ leb d 9) (λ d h. agree_below_at (λ e. not (stops e)) (λ e. leb e 9) 256 d all h.fits) less fits)

-- what is read of this many zeros and bytes after them
pub moved : (bs : List ℕ) (c : ℕ) → length bs ≡ 16 → c ≤ 16 → chunk 0 16 (take (32 - c) (drop c (replicate 16 0 ++ bs))) ≡ replicate (16 - c) 0 ++ take c bs
moved bs c long few =
    let zeros : List ℕ = replicate 16 0 in
    let split : drop c (zeros ++ bs) ≡ replicate (16 - c) 0 ++ bs = drop-append-le c zeros bs few ∙ ap (λ l. l ++ bs) (drop-replicate c 16 0) in
    let all : 16 ≡ length (replicate {A = ℕ} (16 - c) 0) + c = omega (arith, length-replicate {A = ℕ} (16 - c) 0) in
    take-take 16 (32 - c) (drop c (zeros ++ bs)) (omega (arith, few)) ∙ ap (take 16) split ∙ ap (λ n. take n (replicate (16 - c) 0 ++ bs)) all
    ∙ take-append-add (replicate (16 - c) 0) bs c

-- two digits, four and eight, as they are put together
abbrev pair : ℕ → ℕ → ℕ
pair a b = (a * 10 % 65536 + b) % 65536

abbrev four : ℕ → ℕ → ℕ → ℕ → ℕ
four a b c d = (pair a b * 100 % 4294967296 + pair c d) % 4294967296

abbrev eight : ℕ → ℕ → ℕ → ℕ → ℕ → ℕ → ℕ → ℕ → ℕ
eight a b c d e f g h = (four a b c d * 10000 % 18446744073709551616 + four e f g h) % 18446744073709551616

abbrev pub lanes : (ℕ → ℕ) → ℕ
lanes at = eight (at 0) (at 1) (at 2) (at 3) (at 4) (at 5) (at 6) (at 7) * 100000000 + eight (at 8) (at 9) (at 10) (at 11) (at 12) (at 13) (at 14) (at 15)

pair-is : (a b : ℕ) → a ≤ 9 → b ≤ 9 → pair a b ≡ 10 * a + b
pair-is a b x y = omega arith

two-pairs : (p q : ℕ) → p ≤ 99 → q ≤ 99 → (p * 100 % 4294967296 + q) % 4294967296 ≡ 100 * p + q
two-pairs p q x y = omega arith

two-fours : (p q : ℕ) → p ≤ 9999 → q ≤ 9999 → (p * 10000 % 18446744073709551616 + q) % 18446744073709551616 ≡ 10000 * p + q
two-fours p q x y = omega arith

four-is : (a b c d : ℕ) → a ≤ 9 → b ≤ 9 → c ≤ 9 → d ≤ 9 → four a b c d ≡ 1000 * a + 100 * b + 10 * c + d
four-is a b c d x y z w = rw (pair-is a b x y, pair-is c d z w) (two-pairs (10 * a + b) (10 * c + d) (omega arith) (omega arith) ∙ omega arith)

eight-is : (a b c d e f g h : ℕ) → a ≤ 9 → b ≤ 9 → c ≤ 9 → d ≤ 9 → e ≤ 9 → f ≤ 9 → g ≤ 9 → h ≤ 9
    → eight a b c d e f g h ≡ 10000000 * a + 1000000 * b + 100000 * c + 10000 * d + 1000 * e + 100 * f + 10 * g + h
eight-is a b c d e f g h x0 x1 x2 x3 x4 x5 x6 x7 =
    rw (four-is a b c d x0 x1 x2 x3, four-is e f g h x4 x5 x6 x7)
    (two-fours (1000 * a + 100 * b + 10 * c + d) (1000 * e + 100 * f + 10 * g + h) (omega arith) (omega arith) ∙ omega arith)

-- the number that lanes write
abbrev written : ℕ → List ℕ → ℕ
written n [] = n
written n (d ∷ ds) = written (10 * n + d) ds

written-is : (n : ℕ) (ds : List ℕ) → written n ds ≡ value_after n (map (λ d. d + 48) ds)
written-is n [] = refl
written-is n (d ∷ ds) = written-is (10 * n + d) ds ∙ ap (λ m. value_after m (map (λ e. e + 48) ds)) (omega arith)

whole : (x y a b c d e f g h i j k l m n o p : ℕ) → x ≡ 10000000 * a + 1000000 * b + 100000 * c + 10000 * d + 1000 * e + 100 * f + 10 * g + h
    → y ≡ 10000000 * i + 1000000 * j + 100000 * k + 10000 * l + 1000 * m + 100 * n + 10 * o + p
    → x * 100000000 + y ≡ written 0 (a ∷ b ∷ c ∷ d ∷ e ∷ f ∷ g ∷ h ∷ i ∷ j ∷ k ∷ l ∷ m ∷ n ∷ o ∷ p ∷ [])
whole x y a b c d e f g h i j k l m n o p high low = omega (arith, high, low)

abbrev Is : List ℕ → Type 0
Is ds = lanes (λ k. get_or (ds ++ ds) k 0) ≡ value (map (λ d. d + 48) ds)

explicit : (a b c d e f g h i j k l m n o p : ℕ) → Each1 (λ x. x ≤ 9) (a ∷ b ∷ c ∷ d ∷ e ∷ f ∷ g ∷ h ∷ i ∷ j ∷ k ∷ l ∷ m ∷ n ∷ o ∷ p ∷ [])
    → Is (a ∷ b ∷ c ∷ d ∷ e ∷ f ∷ g ∷ h ∷ i ∷ j ∷ k ∷ l ∷ m ∷ n ∷ o ∷ p ∷ [])
explicit a b c d e f g h i j k l m n o p low =
    whole _ _ a b c d e f g h i j k l m n o p (eight-is a b c d e f g h low.0 low.1.0 low.1.1.0 low.1.1.1.0 low.1.1.1.1.0 low.1.1.1.1.1.0 low.1.1.1.1.1.1.0 low.1.1.1.1.1.1.1.0)
    (eight-is i j k l m n o p low.1.1.1.1.1.1.1.1.0 low.1.1.1.1.1.1.1.1.1.0 low.1.1.1.1.1.1.1.1.1.1.0 low.1.1.1.1.1.1.1.1.1.1.1.0 low.1.1.1.1.1.1.1.1.1.1.1.1.0 low.1.1.1.1.1.1.1.1.1.1.1.1.1.0 low.1.1.1.1.1.1.1.1.1.1.1.1.1.1.0 low.1.1.1.1.1.1.1.1.1.1.1.1.1.1.1.0)
    ∙ written-is 0 (a ∷ b ∷ c ∷ d ∷ e ∷ f ∷ g ∷ h ∷ i ∷ j ∷ k ∷ l ∷ m ∷ n ∷ o ∷ p ∷ [])

-- the lanes write what the digits do
pub number-is : (ds : List ℕ) → length ds ≡ 16 → Each1 (λ d. d ≤ 9) ds → lanes (λ k. get_or (ds ++ ds) k 0) ≡ value (map (λ d. d + 48) ds)
number-is ds long low =
    let at : ℕ → ℕ = λ k. get_or ds k 0 in
    let same = pick_l_whole 0 ds 16 long in
    subst Is same (explicit (at 0) (at 1) (at 2) (at 3) (at 4) (at 5) (at 6) (at 7) (at 8) (at 9) (at 10) (at 11) (at 12) (at 13) (at 14) (at 15)
    (subst (Each1 (λ d. d ≤ 9)) (sym same) low))

Each1-append : (P : ℕ → Type 0) (xs ys : List ℕ) → Each1 P xs → Each1 P ys → Each1 P (xs ++ ys)
Each1-append P [] ys h k = k
Each1-append P (x ∷ xs) ys h k = (h.0, Each1-append P xs ys h.1 k)

zeros-first : (k : ℕ) (ds : List ℕ) → value (map (λ d. d + 48) (replicate k 0 ++ ds)) ≡ value (map (λ d. d + 48) ds)
zeros-first zero ds = refl
zeros-first (suc k) ds = zeros-first k ds

one-more : (n : ℕ) → 1 + n ≡ suc n
one-more n = omega arith

-- where f takes 48 from a digit, and leaves 10 or more of any other byte
module _ (f : ℕ → ℕ) (same : agree_below (λ b. leb (f b) 9) is_digit 256 ≡ true)
    (back : agree_below (λ b. not (leb (f b) 9) || eqb (f b + 48) b) (λ _. true) 256 ≡ true) where
  abbrev count : List ℕ → ℕ
  count bs = prefix_len (λ d. leb d 9) (map f bs)

  pub counted : (bs : List ℕ) → Each1 (Fits w8) bs → count bs ≡ prefix_len is_digit bs
  counted [] fits = refl
  counted (b ∷ bs) fits = rw (agree_below_at (λ x. leb (f x) 9) is_digit 256 b same fits.0.fits, counted bs fits.1) refl

  low : (bs : List ℕ) → Each1 (λ d. d ≤ 9) (take (count bs) (map f bs))
  low [] = tt
  low (b ∷ bs) = go (leb (f b) 9) refl (low bs)
    where
      go : (t : Bool) → leb (f b) 9 ≡ t → Each1 (λ d. d ≤ 9) (take (count bs) (map f bs)) → Each1 (λ d. d ≤ 9) (take (cond (leb (f b) 9) (1 + count bs) 0) (f b ∷ map f bs))
      go true h more = rw (h, one-more (count bs)) (leb-true (f b) 9 h, more)
      go false h more = rw h tt

  digits : (bs : List ℕ) → Each1 (Fits w8) bs → all_digits (take (count bs) bs) ≡ true
  digits [] fits = refl
  digits (b ∷ bs) fits = go (leb (f b) 9) refl (digits bs fits.1)
    where
      go : (t : Bool) → leb (f b) 9 ≡ t → all_digits (take (count bs) bs) ≡ true → all_digits (take (cond (leb (f b) 9) (1 + count bs) 0) (b ∷ bs)) ≡ true
      go true h more =
          let digit : is_digit b ≡ true = sym (agree_below_at (λ x. leb (f x) 9) is_digit 256 b same fits.0.fits) ∙ h in
          rw (h, one-more (count bs), digit) more
      go false h more = rw h refl

  writes : (bs : List ℕ) → Each1 (Fits w8) bs → map (λ d. d + 48) (take (count bs) (map f bs)) ≡ take (count bs) bs
  writes [] fits = refl
  writes (b ∷ bs) fits = go (leb (f b) 9) refl (writes bs fits.1)
    where
      go : (t : Bool) → leb (f b) 9 ≡ t → map (λ d. d + 48) (take (count bs) (map f bs)) ≡ take (count bs) bs
          → map (λ d. d + 48) (take (cond (leb (f b) 9) (1 + count bs) 0) (f b ∷ map f bs)) ≡ take (cond (leb (f b) 9) (1 + count bs) 0) (b ∷ bs)
      go true h more =
          let passes : (not (leb (f b) 9) || eqb (f b + 48) b) ≡ true = agree_below_at (λ x. not (leb (f x) 9) || eqb (f x + 48) x) (λ _. true) 256 b back fits.0.fits in
          let one : f b + 48 ≡ b = eqb-true (f b + 48) b (rw h at passes) in
          rw (h, one-more (count bs), one, more) refl
      go false h more = rw h refl

  module _ (text less put : List ℕ) (c n : ℕ) (long : 16 ≤ length text) (fits : (k : ℕ) → Fits w8 (get_or text k 0)) (took : less ≡ map f (chunk 0 16 text))
      (found : c ≡ prefix_len (λ d. leb d 9) less) (shifted : put ≡ replicate (16 - c) 0 ++ take c less) where
    abbrev bytes : List ℕ
    bytes = chunk 0 16 text

    each : Each1 (Fits w8) bytes
    each = chunk-fits w8 0 16 text fits

    c-is : c ≡ count bytes
    c-is = found ∙ ap (prefix_len (λ d. leb d 9)) took

    front : take c less ≡ take (count bytes) (map f bytes)
    front = ap (λ k. take k less) c-is ∙ ap (take (count bytes)) took

    few : c ≤ 16
    few = omega (arith, c-is, prefix_len-le-length (λ d. leb d 9) (map f bytes), length-map bytes f, length-chunk 0 16 text long)

    pub put-low : Each1 (λ d. d ≤ 9) put
    put-low = rw (shifted, front) (Each1-append (λ d. d ≤ 9) (replicate (16 - c) 0) _ (Each1-replicate (λ d. d ≤ 9) (16 - c) 0 (omega arith)) (low bytes))

    pub all-counted : c ≡ prefix_len is_digit (take 16 text)
    all-counted = c-is ∙ counted bytes each

    taken : take (count bytes) bytes ≡ take c text
    taken = ap (λ k. take k bytes) (sym c-is) ∙ take-take c 16 text few

    pub begins : n ≡ value (map (λ d. d + 48) put) → Begins text c n
    begins is = record {
      within = omega (arith, few, long);
      digits = subst (λ t. all_digits t ≡ true) taken (digits bytes each);
      writes = sym (is ∙ ap (λ l. value (map (λ d. d + 48) l)) (shifted ∙ ap (λ l. replicate (16 - c) 0 ++ l) front) ∙ zeros-first (16 - c) _ ∙ ap value (writes bytes each ∙ taken));
    }
