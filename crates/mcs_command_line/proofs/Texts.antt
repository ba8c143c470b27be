-- What the texts are of which the lexer and the parser of numbers of cores tell something.
use Rattle.std.proofs.Common.{refl, sym, subst, ap, ◌≡◌, ◌≢◌, ◌∙◌, ◌⊎◌, inl, inr, ◌==◌, ◌<◌, ◌^◌, ℕ, zero, suc, Bool}
use Rattle.std.proofs.Common.{true, false, [], ◌∷◌, ◌++◌, arith, pos, cond}
use Rattle.std.specs.Prelude.{Option, Some, None, codes, option_and_then}
use Rattle.std.specs.Str.{bytes_eq}
use Rattle.std.specs.Str.Parse.{IsNumeral, digits_value, starts_with_minus, without_leading_plus}
use Rattle.std.proofs.lemmas.Bool.Decides.{nat_tests}
use Rattle.std.proofs.lemmas.Bool.{eqb-true}
use Rattle.std.proofs.lemmas.Int.{ints}
use Rattle.std.proofs.lemmas.Str.Parse.{digit_from_value}
use Rattle.clap.specs.Lexer.{long_of, long_of_rest, name_and_value, strip_byte, without_minus}
use Rattle.clap.specs.Values.{IsSignedIn}
use Rattle.clap.specs.ValueTests.{accepts}
use Rattle.clap.specs.Walk.{Text}
use Rattle.clap.specs.declared.builder.value_parser.ValueParser.{ValueParser}
use Rattle.clap.specs.declared.builder.value_parser.ValueParser.TheVariants as parser
use Rattle.clap.proofs.CutLemmas.{Lacks}
use Rattle.clap.proofs.LexerLemmas.{name_and_value-at, name_and_value-without}
use Rattle.clap.proofs.ValueTestLemmas.{Accepts-accepts, accepts-Accepts}
use Rattle.mcs_types.specs.Limits.{core_limit}
use Rattle.mcs_command_line.specs.Asked.{IsCoreCount, Writes}

-- ---- an option, with what is joined to it

-- a text, cut at its first `=`
abbrev Cut : Text → Type 0
Cut text = Lacks 61 text ⊎ ((xs : Text) × (ys : Text) × (text ≡ xs ++ 61 ∷ ys) × Lacks 61 xs)

Lacks-cons : (x : ℕ) (xs : Text) → x ≢ 61 → Lacks 61 xs → Lacks 61 (x ∷ xs)
Lacks-cons x xs ne rest zero lt = ne
Lacks-cons x xs ne rest (suc k) lt = rest k (omega arith)

cut : (text : Text) → Cut text
cut [] = inl (λ i lt. absurd (omega arith))
cut (x ∷ rest) = go (x == 61) refl (cut rest)
  where
    go : (b : Bool) → (x == 61) ≡ b → Cut rest → Cut (x ∷ rest)
    go true is h = inr ([], rest, ap (λ n. n ∷ rest) (eqb-true x 61 is), λ i lt. absurd (omega arith))
    go false is (inl lacks) = let ne : x ≢ 61 = grind (arith, nat_tests) in inl (Lacks-cons x rest ne lacks)
    go false is (inr found) =
        let ne : x ≢ 61 = grind (arith, nat_tests) in
        inr (x ∷ found.0, found.1, ap (λ t. x ∷ t) found.2, Lacks-cons x found.0 ne found.3)

-- the name of an option, and its value after `=` where it has one
abbrev pub joined : Text → Option Text → Text
joined name None = name
joined name (Some v) = name ++ 61 ∷ v

joined_parts : (text : Text) → text ≡ joined (name_and_value text).0 (name_and_value text).1
joined_parts text = go (cut text)
  where
    go : Cut text → text ≡ joined (name_and_value text).0 (name_and_value text).1
    go (inl lacks) = sym (ap (λ (q : Text × Option Text). joined q.0 q.1) (name_and_value-without text lacks))
    go (inr found) =
        found.2 ∙ sym (ap (λ (q : Text × Option Text). joined q.0 q.1)
        (ap name_and_value found.2 ∙ name_and_value-at found.0 found.1 found.3))

after_minus : (x : ℕ) (xs rest : Text) → strip_byte 45 (x ∷ xs) ≡ Some rest → x ∷ xs ≡ 45 ∷ rest
after_minus x xs rest e = go (x == 45) refl e
  where
    go : (b : Bool) → (x == 45) ≡ b → cond b (Some xs) None ≡ Some rest → x ∷ xs ≡ 45 ∷ rest
    go true is e = let first : x ≡ 45 = eqb-true x 45 is in cc
    go false is e = cc

-- an option is two hyphens, and its name with what is joined to it
pub long_is : (word name : Text) (v : Option Text) → long_of word ≡ Some (name, v) → word ≡ 45 ∷ 45 ∷ joined name v
long_is [] name v e = cc
long_is (x ∷ xs) name v e = first (strip_byte 45 (x ∷ xs)) refl e
  where
    text : (zs : Text) → long_of_rest zs ≡ Some (name, v) → zs ≡ joined name v
    text [] e = cc
    text (z ∷ zs) e =
        let parts : name_and_value (z ∷ zs) ≡ (name, v) = cc in
        joined_parts (z ∷ zs) ∙ ap (λ (q : Text × Option Text). joined q.0 q.1) parts

    second : (ys : Text) (o : Option Text) → strip_byte 45 ys ≡ o → option_and_then long_of_rest o ≡ Some (name, v)
        → ys ≡ 45 ∷ joined name v
    second ys None is e = cc
    second [] (Some zs) is e = cc
    second (y ∷ ys) (Some zs) is e = after_minus y ys zs is ∙ ap (λ t. 45 ∷ t) (text zs e)

    first : (o : Option Text) → strip_byte 45 (x ∷ xs) ≡ o → option_and_then long_of_rest (option_and_then (strip_byte 45) o)
        ≡ Some (name, v)
        → x ∷ xs ≡ 45 ∷ 45 ∷ joined name v
    first None is e = cc
    first (Some ys) is e = after_minus x xs ys is ∙ ap (λ t. 45 ∷ t) (second ys (strip_byte 45 ys) refl e)

-- ---- a number of cores

-- the parser of the option `--cores`
abbrev pub cores_parser : ValueParser
cores_parser = parser.Signed (pos 1) (pos core_limit)

-- a text that says a number of cores
abbrev pub SaysCount : Text → Type 0
SaysCount text = (n : ℕ) × Writes text n × IsCoreCount n

-- what the parser accepts is one
pub count_of : (text : Text) → accepts false cores_parser text ≡ true → SaysCount text
count_of text e = go (starts_with_minus text) refl (accepts-Accepts false cores_parser text e)
  where
    go : (b : Bool) → starts_with_minus text ≡ b → IsSignedIn (pos 1) (pos core_limit) text
        → SaysCount text
    go true minus passed =
        let low = rw minus at passed.2 in
        absurd (omega (arith, ints))
    go false minus passed =
        let numeral : IsNumeral 10 (without_leading_plus text) = rw minus at passed.0 in
        let low = rw minus at passed.2 in
        let high = rw minus at passed.3 in
        (digits_value 10 (without_leading_plus text), (numeral, refl), (omega (arith, ints), omega (arith, ints)))

-- a text that writes a number begins with no hyphen
pub no_minus : (text : Text) (n : ℕ) → Writes text n → starts_with_minus text ≡ false
no_minus [] n h = refl
no_minus (x ∷ xs) n h = go (x == 45) refl
  where
    go : (b : Bool) → (x == 45) ≡ b → (x == 45) ≡ false
    go false is = is
    go true is =
        let first : x ≡ 45 = eqb-true x 45 is in
        let numeral : IsNumeral 10 (without_leading_plus (45 ∷ xs)) = subst
        (λ (k : ℕ). IsNumeral 10 (without_leading_plus (k ∷ xs))) first h.0 in
        let range = digit_from_value 45 numeral.1.0 in
        absurd (omega (arith, range))

-- and a number of cores is accepted
pub count_accepted : (text : Text) (n : ℕ) → Writes text n → IsCoreCount n → accepts false cores_parser text ≡ true
count_accepted text n h count =
    let minus = no_minus text n h in
    let small : digits_value 10 (without_leading_plus text) < 2 ^ 63 = omega arith in
    let passed : IsSignedIn (pos 1) (pos core_limit) text = rw minus (
      h.0,
      record { sfits = small },
      omega (arith, ints),
      omega (arith, ints),
    ) in
    Accepts-accepts false cores_parser text passed

-- what a text without a hyphen is to the lexer
module _ (text : Text) (plain : starts_with_minus text ≡ false) where
  pub no_hyphen : strip_byte 45 text ≡ None
  no_hyphen = go text plain
    where
      go : (t : Text) → starts_with_minus t ≡ false → strip_byte 45 t ≡ None
      go [] e = refl
      go (x ∷ xs) e = rw e refl

  pub no_dashes : bytes_eq text (codes "--") ≡ false
  no_dashes = go text plain
    where
      go : (t : Text) → starts_with_minus t ≡ false → bytes_eq t (codes "--") ≡ false
      go [] e = refl
      go (x ∷ xs) e = rw e refl

  pub same_without_minus : without_minus text ≡ text
  same_without_minus = rw no_hyphen refl
