-- What names no message, and what a mode distinguishes.
use Rattle.std.specs.Prelude.{ℕ, zero, suc, ◌≡◌, ◌==◌, ◌+◌, ◌/◌, ◌%◌, ◌<◌, ◌&&◌, ◌||◌, Bool, true, false, not, List, [], ◌∷◌, Some, length, decimal, bytes_eq, slice_get, if◌then◌else◌}
use Rattle.std.specs.List.{list_all, list_any}
use Rattle.std.specs.Fmt.{digit_glyph, digits_onto, digits}
use Rattle.std.proofs.Common.{refl, ap, sym, ◌∙◌, arith}
use Rattle.std.proofs.Math.Nat.{mod-lt}
use Rattle.std.proofs.lemmas.Bool.{le-leb, lt-ltb, ne_eqb}
use Rattle.std.proofs.lemmas.Slice.Eq.{bytes_eq-Decides}
use Rattle.mcs_book.specs.Boots.{Boot}
use Rattle.mcs_text.specs.Reading.{is_digit, words_of}
use Rattle.mcs_turns.specs.Turns.{User}
use Rattle.mcs_explore_questions.specs.declared.questions.Asked.{Asked}
use Rattle.mcs_explore_questions.specs.declared.questions.Asked.TheVariants as asked
use Rattle.mcs_explore_report.specs.declared.modes.Mode.{Mode}
use Rattle.mcs_explore_report.specs.declared.modes.Mode.TheVariants.{Proved}
use Rattle.mcs_explore_script.specs.declared.questions.AskedLine.{AskedLine}
use Rattle.mcs_explore_report.specs.Judging.{IsDecided, NameNone}
use Rattle.mcs_explore_report.specs.Naming.{is_message, names_message}
use Rattle.mcs_explore_report.specs.Modes.{any_later, any_message, are_numbered, is_proved, makes_objects, mode_by, mode_of}

-- the digits of a number are digits, and there is one at least
digit-glyph : (d : ℕ) → d < 10 → is_digit (digit_glyph false d) ≡ true
digit-glyph d lt = rw (lt-ltb d 10 lt) (low d lt)
  where
    low : (n : ℕ) → n < 10 → is_digit (48 + n) ≡ true
    low n lt = rw (le-leb 48 (48 + n) (omega arith), le-leb (48 + n) 57 (omega (arith, lt))) refl

all-digits : (k n : ℕ) (acc : List ℕ) → list_all is_digit acc ≡ true → list_all is_digit (digits_onto k 10 false n acc) ≡ true
all-digits zero n acc all = all
all-digits (suc k) n acc all = go (n / 10 == 0) (all-digits k (n / 10) (digit_glyph false (n % 10) ∷ acc) more)
  where
    more : list_all is_digit (digit_glyph false (n % 10) ∷ acc) ≡ true
    more = rw (digit-glyph (n % 10) (mod-lt n (omega arith))) all

    go : (c : Bool) → list_all is_digit (digits_onto k 10 false (n / 10) (digit_glyph false (n % 10) ∷ acc)) ≡ true
        → list_all is_digit (if c then digit_glyph false (n % 10) ∷ acc else digits_onto k 10 false (n / 10) (digit_glyph false (n % 10) ∷ acc)) ≡ true
    go true later = more
    go false later = later

some-digits : (k n d : ℕ) (acc : List ℕ) → (length (digits_onto k 10 false n (d ∷ acc)) == 0) ≡ false
some-digits zero n d acc = ne_eqb (length (d ∷ acc)) 0 (λ e. omega (arith, e))
some-digits (suc k) n d acc = go (n / 10 == 0) (some-digits k (n / 10) (digit_glyph false (n % 10)) (d ∷ acc))
  where
    go : (c : Bool) → (length (digits_onto k 10 false (n / 10) (digit_glyph false (n % 10) ∷ d ∷ acc)) == 0) ≡ false
        → (length (if c then digit_glyph false (n % 10) ∷ d ∷ acc else digits_onto k 10 false (n / 10) (digit_glyph false (n % 10) ∷ d ∷ acc)) == 0) ≡ false
    go true later = ne_eqb (length (digit_glyph false (n % 10) ∷ d ∷ acc)) 0 (λ e. omega (arith, e))
    go false later = later

first-digit : (k n : ℕ) → (length (digits_onto (suc k) 10 false n []) == 0) ≡ false
first-digit k n = go (n / 10 == 0) (some-digits k (n / 10) (digit_glyph false (n % 10)) [])
  where
    go : (c : Bool) → (length (digits_onto k 10 false (n / 10) (digit_glyph false (n % 10) ∷ [])) == 0) ≡ false
        → (length (if c then digit_glyph false (n % 10) ∷ [] else digits_onto k 10 false (n / 10) (digit_glyph false (n % 10) ∷ [])) == 0) ≡ false
    go true later = ne_eqb (length (digit_glyph false (n % 10) ∷ [])) 0 (λ e. omega (arith, e))
    go false later = later

-- so the name of a message is one
message-name : (n : ℕ) → is_message (109 ∷ decimal n) ≡ true
unfolding digits
message-name n = both (length (digits_onto 64 10 false n []) == 0) (list_all is_digit (digits_onto 64 10 false n [])) (first-digit 63 n) (all-digits 64 n [] refl)
  where
    both : (a b : Bool) → a ≡ false → b ≡ true → (true && (not a && b)) ≡ true
    both false true e f = refl
    both true b e f = absurd cc
    both false false e f = absurd cc

no-name : (w : List ℕ) → is_message w ≡ false → (n : ℕ) → bytes_eq w (109 ∷ decimal n) ≡ false
no-name w none n = go (bytes_eq w (109 ∷ decimal n)) refl
  where
    go : (b : Bool) → bytes_eq w (109 ∷ decimal n) ≡ b → b ≡ false
    go false e = refl
    go true e =
        let same : w ≡ 109 ∷ decimal n = (bytes_eq-Decides w (109 ∷ decimal n)).0 e in
        let is : is_message w ≡ true = ap is_message same ∙ message-name n in
        absurd cc

or-left : (a b : Bool) → (a || b) ≡ false → a ≡ false
or-left false b e = refl
or-left true b e = absurd cc

or-right : (a b : Bool) → (a || b) ≡ false → b ≡ false
or-right false b e = e
or-right true b e = absurd cc

-- words of which none is the name of a message
none-named : (ws : List (List ℕ)) → list_any is_message ws ≡ false → NameNone ws
none-named [] none = tt
none-named (w ∷ ws) none = (no-name w (or-left (is_message w) (list_any is_message ws) none), none-named ws (or-right (is_message w) (list_any is_message ws) none))

pub unnamed : (q : Asked) → names_message q ≡ false → IsDecided false q
unnamed (asked.Never pattern) none = none-named (words_of pattern.items) none
unnamed _ none = tt

-- what no element passes, that in a place does not
none-at : {A : Type 0} (p : A → Bool) (xs : List A) (i : ℕ) (x : A) → list_any p xs ≡ false → slice_get xs i ≡ Some x → p x ≡ false
none-at p [] i x none at = absurd cc
none-at p (y ∷ ys) zero x none at = let same : y ≡ x = cc in ap p (sym same) ∙ or-left (p y) (list_any p ys) none
none-at p (y ∷ ys) (suc i) x none at = none-at p ys i x (or-right (p y) (list_any p ys) none) at

-- what a mode says
pub mode-proved : (m : Mode) (numbered : Bool) → m ≡ Proved numbered → is_proved m ≡ true
mode-proved m numbered is = ap is_proved is

pub mode-numbered : (m : Mode) (numbered : Bool) → m ≡ Proved numbered → are_numbered m ≡ numbered
mode-numbered m numbered is = ap are_numbered is

-- where numbers of messages are not distinguished, no question names one
by-mode : (named merges : Bool) → mode_by named merges ≡ Proved false → named ≡ false
by-mode true merges is = let same : true ≡ false = ap are_numbered is in absurd cc
by-mode false merges is = refl

pub all-decided : (boot : Boot) (users : List User) (questions : List AskedLine) (exact numbered : Bool) → mode_of boot users questions exact ≡ Proved numbered → (i : ℕ) (q : AskedLine) → slice_get questions i ≡ Some q → IsDecided numbered q.asked
all-decided boot users questions exact true is i q at = witnesses q.asked
  where
    witnesses : (a : Asked) → IsDecided true a
    witnesses (asked.Never pattern) = tt
    witnesses _ = tt
all-decided boot users questions exact false is i q at =
    let none = by-mode (exact || any_message questions) (makes_objects users && not (any_later boot questions)) is in
    unnamed q.asked (none-at (λ (l : AskedLine). names_message l.asked) questions i q (or-right exact (any_message questions) none) at)
