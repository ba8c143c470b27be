-- The newest line of a book, and what it delivered to threads.
use Rattle.std.specs.Prelude.{◌≡◌, ◌-◌, ◌==◌, ◌++◌, Bool, false, cond, List, [], ◌∷◌, Some, None, length, reverse, slice_get}
use Rattle.std.proofs.Common.{refl, ap, sym, ◌∙◌, arith}
use Rattle.std.proofs.lemmas.Bool.{ne_eqb}
use Rattle.std.proofs.lemmas.List.{length-reverse}
use mathlib.Core.List.{reverse-cons}
use Rattle.mcs_book.specs.History.{Book, Line, line_of_number}
use Rattle.mcs_turns.specs.Mail.{brought, reached_from}

pub at-last : {A : Type 0} (xs : List A) (x : A) → slice_get (xs ++ x ∷ []) (length xs) ≡ Some x
at-last [] x = refl
at-last (e ∷ xs) x = at-last xs x

pub some-same : {A : Type 0} (x y : A) → Some x ≡ Some y → x ≡ y
some-same x y e = cc

-- the newest line is the last
newest-last : (l : Line) (ls : List Line) → slice_get (reverse (l ∷ ls)) (length ls) ≡ Some l
newest-last l ls = ap (λ xs. slice_get xs (length ls)) (reverse-cons l ls) ∙ ap (λ n. slice_get (reverse ls ++ l ∷ []) n) (sym (length-reverse ls)) ∙ at-last (reverse ls) l

pub newest-there : (b : Book) (k : Line) (ls : List Line) → b.lines ≡ k ∷ ls → line_of_number b (length b.lines) ≡ Some k
newest-there b k ls is =
    let count : length b.lines ≡ length (k ∷ ls) = ap length is in
    let some : (length b.lines == 0) ≡ false = ne_eqb (length b.lines) 0 (λ z. omega (arith, count, z)) in
    let here : length b.lines - 1 ≡ length ls = omega (arith, count) in
    ap (λ (c : Bool). cond c None (slice_get (reverse b.lines) (length b.lines - 1))) some
    ∙ ap (λ (xs : List Line). slice_get (reverse xs) (length b.lines - 1)) is
    ∙ ap (λ n. slice_get (reverse (k ∷ ls)) n) here
    ∙ newest-last k ls

pub newest-is : (b : Book) (l k : Line) (ls : List Line) → b.lines ≡ k ∷ ls → line_of_number b (length b.lines) ≡ Some l → k ≡ l
newest-is b l k ls is at = some-same k l (sym (newest-there b k ls is) ∙ at)

-- without a newest line nothing was delivered
pub brought_nothing : (b : Book) → line_of_number b (length b.lines) ≡ None → brought b ≡ []
brought_nothing b at = go b.lines refl
  where
    go : (ls : List Line) → b.lines ≡ ls → brought (record b { lines = b.lines }) ≡ []
    go [] none = ap (λ (ls : List Line). brought (record b { lines = ls })) none
    go (k ∷ ls) is = let gone = sym at ∙ newest-there b k ls is in absurd cc

-- the newest line delivered what its records did
pub brought_by : (b : Book) (l : Line) → line_of_number b (length b.lines) ≡ Some l → brought b ≡ reached_from None l.records
brought_by b l at = go b.lines refl
  where
    go : (ls : List Line) → b.lines ≡ ls → brought (record b { lines = b.lines }) ≡ reached_from None l.records
    go [] none = absurd (nothing none)
      where
        nothing : b.lines ≡ [] → ⊥
        nothing e = let gone = sym at ∙ ap (λ (ls : List Line). line_of_number (record b { lines = ls }) (length ls)) e in absurd cc
    go (k ∷ ls) is = ap (λ (xs : List Line). brought (record b { lines = xs })) is ∙ ap (λ (x : Line). reached_from None x.records) (newest-is b l k ls is at)
