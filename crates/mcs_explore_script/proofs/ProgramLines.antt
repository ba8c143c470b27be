-- Where no line of several is one of a program, and what several results say at once.
use Rattle.std.proofs.Common.{◌≡◌, ℕ, Bool, true, false, ◌||◌, List, [], ◌∷◌, length, refl}
use Rattle.std.specs.Prelude.{Result, Ok, Err, IfOk}
use Rattle.std.specs.List.{list_any}
use Rattle.mcs_explore_script.specs.Programs.{is_program_line}

neither : (a b : Bool) → (a || b) ≡ false → (a ≡ false) × (b ≡ false)
neither false b h = (refl, h)
neither true b h = absurd cc

pub none-first : (l : List ℕ) (ls : List (List ℕ)) → list_any is_program_line (l ∷ ls) ≡ false → (is_program_line l ≡ false) × (list_any is_program_line ls ≡ false)
none-first l ls h = neither (is_program_line l) (list_any is_program_line ls) h

-- a list without an element is empty
pub none-left : {A : Type 0} (xs : List A) → length xs ≡ 0 → xs ≡ []
none-left [] h = refl
none-left (x ∷ xs) h = absurd cc

-- what two facts of a success say at once
pub both-ok : {A E : Type 0} (r : Result A E) (P Q R : A → Type 0) → ((a : A) → P a → Q a → R a) → IfOk r P → IfOk r Q → IfOk r R
both-ok (Ok a) P Q R f p q = f a p q
both-ok (Err e) P Q R f p q = tt
