-- The looks of one thread more.
use Rattle.std.proofs.Common.{◌≡◌, ℕ, zero, suc, ◌+◌, List, [], ◌∷◌, ◌++◌, sym, ap, ◌∙◌, subst, arith}
use Rattle.std.proofs.lemmas.List.{append-nil, append_assoc}
use Rattle.mcs_book.specs.Logs.{Log}
use Rattle.mcs_lab_diagram.specs.declared.looks.Look.{Look}
use Rattle.mcs_lab_diagram.specs.Looks.{look_of, looks_to, thread_of}

pub looks_none : (R : Log) (old : List Look) → old ≡ old ++ looks_to R zero
looks_none R old = sym (append-nil old)

looks_after : (R : Log) (old now : List Look) (n : ℕ) → now ≡ old ++ looks_to R n → now ++ look_of R (thread_of (suc n)) ∷ [] ≡ old ++ looks_to R (suc n)
looks_after R old now n e = ap (λ (xs : List Look). xs ++ look_of R (thread_of (suc n)) ∷ []) e ∙ append_assoc old (looks_to R n) (look_of R (thread_of (suc n)) ∷ [])

pub looks_next : (R : Log) (old now : List Look) (n : ℕ) → now ≡ old ++ looks_to R n → now ++ look_of R (thread_of (n + 1)) ∷ [] ≡ old ++ looks_to R (n + 1)
looks_next R old now n e = let one : n + 1 ≡ suc n = omega arith in subst (λ (k : ℕ). now ++ look_of R (thread_of k) ∷ [] ≡ old ++ looks_to R k) (sym one) (looks_after R old now n e)
