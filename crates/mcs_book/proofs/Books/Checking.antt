-- What holds of the value of checks that were passed.
use Rattle.std.specs.Prelude.{Ok, Err}
use Rattle.mcs_types.specs.declared.entry.Refusal.{Refusal}
use Rattle.mcs_book.specs.Checks.{Checked, ◌>>=◌, ◌>>◌, Passed}

-- P of the value, where the checks were passed
unfoldable pub OnPassed : {A : Type 0} → (A → Type 0) → Checked A → Type 0
OnPassed P (Ok x) = P x
OnPassed P (Err refusal) = Unit {0}

-- passed, with a value of which it holds
pub passed-ok : {A : Type 0} (P : A → Type 0) (x : A) → P x → OnPassed P (Ok x)
unfolding OnPassed
passed-ok P x h = h

-- refused
pub passed-err : {A : Type 0} (P : A → Type 0) (refusal : Refusal) → OnPassed P (Err refusal)
unfolding OnPassed
passed-err P refusal = tt

-- after a check that gives a value of which P holds
pub passed-after : {A B : Type 0} (P : A → Type 0) (Q : B → Type 0) (m : Checked A) (f : A → Checked B) → OnPassed P m → ((x : A) → P x → OnPassed Q (f x)) → OnPassed Q (m >>= f)
unfolding OnPassed ◌>>=◌
passed-after P Q (Ok x) f h k = k x h
passed-after P Q (Err refusal) f h k = tt

-- after a check that gives any value
pub passed-bind : {A B : Type 0} (P : B → Type 0) (m : Checked A) (f : A → Checked B) → ((x : A) → OnPassed P (f x)) → OnPassed P (m >>= f)
unfolding OnPassed ◌>>=◌
passed-bind P (Ok x) f h = h x
passed-bind P (Err refusal) f h = tt

-- after a check that gives none
pub passed-next : {B : Type 0} (P : B → Type 0) (m : Checked Passed) (next : Checked B) → OnPassed P next → OnPassed P (m >> next)
unfolding OnPassed ◌>>◌
passed-next P (Ok x) next h = h
passed-next P (Err refusal) next h = tt
