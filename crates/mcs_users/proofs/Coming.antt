-- When an entry that waited gets its result.
use Rattle.std.specs.Prelude.{ℕ, ◌≡◌, true, false}
use Rattle.std.proofs.Common.{refl}
use Rattle.mcs_types.specs.declared.entry.Answer.{Answer}
use Rattle.mcs_types.specs.declared.entry.Answer.TheVariants as answer
use Rattle.mcs_turns.specs.Programs.{is_done}
use Rattle.mcs_turns.specs.Turns.{User, comes_of, is_send_at}

-- that a thread continues is a result of Send alone
pub comes_done : (u : User) (n : ℕ) (a : Answer) → is_done a ≡ true → comes_of u n a ≡ is_send_at u n
comes_done u n answer.Done is = refl
comes_done u n _ is = absurd cc

-- anything else is the result of the entry
pub comes_other : (u : User) (n : ℕ) (a : Answer) → is_done a ≡ false → comes_of u n a ≡ true
comes_other u n answer.Done is = absurd cc
comes_other u n _ is = refl
