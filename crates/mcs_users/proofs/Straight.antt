-- The programs of lists.
use Rattle.std.specs.Prelude.{ℕ, suc, Bool, true, false, cond, ◌≡◌, ◌<◌, ◌+◌, ◌-◌, ◌++◌, List, [], ◌∷◌}
use Rattle.std.proofs.Common.{refl, ap, sym, ◌∙◌, arith, append_assoc}
use Rattle.mcs_turns.specs.declared.program.Op.{Op}
use Rattle.mcs_turns.specs.declared.program.Op.TheVariants as op
use Rattle.mcs_turns.specs.Turns.{User, is_program}
use Rattle.mcs_users.specs.Users.{gives_from, straight, straightened}

-- one line more
pub gives-next : (ops : List Op) (i count : ℕ) → i < count → ops ++ gives_from i (count - i) ≡ (ops ++ op.Give i ∷ []) ++ gives_from (i + 1) (count - (i + 1))
gives-next ops i count low =
    let left : count - i ≡ suc (count - (i + 1)) = omega (arith, low) in
    ap (λ n. ops ++ gives_from i n) left ∙ sym (append_assoc ops (op.Give i ∷ []) (gives_from (i + 1) (count - (i + 1))))

-- the thread of a user stays
pub straight-thread : (u : User) → (straightened u).thread ≡ u.thread
straight-thread u = go (is_program u.ops)
  where
    go : (b : Bool) → (cond b u (record u { ops = straight u })).thread ≡ u.thread
    go true = refl
    go false = refl
