-- How long runs are.
use Rattle.std.proofs.Common.{◌≡◌, ◌+◌, ℕ, suc, List, arith, subst}
use Rattle.mcs_book.specs.Boots.{Boot}
use Rattle.mcs_turns.specs.Turns.{Follows, RunState, IsRun, User}

-- one turn more
pub run-next : (users : List User) (boot : Boot) (n : ℕ) (g h : RunState) → IsRun users boot n g → Follows users g h → IsRun users boot (n + 1) h
run-next users boot n g h run follows =
    let next : suc n ≡ n + 1 = omega arith in
    subst (λ k. IsRun users boot k h) next (g, (run, follows))
