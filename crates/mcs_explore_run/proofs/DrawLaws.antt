-- What is drawn of some turns, one after the other.
use Rattle.std.proofs.Common.{◌≡◌, ◌+◌, ◌⊎◌, ℕ, Bool, true, false, List, Option, Some, None, IfNone, IfSome, IsSome, inl, inr, refl, sym, subst}
use Rattle.std.specs.Prelude.{slice_get}
use Rattle.mcs_turns.specs.Turns.{RunState, User}
use Rattle.mcs_explore_walk.specs.declared.walk.Turn.{Turn}
use Rattle.mcs_explore_walk.specs.Walks.{HasNoTurn}
use Rattle.mcs_explore_walk.proofs.Turning.{HasNoneBelow, none-next}
use Rattle.mcs_explore_run.specs.Runs.{CanTurn}

-- what is drawn is possible; if nothing is, none of the first n turns are
pub record IsDrawnBelow (users : List User) (g : RunState) (ts : List Turn) (n : ℕ) (o : Option Turn) : Type 0 where
  pub some : IfSome o (CanTurn users g)
  pub none : IfNone o (HasNoneBelow users g ts n)

pub over-none : {A B : Type 0} (o : Option Turn) → (A → B) → IfNone o A → IfNone o B
over-none None f a = f a
over-none (Some t) f a = tt

not-none : (B : Type 0) (o : Option Turn) → IsSome o → IfNone o B
not-none B None is = absurd cc
not-none B (Some t) is = tt

module _ (users : List User) (g : RunState) (ts : List Turn) (n : ℕ) (t : Turn) (at : slice_get ts n ≡ Some t) (before after : Option Turn) (so_far : IsDrawnBelow users g ts n before) where
  -- one more that is not possible
  not-possible : HasNoTurn users g t.core t.pick → after ≡ before → IsDrawnBelow users g ts (n + 1) after
  not-possible cannot same = record {
    some = subst (λ o. IfSome o (CanTurn users g)) (sym same) so_far.some;
    none = subst (λ o. IfNone o (HasNoneBelow users g ts (n + 1))) (sym same) (over-none before (λ b. none-next users g ts n t at cannot b) so_far.none);
  }

  -- one that is
  possible : CanTurn users g t → (after ≡ Some t) ⊎ ((after ≡ before) × IsSome before) → IsDrawnBelow users g ts (n + 1) after
  possible can (inl is) = record {
    some = subst (λ o. IfSome o (CanTurn users g)) (sym is) can;
    none = subst (λ o. IfNone o (HasNoneBelow users g ts (n + 1))) (sym is) tt;
  }
  possible can (inr same) = record {
    some = subst (λ o. IfSome o (CanTurn users g)) (sym same.0) so_far.some;
    none = subst (λ o. IfNone o (HasNoneBelow users g ts (n + 1))) (sym same.0) (not-none _ before same.1);
  }

  pub drawn-next : (b : Bool) → (b ≡ true → CanTurn users g t) → (b ≡ false → HasNoTurn users g t.core t.pick) → (b ≡ false → after ≡ before)
      → (b ≡ true → (after ≡ Some t) ⊎ ((after ≡ before) × IsSome before)) → IsDrawnBelow users g ts (n + 1) after
  drawn-next true can cannot same one = possible (can refl) (one refl)
  drawn-next false can cannot same one = not-possible (cannot refl) (same refl)
