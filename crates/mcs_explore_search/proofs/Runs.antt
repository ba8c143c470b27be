-- Every run ends in a state that is like a visited one.
use Rattle.std.specs.Prelude.{◌≡◌, ◌+◌, ℕ, zero, suc, nat_lt, Bool, true, false, List}
use Rattle.std.proofs.Common.{arith, refl, subst}
use Rattle.std.proofs.lemmas.Grind.{common_steps}
use Rattle.mcs_explore_search.specs.Paths.{Run}
use Rattle.mcs_explore_search.specs.Closure.{Visit, IsLikeness, IsVisited, IsClosed, IsClosedTo, AreFar}

module _ {A : Type 0} (Step Like : A → A → Type 0) (likes : IsLikeness Step Like) (s : A) (visited : List (Visit A)) (closed : IsClosed Step Like s visited) where
  pub every-run : (n : ℕ) (t : A) → Run Step s n t → IsVisited Like visited t n
  every-run zero t run = subst (λ x. IsVisited Like visited x 0) run closed.start
  every-run (suc n) t run =
      let f : IsVisited Like visited run.0 n = every-run n run.0 run.1.0 in
      let step = likes.respects run.0 f.visit.state t f.like run.1.1 in
      let g : IsVisited Like visited step.0 (f.visit.depth + 1) = closed.closed f.place f.visit f.at step.0 step.1.0 in
      record { place = g.place; visit = g.visit; at = g.at; like = likes.trans t step.0 g.visit.state step.1.1 g.like; near = let a = f.near in let b = g.near in omega (arith, a, b) }

-- and so does every run that is no longer than what is after the first d visits is deep
module _ {A : Type 0} (Step Like : A → A → Type 0) (likes : IsLikeness Step Like) (s : A) (d : ℕ) (visited : List (Visit A)) (closed : IsClosedTo Step Like s d visited) where
  pub near-run : (n : ℕ) (t : A) → AreFar n d visited → Run Step s n t → IsVisited Like visited t n
  near-run zero t far run = subst (λ x. IsVisited Like visited x 0) run closed.start
  near-run (suc n) t far run = led_to (near-run n run.0 (λ i v le at. let h = far i v le at in omega (arith, h)) run.1.0)
    where
      on : (f : IsVisited Like visited run.0 n) → (b : Bool) → nat_lt f.place d ≡ b → IsVisited Like visited t (suc n)
      on f true lt =
          let step = likes.respects run.0 f.visit.state t f.like run.1.1 in
          let g : IsVisited Like visited step.0 (f.visit.depth + 1) = closed.closed f.place f.visit (grind (arith, common_steps, lt)) f.at step.0 step.1.0 in
          record { place = g.place; visit = g.visit; at = g.at; like = likes.trans t step.0 g.visit.state step.1.1 g.like; near = let a = f.near in let b = g.near in omega (arith, a, b) }
      on f false ge = absurd (let h = far f.place f.visit (grind (arith, common_steps, ge)) f.at in let a = f.near in omega (arith, h, a))

      led_to : IsVisited Like visited run.0 n → IsVisited Like visited t (suc n)
      led_to f = on f (nat_lt f.place d) refl
