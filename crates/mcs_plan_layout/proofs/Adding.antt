-- A turn of a loop that adds lines or rows.
use Rattle.std.proofs.Common.{◌≡◌, ◌+◌, ◌++◌, ◌∷◌, ℕ, suc, List, [], ap, sym, ◌∙◌, append_assoc, arith}
use Rattle.std.proofs.Math.ListN.{replicate}
use Rattle.std.proofs.lemmas.Grind.{replicate_next}
use Rattle.mcs_plan_layout.specs.Boot.{each}

module _ {X : Type 0} where
  -- what was added before, and what is added now
  both : (old mid new part more : List X) → mid ≡ old ++ part → new ≡ mid ++ more → new ≡ old ++ (part ++ more)
  both old mid new part more before now = now ∙ ap (λ l. l ++ more) before ∙ append_assoc old part more

  -- what comes of each of this many, and of the next
  pub each_turn : (f : ℕ → List X) (n : ℕ) (old mid new : List X) → mid ≡ old ++ each n f → new ≡ mid ++ f n → new ≡ old ++ each (n + 1) f
  each_turn f n old mid new before now =
      let next : suc n ≡ n + 1 = omega arith in
      both old mid new (each n f) (f n) before now ∙ ap (λ k. old ++ each k f) next

  -- the same thing once more
  pub same_turn : (x : X) (n : ℕ) (old mid new : List X) → mid ≡ old ++ replicate n x → new ≡ mid ++ x ∷ [] → new ≡ old ++ replicate (n + 1) x
  same_turn x n old mid new before now =
      both old mid new (replicate n x) (x ∷ []) before now ∙ ap (λ l. old ++ l) (sym (replicate_next n x))

  -- the same where nothing was there before
  pub first_turn : (f : ℕ → List X) (n : ℕ) (mid new : List X) → mid ≡ each n f → new ≡ mid ++ f n → new ≡ each (n + 1) f
  first_turn f n mid new before now =
      let next : suc n ≡ n + 1 = omega arith in
      now ∙ ap (λ l. l ++ f n) before ∙ ap (λ k. each k f) next
