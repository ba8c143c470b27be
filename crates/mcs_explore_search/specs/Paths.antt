-- Runs, by their steps and by the labels of these.
use Rattle.std.specs.Prelude.{◌≡◌, ℕ, zero, suc, List, [], ◌∷◌}

-- a run of n steps
abbrev pub Run : {A : Type 0} → (A → A → Type 0) → A → ℕ → A → Type 0
Run Step s zero t = s ≡ t
Run {A = A} Step s (suc n) t = (u : A) × (Run Step s n u × Step u t)

-- a path of labels leads from a state to another
abbrev pub Path : {A L : Type 0} → (L → A → A → Type 0) → A → List L → A → Type 0
Path Leads s [] t = s ≡ t
Path {A = A} Leads s (l ∷ ls) t = (u : A) × (Leads l s u × Path Leads u ls t)

-- some label leads from a state to another
abbrev pub Steps : {A L : Type 0} → (L → A → A → Type 0) → A → A → Type 0
Steps {L = L} Leads s t = (l : L) × Leads l s t
