-- A pattern whose words fit a form, or do not.
use Rattle.std.proofs.Common.{◌≡◌, ℕ, List, Option, Some, None, sym, ap, ◌∙◌}
use Rattle.mcs_explore_questions.specs.Forms.{Fit, fitted_by, names_in, take_fields, whole_of}
use Rattle.mcs_explore_questions.specs.Reading.{◌>>=◌}
use Rattle.mcs_explore_questions.specs.There.{Scene}

pub fits_as : (s : Scene) (first form : List ℕ) (f g h : Fit) → f ≡ g → take_fields s first (names_in form) f ≡ Some h → fitted_by s first form g ≡ whole_of h
unfolding fitted_by
fits_as s first form f g h same took =
    ap (λ (x : Fit). take_fields s first (names_in form) x >>= whole_of) (sym same) ∙ ap (λ (o : Option Fit). o >>= whole_of) took

pub fits_not : (s : Scene) (first form : List ℕ) (f g : Fit) → f ≡ g → take_fields s first (names_in form) f ≡ None → fitted_by s first form g ≡ None
unfolding fitted_by
fits_not s first form f g same out =
    ap (λ (x : Fit). take_fields s first (names_in form) x >>= whole_of) (sym same) ∙ ap (λ (o : Option Fit). o >>= whole_of) out
