-- A step more that was skipped.
use Rattle.std.proofs.Common.{◌≡◌, ℕ, Some, List, [], ◌∷◌, ◌++◌, length, map, ap, ◌∙◌}
use Rattle.std.proofs.lemmas.List.{map-append}
use Rattle.mcs_types.specs.declared.entry.Step.{Step}
use Rattle.mcs_book.specs.History.{Book}
use Rattle.mcs_kernel.specs.declared.fault.EnterFault.{EnterFault}
use Rattle.mcs_lab_diagram.specs.declared.drawn.Away.{Away}
use Rattle.mcs_lab_diagram.specs.Turned.{Noted, noted, with_away}

pub away_more : (old new : List Away) (a : Away) (b : Book) (s : Step) (text : List ℕ) (why : EnterFault) → new ≡ old ++ a ∷ []
    → noted a ≡ record { after = length b.lines; core = s.core; thread = s.thread; text = text; why = why } → map noted new ≡ with_away (map noted old) b s text (Some why)
away_more old new a b s text why is at =
    ap (map noted) is ∙ map-append noted old (a ∷ []) ∙ ap (λ (n : Noted). map noted old ++ n ∷ []) at
