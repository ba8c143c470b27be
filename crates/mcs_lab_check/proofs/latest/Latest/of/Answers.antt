use Rattle.std.proofs.Common.{Some, List, ℕ, ap, ◌∙◌}
use Rattle.mcs_lab_check.specs.NamesHad.{name_in}
use Rattle.mcs_lab_check.proofs.NamesHad.{name-found, none-found}
use Rattle.mcs_lab_check.proofs.latest.Latest.of.Goals as goal

pub returns-in-Some : goal.returns-in-Some
returns-in-Some c =
    ap (λ (name : List ℕ). Some name) c.as_slice.ensures.value
    ∙ name-found c.self.inside.names.entries c.args.object c.key_of-key.result c.in-Some.name.now c.key_of-key.ensures c.in-Some.ensures.value
    ∙ ap (λ (names : List (ℕ × List ℕ)). name_in names c.args.object) c.self.view_is

pub returns-in-None : goal.returns-in-None
returns-in-None c =
    none-found c.self.inside.names.entries c.args.object c.key_of-key.result c.key_of-key.ensures c.in-None.ensures.value
    ∙ ap (λ (names : List (ℕ × List ℕ)). name_in names c.args.object) c.self.view_is
