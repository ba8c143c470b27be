use Rattle.std.proofs.Common.{◌≡◌, Some, ap, sym, ◌∙◌}
use Rattle.std.specs.Prelude.{option_map}
use Rattle.mcs_cspace.specs.Spaces.{name_of, named_by}
use Rattle.mcs_plan_validate.proofs.resolution.leads.Goals as goal

pub returns-then-is_held : goal.returns-then-is_held
returns-then-is_held g c = λ t. record {
  at = name_of c.in-Some-Ok.at;
  placed = sym c.placed.ensures ∙ ap (λ o. option_map (λ r. named_by r) o) c.in-Some-Ok.is ∙ ap (λ r. Some (named_by r)) c.in-Some-Ok.field-0-is;
  holds = sym c.capability.ensures ∙ c.is_held.ensures c.if-is_held.true;
  named = c.is_named.ensures t;
}
