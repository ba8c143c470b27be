-- What is reported of a slot that is refused.
use Rattle.std.specs.Prelude.{◌≡◌, ◌≤◌, ℕ, List, None, IsSome, length, string_bytes}
use Rattle.mcs_plan_source.specs.declared.fault.PlanError.{PlanError}
use Rattle.mcs_plan_source.specs.declared.fault.PlanError.TheVariants as why
use Rattle.mcs_plan_source.specs.Naming.{find}
use Rattle.mcs_plan_source.specs.declared.plan.Space.{Space}
use Rattle.mcs_plan_source.specs.Slots.{slots_of, most_slots}

-- why a space may not have a slot more of this name: each fault exactly where the one before it
-- does not hold
abbrev pub MayNotHave : Space → List ℕ → PlanError → Type 0
MayNotHave space name (why.Twice found) = (string_bytes found ≡ name) × IsSome (find (slots_of space) name)
MayNotHave space name (why.Limit what limit) =
    (limit ≡ most_slots space.radix) × (find (slots_of space) name ≡ None) × (most_slots space.radix ≤ length (slots_of space))
MayNotHave space name why.OutOfMemory = Unit {0}
MayNotHave space name _ = ⊥
