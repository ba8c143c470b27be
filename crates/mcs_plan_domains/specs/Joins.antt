-- Each channel of a system joins two of its domains.
use Rattle.std.specs.Prelude.{◌≡◌, ◌≢◌, ◌<◌, ◌++◌, ℕ, zero, suc, Bool, true, false, cond, List, [], ◌∷◌, length, All, Result, Ok, Err}
use Rattle.mcs_plan_source.specs.declared.fault.PlanFault.{PlanFault}
use Rattle.mcs_plan_source.specs.declared.fault.PlanError.{PlanError}
use Rattle.mcs_plan_domains.specs.declared.system.Channel.{Channel}
use Rattle.mcs_plan_domains.specs.declared.system.Domain.{Domain}
use Rattle.mcs_plan_domains.specs.declared.system.System.{System}

-- a fault with its line
abbrev pub with_line : {T : Type 0} → ℕ → Result T PlanError → Result T PlanFault
with_line line (Ok value) = Ok value
with_line line (Err why) = Err (record { line = line; why = why })

-- whether there is a domain at an index that others may call
abbrev pub is_called_at : List Domain → ℕ → Bool
is_called_at [] k = false
is_called_at (d ∷ ds) zero = d.is_called
is_called_at (d ∷ ds) (suc k) = is_called_at ds k

-- the domains, of which others may call the one at an index
abbrev pub called_at : List Domain → ℕ → List Domain
called_at [] k = []
called_at (d ∷ ds) zero = record d { is_called = true } ∷ ds
called_at (d ∷ ds) (suc k) = d ∷ called_at ds k

-- the ends of a channel are two domains of the system; if the channel has protected procedures, the
-- second has an endpoint
pub record Joins (s : System) (c : Channel) : Type 0 where
  pub first : c.first.domain < length s.domains.items
  pub second : c.second.domain < length s.domains.items
  pub two : c.first.domain ≢ c.second.domain
  pub called : c.is_called ≡ true → is_called_at s.domains.items c.second.domain ≡ true

abbrev pub AllJoin : System → Type 0
AllJoin s = All (Joins s) s.channels.items

-- a channel between two domains more
pub record AddsChannel (old : System) (c : Channel) (new : System) : Type 0 where
  pub two : c.first.domain ≢ c.second.domain
  pub channels : new.channels.items ≡ old.channels.items ++ c ∷ []
  pub domains : new.domains.items ≡ cond c.is_called (called_at old.domains.items c.second.domain) old.domains.items

-- the ends are there
pub record HasEnds (s : System) (c : Channel) : Type 0 where
  pub first : c.first.domain < length s.domains.items
  pub second : c.second.domain < length s.domains.items

-- a channel more, between domains of the system
pub record JoinsMore (old new : System) : Type 0 where
  pub channel : Channel
  pub ends : HasEnds old channel
  pub adds : AddsChannel old channel new
