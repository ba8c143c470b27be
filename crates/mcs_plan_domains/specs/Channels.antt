-- Each channel of a domain leads to the object that it means, with the badge of the other end.
use Rattle.std.specs.Prelude.{◌≡◌, ℕ, false, true, List, [], ◌∷◌, Some, codes, decimal, slice_get, All}
use Rattle.std.specs.Fmt.{digits}
use Rattle.std.specs.List.{concat}
use Rattle.mcs_plan_domains.specs.declared.ends.End.{End}
use Rattle.mcs_plan_domains.specs.declared.system.Channel.{Channel}
use Rattle.mcs_plan_domains.specs.declared.system.Domain.{Domain}
use Rattle.mcs_plan_domains.specs.declared.system.System.{System}
use Rattle.mcs_plan_domains.specs.Boots.{called_badge, notified_badge}
use Rattle.mcs_plan_domains.specs.Pages.{Page, blank, ended, joined, last_put}

-- a plan in which nothing follows its last whole line
pub data IsWhole (p : Page) : Type 0 where
  nothing : p ≡ blank → IsWhole p
  ends : (q : Page) (n : ℕ) → p ≡ ended q n → IsWhole p

-- a plan has this line, which came from line `line`
pub record HasLine (p : Page) (text : List ℕ) (line : ℕ) : Type 0 where
  pub before : Page
  pub after : Page
  pub whole : IsWhole before
  pub is : p ≡ joined (last_put before text line) after

-- `anna has fs.ntfn:w=0x2 as notify.1`
abbrev pub notify_line : Domain → End → Domain → End → List ℕ
notify_line d own there other = concat
    (d.name.now ∷ codes " has " ∷ there.name.now ∷ codes ".ntfn:w=" ∷ codes "0x" ∷ digits 16 false (notified_badge other) ∷ codes " as notify." ∷ decimal own.channel ∷ [])

-- `anna has fs.ep:wp=0x8000000000000001 as ppcall.1`
abbrev pub call_line : Domain → End → Domain → End → List ℕ
call_line d own there other = concat
    (d.name.now ∷ codes " has " ∷ there.name.now ∷ codes ".ep:wp=" ∷ codes "0x" ∷ digits 16 false (called_badge other) ∷ codes " as ppcall." ∷ decimal own.channel ∷ [])

-- the domain at an end has such a line, made of it and of the domain at the other end
abbrev pub HasEnd : (Domain → End → Domain → End → List ℕ) → Page → System → ℕ → End → End → Type 0
HasEnd spelled p s line own other =
    (d there : Domain) → slice_get s.domains.items own.domain ≡ Some d → slice_get s.domains.items other.domain ≡ Some there → HasLine p (spelled d own there other) line

-- the domain at each end of a channel can notify the other; if the channel has protected
-- procedures, the first can call the second
pub record Leads (p : Page) (s : System) (c : Channel) : Type 0 where
  pub first : HasEnd notify_line p s c.line c.first c.second
  pub second : HasEnd notify_line p s c.line c.second c.first
  pub calls : c.is_called ≡ true → HasEnd call_line p s c.line c.first c.second

-- this holds for each channel of a system
abbrev pub AllLead : Page → System → Type 0
AllLead p s = All (Leads p s) s.channels.items
