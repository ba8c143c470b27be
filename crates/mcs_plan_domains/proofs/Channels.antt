-- Each channel of a system leads to the object that it means.
use Rattle.std.proofs.Common.{◌≡◌, ℕ, zero, suc, Bool, true, false, List, [], ◌∷◌, Option, Some, None, refl, sym, ap, subst, codes, decimal, slice_get}
use Rattle.std.specs.Fmt.{digits}
use Rattle.std.specs.List.{AllByRecursion}
use Rattle.std.proofs.lemmas.List.Elements.{All-from_recursion}
use Rattle.mcs_plan_domains.specs.declared.capabilities.TheConstants.{CORES}
use Rattle.mcs_plan_domains.specs.declared.ends.End.{End}
use Rattle.mcs_plan_domains.specs.declared.system.Channel.{Channel}
use Rattle.mcs_plan_domains.specs.declared.system.Domain.{Domain}
use Rattle.mcs_plan_domains.specs.declared.system.Plain.{Plain}
use Rattle.mcs_plan_domains.specs.declared.system.System.{System}
use Rattle.mcs_plan_domains.specs.Boots.{boot_put, call_put, called_badge, channel_put, channels_put, each_put, end_between, end_put, monitor_if, monitors_put, notified_badge, notify_put, objects_put, own_put, passive_line, tied_put}
use Rattle.mcs_plan_domains.specs.Channels.{AllLead, HasEnd, HasLine, IsWhole, Leads, call_line, ends, nothing, notify_line}
use Rattle.mcs_plan_domains.specs.Lowered.{IsPlanOf, plain_put, system_put}
use Rattle.mcs_plan_domains.specs.Monitors.{programs_put}
use Rattle.mcs_plan_domains.specs.Pages.{Page, blank, ended, joined, last_put}
use Rattle.mcs_plan_domains.specs.Questions.{questions_put}
use Rattle.mcs_plan_domains.proofs.Lines.{either, kept_ended, kept_joined, kept_plain, kept_programs, kept_put, kept_questions, last_line, texts_joined}

-- what ends is whole
whole_end : (p : Page) (n : ℕ) → IsWhole (ended p n)
whole_end p n = ends p n refl

whole_plain : (p : Page) (ls : List Plain) → IsWhole p → IsWhole (plain_put p ls)
whole_plain p [] h = h
whole_plain p (l ∷ ls) h = whole_plain (last_put p l.text.now l.line) ls (whole_end _ l.line)

whole_each : (add : Page → Domain → Page) → ((p : Page) (d : Domain) → IsWhole (add p d)) → (p : Page) (ds : List Domain) → IsWhole p → IsWhole (each_put add p ds)
whole_each add whole p [] h = h
whole_each add whole p (d ∷ ds) h = whole_each add whole (add p d) ds (whole p d)

whole_objects : (p : Page) (d : Domain) → IsWhole (objects_put p d)
whole_objects p d = either IsWhole d.is_called _ _ (whole_end _ d.line) (whole_end _ d.line)

whole_tied : (p : Page) (d : Domain) → IsWhole (tied_put p d)
whole_tied p d = whole_end _ d.line

whole_own : (p : Page) (d : Domain) → IsWhole (own_put p d)
whole_own p d = either IsWhole d.is_passive _ _ (whole_end _ d.line) (either IsWhole d.is_called _ _ (whole_end _ d.line) (whole_end _ d.line))

whole_monitor : (p : Page) (core : ℕ) (n : Option ℕ) → IsWhole p → IsWhole (monitor_if p core n)
whole_monitor p core None h = h
whole_monitor p core (Some n) h = whole_end _ n

whole_monitors : (p : Page) (ds : List Domain) (n : ℕ) → IsWhole p → IsWhole (monitors_put p ds n)
whole_monitors p ds zero h = h
whole_monitors p ds (suc n) h = whole_monitor (monitors_put p ds n) n (passive_line ds n) (whole_monitors p ds n h)

-- what is put at an end is its line
notify_is : (p : Page) (d : Domain) (own : End) (line : ℕ) (there : Domain) (other : End) → notify_put p d own line there other ≡ last_put p (notify_line d own there other) line
notify_is p d own line there other = ap (λ q. ended q line) (texts_joined p
    (d.name.now ∷ codes " has " ∷ there.name.now ∷ codes ".ntfn:w=" ∷ codes "0x" ∷ digits 16 false (notified_badge other) ∷ codes " as notify." ∷ decimal own.channel ∷ []))

call_is : (p : Page) (d : Domain) (own : End) (line : ℕ) (there : Domain) (other : End) → call_put p d own line there other ≡ last_put p (call_line d own there other) line
call_is p d own line there other = ap (λ q. ended q line) (texts_joined p
    (d.name.now ∷ codes " has " ∷ there.name.now ∷ codes ".ep:wp=" ∷ codes "0x" ∷ digits 16 false (called_badge other) ∷ codes " as ppcall." ∷ decimal own.channel ∷ []))

notify_has : (p : Page) (d : Domain) (own : End) (line : ℕ) (there : Domain) (other : End) → IsWhole p → HasLine (notify_put p d own line there other) (notify_line d own there other) line
notify_has p d own line there other whole =
    subst (λ q. HasLine q (notify_line d own there other) line) (sym (notify_is p d own line there other)) (last_line p (notify_line d own there other) line whole)

call_has : (p : Page) (d : Domain) (own : End) (line : ℕ) (there : Domain) (other : End) → IsWhole p → HasLine (call_put p d own line there other) (call_line d own there other) line
call_has p d own line there other whole =
    subst (λ q. HasLine q (call_line d own there other) line) (sym (call_is p d own line there other)) (last_line p (call_line d own there other) line whole)

-- lines before stay
kept_notify : (p : Page) (d : Domain) (own : End) (n : ℕ) (there : Domain) (other : End) (text : List ℕ) (line : ℕ) → HasLine p text line → HasLine (notify_put p d own n there other) text line
kept_notify p d own n there other text line h =
    subst (λ q. HasLine q text line) (sym (notify_is p d own n there other)) (kept_ended _ n text line (kept_put p (notify_line d own there other) text line h))

kept_call : (p : Page) (d : Domain) (own : End) (n : ℕ) (there : Domain) (other : End) (text : List ℕ) (line : ℕ) → HasLine p text line → HasLine (call_put p d own n there other) text line
kept_call p d own n there other text line h =
    subst (λ q. HasLine q text line) (sym (call_is p d own n there other)) (kept_ended _ n text line (kept_put p (call_line d own there other) text line h))

module _ (calls : Bool) (n : ℕ) (own other : End) where
  kept_between : (p : Page) (a b : Option Domain) (text : List ℕ) (line : ℕ) → HasLine p text line → HasLine (end_between p calls n own other a b) text line
  kept_between p None b text line h = h
  kept_between p (Some d) None text line h = h
  kept_between p (Some d) (Some there) text line h =
      let once : HasLine (notify_put p d own n there other) text line = kept_notify p d own n there other text line h in
      either (λ q. HasLine q text line) calls _ _ (kept_call _ d own n there other text line once) once

  whole_between : (p : Page) (a b : Option Domain) → IsWhole p → IsWhole (end_between p calls n own other a b)
  whole_between p None b h = h
  whole_between p (Some d) None h = h
  whole_between p (Some d) (Some there) h = either IsWhole calls _ _ (whole_end _ n) (whole_end _ n)

  -- where both domains are there
  at_end : (P : Page → Type 0) (p : Page) (s : System) (d there : Domain) → slice_get s.domains.items own.domain ≡ Some d
      → slice_get s.domains.items other.domain ≡ Some there → P (end_between p calls n own other (Some d) (Some there)) → P (end_put p s calls n own other)
  at_end P p s d there of_own of_other h =
      subst (λ a. P (end_between p calls n own other a (slice_get s.domains.items other.domain))) (sym of_own)
      (subst (λ b. P (end_between p calls n own other (Some d) b)) (sym of_other) h)

  end_notifies : (p : Page) (s : System) → IsWhole p → HasEnd notify_line (end_put p s calls n own other) s n own other
  end_notifies p s whole d there of_own of_other =
      let once : HasLine (notify_put p d own n there other) (notify_line d own there other) n = notify_has p d own n there other whole in
      at_end (λ q. HasLine q (notify_line d own there other) n) p s d there of_own of_other
      (either (λ q. HasLine q (notify_line d own there other) n) calls _ _ (kept_call _ d own n there other _ n once) once)

end_calls : (n : ℕ) (own other : End) (p : Page) (s : System) (calls : Bool) → calls ≡ true → HasEnd call_line (end_put p s calls n own other) s n own other
end_calls n own other p s calls is d there of_own of_other =
    at_end calls n own other (λ q. HasLine q (call_line d own there other) n) p s d there of_own of_other
    (subst (λ b. HasLine (end_between p b n own other (Some d) (Some there)) (call_line d own there other) n) (sym is)
    (call_has (notify_put p d own n there other) d own n there other (whole_end _ n)))

-- lines that a page has, another has too
abbrev Keeps : Page → Page → Type 0
Keeps p q = (text : List ℕ) (line : ℕ) → HasLine p text line → HasLine q text line

leads_kept : (p q : Page) (s : System) (c : Channel) → Keeps p q → Leads p s c → Leads q s c
leads_kept p q s c keeps h = record {
  first = λ d there a b. keeps _ _ (h.first d there a b);
  second = λ d there a b. keeps _ _ (h.second d there a b);
  calls = λ e d there a b. keeps _ _ (h.calls e d there a b);
}

module _ (s : System) where
  kept_channel : (p : Page) (c : Channel) → Keeps p (channel_put p s c)
  kept_channel p c text line h =
      kept_between false c.line c.second c.first _ _ _ text line (kept_between c.is_called c.line c.first c.second p _ _ text line h)

  kept_channels : (p : Page) (cs : List Channel) → Keeps p (channels_put p s cs)
  kept_channels p [] text line h = h
  kept_channels p (c ∷ cs) text line h = kept_channels (channel_put p s c) cs text line (kept_channel p c text line h)

  whole_first : (p : Page) (c : Channel) → IsWhole p → IsWhole (end_put p s c.is_called c.line c.first c.second)
  whole_first p c h = whole_between c.is_called c.line c.first c.second p _ _ h

  whole_channel : (p : Page) (c : Channel) → IsWhole p → IsWhole (channel_put p s c)
  whole_channel p c h = whole_between false c.line c.second c.first _ _ _ (whole_first p c h)

  channel_leads : (p : Page) (c : Channel) → IsWhole p → Leads (channel_put p s c) s c
  channel_leads p c whole = record {
    first = λ d there a b. kept_between false c.line c.second c.first _ _ _ _ _ (end_notifies c.is_called c.line c.first c.second p s whole d there a b);
    second = end_notifies false c.line c.second c.first _ s (whole_first p c whole);
    calls = λ e d there a b. kept_between false c.line c.second c.first _ _ _ _ _ (end_calls c.line c.first c.second p s c.is_called e d there a b);
  }

  channels_lead : (p : Page) (cs : List Channel) → IsWhole p → AllByRecursion (Leads (channels_put p s cs) s) cs
  channels_lead p [] whole = tt
  channels_lead p (c ∷ cs) whole =
      (leads_kept _ _ s c (kept_channels (channel_put p s c) cs) (channel_leads p c whole), channels_lead (channel_put p s c) cs (whole_channel p c whole))

  boot_leads : (p : Page) → IsWhole p → AllByRecursion (Leads (boot_put p s) s) s.channels.items
  boot_leads p whole =
      channels_lead _ s.channels.items (whole_each own_put whole_own _ s.domains.items (whole_monitors _ s.domains.items CORES (whole_each tied_put whole_tied _ s.domains.items
      (whole_each objects_put whole_objects p s.domains.items whole))))

  all_kept : (p q : Page) (cs : List Channel) → Keeps p q → AllByRecursion (Leads p s) cs → AllByRecursion (Leads q s) cs
  all_kept p q [] keeps h = tt
  all_kept p q (c ∷ cs) keeps h = (leads_kept p q s c keeps h.0, all_kept p q cs keeps h.1)

  kept_after : (programs p : Page) → Keeps p (questions_put (plain_put (programs_put (joined p programs) s.domains.items CORES) s.tails.items) s.questions.items)
  kept_after programs p text line h =
      kept_questions text line _ s.questions.items (kept_plain text line _ s.tails.items (kept_programs text line _ s.domains.items CORES (kept_joined p programs text line h)))

  system_leads : (programs : Page) → AllLead (system_put s programs blank) s
  system_leads programs = All-from_recursion (Leads (system_put s programs blank) s) s.channels.items
      (all_kept (boot_put (plain_put blank s.heads.items) s) _ s.channels.items (kept_after programs _) (boot_leads _ (whole_plain blank s.heads.items (nothing refl))))

-- the plan of a system has what its channels mean
pub plan_leads : (s : System) (p : Page) → IsPlanOf s p → AllLead p s
plan_leads s p h = subst (λ q. AllLead q s) (sym h.is) (system_leads s h.programs)
