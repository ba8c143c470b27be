-- A channel more leaves the others between two domains.
use Rattle.std.proofs.Common.{◌≡◌, ◌<◌, ◌≤◌, ℕ, zero, suc, Bool, true, false, cond, List, [], ◌∷◌, length, slice_index_or, slice_set, refl, ap, ◌∙◌, arith}
use Rattle.std.proofs.lemmas.List.Elements.{All-append, All-from_recursion, All-nil, All-same, All-weaker}
use Rattle.mcs_plan_domains.specs.declared.system.Channel.{Channel}
use Rattle.mcs_plan_domains.specs.declared.system.Domain.{Domain}
use Rattle.mcs_plan_domains.specs.declared.system.System.{System}
use Rattle.mcs_plan_domains.specs.Joins.{AddsChannel, AllJoin, HasEnds, Joins, JoinsMore, called_at, is_called_at}

length_called : (ds : List Domain) (k : ℕ) → length (called_at ds k) ≡ length ds
length_called [] k = refl
length_called (d ∷ ds) zero = refl
length_called (d ∷ ds) (suc k) = ap suc (length_called ds k)

kept_called : (ds : List Domain) (k j : ℕ) → is_called_at ds j ≡ true → is_called_at (called_at ds k) j ≡ true
kept_called [] k j h = h
kept_called (d ∷ ds) zero zero h = refl
kept_called (d ∷ ds) zero (suc j) h = h
kept_called (d ∷ ds) (suc k) zero h = h
kept_called (d ∷ ds) (suc k) (suc j) h = kept_called ds k j h

now_called : (ds : List Domain) (k : ℕ) → k < length ds → is_called_at (called_at ds k) k ≡ true
now_called [] k h = absurd (omega (arith, h))
now_called (d ∷ ds) zero h = refl
now_called (d ∷ ds) (suc k) h = now_called ds k (omega (arith, h))

-- where a domain is, it is the one that is written
pub called_there : (ds : List Domain) (k : ℕ) (d e : Domain) → k < length ds → d ≡ slice_index_or ds k e → slice_set ds k (record d { is_called = true }) ≡ called_at ds k
called_there [] k d e h is = absurd (omega (arith, h))
called_there (a ∷ ds) zero d e h is = ap (λ (x : Domain). record x { is_called = true } ∷ ds) is
called_there (a ∷ ds) (suc k) d e h is = ap (λ l. a ∷ l) (called_there ds k d e (omega (arith, h)) is)

-- where none is, nothing changes
pub called_nowhere : (ds : List Domain) (k : ℕ) → length ds ≤ k → ds ≡ called_at ds k
called_nowhere [] k h = refl
called_nowhere (d ∷ ds) zero h = absurd (omega (arith, h))
called_nowhere (d ∷ ds) (suc k) h = ap (λ l. d ∷ l) (called_nowhere ds k (omega (arith, h)))

module _ (old new : System) (more : JoinsMore old new) where
  same_count : (b : Bool) → length (cond b (called_at old.domains.items more.channel.second.domain) old.domains.items) ≡ length old.domains.items
  same_count true = length_called old.domains.items more.channel.second.domain
  same_count false = refl

  count : length new.domains.items ≡ length old.domains.items
  count = ap (λ (ds : List Domain). length ds) more.adds.domains ∙ same_count more.channel.is_called

  still_called : (b : Bool) (j : ℕ) → is_called_at old.domains.items j ≡ true → is_called_at (cond b (called_at old.domains.items more.channel.second.domain) old.domains.items) j ≡ true
  still_called true j h = kept_called old.domains.items more.channel.second.domain j h
  still_called false j h = h

  within : (k : ℕ) → k < length old.domains.items → k < length new.domains.items
  within k h = omega (arith, h, count)

  others_join : (c : Channel) → Joins old c → Joins new c
  others_join c h = record {
    first = within _ h.first;
    second = within _ h.second;
    two = h.two;
    called = λ is. ap (λ ds. is_called_at ds c.second.domain) more.adds.domains ∙ still_called more.channel.is_called _ (h.called is);
  }

  this_called : (b : Bool) → b ≡ true → is_called_at (cond b (called_at old.domains.items more.channel.second.domain) old.domains.items) more.channel.second.domain ≡ true
  this_called true is = now_called old.domains.items more.channel.second.domain more.ends.second
  this_called false is = absurd cc

  this_joins : Joins new more.channel
  this_joins = record {
    first = within _ more.ends.first;
    second = within _ more.ends.second;
    two = more.adds.two;
    called = λ is. ap (λ ds. is_called_at ds more.channel.second.domain) more.adds.domains ∙ this_called more.channel.is_called is;
  }

pub join_more : (old new : System) → AllJoin old → JoinsMore old new → AllJoin new
join_more old new all more =
    All-same (Joins new) _ _ more.adds.channels
    (All-append (Joins new) old.channels.items (more.channel ∷ []) (All-weaker (Joins old) (Joins new) (others_join old new more) old.channels.items all)
    (All-from_recursion (Joins new) (more.channel ∷ []) (this_joins old new more, tt)))

pub none_join : (s : System) → s.channels.items ≡ [] → AllJoin s
none_join s none = All-same (Joins s) _ _ none (All-nil (Joins s))

pub adds_more : (old new : System) (c : Channel) → HasEnds old c → AddsChannel old c new → JoinsMore old new
adds_more old new c ends adds = record { channel = c; ends = ends; adds = adds }
