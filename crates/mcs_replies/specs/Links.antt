-- How `Replies` keeps the chains: a link for each place of a reply object, and the top of each
-- chain. No public clause cites this module.
use Rattle.std.specs.Prelude.{ℕ, zero, suc, ◌≡◌, ◌≢◌, true, Bool, false, cond, ◌==◌, List, [], ◌∷◌, length, map, slice_index_or, slice_set, is_none, Option, Some, None, option_map, option_and_then}
use Rattle.mcs_types.specs.declared.id.ObjId.{ObjId}
use Rattle.mcs_types.specs.declared.id.Kind.TheVariants.{Reply}
use Rattle.mcs_types.specs.Ids.{same, is_just, value_after}
use Rattle.mcs_types.specs.declared.record.Ending.{Ending}
use Rattle.mcs_types.specs.Chains.{head_of, ended}
use Rattle.mcs_replies.specs.declared.places.PlaceNo.{PlaceNo}
use Rattle.mcs_replies.specs.declared.links.Link.{Link}
use Rattle.mcs_replies.specs.Places.{place_number}
use Rattle.mcs_types.specs.Limits.{object_limit}
use Rattle.mcs_replies.specs.Tops.{TopRows, top_at, left, AreTops}
use Rattle.mcs_replies.specs.Neighbours.{has, Apart, above, below}

-- the link of a place, where its reply object is in a chain
abbrev pub link_at : List (Option Link) → ℕ → Option Link
link_at ls u = slice_index_or ls u None

abbrev pub context_of : Option Link → Option ObjId
context_of o = option_map (λ l. l.context) o

abbrev pub above_of : Option Link → Option ℕ
above_of o = option_and_then (λ l. place_number l.above) o

abbrev pub below_of : Option Link → Option ℕ
below_of o = option_and_then (λ l. place_number l.below) o

-- a name of no object that is there
abbrev pub nobody : ObjId
nobody = record { kind = Reply; serial = 0 }

abbrev pub reply_of : Option Link → ObjId
reply_of None = nobody
reply_of (Some l) = l.reply

-- whether a link is of the chain of s
abbrev pub is_with : ObjId → Option Link → Bool
is_with s o = is_just (context_of o) s

abbrev pub step : Option Link → (Option ℕ → List ℕ) → ℕ → List ℕ
step None rest p = []
step (Some l) rest p = p ∷ rest (place_number l.below)

-- the places that the links spell from one on downwards, at most n of them
abbrev pub walk : (ℕ → Option Link) → ℕ → Option ℕ → List ℕ
walk f zero o = []
walk f (suc n) None = []
walk f (suc n) (Some p) = step (f p) (λ o. walk f n o) p

-- a place and all below it
abbrev pub places_from : List (Option Link) → Option PlaceNo → List ℕ
places_from ls o = walk (link_at ls) object_limit (place_number o)

-- the reply objects of places
abbrev pub replies_of : (ℕ → Option Link) → List ℕ → List ObjId
replies_of f ps = map (λ u. reply_of (f u)) ps

-- whether it is this place
abbrev pub is_at : Option ℕ → ℕ → Bool
is_at None u = false
is_at (Some p) u = p == u

-- another link at one place, and the rest as before
abbrev pub Writes : List (Option Link) → List (Option Link) → ℕ → Option Link → Type 0
Writes old new p o = (u : ℕ) → link_at new u ≡ cond (p == u) o (link_at old u)

abbrev pub with_above : Option PlaceNo → Option Link → Option Link
with_above a o = option_map {T = Link} (λ l. record l { above = a }) o

abbrev pub with_below : Option PlaceNo → Option Link → Option Link
with_below a o = option_map {T = Link} (λ l. record l { below = a }) o

abbrev pub SetsAbove : List (Option Link) → List (Option Link) → Option PlaceNo → Option PlaceNo → Type 0
SetsAbove old new at a = (u : ℕ) → link_at new u ≡ cond (is_at (place_number at) u) (with_above a (link_at old u)) (link_at old u)

abbrev pub SetsBelow : List (Option Link) → List (Option Link) → Option PlaceNo → Option PlaceNo → Type 0
SetsBelow old new at a = (u : ℕ) → link_at new u ≡ cond (is_at (place_number at) u) (with_below a (link_at old u)) (link_at old u)

-- the links with another place above one of them, if it is in a chain
abbrev pub with_above_at : Option PlaceNo → Option PlaceNo → List (Option Link) → List (Option Link)
with_above_at None a ls = ls
with_above_at (Some p) a ls = slice_set ls p.0 (with_above a (link_at ls p.0))

-- the links of all these places are gone
abbrev pub Clears : List (Option Link) → List (Option Link) → List ℕ → Type 0
Clears old new ps = (u : ℕ) → link_at new u ≡ cond (has u ps) None (link_at old u)

-- the links and the top of the chain of s spell that list
pub record Spells (f : ℕ → Option Link) (top : Option ℕ) (s : ObjId) (ps : List ℕ) : Type 0 where
  pub tops : top ≡ head_of ps
  pub apart : Apart ps
  pub stands : (u : ℕ) → has u ps ≡ is_with s (f u)
  pub aboves : (u : ℕ) → has u ps ≡ true → above_of (f u) ≡ above u ps
  pub belows : (u : ℕ) → has u ps ≡ true → below_of (f u) ≡ below u ps

-- the places in the chain of s, and its reply objects
abbrev pub places_of : List (Option Link) → TopRows → ObjId → List ℕ
places_of ls ts s = walk (link_at ls) object_limit (top_at ts s)

abbrev pub linked_of : List (Option Link) → TopRows → ObjId → List ObjId
linked_of ls ts s = replies_of (link_at ls) (places_of ls ts s)

-- the reply object whose link a place has
abbrev pub reply_in : List (Option Link) → ℕ → Option ObjId
reply_in ls u = option_map {T = Link} (λ l. l.reply) (link_at ls u)

-- the links of all chains spell them, no context has two tops, and no reply object has two links
pub record Sound (ls : List (Option Link)) (ts : TopRows) : Type 0 where
  pub places : length ls ≡ object_limit
  pub tops : AreTops ts
  pub linked : (s : ObjId) → Spells (link_at ls) (top_at ts s) s (places_of ls ts s)
  pub once : (u w : ℕ) (r : ObjId) → reply_in ls u ≡ Some r → reply_in ls w ≡ Some r → u ≡ w

-- a reply object has no link
abbrev pub IsOut : List (Option Link) → ObjId → Type 0
IsOut ls r = (u : ℕ) → reply_in ls u ≢ Some r

-- the links have the reply object r at place p besides
abbrev pub GainsReply : List (Option Link) → List (Option Link) → ℕ → ObjId → Type 0
GainsReply ls ms p r = (u : ℕ) → reply_in ms u ≡ cond (p == u) (Some r) (reply_in ls u)

-- the links have no reply object but those that they had
abbrev pub HasNoNewReply : List (Option Link) → List (Option Link) → Type 0
HasNoNewReply ls ms = (u : ℕ) (q : ObjId) → reply_in ms u ≡ Some q → reply_in ls u ≡ Some q

-- r lies on top of the chain of s, and the other chains are as they were
abbrev pub LiesOn : List (Option Link) → TopRows → List (Option Link) → TopRows → ObjId → ObjId → Type 0
LiesOn ls ts ms us r s = (x : ObjId) → linked_of ms us x ≡ cond (same x s) (r ∷ linked_of ls ts x) (linked_of ls ts x)

-- the chain of s is empty, and the other chains are as they were
abbrev pub Empties : List (Option Link) → TopRows → List (Option Link) → TopRows → ObjId → Type 0
Empties ls ts ms us s = (x : ObjId) → linked_of ms us x ≡ value_after x s [] (linked_of ls ts x)

-- the links and tops after the reply object r at place p left its chain
pub record Ends (ls : List (Option Link)) (ts : TopRows) (ms : List (Option Link)) (us : TopRows) (p : ℕ) (how : Ending) (r : ObjId) : Type 0 where
  pub sound : Sound ms us
  pub chains : (s : ObjId) → linked_of ms us s ≡ ended how r (linked_of ls ts s)
  pub gone : link_at ms p ≡ None
  pub others : HasNoNewReply ls ms

-- the same where the place has a link
abbrev pub EndsLinked : List (Option Link) → TopRows → List (Option Link) → TopRows → ℕ → Ending → Type 0
EndsLinked ls ts ms us p how = (l : Link) → link_at ls p ≡ Some l → Ends ls ts ms us p how l.reply

-- the context whose chain the reply object of a link tops
abbrev pub topped_by : Option Link → Option ObjId
topped_by None = None
topped_by (Some l) = cond (is_none (place_number l.above)) (Some l.context) None

-- the tops without that of a link's context, where nothing is above the link
abbrev pub left_by : Link → TopRows → TopRows
left_by l ts = cond (is_none (place_number l.above)) (left l.context ts) ts
