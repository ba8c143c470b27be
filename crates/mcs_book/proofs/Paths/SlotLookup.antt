-- Lookup of a slot by an index and a depth is the path, both ways: depth first, then the root, then
-- the path's end.
use Rattle.std.specs.Prelude.{ℕ, ◌≤◌, Bool, true, false, ◌≡◌, ◌≢◌, ◌⊎◌, Option, Some, None, Ok, Err, List, [], ◌∷◌, refl}
use Rattle.std.proofs.Common.{sym, ◌∙◌, ap, inl, inr, arith}
use Rattle.mcs_types.specs.declared.id.ObjId.{ObjId}
use Rattle.mcs_types.specs.declared.cap.Cap.{Cap}
use Rattle.mcs_types.specs.declared.cap.Place.{Place}
use Rattle.mcs_types.specs.declared.entry.Refusal.{Refusal}
use Rattle.mcs_types.specs.declared.entry.Refusal.TheVariants.{Missing, DepthMismatch, Range}
use Rattle.mcs_book.specs.Logs.{Log}
use Rattle.mcs_book.specs.Slots.{SlotName}
use Rattle.mcs_book.specs.Threads.{root_of}
use Rattle.mcs_book.specs.Checks.{Checked, ◌>>=◌, ◌>>◌, need, needed}
use Rattle.mcs_book.specs.Lookup.{Space, space_of, Reached, bits_of, walk, slot_from, slot_named, is_depth, is_none_left}
use Rattle.mcs_book.specs.LookupEnds.{IsDepth, IsSlotNamedFrom, IsSlotNamed, IsSlotUnnamedFrom, IsSlotUnnamed}
use Rattle.mcs_book.proofs.Paths.PathLaws.{walk-complete}
use Rattle.mcs_book.proofs.Paths.PathSteps.{HasBits}
use Rattle.mcs_book.proofs.Paths.PathRefusals.{Narrows, bits-narrow}
use Rattle.mcs_book.proofs.Paths.LookupLaws.{RootHasBits, finds-end, stuck-end, stuck-refused}

-- what the test says
pub depth-passed : (n : ℕ) → is_depth n ≡ true → IsDepth n
depth-passed n h = (grind arith, grind arith)

-- a depth in range passes it
pub depth-passes : (n : ℕ) → IsDepth n → is_depth n ≡ true
depth-passes n h = let a : 1 ≤ n = h.0 in let b : n ≤ 64 = h.1 in grind arith

-- no bits are left
none-left : (left : List Bool) → is_none_left left ≡ true → left ≡ []
none-left [] h = refl
none-left (b ∷ left) h = absurd cc

-- bits are left
some-left : (left : List Bool) → left ≢ [] → is_none_left left ≡ false
some-left [] h = absurd (h refl)
some-left (b ∷ left) h = refl

-- the name of a slot that is reached
abbrev name_at : Reached → SlotName
name_at at = record { cnode = at.cnode; index = at.index }

-- what lookup makes of the end of a path
slot_at : Reached → Checked SlotName
slot_at at = need (is_none_left at.left) DepthMismatch >> Ok (record { cnode = at.cnode; index = at.index })

-- the walk from a root
walked_from : Space → Cap → Place → Checked SlotName
walked_from S root place = walk 64 S root (bits_of place.depth place.index) >>= (λ at. slot_at at)

-- lookup from a root is its test of the depth, and then its walk
slot_from-is : (S : Space) (root : Cap) (place : Place) → slot_from S root place ≡ (need (is_depth place.depth) Range >> walked_from S root place)
unfolding slot_from walked_from slot_at ◌>>=◌ ◌>>◌ need needed
slot_from-is S root place = refl

-- within range it is the walk
from-in_depth : (S : Space) (root : Cap) (place : Place) → IsDepth place.depth → slot_from S root place ≡ walked_from S root place
unfolding ◌>>◌ need
from-in_depth S root place h = slot_from-is S root place ∙ ap (λ b. need b Range >> walked_from S root place) (depth-passes place.depth h)

-- out of range it is refused
from-out : (S : Space) (root : Cap) (place : Place) → (IsDepth place.depth → ⊥) → slot_from S root place ≡ Err Range
unfolding ◌>>◌ need
from-out S root place out = slot_from-is S root place ∙ go (is_depth place.depth) refl
  where
    go : (b : Bool) → is_depth place.depth ≡ b → (need b Range >> walked_from S root place) ≡ Err Range
    go true e = absurd (out (depth-passed place.depth e))
    go false e = refl

-- what is reached is the slot
slot-reached : (at : Reached) → at.left ≡ [] → slot_at at ≡ Ok (record { cnode = at.cnode; index = at.index })
unfolding slot_at ◌>>◌ need
slot-reached at none = ap (λ left. need (is_none_left left) DepthMismatch >> Ok (record { cnode = at.cnode; index = at.index })) none

-- or is refused
slot-early : (at : Reached) → at.left ≢ [] → slot_at at ≡ Err DepthMismatch
unfolding slot_at ◌>>◌ need
slot-early at some = ap (λ b. need b DepthMismatch >> Ok (record { cnode = at.cnode; index = at.index })) (some-left at.left some)

-- the law: lookup finds the slot that is named from a root
pub slot_from-found : (S : Space) (root : Cap) (place : Place) (name : SlotName) → HasBits S root → IsSlotNamedFrom S root place name → slot_from S root place ≡ Ok name
unfolding ◌>>=◌ walked_from
slot_from-found S root place name h c =
    from-in_depth S root place c.in_depth
    ∙ ap (λ m. m >>= (λ at. slot_at at)) (finds-end S root place.depth place.index c.path c.at h c.in_depth.1 c.along)
    ∙ slot-reached c.at c.none_left ∙ (λ i. Ok (record { cnode = sym c.in_cnode i; index = sym c.at_index i }))

-- a slot that lookup finds is the one that is named from the root
pub slot_from-named : (S : Space) (root : Cap) (place : Place) (name : SlotName) → slot_from S root place ≡ Ok name → IsSlotNamedFrom S root place name
unfolding ◌>>=◌ ◌>>◌ need walked_from slot_at
slot_from-named S root place name is = depth (is_depth place.depth) refl (sym (slot_from-is S root place) ∙ is)
  where
    reached : IsDepth place.depth → (at : Reached) → walk 64 S root (bits_of place.depth place.index) ≡ Ok at
        → (b : Bool) → is_none_left at.left ≡ b → (need b DepthMismatch >> Ok (record { cnode = at.cnode; index = at.index })) ≡ Ok name → IsSlotNamedFrom S root place name
    reached d at e true none k =
        let (p, c) = walk-complete 64 S root (bits_of place.depth place.index) at e in
        let it : record { cnode = at.cnode; index = at.index } ≡ name = cc in
        record { in_depth = d; path = p; at = at; along = c; none_left = none-left at.left none; in_cnode = ap (λ (n : SlotName). n.cnode) (sym it); at_index = ap (λ (n : SlotName). n.index) (sym it) }
    reached d at e false some k = absurd cc

    walked : IsDepth place.depth → (w : Checked Reached) → walk 64 S root (bits_of place.depth place.index) ≡ w → (w >>= (λ at. slot_at at)) ≡ Ok name → IsSlotNamedFrom S root place name
    walked d (Ok at) e k = reached d at e (is_none_left at.left) refl k
    walked d (Err r) e k = absurd cc

    depth : (b : Bool) → is_depth place.depth ≡ b → (need b Range >> walked_from S root place) ≡ Ok name → IsSlotNamedFrom S root place name
    depth true e k = walked (depth-passed place.depth e) (walk 64 S root (bits_of place.depth place.index)) refl k
    depth false e k = absurd cc

-- the law: where lookup of a slot from a root is refused, none is named from it
pub slot_from-unnamed : (S : Space) (root : Cap) (place : Place) (refusal : Refusal) → Narrows S root → slot_from S root place ≡ Err refusal → IsSlotUnnamedFrom S root place refusal
unfolding ◌>>=◌ ◌>>◌ need walked_from slot_at
slot_from-unnamed S root place refusal h is = depth (is_depth place.depth) refl (sym (slot_from-is S root place) ∙ is)
  where
    reached : IsDepth place.depth → (at : Reached) → walk 64 S root (bits_of place.depth place.index) ≡ Ok at
        → (b : Bool) → is_none_left at.left ≡ b → (need b DepthMismatch >> Ok (name_at at)) ≡ Err refusal → IsSlotUnnamedFrom S root place refusal
    reached d at e true none k = absurd cc
    reached d at e false some k =
        let (p, c) = walk-complete 64 S root (bits_of place.depth place.index) at e in
        inr (d, inl (record { path = p; at = at; along = c; some_left = λ none. let clash : true ≡ false = sym (ap (λ left. is_none_left left) none) ∙ some in absurd cc }, cc))

    walked : IsDepth place.depth → (w : Checked Reached) → walk 64 S root (bits_of place.depth place.index) ≡ w → (w >>= (λ at. slot_at at)) ≡ Err refusal → IsSlotUnnamedFrom S root place refusal
    walked d (Ok at) e k = reached d at e (is_none_left at.left) refl k
    walked d (Err r) e k = let it : r ≡ refusal = cc in inr (d, inr (stuck-end S root place.depth place.index refusal h d.0 d.1 (e ∙ ap (λ x. Err x) it)))

    depth : (b : Bool) → is_depth place.depth ≡ b → (need b Range >> walked_from S root place) ≡ Err refusal → IsSlotUnnamedFrom S root place refusal
    depth true e k = walked (depth-passed place.depth e) (walk 64 S root (bits_of place.depth place.index)) refl k
    depth false e k = inl (λ d. let clash : true ≡ false = sym (depth-passes place.depth d) ∙ e in absurd cc, cc)

-- the law: where no slot is named from a root, lookup is refused so
pub slot_from-refused : (S : Space) (root : Cap) (place : Place) (refusal : Refusal) → HasBits S root → IsSlotUnnamedFrom S root place refusal → slot_from S root place ≡ Err refusal
unfolding ◌>>=◌ walked_from
slot_from-refused S root place refusal h (inl (out, is)) = from-out S root place out ∙ ap (λ r. Err r) (sym is)
slot_from-refused S root place refusal h (inr (d, inl (e, is))) =
    from-in_depth S root place d
    ∙ ap (λ m. m >>= (λ at. slot_at at)) (finds-end S root place.depth place.index e.path e.at h d.1 e.along)
    ∙ slot-early e.at e.some_left ∙ ap (λ r. Err r) (sym is)
slot_from-refused S root place refusal h (inr (d, inr s)) =
    from-in_depth S root place d
    ∙ ap (λ m. m >>= (λ at. slot_at at)) (stuck-refused S root place.depth place.index refusal (bits-narrow S root h) d.0 d.1 s)

-- lookup at the root of a thread
rooted : Log → Place → Option Cap → Checked SlotName
rooted R place o = needed o Missing >>= (λ root. slot_from (space_of R) root place)

-- a thread's lookup is its test of the depth, and then lookup at its root
slot_named-is : (R : Log) (t : ObjId) (place : Place) → slot_named R t place ≡ (need (is_depth place.depth) Range >> rooted R place (root_of R t))
unfolding slot_named rooted ◌>>=◌ ◌>>◌ need needed
slot_named-is R t place = refl

-- within range it is lookup at the root
slot-in_depth : (R : Log) (t : ObjId) (place : Place) → IsDepth place.depth → slot_named R t place ≡ rooted R place (root_of R t)
unfolding ◌>>◌ need
slot-in_depth R t place h = slot_named-is R t place ∙ ap (λ b. need b Range >> rooted R place (root_of R t)) (depth-passes place.depth h)

-- out of range it is refused
slot-out : (R : Log) (t : ObjId) (place : Place) → (IsDepth place.depth → ⊥) → slot_named R t place ≡ Err Range
unfolding ◌>>◌ need
slot-out R t place out = slot_named-is R t place ∙ go (is_depth place.depth) refl
  where
    go : (b : Bool) → is_depth place.depth ≡ b → (need b Range >> rooted R place (root_of R t)) ≡ Err Range
    go true e = absurd (out (depth-passed place.depth e))
    go false e = refl

-- within range and with a root it is lookup from it
slot-rooted : (R : Log) (t : ObjId) (place : Place) (root : Cap) → IsDepth place.depth → root_of R t ≡ Some root → slot_named R t place ≡ slot_from (space_of R) root place
unfolding rooted ◌>>=◌ needed
slot-rooted R t place root d is = slot-in_depth R t place d ∙ ap (rooted R place) is

-- within range and without a root it is missing
slot-rootless : (R : Log) (t : ObjId) (place : Place) → IsDepth place.depth → root_of R t ≡ None → slot_named R t place ≡ Err Missing
unfolding rooted ◌>>=◌ needed
slot-rootless R t place d none = slot-in_depth R t place d ∙ ap (rooted R place) none

-- a depth is in range or not
depth-or : (n : ℕ) → IsDepth n ⊎ (IsDepth n → ⊥)
depth-or n = go (is_depth n) refl
  where
    go : (b : Bool) → is_depth n ≡ b → IsDepth n ⊎ (IsDepth n → ⊥)
    go true e = inl (depth-passed n e)
    go false e = inr (λ d. let clash : true ≡ false = sym (depth-passes n d) ∙ e in absurd cc)

-- the law: lookup finds the slot that t names
pub slot-found : (R : Log) (t : ObjId) (place : Place) (name : SlotName) → RootHasBits R t → IsSlotNamed R t place name → slot_named R t place ≡ Ok name
slot-found R t place name h c = slot-rooted R t place c.root c.named.in_depth c.from ∙ slot_from-found (space_of R) c.root place name (h c.root c.from) c.named

-- the law: a slot that lookup finds is the one that t names
pub slot-is_named : (R : Log) (t : ObjId) (place : Place) (name : SlotName) → slot_named R t place ≡ Ok name → IsSlotNamed R t place name
slot-is_named R t place name is = depth (depth-or place.depth)
  where
    from : IsDepth place.depth → (o : Option Cap) → root_of R t ≡ o → IsSlotNamed R t place name
    from d None none = let clash : Err Missing ≡ Ok name = sym (slot-rootless R t place d none) ∙ is in absurd cc
    from d (Some root) at = record { root = root; from = at; named = slot_from-named (space_of R) root place name (sym (slot-rooted R t place root d at) ∙ is) }

    depth : IsDepth place.depth ⊎ (IsDepth place.depth → ⊥) → IsSlotNamed R t place name
    depth (inl d) = from d (root_of R t) refl
    depth (inr out) = let clash : Err Range ≡ Ok name = sym (slot-out R t place out) ∙ is in absurd cc

-- the law: where lookup of a slot is refused, t names none
pub slot-is_unnamed : (R : Log) (t : ObjId) (place : Place) (refusal : Refusal) → RootHasBits R t → slot_named R t place ≡ Err refusal → IsSlotUnnamed R t place refusal
slot-is_unnamed R t place refusal h is = depth (depth-or place.depth)
  where
    from : IsDepth place.depth → (o : Option Cap) → root_of R t ≡ o → IsSlotUnnamed R t place refusal
    from d None none = let same : Err Missing ≡ Err refusal = sym (slot-rootless R t place d none) ∙ is in inr (inl (d, none, cc))
    from d (Some root) at =
        let none : slot_from (space_of R) root place ≡ Err refusal = sym (slot-rooted R t place root d at) ∙ is in
        inr (inr (d, root, at, slot_from-unnamed (space_of R) root place refusal (bits-narrow (space_of R) root (h root at)) none))

    depth : IsDepth place.depth ⊎ (IsDepth place.depth → ⊥) → IsSlotUnnamed R t place refusal
    depth (inl d) = from d (root_of R t) refl
    depth (inr out) = let same : Err Range ≡ Err refusal = sym (slot-out R t place out) ∙ is in inl (out, cc)

-- the law: where t names no slot, lookup is refused so
pub slot-refused : (R : Log) (t : ObjId) (place : Place) (refusal : Refusal) → RootHasBits R t → IsSlotUnnamed R t place refusal → slot_named R t place ≡ Err refusal
slot-refused R t place refusal h (inl (out, is)) = slot-out R t place out ∙ ap (λ r. Err r) (sym is)
slot-refused R t place refusal h (inr (inl (d, none, is))) = slot-rootless R t place d none ∙ ap (λ r. Err r) (sym is)
slot-refused R t place refusal h (inr (inr (d, root, from, none))) = slot-rooted R t place root d from ∙ slot_from-refused (space_of R) root place refusal (h root from) none
