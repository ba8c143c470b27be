-- The thread that makes others passive, from its parts.
use Rattle.std.proofs.Common.{◌≡◌, ◌++◌, ◌+◌, ◌<◌, ℕ, Bool, true, false, List, [], ◌∷◌, length, map, fold, take, get_or, None, Ok, Err, String, string_bytes, string_eq, refl, sym, ap, ◌∙◌, if◌then◌else◌}
use Rattle.std.proofs.lemmas.List.{take_more, map-append}
use Rattle.std.proofs.lemmas.List.Sums.{fold-append}
use Rattle.indexmap.specs.IndexMap.{insert_entry}
use Rattle.mcs_plan_source.specs.Naming.{named_in, next_of}
use Rattle.mcs_plan_source.specs.declared.plan.Slot.{Slot}
use Rattle.mcs_plan_source.specs.declared.plan.Space.{Space}
use Rattle.mcs_plan_source.specs.declared.plan.Passive.{Passive}
use Rattle.mcs_plan_source.specs.Slots.{slots_of}
use Rattle.mcs_types.specs.declared.id.Kind.TheVariants as kind
use Rattle.mcs_plan_source.specs.Refusals.{Refusal, Read, ◌>>=◌}
use Rattle.mcs_types.specs.declared.id.ObjId.{ObjId}
use Rattle.mcs_plan_source.specs.Naming.{NameList}
use Rattle.mcs_plan_source.specs.Saying.{Said, SaidSpace, SaidPassive, said_space, said_passive, held_in, with_thread}
use Rattle.mcs_plan_layout.specs.Starting.{own_name, context_name, space_name, name_more, names_started, own_context, with_slot, with_context_of, no_slots as empty, space_started, starter_with, with_parts, AddsStarter}

-- its names, and then the rest
pub starter_added : (old mid new : Said) (names : NameList) (space : SaidSpace) (starter context : ObjId) → names_started old.names ≡ Ok names
    → mid ≡ record old { names = names } → starter ≡ next_of kind.Thread old.names → context ≡ own_context old.names → space ≡ space_started mid starter
    → new ≡ with_thread (starter_with context mid) (with_parts space mid) → AddsStarter old new
starter_added old mid new names space starter context started named thread own held put = record {
  names = names;
  named = started;
  same = put ∙ (λ k. with_thread (starter_with (own k) (named k)) (with_parts (same_space k) (named k)));
}
  where
    same_space : space ≡ space_started (record old { names = names }) (next_of kind.Thread old.names)
    same_space = held ∙ (λ k. space_started (named k) (thread k))

-- its names after the first, and after the second
pub after_own : (names own : NameList) → name_more kind.Thread own_name names ≡ Ok own
    → names_started names ≡ (name_more kind.Context context_name own >>= λ two. name_more kind.CNode space_name two)
after_own names own e =
    ap (λ (r : Read NameList). r >>= (λ (a : NameList). name_more kind.Context context_name a >>= (λ (b : NameList). name_more kind.CNode space_name b))) e

pub after_two : (names own two : NameList) → name_more kind.Thread own_name names ≡ Ok own → name_more kind.Context context_name own ≡ Ok two
    → names_started names ≡ name_more kind.CNode space_name two
after_two names own two e f = after_own names own e ∙ ap (λ (r : Read NameList). r >>= (λ (b : NameList). name_more kind.CNode space_name b)) f

pub no_two : (names own : NameList) (e : Refusal) → name_more kind.Thread own_name names ≡ Ok own → name_more kind.Context context_name own ≡ Err e
    → names_started names ≡ Err e
no_two names own e is none = after_own names own is ∙ ap (λ (r : Read NameList). r >>= (λ (b : NameList). name_more kind.CNode space_name b)) none

-- a slot of this name, as the map has it
pub put_held : {A : Type 0} (entries : List (String A × Slot)) (name : String A) (slot : Slot)
    → held_in (named_in (insert_entry string_eq entries name slot)) ≡ with_slot (string_bytes name) slot.cap (held_in (named_in entries))
put_held [] name slot = refl
put_held {A} (e ∷ es) name slot = go (string_eq name e.0) (put_held es name slot)
  where
    go : (b : Bool) → held_in (named_in (insert_entry string_eq es name slot)) ≡ with_slot (string_bytes name) slot.cap (held_in (named_in es))
        → held_in (named_in (if b then (e.0, slot) ∷ es else e ∷ insert_entry string_eq es name slot))
        ≡ (if b then (string_bytes e.0, slot.cap) ∷ held_in (named_in es) else (string_bytes e.0, e.1.cap) ∷ with_slot (string_bytes name) slot.cap (held_in (named_in es)))
    go true rest = refl
    go false rest = ap (λ slots. (string_bytes e.0, e.1.cap) ∷ slots) rest

-- the context of one passive thread more
pub context_more : (s : Said) (space : SaidSpace) (ps : List Passive) (i : ℕ) (p : Passive) → i < length ps → p ≡ get_or ps i p
    → fold (λ space p. with_context_of s p.thread space) space (map said_passive (take (i + 1) ps))
    ≡ with_context_of s p.thread (fold (λ space p. with_context_of s p.thread space) space (map said_passive (take i ps)))
context_more s space ps i p within there =
    let f : SaidSpace → SaidPassive → SaidSpace = λ (space : SaidSpace) (p : SaidPassive). with_context_of s p.thread space in
    ap (λ qs. fold f space qs) (ap (λ qs. map said_passive qs) (take_more ps i p within ∙ ap (λ q. take i ps ++ q ∷ []) (sym there)) ∙ map-append said_passive (take i ps) (p ∷ []))
    ∙ fold-append f space (map said_passive (take i ps)) (said_passive p ∷ [])

-- a new space has no slots
pub no_slots : (space : Space) → space.radix ≡ None → slots_of space ≡ [] → said_space space ≡ empty
no_slots space radix slots = (λ k. record { radix = radix k; slots = held_in (slots k) })
