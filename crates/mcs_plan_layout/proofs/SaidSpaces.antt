-- The spaces of a plan, as it says them.
use Rattle.std.proofs.Common.{◌≡◌, ◌∙◌, ℕ, Bool, true, false, cond, List, [], ◌∷◌, Option, Some, None, is_some, map, length, slice_get, option_map, option_and_then, bytes_eq, String, string_bytes, refl, ap}
use Rattle.std.proofs.lemmas.List.{length-map}
use Rattle.std.proofs.lemmas.Option.{slice_get-map}
use Rattle.mcs_plan_source.specs.Naming.{ByName, find, named_in}
use Rattle.mcs_plan_source.specs.declared.plan.Slot.{Slot}
use Rattle.mcs_plan_source.specs.declared.plan.Space.{Space}
use Rattle.mcs_plan_source.specs.Saying.{said_space, held_in}

module _ {A : Type 0} (entries : List (String A × Slot)) where
  -- how many slots there are
  pub counted : length (held_in (named_in entries)) ≡ length entries
  counted =
      length-map (named_in entries) (λ (s : List ℕ × Slot). (s.0, s.1.cap)) ∙ length-map entries (λ (e : String A × Slot). (string_bytes e.0, e.1))

  slot_said : (i : ℕ) → slice_get (held_in (named_in entries)) i
      ≡ option_map (λ (s : List ℕ × Slot). (s.0, s.1.cap)) (option_map (λ (e : String A × Slot). (string_bytes e.0, e.1)) (slice_get entries i))
  slot_said i =
      slice_get-map (λ (s : List ℕ × Slot). (s.0, s.1.cap)) (named_in entries) i
      ∙ ap (λ o. option_map (λ (s : List ℕ × Slot). (s.0, s.1.cap)) o) (slice_get-map (λ (e : String A × Slot). (string_bytes e.0, e.1)) entries i)

  -- which one is at an index
  pub slot_there : (i : ℕ) (e : String A × Slot) → slice_get entries i ≡ Some e → slice_get (held_in (named_in entries)) i ≡ Some (string_bytes e.0, e.1.cap)
  slot_there i e there =
      slot_said i ∙ ap (λ o. option_map (λ (s : List ℕ × Slot). (s.0, s.1.cap)) (option_map (λ (e : String A × Slot). (string_bytes e.0, e.1)) o)) there

  pub no_slot_there : (i : ℕ) → slice_get entries i ≡ None → slice_get (held_in (named_in entries)) i ≡ None
  no_slot_there i none =
      slot_said i ∙ ap (λ o. option_map (λ (s : List ℕ × Slot). (s.0, s.1.cap)) (option_map (λ (e : String A × Slot). (string_bytes e.0, e.1)) o)) none

-- the space at a place
pub space_there : (spaces : List Space) (place : ℕ) → slice_get (map said_space spaces) place ≡ option_map said_space (slice_get spaces place)
space_there spaces place = slice_get-map said_space spaces place

-- the slot of a name, as the plan says it
pub find_said : (slots : ByName Slot) (name : List ℕ) → find (held_in slots) name ≡ option_map (λ (s : Slot). s.cap) (find slots name)
find_said [] name = refl
find_said (e ∷ es) name = go (bytes_eq name e.0) (find_said es name)
  where
    go : (b : Bool) → find (held_in es) name ≡ option_map (λ (s : Slot). s.cap) (find es name)
        → cond b (Some e.1.cap) (find (held_in es) name) ≡ option_map (λ (s : Slot). s.cap) (cond b (Some e.1) (find es name))
    go true rest = refl
    go false rest = rest

-- whether it is there
pub named_same : (slots : ByName Slot) (name : List ℕ) → is_some (find (held_in slots) name) ≡ is_some (find slots name)
named_same slots name = ap is_some (find_said slots name) ∙ go (find slots name)
  where
    go : (o : Option Slot) → is_some (option_map (λ (s : Slot). s.cap) o) ≡ is_some o
    go None = refl
    go (Some s) = refl

-- what it holds
pub cap_said : (slots : ByName Slot) (name : List ℕ) → option_and_then (λ cap. cap) (find (held_in slots) name) ≡ option_and_then (λ (s : Slot). s.cap) (find slots name)
cap_said slots name = ap (λ o. option_and_then (λ cap. cap) o) (find_said slots name) ∙ go (find slots name)
  where
    go : (o : Option Slot) → option_and_then (λ cap. cap) (option_map (λ (s : Slot). s.cap) o) ≡ option_and_then (λ (s : Slot). s.cap) o
    go None = refl
    go (Some s) = refl
