-- A plan's spaces as it says them.
use Rattle.std.proofs.Common.{◌≡◌, ◌<◌, ◌≤◌, not, nat_lt, length, arith, ◌++◌, ℕ, zero, suc, Bool, true, false, cond, List, [], ◌∷◌, map, Option, Some, None, slice_get, refl, sym, ap, ◌∙◌, Result, Ok, Err, OnOk, OnErr, is_some, bytes_eq, option_map, string_bytes}
use Rattle.std.proofs.Math.ListN.{set}
use Rattle.std.proofs.lemmas.List.{map-append, length-map}
use Rattle.std.proofs.lemmas.Option.{slice_get-map}
use Rattle.mcs_types.specs.declared.cap.Cap.{Cap}
use Rattle.mcs_plan_source.specs.Naming.{ByName, find}
use Rattle.mcs_plan_source.specs.declared.plan.Slot.{Slot}
use Rattle.mcs_plan_source.specs.declared.plan.Space.{Space}
use Rattle.mcs_plan_source.specs.declared.fault.PlanError.{PlanError}
use Rattle.mcs_plan_source.specs.declared.fault.PlanError.TheVariants as why
use Rattle.mcs_plan_source.specs.declared.plan.Plan.{Plan}
use Rattle.mcs_plan_source.specs.Slots.{slots_of, most_slots, MayHave, AddsSlot}
use Rattle.mcs_plan_source.specs.Lines.{has_slot, may_have, slot_added}
use Rattle.mcs_plan_source.specs.Refusals.{Refusal, ◌>>◌, need, twice, limit, refusal_by}
use Rattle.mcs_plan_source.specs.Saying.{SaidSpace, said, said_space, at_place, with_last, with_slot, held_in}
use Rattle.mcs_plan_source.specs.SlotRefusals.{MayNotHave}

-- none is changed
no_place : (xs : List SaidSpace) (i : ℕ) (f : SaidSpace → SaidSpace) → slice_get xs i ≡ None → at_place i f xs ≡ xs
no_place [] i f none = refl
no_place (x ∷ xs) zero f none = absurd (cc)
no_place (x ∷ xs) (suc i) f none = ap (λ ys. x ∷ ys) (no_place xs i f none)

-- one is changed
one_place : (xs : List Space) (i : ℕ) (s t : Space) (f : SaidSpace → SaidSpace) → slice_get xs i ≡ Some s → said_space t ≡ f (said_space s)
    → map said_space (set xs i t) ≡ at_place i f (map said_space xs)
one_place [] i s t f there e = absurd (cc)
one_place (x ∷ xs) zero s t f there e =
    let same : x ≡ s = cc in
    ap (λ y. y ∷ map said_space xs) (e ∙ ap (λ y. f (said_space y)) (sym same))
one_place (x ∷ xs) (suc i) s t f there e = ap (λ ys. said_space x ∷ ys) (one_place xs i s t f there e)

-- a slot is added to one
one_slot : (xs : List Space) (i : ℕ) (s t : Space) (name : List ℕ) (slot : Slot) → slice_get xs i ≡ Some s → AddsSlot s name slot t
    → map said_space (set xs i t) ≡ at_place i (with_last name slot.cap) (map said_space xs)
one_slot xs i s t name slot there adds =
    one_place xs i s t (with_last name slot.cap) there
    (ap (λ (es : ByName Slot). record { radix = t.radix; slots = held_in es }) adds.slots
    ∙ ap (λ (es : ByName (Option Cap)). record { radix = t.radix; slots = es }) (map-append (λ (e : List ℕ × Slot). (e.0, e.1.cap)) (slots_of s) ((name, slot) ∷ []))
    ∙ ap (λ r. record { radix = r; slots = held_in (slots_of s) ++ (name, slot.cap) ∷ [] }) adds.radix)

-- none is
pub same_slots : (xs : List Space) (i : ℕ) (s t : Space) → slice_get xs i ≡ Some s → slots_of t ≡ slots_of s → t.radix ≡ s.radix
    → map said_space (set xs i t) ≡ map said_space xs
same_slots [] i s t there e r = absurd (cc)
same_slots (x ∷ xs) zero s t there e r =
    let same : x ≡ s = cc in
    ap (λ y. y ∷ map said_space xs) (ap (λ (es : ByName Slot). record { radix = t.radix; slots = held_in es }) e ∙ ap (λ n. record { radix = n; slots = held_in (slots_of s) }) r ∙ ap (λ y. said_space y) (sym same))
same_slots (x ∷ xs) (suc i) s t there e r = ap (λ ys. said_space x ∷ ys) (same_slots xs i s t there e r)

-- what follows of a result that is there, and of one that is not
pub on_ok : {T E : Type 0} (r : Result T E) (P Q : Type 0) → (P → Q) → OnOk r P → OnOk r Q
on_ok (Ok x) P Q f h = f h
on_ok (Err e) P Q f h = h

pub on_err : {T E : Type 0} (r : Result T E) (P Q : Type 0) → (P → Q) → OnErr r P → OnErr r Q
on_err (Ok x) P Q f h = h
on_err (Err e) P Q f h = f h

-- a name is there whatever the slots hold
named_same : (es : ByName Slot) (name : List ℕ) → is_some (find (held_in es) name) ≡ is_some (find es name)
named_same [] name = refl
named_same (e ∷ es) name = go (bytes_eq name e.0) (named_same es name)
  where
    go : (b : Bool) → is_some (find (held_in es) name) ≡ is_some (find es name)
        → is_some (cond b (Some e.1.cap) (find (held_in es) name)) ≡ is_some (cond b (Some e.1) (find es name))
    go true h = refl
    go false h = h

-- the space at a place has a slot of this name, or not
pub slot_there : (xs : List Space) (i : ℕ) (s : Space) (name : List ℕ) → slice_get xs i ≡ Some s
    → has_slot (slice_get (map said_space xs) i) name ≡ is_some (find (slots_of s) name)
slot_there xs i s name there =
    ap (λ o. has_slot o name) (slice_get-map said_space xs i ∙ ap (λ o. option_map said_space o) there) ∙ named_same (slots_of s) name

pub no_slot_there : (xs : List Space) (i : ℕ) (name : List ℕ) → slice_get xs i ≡ None → has_slot (slice_get (map said_space xs) i) name ≡ false
no_slot_there xs i name none = ap (λ o. has_slot o name) (slice_get-map said_space xs i ∙ ap (λ o. option_map said_space o) none)

-- a space may have a slot more, or may not
may_more : (space : Space) (name : List ℕ) → MayHave space name → may_have (Some (said_space space)) name ≡ Ok tt
may_more space name may =
    let fresh : is_some (find (held_in (slots_of space)) name) ≡ false = named_same (slots_of space) name ∙ ap is_some may.fresh in
    let same : length (held_in (slots_of space)) ≡ length (slots_of space) = length-map (slots_of space) (λ (e : List ℕ × Slot). (e.0, e.1.cap)) in
    let room : nat_lt (length (held_in (slots_of space))) (most_slots space.radix) ≡ true = ap (λ n. nat_lt n (most_slots space.radix)) same ∙ below _ _ may.room in
    ap (λ b. need (not b) (twice name) >> need (nat_lt (length (held_in (slots_of space))) (most_slots space.radix)) (limit (most_slots space.radix))) fresh
    ∙ ap (λ b. need b (limit (most_slots space.radix))) room
  where
    below : (m n : ℕ) → m < n → nat_lt m n ≡ true
    below m n less = grind (arith, less)

no_more : (space : Space) (name : List ℕ) (w : PlanError) (e : Refusal) → MayNotHave space name w → refusal_by w ≡ Some e → may_have (Some (said_space space)) name ≡ Err e
no_more space name (why.Twice word) e h p =
    let there : is_some (find (held_in (slots_of space)) name) ≡ true = named_same (slots_of space) name ∙ h.1 in
    ap (λ b. need (not b) (twice name) >> need (nat_lt (length (held_in (slots_of space))) (most_slots space.radix)) (limit (most_slots space.radix))) there ∙ ap (λ x. Err x) (error (string_bytes word) name e h.0 p)
  where
    error : (m n : List ℕ) (e : Refusal) → m ≡ n → Some (twice m) ≡ Some e → twice n ≡ e
    error m n e is p = cc
no_more space name (why.Limit what most) e h p =
    let fresh : is_some (find (held_in (slots_of space)) name) ≡ false = named_same (slots_of space) name ∙ ap is_some h.1 in
    let same : length (held_in (slots_of space)) ≡ length (slots_of space) = length-map (slots_of space) (λ (x : List ℕ × Slot). (x.0, x.1.cap)) in
    let full : nat_lt (length (held_in (slots_of space))) (most_slots space.radix) ≡ false = ap (λ n. nat_lt n (most_slots space.radix)) same ∙ above _ _ h.2 in
    ap (λ b. need (not b) (twice name) >> need (nat_lt (length (held_in (slots_of space))) (most_slots space.radix)) (limit (most_slots space.radix))) fresh
    ∙ ap (λ b. need b (limit (most_slots space.radix))) full ∙ ap (λ x. Err x) (error most (most_slots space.radix) e h.0 p)
  where
    above : (m n : ℕ) → n ≤ m → nat_lt m n ≡ false
    above m n less = grind (arith, less)

    error : (m n : ℕ) (e : Refusal) → m ≡ n → Some (limit m) ≡ Some e → limit n ≡ e
    error m n e is p = cc
no_more space name why.OutOfMemory e h p = absurd (cc)
no_more space name w e h p = absurd h

-- the space at a place as the plan says it
said_there : (p : Plan) (place : ℕ) (space : Space) → slice_get p.spaces.items place ≡ Some space → slice_get (said p).spaces place ≡ Some (said_space space)
said_there p place space there = slice_get-map said_space p.spaces.items place ∙ ap (λ o. option_map said_space o) there

-- a slot more of the space at a place; of no space; of a space that may not have it
pub added_there : (p : Plan) (place : ℕ) (space new : Space) (name : List ℕ) (slot : Slot) → slice_get p.spaces.items place ≡ Some space → AddsSlot space name slot new
    → slot_added place name slot.cap (said p) ≡ Ok (record (said p) { spaces = map said_space (set p.spaces.items place new) })
added_there p place space new name slot there adds =
    ap (λ o. may_have o name >> Ok (with_slot place name slot.cap (said p))) (said_there p place space there)
    ∙ ap (λ r. r >> Ok (with_slot place name slot.cap (said p))) (may_more space name adds.may)
    ∙ ap (λ ss. Ok (record (said p) { spaces = ss })) (sym (one_slot p.spaces.items place space new name slot there adds))

pub added_nowhere : (p : Plan) (place : ℕ) (name : List ℕ) (slot : Slot) → slice_get p.spaces.items place ≡ None → slot_added place name slot.cap (said p) ≡ Ok (said p)
added_nowhere p place name slot none =
    let nowhere : slice_get (said p).spaces place ≡ None = slice_get-map said_space p.spaces.items place ∙ ap (λ o. option_map said_space o) none in
    ap (λ o. may_have o name >> Ok (with_slot place name slot.cap (said p))) nowhere
    ∙ ap (λ ss. Ok (record (said p) { spaces = ss })) (no_place (said p).spaces place (with_last name slot.cap) nowhere)

pub refused_there : (p : Plan) (place : ℕ) (space : Space) (name : List ℕ) (slot : Slot) (w : PlanError) (e : Refusal) → slice_get p.spaces.items place ≡ Some space → MayNotHave space name w
    → refusal_by w ≡ Some e → slot_added place name slot.cap (said p) ≡ Err e
refused_there p place space name slot w e there h q =
    ap (λ o. may_have o name >> Ok (with_slot place name slot.cap (said p))) (said_there p place space there)
    ∙ ap (λ r. r >> Ok (with_slot place name slot.cap (said p))) (no_more space name w e h q)
