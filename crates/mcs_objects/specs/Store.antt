-- What a contract sees of a `Store`: a finite map from ids.
use Rattle.std.specs.Prelude.{◌≡◌, ◌<◌, ◌≤◌, ◌+◌, ℕ, Bool, false, ◌||◌, ◌==◌, cond, List, [], ◌∷◌, ◌++◌, length, Option, Some, None, is_some, IsSome, option_map}
use Rattle.std.specs.List.{list_any}
use Rattle.mcs_types.specs.declared.id.ObjId.{ObjId}
use Rattle.mcs_types.specs.declared.id.Kind.{Kind}
use Rattle.mcs_types.specs.Ids.{same, same_kind, ChangesAt}

-- an object with its serial, its place and its value
pub record Object (T : Type 0) : Type 0 where
  pub serial : ℕ
  pub place : ℕ
  pub value : T

-- the kind of all ids, how many objects there may be, how many serials were given, and the objects
-- by rising serial
pub record Objects (T : Type 0) : Type 0 where
  pub kind : Kind
  pub room : ℕ
  pub given : ℕ
  pub list : List (Object T)

-- a store's kind and room, how many serials were given, and how many objects are there
pub record Shape : Type 0 where
  pub kind : Kind
  pub room : ℕ
  pub given : ℕ
  pub there : ℕ

-- a store with nothing in it
abbrev pub empty_shape : Kind → ℕ → Shape
empty_shape kind room = record { kind = kind; room = room; given = 0; there = 0 }

-- one more was made
abbrev pub one_more : Shape → Shape
one_more s = record s { given = s.given + 1; there = s.there + 1 }

-- one is there less, and at least one was
abbrev pub IsOneFewer : Shape → Shape → Type 0
IsOneFewer old new = one_more new ≡ record old { given = old.given + 1 }

module _ {T : Type 0} where
  -- the object of a serial
  abbrev pub object_in : List (Object T) → ℕ → Option (Object T)
  object_in [] n = None
  object_in (o ∷ os) n = cond (o.serial == n) (Some o) (object_in os n)

  -- the object of an id
  abbrev pub object_at : Objects T → ObjId → Option (Object T)
  object_at s id = cond (same_kind id.kind s.kind) (object_in s.list id.serial) None

  abbrev pub value_of : Option (Object T) → Option T
  value_of None = None
  value_of (Some o) = Some o.value

  abbrev pub place_of : Option (Object T) → Option ℕ
  place_of None = None
  place_of (Some o) = Some o.place

  -- the value of an id
  abbrev pub value_at : Objects T → ObjId → Option T
  value_at s id = value_of (object_at s id)

  -- the place of an id
  abbrev pub place_at : Objects T → ObjId → Option ℕ
  place_at s id = place_of (object_at s id)

  -- the id of the object that has a place
  abbrev pub serial_at : ℕ → List (Object T) → Option ℕ
  serial_at p [] = None
  serial_at p (o ∷ os) = cond (o.place == p) (Some o.serial) (serial_at p os)

  abbrev pub id_at : Objects T → ℕ → Option ObjId
  id_at s p = option_map (λ n. record { kind = s.kind; serial = n }) (serial_at p s.list)

  -- the id of the next object
  abbrev pub next_id : Objects T → ObjId
  next_id s = record { kind = s.kind; serial = s.given + 1 }

  -- as many objects are there as may be, or each serial was given
  abbrev pub is_full : Objects T → Bool
  is_full s = (length s.list == s.room) || (s.given == 4294967295)

  -- what is counted of a store: how many serials were given, and how many objects are there
  abbrev pub shape : Objects T → Shape
  shape s = record { kind = s.kind; room = s.room; given = s.given; there = length s.list }

  -- one object more, at some place
  pub record Adds (old new : Objects T) (value : T) : Type 0 where
    pub place : ℕ
    pub is : new ≡ record old { given = old.given + 1; list = old.list ++ (record { serial = old.given + 1; place = place; value = value }) ∷ [] }

  -- this value was written at an id, and all others are as they were
  abbrev pub WritesAt : Objects T → Objects T → ObjId → T → Type 0
  WritesAt old new id value = ChangesAt (value_at old) (value_at new) id (Some value)

  -- all others have their places
  abbrev pub PlacesOthers : Objects T → Objects T → ObjId → Type 0
  PlacesOthers old new id = (x : ObjId) → same x id ≡ false → place_at new x ≡ place_at old x

  -- the list without the object of a serial
  abbrev pub without : ℕ → List (Object T) → List (Object T)
  without n [] = []
  without n (o ∷ os) = cond (o.serial == n) os (o ∷ without n os)

  -- without the object of an id
  abbrev pub removed : Objects T → ObjId → Objects T
  removed s id = cond (same_kind id.kind s.kind) (record s { list = without id.serial s.list }) s

  -- the list with this value at a serial
  abbrev pub written : ℕ → T → List (Object T) → List (Object T)
  written n w [] = []
  written n w (o ∷ os) = cond (o.serial == n) (record o { value = w } ∷ os) (o ∷ written n w os)

  -- with this value at an id
  abbrev pub with_value : Objects T → ObjId → T → Objects T
  with_value s id w = cond (same_kind id.kind s.kind) (record s { list = written id.serial w s.list }) s

  -- whether an object has this place
  abbrev pub has_place : ℕ → List (Object T) → Bool
  has_place p os = list_any (λ o. o.place == p) os

  -- serials rise from one number to another, and places are below the room and different
  abbrev pub AreApart : ℕ → ℕ → ℕ → List (Object T) → Type 0
  AreApart room given last [] = Unit {0}
  AreApart room given last (o ∷ os) = (last < o.serial) × (o.serial ≤ given) × (o.place < room) × (has_place o.place os ≡ false) × AreApart room given o.serial os

  -- no more objects than may be, and no serial or place twice
  pub record IsMap (s : Objects T) : Type 0 where
    pub few : length s.list ≤ s.room
    pub small : s.room ≤ 256
    pub apart : AreApart s.room s.given 0 s.list

  -- the serial of an id was given, and it is of the store's kind
  pub record WasGiven (s : Objects T) (id : ObjId) : Type 0 where
    pub kind : id.kind ≡ s.kind
    pub low : 1 ≤ id.serial
    pub high : id.serial ≤ s.given

  -- places are below the room and different, so a place tells its object; what has a place has a
  -- value, and was given
  pub record HasPlaces (s : Objects T) : Type 0 where
    pub room : (x : ObjId) (p : ℕ) → place_at s x ≡ Some p → p < s.room
    pub apart : (x y : ObjId) (p : ℕ) → place_at s x ≡ Some p → place_at s y ≡ Some p → x ≡ y
    pub owner : (x : ObjId) (p : ℕ) → place_at s x ≡ Some p → id_at s p ≡ Some x
    pub owned : (x : ObjId) (p : ℕ) → id_at s p ≡ Some x → place_at s x ≡ Some p
    pub both : (x : ObjId) → is_some (place_at s x) ≡ is_some (value_at s x)
    pub given : (x : ObjId) → IsSome (value_at s x) → WasGiven s x
