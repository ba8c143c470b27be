-- What is reported of a name that is refused.
use Rattle.std.specs.Prelude.{◌≡◌, ◌≢◌, ◌<◌, ◌≤◌, ◌++◌, ◌∷◌, ℕ, true, false, List, [], Some, None, IsSome, string_bytes}
use Rattle.mcs_types.specs.declared.id.ObjId.{ObjId}
use Rattle.mcs_types.specs.declared.id.Kind.{Kind}
use Rattle.mcs_types.specs.Ids.{same_kind}
use Rattle.mcs_plan_source.specs.declared.fault.PlanError.{PlanError}
use Rattle.mcs_plan_source.specs.declared.fault.PlanError.TheVariants as why
use Rattle.mcs_plan_source.specs.Naming.{begins_with_digit, NameList, is_name, limit_of, find, count_of, next_of}

-- a name may be given to a next object of a kind
pub record MayAdd (names : NameList) (kind : Kind) (word : List ℕ) : Type 0 where
  pub name : is_name word ≡ true
  pub fresh : find names word ≡ None
  pub room : count_of kind names < limit_of kind

-- why it may not: each fault exactly where the ones before it do not hold; memory may be refused
-- wherever it is asked for
abbrev pub MayNotAdd : NameList → Kind → List ℕ → PlanError → Type 0
MayNotAdd names kind word (why.Not found wanted) = (string_bytes found ≡ word) × (is_name word ≡ false)
MayNotAdd names kind word (why.Twice found) = (string_bytes found ≡ word) × (is_name word ≡ true) × IsSome (find names word)
MayNotAdd names kind word (why.Limit what limit) =
    (limit ≡ limit_of kind) × (is_name word ≡ true) × (find names word ≡ None) × (limit_of kind ≤ count_of kind names)
MayNotAdd names kind word why.OutOfMemory = Unit {0}
MayNotAdd names kind word _ = ⊥

-- the next object of a kind has this name now, and the others stay
pub record Adds (old : NameList) (kind : Kind) (word : List ℕ) (object : ObjId) (new : NameList) : Type 0 where
  pub may : MayAdd old kind word
  pub next : object ≡ next_of kind old
  pub names : new ≡ old ++ (word, object) ∷ []

-- the fault of a word that is not what is wanted, which it tells
abbrev pub TellsNot : List ℕ → PlanError → Type 0
TellsNot word (why.Not found wanted) = string_bytes found ≡ word
TellsNot word why.OutOfMemory = Unit {0}
TellsNot word _ = ⊥

-- the fault of a word that is no name, which it tells
abbrev pub TellsNoName : List ℕ → PlanError → Type 0
TellsNoName word (why.NoName found wanted there) = string_bytes found ≡ word
TellsNoName word why.OutOfMemory = Unit {0}
TellsNoName word _ = ⊥

-- an object of this kind has the name
pub record IsOfKind (names : NameList) (kind : Kind) (word : List ℕ) (object : ObjId) : Type 0 where
  pub named : find names word ≡ Some object
  pub same : same_kind object.kind kind ≡ true

-- no object of this kind has the name
abbrev pub HasNoneOfKind : NameList → Kind → List ℕ → Type 0
HasNoneOfKind names kind word = (object : ObjId) → find names word ≡ Some object → same_kind object.kind kind ≡ false

-- the fault of a line that ends too soon
abbrev pub TellsMissing : List (List ℕ) → PlanError → Type 0
TellsMissing words (why.Missing wanted) = words ≡ []
TellsMissing words _ = ⊥

-- the fault of a line whose next word is not the one that is wanted: it ends, or has another, which
-- is reported
abbrev pub TellsOther : List ℕ → List (List ℕ) → PlanError → Type 0
TellsOther wanted [] (why.Missing missing) = Unit {0}
TellsOther wanted (word ∷ words) (why.Not found missing) = (string_bytes found ≡ word) × (word ≢ wanted)
TellsOther wanted (word ∷ words) why.OutOfMemory = word ≢ wanted
TellsOther wanted words _ = ⊥

-- the fault of a line with a word too many, which it tells
abbrev pub TellsTooMany : List (List ℕ) → PlanError → Type 0
TellsTooMany (word ∷ words) (why.TooMany found) = string_bytes found ≡ word
TellsTooMany (word ∷ words) why.OutOfMemory = Unit {0}
TellsTooMany words _ = ⊥

-- a word is taken that begins with a digit, as a number does
abbrev pub TakesNumber : List (List ℕ) → List (List ℕ) → Type 0
TakesNumber [] left = ⊥
TakesNumber (word ∷ words) left = (left ≡ words) × (begins_with_digit word ≡ true)
