-- The limits of a message.
use Rattle.std.specs.Prelude.{ℕ, ◌<◌, ◌≤◌, ◌^◌, ◌≡◌, List, Option, IfNone, IfSome, length}
use Rattle.std.specs.Global.{Global}
use Rattle.std.specs.declared.boxed.Box.{Box}
use Rattle.mcs_types.specs.Limits.{word_limit, inline_limit, label_bits}
use Rattle.mcs_types.specs.Views.{Content}

-- a label and as many words as a message may have
abbrev pub IsWithinLimits : ℕ → List ℕ → Type 0
IsWithinLimits label words = (label < 2 ^ label_bits) × (length words ≤ word_limit)

-- a message has so few words that they take no memory
abbrev pub IsShort : List ℕ → Type 0
IsShort words = length words ≤ inline_limit

-- what is kept of a message for a copy of it: nothing where it is short, or else an equal one
abbrev pub IsSpare : Option (Box Content Global) → Content → Type 0
IsSpare spare message = IfNone spare (IsShort message.words) × IfSome spare (λ s. s.value ≡ message)
