-- The key of a line of the boot with which a line begins.
use Rattle.std.specs.Prelude.{ℕ, List, [], ◌∷◌, Option, None}
use Rattle.mcs_text.specs.declared.key.Key.{Key}
use Rattle.mcs_text.specs.Keys.{boot_key}

-- the key of the first of these words, where it is one of a line of the boot
abbrev pub first_key : List (List ℕ) → Option Key
first_key [] = None
first_key (w ∷ ws) = boot_key w
