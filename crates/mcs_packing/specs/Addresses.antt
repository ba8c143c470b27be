-- What a packed address stands for, over the words.
use Rattle.std.specs.Prelude.{ℕ, ◌≡◌, ◌≤◌, ◌<◌, ◌+◌, ◌-◌, ◌*◌, ◌^◌, cond, nat_lt, List, length, vec_len, vec_capacity}
use Rattle.mcs_packing.specs.declared.addresses.PackedAddress.{PackedAddress}
use Rattle.mcs_packing.specs.declared.addresses.TheConstants.{FIRST_FAR}
use Rattle.mcs_packing.specs.declared.arena.Arena.{Arena}
use Rattle.mcs_packing.specs.Packing.{GrowsBy, MOST_FAR, word_at}

-- the address: the number itself, or a word
abbrev pub address_of : PackedAddress → List ℕ → ℕ
address_of a ws = cond (nat_lt a.0 FIRST_FAR) a.0 (word_at ws (a.0 - FIRST_FAR))

-- a word that it names is there
abbrev pub AddressFits : PackedAddress → List ℕ → Type 0
AddressFits a ws = a.0 < FIRST_FAR + length ws

-- there is room for this many words
pub record HasWordRoom (a : Arena) (n : ℕ) : Type 0 where
  pub words : vec_len a.words + n ≤ vec_capacity a.words
  pub named : vec_len a.words + n ≤ MOST_FAR

-- an arena after at most this many words more
pub record GrewWords (n : ℕ) (a b : Arena) : Type 0 where
  pub words : GrowsBy a.words.items b.words.items
  pub wide : b.wide ≡ a.wide
  pub few : vec_len b.words ≤ vec_len a.words + n
  pub capacity : vec_capacity a.words ≤ vec_capacity b.words
