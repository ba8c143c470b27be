-- What is added to an arena leaves earlier addresses as they were.
use Rattle.std.proofs.Common.{◌≡◌, ℕ, Bool, true, false, cond, nat_lt, ◌≤◌, ◌+◌, ◌-◌, List, ◌++◌, ◌∙◌, refl, arith, length-append}
use Rattle.mcs_packing.specs.declared.addresses.PackedAddress.{PackedAddress}
use Rattle.mcs_packing.specs.declared.addresses.TheConstants.{FIRST_FAR}
use Rattle.mcs_packing.specs.declared.arena.Arena.{Arena}
use Rattle.mcs_packing.specs.Packing.{word_at, GrewHead}
use Rattle.mcs_packing.specs.Addresses.{AddressFits, GrewWords, address_of}
use Rattle.mcs_packing.proofs.Packings.{word_at-grows, GrowsBy-then}

-- an address
pub address_of-grows : (a : PackedAddress) (ws more : List ℕ) → AddressFits a ws → address_of a (ws ++ more) ≡ address_of a ws
address_of-grows a ws more h = go (nat_lt a.0 FIRST_FAR) refl
  where
    go : (b : Bool) → nat_lt a.0 FIRST_FAR ≡ b → cond b a.0 (word_at (ws ++ more) (a.0 - FIRST_FAR)) ≡ cond b a.0 (word_at ws (a.0 - FIRST_FAR))
    go true near = refl
    go false near =
        let far : FIRST_FAR ≤ a.0 = grind arith in
        word_at-grows ws more (a.0 - FIRST_FAR) (omega (arith, h, far))

pub AddressFits-grows : (a : PackedAddress) (ws more : List ℕ) → AddressFits a ws → AddressFits a (ws ++ more)
AddressFits-grows a ws more h = omega (arith, h, length-append ws more)

-- words that were added one after the other
pub GrewWords-then : (j k : ℕ) (a b c : Arena) → GrewWords j a b → GrewWords k b c → GrewWords (j + k) a c
GrewWords-then j k a b c g h = record {
  words = GrowsBy-then _ _ _ g.words h.words;
  wide = h.wide ∙ g.wide;
  few = omega (arith, g.few, h.few);
  capacity = omega (arith, g.capacity, h.capacity);
}

-- no more words than an entry may keep
pub GrewHead-of : (n : ℕ) (a b : Arena) → n ≤ 124 → GrewWords n a b → GrewHead a b
GrewHead-of n a b le g = record {
  words = g.words;
  wide = g.wide;
  few = omega (arith, le, g.few);
  capacity = g.capacity;
  room = λ k h. record { words = omega (arith, le, h.words, g.few, g.capacity); named = omega (arith, le, h.named, g.few) };
}
