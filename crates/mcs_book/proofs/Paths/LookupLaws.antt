-- Lookup is the path: what it finds and what it refuses, both ways, where each CNode on the way has
-- an index of some bits.
use Rattle.std.specs.Prelude.{ℕ, zero, suc, ◌+◌, ◌≤◌, Bool, ◌≡◌, ◌≢◌, Option, Some, None, Ok, Err, List, [], ◌∷◌, ◌++◌, length, refl}
use Rattle.std.proofs.Common.{sym, ◌∙◌, ap, append_assoc, subst, inl, inr, arith}
use Rattle.std.proofs.lemmas.List.{length-append}
use Rattle.mcs_types.specs.declared.id.ObjId.{ObjId}
use Rattle.mcs_types.specs.declared.cap.Cap.{Cap}
use Rattle.mcs_types.specs.declared.entry.Refusal.{Refusal}
use Rattle.mcs_types.specs.declared.entry.Refusal.TheVariants.{Missing}
use Rattle.mcs_book.specs.Logs.{Log}
use Rattle.mcs_book.specs.Threads.{root_of}
use Rattle.mcs_book.specs.Checks.{Checked, ◌>>=◌, needed}
use Rattle.mcs_book.specs.Lookup.{Space, space_of, Reached, bits_of, walk, capability_from, capability, number_of_bits}
use Rattle.mcs_book.specs.Paths.{guard_of, next_cnode, IsPath, spelling, IsComplete, IsNamedFrom, IsNamed}
use Rattle.mcs_book.specs.LookupEnds.{Spells, IsStuck, EndsEmpty, IsUnnamedFrom, IsUnnamed}
use Rattle.mcs_book.proofs.Paths.PathLaws.{walk-complete}
use Rattle.mcs_book.proofs.Paths.PathSteps.{Path, complete-spells, SameFirst, spells-next, path-next, HasBits, bits-next}
use Rattle.mcs_book.proofs.Paths.PathRefusals.{complete-walk, Narrows, bits-narrow, walk-stuck, stuck-one}

-- as many bits as asked for
bits-length : (n a : ℕ) → length (bits_of n a) ≡ n
bits-length zero a = refl
bits-length (suc n) a = ap (λ m. suc m) (bits-length n a)

-- so some bits are not none
bits-are_some : (n a : ℕ) → 1 ≤ n → bits_of n a ≢ []
bits-are_some zero a le e = omega (arith, le)
bits-are_some (suc n) a le e = absurd cc

-- a path has no more indices than there are bits
path-short : (S : Space) (p : Path) (k : Cap) (bits left : List Bool) → HasBits S k → Spells S k bits p left → length p ≤ length bits
path-short S [] k bits left h s = omega arith
path-short S (index ∷ p) k bits left h s = go p refl (λ next x. path-short S p next x left)
  where
    x : List Bool
    x = spelling S (next_cnode S k index) p ++ left

    longer : suc (length x) ≤ length bits
    longer =
        let first : bits ≡ guard_of k ++ (index ++ x) = s.spells ∙ simp append_assoc in
        let all : length bits ≡ length (guard_of k ++ (index ++ x)) = ap length first in
        let e : length (guard_of k ++ (index ++ x)) ≡ length (guard_of k) + length (index ++ x) = length-append (guard_of k) _ in
        let f : length (index ++ x) ≡ length index + length x = length-append index x in
        let g : length index ≡ S.radix k.obj = s.is_path.0 in
        let some : 1 ≤ S.radix k.obj = h.here in
        omega (arith, all, e, f, g, some)

    mine : SameFirst S k x index index p left
    mine = record { same_index = refl; after = refl; is_path = s.is_path.1 }

    go : (q : Path) → p ≡ q → ((next : Cap) (y : List Bool) → HasBits S next → Spells S next y p left → length p ≤ length y) → suc (length p) ≤ length bits
    go [] is ih = let none : length p ≡ 0 = ap length is in omega (arith, longer, none)
    go (j ∷ q) is ih =
        let (next, leads) = path-next S (next_cnode S k index) j q (subst (λ (a : Path). IsPath S (next_cnode S k index) a) is s.is_path.1) in
        let le : length p ≤ length x = ih next x (bits-next S k k.obj (number_of_bits index) next h leads) (spells-next S k next x index index p left leads mine) in
        omega (arith, longer, le)

-- lookup finds the end of a complete path that spells n bits
pub finds-end : (S : Space) (k : Cap) (n a : ℕ) (p : Path) (at : Reached) → HasBits S k → n ≤ 64 → IsComplete S k (bits_of n a) p at → walk 64 S k (bits_of n a) ≡ Ok at
finds-end S k n a p at h le c =
    let short : length p ≤ length (bits_of n a) = path-short S p k (bits_of n a) at.left h (complete-spells S k (bits_of n a) p at c) in
    let e : length (bits_of n a) ≡ n = bits-length n a in
    complete-walk S p 64 k (bits_of n a) at h (omega (arith, short, e, le)) c

-- lookup of n bits is refused where it is stuck
pub stuck-end : (S : Space) (k : Cap) (n a : ℕ) (refusal : Refusal) → Narrows S k → 1 ≤ n → n ≤ 64 → walk 64 S k (bits_of n a) ≡ Err refusal → IsStuck S k (bits_of n a) refusal
stuck-end S k n a refusal h some le w = let e : length (bits_of n a) ≡ n = bits-length n a in walk-stuck 64 S k (bits_of n a) refusal h (bits-are_some n a some) (omega (arith, e, le)) w

-- and where it is stuck it is refused
pub stuck-refused : (S : Space) (k : Cap) (n a : ℕ) (refusal : Refusal) → Narrows S k → 1 ≤ n → n ≤ 64 → IsStuck S k (bits_of n a) refusal → walk 64 S k (bits_of n a) ≡ Err refusal
stuck-refused S k n a refusal h some le s = go (walk 64 S k (bits_of n a)) refl
  where
    go : (m : Checked Reached) → walk 64 S k (bits_of n a) ≡ m → m ≡ Err refusal
    go (Ok at) w = let (p, c) = walk-complete 64 S k (bits_of n a) at w in absurd (s.incomplete p at c)
    go (Err r) w = ap (λ x. Err x) (stuck-one S k (bits_of n a) r refusal (stuck-end S k n a r h some le w) s)

-- the law: lookup finds the capability that an address names from a root
pub named_from-found : (S : Space) (root : Cap) (address : ℕ) (k : Cap) → HasBits S root → IsNamedFrom S root address k → capability_from S root address ≡ Ok k
unfolding capability_from ◌>>=◌ needed
named_from-found S root address k h c =
    ap (λ m. m >>= (λ at. needed (S.slot at.cnode at.index) Missing)) (finds-end S root 64 address c.path c.at h (omega arith) c.along)
    ∙ ap (λ o. needed o Missing) c.there

-- the law: where lookup from a root is refused, the address names no capability from it
pub refused-unnamed_from : (S : Space) (root : Cap) (address : ℕ) (refusal : Refusal) → Narrows S root → capability_from S root address ≡ Err refusal → IsUnnamedFrom S root address refusal
unfolding capability_from ◌>>=◌ needed
refused-unnamed_from S root address refusal h w = walked (walk 64 S root (bits_of 64 address)) refl w
  where
    at_end : (at : Reached) → walk 64 S root (bits_of 64 address) ≡ Ok at → (o : Option Cap) → S.slot at.cnode at.index ≡ o → needed o Missing ≡ Err refusal → EndsEmpty S root (bits_of 64 address) × (refusal ≡ Missing)
    at_end at e None empty m = let (p, c) = walk-complete 64 S root (bits_of 64 address) at e in (record { path = p; at = at; along = c; empty = empty }, cc)
    at_end at e (Some k) empty m = absurd cc

    walked : (m : Checked Reached) → walk 64 S root (bits_of 64 address) ≡ m → (m >>= (λ at. needed (S.slot at.cnode at.index) Missing)) ≡ Err refusal → IsUnnamedFrom S root address refusal
    walked (Ok at) e m = inl (at_end at e (S.slot at.cnode at.index) refl m)
    walked (Err r) e m = let it : r ≡ refusal = cc in inr (stuck-end S root 64 address refusal h (omega arith) (omega arith) (e ∙ ap (λ x. Err x) it))

-- the law: where an address names no capability from a root, lookup is refused so
pub unnamed_from-refused : (S : Space) (root : Cap) (address : ℕ) (refusal : Refusal) → HasBits S root → IsUnnamedFrom S root address refusal → capability_from S root address ≡ Err refusal
unfolding capability_from ◌>>=◌ needed
unnamed_from-refused S root address refusal h (inl (e, is)) =
    ap (λ m. m >>= (λ at. needed (S.slot at.cnode at.index) Missing)) (finds-end S root 64 address e.path e.at h (omega arith) e.along)
    ∙ ap (λ o. needed o Missing) e.empty ∙ ap (λ r. Err r) (sym is)
unnamed_from-refused S root address refusal h (inr s) =
    ap (λ m. m >>= (λ at. needed (S.slot at.cnode at.index) Missing)) (stuck-refused S root 64 address refusal (bits-narrow S root h) (omega arith) (omega arith) s)

-- the root of t has indices of some bits, and so have all CNodes on the way
abbrev pub RootHasBits : Log → ObjId → Type 0
RootHasBits R t = (root : Cap) → root_of R t ≡ Some root → HasBits (space_of R) root

-- lookup from a known root
pub from-root : (R : Log) (t : ObjId) (address : ℕ) (root : Cap) → root_of R t ≡ Some root → capability R t address ≡ capability_from (space_of R) root address
unfolding capability ◌>>=◌ needed
from-root R t address root is = ap (λ o. needed o Missing >>= (λ root. capability_from (space_of R) root address)) is

-- lookup without a root
pub without-root : (R : Log) (t : ObjId) (address : ℕ) → root_of R t ≡ None → capability R t address ≡ Err Missing
unfolding capability ◌>>=◌ needed
without-root R t address none = ap (λ o. needed o Missing >>= (λ root. capability_from (space_of R) root address)) none

-- the law: lookup finds the capability that t names
pub named-found : (R : Log) (t : ObjId) (address : ℕ) (k : Cap) → RootHasBits R t → IsNamed R t address k → capability R t address ≡ Ok k
named-found R t address k h c = from-root R t address c.root c.from ∙ named_from-found (space_of R) c.root address k (h c.root c.from) c.named

-- the law: where lookup of a capability is refused, t names none
pub refused-unnamed : (R : Log) (t : ObjId) (address : ℕ) (refusal : Refusal) → RootHasBits R t → capability R t address ≡ Err refusal → IsUnnamed R t address refusal
refused-unnamed R t address refusal h w = from (root_of R t) refl
  where
    from : (o : Option Cap) → root_of R t ≡ o → IsUnnamed R t address refusal
    from None none = let clash : Err Missing ≡ Err refusal = sym (without-root R t address none) ∙ w in inl (none, cc)
    from (Some root) is =
        let found : capability_from (space_of R) root address ≡ Err refusal = sym (from-root R t address root is) ∙ w in
        inr (root, is, refused-unnamed_from (space_of R) root address refusal (bits-narrow (space_of R) root (h root is)) found)

-- the law: where t names no capability, lookup is refused so
pub unnamed-refused : (R : Log) (t : ObjId) (address : ℕ) (refusal : Refusal) → RootHasBits R t → IsUnnamed R t address refusal → capability R t address ≡ Err refusal
unnamed-refused R t address refusal h (inl (none, is)) = without-root R t address none ∙ ap (λ r. Err r) (sym is)
unnamed-refused R t address refusal h (inr (root, from, none)) = from-root R t address root from ∙ unnamed_from-refused (space_of R) root address refusal (h root from) none
