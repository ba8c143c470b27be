-- The space of slots: a radix is at least 1 where a slot holds a capability.
use Rattle.std.specs.Prelude.{ℕ, zero, suc, ◌≡◌, ◌≤◌, List, [], ◌∷◌, Option, Some, None, unwrap_or, slice_get}
use Rattle.std.proofs.Common.{refl, subst}
use Rattle.mcs_types.specs.declared.id.ObjId.{ObjId}
use Rattle.mcs_types.specs.declared.cap.Cap.{Cap}
use Rattle.mcs_book.specs.Lookup.{cnode_cap}
use Rattle.mcs_book.proofs.Paths.PathRefusals.{Narrows}
use Rattle.mcs_slots.specs.Pages.{Page, IsPage, ArePages, page_of, page_at, page_radix, page_slot, radix_of, slot_at}
use Rattle.mcs_slots.specs.Numbers.{number_of}
use Rattle.mcs_cspace.specs.Spaces.{slots_space}

-- each page is one
page-good : (P : List Page) (n : ℕ) (p : Page) → ArePages P → slice_get P n ≡ Some p → IsPage p
page-good [] n p h is = absurd cc
page-good (q ∷ P) zero p h is = let it : q ≡ p = cc in subst IsPage it h.0
page-good (q ∷ P) (suc n) p h is = page-good P n p h.1 is

-- so that of a CNode
cnode-good : (P : List Page) (o : Option ℕ) (p : Page) → ArePages P → page_of P o ≡ Some p → IsPage p
cnode-good P None p h is = absurd cc
cnode-good P (Some n) p h is = page-good P n p h is

-- a radix is at least 1 where a slot of the CNode holds a capability to a CNode
radix-some : (P : List Page) (c : ObjId) (i : ℕ) (next : Cap) → ArePages P → cnode_cap (slot_at P c i) ≡ Some next → 1 ≤ unwrap_or (radix_of P c) 0
radix-some P c i next h = go (page_at P c) refl
  where
    go : (o : Option Page) → page_at P c ≡ o → cnode_cap (page_slot o i) ≡ Some next → 1 ≤ unwrap_or (page_radix o) 0
    go None is e = absurd cc
    go (Some p) is e = (cnode-good P (number_of c) p h is).0

-- so each level after which lookup continues takes a bit at least
pub slots-narrow : (P : List Page) (root : Cap) → ArePages P → Narrows (slots_space P) root
slots-narrow P root h = record { here = λ i next e. radix-some P root.obj i next h e; within = λ c i next e j more f. radix-some P next.obj j more h f }
