-- What lookup finds in a firm log: a capability to an object that is there, and a slot of a CNode
-- that is there.
use Rattle.std.specs.Prelude.{ℕ, zero, suc, ◌+◌, ◌*◌, ◌<◌, ◌^◌, Bool, true, false, cond, ◌≡◌, List, [], ◌∷◌, length, fold, Option, Some, None, Ok, Err, refl}
use Rattle.std.proofs.Common.{sym, ◌∙◌, ap, arith, subst}
use Rattle.std.proofs.Math.Nat.{pow-suc}
use Rattle.mcs_types.specs.declared.id.ObjId.{ObjId}
use Rattle.mcs_types.specs.declared.id.Kind.{Kind}
use Rattle.mcs_types.specs.declared.id.Kind.TheVariants as kind
use Rattle.mcs_types.specs.declared.cap.Cap.{Cap}
use Rattle.mcs_types.specs.declared.cap.Place.{Place}
use Rattle.mcs_types.specs.declared.entry.Refusal.{Refusal}
use Rattle.mcs_types.specs.declared.entry.Refusal.TheVariants.{Missing, WrongKind}
use Rattle.mcs_types.specs.Ids.{same_kind}
use Rattle.mcs_book.specs.Logs.{Log}
use Rattle.mcs_book.specs.Objects.{is_alive, form_of}
use Rattle.mcs_book.specs.Slots.{SlotName, slot}
use Rattle.mcs_book.specs.Threads.{root_of}
use Rattle.mcs_book.specs.Checks.{Checked, ◌>>◌, need, needed}
use Rattle.mcs_book.specs.Rights.{is_kind}
use Rattle.mcs_book.specs.Lookup.{space_of, Reached, number_of_bits, radix_kept, level, cnode_cap, goes_on, walk, capability_from, capability, of_kind, slot_from, slot_named, bits_of}
use Rattle.mcs_book.specs.Sound.{IsThere, Sound}
use Rattle.mcs_types.proofs.Ids.{same_kind-equal}
use Rattle.mcs_book.proofs.Books.Checking.{OnPassed, passed-ok, passed-err, passed-after, passed-next}
use Rattle.mcs_book.proofs.Paths.PathLaws.{Level, level-spells, goes-next}
use Rattle.mcs_book.proofs.SoundLogs.KeptLaws.{slot-alive}
use Rattle.mcs_book.proofs.Firm.Laws.{Firm, firm-sound, slot-badge, root-there}

-- after a test that is passed
pub passed-need : {B : Type 0} (P : B → Type 0) (b : Bool) (why : Refusal) (next : Checked B) → (b ≡ true → OnPassed P next) → OnPassed P (need b why >> next)
unfolding OnPassed ◌>>◌ need
passed-need P true why next h = h refl
passed-need P false why next h = tt

-- where there must be one
pub passed-needed : {A : Type 0} (P : A → Type 0) (o : Option A) (why : Refusal) → ((x : A) → o ≡ Some x → P x) → OnPassed P (needed o why)
unfolding OnPassed needed
passed-needed P (Some x) why h = h x refl
passed-needed P None why h = tt

-- what is known of a result holds of it where it is passed
passed-known : {A : Type 0} (P : A → Type 0) (m : Checked A) → ((x : A) → m ≡ Ok x → P x) → OnPassed P m
unfolding OnPassed
passed-known P (Ok x) h = h x refl
passed-known P (Err why) h = tt

-- what follows from it holds where it is passed
pub passed-map : {A : Type 0} (P Q : A → Type 0) (m : Checked A) → ((x : A) → P x → Q x) → OnPassed P m → OnPassed Q m
unfolding OnPassed
passed-map P Q (Ok x) f h = f x h
passed-map P Q (Err why) f h = tt

-- a number of this many bits, and more bits after it
bits-below : (bits : List Bool) (n k : ℕ) → n < 2 ^ k → fold (λ n b. 2 * n + cond b 1 0) n bits < 2 ^ (k + length bits)
bits-below [] n k lt = let none : k ≡ k + 0 = omega arith in subst (λ (m : ℕ). n < 2 ^ m) none lt
bits-below (b ∷ bits) n k lt =
    let doubled : 2 ^ suc k ≡ 2 ^ k * 2 = pow-suc 2 k in
    let next : 2 * n + cond b 1 0 < 2 ^ suc k = bit b (2 ^ k) (2 ^ suc k) doubled lt in
    let rest : fold (λ n b. 2 * n + cond b 1 0) (2 * n + cond b 1 0) bits < 2 ^ (suc k + length bits) = bits-below bits (2 * n + cond b 1 0) (suc k) next in
    let lengths : suc k + length bits ≡ k + suc (length bits) = omega arith in
    subst (λ (m : ℕ). fold (λ n b. 2 * n + cond b 1 0) (2 * n + cond b 1 0) bits < 2 ^ m) lengths rest
  where
    bit : (b : Bool) (p q : ℕ) → q ≡ p * 2 → n < p → 2 * n + cond b 1 0 < q
    bit true p q e lt = omega arith
    bit false p q e lt = omega arith

-- the number that bits spell is below their power
number-below : (bits : List Bool) → number_of_bits bits < 2 ^ length bits
number-below bits =
    let same_length : 0 + length bits ≡ length bits = omega arith in
    subst (λ (n : ℕ). number_of_bits bits < 2 ^ n) same_length (bits-below bits 0 0 (omega arith))

-- index i is of a slot of the CNode c, which is there
pub record IsSlotOf (R : Log) (c : ObjId) (i : ℕ) : Type 0 where
  pub there : IsThere R kind.CNode c
  pub within : i < 2 ^ radix_kept (form_of R c)

-- one level ends at such a slot
level-slot : (R : Log) (cap : Cap) (bits : List Bool) (at : Reached) → IsThere R kind.CNode cap.obj → level (space_of R) cap bits ≡ Ok at → IsSlotOf R at.cnode at.index
level-slot R cap bits at there h =
    let l : Level (space_of R) cap bits at = level-spells (space_of R) cap bits at h in
    let below : number_of_bits l.index < 2 ^ length l.index = number-below l.index in
    let index : number_of_bits l.index < 2 ^ radix_kept (form_of R cap.obj) = subst (λ (n : ℕ). number_of_bits l.index < 2 ^ n) l.fits below in
    let placed : at.index < 2 ^ radix_kept (form_of R cap.obj) = subst (λ (n : ℕ). n < 2 ^ radix_kept (form_of R cap.obj)) (sym l.at_index) index in
    subst (λ (c : ObjId). IsSlotOf R c at.index) (sym l.in_cnode) (record { there = there; within = placed })

-- a capability to a CNode
cnode-some : (o : Option Cap) (next : Cap) → cnode_cap o ≡ Some next → (o ≡ Some next) × (next.obj.kind ≡ kind.CNode)
cnode-some None next h = absurd cc
cnode-some (Some cap) next h = go (same_kind cap.obj.kind kind.CNode) refl h
  where
    go : (b : Bool) → same_kind cap.obj.kind kind.CNode ≡ b → cond b (Some cap) None ≡ Some next → (Some cap ≡ Some next) × (next.obj.kind ≡ kind.CNode)
    go true e k = (k, let it : cap ≡ next = cc in sym (ap (λ (z : Cap). z.obj.kind) it) ∙ same_kind-equal cap.obj.kind kind.CNode e)
    go false e k = absurd cc

-- a walk ends at such a slot
walk-slot : (steps : ℕ) (R : Log) (cap : Cap) (bits : List Bool) → Sound R → IsThere R kind.CNode cap.obj → OnPassed (λ (at : Reached). IsSlotOf R at.cnode at.index) (walk steps (space_of R) cap bits)
walk-slot zero R cap bits sound there = passed-err _ _
walk-slot (suc steps) R cap bits sound there = passed-after (λ (at : Reached). IsSlotOf R at.cnode at.index) _ (level (space_of R) cap bits) _ (passed-known _ (level (space_of R) cap bits) (λ at is. level-slot R cap bits at there is)) (λ at is. on at is (goes_on (space_of R) at) refl (λ next k. walk-slot steps R next at.left sound k))
  where
    on : (at : Reached) → IsSlotOf R at.cnode at.index → (o : Option Cap) → goes_on (space_of R) at ≡ o → ((next : Cap) → IsThere R kind.CNode next.obj → OnPassed (λ (a : Reached). IsSlotOf R a.cnode a.index) (walk steps (space_of R) next at.left))
        → OnPassed (λ (a : Reached). IsSlotOf R a.cnode a.index) (elim o [ None ↦ Ok at | Some next ↦ walk steps (space_of R) next at.left ])
    on at is None e later = passed-ok _ _ is
    on at is (Some next) e later =
        let s : (slot R at.cnode at.index ≡ Some next) × (next.obj.kind ≡ kind.CNode) = cnode-some (slot R at.cnode at.index) next (goes-next (space_of R) at next e) in
        later next (s.1, slot-alive R at.cnode at.index next sound s.0)

-- a capability that a slot holds: its object is there, and its badge is of 64 bits
pub record IsHeld (R : Log) (cap : Cap) : Type 0 where
  pub alive : is_alive R cap.obj ≡ true
  pub small : cap.badge.0 < 2 ^ 64

-- what a slot holds is such a capability
pub slot-held : (R : Log) (c : ObjId) (i : ℕ) (cap : Cap) → Firm R → slot R c i ≡ Some cap → IsHeld R cap
slot-held R c i cap firm h = record { alive = slot-alive R c i cap (firm-sound R firm) h; small = slot-badge R c i cap firm h }

-- so is what an address names
pub capability-held : (R : Log) (t : ObjId) (address : ℕ) → Firm R → OnPassed (IsHeld R) (capability R t address)
unfolding capability capability_from
capability-held R t address firm =
    passed-after (λ (root : Cap). IsThere R kind.CNode root.obj) (IsHeld R) (needed (root_of R t) Missing) _ (passed-needed _ (root_of R t) Missing (λ root is. root-there R t root firm is))
    (λ root there. passed-after (λ (at : Reached). IsSlotOf R at.cnode at.index) (IsHeld R) (walk 64 (space_of R) root (bits_of 64 address)) _ (walk-slot 64 R root (bits_of 64 address) (firm-sound R firm) there)
    (λ at is. passed-needed (IsHeld R) (slot R at.cnode at.index) Missing (λ cap held. slot-held R at.cnode at.index cap firm held)))

-- and it is of the kind that is wanted
pub record IsHeldOf (R : Log) (k : Kind) (cap : Cap) : Type 0 where
  pub there : IsThere R k cap.obj
  pub small : cap.badge.0 < 2 ^ 64

-- a capability of a kind at an address
pub of_kind-held : (R : Log) (t : ObjId) (k : Kind) (address : ℕ) → Firm R → OnPassed (IsHeldOf R k) (of_kind R t k address)
unfolding of_kind
of_kind-held R t k address firm = passed-after (IsHeld R) (IsHeldOf R k) (capability R t address) _ (capability-held R t address firm) (λ cap held.
    passed-need (IsHeldOf R k) (is_kind k cap) WrongKind (Ok cap) (λ e. passed-ok _ _ (record { there = (same_kind-equal cap.obj.kind k e, held.alive); small = held.small })))

-- the slot that an index and a depth name from a root that is there
pub slot_named-rooted : (R : Log) (t : ObjId) (place : Place) → Sound R → ((root : Cap) → root_of R t ≡ Some root → IsThere R kind.CNode root.obj) → OnPassed (λ (at : SlotName). IsSlotOf R at.cnode at.index) (slot_named R t place)
unfolding slot_named slot_from
slot_named-rooted R t place sound rooted =
    passed-next _ _ _ (passed-after (λ (root : Cap). IsThere R kind.CNode root.obj) _ (needed (root_of R t) Missing) _ (passed-needed _ (root_of R t) Missing rooted)
    (λ root there. passed-next _ _ _ (passed-after (λ (at : Reached). IsSlotOf R at.cnode at.index) _ (walk 64 (space_of R) root (bits_of place.depth place.index)) _ (walk-slot 64 R root (bits_of place.depth place.index) sound there)
    (λ at is. passed-next _ _ _ (passed-ok _ _ is)))))

-- the slot that an index and a depth name
pub slot_named-slot : (R : Log) (t : ObjId) (place : Place) → Firm R → OnPassed (λ (at : SlotName). IsSlotOf R at.cnode at.index) (slot_named R t place)
slot_named-slot R t place firm = slot_named-rooted R t place (firm-sound R firm) (λ root is. root-there R t root firm is)
