-- An address that is computed leads to its slot.
use Rattle.std.specs.Prelude.{ℕ, zero, suc, ◌≡◌, ◌<◌, ◌≤◌, ◌+◌, ◌-◌, ◌*◌, ◌/◌, ◌%◌, ◌^◌, ◌==◌, Bool, true, false, cond, nat_le, Option, Some, None, Result, Ok, Err}
use Rattle.std.proofs.Common.{refl, ap, sym, ◌∙◌, arith, subst, ◌⊎◌, inl, inr}
use Rattle.std.proofs.lemmas.Grind.{common_steps}
use Rattle.std.proofs.lemmas.Bool.{eq-eqb}
use Rattle.std.proofs.lemmas.Nat.{pow-add, pow_pos, div-mul-add, div-add-mod'}
use Rattle.std.proofs.Math.Pow.{pow_mono}
use Rattle.std.proofs.Math.Nat.{div-eq_of_lt, mod-eq_of_lt, mod-lt, mod-one, add-mul, mul_assoc, mul-le-mul_right, lt-div-mul-add, div-mul-le_self}
use Rattle.mcs_types.specs.declared.id.ObjId.{ObjId}
use Rattle.mcs_types.specs.declared.cap.Cap.{Cap}
use Rattle.mcs_types.specs.declared.cap.Guard.{Guard}
use Rattle.mcs_types.specs.declared.entry.Refusal.TheVariants.{Missing, DepthMismatch, GuardMismatch}
use Rattle.mcs_book.specs.Checks.{Checked, ◌>>=◌, needed}
use Rattle.mcs_book.specs.Lookup.{Space, Reached, bits_of, walk, cnode_cap, capability_from}
use Rattle.mcs_cspace.specs.Levels.{level_at}
use Rattle.mcs_cspace.proofs.Numbering.{different}
use Rattle.mcs_cspace.proofs.Walking.{step-ends, step-on}
use Rattle.mcs_plan_layout.specs.declared.layout.Layout.{Layout}
use Rattle.mcs_plan_layout.specs.SpaceLayouts.{index_bits, IsLaidOut, zero_guard}
use Rattle.mcs_plan_layout.specs.Holding.{IsRoot, IsInRoot, IsInLeaf, Stands, Holds, IsAddressOf}

-- a level whose guard is met
pub level-met : (guard : Guard) (r n a m : ℕ) → n ≡ guard.bits + (r + m) → a / 2 ^ (r + m) % 2 ^ guard.bits ≡ guard.value % 2 ^ guard.bits
    → level_at guard r n a ≡ Ok (record { index = a / 2 ^ m % 2 ^ r; left = m })
unfolding level_at
level-met guard r n a m whole met =
    let after : n - guard.bits ≡ r + m = omega (arith, whole) in
    let left : n - guard.bits - r ≡ m = omega (arith, whole) in
    let fits : nat_le guard.bits n ≡ true = grind (arith, common_steps, whole) in
    let long : nat_le r (n - guard.bits) ≡ true = grind (arith, common_steps, after) in
    let test : (a / 2 ^ (n - guard.bits) % 2 ^ guard.bits == guard.value % 2 ^ guard.bits) ≡ true =
    ap (λ k. a / 2 ^ k % 2 ^ guard.bits == guard.value % 2 ^ guard.bits) after ∙ eq-eqb _ _ met in
    λ i. cond (fits i) (cond (test i) (cond (long i) (Ok (record { index = a / 2 ^ (left i) % 2 ^ r; left = left i })) (Err DepthMismatch)) (Err GuardMismatch)) (Err GuardMismatch)

-- a number below a power, in front of others, is below the power of both
pub front-below : (x r w j : ℕ) → x < 2 ^ r → j < 2 ^ w → x * 2 ^ w + j < 2 ^ (r + w)
front-below x r w j hx hj =
    let sum : 2 ^ (r + w) ≡ 2 ^ r * 2 ^ w = pow-add 2 r w in
    let more : (x + 1) * 2 ^ w ≤ 2 ^ r * 2 ^ w = mul-le-mul_right (2 ^ w) (omega (arith, hx)) in
    let one : (x + 1) * 2 ^ w ≡ x * 2 ^ w + 1 * 2 ^ w = add-mul x 1 (2 ^ w) in
    omega (arith, sum, more, one, hj)

-- the level of the root, where its CNode has all slots
root-level : (S : Space) (root : Cap) (r w slot j : ℕ) → r + w ≤ 64 → root.guard ≡ zero_guard (64 - (r + w)) → S.radix root.obj ≡ r → slot < 2 ^ r → j < 2 ^ w
    → level_at root.guard (S.radix root.obj) 64 (slot * 2 ^ w + j) ≡ Ok (record { index = slot; left = w })
root-level S root r w slot j fits guarded radix hs hj =
    (λ i. level_at (guarded i) (radix i) 64 a)
    ∙ level-met (zero_guard (64 - (r + w))) r 64 a w (omega (arith, fits)) none
    ∙ (λ i. Ok (record { index = index i; left = w }))
  where
    a : ℕ
    a = slot * 2 ^ w + j

    none : a / 2 ^ (r + w) % 2 ^ (64 - (r + w)) ≡ 0 % 2 ^ (64 - (r + w))
    none = ap (λ x. x % 2 ^ (64 - (r + w))) (div-eq_of_lt (front-below slot r w j hs hj))

    index : a / 2 ^ w % 2 ^ r ≡ slot
    index = ap (λ x. x % 2 ^ r) (div-mul-add slot (2 ^ w) j hj) ∙ mod-eq_of_lt hs

-- a larger space has as many slots as are asked for
pub larger_enough : (n r : ℕ) → (1 + (n - 1) / 256 ≤ 256 → 1 + (n - 1) / 256 ≤ 2 ^ r) → n ≤ 65536 → n ≤ 2 ^ (r + 8)
larger_enough n r enough few =
    let above : n - 1 < (n - 1) / 256 * 256 + 256 = lt-div-mul-add (omega arith) in
    let below : (n - 1) / 256 * 256 ≤ n - 1 = div-mul-le_self (n - 1) 256 in
    let leaves : 1 + (n - 1) / 256 ≤ 2 ^ r = enough (omega (arith, below, few)) in
    let more : (1 + (n - 1) / 256) * 256 ≤ 2 ^ r * 256 = mul-le-mul_right 256 leaves in
    let power : 2 ^ (r + 8) ≡ 2 ^ r * 256 = pow-add 2 r 8 in
    omega (arith, above, more, power)

-- the level of a CNode after the root
leaf-level : (S : Space) (next : Cap) (w slot j : ℕ) → next.guard ≡ zero_guard 0 → S.radix next.obj ≡ 8 → j < 2 ^ w
    → level_at next.guard (S.radix next.obj) (8 + w) (slot * 2 ^ w + j) ≡ Ok (record { index = slot % 2 ^ 8; left = w })
leaf-level S next w slot j unguarded radix hj =
    (λ i. level_at (unguarded i) (radix i) (8 + w) (slot * 2 ^ w + j))
    ∙ level-met (zero_guard 0) 8 (8 + w) (slot * 2 ^ w + j) w (omega arith) none
    ∙ (λ i. Ok (record { index = index i; left = w }))
  where
    none : (slot * 2 ^ w + j) / 2 ^ (8 + w) % 2 ^ 0 ≡ 0 % 2 ^ 0
    none = mod-one ((slot * 2 ^ w + j) / 2 ^ (8 + w)) ∙ sym (mod-one 0)

    index : (slot * 2 ^ w + j) / 2 ^ w % 2 ^ 8 ≡ slot % 2 ^ 8
    index = ap (λ x. x % 2 ^ 8) (div-mul-add slot (2 ^ w) j hj)

-- an index of two levels: the first of them, and the rest
two-parts : (w slot j : ℕ) → slot * 2 ^ w + j ≡ slot / 2 ^ 8 * 2 ^ (8 + w) + (slot % 2 ^ 8 * 2 ^ w + j)
two-parts w slot j =
    let parts : slot ≡ slot / 2 ^ 8 * 2 ^ 8 + slot % 2 ^ 8 = sym (div-add-mod' slot (2 ^ 8)) in
    let split : (slot / 2 ^ 8 * 2 ^ 8 + slot % 2 ^ 8) * 2 ^ w ≡ slot / 2 ^ 8 * 2 ^ 8 * 2 ^ w + slot % 2 ^ 8 * 2 ^ w = add-mul (slot / 2 ^ 8 * 2 ^ 8) (slot % 2 ^ 8) (2 ^ w) in
    let whole : slot * 2 ^ w ≡ (slot / 2 ^ 8 * 2 ^ 8 + slot % 2 ^ 8) * 2 ^ w = ap (λ k. k * 2 ^ w) parts in
    let power : slot / 2 ^ 8 * 2 ^ 8 * 2 ^ w ≡ slot / 2 ^ 8 * 2 ^ (8 + w) = mul_assoc (slot / 2 ^ 8) (2 ^ 8) (2 ^ w) ∙ ap (λ p. slot / 2 ^ 8 * p) (sym (pow-add 2 8 w)) in
    let all : slot * 2 ^ w ≡ slot / 2 ^ 8 * 2 ^ (8 + w) + slot % 2 ^ 8 * 2 ^ w = whole ∙ split ∙ ap (λ p. p + slot % 2 ^ 8 * 2 ^ w) power in
    omega (arith, all)

-- the first index of two is below the root's number of slots
first-below : (r slot : ℕ) → slot < 2 ^ (r + 8) → slot / 2 ^ 8 < 2 ^ r
first-below r slot h =
    let power : 2 ^ (r + 8) ≡ 2 ^ r * 256 = pow-add 2 r 8 in
    let below : slot / 256 * 256 ≤ slot = div-mul-le_self slot 256 in
    omega (arith, h, power, below)

-- a choice between a thing and itself
both-ways : (b : Bool) (o : Option Cap) → cond b o o ≡ o
both-ways true o = refl
both-ways false o = refl

-- where lookup ends: no bits are left, or the slot holds no capability to a CNode
ends-none : (w : ℕ) (o : Option Cap) → (w ≡ 0) ⊎ (cnode_cap o ≡ None) → cond (w == 0) None (cnode_cap o) ≡ None
ends-none w o (inl e) = ap (λ b. cond b None (cnode_cap o)) (eq-eqb w 0 e)
ends-none w o (inr e) = ap (λ x. cond (w == 0) None x) e ∙ both-ways (w == 0) None

-- the capability at the end of a walk
found : (S : Space) (root cap : Cap) (a w i : ℕ) (c : ObjId) → walk 64 S root (bits_of 64 a) ≡ Ok (record { cnode = c; index = i; left = bits_of w a })
    → S.slot c i ≡ Some cap → capability_from S root a ≡ Ok cap
unfolding capability_from ◌>>=◌ needed
found S root cap a w i c walked there =
    ap (λ m. m >>= λ at. needed (S.slot at.cnode at.index) Missing) walked ∙ ap (λ o. needed o Missing) there

-- the law, for a space that is one CNode
in-root : (S : Space) (root cap : Cap) (r w slot : ℕ) → r + w ≤ 64 → root.guard ≡ zero_guard (64 - (r + w)) → S.radix root.obj ≡ r → slot < 2 ^ r
    → S.slot root.obj slot ≡ Some cap → (w ≡ 0) ⊎ (cnode_cap (Some cap) ≡ None) → capability_from S root (slot * 2 ^ w + 0) ≡ Ok cap
in-root S root cap r w slot fits guarded radix hs there last =
    found S root cap (slot * 2 ^ w + 0) w slot root.obj
    (step-ends 63 S root 64 (slot * 2 ^ w + 0) (record { index = slot; left = w })
    (root-level S root r w slot 0 fits guarded radix hs (pow_pos w))
    (ap (λ o. cond (w == 0) None (cnode_cap o)) there ∙ ends-none w (Some cap) last)) there

-- the law, for a larger space
leaf-root : (S : Space) (root next cap : Cap) (r w slot : ℕ) → r + (8 + w) ≤ 64 → root.guard ≡ zero_guard (64 - (r + (8 + w))) → S.radix root.obj ≡ r → slot < 2 ^ (r + 8)
    → cnode_cap (S.slot root.obj (slot / 2 ^ 8)) ≡ Some next → next.guard ≡ zero_guard 0 → S.radix next.obj ≡ 8
    → S.slot next.obj (slot % 2 ^ 8) ≡ Some cap → (w ≡ 0) ⊎ (cnode_cap (Some cap) ≡ None) → capability_from S root (slot * 2 ^ w + 0) ≡ Ok cap
leaf-root S root next cap r w slot fits guarded radix hs to_next unguarded leaf there last =
    found S root cap a w (slot % 2 ^ 8) next.obj (first ∙ second) there
  where
    a : ℕ
    a = slot * 2 ^ w + 0

    root-step : level_at root.guard (S.radix root.obj) 64 a ≡ Ok (record { index = slot / 2 ^ 8; left = 8 + w })
    root-step =
        ap (λ k. level_at root.guard (S.radix root.obj) 64 k) (two-parts w slot 0)
        ∙ root-level S root r (8 + w) (slot / 2 ^ 8) (slot % 2 ^ 8 * 2 ^ w + 0) fits guarded radix (first-below r slot hs)
        (front-below (slot % 2 ^ 8) 8 w 0 (mod-lt slot (omega arith)) (pow_pos w))

    goes : cond (8 + w == 0) None (cnode_cap (S.slot root.obj (slot / 2 ^ 8))) ≡ Some next
    goes = ap (λ b. cond b None (cnode_cap (S.slot root.obj (slot / 2 ^ 8)))) (different (8 + w) 0 (λ e. omega (arith, e))) ∙ to_next

    first : walk 64 S root (bits_of 64 a) ≡ walk 63 S next (bits_of (8 + w) a)
    first = step-on 63 S root next 64 a (record { index = slot / 2 ^ 8; left = 8 + w }) root-step goes

    second : walk 63 S next (bits_of (8 + w) a) ≡ Ok (record { cnode = next.obj; index = slot % 2 ^ 8; left = bits_of w a })
    second = step-ends 62 S next (8 + w) a (record { index = slot % 2 ^ 8; left = w }) (leaf-level S next w slot 0 unguarded leaf (pow_pos w))
        (ap (λ o. cond (w == 0) None (cnode_cap o)) there ∙ ends-none w (Some cap) last)

-- the law: the address of a slot names what the slot holds
pub own_is_named : (l : Layout) (slot : ℕ) → IsLaidOut l → slot < 2 ^ (l.root + l.leaf) → IsAddressOf l slot (slot * 2 ^ l.within)
own_is_named l slot laid hs S root cap h =
    let more : slot * 2 ^ l.within ≡ slot * 2 ^ l.within + 0 = omega arith in
    ap (λ a. capability_from S root a) more ∙ go h.stands
  where
    go : Stands S root l slot h.cnode h.index → capability_from S root (slot * 2 ^ l.within + 0) ≡ Ok cap
    go (inl one) =
        let bits : index_bits l ≡ l.root + l.within = omega (arith, one.alone) in
        let own : l.root + l.leaf ≡ l.root = omega (arith, one.alone) in
        in-root S root cap l.root l.within slot (omega (arith, laid.root, laid.within))
        (h.of_root.guard ∙ ap (λ k. zero_guard (64 - k)) bits) h.of_root.radix (subst (λ k. slot < 2 ^ k) own hs)
        ((λ i. S.slot (sym one.cnode i) (sym one.index i)) ∙ h.there) h.last
    go (inr two) =
        let bits : index_bits l ≡ l.root + (8 + l.within) = omega (arith, two.has_leaf) in
        let own : l.root + l.leaf ≡ l.root + 8 = omega (arith, two.has_leaf) in
        leaf-root S root two.next cap l.root l.within slot (omega (arith, laid.root, laid.within))
        (h.of_root.guard ∙ ap (λ k. zero_guard (64 - k)) bits) h.of_root.radix (subst (λ k. slot < 2 ^ k) own hs)
        two.there two.unguarded two.radix
        ((λ i. S.slot (sym two.cnode i) (sym two.index i)) ∙ h.there) h.last

-- a space has no more slots than this
pub few_slots : (l : Layout) (index : ℕ) → IsLaidOut l → index < 2 ^ (l.root + l.leaf) → index < 65536
few_slots l index laid inside =
    let most : 2 ^ (l.root + l.leaf) ≤ 2 ^ 16 = pow_mono {j = 16} (omega (arith, laid.root, laid.leaf)) in
    omega (arith, inside, most)
