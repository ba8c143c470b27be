-- Lookup follows a complete path to its end, and is refused at the end of the longest path where
-- none is complete.
use Rattle.std.specs.Prelude.{ℕ, zero, suc, ◌+◌, ◌≤◌, Bool, true, false, cond, ◌≡◌, ◌≢◌, ◌⊎◌, Option, Some, None, Ok, Err, List, [], ◌∷◌, ◌++◌, length, refl}
use Rattle.std.proofs.Common.{sym, ◌∙◌, ap, append_assoc, append-nil, subst, inl, inr, arith}
use Rattle.std.proofs.lemmas.List.{length-append}
use Rattle.mcs_types.specs.declared.id.ObjId.{ObjId}
use Rattle.mcs_types.specs.declared.cap.Cap.{Cap}
use Rattle.mcs_types.specs.declared.entry.Refusal.{Refusal}
use Rattle.mcs_book.specs.Checks.{Checked, ◌>>=◌}
use Rattle.mcs_book.specs.Lookup.{Space, Reached, level, walk, goes_on, cnode_cap, number_of_bits, is_none_left}
use Rattle.mcs_book.specs.Paths.{guard_of, next_cnode, IsPath, spelling, EndsAt, IsComplete}
use Rattle.mcs_book.specs.LookupEnds.{Spells, led_to, IsRefusalAt, IsStuck}
use Rattle.mcs_book.proofs.Paths.PathLaws.{Level, level-spells, goes-next}
use Rattle.mcs_book.proofs.Paths.PathSteps.{Path, level-ok, level-refused, complete-spells, SameFirst, same-first, spells-next, path-next, HasBits, bits-next, spelled-some, complete-next, complete-longest, spelled-same}

-- where no bits are left, or the slot holds no CNode, lookup ends
goes-not : (S : Space) (at : Reached) → (at.left ≡ []) ⊎ (cnode_cap (S.slot at.cnode at.index) ≡ None) → goes_on S at ≡ None
goes-not S at (inl none) = ap (λ left. cond (is_none_left left) None (cnode_cap (S.slot at.cnode at.index))) none
goes-not S at (inr none) = go (is_none_left at.left)
  where
    go : (b : Bool) → cond b None (cnode_cap (S.slot at.cnode at.index)) ≡ None
    go true = refl
    go false = none

-- where bits are left and the slot holds a CNode, it goes on
goes-there : (S : Space) (at : Reached) (next : Cap) → at.left ≢ [] → cnode_cap (S.slot at.cnode at.index) ≡ Some next → goes_on S at ≡ Some next
goes-there S at next some leads = go at.left some
  where
    go : (left : List Bool) → left ≢ [] → cond (is_none_left left) None (cnode_cap (S.slot at.cnode at.index)) ≡ Some next
    go [] none = absurd (none refl)
    go (b ∷ left) none = leads

-- where it goes on, bits are left
goes-some : (S : Space) (at : Reached) (next : Cap) → goes_on S at ≡ Some next → at.left ≢ []
goes-some S at next h none = let ended : goes_on S at ≡ None = goes-not S at (inl none) in let clash : None ≡ Some next = sym ended ∙ h in absurd cc

-- one step of lookup, after a level that is known
on : ℕ → Space → Reached → Option Cap → Checked Reached
on steps S a o = elim o [ None ↦ Ok a | Some next ↦ walk steps S next a.left ]

-- the law: where a complete path spells the bits, lookup finds its end
pub complete-walk : (S : Space) (p : Path) (steps : ℕ) (k : Cap) (bits : List Bool) (at : Reached) → HasBits S k → length p ≤ steps → IsComplete S k bits p at → walk steps S k bits ≡ Ok at
unfolding ◌>>=◌ on
complete-walk S [] steps k bits at h le c = absurd c.ends
complete-walk S (index ∷ p) zero k bits at h le c = absurd (omega (arith, le))
complete-walk S (index ∷ []) (suc steps) k bits at h le c =
    let first : bits ≡ guard_of k ++ (index ++ at.left) = c.spells ∙ simp (append_assoc, append-nil) in
    let reached : level S k bits ≡ Ok at = ap (level S k) first ∙ level-ok S k index at.left c.is_path.0 ∙ (λ i. Ok (record { cnode = sym c.ends.0 i; index = sym c.ends.1 i; left = at.left })) in
    ap (λ m. m >>= (λ a. on steps S a (goes_on S a))) reached ∙ ap (on steps S at) (goes-not S at c.complete)
complete-walk S (index ∷ j ∷ p) (suc steps) k bits at h le c =
    let x : List Bool = spelling S (next_cnode S k index) (j ∷ p) ++ at.left in
    let a : Reached = record { cnode = k.obj; index = number_of_bits index; left = x } in
    let first : bits ≡ guard_of k ++ (index ++ x) = c.spells ∙ simp append_assoc in
    let reached : level S k bits ≡ Ok a = ap (level S k) first ∙ level-ok S k index x c.is_path.0 in
    let mine : SameFirst S k x index index (j ∷ p) at.left = record { same_index = refl; after = refl; is_path = c.is_path.1 } in
    let (next, leads) = path-next S (next_cnode S k index) j p c.is_path.1 in
    let rest : IsComplete S next x (j ∷ p) at = complete-next S k next bits x index index j p at leads mine c in
    let more : HasBits S next = bits-next S k k.obj (number_of_bits index) next h leads in
    let some : x ≢ [] = spelled-some S next x j p at.left more (complete-spells S next x (j ∷ p) at rest) in
    let shorter : length (j ∷ p) ≤ steps = omega (arith, le) in
    ap (λ m. m >>= (λ a. on steps S a (goes_on S a))) reached ∙ ap (on steps S a) (goes-there S a next some leads) ∙ complete-walk S (j ∷ p) steps next x at more shorter rest

-- where a level is refused, no guard and index begin the bits
no-first : (S : Space) (k : Cap) (bits : List Bool) (refusal : Refusal) (index : List Bool) (q : Path) (left : List Bool) → level S k bits ≡ Err refusal → Spells S k bits (index ∷ q) left → ⊥
no-first S k bits refusal index q left refused s =
    let x : List Bool = spelling S (next_cnode S k index) q ++ left in
    let first : bits ≡ guard_of k ++ (index ++ x) = s.spells ∙ simp append_assoc in
    let a : Reached = record { cnode = k.obj; index = number_of_bits index; left = x } in
    let clash : Err refusal ≡ Ok a = sym refused ∙ ap (level S k) first ∙ level-ok S k index x s.is_path.0 in
    absurd cc

-- refused at the first level: the empty path is the longest
stuck-here : (S : Space) (k : Cap) (bits : List Bool) (refusal : Refusal) → level S k bits ≡ Err refusal → IsStuck S k bits refusal
stuck-here S k bits refusal h = record {
  incomplete = none;
  path = [];
  left = bits;
  along = record { is_path = tt; spells = refl };
  longest = shortest;
  last = k;
  leads = refl;
  refused = level-refused S k bits refusal h;
}
  where
    none : (p : Path) (at : Reached) → IsComplete S k bits p at → ⊥
    none [] at c = c.ends
    none (index ∷ p) at c = no-first S k bits refusal index p at.left h (complete-spells S k bits (index ∷ p) at c)

    shortest : (q : Path) (rest : List Bool) → Spells S k bits q rest → length q ≤ 0
    shortest [] rest s = omega arith
    shortest (index ∷ q) rest s = absurd (no-first S k bits refusal index q rest h s)

-- refused further on: the longest path from there, after this level
stuck-next : (S : Space) (k next : Cap) (bits : List Bool) (a : Reached) (refusal : Refusal) → Level S k bits a → goes_on S a ≡ Some next → IsStuck S next a.left refusal → IsStuck S k bits refusal
stuck-next S k next bits a refusal l on h = record {
  incomplete = none;
  path = l.index ∷ h.path;
  left = h.left;
  along = record { is_path = (l.fits, subst (λ (o : Option Cap). IsPath S o h.path) (sym leads) h.along.is_path); spells = l.spells ∙ ap (λ xs. guard_of k ++ (l.index ++ xs)) (h.along.spells ∙ ap (λ o. spelling S o h.path ++ h.left) (sym leads)) ∙ simp append_assoc };
  longest = longest;
  last = h.last;
  leads = ap (λ o. led_to S o h.path) leads ∙ h.leads;
  refused = h.refused;
}
  where
    there : cnode_cap (S.slot a.cnode a.index) ≡ Some next
    there = goes-next S a next on

    leads : next_cnode S k l.index ≡ Some next
    leads = sym (ap (λ o. cnode_cap o) (λ i. S.slot (l.in_cnode i) (l.at_index i))) ∙ there

    first : (index : List Bool) (q : Path) (rest : List Bool) → Spells S k bits (index ∷ q) rest → SameFirst S k a.left l.index index q rest
    first index q rest s = same-first S k bits a.left l.index index q rest l.fits l.spells s

    longest : (q : Path) (rest : List Bool) → Spells S k bits q rest → length q ≤ length (l.index ∷ h.path)
    longest [] rest s = omega arith
    longest (index ∷ q) rest s = let le : length q ≤ length h.path = h.longest q rest (spells-next S k next a.left l.index index q rest leads (first index q rest s)) in omega (arith, le)

    none : (p : Path) (at : Reached) → IsComplete S k bits p at → ⊥
    none [] at c = c.ends
    none (index ∷ []) at c =
        let f : SameFirst S k a.left l.index index [] at.left = first index [] at.left (complete-spells S k bits (index ∷ []) at c) in
        let ended : cnode_cap (S.slot at.cnode at.index) ≡ Some next = ap (λ o. cnode_cap o) (λ i. S.slot (c.ends.0 i) (c.ends.1 i)) ∙ ap (λ i. next_cnode S k i) f.same_index ∙ leads in
        elim c.complete [
          | inl empty ↦ goes-some S a next on (f.after ∙ empty)
          | inr ends ↦ (let clash : None ≡ Some next = sym ends ∙ ended in absurd cc)
        ]
    none (index ∷ j ∷ p) at c = h.incomplete (j ∷ p) at (complete-next S k next bits a.left l.index index j p at leads (first index (j ∷ p) at.left (complete-spells S k bits (index ∷ j ∷ p) at c)) c)

-- where lookup continues from a CNode, its index has at least one bit
pub record Narrows (S : Space) (k : Cap) : Type 0 where
  pub here : (i : ℕ) (next : Cap) → cnode_cap (S.slot k.obj i) ≡ Some next → 1 ≤ S.radix k.obj
  pub within : (c : ObjId) (i : ℕ) (next : Cap) → cnode_cap (S.slot c i) ≡ Some next → (j : ℕ) (more : Cap) → cnode_cap (S.slot next.obj j) ≡ Some more → 1 ≤ S.radix next.obj

-- so where each CNode on the way has an index of at least one bit
pub bits-narrow : (S : Space) (k : Cap) → HasBits S k → Narrows S k
bits-narrow S k h = record { here = λ i next e. h.here; within = λ c i next e j more f. h.within c i next e }

-- the bits left after a level where lookup continues are fewer
level-shorter : (S : Space) (k next : Cap) (bits : List Bool) (a : Reached) (steps : ℕ) → Narrows S k → Level S k bits a → cnode_cap (S.slot a.cnode a.index) ≡ Some next → length bits ≤ suc steps → length a.left ≤ steps
level-shorter S k next bits a steps h l on le =
    let all : length bits ≡ length (guard_of k ++ (l.index ++ a.left)) = ap length l.spells in
    let e : length (guard_of k ++ (l.index ++ a.left)) ≡ length (guard_of k) + length (l.index ++ a.left) = length-append (guard_of k) _ in
    let f : length (l.index ++ a.left) ≡ length l.index + length a.left = length-append l.index a.left in
    let g : length l.index ≡ S.radix k.obj = l.fits in
    let there : cnode_cap (S.slot k.obj a.index) ≡ Some next = subst (λ (c : ObjId). cnode_cap (S.slot c a.index) ≡ Some next) l.in_cnode on in
    let some : 1 ≤ S.radix k.obj = h.here a.index next there in
    omega (arith, all, e, f, g, some, le)

-- some bits are not none
bits-some : (bits : List Bool) → bits ≢ [] → length bits ≤ 0 → ⊥
bits-some [] some le = some refl
bits-some (b ∷ bits) some le = omega (arith, le)

-- the law: where lookup of some bits is refused, it is at the end of the longest path
pub walk-stuck : (steps : ℕ) (S : Space) (k : Cap) (bits : List Bool) (refusal : Refusal) → Narrows S k → bits ≢ [] → length bits ≤ steps → walk steps S k bits ≡ Err refusal → IsStuck S k bits refusal
unfolding ◌>>=◌ on
walk-stuck zero S k bits refusal h some le w = absurd (bits-some bits some le)
walk-stuck (suc steps) S k bits refusal h some le w = go (level S k bits) refl w (λ next left. walk-stuck steps S next left refusal)
  where
    next_level : (a : Reached) → level S k bits ≡ Ok a → (o : Option Cap) → goes_on S a ≡ o → on steps S a o ≡ Err refusal
        → ((next : Cap) (left : List Bool) → Narrows S next → left ≢ [] → length left ≤ steps → walk steps S next left ≡ Err refusal → IsStuck S next left refusal) → IsStuck S k bits refusal
    next_level a e None g m ih = absurd cc
    next_level a e (Some next) g m ih =
        let l : Level S k bits a = level-spells S k bits a e in
        let there : cnode_cap (S.slot a.cnode a.index) ≡ Some next = goes-next S a next g in
        let more : Narrows S next = record { here = h.within a.cnode a.index next there; within = h.within } in
        stuck-next S k next bits a refusal l g (ih next a.left more (goes-some S a next g) (level-shorter S k next bits a steps h l there le) m)

    go : (m : Checked Reached) → level S k bits ≡ m → (m >>= (λ a. on steps S a (goes_on S a))) ≡ Err refusal
        → ((next : Cap) (left : List Bool) → Narrows S next → left ≢ [] → length left ≤ steps → walk steps S next left ≡ Err refusal → IsStuck S next left refusal) → IsStuck S k bits refusal
    go (Ok a) e m ih = next_level a e (goes_on S a) refl m ih
    go (Err r) e m ih = let it : r ≡ refusal = cc in stuck-here S k bits refusal (e ∙ ap (λ x. Err x) it)

-- where a path ends is known
ends-same : (S : Space) (p : Path) (o : Option Cap) (c d : ObjId) (i j : ℕ) → EndsAt S o p c i → EndsAt S o p d j → (c ≡ d) × (i ≡ j)
ends-same S [] o c d i j h k = absurd h
ends-same S (index ∷ p) None c d i j h k = absurd h
ends-same S (index ∷ []) (Some a) c d i j h k = (h.0 ∙ sym k.0, h.1 ∙ sym k.1)
ends-same S (index ∷ l ∷ p) (Some a) c d i j h k = ends-same S (l ∷ p) (next_cnode S a index) c d i j h k

-- the law: at most one complete path spells the bits
pub complete-one : (S : Space) (p q : Path) (k : Cap) (bits : List Bool) (at to : Reached) → HasBits S k → IsComplete S k bits p at → IsComplete S k bits q to → (p ≡ q) × (at ≡ to)
complete-one S p q k bits at to h c d =
    let a : length q ≤ length p = complete-longest S p q k bits to.left at h c (complete-spells S k bits q to d) in
    let b : length p ≤ length q = complete-longest S q p k bits at.left to h d (complete-spells S k bits p at c) in
    let n : length p ≡ length q = omega (arith, a, b) in
    let (same, left) = spelled-same S p q k bits at.left to.left (complete-spells S k bits p at c) (complete-spells S k bits q to d) n in
    let P : Path → Type 0 = λ x. EndsAt S (Some k) x to.cnode to.index in
    let (cnode, index) = ends-same S p (Some k) at.cnode to.cnode at.index to.index c.ends (subst P (sym same) d.ends) in
    (same, λ i. record { cnode = cnode i; index = index i; left = left i })

-- at one CNode capability and with the same bits left there is one refusal
refusal-one : (k : Cap) (left : List Bool) (r s : Refusal) → IsRefusalAt k left r → IsRefusalAt k left s → r ≡ s
refusal-one k left r s (inl a) (inl b) = a.1 ∙ sym b.1
refusal-one k left r s (inl a) (inr b) = absurd (a.0 b.0)
refusal-one k left r s (inr a) (inl b) = absurd (b.0 a.0)
refusal-one k left r s (inr a) (inr b) = a.1 ∙ sym b.1

-- the law: there is one refusal where no complete path spells the bits
pub stuck-one : (S : Space) (k : Cap) (bits : List Bool) (r s : Refusal) → IsStuck S k bits r → IsStuck S k bits s → r ≡ s
stuck-one S k bits r s g h =
    let a : length h.path ≤ length g.path = g.longest h.path h.left h.along in
    let b : length g.path ≤ length h.path = h.longest g.path g.left g.along in
    let n : length g.path ≡ length h.path = omega (arith, a, b) in
    let (same, left) = spelled-same S g.path h.path k bits g.left h.left g.along h.along n in
    let lasts : Some g.last ≡ Some h.last = sym g.leads ∙ ap (λ p. led_to S (Some k) p) same ∙ h.leads in
    let last : g.last ≡ h.last = cc in
    refusal-one h.last h.left r s (subst (λ (x : Cap). IsRefusalAt x h.left r) last (subst (λ (x : List Bool). IsRefusalAt g.last x r) left g.refused)) h.refused
