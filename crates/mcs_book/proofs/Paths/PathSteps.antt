-- Paths, a level at a time: what spells the same bits takes the same way, and lookup follows a
-- complete path to its end.
use Rattle.std.specs.Prelude.{ℕ, ◌+◌, ◌≤◌, Bool, true, false, ◌&&◌, ◌≡◌, ◌≢◌, Option, Some, None, Ok, Err, List, [], ◌∷◌, ◌++◌, length, take, drop, refl, nat_le}
use Rattle.std.specs.List.{starts_with}
use Rattle.std.proofs.Common.{sym, ◌∙◌, ap, append_assoc, subst, inl, inr, arith}
use Rattle.std.proofs.Math.Seq.{drop-append_seam}
use Rattle.std.proofs.lemmas.List.{append_cancel_left, length-append}
use Rattle.mcs_types.specs.declared.id.ObjId.{ObjId}
use Rattle.mcs_types.specs.declared.cap.Cap.{Cap}
use Rattle.mcs_types.specs.declared.entry.Refusal.{Refusal}
use Rattle.mcs_types.specs.declared.entry.Refusal.TheVariants.{GuardMismatch, DepthMismatch}
use Rattle.mcs_book.specs.Checks.{◌>>◌, need}
use Rattle.mcs_book.specs.Lookup.{Space, Reached, level, cnode_cap, number_of_bits, same_bit}
use Rattle.mcs_book.specs.Paths.{guard_of, next_cnode, IsPath, spelling, EndsAt, IsComplete}
use Rattle.mcs_book.specs.LookupEnds.{Spells, IsRefusalAt}
use Rattle.mcs_book.proofs.Paths.PathLaws.{starts-split}

-- a bit is the same as itself
bit-self : (b : Bool) → same_bit b b ≡ true
bit-self true = refl
bit-self false = refl

-- bits that follow a guard start with it
starts-guard : (guard rest : List Bool) → starts_with same_bit (guard ++ rest) guard ≡ true
starts-guard [] rest = refl
starts-guard (g ∷ guard) rest = ap (λ b. b && starts_with same_bit (guard ++ rest) guard) (bit-self g) ∙ starts-guard guard rest

-- what was put in front is taken
take-front : (index rest : List Bool) → take (length index) (index ++ rest) ≡ index
take-front [] rest = refl
take-front (b ∷ index) rest = ap (λ xs. b ∷ xs) (take-front index rest)

-- two lists of one length in front of others
pub fronts-same : (xs ys us vs : List Bool) → length xs ≡ length ys → xs ++ us ≡ ys ++ vs → (xs ≡ ys) × (us ≡ vs)
fronts-same [] [] us vs n e = (refl, e)
fronts-same [] (y ∷ ys) us vs n e = absurd (omega (arith, n))
fronts-same (x ∷ xs) [] us vs n e = absurd (omega (arith, n))
fronts-same (x ∷ xs) (y ∷ ys) us vs n e =
    let first : x ≡ y = cc in
    let rest : xs ++ us ≡ ys ++ vs = cc in
    let shorter : length xs ≡ length ys = omega (arith, n) in
    let (same_rest, after) = fronts-same xs ys us vs shorter rest in
    (λ i. first i ∷ same_rest i, after)

-- one level spells a guard and an index
pub level-ok : (S : Space) (k : Cap) (index left : List Bool) → length index ≡ S.radix k.obj → level S k (guard_of k ++ (index ++ left)) ≡ Ok (record { cnode = k.obj; index = number_of_bits index; left = left })
unfolding level ◌>>◌ need
level-ok S k index left fits = λ i. need (begins i) GuardMismatch >> (need (room i) DepthMismatch >> Ok (record { cnode = k.obj; index = number_of_bits (taken i); left = dropped i }))
  where
    radix : ℕ
    radix = S.radix k.obj

    after : List Bool
    after = drop (length (guard_of k)) (guard_of k ++ (index ++ left))

    after-is : after ≡ index ++ left
    after-is = drop-append_seam (guard_of k) (index ++ left)

    begins : starts_with same_bit (guard_of k ++ (index ++ left)) (guard_of k) ≡ true
    begins = starts-guard (guard_of k) (index ++ left)

    fitting : (n : ℕ) (xs : List Bool) → n ≤ length xs → nat_le n (length xs) ≡ true
    fitting n xs le = grind arith

    room : nat_le radix (length after) ≡ true
    room =
        let e : length after ≡ length (index ++ left) = ap length after-is in
        let f : length (index ++ left) ≡ length index + length left = length-append index left in
        fitting radix after (omega (arith, e, f, fits))

    taken : take radix after ≡ index
    taken = (λ i. take (sym fits i) (after-is i)) ∙ take-front index left

    dropped : drop radix after ≡ left
    dropped = (λ i. drop (sym fits i) (after-is i)) ∙ drop-append_seam index left

-- where a level is refused, no guard and index of its length begin the bits
pub level-refused : (S : Space) (k : Cap) (bits : List Bool) (refusal : Refusal) → level S k bits ≡ Err refusal → IsRefusalAt k bits refusal
unfolding level ◌>>◌ need
level-refused S k bits refusal h = go (starts_with same_bit bits (guard_of k)) refl (nat_le (S.radix k.obj) (length after)) h
  where
    after : List Bool
    after = drop (length (guard_of k)) bits

    reached : Reached
    reached = record { cnode = k.obj; index = number_of_bits (take (S.radix k.obj) after); left = drop (S.radix k.obj) after }

    go : (b : Bool) → starts_with same_bit bits (guard_of k) ≡ b → (c : Bool) → (need b GuardMismatch >> (need c DepthMismatch >> Ok reached)) ≡ Err refusal → IsRefusalAt k bits refusal
    go false e c m = inl ((λ (rest, is). let no : true ≡ false = sym (starts-guard (guard_of k) rest) ∙ ap (λ xs. starts_with same_bit xs (guard_of k)) (sym is) ∙ e in absurd cc), cc)
    go true e false m = inr ((after, starts-split bits (guard_of k) e), cc)
    go true e true m = absurd cc

-- a list of indices
abbrev pub Path : Type 0
Path = List (List Bool)

-- a path that is complete spells the bits but those left
pub complete-spells : (S : Space) (k : Cap) (bits : List Bool) (p : Path) (at : Reached) → IsComplete S k bits p at → Spells S k bits p at.left
complete-spells S k bits p at c = record { is_path = c.is_path; spells = c.spells }

-- a path's first guard and index, and what comes after
first-spelled : (S : Space) (k : Cap) (index : List Bool) (p : Path) (left : List Bool) → spelling S (Some k) (index ∷ p) ++ left ≡ guard_of k ++ (index ++ (spelling S (next_cnode S k index) p ++ left))
first-spelled S k index p left = simp append_assoc

-- what two ways to spell the bits share: the first index, and what comes after it
pub record SameFirst (S : Space) (k : Cap) (x : List Bool) (index other : List Bool) (q : Path) (left : List Bool) : Type 0 where
  pub same_index : other ≡ index
  pub after : x ≡ spelling S (next_cnode S k index) q ++ left
  pub is_path : IsPath S (next_cnode S k index) q

-- a path begins with the index that the bits begin with
pub same-first : (S : Space) (k : Cap) (bits x index other : List Bool) (q : Path) (left : List Bool) → length index ≡ S.radix k.obj → bits ≡ guard_of k ++ (index ++ x) → Spells S k bits (other ∷ q) left → SameFirst S k x index other q left
same-first S k bits x index other q left fits is s =
    let lengths : length index ≡ length other = fits ∙ sym s.is_path.0 in
    let fronts : index ++ x ≡ other ++ (spelling S (next_cnode S k other) q ++ left) = append_cancel_left (guard_of k) _ _ (sym is ∙ s.spells ∙ first-spelled S k other q left) in
    let (same_index, after) = fronts-same index other x (spelling S (next_cnode S k other) q ++ left) lengths fronts in
    record {
      same_index = sym same_index;
      after = after ∙ ap (λ i. spelling S (next_cnode S k i) q ++ left) (sym same_index);
      is_path = subst (λ (i : List Bool). IsPath S (next_cnode S k i) q) (sym same_index) s.is_path.1;
    }

-- where the index leads to a CNode, the rest of the path goes on from there
pub spells-next : (S : Space) (k next : Cap) (x index other : List Bool) (q : Path) (left : List Bool) → next_cnode S k index ≡ Some next → SameFirst S k x index other q left → Spells S next x q left
spells-next S k next x index other q left leads f = record { is_path = subst (λ (o : Option Cap). IsPath S o q) leads f.is_path; spells = f.after ∙ ap (λ o. spelling S o q ++ left) leads }

-- a path that goes on does so from a CNode
pub path-next : (S : Space) (o : Option Cap) (index : List Bool) (p : Path) → IsPath S o (index ∷ p) → (next : Cap) × (o ≡ Some next)
path-next S (Some k) index p h = (k, refl)
path-next S None index p h = absurd h

-- each CNode on the way has an index of at least one bit
pub record HasBits (S : Space) (k : Cap) : Type 0 where
  pub here : 1 ≤ S.radix k.obj
  pub within : (c : ObjId) (i : ℕ) (next : Cap) → cnode_cap (S.slot c i) ≡ Some next → 1 ≤ S.radix next.obj

-- so from there on
pub bits-next : (S : Space) (k : Cap) (c : ObjId) (i : ℕ) (next : Cap) → HasBits S k → cnode_cap (S.slot c i) ≡ Some next → HasBits S next
bits-next S k c i next h is = record { here = h.within c i next is; within = h.within }

-- a path that is not empty spells some bits
pub spelled-some : (S : Space) (k : Cap) (bits index : List Bool) (q : Path) (left : List Bool) → HasBits S k → Spells S k bits (index ∷ q) left → bits ≢ []
spelled-some S k bits index q left h s none =
    let all : length bits ≡ length (guard_of k ++ (index ++ (spelling S (next_cnode S k index) q ++ left))) = ap length (s.spells ∙ first-spelled S k index q left) in
    let e : length (guard_of k ++ (index ++ (spelling S (next_cnode S k index) q ++ left))) ≡ length (guard_of k) + length (index ++ (spelling S (next_cnode S k index) q ++ left)) = length-append (guard_of k) _ in
    let f : length (index ++ (spelling S (next_cnode S k index) q ++ left)) ≡ length index + length (spelling S (next_cnode S k index) q ++ left) = length-append index _ in
    let g : length index ≡ S.radix k.obj = s.is_path.0 in
    let some : 1 ≤ S.radix k.obj = h.here in
    let nothing_left : length bits ≡ 0 = ap length none in
    absurd (omega (arith, all, e, f, g, some, nothing_left))

-- where a complete path goes on, the rest of it is complete
pub complete-next : (S : Space) (k next : Cap) (bits x index other : List Bool) (j : List Bool) (q : Path) (at : Reached) → next_cnode S k index ≡ Some next → SameFirst S k x index other (j ∷ q) at.left → IsComplete S k bits (other ∷ j ∷ q) at → IsComplete S next x (j ∷ q) at
complete-next S k next bits x index other j q at leads f c =
    let s : Spells S next x (j ∷ q) at.left = spells-next S k next x index other (j ∷ q) at.left leads f in
    record {
      is_path = s.is_path;
      spells = s.spells;
      ends = let P : Option Cap → Type 0 = λ o. EndsAt S o (j ∷ q) at.cnode at.index in subst P (ap (λ i. next_cnode S k i) f.same_index ∙ leads) c.ends;
      complete = c.complete;
    }

-- a complete path is the longest that spells the beginning of the bits
pub complete-longest : (S : Space) (p q : Path) (k : Cap) (bits left : List Bool) (at : Reached) → HasBits S k → IsComplete S k bits p at → Spells S k bits q left → length q ≤ length p
complete-longest S p [] k bits left at h c s = omega arith
complete-longest S [] (i ∷ q) k bits left at h c s = absurd c.ends
complete-longest S (index ∷ p) (i ∷ []) k bits left at h c s = omega arith
complete-longest S (index ∷ []) (i ∷ j ∷ q) k bits left at h c s =
    let first : bits ≡ guard_of k ++ (index ++ at.left) = c.spells ∙ first-spelled S k index [] at.left in
    let f : SameFirst S k at.left index i (j ∷ q) left = same-first S k bits at.left index i (j ∷ q) left c.is_path.0 first s in
    let (next, leads) = path-next S (next_cnode S k index) j q f.is_path in
    let g : Spells S next at.left (j ∷ q) left = spells-next S k next at.left index i (j ∷ q) left leads f in
    let ended : cnode_cap (S.slot at.cnode at.index) ≡ next_cnode S k index = ap (λ o. cnode_cap o) (λ n. S.slot (c.ends.0 n) (c.ends.1 n)) in
    elim c.complete [
      | inl none ↦ absurd (spelled-some S next at.left j q left (bits-next S k at.cnode at.index next h (ended ∙ leads)) g none)
      | inr ends ↦ (let clash : None ≡ Some next = sym ends ∙ ended ∙ leads in absurd cc)
    ]
complete-longest S (index ∷ l ∷ p) (i ∷ j ∷ q) k bits left at h c s =
    let x : List Bool = spelling S (next_cnode S k index) (l ∷ p) ++ at.left in
    let first : bits ≡ guard_of k ++ (index ++ x) = c.spells ∙ first-spelled S k index (l ∷ p) at.left in
    let f : SameFirst S k x index i (j ∷ q) left = same-first S k bits x index i (j ∷ q) left c.is_path.0 first s in
    let mine : SameFirst S k x index index (l ∷ p) at.left = record { same_index = refl; after = refl; is_path = c.is_path.1 } in
    let (next, leads) = path-next S (next_cnode S k index) j q f.is_path in
    let le : length (j ∷ q) ≤ length (l ∷ p) =
    complete-longest S (l ∷ p) (j ∷ q) next x left at (bits-next S k k.obj (number_of_bits index) next h leads) (complete-next S k next bits x index index l p at leads mine c) (spells-next S k next x index i (j ∷ q) left leads f) in
    omega (arith, le)

-- two paths of one length that spell the beginning of the bits are the same
pub spelled-same : (S : Space) (p q : Path) (k : Cap) (bits left rest : List Bool) → Spells S k bits p left → Spells S k bits q rest → length p ≡ length q → (p ≡ q) × (left ≡ rest)
spelled-same S [] [] k bits left rest s t n = (refl, sym s.spells ∙ t.spells)
spelled-same S [] (j ∷ q) k bits left rest s t n = absurd (omega (arith, n))
spelled-same S (index ∷ p) [] k bits left rest s t n = absurd (omega (arith, n))
spelled-same S (index ∷ p) (i ∷ q) k bits left rest s t n = go (next_cnode S k index) refl (λ next y. spelled-same S p q next y left rest)
  where
    x : List Bool
    x = spelling S (next_cnode S k index) p ++ left

    f : SameFirst S k x index i q rest
    f = same-first S k bits x index i q rest s.is_path.0 (s.spells ∙ first-spelled S k index p left) t

    mine : SameFirst S k x index index p left
    mine = record { same_index = refl; after = refl; is_path = s.is_path.1 }

    both : (p ≡ q) × (left ≡ rest) → (index ∷ p ≡ i ∷ q) × (left ≡ rest)
    both (same, after) = ((λ m. sym f.same_index m ∷ same m), after)

    -- nothing comes after an index that leads to no CNode
    none-left : (a : Path) → IsPath S None a → a ≡ []
    none-left [] h = refl
    none-left (j ∷ a) h = absurd h

    go : (o : Option Cap) → next_cnode S k index ≡ o → ((next : Cap) (y : List Bool) → Spells S next y p left → Spells S next y q rest → length p ≡ length q → (p ≡ q) × (left ≡ rest)) → (index ∷ p ≡ i ∷ q) × (left ≡ rest)
    go (Some next) leads ih =
        let shorter : length p ≡ length q = omega (arith, n) in
        both (ih next x (spells-next S k next x index index p left leads mine) (spells-next S k next x index i q rest leads f) shorter)
    go None leads ih =
        let p_none : p ≡ [] = none-left p (subst (λ (o : Option Cap). IsPath S o p) leads mine.is_path) in
        let q_none : q ≡ [] = none-left q (subst (λ (o : Option Cap). IsPath S o q) leads f.is_path) in
        let a : x ≡ left = ap (λ a. spelling S (next_cnode S k index) a ++ left) p_none in
        let b : x ≡ rest = f.after ∙ ap (λ a. spelling S (next_cnode S k index) a ++ rest) q_none in
        both (p_none ∙ sym q_none, sym a ∙ b)
