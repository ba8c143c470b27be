-- Lookup ends where a complete path does.
use Rattle.std.specs.Prelude.{ℕ, zero, suc, ◌≤◌, Bool, true, false, cond, ◌≡◌, ◌⊎◌, Option, Some, None, Ok, Err, List, [], ◌∷◌, ◌++◌, length, take, drop, refl, nat_le}
use Rattle.std.specs.List.{starts_with}
use Rattle.std.proofs.Common.{sym, ◌∙◌, ap, append_assoc, append-nil, subst, inl, inr, arith}
use Rattle.std.proofs.lemmas.List.{take-append-drop, length-take-le}
use Rattle.mcs_types.specs.declared.cap.Cap.{Cap}
use Rattle.mcs_types.specs.declared.entry.Refusal.TheVariants.{GuardMismatch, DepthMismatch}
use Rattle.mcs_book.specs.Logs.{Log}
use Rattle.mcs_book.specs.Checks.{Checked, ◌>>=◌, ◌>>◌, need, needed}
use Rattle.mcs_book.specs.Lookup.{Space, space_of, Reached, bits_of, capability_from, capability, level, walk, goes_on, cnode_cap, number_of_bits, same_bit, is_none_left}
use Rattle.mcs_types.specs.declared.id.ObjId.{ObjId}
use Rattle.mcs_types.specs.declared.entry.Refusal.TheVariants.{Missing}
use Rattle.mcs_book.specs.Threads.{root_of}
use Rattle.mcs_book.specs.Paths.{guard_of, next_cnode, EndsAt, IsComplete, IsNamedFrom, IsNamed}
use Rattle.mcs_types.proofs.Ids.{parts}

-- bits that are the same are equal
bit-equal : (a b : Bool) → same_bit a b ≡ true → a ≡ b
bit-equal true true e = refl
bit-equal false false e = refl
bit-equal true false e = absurd cc
bit-equal false true e = absurd cc

-- bits that start with a guard are the guard and the rest
pub starts-split : (bits guard : List Bool) → starts_with same_bit bits guard ≡ true → bits ≡ guard ++ drop (length guard) bits
starts-split bits [] h = refl
starts-split [] (g ∷ gs) h = absurd cc
starts-split (b ∷ bits) (g ∷ gs) h =
    let (first, rest) = parts (same_bit g b) (starts_with same_bit bits gs) h in
    let bit : b ≡ g = sym (bit-equal g b first) in
    let tail : bits ≡ gs ++ drop (length gs) bits = starts-split bits gs rest in
    λ i. bit i ∷ tail i

-- what one level spells
pub record Level (S : Space) (cap : Cap) (bits : List Bool) (at : Reached) : Type 0 where
  pub index : List Bool
  pub in_cnode : at.cnode ≡ cap.obj
  pub at_index : at.index ≡ number_of_bits index
  pub fits : length index ≡ S.radix cap.obj
  pub spells : bits ≡ guard_of cap ++ (index ++ at.left)

-- what one level of lookup spells
pub level-spells : (S : Space) (cap : Cap) (bits : List Bool) (at : Reached) → level S cap bits ≡ Ok at → Level S cap bits at
unfolding level ◌>>◌ need
level-spells S cap bits at h = go (starts_with same_bit bits (guard_of cap)) (nat_le (S.radix cap.obj) (length (drop (length (guard_of cap)) bits))) refl refl h
  where
    radix : ℕ
    radix = S.radix cap.obj

    after : List Bool
    after = drop (length (guard_of cap)) bits

    reached : Reached
    reached = record { cnode = cap.obj; index = number_of_bits (take radix after); left = drop radix after }

    go : (b c : Bool) → starts_with same_bit bits (guard_of cap) ≡ b → nat_le radix (length after) ≡ c → (need b GuardMismatch >> (need c DepthMismatch >> Ok reached)) ≡ Ok at → Level S cap bits at
    go true true e e' k =
        let it : reached ≡ at = cc in
        let room : radix ≤ length after = grind arith in
        let found : Level S cap bits reached = record {
          index = take radix after;
          in_cnode = refl;
          at_index = refl;
          fits = length-take-le radix after room;
          spells = starts-split bits (guard_of cap) e ∙ ap (λ xs. guard_of cap ++ xs) (sym (take-append-drop radix after));
        } in
        rw (← it) found
    go true false e e' k = absurd cc
    go false c e e' k = absurd cc

-- where lookup continues, the slot holds a capability to a CNode; and where it ends, a path is
-- complete
pub goes-next : (S : Space) (at : Reached) (next : Cap) → goes_on S at ≡ Some next → cnode_cap (S.slot at.cnode at.index) ≡ Some next
goes-next S at next h = go (is_none_left at.left) h
  where
    go : (b : Bool) → cond b None (cnode_cap (S.slot at.cnode at.index)) ≡ Some next → cnode_cap (S.slot at.cnode at.index) ≡ Some next
    go true e = absurd cc
    go false e = e

-- where it ends, no bits are left, or the slot holds no CNode
goes-none : (S : Space) (at : Reached) → goes_on S at ≡ None → (at.left ≡ []) ⊎ (cnode_cap (S.slot at.cnode at.index) ≡ None)
goes-none S at h = go at.left h
  where
    go : (left : List Bool) → cond (is_none_left left) None (cnode_cap (S.slot at.cnode at.index)) ≡ None → (left ≡ []) ⊎ (cnode_cap (S.slot at.cnode at.index) ≡ None)
    go [] e = inl refl
    go (b ∷ bits) e = inr e

-- lookup answers the end of a complete path that spells the bits
pub walk-complete : (steps : ℕ) (S : Space) (cap : Cap) (bits : List Bool) (at : Reached) → walk steps S cap bits ≡ Ok at → (path : List (List Bool)) × IsComplete S cap bits path at
unfolding ◌>>=◌
walk-complete zero S cap bits at h = absurd cc
walk-complete (suc steps) S cap bits at h = go (level S cap bits) refl h (λ next left. walk-complete steps S next left at)
  where
    on : Reached → Option Cap → Checked Reached
    on a o = elim o [ None ↦ Ok a | Some next ↦ walk steps S next a.left ]

    longer : (a : Reached) (l : Level S cap bits a) (next : Cap) → goes_on S a ≡ Some next → (path : List (List Bool)) → IsComplete S next a.left path at → (path : List (List Bool)) × IsComplete S cap bits path at
    longer a l next e [] c = absurd c.ends
    longer a l next e (j ∷ path) c =
        let leads : next_cnode S cap l.index ≡ Some next = sym (ap (λ o. cnode_cap o) (λ i. S.slot (l.in_cnode i) (l.at_index i))) ∙ goes-next S a next e in (
          l.index ∷ j ∷ path,
          record {
            is_path = (l.fits, rw leads c.is_path);
            spells = l.spells ∙ ap (λ xs. guard_of cap ++ (l.index ++ xs)) c.spells ∙ rw leads (simp append_assoc);
            ends = let P : Option Cap → Type 0 = λ o. EndsAt S o (j ∷ path) at.cnode at.index in subst P (sym leads) c.ends;
            complete = c.complete;
          },
        )

    next_level : (a : Reached) → level S cap bits ≡ Ok a → (o : Option Cap) → goes_on S a ≡ o → on a o ≡ Ok at → ((next : Cap) (left : List Bool) → walk steps S next left ≡ Ok at → (path : List (List Bool)) × IsComplete S next left path at) → (path : List (List Bool)) × IsComplete S cap bits path at
    next_level a e None g k ih =
        let it : a ≡ at = cc in
        let l : Level S cap bits a = level-spells S cap bits a e in
        let c : IsComplete S cap bits (l.index ∷ []) a = record { is_path = (l.fits, tt); spells = l.spells ∙ simp (append-nil, append_assoc); ends = (l.in_cnode, l.at_index); complete = goes-none S a g } in
        (l.index ∷ [], rw (← it) c)
    next_level a e (Some next) g k ih =
        let (path, c) = ih next a.left k in
        longer a (level-spells S cap bits a e) next g path c

    go : (m : Checked Reached) → level S cap bits ≡ m → (m >>= (λ a. on a (goes_on S a))) ≡ Ok at → ((next : Cap) (left : List Bool) → walk steps S next left ≡ Ok at → (path : List (List Bool)) × IsComplete S next left path at) → (path : List (List Bool)) × IsComplete S cap bits path at
    go (Ok a) e k ih = next_level a e (goes_on S a) refl k ih
    go (Err refusal) e k ih = absurd cc

-- the law: the capability that lookup from a root finds at an address is the one that a path names
pub capability_from-named : (S : Space) (root : Cap) (address : ℕ) (cap : Cap) → capability_from S root address ≡ Ok cap → IsNamedFrom S root address cap
unfolding capability_from ◌>>=◌ needed
capability_from-named S root address cap h = at_end (walk 64 S root (bits_of 64 address)) refl h
  where
    end : (o : Option Cap) → needed o Missing ≡ Ok cap → o ≡ Some cap
    end (Some c) e = let it : c ≡ cap = cc in ap (λ x. Some x) it
    end None e = absurd cc

    at_end : (m : Checked Reached) → walk 64 S root (bits_of 64 address) ≡ m → (m >>= (λ at. needed (S.slot at.cnode at.index) Missing)) ≡ Ok cap → IsNamedFrom S root address cap
    at_end (Ok at) e k =
        let (path, along) = walk-complete 64 S root (bits_of 64 address) at e in
        record { path = path; at = at; along = along; there = end (S.slot at.cnode at.index) k }
    at_end (Err refusal) e k = absurd cc

-- the law: so for the capability that a thread's lookup finds
pub capability-named : (R : Log) (t : ObjId) (address : ℕ) (cap : Cap) → capability R t address ≡ Ok cap → IsNamed R t address cap
unfolding capability ◌>>=◌ needed
capability-named R t address cap h = from (root_of R t) refl h
  where
    from : (o : Option Cap) → root_of R t ≡ o → (needed o Missing >>= (λ root. capability_from (space_of R) root address)) ≡ Ok cap → IsNamed R t address cap
    from (Some root) e k = record { root = root; from = e; named = capability_from-named (space_of R) root address cap k }
    from None e k = absurd cc
