-- The pick of one core more.
use Rattle.std.proofs.Common.{◌≡◌, ℕ, ◌+◌, Bool, true, false, not, ◌&&◌, Option, Some, None, List, [], ◌∷◌, ◌++◌, length, refl, sym, ap, ◌∙◌, subst, arith}
use Rattle.std.proofs.lemmas.List.{append-nil, append_assoc}
use Rattle.mcs_types.specs.declared.id.ObjId.{ObjId}
use Rattle.mcs_types.specs.declared.id.CoreId.{CoreId}
use Rattle.mcs_types.specs.ThreadSets.{has, is_markable}
use Rattle.mcs_book.specs.Logs.{Log}
use Rattle.mcs_book.specs.Statuses.{may_enter}
use Rattle.mcs_book.specs.Picking.{is_candidate, IsPick}
use Rattle.mcs_lab_diagram.specs.Picks.{ArePicksFrom, AddsPicks}

-- no thread is in the list without marks
has-none : (t : ObjId) → has [] t ≡ false
has-none t = go (is_markable t)
  where
    go : (b : Bool) → (b && false) ≡ false
    go true = refl
    go false = refl

-- a pick past a set without anybody is one past none
pick-alone : (R : Log) (core : CoreId) (passed : List Bool) (p : Option ObjId) → ((t : ObjId) → has passed t ≡ false) → IsPick R core passed p → IsPick R core [] p
pick-alone R core passed p empty = go p
  where
    same : (u : ObjId) → is_candidate R core [] u ≡ is_candidate R core passed u
    same u = ap (λ b. may_enter R core u && not b) (has-none u ∙ sym (empty u))

    go : (p : Option ObjId) → IsPick R core passed p → IsPick R core [] p
    go None none = λ u c. none u (sym (same u) ∙ c)
    go (Some t) best = (same t ∙ best.0, λ u c. best.1 u (sym (same u) ∙ c))

-- before the first core
pub picks_none : (R : Log) (old : List (Option ObjId)) → AddsPicks R 0 old old
picks_none R old = record { row = []; added = sym (append-nil old); count = refl; picks = tt }

picks-end : (R : Log) (i : ℕ) (row : List (Option ObjId)) (p : Option ObjId) → ArePicksFrom R i row → IsPick R (record { 0 = i + length row }) [] p → ArePicksFrom R i (row ++ p ∷ [])
picks-end R i [] p h is = (subst (λ (n : ℕ). IsPick R (record { 0 = n }) [] p) (omega arith) is, tt)
picks-end R i (q ∷ row) p h is =
    (h.0, picks-end R (i + 1) row p h.1 (subst (λ (n : ℕ). IsPick R (record { 0 = n }) [] p) (omega arith) is))

length-more : {X : Type 0} (xs : List X) (x : X) → length (xs ++ x ∷ []) ≡ length xs + 1
length-more [] x = refl
length-more (y ∷ ys) x = let one : length (ys ++ x ∷ []) ≡ length ys + 1 = length-more ys x in omega (arith, one)

-- a core more
pub picks_next : (R : Log) (n : ℕ) (core : CoreId) (passed : List Bool) (old now : List (Option ObjId)) (p : Option ObjId) → AddsPicks R n old now
    → core ≡ record { 0 = n } → ((t : ObjId) → has passed t ≡ false) → IsPick R core passed p → AddsPicks R (n + 1) old (now ++ p ∷ [])
picks_next R n core passed old now p h is empty pick =
    let at : n ≡ 0 + length h.row = omega (arith, h.count) in
    let here : IsPick R (record { 0 = n }) [] p = subst (λ (c : CoreId). IsPick R c [] p) is (pick-alone R core passed p empty pick) in
    record {
      row = h.row ++ p ∷ [];
      added = ap (λ (xs : List (Option ObjId)). xs ++ p ∷ []) h.added ∙ append_assoc old h.row (p ∷ []);
      count = length-more h.row p ∙ ap (λ (k : ℕ). k + 1) h.count;
      picks = picks-end R 0 h.row p h.picks (subst (λ (k : ℕ). IsPick R (record { 0 = k }) [] p) at here);
    }
