-- The paths of what was found stay while more is found.
use Rattle.std.specs.Prelude.{◌≡◌, ◌≤◌, ◌<◌, ◌+◌, ◌++◌, ◌⊎◌, ℕ, zero, suc, List, [], ◌∷◌, Option, length}
use Rattle.std.proofs.Common.{refl, ap, sym, ◌∙◌, inl, inr, arith, append_assoc, append-nil}
use Rattle.mcs_explore_search.specs.declared.search.Found.{Found}
use Rattle.mcs_explore_search.specs.Closure.{Visit}
use Rattle.mcs_explore_search.specs.Search.{Entries, At, depth_at, label_at, listed, path_back, path_of, paths_below}
use Rattle.mcs_explore_search.specs.Keeping.{Adds, IsChild, IsGrown, IsLonger}
use Rattle.mcs_explore_search.proofs.Places.{at-old, one-longer, one-up, within-at}
use Rattle.mcs_explore_search.proofs.Searching.{label-is, parent-is}
use Rattle.mcs_explore_search.proofs.Ending.{depth-is}

pub not-longer : {K L : Type 0} (E : Entries K L) → IsLonger E E
not-longer E = ([], sym (append-nil E))

pub longer-on : {K L : Type 0} (eq : K → K → _) (D E F : Entries K L) (k : K) (f : Found L) → IsLonger D E → Adds eq E k f F → IsLonger D F
longer-on eq D E F k f l (inl there) = (l.0, there.1 ∙ l.1)
longer-on eq D E F k f l (inr new) = (l.0 ++ (k, f) ∷ [], new.1 ∙ ap (λ (G : Entries _ _). G ++ (k, f) ∷ []) l.1 ∙ append_assoc D l.0 ((k, f) ∷ []))

pub paths-long : {K L : Type 0} (E : Entries K L) (n : ℕ) → length (paths_below E n) ≡ n
paths-long E zero = refl
paths-long E (suc n) = one-longer (paths_below E n) (path_of E n) ∙ ap (λ (m : ℕ). suc m) (paths-long E n)

module _ {A K L : Type 0} (Leads : L → A → A → Type 0) (IsKey : A → K → Type 0) (start : A) (E F : Entries K L) (vs : List (Visit A))
    (grown : (i : ℕ) (k : K) (f : Found L) → At E i k f → IsGrown Leads IsKey start E vs i k f) where
  -- the last label of an entry's path, and the path of its parent
  back-is : (G : Entries K L) (n i : ℕ) (k : K) (f : Found L) → At G i k f → path_back G i (suc n) ≡ path_back G f.parent n ++ f.label ∷ []
  back-is G n i k f at = ap (λ (p : ℕ). path_back G p n ++ listed (label_at G i)) (parent-is G i k f at) ∙ ap (λ (o : Option L). path_back G f.parent n ++ listed o) (label-is G i k f at)

  back-more : (n i : ℕ) (k : K) (f : Found L) → At E i k f → f.depth ≡ n → path_back (E ++ F) i n ≡ path_back E i n
  back-more zero i k f at deep = refl
  back-more (suc n) i k f at deep = go (grown i k f at) (λ j m g h d. back-more n j m g h d)
    where
      go : IsGrown Leads IsKey start E vs i k f → ((j : ℕ) (m : K) (g : Found L) → At E j m g → g.depth ≡ n → path_back (E ++ F) j n ≡ path_back E j n) → path_back (E ++ F) i (suc n) ≡ path_back E i (suc n)
      go g below = by g.from
        where
          by : ((f.depth ≡ 0) × (g.visit.state ≡ start)) ⊎ IsChild Leads E vs f g.visit.state → path_back (E ++ F) i (suc n) ≡ path_back E i (suc n)
          by (inl h) = absurd (let z = h.0 in omega (arith, z, deep))
          by (inr c) = back-is (E ++ F) n i k f (at-old E F i (k, f) at)
              ∙ ap (λ (ls : List L). ls ++ f.label ∷ []) (below f.parent c.key c.found c.at (let d = c.deep in omega (arith, d, deep)))
              ∙ sym (back-is E n i k f at)

  path-more : (i : ℕ) → i < length E → path_of (E ++ F) i ≡ path_of E i
  path-more i within =
      let e = within-at E i within in
      let before : depth_at E i ≡ e.0.1.depth = depth-is E i e.0.0 e.0.1 e.1 in
      let after : depth_at (E ++ F) i ≡ e.0.1.depth = depth-is (E ++ F) i e.0.0 e.0.1 (at-old E F i e.0 e.1) in
      ap (λ (n : ℕ). path_back (E ++ F) i n) after ∙ back-more e.0.1.depth i e.0.0 e.0.1 e.1 refl ∙ ap (λ (n : ℕ). path_back E i n) (sym before)

  paths-more : (n : ℕ) → n ≤ length E → paths_below (E ++ F) n ≡ paths_below E n
  paths-more zero le = refl
  paths-more (suc n) le =
      ap (λ (ps : List (List L)). ps ++ path_of (E ++ F) n ∷ []) (paths-more n (omega (arith, le)))
      ∙ ap (λ (p : List L). paths_below E n ++ p ∷ []) (path-more n (omega (arith, le)))

-- those to the first places, and the one to the next place
pub paths-on : {A K L : Type 0} (Leads : L → A → A → Type 0) (IsKey : A → K → Type 0) (start : A) (E F : Entries K L) (vs : List (Visit A))
    → ((i : ℕ) (k : K) (f : Found L) → At E i k f → IsGrown Leads IsKey start E vs i k f) → IsLonger E F → (n : ℕ) → n < length E
    → paths_below E n ++ path_of E n ∷ [] ≡ paths_below F (n + 1)
paths-on Leads IsKey start E F vs grown l n lt =
    sym (paths-more Leads IsKey start E l.0 vs grown (suc n) (omega (arith, lt))) ∙ ap (λ (G : Entries _ _). paths_below G (suc n)) (sym l.1) ∙ ap (λ (m : ℕ). paths_below F m) (sym (one-up n))
