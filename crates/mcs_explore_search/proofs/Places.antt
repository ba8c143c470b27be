-- Places in a list that grows, and the keys that are found there.
use Rattle.std.specs.Prelude.{◌≡◌, ◌<◌, ◌+◌, ◌++◌, ◌⊎◌, ℕ, zero, suc, List, [], ◌∷◌, Option, Some, None, is_some, Bool, true, false, cond, get_or, position, length, slice_get}
use Rattle.std.specs.Map.{keys_of, lookup}
use Rattle.std.specs.HashMap.{get}
use Rattle.indexmap.specs.IndexMap.{IndexMap, insert_entry}
use Rattle.indexmap.proofs.CallerLemmas.{insert_entry-new}
use Rattle.std.proofs.lemmas.List.Quantifiers.{position-Some}
use Rattle.std.proofs.Common.{refl, ap, sym, ◌∙◌, subst, inl, inr, arith}
use Rattle.std.specs.Cmp.{IsEquivalence}
use Rattle.mcs_explore_search.specs.declared.search.Found.{Found}
use Rattle.mcs_explore_search.specs.Search.{Entries, At, Same}
use Rattle.mcs_explore_search.specs.Keeping.{Adds, HasPlace, IsThere}

-- an entry
abbrev pub pair : {K L : Type 0} → K → Found L → K × Found L
pair k f = (k, f)

pub some-same : {A : Type 0} (x y : A) → Some x ≡ Some y → x ≡ y
some-same x y e = cc

-- one place has one thing
pub same-place : {A : Type 0} (E : List A) (i j : ℕ) (x y : A) → i ≡ j → slice_get E i ≡ Some x → slice_get E j ≡ Some y → x ≡ y
same-place E i j x y e h g = some-same x y (sym h ∙ ap (λ n. slice_get E n) e ∙ g)

pub at-old : {A : Type 0} (E F : List A) (i : ℕ) (x : A) → slice_get E i ≡ Some x → slice_get (E ++ F) i ≡ Some x
at-old [] F i x h = absurd cc
at-old (e ∷ E) F zero x h = h
at-old (e ∷ E) F (suc i) x h = at-old E F i x h

pub at-last : {A : Type 0} (E : List A) (x : A) → slice_get (E ++ x ∷ []) (length E) ≡ Some x
at-last [] x = refl
at-last (e ∷ E) x = at-last E x

-- what is in a list is in one of its parts
pub at-either : {A : Type 0} (E F : List A) (i : ℕ) (x : A) → slice_get (E ++ F) i ≡ Some x → (slice_get E i ≡ Some x) ⊎ ((j : ℕ) × (slice_get F j ≡ Some x))
at-either [] F i x h = inr (i, h)
at-either (e ∷ E) F zero x h = inl h
at-either (e ∷ E) F (suc i) x h = at-either E F i x h

zero-up : (j : ℕ) → 0 + j ≡ j
zero-up j = omega arith

suc-up : (n j : ℕ) → suc n + j ≡ suc (n + j)
suc-up n j = omega arith

-- what is in the second part is as much further on
pub at-after : {A : Type 0} (E F : List A) (j : ℕ) (x : A) → slice_get F j ≡ Some x → slice_get (E ++ F) (length E + j) ≡ Some x
at-after [] F j x h = ap (λ (n : ℕ). slice_get F n) (zero-up j) ∙ h
at-after (e ∷ E) F j x h = ap (λ (n : ℕ). slice_get (e ∷ (E ++ F)) n) (suc-up (length E) j) ∙ at-after E F j x h

pub at-within : {A : Type 0} (E : List A) (i : ℕ) (x : A) → slice_get E i ≡ Some x → i < length E
at-within [] i x h = absurd cc
at-within (e ∷ E) zero x h = omega arith
at-within (e ∷ E) (suc i) x h = let r = at-within E i x h in omega (arith, r)

pub within-at : {A : Type 0} (E : List A) (i : ℕ) → i < length E → (x : A) × (slice_get E i ≡ Some x)
within-at [] i h = absurd (omega (arith, h))
within-at (e ∷ E) zero h = (e, refl)
within-at (e ∷ E) (suc i) h = within-at E i (omega (arith, h))

pub at-split : {A : Type 0} (E : List A) (y : A) (i : ℕ) (x : A) → slice_get (E ++ y ∷ []) i ≡ Some x → (slice_get E i ≡ Some x) ⊎ ((i ≡ length E) × (x ≡ y))
at-split [] y zero x h = inr (refl, cc)
at-split [] y (suc i) x h = absurd cc
at-split (e ∷ E) y zero x h = inl h
at-split (e ∷ E) y (suc i) x h = go (at-split E y i x h)
  where
    go : (slice_get E i ≡ Some x) ⊎ ((i ≡ length E) × (x ≡ y)) → (slice_get E i ≡ Some x) ⊎ ((suc i ≡ suc (length E)) × (x ≡ y))
    go (inl a) = inl a
    go (inr b) = inr (ap (λ n. suc n) b.0, b.1)

pub one-up : (n : ℕ) → n + 1 ≡ suc n
one-up n = omega arith

pub one-longer : {A : Type 0} (E : List A) (x : A) → length (E ++ x ∷ []) ≡ suc (length E)
one-longer [] x = refl
one-longer (e ∷ E) x = ap (λ n. suc n) (one-longer E x)

pub at-or-below : (i n : ℕ) → i < n + 1 → (i ≡ n) ⊎ (i < n)
at-or-below zero zero lt = inl refl
at-or-below zero (suc n) lt = inr (omega arith)
at-or-below (suc i) zero lt = absurd (omega (arith, lt))
at-or-below (suc i) (suc n) lt = go (at-or-below i n (omega (arith, lt)))
  where
    go : (i ≡ n) ⊎ (i < n) → (suc i ≡ suc n) ⊎ (suc i < suc n)
    go (inl e) = inl (ap (λ m. suc m) e)
    go (inr b) = inr (omega (arith, b))

-- what follows a list is in the place of its length
pub nth-next : {A : Type 0} (ys : List A) (x : A) (rest keys : List A) → ys ++ x ∷ rest ≡ keys → slice_get keys (length ys) ≡ Some x
nth-next ys x rest keys h = ap (λ l. slice_get l (length ys)) (sym h) ∙ mid ys
  where
    mid : (ys : List _) → slice_get (ys ++ x ∷ rest) (length ys) ≡ Some x
    mid [] = refl
    mid (y ∷ ys) = mid ys

key-at : {K L : Type 0} (E : Entries K L) (i : ℕ) (k : K) (f : Found L) (d : K) → At E i k f → get_or (keys_of E) i d ≡ k
key-at [] i k f d h = absurd cc
key-at {K = K} {L = L} (e ∷ E) zero k f d h = ap (λ (x : K × Found L). x.0) (some-same e (pair k f) h)
key-at (e ∷ E) (suc i) k f d h = key-at E i k f d h

-- what a key that is looked up tells
module _ {K L : Type 0} (eq : K → K → Bool) where
  has-at : (E : Entries K L) (k : K) → is_some (lookup (eq k) E) ≡ true → IsThere eq E k
  has-at [] k h = absurd cc
  has-at (e ∷ E) k h = go (eq k e.0) refl h (has-at E k)
    where
      go : (b : Bool) → eq k e.0 ≡ b → is_some (cond b (Some e.1) (lookup (eq k) E)) ≡ true → (is_some (lookup (eq k) E) ≡ true → IsThere eq E k) → IsThere eq (e ∷ E) k
      go true is h later = record { place = 0; other = e.0; found = e.1; at = refl; same = is }
      go false is h later = let there : IsThere eq E k = later h in record { place = suc there.place; other = there.other; found = there.found; at = there.at; same = there.same }

  has-none : (E : Entries K L) (k : K) → is_some (lookup (eq k) E) ≡ false → (i : ℕ) (c : K) (q : Found L) → At E i c q → Same eq k c → ⊥
  has-none [] k h i c q at same = absurd cc
  has-none (e ∷ E) k h i c q at same = go (eq k e.0) refl h i at (λ rest j it. has-none E k rest j c q it same)
    where
      go : (b : Bool) → eq k e.0 ≡ b → is_some (cond b (Some e.1) (lookup (eq k) E)) ≡ false → (j : ℕ) → At (e ∷ E) j c q → (is_some (lookup (eq k) E) ≡ false → (i : ℕ) → At E i c q → ⊥) → ⊥
      go true is h j it later = absurd cc
      go false is h zero it later = let key : e.0 ≡ c = ap (λ (x : K × Found L). x.0) (some-same e (pair c q) it) in let yes : eq k e.0 ≡ true = ap (λ x. eq k x) key ∙ same in absurd cc
      go false is h (suc j) it later = later h j it

  pub has-place : (E : Entries K L) (k : K) (i : ℕ) → i < length E → position (eq k) (keys_of E) ≡ Some i → HasPlace eq E k i
  has-place E k i within h =
      let e = within-at E i within in
      let is = position-Some (eq k) (keys_of E) i e.0.0 h in
      record { other = e.0.0; found = e.0.1; at = e.1; same = ap (λ (c : K). eq k c) (sym (key-at E i e.0.0 e.0.1 e.0.0 e.1)) ∙ is.1 }

  module _ {S : Type 0} (m n : IndexMap K (Found L) S) (k : K) (r : Found L) where
    pub adds-old : is_some (get eq m k) ≡ true → Adds eq m.entries k r m.entries
    adds-old h = inl (has-at m.entries k h, refl)

    none : (o : Option (Found L)) → is_some o ≡ false → o ≡ None
    none None f = refl
    none (Some x) f = absurd cc

    entries-new : is_some (get eq m k) ≡ false → n.entries ≡ insert_entry eq m.entries k r → n.entries ≡ m.entries ++ (k, r) ∷ []
    entries-new h e = e ∙ insert_entry-new eq m k r (none (get eq m k) h)

    pub adds-new : is_some (get eq m k) ≡ false → n.entries ≡ insert_entry eq m.entries k r → Adds eq m.entries k r n.entries
    adds-new h e = inr (has-none m.entries k h, entries-new h e)

    pub place-new : IsEquivalence eq → is_some (get eq m k) ≡ false → n.entries ≡ insert_entry eq m.entries k r → (place : ℕ) → place ≡ length m.entries → HasPlace eq n.entries k place
    place-new fair h e place is = subst (λ (E : Entries K L). HasPlace eq E k place) (sym (entries-new h e)) (record {
      other = k;
      found = r;
      at = subst (λ (i : ℕ). At (m.entries ++ (k, r) ∷ []) i k r) (sym is) (at-last m.entries (k, r));
      same = fair.refl k;
    })
