-- What is said of a table of names when the list of one name changes.
use Rattle.std.proofs.Common.{◌≡◌, ℕ, suc, ◌-◌, ◌&&◌, Bool, true, false, cond, length, take, List, [], ◌∷◌, ◌++◌, Option, Some, None, Result, Ok, Err, refl, sym, ap, subst, ◌∙◌, arith}
use Rattle.std.specs.Prelude.{◌||◌, not, OnErr, bytes_eq, map, option_map, unwrap_or}
use Rattle.std.specs.Global.{Vec}
use Rattle.std.specs.List.{filter, list_all, list_any}
use Rattle.std.proofs.lemmas.List.Folds.{list_any-append}
use Rattle.std.proofs.lemmas.Map.Views.{any-filter_same}
use Rattle.std.specs.Map.{lookup, set_value}
use Rattle.std.specs.Cmp.Lexicographic.{bytes_decides, nat_list_eq_equiv}
use Rattle.indexmap.specs.IndexMap.{insert_entry}
use Rattle.mcs_types.specs.declared.id.ObjId.{ObjId}
use Rattle.mcs_types.specs.Ids.{same}
use Rattle.mcs_types.proofs.Ids.{same-self, same-equal}
use Rattle.mcs_lab_check.specs.declared.names.Named.TheVariants as named
use Rattle.mcs_lab_check.specs.Naming.{Naming, gives, is_this, name_after, name_of, named_of, what_named}
use Rattle.mcs_lab_check.specs.NamesHad.{name_in, named_now}
use Rattle.mcs_lab_check.specs.GivenTo.{AreApart, AreIndexed, but_last, given_to, is_among, moved, named_by, renamed, with_last, without_maybe, without_object}
use Rattle.mcs_lab_check.proofs.NamesHad.{kept-more}

-- a table seen by its names
abbrev pub seen : List (Vec ℕ × Vec ObjId) → List (List ℕ × List ObjId)
seen es = map (λ (e : Vec ℕ × Vec ObjId). (e.0.items, e.1.items)) es

-- whether a key is this name
abbrev pub is_name_of : List ℕ → Vec ℕ → Bool
is_name_of name key = bytes_eq name key.items

-- whether keys are the same name
abbrev pub same_key : Vec ℕ → Vec ℕ → Bool
same_key a b = bytes_eq a.items b.items

-- what is found by a name
found-seen : (name : List ℕ) (es : List (Vec ℕ × Vec ObjId)) → lookup (bytes_eq name) (seen es) ≡ option_map (λ (v : Vec ObjId). v.items) (lookup (is_name_of name) es)
found-seen name [] = refl
found-seen name (e ∷ es) = go (bytes_eq name e.0.items) (found-seen name es)
  where
    go : (b : Bool) → lookup (bytes_eq name) (seen es) ≡ option_map (λ (v : Vec ObjId). v.items) (lookup (is_name_of name) es)
        → cond b (Some e.1.items) (lookup (bytes_eq name) (seen es)) ≡ option_map (λ (v : Vec ObjId). v.items) (cond b (Some e.1) (lookup (is_name_of name) es))
    go true h = refl
    go false h = h

-- a name was given to the objects that are found by it, or to none
pub objects-found : (name : List ℕ) (es : List (Vec ℕ × Vec ObjId)) (v : Vec ObjId) → Some v ≡ lookup (is_name_of name) es → v.items ≡ given_to (seen es) name
objects-found name es v found = ap (λ (f : Option (Vec ObjId)). unwrap_or (option_map (λ (w : Vec ObjId). w.items) f) []) found ∙ ap (λ (f : Option (List ObjId)). unwrap_or f []) (sym (found-seen name es))

pub none-found : (name : List ℕ) (es : List (Vec ℕ × Vec ObjId)) → None ≡ lookup (is_name_of name) es → None ≡ lookup (bytes_eq name) (seen es)
none-found name es found = ap (λ (f : Option (Vec ObjId)). option_map (λ (w : Vec ObjId). w.items) f) found ∙ sym (found-seen name es)

-- the entry of the name is the first
here : (name key q : List ℕ) (new old : List ObjId) (rest : Option (List ObjId)) → bytes_eq name key ≡ true
    → cond (bytes_eq q key) (Some new) rest ≡ cond (bytes_eq name q) (Some new) (cond (bytes_eq q key) (Some old) rest)
here name key q new old rest is = go (bytes_eq q key) (bytes_eq name q) (ap (bytes_eq q) (sym ((bytes_decides name key).0 is)) ∙ nat_list_eq_equiv.symm q name)
  where
    go : (a b : Bool) → a ≡ b → cond a (Some new) rest ≡ cond b (Some new) (cond a (Some old) rest)
    go true true e = refl
    go false false e = refl
    go true false e = absurd cc
    go false true e = absurd cc

-- and it is a later one
later : (name key q : List ℕ) (new old : List ObjId) (rest changed : Option (List ObjId)) → bytes_eq name key ≡ false
    → changed ≡ cond (bytes_eq name q) (Some new) rest
    → cond (bytes_eq q key) (Some old) changed ≡ cond (bytes_eq name q) (Some new) (cond (bytes_eq q key) (Some old) rest)
later name key q new old rest changed other is = go (bytes_eq q key) (bytes_eq name q) refl refl is
  where
    go : (a b : Bool) → bytes_eq q key ≡ a → bytes_eq name q ≡ b → changed ≡ cond b (Some new) rest
        → cond a (Some old) changed ≡ cond b (Some new) (cond a (Some old) rest)
    go false b at by h = h
    go true false at by h = refl
    go true true at by h = let same = ap (bytes_eq name) (sym ((bytes_decides q key).0 at)) ∙ by in absurd cc

-- a name is put into the table
inserted : (es : List (Vec ℕ × Vec ObjId)) (key : Vec ℕ) (v : Vec ObjId) (q : List ℕ) → lookup (bytes_eq q) (seen (insert_entry same_key es key v)) ≡ cond (bytes_eq key.items q) (Some v.items) (lookup (bytes_eq q) (seen es))
inserted [] key v q = ap (λ (b : Bool). cond b (Some v.items) None) (nat_list_eq_equiv.symm q key.items)
inserted (e ∷ es) key v q = go (bytes_eq key.items e.0.items) refl (inserted es key v q)
  where
    go : (b : Bool) → bytes_eq key.items e.0.items ≡ b
        → lookup (bytes_eq q) (seen (insert_entry same_key es key v)) ≡ cond (bytes_eq key.items q) (Some v.items) (lookup (bytes_eq q) (seen es))
        → lookup (bytes_eq q) (seen (cond b ((e.0, v) ∷ es) (e ∷ insert_entry same_key es key v))) ≡ cond (bytes_eq key.items q) (Some v.items) (lookup (bytes_eq q) (seen (e ∷ es)))
    go true is h = here key.items e.0.items q v.items e.1.items (lookup (bytes_eq q) (seen es)) is
    go false is h = later key.items e.0.items q v.items e.1.items (lookup (bytes_eq q) (seen es)) (lookup (bytes_eq q) (seen (insert_entry same_key es key v))) is h

-- the objects of a name are written anew
written : (es : List (Vec ℕ × Vec ObjId)) (name : List ℕ) (v w : Vec ObjId) (q : List ℕ) → Some v ≡ lookup (is_name_of name) es
    → lookup (bytes_eq q) (seen (set_value (is_name_of name) es w)) ≡ cond (bytes_eq name q) (Some w.items) (lookup (bytes_eq q) (seen es))
written [] name v w q found = absurd cc
written (e ∷ es) name v w q found = go (bytes_eq name e.0.items) refl found (written es name v w q)
  where
    go : (b : Bool) → bytes_eq name e.0.items ≡ b → Some v ≡ cond b (Some e.1) (lookup (is_name_of name) es)
        → (Some v ≡ lookup (is_name_of name) es → lookup (bytes_eq q) (seen (set_value (is_name_of name) es w)) ≡ cond (bytes_eq name q) (Some w.items) (lookup (bytes_eq q) (seen es)))
        → lookup (bytes_eq q) (seen (cond b ((e.0, w) ∷ es) (e ∷ set_value (is_name_of name) es w))) ≡ cond (bytes_eq name q) (Some w.items) (lookup (bytes_eq q) (seen (e ∷ es)))
    go true is found h = here name e.0.items q w.items e.1.items (lookup (bytes_eq q) (seen es)) is
    go false is found h = later name e.0.items q w.items e.1.items (lookup (bytes_eq q) (seen es)) (lookup (bytes_eq q) (seen (set_value (is_name_of name) es w))) is (h found)

-- what was said of the name itself is so of each that is the same
at-name : (f : List ObjId → List ObjId) (lists : List (List ℕ × List ObjId)) (name : List ℕ) (before after : List ObjId) (q : List ℕ) → before ≡ given_to lists name → after ≡ f before
    → unwrap_or (cond (bytes_eq name q) (Some after) (lookup (bytes_eq q) lists)) [] ≡ cond (bytes_eq name q) (f (given_to lists q)) (given_to lists q)
at-name f lists name before after q was is = go (bytes_eq name q) refl
  where
    go : (b : Bool) → bytes_eq name q ≡ b → unwrap_or (cond b (Some after) (lookup (bytes_eq q) lists)) [] ≡ cond b (f (given_to lists q)) (given_to lists q)
    go false same = refl
    go true same = is ∙ ap f was ∙ ap (λ (n : List ℕ). f (given_to lists n)) ((bytes_decides name q).0 same)

-- a name that was given to none is given to one object
pub put-first : (old new : List (Vec ℕ × Vec ObjId)) (name : List ℕ) (key : Vec ℕ) (v : Vec ObjId) (o : ObjId) → key.items ≡ name → v.items ≡ o ∷ []
    → None ≡ lookup (bytes_eq name) (seen old) → new ≡ insert_entry same_key old key v
    → (q : List ℕ) → given_to (seen new) q ≡ cond (bytes_eq name q) (given_to (seen old) q ++ o ∷ []) (given_to (seen old) q)
put-first old new name key v o is one none puts q =
    ap (λ (es : List (Vec ℕ × Vec ObjId)). given_to (seen es) q) puts
    ∙ ap (λ (f : Option (List ObjId)). unwrap_or f []) (inserted old key v q)
    ∙ ap (λ (n : List ℕ). unwrap_or (cond (bytes_eq n q) (Some v.items) (lookup (bytes_eq q) (seen old))) []) is
    ∙ at-name (λ (before : List ObjId). before ++ o ∷ []) (seen old) name [] v.items q (ap (λ (f : Option (List ObjId)). unwrap_or f []) none) one

-- the objects of a name that has some are changed so
pub changed : (f : List ObjId → List ObjId) (old new : List (Vec ℕ × Vec ObjId)) (name : List ℕ) (v w : Vec ObjId) → Some v ≡ lookup (is_name_of name) old
    → new ≡ set_value (is_name_of name) old w → w.items ≡ f v.items
    → (q : List ℕ) → given_to (seen new) q ≡ cond (bytes_eq name q) (f (given_to (seen old) q)) (given_to (seen old) q)
changed f old new name v w found writes is q =
    ap (λ (es : List (Vec ℕ × Vec ObjId)). given_to (seen es) q) writes
    ∙ ap (λ (o : Option (List ObjId)). unwrap_or o []) (written old name v w q found)
    ∙ at-name f (seen old) name v.items w.items q (objects-found name old v found) is

-- where the same is written again, nothing changes
pub unchanged : (old new : List (Vec ℕ × Vec ObjId)) (name : List ℕ) (v w : Vec ObjId) → Some v ≡ lookup (is_name_of name) old
    → new ≡ set_value (is_name_of name) old w → w.items ≡ v.items → (q : List ℕ) → given_to (seen new) q ≡ given_to (seen old) q
unchanged old new name v w found writes is q = changed (λ (l : List ObjId). l) old new name v w found writes is q ∙ go (bytes_eq name q)
  where
    go : (b : Bool) → cond b (given_to (seen old) q) (given_to (seen old) q) ≡ given_to (seen old) q
    go true = refl
    go false = refl

-- what changes nothing where there is none changes nothing at a name that has none
pub none-changed : (f : List ObjId → List ObjId) (lists : List (List ℕ × List ObjId)) (name : List ℕ) → f [] ≡ [] → None ≡ lookup (bytes_eq name) lists
    → (q : List ℕ) → given_to lists q ≡ cond (bytes_eq name q) (f (given_to lists q)) (given_to lists q)
none-changed f lists name keeps none q = go (bytes_eq name q) refl
  where
    go : (b : Bool) → bytes_eq name q ≡ b → given_to lists q ≡ cond b (f (given_to lists q)) (given_to lists q)
    go false same = refl
    go true same =
        let empty : given_to lists q ≡ [] = ap (given_to lists) (sym ((bytes_decides name q).0 same)) ∙ sym (ap (λ (o : Option (List ObjId)). unwrap_or o []) none) in
        empty ∙ sym keeps ∙ ap f (sym empty)

-- a fact that holds whatever the result holds at an error
pub at-error : {A E : Type 0} (r : Result A E) (P : Type 0) → P → OnErr r P
at-error (Ok x) P p = tt
at-error (Err e) P p = p

-- a list without the one that was added to it
one-longer : (l : List ObjId) (o : ObjId) → length (l ++ o ∷ []) ≡ suc (length l)
one-longer [] o = refl
one-longer (x ∷ l) o = ap suc (one-longer l o)

first-of : (l more : List ObjId) → take (length l) (l ++ more) ≡ l
first-of [] more = refl
first-of (x ∷ l) more = ap (λ (rest : List ObjId). x ∷ rest) (first-of l more)

init-last : (l : List ObjId) (o : ObjId) → take (length (l ++ o ∷ []) - 1) (l ++ o ∷ []) ≡ l
init-last l o =
    let long : length (l ++ o ∷ []) - 1 ≡ length l = omega (arith, one-longer l o) in
    ap (λ (n : ℕ). take n (l ++ o ∷ [])) long ∙ first-of l (o ∷ [])

-- an object that is given a name, and of which the name is taken back
pub taken-back : (old more back : List (List ℕ × List ObjId)) (name : List ℕ) (o : ObjId) → ((q : List ℕ) → given_to more q ≡ with_last name o (given_to old q) q)
    → ((q : List ℕ) → given_to back q ≡ but_last name (given_to more q) q) → (q : List ℕ) → given_to back q ≡ given_to old q
taken-back old more back name o added taken q = taken q ∙ ap (λ (l : List ObjId). but_last name l q) (added q) ∙ go (bytes_eq name q)
  where
    go : (b : Bool) → cond b (take (length (cond b (given_to old q ++ o ∷ []) (given_to old q)) - 1) (cond b (given_to old q ++ o ∷ []) (given_to old q))) (cond b (given_to old q ++ o ∷ []) (given_to old q)) ≡ given_to old q
    go true = init-last (given_to old q) o
    go false = refl

-- objects are the same in either order
same-turned : (a b : ObjId) → same a b ≡ same b a
same-turned a b = go (same a b) refl (same b a) refl
  where
    go : (v : Bool) → same a b ≡ v → (w : Bool) → same b a ≡ w → same a b ≡ same b a
    go true p true q = p ∙ sym q
    go false p false q = p ∙ sym q
    go true p false q = let wrong : false ≡ true = sym q ∙ ap (λ (z : ObjId). same z a) (sym (same-equal a b p)) ∙ same-self a in absurd cc
    go false p true q = let wrong : false ≡ true = sym p ∙ ap (λ (z : ObjId). same z b) (sym (same-equal b a q)) ∙ same-self b in absurd cc

or-false : (b : Bool) → (b || false) ≡ b
or-false true = refl
or-false false = refl

neither : (a b : Bool) → (a || b) ≡ false → (a ≡ false) × (b ≡ false)
neither false b none = (refl, none)
neither true b none = absurd cc

-- objects without one
among-without : (o x : ObjId) (os : List ObjId) → is_among (without_object o os) x ≡ (not (same o x) && is_among os x)
among-without o x os = any-filter_same (same x) (λ (k : ObjId). not (same o k)) (not (same o x)) (λ k is. ap (λ (z : ObjId). not (same o z)) (sym (same-equal x k is))) os

-- objects with one more
among-more : (o x : ObjId) (os : List ObjId) → is_among (os ++ o ∷ []) x ≡ (is_among os x || same x o)
among-more o x os = list_any-append (same x) os (o ∷ []) ∙ ap (λ (b : Bool). is_among os x || b) (or-false (same x o))

-- what a test takes is taken of none that is not there
filter-none : (test : ObjId → Bool) (os : List ObjId) (x : ObjId) → is_among os x ≡ false → is_among (filter test os) x ≡ false
filter-none test [] x none = refl
filter-none test (o ∷ os) x none = go (test o) (neither (same x o) (is_among os x) none) (filter-none test os x)
  where
    go : (b : Bool) → (same x o ≡ false) × (is_among os x ≡ false) → (is_among os x ≡ false → is_among (filter test os) x ≡ false)
        → is_among (cond b (o ∷ filter test os) (filter test os)) x ≡ false
    go true parts rest = rw parts.0 (rest parts.1)
    go false parts rest = rest parts.1

apart-filter : (test : ObjId → Bool) (os : List ObjId) → AreApart os → AreApart (filter test os)
apart-filter test [] apart = tt
apart-filter test (o ∷ os) apart = go (test o) (apart-filter test os apart.1)
  where
    go : (b : Bool) → AreApart (filter test os) → AreApart (cond b (o ∷ filter test os) (filter test os))
    go true rest = (filter-none test os o apart.0, rest)
    go false rest = rest

apart-more : (os : List ObjId) (o : ObjId) → AreApart os → is_among os o ≡ false → AreApart (os ++ o ∷ [])
apart-more [] o apart none = (refl, tt)
apart-more (p ∷ os) o apart none =
    let parts = neither (same o p) (is_among os o) none in
    let other : same p o ≡ false = same-turned p o ∙ parts.0 in
    (among-more o p os ∙ ap (λ (b : Bool). b || same p o) apart.0 ∙ other, apart-more os o apart.1 parts.1)

-- the objects of a name are those that have it, after one is given another name
taken-among : (had : Option (List ℕ)) (o x : ObjId) (os : List ObjId) (q : List ℕ) → is_among (without_maybe had o os q) x ≡ (not (is_this had q && same o x) && is_among os x)
taken-among None o x os q = refl
taken-among (Some h) o x os q = go (bytes_eq h q)
  where
    go : (b : Bool) → is_among (cond b (without_object o os) os) x ≡ (not (b && same o x) && is_among os x)
    go true = among-without o x os
    go false = refl

added-among : (word : List ℕ) (o x : ObjId) (os : List ObjId) (q : List ℕ) → is_among (with_last word o os q) x ≡ (is_among os x || (bytes_eq word q && same x o))
added-among word o x os q = go (bytes_eq word q)
  where
    go : (b : Bool) → is_among (cond b (os ++ o ∷ []) os) x ≡ (is_among os x || (b && same x o))
    go true = among-more o x os
    go false = sym (or-false (is_among os x))

-- an object has another name than it had
names-apart : (had : Option (List ℕ)) (word q : List ℕ) → is_this had word ≡ false → (is_this had q && bytes_eq word q) ≡ false
names-apart None word q other = refl
names-apart (Some h) word q other = go (bytes_eq h q) refl (bytes_eq word q) refl
  where
    go : (a : Bool) → bytes_eq h q ≡ a → (b : Bool) → bytes_eq word q ≡ b → (a && b) ≡ false
    go false p b r = refl
    go true p false r = refl
    go true p true r =
        let is : bytes_eq h word ≡ true = ap (bytes_eq h) ((bytes_decides word q).0 r) ∙ p in
        sym is ∙ other

decided : (a w s n : Bool) → (s ≡ true → n ≡ a) → (a && w) ≡ false → (not (a && s) && (n || (w && s))) ≡ cond s w n
decided true true s n is both = absurd cc
decided true false true n is both = refl
decided true false false true is both = refl
decided true false false false is both = refl
decided false true true true is both = let wrong = is refl in absurd cc
decided false true true false is both = refl
decided false false true true is both = let wrong = is refl in absurd cc
decided false false true false is both = refl
decided false true false true is both = refl
decided false true false false is both = refl
decided false false false true is both = refl
decided false false false false is both = refl

moved-among : (had : Option (List ℕ)) (word q : List ℕ) (o x : ObjId) (before : List ObjId) (now : Bool) → is_this had word ≡ false → is_among before x ≡ now
    → (same o x ≡ true → now ≡ is_this had q) → is_among (moved had word o before q) x ≡ cond (same o x) (bytes_eq word q) now
moved-among had word q o x before now other is same_one =
    taken-among had o x (with_last word o before q) q
    ∙ ap (λ (b : Bool). not (is_this had q && same o x) && b) (added-among word o x before q)
    ∙ (λ i. not (is_this had q && same o x) && (is i || (bytes_eq word q && same-turned x o i)))
    ∙ decided (is_this had q) (bytes_eq word q) (same o x) now same_one (names-apart had word q other)

moved-apart : (had : Option (List ℕ)) (word q : List ℕ) (o : ObjId) (before : List ObjId) → is_this had word ≡ false → is_among before o ≡ is_this had q
    → AreApart before → AreApart (moved had word o before q)
moved-apart had word q o before other is apart = taken had (added (bytes_eq word q) refl)
  where
    taken : (h : Option (List ℕ)) → AreApart (with_last word o before q) → AreApart (without_maybe h o (with_last word o before q) q)
    taken None all = all
    taken (Some h) all = go (bytes_eq h q)
      where
        go : (b : Bool) → AreApart (cond b (without_object o (with_last word o before q)) (with_last word o before q))
        go true = apart-filter (λ (k : ObjId). not (same o k)) (with_last word o before q) all
        go false = all

    added : (b : Bool) → bytes_eq word q ≡ b → AreApart (cond b (before ++ o ∷ []) before)
    added false r = apart
    added true r = apart-more before o apart (is ∙ none (is_this had q) (names-apart had word q other))
      where
        none : (a : Bool) → (a && bytes_eq word q) ≡ false → a ≡ false
        none false both = refl
        none true both = sym r ∙ both

-- where no name was given
pub none-indexed : (latest : List (ℕ × List ℕ)) (by_name : List (List ℕ × List ObjId)) (gs : List Naming) → gs ≡ []
    → ((o : ObjId) → name_in latest o ≡ None) → ((q : List ℕ) → given_to by_name q ≡ []) → AreIndexed latest by_name gs
none-indexed latest by_name gs none no_name no_object = record {
  names = λ o. no_name o ∙ sym (ap (λ (all : List Naming). name_of all o) none);
  objects = λ q o. ap (λ (os : List ObjId). is_among os o) (no_object q) ∙ sym (ap (λ (all : List Naming). is_this (name_of all o) q) none);
  apart = λ q. subst AreApart (sym (no_object q)) tt;
}

-- tables that answer the same are tables of the same names
pub indexed-same : (latest newer : List (ℕ × List ℕ)) (by_name now : List (List ℕ × List ObjId)) (gs all : List Naming) → AreIndexed latest by_name gs → all ≡ gs
    → ((o : ObjId) → name_in newer o ≡ name_in latest o) → ((q : List ℕ) → given_to now q ≡ given_to by_name q) → AreIndexed newer now all
indexed-same latest newer by_name now gs all was same named given = record {
  names = λ o. named o ∙ was.names o ∙ sym (ap (λ (l : List Naming). name_of l o) same);
  objects = λ q o. ap (λ (os : List ObjId). is_among os o) (given q) ∙ was.objects q o ∙ sym (ap (λ (l : List Naming). is_this (name_of l o) q) same);
  apart = λ q. subst AreApart (sym (given q)) (was.apart q);
}

-- whether an object has a name after one is given a name
now-this : (o x : ObjId) (word q : List ℕ) (before : Option (List ℕ)) → cond (same o x) (bytes_eq word q) (is_this before q) ≡ is_this (named_now o word before x) q
now-this o x word q before = go (same o x)
  where
    go : (b : Bool) → cond b (bytes_eq word q) (is_this before q) ≡ is_this (cond b (Some word) before) q
    go true = refl
    go false = refl

-- nothing changes where an object is given the name that it has
pub named-again : (o x : ObjId) (word : List ℕ) (names : List (ℕ × List ℕ)) → is_this (name_in names o) word ≡ true → name_in names x ≡ named_now o word (name_in names x) x
named-again o x word names has = go (same o x) refl
  where
    it : (n : Option (List ℕ)) → is_this n word ≡ true → n ≡ Some word
    it None never = absurd cc
    it (Some name) is = ap (λ (w : List ℕ). Some w) ((bytes_decides name word).0 is)

    go : (b : Bool) → same o x ≡ b → name_in names x ≡ cond b (Some word) (name_in names x)
    go true is = ap (name_in names) (sym (same-equal o x is)) ∙ it (name_in names o) has
    go false is = refl

pub objects-again : (had : Option (List ℕ)) (word q : List ℕ) (o : ObjId) (before : List ObjId) → is_this had word ≡ true → before ≡ renamed had word o before q
objects-again had word q o before has = rw has refl

pub objects-moved : (had : Option (List ℕ)) (word q : List ℕ) (o : ObjId) (before after : List ObjId) → is_this had word ≡ false → after ≡ moved had word o before q → after ≡ renamed had word o before q
objects-moved had word q o before after other is = rw other is

-- the tables after an object is given a name
pub indexed-renamed : (latest newer : List (ℕ × List ℕ)) (by_name now : List (List ℕ × List ObjId)) (gs all : List Naming) (o : ObjId) (word : List ℕ)
    → AreIndexed latest by_name gs → all ≡ gs ++ record { object = o; name = word } ∷ []
    → ((x : ObjId) → name_in newer x ≡ named_now o word (name_in latest x) x) → ((q : List ℕ) → given_to now q ≡ renamed (name_in latest o) word o (given_to by_name q) q)
    → AreIndexed newer now all
indexed-renamed latest newer by_name now gs all o word was more named given = record {
  names = names;
  objects = λ q x. ap (λ (os : List ObjId). is_among os x) (given q) ∙ among (is_this (name_in latest o) word) refl q x ∙ ap (λ (n : Option (List ℕ)). is_this n q) (sym (named x) ∙ names x);
  apart = λ q. subst AreApart (sym (given q)) (apart (is_this (name_in latest o) word) refl q);
}
  where
    names : (x : ObjId) → name_in newer x ≡ name_of all x
    names = kept-more latest newer gs all o word more was.names named

    had : (q : List ℕ) (x : ObjId) → is_among (given_to by_name q) x ≡ is_this (name_in latest x) q
    had q x = was.objects q x ∙ ap (λ (n : Option (List ℕ)). is_this n q) (sym (was.names x))

    among : (b : Bool) → is_this (name_in latest o) word ≡ b → (q : List ℕ) (x : ObjId)
        → is_among (cond b (given_to by_name q) (moved (name_in latest o) word o (given_to by_name q) q)) x ≡ is_this (named_now o word (name_in latest x) x) q
    among true has q x = had q x ∙ ap (λ (n : Option (List ℕ)). is_this n q) (named-again o x word latest has)
    among false other q x =
        moved-among (name_in latest o) word q o x (given_to by_name q) (is_this (name_in latest x) q) other (had q x) (λ is. ap (λ (z : ObjId). is_this (name_in latest z) q) (sym (same-equal o x is)))
        ∙ now-this o x word q (name_in latest x)

    apart : (b : Bool) → is_this (name_in latest o) word ≡ b → (q : List ℕ) → AreApart (cond b (given_to by_name q) (moved (name_in latest o) word o (given_to by_name q) q))
    apart true has q = was.apart q
    apart false other q = moved-apart (name_in latest o) word q o (given_to by_name q) other (had q o) (was.apart q)

-- the objects that are given a name and pass a test
abbrev tested : (test : ObjId → Bool) (word : List ℕ) (gs : List Naming) → List ObjId
tested test word gs = map (λ (n : Naming). n.object) (filter (λ (n : Naming). bytes_eq n.name word && test n.object) gs)

-- whether an object is given a name
abbrev is_given : List ℕ → ObjId → List Naming → Bool
is_given word x gs = list_any (λ (n : Naming). bytes_eq n.name word && same x n.object) gs

tested-among : (test : ObjId → Bool) (word : List ℕ) (gs : List Naming) (x : ObjId) → is_among (tested test word gs) x ≡ (test x && is_given word x gs)
tested-among test word [] x = none (test x)
  where
    none : (b : Bool) → false ≡ (b && false)
    none true = refl
    none false = refl
tested-among test word (g ∷ gs) x = step (bytes_eq g.name word && test g.object) ∙ ap (λ (b : Bool). ((bytes_eq g.name word && test g.object) && same x g.object) || b) (tested-among test word gs x)
    ∙ picked (bytes_eq g.name word) (test g.object) (same x g.object) (test x) (is_given word x gs) (λ is. ap test (sym (same-equal x g.object is)))
  where
    step : (c : Bool) → is_among (map (λ (n : Naming). n.object) (cond c (g ∷ filter (λ (n : Naming). bytes_eq n.name word && test n.object) gs) (filter (λ (n : Naming). bytes_eq n.name word && test n.object) gs))) x
        ≡ ((c && same x g.object) || is_among (tested test word gs) x)
    step true = refl
    step false = refl

    picked : (b t s u a : Bool) → (s ≡ true → t ≡ u) → (((b && t) && s) || (u && a)) ≡ (u && ((b && s) || a))
    picked false t s u a is = refl
    picked true true true true a is = refl
    picked true false true false a is = refl
    picked true true true false a is = let wrong = is refl in absurd cc
    picked true false true true a is = let wrong = is refl in absurd cc
    picked true true false u a is = refl
    picked true false false u a is = refl

-- an object that has a name was given it
last-given : (gs : List Naming) (last : Option (List ℕ)) (x : ObjId) (word : List ℕ) → is_this (name_after last gs x) word ≡ true → (is_this last word || is_given word x gs) ≡ true
last-given [] last x word is = ap (λ (b : Bool). b || false) is
last-given (g ∷ gs) last x word is = go (same g.object x) refl (last-given gs (cond (same g.object x) (Some g.name) last) x word is)
  where
    with_one : (l b a : Bool) → (b || a) ≡ true → (l || ((b && true) || a)) ≡ true
    with_one true b a h = refl
    with_one false true a h = refl
    with_one false false a h = h

    with_none : (l b a : Bool) → (l || a) ≡ true → (l || ((b && false) || a)) ≡ true
    with_none true b a h = refl
    with_none false true a h = h
    with_none false false a h = h

    go : (b : Bool) → same g.object x ≡ b → (is_this (cond b (Some g.name) last) word || is_given word x gs) ≡ true
        → (is_this last word || ((bytes_eq g.name word && same x g.object) || is_given word x gs)) ≡ true
    go true p h = ap (λ (s : Bool). is_this last word || ((bytes_eq g.name word && s) || is_given word x gs)) (same-turned x g.object ∙ p) ∙ with_one (is_this last word) (bytes_eq g.name word) (is_given word x gs) h
    go false p h = ap (λ (s : Bool). is_this last word || ((bytes_eq g.name word && s) || is_given word x gs)) (same-turned x g.object ∙ p) ∙ with_none (is_this last word) (bytes_eq g.name word) (is_given word x gs) h

-- the objects that are given a name and have it still are those that have it
has-among : (gs : List Naming) (x : ObjId) (word : List ℕ) → is_among (tested (λ (o : ObjId). is_this (name_of gs o) word) word gs) x ≡ is_this (name_of gs x) word
has-among gs x word = tested-among (λ (o : ObjId). is_this (name_of gs o) word) word gs x ∙ go (is_this (name_of gs x) word) refl
  where
    go : (b : Bool) → is_this (name_of gs x) word ≡ b → (b && is_given word x gs) ≡ b
    go true is = last-given gs None x word is
    go false is = refl

-- what is said of all objects among some
all-same : (o : ObjId) (os : List ObjId) → ((x : ObjId) → is_among os x ≡ true → same o x ≡ true) → list_all (same o) os ≡ true
all-same o [] are = refl
all-same o (p ∷ os) are = rw (are p (ap (λ (b : Bool). b || is_among os p) (same-self p))) (all-same o os (λ x is. are x (ap (λ (b : Bool). same x p || b) is ∙ or-true (same x p))))
  where
    or-true : (b : Bool) → (b || true) ≡ true
    or-true true = refl
    or-true false = refl

one-among : (o : ObjId) (os : List ObjId) → list_all (same o) os ≡ true → (x : ObjId) → is_among os x ≡ true → same o x ≡ true
one-among o [] all x is = absurd cc
one-among o (p ∷ os) all x is = go (same x p) refl (same o p) refl all is (λ every among. one-among o os every x among)
  where
    go : (s : Bool) → same x p ≡ s → (t : Bool) → same o p ≡ t → (t && list_all (same o) os) ≡ true → (s || is_among os x) ≡ true → (list_all (same o) os ≡ true → is_among os x ≡ true → same o x ≡ true) → same o x ≡ true
    go s e false f every among rest = absurd cc
    go true e true f every among rest = ap (same o) (same-equal x p e) ∙ f
    go false e true f every among rest = rest every among

-- what is named by objects is named by all lists of the same
named-same : (l os : List ObjId) → AreApart l → ((x : ObjId) → is_among l x ≡ is_among os x) → named_by l ≡ named_of os
named-same [] [] apart are = refl
named-same [] (o ∷ os) apart are = let wrong : false ≡ true = are o ∙ ap (λ (b : Bool). b || is_among os o) (same-self o) in absurd cc
named-same (a ∷ []) [] apart are = let wrong : true ≡ false = sym (ap (λ (b : Bool). b || false) (same-self a)) ∙ are a in absurd cc
named-same (a ∷ []) (o ∷ os) apart are =
    let is : same o a ≡ true = sym (or-false (same o a)) ∙ are o ∙ ap (λ (b : Bool). b || is_among os o) (same-self o) in
    let rest : (x : ObjId) → is_among os x ≡ true → same o x ≡ true = λ x among. one x (sym (or-false (same x a)) ∙ are x ∙ later (same x o) (is_among os x) among) in
    rw (all-same o os rest) (ap (λ (z : ObjId). named.One z) (sym (same-equal o a is)))
  where
    later : (s b : Bool) → b ≡ true → (s || b) ≡ true
    later true b is = refl
    later false b is = is

    one : (x : ObjId) → same x a ≡ true → same o x ≡ true
    one x is =
        let at : same o a ≡ true = sym (or-false (same o a)) ∙ are o ∙ ap (λ (b : Bool). b || is_among os o) (same-self o) in
        ap (same o) (same-equal x a is) ∙ at
named-same (a ∷ b ∷ l) [] apart are = let wrong : true ≡ false = sym (ap (λ (v : Bool). v || is_among (b ∷ l) a) (same-self a)) ∙ are a in absurd cc
named-same (a ∷ b ∷ l) (o ∷ os) apart are = go (list_all (same o) os) refl
  where
    later : (s v : Bool) → v ≡ true → (s || v) ≡ true
    later true v is = refl
    later false v is = is

    go : (v : Bool) → list_all (same o) os ≡ v → named.Several ≡ cond v (named.One o) named.Several
    go false some = refl
    go true all =
        let every : list_all (same o) (o ∷ os) ≡ true = ap (λ (s : Bool). s && list_all (same o) os) (same-self o) ∙ all in
        let at_a : same o a ≡ true = one-among o (o ∷ os) every a (sym (are a) ∙ ap (λ (v : Bool). v || is_among (b ∷ l) a) (same-self a)) in
        let at_b : same o b ≡ true = one-among o (o ∷ os) every b (sym (are b) ∙ later (same b a) (is_among (b ∷ l) b) (ap (λ (v : Bool). v || is_among l b) (same-self b))) in
        let alike : same a b ≡ true = ap (λ (z : ObjId). same z b) (sym (same-equal o a at_a)) ∙ at_b in
        let wrong : true ≡ false = sym alike ∙ (neither (same a b) (is_among l a) apart.0).0 in
        absurd cc

-- what is found by the tables is what is named
pub found-indexed : (latest : List (ℕ × List ℕ)) (by_name : List (List ℕ × List ObjId)) (gs : List Naming) (word : List ℕ) → AreIndexed latest by_name gs
    → named_by (given_to by_name word) ≡ what_named gs word
found-indexed latest by_name gs word are =
    named-same (given_to by_name word) (tested (λ (o : ObjId). is_this (name_of gs o) word) word gs) (are.apart word) (λ x. are.objects word x ∙ sym (has-among gs x word))
