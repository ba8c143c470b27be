-- Rows that stay at their numbers, and the rows that numbers name.
use Rattle.std.specs.Prelude.{ℕ, zero, suc, ◌+◌, ◌≡◌, List, [], ◌∷◌, ◌++◌, Some, map, position, slice_get, get_or, Bool, true, Result, Ok, Err, false, nat_eq, option_map, if◌then◌else◌}
use Rattle.std.specs.List.{list_any}
use Rattle.std.proofs.Common.{refl, ap, sym, ◌∙◌, subst, arith}
use Rattle.std.proofs.lemmas.List.{append_assoc, append-nil, map-append}
use Rattle.std.specs.Result.{IfOk}
use Rattle.std.proofs.lemmas.List.Quantifiers.{position-Some}
use Rattle.std.proofs.lemmas.Option.{slice_get-get_or, slice_get-map}
use Rattle.std.specs.Cmp.Lexicographic.{pointwise, same_text}
use Rattle.indexmap.specs.IndexSet.{insert_key}
use Rattle.mcs_types.specs.declared.id.ObjId.{ObjId}
use Rattle.mcs_book.specs.Logs.{Log}
use Rattle.mcs_book.specs.Slots.{slot}
use Rattle.mcs_explore_rows.specs.Numbers.{below, cap_numbers, option_numbers}
use Rattle.mcs_turns.specs.Turns.{User, RunState}
use Rattle.mcs_explore_rows.specs.declared.hashed.Hashed.{Hashed}
use Rattle.mcs_explore_rows.specs.Rows.{HaveSameRows, IsKey, rows_of, slots_numbers}
use Rattle.mcs_explore_rows.specs.Naming.{Adds, Keeps, Names}
use Rattle.mcs_explore_rows.proofs.Bytes.{coded-one}

-- what is in a list is in a longer one
pub get-longer : {A : Type 0} (xs ys : List A) (n : ℕ) (x : A) → slice_get xs n ≡ Some x → slice_get (xs ++ ys) n ≡ Some x
get-longer [] ys n x h = absurd cc
get-longer (z ∷ zs) ys zero x h = h
get-longer (z ∷ zs) ys (suc n) x h = get-longer zs ys n x h

pub keeps-longer : (old more : List (List ℕ)) → Keeps old (old ++ more)
keeps-longer old more n r h = get-longer old more n r h

-- numbers name the same rows when more were interned
pub names-kept : (old new : List (List ℕ)) (ns : List ℕ) (rows : List (List ℕ)) → Keeps old new → Names old ns rows → Names new ns rows
names-kept old new [] [] k h = refl
names-kept old new [] (r ∷ rs) k h = absurd cc
names-kept old new (n ∷ ns) [] k h = absurd cc
names-kept old new (n ∷ ns) (r ∷ rs) k h =
    let first : slice_get old n ≡ Some r = cc in
    let rest : Names old ns rs = cc in
    ap (λ o. o ∷ map (slice_get new) ns) (k n r first) ∙ ap (λ os. Some r ∷ os) (names-kept old new ns rs k rest)

-- one more number names one more row
pub names-more : (old new : List (List ℕ)) (ns : List ℕ) (n : ℕ) (r : List ℕ) → Keeps old new → slice_get new n ≡ Some r → (rows : List (List ℕ)) → Names old ns rows → Names new (ns ++ (n ∷ [])) (rows ++ (r ∷ []))
names-more old new ns n r k at rows h =
    map-append (slice_get new) ns (n ∷ []) ∙ ap (λ os. os ++ (slice_get new n ∷ [])) (names-kept old new ns rows k h)
    ∙ ap (λ o. map (λ (x : List ℕ). Some x) rows ++ (o ∷ [])) at ∙ sym (map-append (λ (x : List ℕ). Some x) rows (r ∷ []))

-- rows that are added after others
pub adds-then : (old middle new : List (List ℕ)) (a b c : List ℕ) (xs ys : List (List ℕ)) → Adds old a middle b xs → Adds middle b new c ys → Adds old a new c (xs ++ ys)
adds-then old middle new a b c xs ys h k = λ rows named. subst (λ rs. Names new c rs) (append_assoc rows xs ys) (k (rows ++ xs) (h rows named))

-- numbers name one list of rows
pub names-one : (met : List (List ℕ)) (ns : List ℕ) (rows others : List (List ℕ)) → Names met ns rows → Names met ns others → rows ≡ others
names-one met ns rows others h k = somes rows others (sym h ∙ k)
  where
    somes : (xs ys : List (List ℕ)) → map (λ (x : List ℕ). Some x) xs ≡ map (λ (x : List ℕ). Some x) ys → xs ≡ ys
    somes [] [] e = refl
    somes [] (y ∷ ys) e = absurd cc
    somes (x ∷ xs) [] e = absurd cc
    somes (x ∷ xs) (y ∷ ys) e =
        let first : x ≡ y = cc in
        let rest : map (λ (z : List ℕ). Some z) xs ≡ map (λ (z : List ℕ). Some z) ys = cc in
        ap (λ z. z ∷ xs) first ∙ ap (λ zs. y ∷ zs) (somes xs ys rest)

-- a key stays a key when more rows were interned
pub key-kept : (numbered : Bool) (old new : List (List ℕ)) (users : List User) (g : RunState) (bytes : List ℕ) → Keeps old new → IsKey numbered old users g bytes → IsKey numbered new users g bytes
key-kept numbered old new users g bytes k is = record {
  numbers = is.numbers;
  are = is.are;
  name = record {
    picks = is.name.picks;
    are = is.name.are;
    so = λ ks are. names-kept old new is.numbers (rows_of numbered users g ks) k (is.name.so ks are);
  };
}

-- states with one key have equal rows
pub key-one : (numbered : Bool) (met : List (List ℕ)) (users : List User) (g h : RunState) (bytes : List ℕ) → IsKey numbered met users g bytes → IsKey numbered met users h bytes → HaveSameRows numbered users g h
key-one numbered met users g h bytes a b = record {
  picks = a.name.picks;
  are = a.name.are;
  so = λ ks are. record {
    picks = b.name.picks;
    are = b.name.are;
    so = λ js bre. names-one met a.numbers (rows_of numbered users g ks) (rows_of numbered users h js) (a.name.so ks are)
        (subst (λ ns. Names met ns (rows_of numbered users h js)) (coded-one b.numbers a.numbers (sym b.are ∙ a.are)) (b.name.so js bre));
  };
}

-- the numbers of an interned row
abbrev pub row_items : Hashed → List ℕ
row_items h = h.row.items

-- whether two rows have the same numbers
abbrev pub same_rows : Hashed → Hashed → Bool
same_rows a b = pointwise nat_eq a.row.items b.row.items

-- a row that is equal to one of the set
pub stands : {A : Type 0} (f : A → List ℕ) (keys : List A) (n : ℕ) (k : A) (row : List ℕ) → slice_get keys n ≡ Some k → pointwise nat_eq row (f k) ≡ true → slice_get (map f keys) n ≡ Some row
stands f keys n k row at same = slice_get-map f keys n ∙ ap (λ o. option_map f o) at ∙ ap (λ r. Some r) (sym (same_text row (f k) (sym same)))

-- a row that was found in the set
pub found-at : {A : Type 0} (f : A → List ℕ) (keys : List A) (row : List ℕ) (n : ℕ) → position (λ k. pointwise nat_eq row (f k)) keys ≡ Some n → slice_get (map f keys) n ≡ Some row
found-at f [] row n e = absurd cc
found-at f (k ∷ ks) row n e =
    let it = position-Some (λ x. pointwise nat_eq row (f x)) (k ∷ ks) n k e in
    stands f (k ∷ ks) n (get_or (k ∷ ks) n k) row (slice_get-get_or (k ∷ ks) n k it.0) it.1

-- what a number names that is the same
pub ok-at : {E : Type 0} (r : Result ℕ E) (rows : List (List ℕ)) (row : List ℕ) (m : ℕ) → IfOk r (λ n. n ≡ m) → slice_get rows m ≡ Some row → IfOk r (λ n. slice_get rows n ≡ Some row)
ok-at (Ok n) rows row m same at = ap (λ i. slice_get rows i) same ∙ at
ok-at (Err e) rows row m same at = same

-- a set keeps its rows as one more is interned
pub still : {A : Type 0} (f : A → List ℕ) (eq : A → A → Bool) (old new : List A) (k : A) → new ≡ insert_key eq old k → Keeps (map f old) (map f new)
still f eq old new k e = λ n r h. go (list_any (eq k) old) n r (ap (λ ks. slice_get (map f ks) n) e) h
  where
    go : (b : Bool) (n : ℕ) (r : List ℕ) → slice_get (map f new) n ≡ slice_get (map f (if b then old else (old ++ (k ∷ [])))) n → slice_get (map f old) n ≡ Some r → slice_get (map f new) n ≡ Some r
    go true n r g h = g ∙ h
    go false n r g h = g ∙ ap (λ rs. slice_get rs n) (map-append f old (k ∷ [])) ∙ get-longer (map f old) (map f (k ∷ [])) n r h

-- what holds below one number more
pub below-next : {A : Type 0} (f : ℕ → List A) (n : ℕ) → below f (n + 1) ≡ below f n ++ f n
below-next f n = ap (below f) (up n)
  where
    up : (m : ℕ) → m + 1 ≡ suc m
    up m = omega arith

-- one row more, after those of all numbers below n
pub rows-next : (old middle new : List (List ℕ)) (a b c : List ℕ) (f : ℕ → List ℕ) (n : ℕ) (row : List ℕ) → row ≡ f n
    → Adds old a middle b (below (λ i. f i ∷ []) n) → Adds middle b new c (row ∷ []) → Adds old a new c (below (λ i. f i ∷ []) (n + 1))
rows-next old middle new a b c f n row is h k =
    subst (λ rs. Adds old a new c rs) (sym (below-next (λ i. f i ∷ []) n))
    (adds-then old middle new a b c (below (λ i. f i ∷ []) n) (f n ∷ []) h (subst (λ r. Adds middle b new c (r ∷ [])) is k))

-- rows that stay, and stay again
pub keeps-then : (old middle new : List (List ℕ)) → Keeps old middle → Keeps middle new → Keeps old new
keeps-then old middle new h k = λ n r at. k n r (h n r at)

-- nothing is added by none
pub adds-none : (met : List (List ℕ)) (a : List ℕ) → Adds met a met a []
adds-none met a = λ rows named. named ∙ ap (map (λ (r : List ℕ). Some r)) (sym (append-nil rows))

-- a row and others after it, from no number on
pub key-from : (m0 m1 m2 m3 m4 : List (List ℕ)) (k0 k1 k2 k3 k4 : List ℕ) (x x' : List ℕ) (ys zs rest rest' : List (List ℕ)) → x ≡ x' → rest ≡ rest' → k0 ≡ []
    → Adds m0 k0 m1 k1 (x ∷ []) → Adds m1 k1 m2 k2 ys → Adds m2 k2 m3 k3 zs → Adds m3 k3 m4 k4 rest → Names m4 k4 (x' ∷ (ys ++ (zs ++ rest')))
key-from m0 m1 m2 m3 m4 k0 k1 k2 k3 k4 x x' ys zs rest rest' ex er none a b c d =
    let others : Adds m1 k1 m4 k4 (ys ++ (zs ++ rest)) = adds-then m1 m2 m4 k1 k2 k4 ys (zs ++ rest) b (adds-then m2 m3 m4 k2 k3 k4 zs rest c d) in
    let named : Names m4 k4 (x ∷ (ys ++ (zs ++ rest))) = others (x ∷ []) (a [] (ap (map (slice_get m0)) none)) in
    subst (λ (r : List ℕ). Names m4 k4 (r ∷ (ys ++ (zs ++ rest')))) ex (subst (λ (rs : List (List ℕ)). Names m4 k4 (x ∷ (ys ++ (zs ++ rs)))) er named)

-- no slot of a CNode
pub slots-none : (R : Log) (c : ObjId) → slots_numbers R c 0 ≡ []
unfolding slots_numbers
slots-none R c = refl

-- one slot of a CNode more
pub slots-more : (R : Log) (c : ObjId) (n : ℕ) → slots_numbers R c (n + 1) ≡ slots_numbers R c n ++ option_numbers cap_numbers (slot R c n)
unfolding slots_numbers
slots-more R c n = below-next (λ i. option_numbers cap_numbers (slot R c i)) n

-- a row before any slot
pub slots-first : (row : List ℕ) (R : Log) (c : ObjId) → row ≡ row ++ slots_numbers R c 0
slots-first row R c = sym (append-nil row) ∙ ap (λ l. row ++ l) (sym (slots-none R c))

-- a row after one slot more
pub slots-next : (before row after : List ℕ) (R : Log) (c : ObjId) (n : ℕ) → after ≡ row ++ option_numbers cap_numbers (slot R c n)
    → row ≡ before ++ slots_numbers R c n → after ≡ before ++ slots_numbers R c (n + 1)
slots-next before row after R c n e h =
    e ∙ ap (λ l. l ++ option_numbers cap_numbers (slot R c n)) h ∙ append_assoc before (slots_numbers R c n) (option_numbers cap_numbers (slot R c n))
    ∙ ap (λ l. before ++ l) (sym (slots-more R c n))
