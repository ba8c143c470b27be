-- Symbols as the entries of a map.
use Rattle.std.proofs.Common.{◌≡◌, ◌+◌, ◌<◌, ℕ, true, false, cond, List, [], ◌∷◌, ◌++◌, length, take, slice_get, Some, None, String, string_bytes, string_eq, bytes_eq, refl, sym, ap, ◌∙◌, arith, ◌⊎◌, inl, inr, ◌≤◌, ◌-◌, suc, drop, get_or, option_map, Bor, drop-cons, length-drop, drop_of_length-le, append_assoc, ◌==◌, subst}
use Rattle.std.proofs.lemmas.List.{map-append, length-map, drop-map}
use Rattle.std.proofs.lemmas.List.Sums.{sum_by_more}
use Rattle.std.proofs.lemmas.Option.{slice_get-get_or, slice_get_within, get_or_from_slice_get, slice_get_cases, none-some}
use Rattle.std.specs.Map.{lookup}
use Rattle.indexmap.specs.IndexMap.{IndexMap, insert_entry}
use Rattle.indexmap.proofs.CallerLemmas.{insert_entry-new}
use Rattle.mcs_types.specs.declared.id.Kind.{Kind}
use Rattle.mcs_types.specs.declared.id.ObjId.{ObjId}
use Rattle.mcs_types.specs.Ids.{same, same_kind}
use Rattle.mcs_plan_source.specs.Naming.{NameList, find, name_of, named_in, count_of, is_of_kind, texts, with_word, begins_with_digit}
use Rattle.mcs_plan_source.specs.Telling.{TakesNumber}

module _ {A X : Type 0} where
  -- a name is found in the map as in the list
  pub find_in : (word : List ℕ) (entries : List (String A × X)) → lookup (λ k. bytes_eq word (string_bytes k)) entries ≡ find (named_in entries) word
  find_in word [] = refl
  find_in word (e ∷ es) = ap (cond (bytes_eq word (string_bytes e.0)) (Some e.1)) (find_in word es)

  -- a new name goes last
  pub put_last : {S : Type 0} (m : IndexMap (String A) X S) (k : String A) (x : X) → find (named_in m.entries) (string_bytes k) ≡ None
      → named_in (insert_entry string_eq m.entries k x) ≡ named_in m.entries ++ (string_bytes k, x) ∷ []
  put_last m k x none =
      ap (λ es. named_in es) (insert_entry-new string_eq m k x (find_in (string_bytes k) m.entries ∙ none))
      ∙ map-append (λ (e : String A × X). (string_bytes e.0, e.1)) m.entries ((k, x) ∷ [])

-- one name more is counted where it is of the kind
counted_more : (kind : Kind) (names : NameList) (i : ℕ) → i < length names
    → count_of kind (take (i + 1) names) ≡ count_of kind (take i names) + cond (is_of_kind kind (slice_get names i)) 1 0
counted_more kind (n ∷ ns) i within =
    sum_by_more (λ m. cond (same_kind m.1.kind kind) 1 0) (n ∷ ns) i n within
    ∙ ap (λ o. count_of kind (take i (n ∷ ns)) + cond (is_of_kind kind o) 1 0) (sym (slice_get-get_or (n ∷ ns) i n within))
counted_more kind [] i within = absurd (omega (arith, within))

pub counted_yes : (kind : Kind) (names : NameList) (i : ℕ) → i < length names → is_of_kind kind (slice_get names i) ≡ true → count_of kind (take (i + 1) names) ≡ count_of kind (take i names) + 1
counted_yes kind names i within is = counted_more kind names i within ∙ ap (λ b. count_of kind (take i names) + cond b 1 0) is

pub counted_no : (kind : Kind) (names : NameList) (i : ℕ) → i < length names → is_of_kind kind (slice_get names i) ≡ false → count_of kind (take (i + 1) names) ≡ count_of kind (take i names)
counted_no kind names i within is =
    let same : count_of kind (take i names) + 0 ≡ count_of kind (take i names) = omega arith in
    counted_more kind names i within ∙ ap (λ b. count_of kind (take i names) + cond b 1 0) is ∙ same

-- the words after those that were taken
pub next_word : (ws : List (Bor (List ℕ))) (n : ℕ) (w : Bor (List ℕ)) → slice_get ws n ≡ Some w → drop n (texts ws) ≡ w.now ∷ drop (n + 1) (texts ws)
next_word ws n w there =
    let next : suc n ≡ n + 1 = omega arith in
    drop-map (λ (v : Bor (List ℕ)). v.now) n ws
    ∙ ap (λ vs. texts vs) (drop-cons ws n w (slice_get_within ws n w there))
    ∙ ap (λ (v : Bor (List ℕ)). v.now ∷ texts (drop (suc n) ws)) (get_or_from_slice_get ws n w w there)
    ∙ ap (λ k. w.now ∷ texts (drop k ws)) next
    ∙ ap (λ vs. w.now ∷ vs) (sym (drop-map (λ (v : Bor (List ℕ)). v.now) (n + 1) ws))

pub no_word : (ws : List (Bor (List ℕ))) (n : ℕ) → slice_get ws n ≡ None → drop n (texts ws) ≡ []
no_word ws n none = go (slice_get_cases ws n).1
  where
    go : ((x : Bor (List ℕ)) × (n < length ws) × (slice_get ws n ≡ Some x) × (get_or ws n x ≡ x)) ⊎ ((length ws ≤ n) × (slice_get ws n ≡ None)) → drop n (texts ws) ≡ []
    go (inl h) = absurd (none-some h.0 (sym none ∙ h.2))
    go (inr h) = drop_of_length-le (texts ws) (omega (arith, h.0, length-map ws (λ (v : Bor (List ℕ)). v.now)))

pub first_word : (ws : List (Bor (List ℕ))) (n : ℕ) → option_map (λ v. v.now) (slice_get ws n) ≡ slice_get (drop n (texts ws)) 0
first_word ws n = go (slice_get_cases ws n).1
  where
    go : ((x : Bor (List ℕ)) × (n < length ws) × (slice_get ws n ≡ Some x) × (get_or ws n x ≡ x)) ⊎ ((length ws ≤ n) × (slice_get ws n ≡ None)) → option_map (λ v. v.now) (slice_get ws n) ≡ slice_get (drop n (texts ws)) 0
    go (inl h) = ap (λ o. option_map (λ (v : Bor (List ℕ)). v.now) o) h.2 ∙ sym (ap (λ vs. slice_get vs 0) (next_word ws n h.0 h.2))
    go (inr h) = ap (λ o. option_map (λ (v : Bor (List ℕ)). v.now) o) h.1 ∙ sym (ap (λ vs. slice_get vs 0) (no_word ws n h.1))

pub words_left : (ws : List (Bor (List ℕ))) (n : ℕ) → length (drop n (texts ws)) ≡ length ws - n
words_left ws n = length-drop n (texts ws) ∙ ap (λ k. k - n) (length-map ws (λ (v : Bor (List ℕ)). v.now))

-- the first word of a text, and one more
pub first_of_all : (text word : List ℕ) → (length text == 0) ≡ true → with_word text word ≡ word
first_of_all [] word e = refl
first_of_all (b ∷ bs) word e = grind (arith, e)

pub one_more : (text word : List ℕ) → (length text == 0) ≡ false → with_word text word ≡ (text ++ 32 ∷ []) ++ word
one_more [] word e = grind (arith, e)
one_more (b ∷ bs) word e = sym (append_assoc (b ∷ bs) (32 ∷ []) word)

-- a word that was taken is a number
pub takes_number : (old new : List (List ℕ)) (word : List ℕ) → old ≡ word ∷ new → begins_with_digit word ≡ true → TakesNumber old new
takes_number old new word e digit = subst (λ ws. TakesNumber ws new) (sym e) (refl, digit)

-- the name of an object is here, or later
module _ (names : NameList) (i : ℕ) (n : List ℕ × ObjId) (object : ObjId) (there : slice_get names i ≡ Some n) where
  rest_is : drop i names ≡ n ∷ drop (i + 1) names
  rest_is =
      let next : suc i ≡ i + 1 = omega arith in
      drop-cons names i n (slice_get_within names i n there) ∙ ap (λ m. m ∷ drop (suc i) names) (get_or_from_slice_get names i n n there) ∙ ap (λ k. n ∷ drop k names) next

  pub named_here : same n.1 object ≡ true → name_of (drop i names) object ≡ n.0
  named_here is = ap (λ ns. name_of ns object) rest_is ∙ ap (λ b. cond b n.0 (name_of (drop (i + 1) names) object)) is

  pub named_later : same n.1 object ≡ false → name_of (drop i names) object ≡ name_of (drop (i + 1) names) object
  named_later is = ap (λ ns. name_of ns object) rest_is ∙ ap (λ b. cond b n.0 (name_of (drop (i + 1) names) object)) is

past_end : (names : NameList) (i : ℕ) (object : ObjId) → length names ≤ i → name_of (drop i names) object ≡ []
past_end names i object past = ap (λ ns. name_of ns object) (drop_of_length-le names past)

pub no_more_names : (names : NameList) (i : ℕ) (object : ObjId) → slice_get names i ≡ None → name_of (drop i names) object ≡ name_of (drop (i + 1) names) object
no_more_names names i object none = go (slice_get_cases names i).1
  where
    go : ((x : List ℕ × ObjId) × (i < length names) × (slice_get names i ≡ Some x) × (get_or names i x ≡ x)) ⊎ ((length names ≤ i) × (slice_get names i ≡ None))
        → name_of (drop i names) object ≡ name_of (drop (i + 1) names) object
    go (inl h) = absurd (none-some h.0 (sym none ∙ h.2))
    go (inr h) = past_end names i object h.0 ∙ sym (past_end names (i + 1) object (omega (arith, h.0)))
