-- The slots of a space as the entries of a map.
use Rattle.std.proofs.Common.{◌≡◌, ◌++◌, ◌∷◌, ℕ, List, [], Option, Some, None, ◌∙◌, slice_get, option_map, option_and_then, String, string_bytes, string_eq, bytes_eq, is_some, length, ap}
use Rattle.std.proofs.lemmas.List.{length-map}
use Rattle.std.proofs.lemmas.Option.{slice_get-map}
use Rattle.std.specs.Map.{lookup}
use Rattle.indexmap.specs.IndexMap.{IndexMap, insert_entry}
use Rattle.mcs_plan_source.specs.Naming.{find, named_in}
use Rattle.mcs_plan_source.proofs.Entries.{find_in, put_last}

module _ {A X : Type 0} where
  -- whether a name is there
  pub found : (word : List ℕ) (entries : List (String A × X)) → is_some (lookup (λ k. bytes_eq word (string_bytes k)) entries) ≡ is_some (find (named_in entries) word)
  found word entries = ap is_some (find_in word entries)

  -- how many there are
  pub counted : (entries : List (String A × X)) → length (named_in entries) ≡ length entries
  counted entries = length-map entries (λ (e : String A × X). (string_bytes e.0, e.1))

  -- a new name goes last
  pub put : {S : Type 0} (m : IndexMap (String A) X S) (k : String A) (x : X) → find (named_in m.entries) (string_bytes k) ≡ None
      → named_in (insert_entry string_eq m.entries k x) ≡ named_in m.entries ++ (string_bytes k, x) ∷ []
  put m k x none = put_last m k x none

  -- which thing is at an index
  pub held : {Y : Type 0} (f : X → Option Y) (entries : List (String A × X)) (i : ℕ) (e : String A × X) → slice_get entries i ≡ Some e
      → option_and_then (λ s. f s.1) (slice_get (named_in entries) i) ≡ f e.1
  held f entries i e there = ap (λ o. option_and_then (λ (s : List ℕ × X). f s.1) o) (slice_get-map (λ (e : String A × X). (string_bytes e.0, e.1)) entries i ∙ ap (λ o. option_map (λ (e : String A × X). (string_bytes e.0, e.1)) o) there)

  pub held_none : {Y : Type 0} (f : X → Option Y) (entries : List (String A × X)) (i : ℕ) → slice_get entries i ≡ None
      → option_and_then (λ s. f s.1) (slice_get (named_in entries) i) ≡ None
  held_none f entries i none = ap (λ o. option_and_then (λ (s : List ℕ × X). f s.1) o) (slice_get-map (λ (e : String A × X). (string_bytes e.0, e.1)) entries i ∙ ap (λ o. option_map (λ (e : String A × X). (string_bytes e.0, e.1)) o) none)
