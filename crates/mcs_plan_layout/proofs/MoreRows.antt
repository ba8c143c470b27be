-- The rows of tables.
use Rattle.std.proofs.Common.{◌≡◌, ◌++◌, ℕ, Bool, true, false, cond, List, [], ◌∷◌, Option, Some, None, Ok, Err, Vec, find, slice_get, option_map, option_and_then, bytes_eq, refl, ap, sym, ◌∙◌, append_assoc}
use Rattle.std.specs.Option.{ok_or}
use Rattle.std.proofs.lemmas.List.{map-append}
use Rattle.std.proofs.lemmas.Option.{slice_get-map}
use Rattle.mcs_types.specs.declared.id.ObjId.{ObjId}
use Rattle.mcs_types.specs.declared.id.Kind.TheVariants as kind
use Rattle.mcs_types.specs.Ids.{place_of}
use Rattle.mcs_plan_source.specs.Refusals.{Refusal}
use Rattle.mcs_plan_layout.specs.declared.tables.Named.{Named}
use Rattle.mcs_plan_layout.specs.Laid.{row_named}
use Rattle.mcs_plan_layout.specs.Naming.{is_row, named_by}
use Rattle.mcs_plan_layout.specs.Tables.{Row, row_of, rows_of, table_rows}

-- a row more
pub row_more : (table : List Named) (n : Named) → rows_of (table ++ n ∷ []) ≡ rows_of table ++ row_of n ∷ []
row_more table n = map-append row_of table (n ∷ [])

-- a row, and those after it
pub after_one : (old mid new after : List Row) (row : Row) → mid ≡ old ++ row ∷ [] → new ≡ mid ++ after → new ≡ old ++ row ∷ after
after_one old mid new after row one more = more ∙ ap (λ rows. rows ++ after) one ∙ append_assoc old (row ∷ []) after

-- the first row that is a word
find_row : (word : List ℕ) (table : List Named) → find (λ row. bytes_eq row.name word) (rows_of table) ≡ option_map row_of (find (is_row word) table)
find_row word [] = refl
find_row word (n ∷ ns) = go (is_row word n) (find_row word ns)
  where
    go : (b : Bool) → find (λ row. bytes_eq row.name word) (rows_of ns) ≡ option_map row_of (find (is_row word) ns)
        → cond b (Some (row_of n)) (find (λ row. bytes_eq row.name word) (rows_of ns)) ≡ option_map row_of (cond b (Some n) (find (is_row word) ns))
    go true rest = refl
    go false rest = rest

module _ {A : Type 0} (tables : List (Vec Named A)) (t : ObjId) (word : List ℕ) where
  in_table : (o : Option (Vec Named A)) → option_and_then (λ table. find (λ row. bytes_eq row.name word) table) (option_map (λ (table : Vec Named A). rows_of table.items) o)
      ≡ option_map row_of (option_and_then (λ (table : Vec Named A). find (is_row word) table.items) o)
  in_table None = refl
  in_table (Some table) = find_row word table.items

  in_tables : (o : Option ℕ) → option_and_then (λ k. option_and_then (λ table. find (λ row. bytes_eq row.name word) table) (slice_get (table_rows tables) k)) o
      ≡ option_map row_of (option_and_then (λ (k : ℕ). option_and_then (λ (table : Vec Named A). find (is_row word) table.items) (slice_get tables k)) o)
  in_tables None = refl
  in_tables (Some k) =
      ap (λ o. option_and_then (λ table. find (λ row. bytes_eq row.name word) table) o) (slice_get-map (λ (table : Vec Named A). rows_of table.items) tables k)
      ∙ in_table (slice_get tables k)

  -- the row that a thread names by a word
  same_row : row_named (table_rows tables) t word ≡ option_map row_of (named_by tables t word)
  same_row = in_tables (place_of kind.Thread t)

  pub row_read : (n : Named) (e : Refusal) → Some n ≡ named_by tables t word → ok_or (row_named (table_rows tables) t word) e ≡ Ok (row_of n)
  row_read n e there = ap (λ o. ok_or o e) (same_row ∙ ap (λ o. option_map row_of o) (sym there))

  pub no_row_read : (e : Refusal) → None ≡ named_by tables t word → ok_or (row_named (table_rows tables) t word) e ≡ Err e
  no_row_read e none = ap (λ o. ok_or o e) (same_row ∙ ap (λ o. option_map row_of o) (sym none))
