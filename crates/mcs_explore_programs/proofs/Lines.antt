-- What lines say of entries holds with an entry more, and lines go on within them once they are
-- aimed so.
use Rattle.std.proofs.Common.{ℕ, ◌≡◌, ◌<◌, ◌≤◌, ◌∷◌, ◌++◌, [], List, length, map, subst, sym, arith}
use Rattle.std.specs.List.{All}
use Rattle.std.proofs.lemmas.List.{length-append, length-map}
use Rattle.std.proofs.lemmas.List.Elements.{All-map, All-weaker}
use Rattle.mcs_turns.specs.declared.program.Fill.{Fill}
use Rattle.mcs_turns.specs.declared.program.Op.{Op}
use Rattle.mcs_turns.specs.declared.program.Op.TheVariants as op
use Rattle.mcs_explore_programs.specs.declared.code.ProgramEntry.{ProgramEntry}
use Rattle.mcs_explore_programs.specs.Programs.{AreLines, GivesOneOf, GoesWithin, IsOfOneOf, Lines, NameEntries, within}

gives-more : (n m : ℕ) → n ≤ m → (o : Op) → GivesOneOf n o → GivesOneOf m o
gives-more n m few (op.Give number) h = omega arith
gives-more n m few o h = tt

names-in : (n m : ℕ) → n ≤ m → (ops : List Op) → All (GivesOneOf n) ops → All (GivesOneOf m) ops
names-in n m few ops h = All-weaker (GivesOneOf n) (GivesOneOf m) (gives-more n m few) ops h

fills-in : (n m : ℕ) → n ≤ m → (fills : List Fill) → All (IsOfOneOf n) fills → All (IsOfOneOf m) fills
fills-in n m few fills h = All-weaker (IsOfOneOf n) (IsOfOneOf m) (λ f g. omega arith) fills h

pub names_more : (ops : List Op) (entries : List ProgramEntry) (fills : List Fill) (e : ProgramEntry) → NameEntries (record { ops = ops; entries = entries; fills = fills }) → NameEntries (record { ops = ops; entries = entries ++ e ∷ []; fills = fills })
names_more ops entries fills e h =
    let few : length entries ≤ length (entries ++ e ∷ []) = omega (arith, length-append entries (e ∷ [])) in
    record { gives = names-in _ _ few ops h.gives; fills = fills-in _ _ few fills h.fills }

gives-within : (n count : ℕ) (o : Op) → GivesOneOf n o → GivesOneOf n (within count o)
gives-within n count (op.Give number) h = h
gives-within n count (op.Unless test to) h = tt
gives-within n count (op.Jump to) h = tt
gives-within n count (op.Keep slot from) h = tt
gives-within n count (op.Add slot number) h = tt

goes-within : (count : ℕ) (o : Op) → GoesWithin count (within count o)
goes-within count (op.Give number) = tt
goes-within count (op.Unless test to) = omega arith
goes-within count (op.Jump to) = omega arith
goes-within count (op.Keep slot from) = tt
goes-within count (op.Add slot number) = tt

pub lines_within : (l : Lines) (ops : List Op) → ops ≡ map (within (length l.ops)) l.ops → NameEntries l → 0 < length l.entries → AreLines (record { ops = ops; entries = l.entries; fills = l.fills })
lines_within l ops same names some =
    let count = length l.ops in
    let n = length l.entries in
    let gives : All (GivesOneOf n) (map (within count) l.ops) = All-map (GivesOneOf n) (within count) l.ops (All-weaker (GivesOneOf n) (λ o. GivesOneOf n (within count o)) (gives-within n count) l.ops names.gives) in
    let goes : All (GoesWithin count) (map (within count) l.ops) = All-map (GoesWithin count) (within count) l.ops (λ k d less. goes-within count _) in
    let many : length ops ≡ count = subst (λ (os : List Op). length os ≡ count) (sym same) (length-map l.ops (within count)) in
    record {
      some = some;
      names = record { gives = subst (All (GivesOneOf n)) (sym same) gives; fills = names.fills };
      goes = subst (λ (c : ℕ). All (GoesWithin c) ops) (sym many) (subst (All (GoesWithin count)) (sym same) goes);
    }
