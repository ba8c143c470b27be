use Rattle.std.proofs.Common.{◌≡◌, ◌≤◌, vec_capacity, vec_len}
use Rattle.mcs_types.specs.declared.id.ObjId.{ObjId}
use Rattle.mcs_types.specs.declared.id.Kind.TheVariants as kind
use Rattle.mcs_objects.specs.Places.{kept_at}
use Rattle.mcs_state.specs.Tables.{ROOM}
use Rattle.mcs_state.proofs.letters.make_places.Given as goal

abbrev pub invariant-loop : goal.invariant-loop
invariant-loop l = (vec_len l.places ≡ l.counter) × (l.counter ≤ ROOM) × (ROOM ≤ vec_capacity l.places) × ((x : ObjId) → kept_at kind.Thread l.places.items x ≡ kept_at kind.Thread l.initial.places.items x)
