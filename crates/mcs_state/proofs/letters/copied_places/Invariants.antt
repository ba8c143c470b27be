use Rattle.std.proofs.Common.{◌≡◌, ◌≤◌, length, take, vec_capacity, vec_len}
use Rattle.mcs_state.specs.Tables.{ROOM}
use Rattle.mcs_state.proofs.letters.copied_places.Given as goal

abbrev pub invariant-loop-place : goal.invariant-loop-place
invariant-loop-place l = (l.copies.items ≡ take l.place-index l.places) × (vec_len l.copies ≡ l.place-index) × (length l.places ≤ ROOM) × (ROOM ≤ vec_capacity l.copies)
