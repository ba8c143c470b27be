-- Room for the records of pieces, one after another.
use Rattle.std.specs.Prelude.{◌<◌, ◌+◌, length}
use Rattle.std.proofs.Common.{arith}
use Rattle.mcs_types.specs.declared.record.Rec.{Rec}
use Rattle.mcs_book.specs.Pieces.{Piece, ◌then◌, say}
use Rattle.mcs_state.specs.Now.{Now}
use Rattle.mcs_state.specs.Doing.{Makes, HasRoomFor}
use Rattle.mcs_state.proofs.Doing.{room-first, room-next}

-- room for one record
pub room-one : (r : Rec) (n : Now) → HasRoomFor (say r) n → length n.hand + 1 < n.room
room-one r n room = omega (arith, room)

-- room for a record, and then for what follows
pub room-say : (r : Rec) (q : Piece) (n : Now) → HasRoomFor (say r then q) n → length n.hand + 1 < n.room
room-say r q n room = room-one r n (room-first (say r) q n room)

-- a piece between two others
pub room-between : (p q s : Piece) (n m : Now) → Makes p n m → HasRoomFor (p then q then s) n → HasRoomFor q m
room-between p q s n m made room = room-next p q n m made (room-first (p then q) s n room)
