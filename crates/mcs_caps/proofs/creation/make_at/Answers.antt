use Rattle.std.proofs.Common.{◌+◌, ◌∙◌, ap, arith, Some}
use Rattle.mcs_types.specs.declared.cap.Cap.{Cap}
use Rattle.mcs_types.specs.declared.record.Rec.TheVariants as rec
use Rattle.mcs_book.specs.Objects.{next_id}
use Rattle.mcs_book.specs.Pieces.{say}
use Rattle.mcs_book.specs.Placing.{fills}
use Rattle.mcs_cspace.specs.Spaces.{name_of}
use Rattle.mcs_state.specs.Now.{so_far, adds}
use Rattle.mcs_state.proofs.Doing.{makes-then, room-first, room-next}
use Rattle.mcs_caps.specs.NewObjects.{new_form, new_cap}
use Rattle.mcs_caps.proofs.NewObjects.{may-fill-new}
use Rattle.mcs_caps.proofs.creation.make_at.Goals as goal

pub add-requires-clause-room : goal.add-requires-clause-room
add-requires-clause-room g c =
    let o = next_id (so_far c.args.state.now) c.args.kind in
    let room = room-first (say (rec.Made o (new_form c.args.kind c.args.core))) (fills (name_of c.args.at) (Some (new_cap o))) c.args.state.now c.requires.room in
    omega (arith, room)

pub fills-requires-clause-allowed : goal.fills-requires-clause-allowed
fills-requires-clause-allowed g c =
    let R = so_far c.args.state.now in
    let is = ap (λ (k : Cap). k.obj) c.new_cap.ensures ∙ ap (λ n. record { kind = c.args.kind; serial = n + 1 }) c.made.ensures in
    rw c.add.ensures (may-fill-new R c.args.kind (new_form c.args.kind c.args.core) c.args.at c.new_cap.result c.is_sound.ensures.sound c.requires.kind c.requires.slot is)

pub fills-requires-clause-room : goal.fills-requires-clause-room
fills-requires-clause-room g c =
    let o = next_id (so_far c.args.state.now) c.args.kind in
    let room = room-next (say (rec.Made o (new_form c.args.kind c.args.core))) (fills (name_of c.args.at) (Some (new_cap o))) c.args.state.now c.add.new.state c.add.ensures c.requires.room in
    omega (arith, room)

pub returns : goal.returns
returns g c =
    let o = next_id (so_far c.args.state.now) c.args.kind in
    let is = c.new_cap.ensures ∙ ap (λ n. new_cap (record { kind = c.args.kind; serial = n + 1 })) c.made.ensures in
    let filled = c.fills.ensures ∙ ap (λ (k : Cap). adds (rec.Slot c.args.at.cnode c.args.at.index (Some k)) c.add.new.state) is in
    makes-then (say (rec.Made o (new_form c.args.kind c.args.core))) (fills (name_of c.args.at) (Some (new_cap o))) c.args.state.now c.add.new.state c.fills.new.self c.add.ensures filled
