use Rattle.std.proofs.Common.{sym, ◌∙◌, ap, arith, None}
use Rattle.mcs_book.specs.Placing.{fills, destroy_last}
use Rattle.mcs_book.specs.Slots.{count_of}
use Rattle.mcs_book.proofs.SoundLogs.KeptLaws.{slot-alive}
use Rattle.mcs_cspace.specs.Spaces.{name_of}
use Rattle.mcs_state.specs.Now.{Now, so_far}
use Rattle.mcs_state.proofs.Doing.{makes-then, room-first, room-next}
use Rattle.mcs_caps.proofs.Deletions.{no-cnode}
use Rattle.mcs_caps.proofs.deletion.take_out.Goals as goal

pub fills-requires-clause-room : goal.fills-requires-clause-room
fills-requires-clause-room g c =
    let room = room-first (fills (name_of c.args.at) None) (destroy_last c.args.cap.obj) c.args.state.now c.requires.room in
    omega (arith, room)

pub destroy_last-requires-clause-there : goal.destroy_last-requires-clause-there
destroy_last-requires-clause-there g c = rw c.fills.ensures (slot-alive (so_far c.args.state.now) c.args.at.cnode c.args.at.index c.args.cap c.is_sound.ensures.sound c.requires.held)

pub destroy_last-requires-clause-kind : goal.destroy_last-requires-clause-kind
destroy_last-requires-clause-kind g c = λ none.
    no-cnode (so_far c.args.state.now) c.args.at.cnode c.args.at.index c.args.cap c.requires.held c.requires.spared (ap (λ (n : Now). count_of (so_far n) c.args.cap.obj) (sym c.fills.ensures) ∙ none)

pub destroy_last-requires-clause-room : goal.destroy_last-requires-clause-room
destroy_last-requires-clause-room g c = room-next (fills (name_of c.args.at) None) (destroy_last c.args.cap.obj) c.args.state.now c.fills.new.self c.fills.ensures c.requires.room

pub returns : goal.returns
returns g c = makes-then (fills (name_of c.args.at) None) (destroy_last c.args.cap.obj) c.args.state.now c.fills.new.self c.destroy_last.new.state c.fills.ensures c.destroy_last.ensures
