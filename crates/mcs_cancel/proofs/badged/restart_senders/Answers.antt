use Rattle.mcs_types.specs.declared.record.Queue.TheVariants.{Senders}
use Rattle.mcs_book.proofs.SoundLogs.KeptLaws.{standing-thread}
use Rattle.mcs_state.specs.Now.{so_far}
use Rattle.mcs_cancel.proofs.Restarting.{Turn, begun, stands, room-one, turned}
use Rattle.mcs_cancel.proofs.badged.restart_senders.Given.{Over}
use Rattle.mcs_cancel.proofs.badged.restart_senders.Goals as goal

pub loop-at-init : goal.loop-at-init
loop-at-init g c = begun c.args.endpoint c.args.badge.0 c.first-at.result c.args.state.now c.is_sound.ensures.sound c.first-at.ensures c.requires.room

pub restart_one-at-requires-clause-there : goal.restart_one-at-requires-clause-there
restart_one-at-requires-clause-there g c =
    let at = stands c.args.endpoint c.args.badge.0 c.loop-at.at c.in-Some.sender c.args.state.now c.loop-at.state c.loop-at.invariant c.in-Some.is in
    standing-thread (so_far c.loop-at.state) c.in-Some.sender (Senders c.args.endpoint) c.loop-at.invariant.sound at

pub restart_one-at-requires-clause-room : goal.restart_one-at-requires-clause-room
restart_one-at-requires-clause-room g c = room-one c.args.endpoint c.args.badge.0 c.loop-at.at c.in-Some.sender c.args.state.now c.loop-at.state c.loop-at.invariant c.in-Some.is

-- the turn of the loop
turn : (g : Over) (c : goal.After-is_sound-in-Some g) → Turn c.args.endpoint c.args.badge.0 c.loop-at.at c.restart_one-at.result c.args.state.now c.loop-at.state c.restart_one-at.new.state
turn g c = turned c.args.endpoint c.args.badge.0 c.loop-at.at c.in-Some.sender c.args.state.now c.loop-at.state c.loop-at.invariant c.in-Some.is c.restart_one-at.result c.restart_one-at.ensures.next c.restart_one-at.new.state c.restart_one-at.ensures.made c.is_sound-in-Some.ensures.sound

pub loop-at-smaller : goal.loop-at-smaller
loop-at-smaller g c = (turn g c).less

pub loop-at-preserved : goal.loop-at-preserved
loop-at-preserved g c = (turn g c).under_way
