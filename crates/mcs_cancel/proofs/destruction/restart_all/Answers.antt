use Rattle.std.proofs.Common.{sym, ◌∙◌}
use Rattle.mcs_book.proofs.SoundLogs.KeptLaws.{standing-thread}
use Rattle.mcs_state.specs.Now.{so_far}
use Rattle.mcs_cancel.proofs.Emptying.{Turn, stands, room-cancel, turned, nobody, emptied, all-made}
use Rattle.mcs_cancel.proofs.destruction.restart_all.Given.{Over}
use Rattle.mcs_cancel.proofs.destruction.restart_all.Goals as goal

pub cancel-requires-clause-there : goal.cancel-requires-clause-there
cancel-requires-clause-there g c =
    let at = stands c.args.queue c.args.state.now c.loop-thread.state c.loop-thread.state c.in-Some.thread c.loop-thread.invariant (sym c.first.ensures ∙ c.in-Some.is) in
    standing-thread (so_far c.loop-thread.state) c.in-Some.thread c.args.queue c.loop-thread.invariant.sound at

pub cancel-requires-clause-room : goal.cancel-requires-clause-room
cancel-requires-clause-room g c = room-cancel c.args.queue c.args.state.now c.loop-thread.state c.loop-thread.state c.in-Some.thread c.loop-thread.invariant (sym c.first.ensures ∙ c.in-Some.is)

-- the turn of the loop
turn : (g : Over) (c : goal.After-is_sound-in-Some g) → Turn c.args.queue c.args.state.now c.loop-thread.state c.cancel.new.state
turn g c = turned c.args.queue c.args.state.now c.loop-thread.state c.cancel.new.state c.in-Some.thread c.loop-thread.invariant (sym c.first.ensures ∙ c.in-Some.is) c.cancel.ensures c.is_sound-in-Some.ensures.sound

pub loop-thread-smaller : goal.loop-thread-smaller
loop-thread-smaller g c = (turn g c).less

pub loop-thread-preserved : goal.loop-thread-preserved
loop-thread-preserved g c = (turn g c).emptying

pub returns-clause-made : goal.returns-clause-made
returns-clause-made g c = all-made c.args.queue c.args.state.now c.loop-thread.state c.loop-thread.invariant (sym c.first.ensures ∙ nobody c.first.result c.in_default.not-Some)

pub returns-clause-empty : goal.returns-clause-empty
returns-clause-empty g c = emptied (so_far c.loop-thread.state) c.args.queue c.loop-thread.invariant.sound (sym c.first.ensures ∙ nobody c.first.result c.in_default.not-Some)
