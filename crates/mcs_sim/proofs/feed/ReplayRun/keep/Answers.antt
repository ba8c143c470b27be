use Rattle.std.proofs.Common.{List, ℕ, length, ap, sym, ◌∙◌, arith}
use Rattle.mcs_phases.specs.declared.fault.SimFault.TheVariants as fault
use Rattle.mcs_phases.specs.Feeds.{FeedState, at_line, ended_by, feed_state_of}
use Rattle.mcs_phases.specs.Phases.{seen}
use Rattle.mcs_sim.proofs.FeedTakes.{is-going, going-kept, takes-none, keep-many, keep-long, keep-fits, keep-memory}
use Rattle.mcs_sim.proofs.feed.ReplayRun.keep.Goals as goal

pub returns-then-is_empty-clause-takes : goal.returns-then-is_empty-clause-takes
returns-then-is_empty-clause-takes c = takes-none c.args.self.now c.args.part.now (sym c.is_empty.ensures ∙ c.if-is_empty.true)

pub returns-then-self-ge-SCRIPT_LINES-clause-takes : goal.returns-then-self-ge-SCRIPT_LINES-clause-takes
returns-then-self-ge-SCRIPT_LINES-clause-takes c =
    let going = is-going c.self.inside.fault (seen c.self.inside.phase) c.self.inside.lines c.self.inside.line.items c.args.self.now c.self.view_is c.requires.goes in
    keep-many c.args.self.now c.refuse.new.self c.args.part.now c.requires.goes c.requires.one_line (sym c.is_empty.ensures ∙ c.if-is_empty.false)
    (omega (arith, going.count, c.if-self-ge-SCRIPT_LINES.true)) c.refuse.ensures.ended

pub returns-then-part-len-clause-takes : goal.returns-then-part-len-clause-takes
returns-then-part-len-clause-takes c =
    let going = is-going c.self.inside.fault (seen c.self.inside.phase) c.self.inside.lines c.self.inside.line.items c.args.self.now c.self.view_is c.requires.goes in
    let kept = ap (λ (l : List ℕ). length l) going.kept in
    keep-long c.args.self.now c.refuse-then-part-len.new.self c.args.part.now c.requires.goes c.requires.one_line (sym c.is_empty.ensures ∙ c.if-is_empty.false)
    (omega (arith, going.count, c.if-self-ge-SCRIPT_LINES.false)) (omega (arith, kept, c.if-part-len.true, c.len.ensures)) c.refuse-then-part-len.ensures.ended

pub returns-in-Ok-clause-takes : goal.returns-in-Ok-clause-takes
returns-in-Ok-clause-takes c =
    let going = is-going c.self.inside.fault (seen c.self.inside.phase) c.self.inside.lines c.self.inside.line.items c.args.self.now c.self.view_is c.requires.goes in
    let kept = ap (λ (l : List ℕ). length l) going.kept in
    let grown = going-kept c.self.inside.fault (seen c.self.inside.phase) c.self.inside.lines c.self.inside.line.items c.extend_from_slice.new.self.items c.args.part.now c.args.self.now c.self.view_is c.requires.goes c.in-Ok.ensures.items in
    keep-fits c.args.self.now (feed_state_of c.self.inside.fault (seen c.self.inside.phase) c.self.inside.lines c.extend_from_slice.new.self.items) c.args.part.now c.requires.goes c.requires.one_line (sym c.is_empty.ensures ∙ c.if-is_empty.false)
    (omega (arith, going.count, c.if-self-ge-SCRIPT_LINES.false)) (omega (arith, kept, c.if-part-len.false, c.len.ensures, c.self.invariant.2)) grown

pub returns-in-Err-clause-takes : goal.returns-in-Err-clause-takes
returns-in-Err-clause-takes c =
    keep-memory c.args.self.now c.end_by.new.self c.args.part.now c.requires.goes
    (c.end_by.ensures.ended ∙ ap (λ (g : FeedState). at_line (ended_by fault.OutOfMemory g.course)) c.self.view_is)
