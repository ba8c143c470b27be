use Rattle.std.proofs.Common.{sym, ◌∙◌}
use Rattle.std.proofs.lemmas.Result.{err_from_is_err_and}
use Rattle.mcs_book.specs.Logs.{Log}
use Rattle.mcs_state.specs.Now.{so_far}
use Rattle.mcs_caps.proofs.Finding.{looked, no-source, no-dest, source-empty, source-holds}
use Rattle.mcs_caps.proofs.Places.{named-slot}
use Rattle.mcs_caps.proofs.checks.find_places.Goals as goal

pub returns-in_err-source-clause-places : goal.returns-in_err-source-clause-places
returns-in_err-source-clause-places g c =
    let R : Log = so_far c.args.state.now in
    let p = err_from_is_err_and c.from_residual.result c.from_residual.ensures.1 in
    let from = looked R c.args.thread c.args.source _ _ c.slot_named.ensures c.in_err-source.was in
    rw (p.1, p.2) (no-source R c.args.thread c.args.source c.args.dest _ from)

pub returns-in_err-dest-clause-places : goal.returns-in_err-dest-clause-places
returns-in_err-dest-clause-places g c =
    let R : Log = so_far c.args.state.now in
    let p = err_from_is_err_and c.from_residual-in_err-dest.result c.from_residual-in_err-dest.ensures.1 in
    let from = looked R c.args.thread c.args.source _ _ c.slot_named.ensures c.in_ok-source.was in
    let to = looked R c.args.thread c.args.dest _ _ c.slot_named-2.ensures c.in_err-dest.was in
    rw (p.1, p.2) (no-dest R c.args.thread c.args.source c.args.dest c.in_ok-source.source _ from to)

pub returns-in_default-clause-places : goal.returns-in_default-clause-places
returns-in_default-clause-places g c =
    let R : Log = so_far c.args.state.now in
    let from = looked R c.args.thread c.args.source _ _ c.slot_named.ensures c.in_ok-source.was in
    let to = looked R c.args.thread c.args.dest _ _ c.slot_named-2.ensures c.in_ok-dest.was in
    source-empty R c.args.thread c.args.source c.args.dest c.in_ok-source.source c.in_ok-dest.dest _ from to c.slot-held.ensures c.in_default.not-Some

pub returns-then-is_some-clause-places : goal.returns-then-is_some-clause-places
returns-then-is_some-clause-places g c =
    let R : Log = so_far c.args.state.now in
    let from = looked R c.args.thread c.args.source _ _ c.slot_named.ensures c.in_ok-source.was in
    let to = looked R c.args.thread c.args.dest _ _ c.slot_named-2.ensures c.in_ok-dest.was in
    let all = source-holds R c.args.thread c.args.source c.args.dest c.in_ok-source.source c.in_ok-dest.dest c.in-Some.cap c.slot.result from to (sym c.slot-held.ensures ∙ c.in-Some.is) c.slot.ensures in
    rw (sym c.is_some.ensures ∙ c.if-is_some.true) at all

pub returns-clause-places : goal.returns-clause-places
returns-clause-places g c =
    let R : Log = so_far c.args.state.now in
    let from = looked R c.args.thread c.args.source _ _ c.slot_named.ensures c.in_ok-source.was in
    let to = looked R c.args.thread c.args.dest _ _ c.slot_named-2.ensures c.in_ok-dest.was in
    let all = source-holds R c.args.thread c.args.source c.args.dest c.in_ok-source.source c.in_ok-dest.dest c.in-Some.cap c.slot.result from to (sym c.slot-held.ensures ∙ c.in-Some.is) c.slot.ensures in
    rw (c.by_fields.ensures, c.by_fields-2.ensures, c.by_fields-3.ensures) (rw (sym c.is_some.ensures ∙ c.if-is_some.false) at all)

pub returns-clause-placed : goal.returns-clause-placed
returns-clause-placed g c =
    let R : Log = so_far c.args.state.now in
    let from = looked R c.args.thread c.args.source _ _ c.slot_named.ensures c.in_ok-source.was in
    let to = looked R c.args.thread c.args.dest _ _ c.slot_named-2.ensures c.in_ok-dest.was in
    rw (c.by_fields.ensures, c.by_fields-2.ensures, c.by_fields-3.ensures) (record {
      source = named-slot R c.args.thread c.args.source c.in_ok-source.source c.is_sound.ensures.sound c.requires from;
      dest = named-slot R c.args.thread c.args.dest c.in_ok-dest.dest c.is_sound.ensures.sound c.requires to;
      held = sym c.slot-held.ensures ∙ c.in-Some.is;
    })
