use Rattle.std.proofs.Common.{sym, ◌∙◌}
use Rattle.mcs_state.specs.Now.{so_far}
use Rattle.mcs_boots.proofs.Booting.{wrong-number, wrong-object, wrong-room, wrong-place, nothing-wrong}
use Rattle.mcs_boots.proofs.boot.checks.check.Goals as goal

pub returns-then-not-numbers_fit-clause-fault : goal.returns-then-not-numbers_fit-clause-fault
returns-then-not-numbers_fit-clause-fault g c = wrong-number c.args.state.now.book.boot.cores (so_far c.args.state.now) c.args.line.now (sym c.numbers_fit.ensures ∙ c.if-not-numbers_fit.true)

pub returns-then-not-objects_exist-clause-fault : goal.returns-then-not-objects_exist-clause-fault
returns-then-not-objects_exist-clause-fault g c = wrong-object c.args.state.now.book.boot.cores (so_far c.args.state.now) c.args.line.now (sym c.numbers_fit.ensures ∙ c.if-not-numbers_fit.false) (sym c.objects_exist.ensures ∙ c.if-not-objects_exist.true)

pub returns-then-not-is_room-clause-fault : goal.returns-then-not-is_room-clause-fault
returns-then-not-is_room-clause-fault g c = wrong-room c.args.state.now.book.boot.cores (so_far c.args.state.now) c.args.line.now (sym c.numbers_fit.ensures ∙ c.if-not-numbers_fit.false) (sym c.objects_exist.ensures ∙ c.if-not-objects_exist.false) (sym c.is_room.ensures ∙ c.if-not-is_room.true)

pub returns-then-not-place_is_free-clause-fault : goal.returns-then-not-place_is_free-clause-fault
returns-then-not-place_is_free-clause-fault g c = wrong-place c.args.state.now.book.boot.cores (so_far c.args.state.now) c.args.line.now (sym c.numbers_fit.ensures ∙ c.if-not-numbers_fit.false) (sym c.objects_exist.ensures ∙ c.if-not-objects_exist.false) (sym c.is_room.ensures ∙ c.if-not-is_room.false) (sym c.place_is_free.ensures ∙ c.if-not-place_is_free.true)

pub returns-clause-ok : goal.returns-clause-ok
returns-clause-ok g c = nothing-wrong c.args.state.now.book.boot.cores (so_far c.args.state.now) c.args.line.now (sym c.numbers_fit.ensures ∙ c.if-not-numbers_fit.false) (sym c.objects_exist.ensures ∙ c.if-not-objects_exist.false) (sym c.is_room.ensures ∙ c.if-not-is_room.false) (sym c.place_is_free.ensures ∙ c.if-not-place_is_free.false)
