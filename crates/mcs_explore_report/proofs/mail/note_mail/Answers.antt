use Rattle.std.specs.Prelude.{◌≡◌, ◌≤◌, Some, length, slice_get}
use Rattle.std.proofs.Common.{arith, refl}
use Rattle.std.proofs.lemmas.Option.{slice_get_read}
use Rattle.mcs_explore_report.proofs.Telling.{all-noted, mail-on}
use Rattle.mcs_explore_report.proofs.mail.note_mail.Goals as goal

pub loop-reached-init : goal.loop-reached-init
loop-reached-init c = λ new noted. noted

pub loop-reached-preserved : goal.loop-reached-preserved
loop-reached-preserved c = λ new noted.
    let i = c.loop-reached.reached-index in
    let all = c.args.all.now in
    let there : slice_get all i ≡ Some c.reached-item.result = slice_get_read all _ i c.reached-item.result refl c.loop-reached-test.true c.reached-item.is in
    c.loop-reached.invariant new (mail-on c.args.users.now c.args.from.now c.args.place c.args.turn all i c.reached-item.result c.loop-reached.answers c.note_reached.new.answers there c.in_ok-note_reached.ensures new noted)

pub returns : goal.returns
returns c =
    let all = c.args.all.now in
    let long : length all ≤ c.loop-reached.reached-index = let done = c.loop-reached-test.false in omega (arith, done) in
    all-noted c.args.users.now c.args.from.now c.args.place c.args.turn all c.loop-reached.reached-index c.args.answers.now c.loop-reached.answers long c.loop-reached.invariant
