use Rattle.std.proofs.Common.{◌≡◌, refl, ◌∙◌}
use Rattle.mcs_types.specs.declared.entry.Step.{Step}
use Rattle.mcs_kernel.specs.Faults.{entered}
use Rattle.mcs_kernel.proofs.Serving.{IsServing, serving, serving-enters, serving-stands, serving-waits, serving-serials, serving-core, entry-fits, line-entered, rests-again}
use Rattle.mcs_kernel.proofs.kernel.Kernel.serve.Goals as goal

pub operate-requires-clause-entering : goal.operate-requires-clause-entering
operate-requires-clause-entering g c = serving-enters c.args.self.now c.args.step.now.core c.args.step.now.thread c.reserve.new.self (serving c.args.self.now c.args.step.now.core c.args.step.now.thread c.self.inside.state c.reserve.new.self c.self.invariant c.self.view_is c.requires.let_in c.in_ok-reserve.ensures.hand c.in_ok-reserve.ensures.book)

pub operate-requires-clause-stand : goal.operate-requires-clause-stand
operate-requires-clause-stand g c = serving-stands c.args.self.now c.args.step.now.core c.args.step.now.thread c.reserve.new.self (serving c.args.self.now c.args.step.now.core c.args.step.now.thread c.self.inside.state c.reserve.new.self c.self.invariant c.self.view_is c.requires.let_in c.in_ok-reserve.ensures.hand c.in_ok-reserve.ensures.book)

pub operate-requires-clause-waiting : goal.operate-requires-clause-waiting
operate-requires-clause-waiting g c = serving-waits c.args.self.now c.args.step.now.core c.args.step.now.thread c.reserve.new.self (serving c.args.self.now c.args.step.now.core c.args.step.now.thread c.self.inside.state c.reserve.new.self c.self.invariant c.self.view_is c.requires.let_in c.in_ok-reserve.ensures.hand c.in_ok-reserve.ensures.book)

pub operate-requires-clause-serials : goal.operate-requires-clause-serials
operate-requires-clause-serials g c = serving-serials c.args.self.now c.args.step.now.core c.args.step.now.thread c.reserve.new.self (serving c.args.self.now c.args.step.now.core c.args.step.now.thread c.self.inside.state c.reserve.new.self c.self.invariant c.self.view_is c.requires.let_in c.in_ok-reserve.ensures.hand c.in_ok-reserve.ensures.book)

pub operate-requires-clause-core : goal.operate-requires-clause-core
operate-requires-clause-core g c = serving-core c.args.self.now c.args.step.now.core c.args.step.now.thread c.reserve.new.self (serving c.args.self.now c.args.step.now.core c.args.step.now.thread c.self.inside.state c.reserve.new.self c.self.invariant c.self.view_is c.requires.let_in c.in_ok-reserve.ensures.hand c.in_ok-reserve.ensures.book) c.args.step.now.entry c.is_in_range.ensures

pub operate-requires-clause-room : goal.operate-requires-clause-room
operate-requires-clause-room g c =
    let s : IsServing c.args.self.now c.args.step.now.core c.args.step.now.thread c.reserve.new.self = serving c.args.self.now c.args.step.now.core c.args.step.now.thread c.self.inside.state c.reserve.new.self c.self.invariant c.self.view_is c.requires.let_in c.in_ok-reserve.ensures.hand c.in_ok-reserve.ensures.book in
    entry-fits c.reserve.new.self c.args.step.now.core c.args.step.now.thread c.args.step.now.entry s.hand c.in_ok-reserve.ensures.room c.is_sound.ensures.threads

pub invariant_of-self-2 : goal.invariant_of-self-2
invariant_of-self-2 g c =
    let s : IsServing c.args.self.now c.args.step.now.core c.args.step.now.thread c.reserve.new.self = serving c.args.self.now c.args.step.now.core c.args.step.now.thread c.self.inside.state c.reserve.new.self c.self.invariant c.self.view_is c.requires.let_in c.in_ok-reserve.ensures.hand c.in_ok-reserve.ensures.book in
    rests-again c.args.self.now c.args.step.now.core c.args.step.now.thread c.reserve.new.self s c.args.step.now.entry c.operate.new.answer c.operate.new.answer c.operate.new.state c.close.new.self c.is_in_range.ensures c.operate.ensures refl c.close.ensures.hand c.close.ensures.book

pub returns-clause-line : goal.returns-clause-line
returns-clause-line g c =
    let s : IsServing c.args.self.now c.args.step.now.core c.args.step.now.thread c.reserve.new.self = serving c.args.self.now c.args.step.now.core c.args.step.now.thread c.self.inside.state c.reserve.new.self c.self.invariant c.self.view_is c.requires.let_in c.in_ok-reserve.ensures.hand c.in_ok-reserve.ensures.book in
    let step : Step = c.args.step.now in
    let line : c.close.new.self.book ≡ entered c.args.self.now step = c.close.ensures.book ∙ line-entered c.args.self.now step c.reserve.new.self c.operate.new.state c.operate.new.answer s.hand s.book c.operate.ensures c.operate.new.answer refl in
    line
