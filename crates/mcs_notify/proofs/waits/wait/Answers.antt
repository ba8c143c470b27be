use Rattle.std.proofs.Common.{◌∙◌, ap, sym, subst, refl, arith}
use Rattle.mcs_types.specs.declared.entry.Answer.TheVariants.{Heard, Waits, Empty}
use Rattle.mcs_book.specs.Pieces.{Outcome}
use Rattle.mcs_book.specs.Receiving.{wait_on}
use Rattle.mcs_state.specs.Now.{so_far}
use Rattle.mcs_state.specs.Doing.{Gives, Holds}
use Rattle.mcs_notify.proofs.Words.{wait-hears, wait-joins, wait-empty}
use Rattle.mcs_notify.proofs.waits.wait.Goals as goal

pub hears-requires-clause-allowed : goal.hears-requires-clause-allowed
hears-requires-clause-allowed g c = (c.requires.acting.there, sym c.pending.ensures ∙ c.in-Some.is, c.requires.alone)

pub hears-requires-clause-room : goal.hears-requires-clause-room
hears-requires-clause-room g c =
    let is = wait-hears (so_far c.args.state.now) c.args.blocks c.args.thread c.args.notification c.in-Some.word (sym c.pending.ensures ∙ c.in-Some.is) in
    let room = subst (λ (o : Outcome). Holds o.records c.args.state.now) is c.requires.room in
    omega (arith, room)

pub returns-in-Some : goal.returns-in-Some
returns-in-Some g c =
    let is = wait-hears (so_far c.args.state.now) c.args.blocks c.args.thread c.args.notification c.in-Some.word (sym c.pending.ensures ∙ c.in-Some.is) in
    subst (λ (o : Outcome). Gives o c.args.state.now (Heard c.in-Some.word) c.hears.new.self) (sym is) (record { records = c.hears.ensures; answer = refl })

pub stand-requires-clause-room : goal.stand-requires-clause-room
stand-requires-clause-room g c =
    let R = so_far c.args.state.now in
    let is = ap (λ b. wait_on c.args.thread c.args.notification b R) c.if-blocks.true ∙ wait-joins R c.args.thread c.args.notification (sym c.pending.ensures ∙ c.in-None.is) in
    subst (λ (o : Outcome). Holds o.records c.args.state.now) is c.requires.room

pub returns-in-None : goal.returns-in-None
returns-in-None g c =
    let R = so_far c.args.state.now in
    let is = ap (λ b. wait_on c.args.thread c.args.notification b R) c.if-blocks.true ∙ wait-joins R c.args.thread c.args.notification (sym c.pending.ensures ∙ c.in-None.is) in
    subst (λ (o : Outcome). Gives o c.args.state.now Waits c.stand.new.state) (sym is) (record { records = c.stand.ensures; answer = refl })

pub returns-in-None-2 : goal.returns-in-None-2
returns-in-None-2 g c =
    let R = so_far c.args.state.now in
    let is = ap (λ b. wait_on c.args.thread c.args.notification b R) c.if-blocks.false ∙ wait-empty R c.args.thread c.args.notification (sym c.pending.ensures ∙ c.in-None.is) in
    subst (λ (o : Outcome). Gives o c.args.state.now Empty c.args.state.now) (sym is) (record { records = refl; answer = refl })
