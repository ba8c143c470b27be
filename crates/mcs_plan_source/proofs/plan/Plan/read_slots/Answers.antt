use Rattle.mcs_plan_source.specs.Saying.{said}
use Rattle.mcs_plan_source.proofs.Refusing.{handed_on}
use Rattle.mcs_plan_source.proofs.Turns.{slots_first, slots_turn, slots_refused, slots_end, slots_last}
use Rattle.mcs_plan_source.proofs.plan.Plan.read_slots.Goals.{in-Some+in_ok-read_slot, in_default}
use Rattle.mcs_plan_source.proofs.plan.Plan.read_slots.Goals as goal

pub loop-init : goal.loop-init
loop-init c = slots_first c.len-end.result c.args.place c.args.words.now (said c.args.self.now) c.len-end.ensures

pub loop-preserved : goal.loop-preserved
loop-preserved c = elim c.match-next.branch [
  | in-Some+in_ok-read_slot w ↦
      rw (w.words-is, w.self-is) (slots_turn c.loop.counter c.len-end.result c.args.place w.in-Some.word.now c.loop.words c.next.new.self w.read_slot.new.words
      (said c.loop.self) (said w.read_slot.new.self) _ c.loop-test.true w.in-Some.ensures.word w.in_ok-read_slot.ensures.added c.loop.invariant)
  | in_default w ↦
      rw (w.words-is, w.self-is) (slots_end c.loop.counter c.len-end.result c.args.place c.loop.words c.next.new.self (said c.loop.self) _ c.loop-test.true
      w.in_default.ensures.none.0 w.in_default.ensures.none.1 c.loop.invariant)
]

pub returns-in_err-read_slot-clause-error : goal.returns-in_err-read_slot-clause-error
returns-in_err-read_slot-clause-error c =
    handed_on _ _ _ c.from_residual.ensures.1 (λ e p.
    slots_refused c.loop.counter c.len-end.result c.args.place c.in-Some.word.now c.loop.words c.next.new.self (said c.loop.self) _ e c.loop-test.true
    c.in-Some.ensures.word (c.in_err-read_slot.ensures.error e p) c.loop.invariant)

pub returns-clause-added : goal.returns-clause-added
returns-clause-added c = slots_last c.loop.counter c.len-end.result c.args.place c.loop.words (said c.loop.self) _ c.loop-test.false c.loop.invariant
