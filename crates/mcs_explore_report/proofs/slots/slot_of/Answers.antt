use Rattle.std.proofs.Common.{◌≡◌, ◌≤◌, ◌+◌, ◌-◌, arith, subst}
use Rattle.mcs_book.specs.History.{log_of}
use Rattle.mcs_explore_report.specs.Origins.{HaveNone, cnodes}
use Rattle.mcs_explore_report.proofs.Slotting.{have-next, have-to}
use Rattle.mcs_explore_report.proofs.slots.slot_of.Goals as goal

pub returns-in-Some : goal.returns-in-Some
returns-in-Some c =
    let made : c.made-serial-end.result ≡ cnodes c.args.boot.now = c.made-serial-end.ensures in (
      c.loop-serial.serial,
      record {
        least = c.loop-serial.invariant.0;
        most = omega (arith, made, c.loop-serial-test.true, c.loop-serial.auto.serial-end);
        is = c.in-Some.ensures;
        before = λ d low lt. c.loop-serial.invariant.1 d low (omega (arith, lt));
      },
    )

pub loop-serial-preserved : goal.loop-serial-preserved
loop-serial-preserved c = (
  omega (arith, c.loop-serial.invariant.0),
  have-to (log_of c.args.kernel.now) c.args.object c.loop-serial.serial (c.loop-serial.serial + 1 - 1) (omega arith)
      (have-next (log_of c.args.kernel.now) c.args.object c.loop-serial.serial c.loop-serial.invariant.0 c.in-None.ensures c.loop-serial.invariant.1),
)

pub returns-in-None : goal.returns-in-None
returns-in-None c =
    let made : c.made-serial-end.result ≡ cnodes c.args.boot.now = c.made-serial-end.ensures in
    have-to (log_of c.args.kernel.now) c.args.object c.loop-serial.serial (cnodes c.args.boot.now) (omega (arith, made, c.loop-serial-test.true, c.loop-serial.auto.serial-end))
    (have-next (log_of c.args.kernel.now) c.args.object c.loop-serial.serial c.loop-serial.invariant.0 c.in-None.ensures c.loop-serial.invariant.1)
