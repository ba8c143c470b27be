use Rattle.std.proofs.Common.{◌≡◌, IfOk, Ok, Err, sym}
use Rattle.mcs_types.specs.declared.id.ObjId.{ObjId}
use Rattle.mcs_types.specs.declared.id.Kind.TheVariants as kind
use Rattle.mcs_book.specs.Checks.{Checked}
use Rattle.mcs_book.specs.Sound.{IsThere}
use Rattle.mcs_state.specs.Checks.{object_named}
use Rattle.mcs_state.specs.Now.{so_far}
use Rattle.mcs_state.proofs.Named.{named-there}
use Rattle.mcs_cancel.proofs.checks.find_thread.Goals as goal

pub returns-clause-there : goal.returns-clause-there
returns-clause-there g c = go c.find_object.result c.find_object.ensures
  where
    go : (m : Checked ObjId) → m ≡ object_named (so_far c.args.state.now) c.args.thread kind.Thread c.args.address → IfOk m (λ x. IsThere (so_far c.args.state.now) kind.Thread x)
    go (Ok x) is = named-there (so_far c.args.state.now) c.args.thread kind.Thread c.args.address x c.is_sound.ensures.sound (sym is)
    go (Err why) is = tt
