use Rattle.std.proofs.Common.{is_none, sym, ap, ◌∙◌}
use Rattle.mcs_book.specs.Logs.{Log}
use Rattle.mcs_book.specs.Boots.{is_free}
use Rattle.mcs_state.specs.Now.{so_far}
use Rattle.mcs_boots.proofs.Booting.{none-by}
use Rattle.mcs_boots.proofs.boot.checks.place_is_free.Goals as goal

pub returns-in-Slot : goal.returns-in-Slot
returns-in-Slot g c =
    let R : Log = so_far c.args.state.now in
    none-by _ _ c.is_none.ensures ∙ ap (λ o. is_none o) c.slot.ensures ∙ ap (λ l. is_free R l) (sym c.in-Slot.is)
