use Rattle.std.proofs.Common.{List, Some, None, sym, ap, subst, ◌∙◌}
use Rattle.mcs_types.specs.declared.record.Rec.{Rec}
use Rattle.mcs_state.specs.Now.{so_far, adds_all}
use Rattle.mcs_state.specs.Doing.{Holds}
use Rattle.mcs_ipc.proofs.Freeing.{user-there, free-is}
use Rattle.mcs_ipc.proofs.receives.free.Goals as goal

pub cancel-requires-clause-there : goal.cancel-requires-clause-there
cancel-requires-clause-there g c = user-there (so_far c.args.state.now) c.args.reply c.in-Some.user c.is_sound.ensures.sound (sym c.user_of.ensures ∙ c.in-Some.is)

pub cancel-requires-clause-room : goal.cancel-requires-clause-room
cancel-requires-clause-room g c =
    subst (λ made. Holds made c.args.state.now) (free-is (so_far c.args.state.now) c.args.reply (Some c.in-Some.user) (sym c.user_of.ensures ∙ c.in-Some.is)) c.requires.room

pub returns-in-Some : goal.returns-in-Some
returns-in-Some g c =
    c.cancel.ensures ∙ ap (λ (made : List Rec). adds_all made c.args.state.now) (sym (free-is (so_far c.args.state.now) c.args.reply (Some c.in-Some.user) (sym c.user_of.ensures ∙ c.in-Some.is)))

pub returns-in-None : goal.returns-in-None
returns-in-None g c =
    ap (λ (made : List Rec). adds_all made c.args.state.now) (sym (free-is (so_far c.args.state.now) c.args.reply None (sym c.user_of.ensures ∙ c.in-None.is)))
