-- Each entry has a field.
use Rattle.std.proofs.Common.{◌≡◌, Option, Some, None, Err, [], refl}
use Rattle.mcs_text.specs.declared.fault.LineFault.TheVariants.{Form}
use Rattle.mcs_text.specs.declared.key.Key.{Key}
use Rattle.mcs_text.specs.declared.key.Key.TheVariants as k
use Rattle.mcs_text.specs.Reading.{entry_of, number_at, sent_at, replied_at, exchanged_at, pair_at, priority_at, address_at, place_at, copy_at, mint_at, move_at, last_place_at, make_at}

pub no-field : (key : Option Key) → entry_of key [] ≡ Err Form
unfolding number_at sent_at replied_at exchanged_at pair_at priority_at address_at place_at copy_at mint_at move_at last_place_at make_at
no-field None = refl
no-field (Some k.Send) = refl
no-field (Some k.NbSend) = refl
no-field (Some k.Call) = refl
no-field (Some k.Recv) = refl
no-field (Some k.NbRecv) = refl
no-field (Some k.Wait) = refl
no-field (Some k.NbWait) = refl
no-field (Some k.ReplyRecv) = refl
no-field (Some k.NbSendRecv) = refl
no-field (Some k.NbSendWait) = refl
no-field (Some k.Signal) = refl
no-field (Some k.SetPrio) = refl
no-field (Some k.Suspend) = refl
no-field (Some k.Resume) = refl
no-field (Some k.BindNtfn) = refl
no-field (Some k.UnbindNtfn) = refl
no-field (Some k.Bind) = refl
no-field (Some k.Unbind) = refl
no-field (Some k.Cancel) = refl
no-field (Some k.Copy) = refl
no-field (Some k.Mint) = refl
no-field (Some k.Move) = refl
no-field (Some k.Delete) = refl
no-field (Some k.Make) = refl
no-field _ = refl
