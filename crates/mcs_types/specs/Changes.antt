-- What entries may change.
use Rattle.std.specs.Prelude.{Bool, true, false}
use Rattle.mcs_types.specs.declared.entry.Entry.{Entry}
use Rattle.mcs_types.specs.declared.entry.Entry.TheVariants.{Send, CopyCap, MintCap, MoveCap, DeleteCap, MakeEndpoint, MakeNotification, MakeReply, MakeContext}

-- whether it makes an object
abbrev pub makes_object : Entry → Bool
makes_object (MakeEndpoint place) = true
makes_object (MakeNotification place) = true
makes_object (MakeReply place) = true
makes_object (MakeContext place) = true
makes_object _ = false

-- whether it is Send, whose thread goes on once its message is taken
abbrev pub is_send : Entry → Bool
is_send (Send cap message) = true
is_send _ = false

-- whether it may change slots
abbrev pub changes_slots : Entry → Bool
changes_slots (CopyCap source dest rights) = true
changes_slots (MintCap source dest rights badge) = true
changes_slots (MoveCap source dest) = true
changes_slots (DeleteCap place) = true
changes_slots (MakeEndpoint place) = true
changes_slots (MakeNotification place) = true
changes_slots (MakeReply place) = true
changes_slots (MakeContext place) = true
changes_slots _ = false
