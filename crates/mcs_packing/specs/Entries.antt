-- What a packed entry stands for, over the words.
use Rattle.std.specs.Prelude.{ℕ, ◌+◌, ◌<◌, List, length}
use Rattle.mcs_types.specs.Views.{Content}
use Rattle.mcs_types.specs.declared.cap.Place.{Place}
use Rattle.mcs_types.specs.declared.entry.Entry.{Entry}
use Rattle.mcs_types.specs.declared.entry.Entry.TheVariants as entry
use Rattle.mcs_packing.specs.declared.entries.Sending.{Sending}
use Rattle.mcs_packing.specs.declared.entries.Sending.TheVariants as sends
use Rattle.mcs_packing.specs.declared.entries.OverPair.{OverPair}
use Rattle.mcs_packing.specs.declared.entries.OverPair.TheVariants as pair
use Rattle.mcs_packing.specs.declared.entries.OverAddress.{OverAddress}
use Rattle.mcs_packing.specs.declared.entries.OverAddress.TheVariants as one
use Rattle.mcs_packing.specs.declared.entries.OverPlace.{OverPlace}
use Rattle.mcs_packing.specs.declared.entries.OverPlace.TheVariants as place
use Rattle.mcs_packing.specs.declared.entries.PackedEntry.{PackedEntry}
use Rattle.mcs_packing.specs.declared.entries.PackedEntry.TheVariants.{Sends, ReplyRecv, NbSendRecv, NbSendWait, Pair, Address, AtPlace, SetPriority, CopyCap, MintCap, MoveCap}
use Rattle.mcs_packing.specs.Addresses.{AddressFits, address_of}
use Rattle.mcs_packing.specs.Packing.{word_at, content_at, IsMessageAt, IsBadgedAt}

-- a place of an index and a depth
abbrev pub place_of : ℕ → ℕ → Place
place_of index depth = record { index = index; depth = depth }

-- the entry that sends a message over a capability
abbrev pub sending : Sending → ℕ → Content → Entry
sending sends.Send cap m = entry.Send cap m
sending sends.NbSend cap m = entry.NbSend cap m
sending sends.Call cap m = entry.Call cap m

-- the entry of two addresses
abbrev pub over_pair : OverPair → ℕ → ℕ → Entry
over_pair pair.Recv cap reply = entry.Recv cap reply
over_pair pair.NbRecv cap reply = entry.NbRecv cap reply
over_pair pair.BindNtfn thread notification = entry.BindNtfn thread notification
over_pair pair.BindCtx context thread = entry.BindCtx context thread

-- the entry of one address
abbrev pub over_address : OverAddress → ℕ → Entry
over_address one.Wait cap = entry.Wait cap
over_address one.NbWait cap = entry.NbWait cap
over_address one.Signal cap = entry.Signal cap
over_address one.Suspend thread = entry.Suspend thread
over_address one.Resume thread = entry.Resume thread
over_address one.UnbindNtfn thread = entry.UnbindNtfn thread
over_address one.UnbindCtx context = entry.UnbindCtx context
over_address one.CancelBadged endpoint = entry.CancelBadged endpoint

-- the entry of one place
abbrev pub over_place : OverPlace → Place → Entry
over_place place.DeleteCap at = entry.DeleteCap at
over_place place.MakeEndpoint at = entry.MakeEndpoint at
over_place place.MakeNotification at = entry.MakeNotification at
over_place place.MakeReply at = entry.MakeReply at
over_place place.MakeContext at = entry.MakeContext at

-- the entry that a packed one stands for
abbrev pub entry_of : PackedEntry → List ℕ → Entry
entry_of (Sends form len at cap) ws = sending form (address_of cap ws) (content_at ws at len)
entry_of (ReplyRecv len at cap reply) ws = entry.ReplyRecv (address_of cap ws) (address_of reply ws) (content_at ws at len)
entry_of (NbSendRecv len at cap source) ws = entry.NbSendRecv (address_of cap ws) (address_of source ws) (word_at ws (at + 1 + len)) (content_at ws at len)
entry_of (NbSendWait len at cap source) ws = entry.NbSendWait (address_of cap ws) (address_of source ws) (content_at ws at len)
entry_of (Pair form first second) ws = over_pair form (address_of first ws) (address_of second ws)
entry_of (Address form address) ws = over_address form (address_of address ws)
entry_of (AtPlace form depth index) ws = over_place form (place_of (address_of index ws) depth)
entry_of (SetPriority priority thread authority) ws = entry.SetPriority (address_of thread ws) (address_of authority ws) priority
entry_of (CopyCap source_depth dest_depth rights source dest) ws = entry.CopyCap (place_of (address_of source ws) source_depth) (place_of (address_of dest ws) dest_depth) rights
entry_of (MintCap source_depth dest_depth rights at source dest) ws = entry.MintCap (place_of (address_of source ws) source_depth) (place_of (address_of dest ws) dest_depth) rights (record { 0 = word_at ws at })
entry_of (MoveCap source_depth dest_depth source dest) ws = entry.MoveCap (place_of (address_of source ws) source_depth) (place_of (address_of dest ws) dest_depth)

-- an entry that neither sends nor receives: it invokes an object
abbrev pub IsInvocation : Entry → Type 0
IsInvocation (entry.Send cap m) = ⊥
IsInvocation (entry.NbSend cap m) = ⊥
IsInvocation (entry.Call cap m) = ⊥
IsInvocation (entry.ReplyRecv cap reply m) = ⊥
IsInvocation (entry.NbSendRecv cap source reply m) = ⊥
IsInvocation (entry.NbSendWait cap source m) = ⊥
IsInvocation (entry.Recv cap reply) = ⊥
IsInvocation (entry.NbRecv cap reply) = ⊥
IsInvocation (entry.Wait cap) = ⊥
IsInvocation (entry.NbWait cap) = ⊥
IsInvocation (entry.Signal cap) = ⊥
IsInvocation _ = Unit {0}

-- what a packed entry names is there
abbrev pub EntryFits : PackedEntry → List ℕ → Type 0
EntryFits (Sends form len at cap) ws = IsMessageAt ws at len × AddressFits cap ws
EntryFits (ReplyRecv len at cap reply) ws = IsMessageAt ws at len × AddressFits cap ws × AddressFits reply ws
EntryFits (NbSendRecv len at cap source) ws = IsBadgedAt ws at len × AddressFits cap ws × AddressFits source ws
EntryFits (NbSendWait len at cap source) ws = IsMessageAt ws at len × AddressFits cap ws × AddressFits source ws
EntryFits (Pair form first second) ws = AddressFits first ws × AddressFits second ws
EntryFits (Address form address) ws = AddressFits address ws
EntryFits (AtPlace form depth index) ws = AddressFits index ws
EntryFits (SetPriority priority thread authority) ws = AddressFits thread ws × AddressFits authority ws
EntryFits (CopyCap source_depth dest_depth rights source dest) ws = AddressFits source ws × AddressFits dest ws
EntryFits (MintCap source_depth dest_depth rights at source dest) ws = (at < length ws) × AddressFits source ws × AddressFits dest ws
EntryFits (MoveCap source_depth dest_depth source dest) ws = AddressFits source ws × AddressFits dest ws
