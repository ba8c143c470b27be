-- The step that an entry of C encodes: its key is the number of a form, and its words are the
-- numbers that the form has after the key, in their order.
use Rattle.std.specs.Prelude.{◌≡◌, ℕ, ◌+◌, ◌^◌, Bool, ◌&&◌, List, [], ◌∷◌, ◌++◌, length, take, drop, slice_get, slice_index, ◌-◌, Option, Some, None, Result, Ok, Err, nat_lt, nat_le, ◌==◌, if◌then◌else◌}
use Rattle.mcs_types.specs.Limits.{core_limit, object_limit, word_limit, label_bits}
use Rattle.mcs_types.specs.Views.{Content}
use Rattle.mcs_types.specs.declared.cap.Place.{Place}
use Rattle.mcs_types.specs.declared.entry.Entry.{Entry}
use Rattle.mcs_types.specs.declared.entry.Entry.TheVariants.{ReplyRecv, SetPriority, CopyCap, MintCap, MoveCap, NbSendRecv, NbSendWait}
use Rattle.mcs_types.specs.declared.entry.Step.{Step}
use Rattle.mcs_types.specs.declared.id.Kind.TheVariants.{Thread}
use Rattle.mcs_packing.specs.declared.entries.Sending.{Sending}
use Rattle.mcs_packing.specs.declared.entries.Sending.TheVariants as sends
use Rattle.mcs_packing.specs.declared.entries.OverPair.{OverPair}
use Rattle.mcs_packing.specs.declared.entries.OverPair.TheVariants as pair
use Rattle.mcs_packing.specs.declared.entries.OverAddress.{OverAddress}
use Rattle.mcs_packing.specs.declared.entries.OverAddress.TheVariants as one
use Rattle.mcs_packing.specs.declared.entries.OverPlace.{OverPlace}
use Rattle.mcs_packing.specs.declared.entries.OverPlace.TheVariants as place
use Rattle.mcs_packing.specs.Entries.{sending, over_pair, over_address, over_place, place_of}
use Rattle.mcs_text.specs.declared.token.Entrant.{Entrant}
use Rattle.mcs_text.specs.Table.{step_by, step_text}
use Rattle.mcs_c.specs.declared.entries.EntryFault.{EntryFault}
use Rattle.mcs_c.specs.declared.entries.EntryFault.TheVariants.{Form, Range}
use Rattle.mcs_c.specs.declared.entries.Shape.{Shape}
use Rattle.mcs_c.specs.declared.entries.Shape.TheVariants as shape
use Rattle.mcs_c.specs.declared.entries.McsEntry.{McsEntry}

-- a value where its numbers are in their ranges
abbrev pub ranged : {A : Type 0} → Bool → A → Result A EntryFault
ranged fits x = if fits then Ok x else Err Range

-- what so many numbers say, or at least so many
abbrev pub just : ℕ → List ℕ → Result Entry EntryFault → Result Entry EntryFault
just n ns said = if length ns == n then said else Err Form

abbrev pub least : ℕ → List ℕ → Result Entry EntryFault → Result Entry EntryFault
least n ns said = if nat_le n (length ns) then said else Err Form

-- a label of 52 bits, and as many words as a message may have
abbrev pub fits_message : ℕ → List ℕ → Bool
fits_message label words = nat_lt label (2 ^ label_bits) && nat_le (length words) word_limit

-- what numbers encode whose last are a label, at this place, and the words after it
abbrev pub with_message : ℕ → List ℕ → (Content → Entry) → Result Entry EntryFault
with_message i ns entry = least (i + 1) ns (ranged (fits_message (slice_index ns i) (drop (i + 1) ns)) (entry (record { label = slice_index ns i; words = drop (i + 1) ns })))

-- an address, a label and words
abbrev pub sent : Sending → List ℕ → Result Entry EntryFault
sent form ns = with_message 1 ns (sending form (slice_index ns 0))

-- two addresses, a label and words
abbrev pub replied : (ℕ → ℕ → Content → Entry) → List ℕ → Result Entry EntryFault
replied entry ns = with_message 2 ns (entry (slice_index ns 0) (slice_index ns 1))

-- three addresses, a label and words
abbrev pub exchanged : List ℕ → Result Entry EntryFault
exchanged ns = with_message 3 ns (NbSendRecv (slice_index ns 0) (slice_index ns 1) (slice_index ns 2))

-- two addresses
abbrev pub paired : OverPair → List ℕ → Result Entry EntryFault
paired form ns = just 2 ns (Ok (over_pair form (slice_index ns 0) (slice_index ns 1)))

-- one address
abbrev pub addressed : OverAddress → List ℕ → Result Entry EntryFault
addressed form ns = just 1 ns (Ok (over_address form (slice_index ns 0)))

-- the place of an index and a depth, of which this is the first
abbrev pub place_from : ℕ → List ℕ → Place
place_from i ns = place_of (slice_index ns i) (slice_index ns (i + 1))

-- whether it is the number of a byte
abbrev pub is_byte : ℕ → Bool
is_byte n = nat_lt n 256

-- one place
abbrev pub placed : OverPlace → List ℕ → Result Entry EntryFault
placed form ns = just 2 ns (ranged (is_byte (slice_index ns 1)) (over_place form (place_from 0 ns)))

-- two addresses and a priority
abbrev pub prioritized : List ℕ → Result Entry EntryFault
prioritized ns = just 3 ns (ranged (is_byte (slice_index ns 2)) (SetPriority (slice_index ns 0) (slice_index ns 1) (record { 0 = slice_index ns 2 })))

-- whether the depths of two places are those of bytes
abbrev pub are_places : List ℕ → Bool
are_places ns = is_byte (slice_index ns 1) && is_byte (slice_index ns 3)

-- two places
abbrev pub moved : List ℕ → Result Entry EntryFault
moved ns = just 4 ns (ranged (are_places ns) (MoveCap (place_from 0 ns) (place_from 2 ns)))

-- two places and rights
abbrev pub copied : List ℕ → Result Entry EntryFault
copied ns = just 5 ns (ranged (are_places ns && nat_lt (slice_index ns 4) 16) (CopyCap (place_from 0 ns) (place_from 2 ns) (slice_index ns 4)))

-- two places, rights and a badge
abbrev pub minted : List ℕ → Result Entry EntryFault
minted ns = just 6 ns (ranged (are_places ns && nat_lt (slice_index ns 4) 16) (MintCap (place_from 0 ns) (place_from 2 ns) (slice_index ns 4) (record { 0 = slice_index ns 5 })))

-- the shapes of the entries, in the order of their keys from 1 on
abbrev pub shapes : List Shape
shapes = shape.Sends sends.Send ∷ shape.Sends sends.NbSend ∷ shape.Sends sends.Call
    ∷ shape.Pair pair.Recv ∷ shape.Pair pair.NbRecv ∷ shape.Address one.Wait ∷ shape.Address one.NbWait
    ∷ shape.ReplyRecv ∷ shape.Address one.Signal ∷ shape.SetPriority ∷ shape.Address one.Suspend ∷ shape.Address one.Resume
    ∷ shape.Pair pair.BindNtfn ∷ shape.Address one.UnbindNtfn ∷ shape.Pair pair.BindCtx ∷ shape.Address one.UnbindCtx
    ∷ shape.Address one.CancelBadged ∷ shape.CopyCap ∷ shape.MintCap ∷ shape.MoveCap ∷ shape.AtPlace place.DeleteCap
    ∷ shape.AtPlace place.MakeEndpoint ∷ shape.AtPlace place.MakeNotification ∷ shape.AtPlace place.MakeReply ∷ shape.AtPlace place.MakeContext
    ∷ shape.NbSendRecv ∷ shape.NbSendWait ∷ []

-- the shape of a key in a table
abbrev pub shape_in : List Shape → ℕ → Option Shape
shape_in table key = if key == 0 then None else slice_get table (key - 1)

-- the shape of the entries with this key
unfoldable pub shape_of : ℕ → Option Shape
shape_of key = shape_in shapes key

-- the entry of a shape
abbrev pub entry_said : Shape → List ℕ → Result Entry EntryFault
entry_said (shape.Sends form) ns = sent form ns
entry_said (shape.Pair form) ns = paired form ns
entry_said (shape.Address form) ns = addressed form ns
entry_said (shape.AtPlace form) ns = placed form ns
entry_said shape.ReplyRecv ns = replied ReplyRecv ns
entry_said shape.NbSendRecv ns = exchanged ns
entry_said shape.NbSendWait ns = replied NbSendWait ns
entry_said shape.SetPriority ns = prioritized ns
entry_said shape.CopyCap ns = copied ns
entry_said shape.MintCap ns = minted ns
entry_said shape.MoveCap ns = moved ns

-- the words that count
abbrev pub numbers_of : McsEntry → List ℕ
numbers_of e = take e.count e.words

-- the entry of a shape, where there is one and no more words count than there are
abbrev pub entry_of : Option Shape → McsEntry → Result Entry EntryFault
entry_of None e = Err Form
entry_of (Some shape) e = if nat_le e.count (length e.words) then entry_said shape (numbers_of e) else Err Form

-- whether its core is one that a machine may have, and its thread one that a boot may make
abbrev pub fits_entrant : McsEntry → Bool
fits_entrant e = nat_lt e.core core_limit && (nat_le 1 e.thread && nat_le e.thread object_limit)

-- the core and the thread that enter
abbrev pub entrant_of : McsEntry → Entrant
entrant_of e = record { core = record { 0 = e.core }; thread = record { kind = Thread; serial = e.thread } }

-- the step of an entry
abbrev pub step_with : Entrant → Result Entry EntryFault → Result Step EntryFault
step_with from (Ok entry) = Ok (step_by from entry)
step_with from (Err f) = Err f

-- the step that an entry encodes: its core and thread are tested first, then its form and its
-- numbers
unfoldable pub step_said : McsEntry → Result Step EntryFault
step_said e = if fits_entrant e then step_with (entrant_of e) (entry_of (shape_of e.key) e) else Err Range

-- a line followed by that of a step
abbrev pub step_after : List ℕ → Result Step EntryFault → Result (List ℕ) EntryFault
step_after line (Ok s) = Ok (line ++ step_text s)
step_after line (Err f) = Err f

-- a line followed by that of an entry
abbrev pub entry_after : List ℕ → Entrant → Result Entry EntryFault → Result (List ℕ) EntryFault
entry_after line from said = step_after line (step_with from said)

-- what a writer returned is, through `view`, what the entry encodes
abbrev pub Gives : {X Y : Type 0} → (X → Y) → Result X EntryFault → Result Y EntryFault → Type 0
Gives view (Ok x) said = said ≡ Ok (view x)
Gives view (Err f) said = said ≡ Err f
