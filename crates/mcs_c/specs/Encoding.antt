-- Which entry of C encodes a step: an inverse of what `step_said` reads, by a row for each entry,
-- and none for others, so that a new entry needs a row.
use Rattle.std.specs.Prelude.{◌≡◌, ◌<◌, ◌≤◌, ℕ, ◌-◌, ◌^◌, List, [], ◌∷◌, ◌++◌, length, replicate}
use Rattle.std.specs.List.{All}
use Rattle.mcs_types.specs.Limits.{core_limit, object_limit}
use Rattle.mcs_types.specs.Ranges.{InRange, IsWord}
use Rattle.mcs_types.specs.Views.{Content}
use Rattle.mcs_types.specs.declared.cap.Place.{Place}
use Rattle.mcs_types.specs.declared.entry.Entry.{Entry}
use Rattle.mcs_types.specs.declared.entry.Entry.TheVariants.{Send, NbSend, Call, Recv, NbRecv, Wait, NbWait, ReplyRecv, Signal, SetPriority, Suspend, Resume, BindNtfn, UnbindNtfn, BindCtx, UnbindCtx, CancelBadged, CopyCap, MintCap, MoveCap, DeleteCap, MakeEndpoint, MakeNotification, MakeReply, MakeContext, NbSendRecv, NbSendWait}
use Rattle.mcs_types.specs.declared.entry.Step.{Step}
use Rattle.mcs_types.specs.declared.id.Kind.TheVariants.{Thread}
use Rattle.mcs_c.specs.declared.entries.McsEntry.{McsEntry}
use Rattle.mcs_c.specs.declared.entries.TheConstants.{ENTRY_WORDS}

-- the key of an entry
abbrev pub key_of : Entry → ℕ
key_of (Send a m) = 1
key_of (NbSend a m) = 2
key_of (Call a m) = 3
key_of (Recv a r) = 4
key_of (NbRecv a r) = 5
key_of (Wait a) = 6
key_of (NbWait a) = 7
key_of (ReplyRecv a r m) = 8
key_of (Signal a) = 9
key_of (SetPriority x authority p) = 10
key_of (Suspend x) = 11
key_of (Resume x) = 12
key_of (BindNtfn x n) = 13
key_of (UnbindNtfn x) = 14
key_of (BindCtx s x) = 15
key_of (UnbindCtx s) = 16
key_of (CancelBadged a) = 17
key_of (CopyCap source dest rights) = 18
key_of (MintCap source dest rights badge) = 19
key_of (MoveCap source dest) = 20
key_of (DeleteCap at) = 21
key_of (MakeEndpoint at) = 22
key_of (MakeNotification at) = 23
key_of (MakeReply at) = 24
key_of (MakeContext at) = 25
key_of (NbSendRecv a source r m) = 26
key_of (NbSendWait a source m) = 27

-- a label, and the words after it
abbrev pub of_message : Content → List ℕ
of_message m = m.label ∷ m.words

-- an index and a depth, before other numbers
abbrev pub with_place : Place → List ℕ → List ℕ
with_place at ns = at.index ∷ at.depth ∷ ns

-- the numbers of an entry after its key
abbrev pub numbers_said : Entry → List ℕ
numbers_said (Send a m) = a ∷ of_message m
numbers_said (NbSend a m) = a ∷ of_message m
numbers_said (Call a m) = a ∷ of_message m
numbers_said (Recv a r) = a ∷ r ∷ []
numbers_said (NbRecv a r) = a ∷ r ∷ []
numbers_said (Wait a) = a ∷ []
numbers_said (NbWait a) = a ∷ []
numbers_said (ReplyRecv a r m) = a ∷ r ∷ of_message m
numbers_said (Signal a) = a ∷ []
numbers_said (SetPriority x authority p) = x ∷ authority ∷ p.0 ∷ []
numbers_said (Suspend x) = x ∷ []
numbers_said (Resume x) = x ∷ []
numbers_said (BindNtfn x n) = x ∷ n ∷ []
numbers_said (UnbindNtfn x) = x ∷ []
numbers_said (BindCtx s x) = s ∷ x ∷ []
numbers_said (UnbindCtx s) = s ∷ []
numbers_said (CancelBadged a) = a ∷ []
numbers_said (CopyCap source dest rights) = with_place source (with_place dest (rights ∷ []))
numbers_said (MintCap source dest rights badge) = with_place source (with_place dest (rights ∷ badge.0 ∷ []))
numbers_said (MoveCap source dest) = with_place source (with_place dest [])
numbers_said (DeleteCap at) = with_place at []
numbers_said (MakeEndpoint at) = with_place at []
numbers_said (MakeNotification at) = with_place at []
numbers_said (MakeReply at) = with_place at []
numbers_said (MakeContext at) = with_place at []
numbers_said (NbSendRecv a source r m) = a ∷ source ∷ r ∷ of_message m
numbers_said (NbSendWait a source m) = a ∷ source ∷ of_message m

-- numbers, and zeros in the words that do not count
abbrev pub padded : List ℕ → List ℕ
padded ns = ns ++ replicate (ENTRY_WORDS - length ns) 0

-- the entry of C that encodes a step
abbrev pub encoded : Step → McsEntry
encoded s = record { core = s.core.0; thread = s.thread.serial; key = key_of s.entry; count = length (numbers_said s.entry); words = padded (numbers_said s.entry) }

-- a step by a thread that a boot may make, on a core that a machine may have
pub record IsEncodable (s : Step) : Type 0 where
  pub core : s.core.0 < core_limit
  pub kind : s.thread.kind ≡ Thread
  pub least : 1 ≤ s.thread.serial
  pub most : s.thread.serial ≤ object_limit
  pub entry : InRange s.entry

-- a struct of C can have these numbers: four of 32 bits, and so many words of 64
pub record IsHeld (e : McsEntry) : Type 0 where
  pub core : e.core < 2 ^ 32
  pub thread : e.thread < 2 ^ 32
  pub key : e.key < 2 ^ 32
  pub count : e.count < 2 ^ 32
  pub many : length e.words ≡ ENTRY_WORDS
  pub words : All IsWord e.words
