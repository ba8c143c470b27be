-- What a packed record stands for, over an arena of words and the wide records.
use Rattle.std.specs.Prelude.{ℕ, vec_len, vec_capacity, ◌-◌, ◌*◌, ◌≡◌, ◌<◌, ◌≤◌, ◌+◌, ◌^◌, List, [], ◌∷◌, ◌++◌, length, take, drop, slice_index_or, Option, Some, None, IfSome, IfNone}
use Rattle.mcs_types.specs.Views.{Content}
use Rattle.mcs_types.specs.declared.id.ObjId.{ObjId}
use Rattle.mcs_types.specs.declared.id.Kind.{Kind}
use Rattle.mcs_types.specs.declared.id.Kind.TheVariants.{CNode, Thread, Endpoint, Notification, Reply, Context}
use Rattle.mcs_types.specs.declared.cap.Cap.{Cap}
use Rattle.mcs_types.specs.declared.record.Form.TheVariants as form
use Rattle.mcs_types.specs.declared.record.Queue.{Queue}
use Rattle.mcs_types.specs.declared.record.Queue.TheVariants.{Senders as in_senders, Receivers as in_receivers, Waiters as in_waiters}
use Rattle.mcs_types.specs.declared.record.Rec.{Rec}
use Rattle.mcs_types.specs.declared.record.Rec.TheVariants as rec
use Rattle.mcs_packing.specs.declared.addresses.TheConstants.{FIRST_FAR}
use Rattle.mcs_packing.specs.declared.arena.Arena.{Arena}
use Rattle.mcs_packing.specs.declared.packed.Side.{Side}
use Rattle.mcs_packing.specs.declared.packed.Side.TheVariants.{Senders, Receivers, Waiters}
use Rattle.mcs_packing.specs.declared.packed.Packed.{Packed}
use Rattle.mcs_packing.specs.declared.packed.Packed.TheVariants.{Made, MadeOn, Closed, Emptied, Filled, FilledBadged, FilledGuarded, Prio, Turns, Joins, JoinsWith, Parts, Sent, Took, Dropped, Owes, OwesWith, Paid, Void, Held, Unheld, Raised, RaisedAt, Heard, Tied, Untied, Homed, Unhomed, Wide}

-- the words whose positions fit a packed address
abbrev pub MOST_FAR : ℕ
MOST_FAR = 2 ^ 32 - FIRST_FAR

-- an object of a kind
abbrev pub object : Kind → ℕ → ObjId
object k n = record { kind = k; serial = n }

-- the queue of a side and an object
abbrev pub queue_on : Side → ℕ → Queue
queue_on Senders n = in_senders (object Endpoint n)
queue_on Receivers n = in_receivers (object Endpoint n)
queue_on Waiters n = in_waiters (object Notification n)

-- the word at a place of the arena
abbrev pub word_at : List ℕ → ℕ → ℕ
word_at ws at = slice_index_or ws at 0

-- the serial that follows the word at a place
abbrev pub serial_behind : List ℕ → ℕ → ℕ
serial_behind ws at = word_at ws (at + 1)

-- the message at a place: its label, and then this many words; after them a badge may be
abbrev pub content_at : List ℕ → ℕ → ℕ → Content
content_at ws at n = record { label = word_at ws at; words = take n (drop (at + 1) ws) }

-- this message is at a place
abbrev pub HoldsAt : List ℕ → ℕ → Content → Type 0
HoldsAt ws at m = content_at ws at (length m.words) ≡ m

-- this badge follows a message of such a length
abbrev pub HasBadgeAt : List ℕ → ℕ → Content → ℕ → Type 0
HasBadgeAt ws at m badge = word_at ws (at + 1 + length m.words) ≡ badge

-- a capability without a guard
abbrev pub plain_cap : ObjId → ℕ → ℕ → Cap
plain_cap o rights badge = record { obj = o; rights = rights; badge = record { 0 = badge }; guard = record { bits = 0; value = 0 } }

-- a capability to a CNode, without a badge
abbrev pub guarded_cap : ℕ → ℕ → ℕ → ℕ → Cap
guarded_cap n rights bits value = record { obj = object CNode n; rights = rights; badge = record { 0 = 0 }; guard = record { bits = bits; value = value } }

-- no wide record: the one that is read if there is none
abbrev pub no_record : Rec
no_record = rec.Dropped 0

-- the record that a packed one stands for: a thread is its serial less 1
abbrev pub record_of : Packed → List ℕ → List Rec → Rec
record_of (Made k n) ws rs = rec.Made (object k n) form.Plain
record_of (MadeOn core n) ws rs = rec.Made (object Context n) (form.OnCore core)
record_of (Closed k n) ws rs = rec.Closed (object k n)
record_of (Emptied i c) ws rs = rec.Slot (object CNode c) i None
record_of (Filled i rights k c n) ws rs = rec.Slot (object CNode c) i (Some (plain_cap (object k n) rights 0))
record_of (FilledBadged i rights k n at) ws rs = rec.Slot (object CNode (serial_behind ws at)) i (Some (plain_cap (object k n) rights (word_at ws at)))
record_of (FilledGuarded i rights bits n at) ws rs = rec.Slot (object CNode (serial_behind ws at)) i (Some (guarded_cap n rights bits (word_at ws at)))
record_of (Prio p t) ws rs = rec.Prio (object Thread (t + 1)) p
record_of (Turns m t) ws rs = rec.Turns (object Thread (t + 1)) m
record_of (Joins s t n) ws rs = rec.Joins (object Thread (t + 1)) (queue_on s n) None
record_of (JoinsWith s t n r) ws rs = rec.Joins (object Thread (t + 1)) (queue_on s n) (Some (object Reply r))
record_of (Parts s t n) ws rs = rec.Parts (object Thread (t + 1)) (queue_on s n)
record_of (Sent m len t e at) ws rs = rec.Sent (object Thread (t + 1)) (object Endpoint e) m (record { 0 = word_at ws (at + 1 + len) }) (content_at ws at len)
record_of (Took t m) ws rs = rec.Took m (object Thread (t + 1))
record_of (Dropped m) ws rs = rec.Dropped m
record_of (Owes t r) ws rs = rec.Owes (object Reply r) (object Thread (t + 1)) None
record_of (OwesWith t r s) ws rs = rec.Owes (object Reply r) (object Thread (t + 1)) (Some (object Context s))
record_of (Paid len t r at) ws rs = rec.Paid (object Reply r) (object Thread (t + 1)) (content_at ws at len)
record_of (Void ending t r) ws rs = rec.Void (object Reply r) (object Thread (t + 1)) ending
record_of (Held t s) ws rs = rec.Holds (object Context s) (Some (object Thread (t + 1)))
record_of (Unheld s) ws rs = rec.Holds (object Context s) None
record_of (Raised n b) ws rs = rec.Raised (object Notification n) (record { 0 = b })
record_of (RaisedAt n at) ws rs = rec.Raised (object Notification n) (record { 0 = word_at ws at })
record_of (Heard t n at) ws rs = rec.Heard (object Thread (t + 1)) (object Notification n) (word_at ws at)
record_of (Tied t n) ws rs = rec.Tied (object Thread (t + 1)) (Some (object Notification n))
record_of (Untied t) ws rs = rec.Tied (object Thread (t + 1)) None
record_of (Homed s n) ws rs = rec.Homed (object Context s) (Some (object Notification n))
record_of (Unhomed s) ws rs = rec.Homed (object Context s) None
record_of (Wide at) ws rs = slice_index_or rs at no_record

-- what was made and what ended
abbrev pub IsOfObject : Packed → Type 0
IsOfObject (Made _ _) = Unit {0}
IsOfObject (MadeOn _ _) = Unit {0}
IsOfObject (Closed _ _) = Unit {0}
IsOfObject _ = ⊥

-- a slot without a capability, or with one that has no badge and no guard
abbrev pub IsOfSlot : Packed → Type 0
IsOfSlot (Emptied _ _) = Unit {0}
IsOfSlot (Filled _ _ _ _ _) = Unit {0}
IsOfSlot _ = ⊥

-- how a thread runs and where it is
abbrev pub IsOfThread : Packed → Type 0
IsOfThread (Prio _ _) = Unit {0}
IsOfThread (Turns _ _) = Unit {0}
IsOfThread (Joins _ _ _) = Unit {0}
IsOfThread (JoinsWith _ _ _ _) = Unit {0}
IsOfThread (Parts _ _ _) = Unit {0}
IsOfThread _ = ⊥

-- what became of a message, and of the debt for it
abbrev pub IsOfDebt : Packed → Type 0
IsOfDebt (Took _ _) = Unit {0}
IsOfDebt (Dropped _) = Unit {0}
IsOfDebt (Owes _ _) = Unit {0}
IsOfDebt (OwesWith _ _ _) = Unit {0}
IsOfDebt (Void _ _ _) = Unit {0}
IsOfDebt _ = ⊥

-- who holds a context, is bound, and what was signalled
abbrev pub IsOfBond : Packed → Type 0
IsOfBond (Held _ _) = Unit {0}
IsOfBond (Unheld _) = Unit {0}
IsOfBond (Raised _ _) = Unit {0}
IsOfBond (Tied _ _) = Unit {0}
IsOfBond (Untied _) = Unit {0}
IsOfBond (Homed _ _) = Unit {0}
IsOfBond (Unhomed _) = Unit {0}
IsOfBond _ = ⊥

-- a slot with a capability that has a badge or a guard
abbrev pub IsOfMarked : Packed → Type 0
IsOfMarked (FilledBadged _ _ _ _ _) = Unit {0}
IsOfMarked (FilledGuarded _ _ _ _ _) = Unit {0}
IsOfMarked _ = ⊥

-- what keeps one word: what was signalled or heard
abbrev pub IsOfWord : Packed → Type 0
IsOfWord (RaisedAt _ _) = Unit {0}
IsOfWord (Heard _ _ _) = Unit {0}
IsOfWord _ = ⊥

-- what was sent and paid
abbrev pub IsOfMessage : Packed → Type 0
IsOfMessage (Sent _ _ _ _ _) = Unit {0}
IsOfMessage (Paid _ _ _ _) = Unit {0}
IsOfMessage _ = ⊥

-- a message of this many words is there
pub record IsMessageAt (ws : List ℕ) (at len : ℕ) : Type 0 where
  pub ends : at + len < length ws
  pub label : word_at ws at < 2 ^ 52
  pub few : len ≤ 120

-- the same, with a badge after it
pub record IsBadgedAt (ws : List ℕ) (at len : ℕ) : Type 0 where
  pub message : IsMessageAt ws at len
  pub badge : at + 1 + len < length ws

-- a word is there, and the serial of an object after it
pub record IsPairAt (ws : List ℕ) (at : ℕ) : Type 0 where
  pub ends : at + 1 < length ws
  pub serial : serial_behind ws at < 2 ^ 32

-- what a packed record names is there
abbrev pub Fits : Packed → List ℕ → List Rec → Type 0
Fits (FilledBadged i rights k n at) ws rs = IsPairAt ws at
Fits (FilledGuarded i rights bits n at) ws rs = IsPairAt ws at
Fits (Sent m len t e at) ws rs = IsBadgedAt ws at len
Fits (Paid len t r at) ws rs = IsMessageAt ws at len
Fits (RaisedAt n at) ws rs = at < length ws
Fits (Heard t n at) ws rs = at < length ws
Fits (Wide at) ws rs = at < length rs
Fits _ ws rs = Unit {0}

-- some more at the end
pub record GrowsBy {X : Type 0} (xs ys : List X) : Type 0 where
  pub more : List X
  pub is : ys ≡ xs ++ more

-- the same, over an arena
abbrev pub record_in : Packed → Arena → Rec
record_in p a = record_of p a.words.items a.wide.items

abbrev pub FitsIn : Packed → Arena → Type 0
FitsIn p a = Fits p a.words.items a.wide.items

-- what each of a list stands for
abbrev pub records_of : List Packed → List ℕ → List Rec → List Rec
records_of [] ws rs = []
records_of (p ∷ ps) ws rs = record_of p ws rs ∷ records_of ps ws rs

-- what each of a list names is there
abbrev pub AllFit : List Packed → List ℕ → List Rec → Type 0
AllFit [] ws rs = Unit {0}
AllFit (p ∷ ps) ws rs = Fits p ws rs × AllFit ps ws rs

-- there is room for what this many records keep in the arena, and for a head: a record keeps six
-- words, and long messages of records may use up the spare words besides; an entry keeps 124 words,
-- and an answer fewer
pub record HasRoom (a : Arena) (n : ℕ) : Type 0 where
  pub words : vec_len a.words + (6 * n + (a.spare + 248)) ≤ vec_capacity a.words
  pub named : vec_len a.words + (6 * n + (a.spare + 248)) ≤ MOST_FAR
  pub wide : vec_len a.wide + n ≤ vec_capacity a.wide
  pub named_wide : vec_len a.wide + n ≤ 2 ^ 32

-- there is room for this many entries and answers, each with a message of any length
pub record HasMessageRoom (a : Arena) (n : ℕ) : Type 0 where
  pub words : vec_len a.words + 124 * n ≤ vec_capacity a.words
  pub named : vec_len a.words + 124 * n ≤ MOST_FAR

-- an arena after one record more
pub record Grew (a b : Arena) : Type 0 where
  pub words : GrowsBy a.words.items b.words.items
  pub wide : GrowsBy a.wide.items b.wide.items
  pub room : (n : ℕ) → HasRoom a (n + 1) → HasRoom b n

-- an arena after one entry or answer more
pub record GrewHead (a b : Arena) : Type 0 where
  pub words : GrowsBy a.words.items b.words.items
  pub wide : b.wide ≡ a.wide
  pub few : vec_len b.words ≤ vec_len a.words + 124
  pub capacity : vec_capacity a.words ≤ vec_capacity b.words
  pub room : (n : ℕ) → HasMessageRoom a (n + 1) → HasMessageRoom b n

-- an answer stands for this record over an arena, if there is one
abbrev pub MayStandFor : Option Packed → Arena → Rec → Type 0
MayStandFor o a r = IfSome o (λ p. record_in p a ≡ r)

-- what an answer names is in an arena, if there is one
abbrev pub MayFit : Option Packed → Arena → Type 0
MayFit o a = IfSome o (λ p. FitsIn p a)

-- an answer stands for this record and needs nothing of an arena, if there is one
abbrev pub IsPlain : Option Packed → Rec → Type 0
IsPlain o fact = IfSome o (λ p. record_of p [] [] ≡ fact) × IfSome o (λ p. Fits p [] [])

-- a record was packed into an arena, which only grew; or it is not of the form, and the arena is as
-- it was
abbrev pub Packs : Arena → Arena → Option Packed → Rec → Type 0
Packs old new packed fact = MayStandFor packed new fact × MayFit packed new × Grew old new × IfNone packed (new ≡ old)
