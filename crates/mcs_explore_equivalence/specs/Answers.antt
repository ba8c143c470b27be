-- What two logs answer alike.
use Rattle.std.specs.Prelude.{ℕ, ◌≡◌, ◌<◌, IsTrue, option_map}
use Rattle.mcs_types.specs.declared.id.ObjId.{ObjId}
use Rattle.mcs_types.specs.declared.id.Kind.{Kind}
use Rattle.mcs_types.specs.declared.id.Kind.TheVariants as kind
use Rattle.mcs_types.specs.declared.record.Queue.TheVariants.{Senders, Receivers, Waiters}
use Rattle.mcs_book.specs.Logs.{Log, counted}
use Rattle.mcs_book.specs.Objects.{was_made, is_alive, form_of, makes_kind}
use Rattle.mcs_book.specs.Queues.{queued_in}
use Rattle.mcs_book.specs.Chains.{chain_of}
use Rattle.mcs_book.specs.Contexts.{holder_of, home_of}
use Rattle.mcs_book.specs.Lookup.{radix_kept}
use Rattle.mcs_book.specs.Messages.{next_message, open_of}
use Rattle.mcs_book.specs.Replies.{owed_by}
use Rattle.mcs_book.specs.Slots.{slot, count_of}
use Rattle.mcs_state.specs.Questions.{word_of}
use Rattle.mcs_state.specs.Saying.{row_said}
use Rattle.mcs_state.specs.Tables.{core_said}
use Rattle.mcs_explore_equivalence.specs.ButNumbers.{unnumbered}

-- o was made, and is of this kind
abbrev pub IsMade : Log → Kind → ObjId → Type 0
IsMade R k o = (o.kind ≡ k) × IsTrue (was_made R o)

-- each question that a kernel is asked of what was made has the same answer
pub record AnswerAlike (R S : Log) : Type 0 where
  pub counts : (k : Kind) → counted (makes_kind k) R ≡ counted (makes_kind k) S
  pub sent : next_message R ≡ next_message S
  pub there : (o : ObjId) → IsTrue (was_made R o) → is_alive R o ≡ is_alive S o
  pub held : (o : ObjId) → IsTrue (was_made R o) → count_of R o ≡ count_of S o
  pub rows : (t : ObjId) → IsMade R kind.Thread t → row_said R t ≡ row_said S t
  pub letters : (t : ObjId) → IsMade R kind.Thread t → open_of R t ≡ open_of S t
  pub senders : (e : ObjId) → IsMade R kind.Endpoint e → queued_in R (Senders e) ≡ queued_in S (Senders e)
  pub receivers : (e : ObjId) → IsMade R kind.Endpoint e → queued_in R (Receivers e) ≡ queued_in S (Receivers e)
  pub waiters : (n : ObjId) → IsMade R kind.Notification n → queued_in R (Waiters n) ≡ queued_in S (Waiters n)
  pub words : (n : ObjId) → IsMade R kind.Notification n → word_of R n ≡ word_of S n
  pub owed : (r : ObjId) → IsMade R kind.Reply r → owed_by R r ≡ owed_by S r
  pub cores : (s : ObjId) → IsMade R kind.Context s → core_said R s ≡ core_said S s
  pub holders : (s : ObjId) → IsMade R kind.Context s → holder_of R s ≡ holder_of S s
  pub homes : (s : ObjId) → IsMade R kind.Context s → home_of R s ≡ home_of S s
  pub chains : (s : ObjId) → IsMade R kind.Context s → chain_of R s ≡ chain_of S s
  pub radices : (c : ObjId) → IsMade R kind.CNode c → radix_kept (form_of R c) ≡ radix_kept (form_of S c)
  pub slots : (c : ObjId) (i : ℕ) → IsMade R kind.CNode c → i < 256 → slot R c i ≡ slot S c i

-- the same, but for the numbers of messages
pub record AnswerButNumbers (R S : Log) : Type 0 where
  pub counts : (k : Kind) → counted (makes_kind k) R ≡ counted (makes_kind k) S
  pub there : (o : ObjId) → IsTrue (was_made R o) → is_alive R o ≡ is_alive S o
  pub held : (o : ObjId) → IsTrue (was_made R o) → count_of R o ≡ count_of S o
  pub rows : (t : ObjId) → IsMade R kind.Thread t → row_said R t ≡ row_said S t
  pub letters : (t : ObjId) → IsMade R kind.Thread t → option_map unnumbered (open_of R t) ≡ option_map unnumbered (open_of S t)
  pub senders : (e : ObjId) → IsMade R kind.Endpoint e → queued_in R (Senders e) ≡ queued_in S (Senders e)
  pub receivers : (e : ObjId) → IsMade R kind.Endpoint e → queued_in R (Receivers e) ≡ queued_in S (Receivers e)
  pub waiters : (n : ObjId) → IsMade R kind.Notification n → queued_in R (Waiters n) ≡ queued_in S (Waiters n)
  pub words : (n : ObjId) → IsMade R kind.Notification n → word_of R n ≡ word_of S n
  pub owed : (r : ObjId) → IsMade R kind.Reply r → owed_by R r ≡ owed_by S r
  pub cores : (s : ObjId) → IsMade R kind.Context s → core_said R s ≡ core_said S s
  pub holders : (s : ObjId) → IsMade R kind.Context s → holder_of R s ≡ holder_of S s
  pub homes : (s : ObjId) → IsMade R kind.Context s → home_of R s ≡ home_of S s
  pub chains : (s : ObjId) → IsMade R kind.Context s → chain_of R s ≡ chain_of S s
  pub radices : (c : ObjId) → IsMade R kind.CNode c → radix_kept (form_of R c) ≡ radix_kept (form_of S c)
  pub slots : (c : ObjId) (i : ℕ) → IsMade R kind.CNode c → i < 256 → slot R c i ≡ slot S c i
