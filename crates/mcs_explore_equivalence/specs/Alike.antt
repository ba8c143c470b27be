-- Logs that no later question distinguishes.
use Rattle.std.specs.Prelude.{ℕ, ◌≡◌, true, Some}
use Rattle.mcs_types.specs.declared.id.ObjId.{ObjId}
use Rattle.mcs_types.specs.declared.id.Kind.{Kind}
use Rattle.mcs_types.specs.declared.id.Kind.TheVariants as kind
use Rattle.mcs_types.specs.declared.record.Queue.{Queue}
use Rattle.mcs_book.specs.Logs.{Log, counted}
use Rattle.mcs_book.specs.Objects.{was_made, was_closed, is_alive, form_of, makes_kind, made_of}
use Rattle.mcs_book.specs.Threads.{prio_of, mode_of}
use Rattle.mcs_book.specs.Queues.{queue_of, reply_with}
use Rattle.mcs_book.specs.Growing.{growing_queue, growing_open, growing_chain, growing_word}
use Rattle.mcs_book.specs.Messages.{next_message}
use Rattle.mcs_book.specs.Lookup.{radix_kept}
use Rattle.mcs_book.specs.Notifications.{bound_of}
use Rattle.mcs_book.specs.Replies.{owed_by}
use Rattle.mcs_book.specs.Contexts.{holder_of, home_of}
use Rattle.mcs_book.specs.Slots.{slot, count_of}
use Rattle.mcs_book.specs.Sound.{Sound, IsThere}

-- two sound logs have the same objects and the same values of what is there; mail is not among them
pub record Alike (R S : Log) : Type 0 where
  pub left : Sound R
  pub right : Sound S
  pub counts : (k : Kind) → counted (makes_kind k) R ≡ counted (makes_kind k) S
  pub lists : (k : Kind) → made_of R k ≡ made_of S k
  pub made : (o : ObjId) → was_made R o ≡ was_made S o
  pub closed : (o : ObjId) → was_closed R o ≡ was_closed S o
  pub forms : (o : ObjId) → is_alive R o ≡ true → form_of R o ≡ form_of S o
  pub radices : (c : ObjId) → radix_kept (form_of R c) ≡ radix_kept (form_of S c)
  pub prios : (t : ObjId) → IsThere R kind.Thread t → prio_of R t ≡ prio_of S t
  pub modes : (t : ObjId) → IsThere R kind.Thread t → mode_of R t ≡ mode_of S t
  pub words : (n : ObjId) → IsThere R kind.Notification n → growing_word R n ≡ growing_word S n
  pub queues : (t : ObjId) → queue_of R t ≡ queue_of S t
  pub replies : (t : ObjId) (q : Queue) → queue_of R t ≡ Some q → reply_with R t ≡ reply_with S t
  pub bounds : (t : ObjId) → bound_of R t ≡ bound_of S t
  pub owed : (r : ObjId) → owed_by R r ≡ owed_by S r
  pub holders : (s : ObjId) → holder_of R s ≡ holder_of S s
  pub homes : (s : ObjId) → home_of R s ≡ home_of S s
  pub slots : (c : ObjId) (i : ℕ) → slot R c i ≡ slot S c i
  pub held : (o : ObjId) → count_of R o ≡ count_of S o
  pub lines : (q : Queue) → growing_queue R q ≡ growing_queue S q
  pub letters : (x : ObjId) → growing_open R x ≡ growing_open S x
  pub chains : (s : ObjId) → growing_chain R s ≡ growing_chain S s
  pub sent : next_message R ≡ next_message S
