-- A state in which nothing is made, and one whose records in hand moved to the book.
use Rattle.std.specs.Prelude.{ℕ, ◌≡◌, ◌≤◌, ◌*◌, ◌∷◌, ◌++◌, ◌&&◌, cond, List, [], reverse, false, true, Bool, Option, Some, None, unwrap_or}
use Rattle.std.proofs.Common.{refl, ap, sym, ◌∙◌, arith, append_assoc}
use Rattle.std.proofs.lemmas.List.{reverse-append}
use Rattle.mcs_types.specs.declared.id.ObjId.{ObjId}
use Rattle.mcs_types.specs.declared.id.Kind.{Kind}
use Rattle.mcs_types.specs.declared.id.Kind.TheVariants as kind
use Rattle.mcs_types.specs.declared.record.Queue.{Queue}
use Rattle.mcs_types.specs.declared.record.Rec.{Rec}
use Rattle.mcs_types.specs.declared.boot.BootLine.{BootLine}
use Rattle.mcs_types.specs.declared.boot.BootLine.TheVariants as boot
use Rattle.mcs_types.specs.Ids.{same_kind}
use Rattle.mcs_book.specs.Logs.{Log, counted, onto}
use Rattle.mcs_book.specs.Messages.{is_sent}
use Rattle.mcs_book.specs.Boots.{boot_line, boot_log}
use Rattle.mcs_book.specs.History.{Line, past, Book, log_of}
use Rattle.mcs_book.specs.Contexts.{homed_at}
use Rattle.mcs_book.specs.Notifications.{tied_to}
use Rattle.mcs_book.specs.Replies.{receiver_with}
use Rattle.mcs_book.specs.Statuses.{mail_of}
use Rattle.mcs_objects.specs.Places.{kept_at}
use Rattle.mcs_objects.specs.Store.{empty_shape}
use Rattle.mcs_replies.specs.Owing.{counts as reply_counts, is_there as has_reply, receiver_in, owed_in, chain_in}
use Rattle.mcs_notifications.specs.Signals.{counts as notification_counts, is_there as has_notification, word_in, thread_in, homed_in}
use Rattle.mcs_contexts.specs.Holding.{counts, core_in, holder_in, home_in}
use Rattle.mcs_slots.specs.Numbers.{number_of}
use Rattle.mcs_slots.specs.Pages.{page_of, page_radix, page_slot, radix_of, slot_at}
use Rattle.mcs_threads.specs.Tables.{made, row_of, mail_of as mail_in}
use Rattle.mcs_object_queues.specs.Queues.{queue_object, queue_kind}
use Rattle.mcs_state.specs.Tables.{ROOM, HAND, Tables, IsKept, is_there, word_said}

-- a book without lines has no records
pub log-empty : (b : Book) → b.boot.lines ≡ [] → b.lines ≡ [] → log_of b ≡ []
unfolding boot_log
log-empty b e f = ap (λ ls. past (boot_log b.boot.lines) ls) f ∙ ap (λ ls. boot_log ls) e

-- there is no page, so there is no radix, and nothing is in a slot
none-page : (n : Option ℕ) → page_of [] n ≡ None
none-page None = refl
none-page (Some n) = refl

none-radix : (c : ObjId) → unwrap_or (radix_of [] c) 0 ≡ 0
none-radix c = ap (λ o. unwrap_or (page_radix o) 0) (none-page (number_of c))

none-slot : (c : ObjId) (i : ℕ) → slot_at [] c i ≡ None
none-slot c i = ap (λ o. page_slot o i) (none-page (number_of c))

-- nothing is there, and nothing reaches anybody, before the first record
none-there : (k : Kind) (o : ObjId) → is_there [] k o ≡ false
none-there k o = go (same_kind o.kind k)
  where
    go : (b : Bool) → (b && false) ≡ false
    go true = refl
    go false = refl

mails-none : (t : ObjId) → mail_of [] t ≡ None
unfolding mail_of
mails-none t = refl

nobody-receives : (r : ObjId) → receiver_with [] r ≡ None
unfolding receiver_with
nobody-receives r = refl

word-none : (n : ObjId) → word_said [] n ≡ None
word-none n = ap (λ b. cond b None None) (none-there kind.Notification n)

nobody-bound : (n : ObjId) → tied_to [] n ≡ None
unfolding tied_to
nobody-bound n = refl

nobody-homed : (n : ObjId) → homed_at [] n ≡ None
unfolding homed_at
nobody-homed n = refl

-- the tables of a state in which nothing is made
pub record AreBlank (T : Tables) : Type 0 where
  pub threads : made T.threads ≡ 0
  pub rows : (t : ObjId) → row_of T.threads t ≡ None
  pub mails : (t : ObjId) → mail_in T.threads t ≡ None
  pub letters : (x : ObjId) → kept_at kind.Thread T.letters x ≡ None
  pub contexts : counts T.contexts ≡ record { kind = kind.Context; room = ROOM; given = 0; there = 0 }
  pub cores : (s : ObjId) → core_in T.contexts s ≡ None
  pub holders : (s : ObjId) → holder_in T.contexts s ≡ None
  pub homes : (s : ObjId) → home_in T.contexts s ≡ None
  pub line : (q : Queue) → T.queues.line q ≡ []
  pub queue : (t : ObjId) → T.queues.queue t ≡ None
  pub has : (q : Queue) → T.queues.has q ≡ false
  pub made : (k : Kind) → T.queues.made k ≡ 0
  pub there : (k : Kind) → T.queues.there k ≡ 0
  pub replies : reply_counts T.replies ≡ empty_shape kind.Reply ROOM
  pub has_reply : (r : ObjId) → has_reply T.replies r ≡ false
  pub receivers : (r : ObjId) → receiver_in T.replies r ≡ None
  pub owed : (r : ObjId) → owed_in T.replies r ≡ None
  pub chains : (s : ObjId) → chain_in T.replies s ≡ []
  pub notifications : notification_counts T.notifications ≡ empty_shape kind.Notification ROOM
  pub has_notification : (n : ObjId) → has_notification T.notifications n ≡ false
  pub words : (n : ObjId) → word_in T.notifications n ≡ None
  pub bound : (n : ObjId) → thread_in T.notifications n ≡ None
  pub homed : (n : ObjId) → homed_in T.notifications n ≡ None
  pub slots : T.slots ≡ []
  pub sent : T.sent ≡ 0

pub blank-kept : (T : Tables) (R : Log) → R ≡ [] → AreBlank T → IsKept T 0 [] R
blank-kept T R none b = rw none (record {
  few = omega arith;
  sound = tt;
  threads = record { made = b.threads; rows = b.rows; mails = λ t. b.mails t ∙ sym (mails-none t) };
  letters = b.letters;
  contexts = record { shape = b.contexts; cores = b.cores; holders = b.holders; homes = b.homes };
  queues = record { made = λ k own. b.made k; there = λ k own. b.there k; line = b.line; queue = b.queue; has = λ q. b.has q ∙ sym (none-there (queue_kind q) (queue_object q)) };
  replies = record { counts = b.replies; there = λ r. b.has_reply r ∙ sym (none-there kind.Reply r); receivers = λ r. b.receivers r ∙ sym (nobody-receives r); owed = b.owed; chains = b.chains };
  notifications = record { counts = b.notifications; there = λ n. b.has_notification n ∙ sym (none-there kind.Notification n); words = λ n. b.words n ∙ sym (word-none n); threads = λ n. b.bound n ∙ sym (nobody-bound n); homed = λ n. b.homed n ∙ sym (nobody-homed n) };
  slots = rw b.slots (record { made = refl; radices = none-radix; slots = none-slot; counts = λ o. refl });
  sent = record { all = b.sent; few = let zero_sent = b.sent in omega (arith, zero_sent) };
})

-- the records in hand are those of a log that moved elsewhere
pub moved-kept : {T : Tables} {lines : ℕ} {hand R : Log} (lines' : ℕ) (R' : Log) → R' ≡ R → T.sent ≤ HAND * lines' → IsKept T lines hand R → IsKept T lines' [] R'
moved-kept lines' R' e few a = rw e (record {
  few = omega arith;
  sound = a.sound;
  threads = a.threads;
  letters = a.letters;
  contexts = a.contexts;
  queues = a.queues;
  replies = a.replies;
  notifications = a.notifications;
  slots = a.slots;
  sent = record { all = a.sent.all; few = omega (arith, few) };
})

-- records on top of others
pub onto-top : (made hand R : Log) → onto made (hand ++ R) ≡ onto made hand ++ R
onto-top [] hand R = refl
onto-top (rec ∷ made) hand R = onto-top made (rec ∷ hand) R

-- the records in hand, in the order in which they were made, on top of others
pub onto-reverse : (rs R : List Rec) → onto rs R ≡ reverse rs ++ R
onto-reverse [] R = refl
onto-reverse (r ∷ rs) R = onto-reverse rs (r ∷ R) ∙ sym (append_assoc (reverse rs) (r ∷ []) R) ∙ ap (λ w. w ++ R) (sym (reverse-append (r ∷ []) rs))

-- a line of the boot sends nothing
pub boot-sends-none : (R : Log) (line : BootLine) → counted is_sent (onto (boot_line R line) []) ≡ 0
boot-sends-none R (boot.Thread priority maximum root guard runs (Some s)) = refl
boot-sends-none R (boot.Thread priority maximum root guard runs None) = refl
boot-sends-none R _ = refl

-- the records in hand are those of the line that the boot gets
pub boot-moved : (bs : List BootLine) (ls : List Line) (line : BootLine) (hand : Log) → ls ≡ [] → hand ≡ onto (boot_line (past (boot_log bs) ls) line) []
    → past (boot_log (line ∷ bs)) ls ≡ hand ++ past (boot_log bs) ls
unfolding boot_log
boot-moved bs ls line hand none is = go none is
  where
    go : ls ≡ [] → hand ≡ onto (boot_line (past (boot_log bs) ls) line) [] → past (boot_log (line ∷ bs)) ls ≡ hand ++ past (boot_log bs) ls
    go n h = rw (h, n) (onto-top (boot_line (boot_log bs) line) [] (boot_log bs))
