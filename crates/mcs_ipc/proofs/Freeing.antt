-- A reply object whose present user is cancelled, and what a receive then finds.
use Rattle.std.specs.Prelude.{ℕ, ◌≡◌, ◌≢◌, Bool, true, false, List, [], ◌∷◌, Option, Some, None, unwrap_or}
use Rattle.std.specs.Option.{option_or}
use Rattle.std.proofs.Common.{refl, ap, sym, ◌∙◌, subst, arith, inl, inr}
use Rattle.mcs_types.specs.declared.id.ObjId.{ObjId}
use Rattle.mcs_types.specs.declared.id.Kind.TheVariants as kind
use Rattle.mcs_types.specs.declared.record.Ending.TheVariants.{Cancelled}
use Rattle.mcs_types.specs.declared.record.Letter.{Letter}
use Rattle.mcs_types.specs.declared.record.Mode.TheVariants.{Inactive}
use Rattle.mcs_types.specs.declared.record.Queue.{Queue}
use Rattle.mcs_types.specs.declared.record.Queue.TheVariants.{Senders, Receivers}
use Rattle.mcs_types.specs.declared.record.Rec.{Rec}
use Rattle.mcs_types.specs.declared.record.Rec.TheVariants as rec
use Rattle.mcs_types.specs.declared.entry.Answer.TheVariants.{Got, Heard, Waits, Empty}
use Rattle.mcs_types.specs.Ids.{same}
use Rattle.mcs_types.proofs.Ids.{same-equal, same-other}
use Rattle.mcs_book.specs.Logs.{Log, onto, given}
use Rattle.mcs_book.specs.Queues.{queue_of, first_in}
use Rattle.mcs_book.specs.Messages.{letter, open_of}
use Rattle.mcs_book.specs.Replies.{owed_by, receiver_with, user_of}
use Rattle.mcs_book.specs.Pieces.{Piece, ◌then◌, with_any, Act, Outcome, answers}
use Rattle.mcs_book.specs.Notifications.{bound_of}
use Rattle.mcs_book.specs.Taking.{taken}
use Rattle.mcs_book.specs.Cancelling.{cancel}
use Rattle.mcs_book.specs.Receiving.{free, hear, take_open, stand, joins_or, open_of_any, pending_of_any, receive_message}
use Rattle.mcs_book.specs.Fair.{IsOpenOf}
use Rattle.mcs_book.specs.Sound.{Sound, IsThere}
use Rattle.mcs_book.proofs.Firm.Laws.{owed-owing}
use Rattle.mcs_book.proofs.Queues.QueueLaws.{first-stands}
use Rattle.mcs_book.proofs.Messages.MessageLaws.{open_of-open, open_of-letter}
use Rattle.mcs_book.proofs.SoundLogs.KeptLaws.{set-split, set-self, standing-thread, owed-there, owed-stands_none, owed-unattended}
use Rattle.mcs_book.proofs.Threads.UserLaws.{receiver_with-named, unattended-none, unattended-parted}
use Rattle.mcs_notify.specs.Waiting.{word_heard, takes_bound}
use Rattle.mcs_notify.proofs.Words.{bound-silent}
use Rattle.mcs_state.specs.Doing.{Makes, HasRoomFor, FitsAct, Holds}
use Rattle.mcs_state.specs.Entering.{OpenStand}
use Rattle.mcs_state.specs.Now.{Now, so_far, adds_all}
use Rattle.mcs_ipc.specs.Ready.{IsReceiving, IsReady}
use Rattle.mcs_ipc.specs.Rows.{stand_act, take_act, taken_by}

-- a reply object that no thread uses
free-nobody : (R : Log) (r : ObjId) → owed_by R r ≡ None → receiver_with R r ≡ None → free r R ≡ []
unfolding free
free-nobody R r unowed none = ap (λ o. with_any o (λ x. cancel x Inactive) R) (ap (λ o. option_or o (receiver_with R r)) unowed ∙ none)

-- a reply object with which somebody receives
free-receiver : (R : Log) (r x : ObjId) (q : Queue) → owed_by R r ≡ None → receiver_with R r ≡ Some x → queue_of R x ≡ Some q
    → free r R ≡ rec.Parts x q ∷ rec.Turns x Inactive ∷ []
unfolding free cancel ◌then◌
free-receiver R r x q unowed found at =
    let (e, stands) = (receiver_with-named R r x found).0 in
    let it : Receivers e ≡ q = cc in
    ap (λ o. with_any o (λ x. cancel x Inactive) R) (ap (λ o. option_or o (receiver_with R r)) unowed ∙ found)
    ∙ rw (stands, ← it) refl

-- a reply object that owes somebody
free-caller : (R : Log) (r x : ObjId) → Sound R → owed_by R r ≡ Some x → free r R ≡ rec.Void r x Cancelled ∷ rec.Turns x Inactive ∷ []
unfolding free cancel ◌then◌
free-caller R r x sound owed =
    ap (λ o. with_any o (λ x. cancel x Inactive) R) (ap (λ o. option_or o (receiver_with R r)) owed)
    ∙ rw (owed-stands_none R r x sound owed, owed-owing R x r sound owed) refl

-- whoever uses a reply object is a thread that is there
pub user-there : (R : Log) (r x : ObjId) → Sound R → user_of R r ≡ Some x → IsThere R kind.Thread x
user-there R r x sound uses = go (owed_by R r) refl uses
  where
    go : (o : Option ObjId) → owed_by R r ≡ o → option_or o (receiver_with R r) ≡ Some x → IsThere R kind.Thread x
    go (Some y) owed is = (owed-there R r x sound (owed ∙ is)).1
    go None unowed is = let (e, stands) = (receiver_with-named R r x is).0 in standing-thread R x (Receivers e) sound stands

-- and is cancelled
pub free-is : (R : Log) (r : ObjId) (o : Option ObjId) → user_of R r ≡ o → free r R ≡ with_any o (λ x. cancel x Inactive) R
unfolding free
free-is R r o is = ap (λ o. with_any o (λ x. cancel x Inactive) R) is

-- who is in no queue is not the receiver that is cancelled
other : (R : Log) (t x e : ObjId) → queue_of R t ≡ None → queue_of R x ≡ Some (Receivers e) → t ≢ x
other R t x e none stands is = let no : None ≡ Some (Receivers e) = sym none ∙ ap (λ u. queue_of R u) is ∙ stands in absurd cc

-- after it is freed, a receive is ready
module _ (R : Log) (t d r : ObjId) (sound : Sound R) (b : IsReceiving R t d (Some r)) where
  -- a receiver was cancelled
  receiver-freed : (x e : ObjId) → owed_by R r ≡ None → receiver_with R r ≡ Some x → queue_of R x ≡ Some (Receivers e) → IsReady (rec.Turns x Inactive ∷ rec.Parts x (Receivers e) ∷ R) t d (Some r)
  receiver-freed x e unowed found stands =
      let apart : same t x ≡ false = same-other t x (other R t x e b.acting.idle.0 stands) in
      record {
        acting = record { there = b.acting.there; idle = (rw apart b.acting.idle.0, b.acting.idle.1); runs = rw apart b.acting.runs };
        stand = λ y c m still. standing y c (b.stand y c m (record { sent = still.sent; is_letter = still.is_letter; is_open = still.is_open; of_sender = still.of_sender; on_endpoint = still.on_endpoint })) (same y x) refl;
        endpoint = b.endpoint;
        reply = (b.reply, (unowed, unattended-parted R r x e Inactive sound found stands));
      }
    where
      standing : (y c : ObjId) → queue_of R y ≡ Some (Senders c) → (v : Bool) → same y x ≡ v → unwrap_or (given v None) (queue_of R y) ≡ Some (Senders c)
      standing y c h true is = let no : Some (Senders c) ≡ Some (Receivers e) = sym h ∙ ap (λ u. queue_of R u) (same-equal y x is) ∙ stands in absurd cc
      standing y c h false is = h

  -- a caller was
  caller-freed : (x : ObjId) → owed_by R r ≡ Some x → IsReady (rec.Turns x Inactive ∷ rec.Void r x Cancelled ∷ R) t d (Some r)
  caller-freed x owed =
      let apart : same t x ≡ false = same-other t x (λ is. b.acting.idle.1 r (owed ∙ ap (λ z. Some z) (sym is))) in
      record {
        acting = record {
          there = b.acting.there;
          idle = (b.acting.idle.0, λ q o. elim (set-split q r None (owed_by R q) (Some t) o) [ inl (who, is) ↦ absurd cc | inr (else, is) ↦ b.acting.idle.1 q is ]);
          runs = rw apart b.acting.runs;
        };
        stand = λ y c m still. b.stand y c m (record { sent = still.sent; is_letter = still.is_letter; is_open = still.is_open; of_sender = still.of_sender; on_endpoint = still.on_endpoint });
        endpoint = b.endpoint;
        reply = (b.reply, (set-self r None (owed_by R r), owed-unattended R r x sound owed));
      }

  -- or no thread
  free-ready : IsReady (onto (free r R) R) t d (Some r)
  free-ready = go (owed_by R r) refl (receiver_with R r) refl
    where
      go : (o : Option ObjId) → owed_by R r ≡ o → (w : Option ObjId) → receiver_with R r ≡ w → IsReady (onto (free r R) R) t d (Some r)
      go (Some x) owed w is = rw (free-caller R r x sound owed) (caller-freed x owed)
      go None unowed None none = rw (free-nobody R r unowed none) (record {
        acting = b.acting;
        stand = b.stand;
        endpoint = b.endpoint;
        reply = (b.reply, (unowed, unattended-none R r sound none));
      })
      go None unowed (Some x) found =
          let (e, stands) = (receiver_with-named R r x found).0 in
          rw (free-receiver R r x (Receivers e) unowed found stands) (receiver-freed x e unowed found stands)

pub freed-ready : (R : Log) (t d : ObjId) (r : Option ObjId) → Sound R → IsReceiving R t d r → IsReady (onto (with_any r free R) R) t d r
freed-ready R t d None sound b = record { acting = b.acting; stand = b.stand; endpoint = b.endpoint; reply = tt }
freed-ready R t d (Some r) sound b = free-ready R t d r sound b

-- a receive where a word is pending
pub receive-hears : (R : Log) (b : Bool) (t e : ObjId) (r : Option ObjId) (word : ℕ) → pending_of_any R (bound_of R t) ≡ Some word
    → receive_message t e r b R ≡ record { answer = Heard word; records = takes_bound t R }
unfolding receive_message hear takes_bound
receive-hears R b t e r word is = go (bound_of R t) refl is
  where
    rest : Act
    rest = take_open t r (open_of_any R (first_in R (Senders e))) (joins_or b (stand t (Receivers e) r (bound_of R t)))

    go : (n : Option ObjId) → bound_of R t ≡ n → pending_of_any R n ≡ Some word
        → hear t (bound_of R t) (pending_of_any R (bound_of R t)) rest R ≡ record { answer = Heard word; records = word_heard t (bound_of R t) (pending_of_any R (bound_of R t)) }
    go None bound h = absurd cc
    go (Some n) bound h = rw (bound, h) refl

-- one where none is
pub receive-silent : (R : Log) (b : Bool) (t e : ObjId) (r : Option ObjId) → pending_of_any R (bound_of R t) ≡ None → receive_message t e r b R ≡ take_act b t e r R
unfolding receive_message hear take_act
receive-silent R b t e r none = go (bound_of R t) (pending_of_any R (bound_of R t)) none
  where
    rest : Act
    rest = take_open t r (open_of_any R (first_in R (Senders e))) (joins_or b (stand t (Receivers e) r (bound_of R t)))

    go : (n : Option ObjId) (o : Option ℕ) → o ≡ None → hear t n o rest R ≡ rest R
    go None o is = refl
    go (Some n) None is = refl
    go (Some n) (Some word) is = absurd cc

-- room for a receive is room for the word
pub room-word : (n : Now) (b : Bool) (t e : ObjId) (r : Option ObjId) → FitsAct (receive_message t e r b) n → HasRoomFor (takes_bound t) n
room-word n b t e r room = go (pending_of_any (so_far n) (bound_of (so_far n) t)) refl
  where
    go : (o : Option ℕ) → pending_of_any (so_far n) (bound_of (so_far n) t) ≡ o → HasRoomFor (takes_bound t) n
    go (Some word) is = subst (λ (o : Outcome). Holds o.records n) (receive-hears (so_far n) b t e r word is) room
    go None is = subst (λ made. Holds made n) (sym (bound-silent (so_far n) t is)) (omega (arith, room))

-- what was made where none is pending
pub made-silent : (n m : Now) (t : ObjId) → pending_of_any (so_far n) (bound_of (so_far n) t) ≡ None → Makes (takes_bound t) n m → m ≡ n
made-silent n m t none made = made ∙ ap (λ (more : List Rec). adds_all more n) (bound-silent (so_far n) t none)

-- a taking where no thread sends
pub take-alone : (R : Log) (b : Bool) (t e : ObjId) (r : Option ObjId) → open_of_any R (first_in R (Senders e)) ≡ None → take_act b t e r R ≡ stand_act R b t e r R
unfolding take_act take_open
take-alone R b t e r none = rw none refl

-- it waits, or nothing is there
pub joins-waits : (R : Log) (stands : Piece) → joins_or true stands R ≡ record { answer = Waits; records = stands R }
unfolding joins_or
joins-waits R stands = refl

pub joins-empty : (R : Log) (stands : Piece) → joins_or false stands R ≡ record { answer = Empty; records = [] }
unfolding joins_or
joins-empty R stands = refl

-- a taking where somebody sends
pub take-takes : (R : Log) (b : Bool) (t e : ObjId) (r : Option ObjId) (x : ObjId) (s : Letter) → OpenStand R → first_in R (Senders e) ≡ Some x → open_of R x ≡ Some s
    → take_act b t e r R ≡ answers (Got s.badge s.message) (taken_by (record { number = s.number; sender = x; endpoint = e; mode = s.mode }) t r) R
unfolding take_act take_open taken taken_by ◌then◌
take-takes R b t e r x s stand first is =
    let o = open_of-open R x s is in
    let own : s.sender ≡ x = same-equal s.sender x o.0 in
    let there : letter R s.number ≡ Some s = open_of-letter R x s is in
    let of_it : IsOpenOf R x s.endpoint s.number = record { sent = s; is_letter = there; is_open = o.1; of_sender = own; on_endpoint = refl } in
    let two : Some (Senders s.endpoint) ≡ Some (Senders e) = sym (stand x s.endpoint s.number of_it) ∙ first-stands R (Senders e) x first in
    let place : s.endpoint ≡ e = cc in
    rw (first, is, own, place) refl
