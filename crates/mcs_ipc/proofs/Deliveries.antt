-- Messages that are taken: what is recorded, and what holds between.
use Rattle.std.specs.Prelude.{ℕ, ◌≡◌, ◌≢◌, ◌<◌, ◌+◌, length, Bool, true, List, [], ◌∷◌, Option, Some, None, IsTrue}
use Rattle.std.specs.Option.{IfSome}
use Rattle.std.proofs.Common.{refl, ap, sym, ◌∙◌, subst, arith}
use Rattle.mcs_types.specs.declared.id.ObjId.{ObjId}
use Rattle.mcs_types.specs.declared.id.Badge.{Badge}
use Rattle.mcs_types.specs.Views.{Content}
use Rattle.mcs_types.specs.declared.id.Kind.TheVariants as kind
use Rattle.mcs_types.specs.declared.record.Letter.{Letter}
use Rattle.mcs_types.specs.declared.record.Mode.TheVariants.{Running}
use Rattle.mcs_types.specs.declared.record.Queue.TheVariants.{Senders, Receivers}
use Rattle.mcs_types.specs.declared.record.Rec.{Rec}
use Rattle.mcs_types.specs.declared.record.Rec.TheVariants as rec
use Rattle.mcs_types.specs.declared.record.SendMode.{SendMode}
use Rattle.mcs_book.specs.Logs.{Log, onto}
use Rattle.mcs_book.specs.Queues.{queue_of, reply_with, first_in}
use Rattle.mcs_book.specs.Messages.{is_open, open_of, next_message}
use Rattle.mcs_book.specs.Contexts.{context_of}
use Rattle.mcs_book.specs.Pieces.{Piece, ◌then◌, answers, nothing, say}
use Rattle.mcs_book.specs.Sending.{sends, sends_to}
use Rattle.mcs_book.specs.Taking.{handed}
use Rattle.mcs_book.specs.Taking.{debt, owe, settle}
use Rattle.mcs_book.specs.Sound.{Sound, Allowed, IsThere, IsIdle, IsFreeReply}
use Rattle.mcs_book.proofs.Queues.NoneBeside.{left-queue}
use Rattle.mcs_book.proofs.Messages.MessageLaws.{open_of-open}
use Rattle.mcs_book.proofs.SoundLogs.KeptLaws.{set-other, standing-thread, reply-there, held-there}
use Rattle.mcs_book.proofs.Firm.Laws.{context-none}
use Rattle.mcs_book.proofs.Threads.HoldingLaws.{context_of-holder}
use Rattle.mcs_book.proofs.Threads.UserLaws.{one_user}
use Rattle.mcs_book.proofs.Firm.Cancel.{parted-idle}
use Rattle.mcs_book.proofs.Firm.Taking.{settle-ready}
use Rattle.mcs_state.specs.Now.{Now, so_far, adds, IsNumberOf}
use Rattle.mcs_state.specs.Doing.{Makes, HasRoomFor}
use Rattle.mcs_ipc.specs.Ready.{IsReady, IsSettling, IsCalling}
use Rattle.mcs_ipc.specs.Rows.{lent_of, lent, resumes, taken_by, answer_to, send_act}
use Rattle.mcs_ipc.specs.declared.transfer.Delivery.{Delivery}

-- a message of this number is open
pub numbered-open : (R : Log) (x : ObjId) (n : ℕ) → IsNumberOf n (open_of R x) → IsTrue (is_open R n)
numbered-open R x n h = go (open_of R x) refl h
  where
    go : (o : Option Letter) → open_of R x ≡ o → IsNumberOf n o → IsTrue (is_open R n)
    go (Some s) is e = subst (λ m. IsTrue (is_open R m)) e ((open_of-open R x s is).1)
    go None is e = absurd e

-- a context that is lent, if there is one, is held by the receiver
abbrev pub given_to : ObjId → Option ObjId → List Rec
given_to p None = []
given_to p (Some s) = rec.Holds s (Some p) ∷ []

-- what a debt records
pub owe-is : (R : Log) (r x p : ObjId) (context : Option ObjId) → context ≡ lent R x p → owe r x p R ≡ rec.Owes r x context ∷ given_to p context
unfolding owe
owe-is R r x p context is = go (context_of R p) (context_of R x) ∙ ap (λ o. rec.Owes r x o ∷ given_to p o) (sym is)
  where
    go : (c d : Option ObjId) → debt r x p c d ≡ rec.Owes r x (lent_of c d) ∷ given_to p (lent_of c d)
    go None None = refl
    go None (Some s) = refl
    go (Some s) None = refl
    go (Some s) (Some c) = refl

-- a context that is lent is the caller's, and the receiver holds none
lent-is : (R : Log) (x p s : ObjId) → Some s ≡ lent R x p → (context_of R p ≡ None) × (context_of R x ≡ Some s)
lent-is R x p s is = go (context_of R p) (context_of R x) is
  where
    go : (c d : Option ObjId) → Some s ≡ lent_of c d → (c ≡ None) × (d ≡ Some s)
    go None d h = (refl, sym h)
    go (Some c) d h = absurd cc

-- the debt is allowed
pub may-owe : (R : Log) (r x p : ObjId) (context : Option ObjId) → IsCalling R r x p → context ≡ lent R x p → Allowed R (rec.Owes r x context)
may-owe R r x p None c is = (c.reply, c.free, c.caller, c.idle, tt)
may-owe R r x p (Some s) c is = (c.reply, c.free, c.caller, c.idle, context_of-holder R x s ((lent-is R x p s is).1))

-- and the context may then be given
pub may-give : (R : Log) (r x p s : ObjId) (context : Option ObjId) → IsCalling R r x p → Sound R → context ≡ lent R x p → context ≡ Some s → Allowed (rec.Owes r x context ∷ R) (rec.Holds s (Some p))
may-give R r x p s context c sound is some =
    let own = lent-is R x p s (sym some ∙ is) in
    ((held-there R s x sound (context_of-holder R x s own.1)).0, c.receiver, context-none R p sound own.0)

-- a call that is settled with a reply object
pub settles-call : (R : Log) (x p r : ObjId) → IsSettling R x p (Some r) → IsCalling R r x p
settles-call R x p r s = record { caller = s.sender; idle = s.idle; receiver = s.receiver; reply = s.reply.0; free = s.reply.1 }

-- who has sent is not who is in a queue
other : (R : Log) (x p e : ObjId) → IsIdle R x → queue_of R p ≡ Some (Receivers e) → x ≢ p
other R x p e idle at is = let no : None ≡ Some (Receivers e) = sym idle.0 ∙ ap (λ z. queue_of R z) is ∙ at in absurd cc

-- a receiver that is in a queue takes a message
module _ (R : Log) (number : ℕ) (x p e : ObjId) (sound : Sound R) (there : IsThere R kind.Thread x) (idle : IsIdle R x) (at : queue_of R p ≡ Some (Receivers e)) where
  -- the log, once it has left its queue
  abbrev left : Log
  left = rec.Parts p (Receivers e) ∷ rec.Took number p ∷ R

  -- the reply object with which it was is free then
  free : (r : Option ObjId) → r ≡ reply_with R p → IfSome r (λ d. IsThere left kind.Reply d × IsFreeReply left d)
  free None is = tt
  free (Some d) is =
      let f = reply-there R p e d sound at (sym is) in
      (f.0, (f.1, λ y c at' with'. let (ne, still) = left-queue R p y (Receivers e) (Receivers c) at' in ne (one_user R y p c e d sound still with' at (sym is))))

  -- the sender is settled then
  pub hand-settles : (r : Option ObjId) → r ≡ reply_with R p → IsSettling left x p r
  hand-settles r is = record {
    sender = there;
    idle = (set-other x p None (queue_of R x) (other R x p e idle at) ∙ idle.0, idle.1);
    receiver = standing-thread R p (Receivers e) sound at;
    reply = free r is;
  }

  -- and then the receiver runs
  pub hand-runs : (mode : SendMode) (r : Option ObjId) → Allowed (onto (settle mode x p r nothing left) left) (rec.Turns p Running)
  hand-runs mode r =
      let ready = settle-ready mode x p r left (other R x p e idle at) (record { there = standing-thread R p (Receivers e) sound at; idle = parted-idle R p (Receivers e) sound at }) in
      (ready.there, ready.idle)

-- a message of x that p takes at once, by which it leaves its queue
unfoldable pub accepted : Log → SendMode → ObjId → ObjId → Badge → Content → ObjId → Piece
accepted R mode x e badge message p = say (rec.Sent x e mode badge message) then say (rec.Took (next_message R) p)

-- what a send records where somebody receives
pub send-hands : (R : Log) (b : Bool) (mode : SendMode) (x e : ObjId) (badge : Badge) (message : Content) (p : ObjId) (r : Option ObjId) → first_in R (Receivers e) ≡ Some p → r ≡ reply_with R p
    → send_act b mode x e badge message R ≡ answers (answer_to mode) (accepted R mode x e badge message p then say (rec.Parts p (Receivers e)) then settle mode x p r nothing then say (rec.Turns p Running)) R
unfolding send_act sends sends_to handed accepted ◌then◌
send-hands R b mode x e badge message p r first is = rw (first, is) refl

-- both records were made
pub accepted-made : (n m : Now) (mode : SendMode) (x e : ObjId) (badge : Badge) (message : Content) (p : ObjId)
    → m ≡ adds (rec.Took (next_message (so_far n)) p) (adds (rec.Sent x e mode badge message) n) → Makes (accepted (so_far n) mode x e badge message p) n m
unfolding accepted ◌then◌
accepted-made n m mode x e badge message p made = made

-- and there was room for them
pub accepted-room : (n : Now) (mode : SendMode) (x e : ObjId) (badge : Badge) (message : Content) (p : ObjId) → HasRoomFor (accepted (so_far n) mode x e badge message p) n → length n.hand + 2 < n.room
unfolding accepted ◌then◌
accepted-room n mode x e badge message p room = omega (arith, room)

-- what a taking records
pub take-is : (d : Delivery) (t : ObjId) (r : Option ObjId) (R : Log)
    → taken_by d t r R ≡ (say (rec.Took d.number t) then say (rec.Parts d.sender (Senders d.endpoint)) then settle d.mode d.sender t r (resumes true d.sender)) R
unfolding taken_by
take-is d t r R = refl

-- the sender of a message that is taken from its queue is settled
pub take-settles : (R : Log) (number : ℕ) (x t e : ObjId) (r : Option ObjId) → Sound R → IsReady R t e r → queue_of R x ≡ Some (Senders e) → IsSettling (rec.Parts x (Senders e) ∷ rec.Took number t ∷ R) x t r
take-settles R number x t e r sound ready at = record {
  sender = standing-thread R x (Senders e) sound at;
  idle = parted-idle R x (Senders e) sound at;
  receiver = ready.acting.there;
  reply = free r ready.reply;
}
  where
    S : Log
    S = rec.Parts x (Senders e) ∷ rec.Took number t ∷ R

    free : (o : Option ObjId) → IfSome o (λ d. IsThere R kind.Reply d × IsFreeReply R d) → IfSome o (λ d. IsThere S kind.Reply d × IsFreeReply S d)
    free None h = tt
    free (Some d) h = (h.0, (h.1.0, λ y c at' with'. h.1.1 y c ((left-queue R x y (Senders e) (Receivers c) at').1) with'))
