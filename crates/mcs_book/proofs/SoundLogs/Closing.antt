-- A thread that is closed is in no queue and is owed nothing: it is cancelled first.
use Rattle.std.specs.Prelude.{Bool, true, false, cond, ◌==◌, ◌≡◌, ◌≢◌, List, [], ◌∷◌, Option, Some, None, refl, unwrap_or}
use Rattle.std.proofs.Common.{sym, ◌∙◌, ap}
use Rattle.mcs_types.specs.declared.record.Letter.{Letter}
use Rattle.mcs_types.specs.declared.id.ObjId.{ObjId}
use Rattle.mcs_types.specs.declared.id.Kind.{Kind}
use Rattle.mcs_types.specs.declared.id.Kind.TheVariants as kind
use Rattle.mcs_types.specs.declared.record.Mode.{Mode}
use Rattle.mcs_types.specs.declared.record.Mode.TheVariants.{Inactive}
use Rattle.mcs_types.specs.declared.record.Ending.TheVariants.{Cancelled}
use Rattle.mcs_types.specs.declared.record.Queue.{Queue}
use Rattle.mcs_types.specs.declared.record.Queue.TheVariants.{Senders, Receivers, Waiters}
use Rattle.mcs_types.specs.declared.record.Rec.{Rec}
use Rattle.mcs_types.specs.declared.record.Rec.TheVariants as rec
use Rattle.mcs_types.specs.declared.entry.Answer.{Answer}
use Rattle.mcs_types.specs.declared.entry.Step.{Step}
use Rattle.mcs_types.specs.Ids.{same}
use Rattle.mcs_book.specs.Logs.{Log, onto, given}
use Rattle.mcs_book.specs.Messages.{open_of}
use Rattle.mcs_book.specs.Queues.{queue_of}
use Rattle.mcs_book.specs.Slots.{count_of}
use Rattle.mcs_book.specs.Contexts.{context_of}
use Rattle.mcs_book.specs.Replies.{owing, owed_by}
use Rattle.mcs_book.specs.Notifications.{bound_of}
use Rattle.mcs_book.specs.Pieces.{Piece, ◌then◌, nothing, say, with_any}
use Rattle.mcs_book.specs.Cancelling.{drop_message, leave, cancel, untie_from, let_go, release, destroy}
use Rattle.mcs_book.specs.Placing.{destroy_last}
use Rattle.mcs_types.proofs.Ids.{same-self}
use Rattle.mcs_book.proofs.SoundLogs.Keeping.{Keeps, then-at, then-next}
use Rattle.mcs_book.specs.Each.{Each}
use Rattle.mcs_book.specs.Sound.{IsOwedNothing}
use Rattle.mcs_book.proofs.SoundLogs.Safety.{Safe, none-plains, owed-plains, parted-none, IsStanding, safe-standing, safe-one_debt, safe-owing_none, owing-owes}
use Rattle.mcs_book.proofs.SoundLogs.Making.{is_plain, Plain, makes-say, makes-any, plain-release}
use Rattle.mcs_book.proofs.WholeMessages.Records.{each-append, AreWhole, plain-all}

-- x is in no queue and is owed nothing
abbrev IsLoose : ObjId → Log → Type 0
IsLoose x R = (queue_of R x ≡ None) × IsOwedNothing R x

-- so it is after a plain piece
loose-plain : (x : ObjId) (q : Piece) → Plain q → Keeps (IsLoose x) q
loose-plain x q h S k = (none-plains S x (q S) (h.passes S) k.0, owed-plains S x (q S) (h.passes S) k.1)

-- and after a plain piece that follows another
loose-then : (R : Log) (x : ObjId) (p q : Piece) → Plain q → IsLoose x (onto (p R) R) → IsLoose x (onto ((p then q) R) R)
loose-then R x p q h k = then-at (IsLoose x) p q R k (loose-plain x q h)

-- who leaves its queue is loose
parted-loose : (R : Log) (x : ObjId) (q : Queue) → IsOwedNothing R x → IsLoose x (rec.Parts x q ∷ R)
parted-loose R x q h = (parted-none R x q, h)

-- who is owed by one reply object is owed nothing once that is void
void-loose : (R : Log) (x r : ObjId) → Each Safe R → queue_of R x ≡ None → owed_by R r ≡ Some x → IsLoose x (rec.Void r x Cancelled ∷ R)
void-loose R x r safe none owed = (none, λ o. go o (same o r) refl)
  where
    go : (o : ObjId) (b : Bool) → same o r ≡ b → unwrap_or (given b None) (owed_by R o) ≢ Some x
    go o true e is = absurd cc
    go o false e is = let clash : true ≡ false = sym (same-self r) ∙ ap (λ z. same z r) (safe-one_debt R r o x safe owed is) ∙ e in absurd cc

-- who leaves what it is blocked on is loose
left-loose : (R : Log) (x : ObjId) (q : Option Queue) → Each Safe R → queue_of R x ≡ q → IsLoose x (onto (leave R x q R) R)
left-loose R x (Some (Senders e)) safe at =
    let there : IsStanding R x = safe-standing R x (Senders e) safe at in
    then-next (IsLoose x) (drop_message (open_of R x)) (say (rec.Parts x (Senders e))) R (dropped (open_of R x) there.owed_nothing)
  where
    dropped : (o : Option Letter) → IsOwedNothing R x → IsLoose x (rec.Parts x (Senders e) ∷ onto (drop_message o R) R)
    dropped (Some s) h = parted-loose (rec.Dropped s.number ∷ R) x (Senders e) h
    dropped None h = parted-loose R x (Senders e) h
left-loose R x (Some (Receivers e)) safe at = parted-loose R x (Receivers e) (safe-standing R x (Receivers e) safe at).owed_nothing
left-loose R x (Some (Waiters n)) safe at = parted-loose R x (Waiters n) (safe-standing R x (Waiters n) safe at).owed_nothing
left-loose R x None safe at = go (owing R x) refl
  where
    go : (o : Option ObjId) → owing R x ≡ o → IsLoose x (onto (with_any o (λ r. say (rec.Void r x Cancelled)) R) R)
    go None is = (at, safe-owing_none R x safe is)
    go (Some r) is = void-loose R x r safe at (owing-owes R x r is)

-- who is cancelled is loose
pub cancelled-loose : (R : Log) (x : ObjId) (mode : Mode) → Each Safe R → IsLoose x (onto (cancel x mode R) R)
unfolding cancel
cancelled-loose R x mode safe = loose-then R x (leave R x (queue_of R x)) (say (rec.Turns x mode)) (makes-say is_plain (rec.Turns x mode) refl) (left-loose R x (queue_of R x) safe refl)

-- so is a thread with which no thread is left
released-loose : (R : Log) (o : ObjId) (k : Kind) → Each Safe R → k ≡ kind.Thread → IsLoose o (onto (release R o k R) R)
released-loose R o kind.Thread safe e =
    loose-then R o (cancel o Inactive then untie_from (bound_of R o) o) (let_go (context_of R o)) (makes-any is_plain (context_of R o) _ (λ s. makes-say is_plain _ refl))
    (loose-then R o (cancel o Inactive) (untie_from (bound_of R o) o) (makes-any is_plain (bound_of R o) _ (λ n. makes-say is_plain _ refl)) (cancelled-loose R o Inactive safe))
released-loose R o kind.CNode safe e = absurd cc
released-loose R o kind.Endpoint safe e = absurd cc
released-loose R o kind.Notification safe e = absurd cc
released-loose R o kind.Reply safe e = absurd cc
released-loose R o kind.Context safe e = absurd cc

-- the end of an object is whole, and safe
destroy-whole : (R after : Log) (s : Step) (a : Answer) (S : Log) (o : ObjId) → Each Safe S → AreWhole R after s a S (destroy o S)
unfolding destroy ◌then◌
destroy-whole R after s a S o safe =
    let made : List Rec = release S o o.kind S in
    each-append _ S made (rec.Closed o ∷ []) (plain-all R after s a S made ((plain-release S o o.kind).passes S)) ((tt, tt, tt, λ thread. released-loose S o o.kind safe thread, tt, λ sound. tt), tt)

-- so where it ends with its last capability
pub destroy_last-whole : (R after : Log) (s : Step) (a : Answer) (S : Log) (o : ObjId) → Each Safe S → AreWhole R after s a S (destroy_last o S)
unfolding destroy_last
destroy_last-whole R after s a S o safe = go (count_of S o == 0)
  where
    go : (b : Bool) → AreWhole R after s a S (cond b (destroy o) nothing S)
    go true = destroy-whole R after s a S o safe
    go false = tt
