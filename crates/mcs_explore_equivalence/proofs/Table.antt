-- Each entry has the same row on alike logs, and an act that makes the same records.
use Rattle.std.specs.Prelude.{ℕ, ◌≡◌, ◌&&◌, ◌||◌, ◌==◌, ◌+◌, Bool, true, false, cond, not, nat_le, nat_lt, filter, is_none, is_some, List, [], ◌∷◌, Option, Some, None, Ok, Err, option_and_then, option_map, unwrap_or}
use Rattle.std.proofs.Common.{refl, ap, sym, ◌∙◌}
use Rattle.mcs_types.specs.Views.{Content}
use Rattle.mcs_types.specs.Limits.{object_limit}
use Rattle.mcs_types.specs.declared.id.ObjId.{ObjId}
use Rattle.mcs_types.specs.declared.id.CoreId.{CoreId}
use Rattle.mcs_types.specs.declared.id.Kind.{Kind}
use Rattle.mcs_types.specs.declared.id.Kind.TheVariants as kind
use Rattle.mcs_types.specs.declared.cap.Cap.{Cap}
use Rattle.mcs_types.specs.declared.cap.Place.{Place}
use Rattle.mcs_types.specs.declared.record.Form.{Form}
use Rattle.mcs_types.specs.declared.record.Form.TheVariants as form
use Rattle.mcs_types.specs.declared.record.Letter.{Letter}
use Rattle.mcs_types.specs.declared.record.Mode.TheVariants.{Restart}
use Rattle.mcs_types.specs.declared.record.SendMode.TheVariants as how
use Rattle.mcs_types.specs.declared.record.Queue.TheVariants.{Senders, Waiters}
use Rattle.mcs_types.specs.declared.record.Rec.TheVariants as rec
use Rattle.mcs_types.specs.declared.entry.Answer.TheVariants as answer
use Rattle.mcs_types.specs.declared.entry.Entry.{Entry}
use Rattle.mcs_types.specs.declared.entry.Entry.TheVariants as entry
use Rattle.mcs_types.specs.declared.entry.Refusal.{Refusal}
use Rattle.mcs_types.specs.declared.entry.Refusal.TheVariants.{WrongKind, NoRight, Range, AlreadyBound, NotBound, LastCNode, SlotFull, SlotEmpty, NoRoom, Missing}
use Rattle.mcs_book.specs.Logs.{Log, counted}
use Rattle.mcs_book.specs.Objects.{is_alive, number_of, next_id, made_of}
use Rattle.mcs_book.specs.Slots.{SlotName, slot}
use Rattle.mcs_book.specs.Threads.{maximum_kept, root_of, root_kept}
use Rattle.mcs_book.specs.Queues.{queued_in}
use Rattle.mcs_book.specs.Messages.{open_of}
use Rattle.mcs_book.specs.Statuses.{is_ready}
use Rattle.mcs_book.specs.Checks.{Checked, ◌>>=◌, ◌>>◌, need, needed}
use Rattle.mcs_book.specs.Lookup.{Space, space_of, is_depth, slot_from, capability, slot_named, of_kind}
use Rattle.mcs_book.specs.Rights.{is_kind, has_right, may_read, can_badge}
use Rattle.mcs_book.specs.Pieces.{◌then◌, nothing, say, Act, answers}
use Rattle.mcs_book.specs.Contexts.{context_of, holder_of, home_of, homed_at}
use Rattle.mcs_book.specs.Chains.{is_unlent}
use Rattle.mcs_book.specs.Cancelling.{cancel, cancel_all, unbind}
use Rattle.mcs_book.specs.Sending.{letter_over, queues, send_over}
use Rattle.mcs_book.specs.Receiving.{receive_on, wait_on, bound_elsewhere, may_wait, receive_by, receive_over, reply_at, reply_receive, send_receive}
use Rattle.mcs_book.specs.Placing.{source_and_dest, fills, is_last_cnode, delete, make, has_badge, senders_with}
use Rattle.mcs_book.specs.Binding.{is_loose, bind_by}
use Rattle.mcs_book.specs.Table.{row}
use Rattle.mcs_book.specs.Sound.{IsThere}
use Rattle.mcs_state.proofs.Named.{object-is, kinded-ok, found-alive}
use Rattle.mcs_explore_equivalence.specs.ButNumbers.{unnumbered, AlikeButNumbers}
use Rattle.mcs_explore_equivalence.proofs.Asking.{alive-same, queued-same, first-same, open-same, context-same, tied-same, homed-same, unlent-same, status-same, space-same, capability-same}
use Rattle.mcs_explore_equivalence.proofs.Acting.{RespectsAct}
use Rattle.mcs_explore_equivalence.proofs.Rows.{Good, GoodAs}

-- checks that give the same, and others that use it
bind-same : {A B : Type 0} (m m' : Checked A) (f g : A → Checked B) → m ≡ m' → ((x : A) → m ≡ Ok x → f x ≡ g x) → (m >>= f) ≡ (m' >>= g)
unfolding ◌>>=◌
bind-same m m' f g e h = go m refl ∙ ap (λ n. n >>= g) e
  where
    go : (n : Checked _) → m ≡ n → (n >>= f) ≡ (n >>= g)
    go (Err why) i = refl
    go (Ok x) i = h x i

-- an act after checks
pub bind-as : {A : Type 0} (P : Act → Type 0) (m : Checked A) (f : A → Checked Act) → ((x : A) → m ≡ Ok x → GoodAs P (f x)) → GoodAs P (m >>= f)
unfolding ◌>>=◌
bind-as P (Err why) f h = tt
bind-as P (Ok x) f h = h x refl

pub bind-good : {A : Type 0} (C : Log → Type 0) (m : Checked A) (f : A → Checked Act) → ((x : A) → m ≡ Ok x → Good C (f x)) → Good C (m >>= f)
bind-good C m f h = bind-as (RespectsAct C) m f h

pub need-as : (P : Act → Type 0) (b : Bool) (why : Refusal) (m : Checked Act) → GoodAs P m → GoodAs P (need b why >> m)
unfolding ◌>>◌ need
need-as P true why m h = h
need-as P false why m h = tt

pub need-good : (C : Log → Type 0) (b : Bool) (why : Refusal) (m : Checked Act) → Good C m → Good C (need b why >> m)
need-good C b why m h = need-as (RespectsAct C) b why m h

module _ (R S : Log) (a : AlikeButNumbers R S) (t : ObjId) (there : IsThere R kind.Thread t) where
  cap-same : (address : ℕ) → capability R t address ≡ capability S t address
  cap-same address = capability-same R S a t address there.1

kind-same : (R S : Log) (a : AlikeButNumbers R S) (t : ObjId) (there : IsThere R kind.Thread t) (k : Kind) (address : ℕ) → of_kind R t k address ≡ of_kind S t k address
unfolding of_kind
kind-same R S a t there k address = ap (λ m. m >>= λ cap. need (is_kind k cap) WrongKind >> Ok cap) (cap-same R S a t there address)

reply_at-same : (R S : Log) (a : AlikeButNumbers R S) (t : ObjId) (there : IsThere R kind.Thread t) (address : ℕ) → reply_at R t address ≡ reply_at S t address
unfolding reply_at
reply_at-same R S a t there address = ap (λ m. m >>= λ cap. Ok (Some cap.obj)) (kind-same R S a t there kind.Reply address)

slot_named-same : (R S : Log) (a : AlikeButNumbers R S) (t : ObjId) (there : IsThere R kind.Thread t) (place : Place) → slot_named R t place ≡ slot_named S t place
unfolding slot_named
slot_named-same R S a t there place =
    ap (λ f. need (is_depth place.depth) Range >> (needed (option_and_then root_kept f) Missing >>= λ root. slot_from (space_of R) root place)) (a.forms t there.1)
    ∙ ap (λ (X : Space). need (is_depth place.depth) Range >> (needed (root_of S t) Missing >>= λ root. slot_from X root place)) (space-same R S a)

places-same : (R S : Log) (a : AlikeButNumbers R S) (t : ObjId) (there : IsThere R kind.Thread t) (source dest : Place) → source_and_dest R t source dest ≡ source_and_dest S t source dest
unfolding source_and_dest
places-same R S a t there source dest =
    bind-same _ _ _ _ (slot_named-same R S a t there source) (λ from i. bind-same _ _ _ _ (slot_named-same R S a t there dest) (λ to j. bind-same _ _ _ _ (ap (λ o. needed o SlotEmpty) (a.slots from.cnode from.index)) (λ cap k.
    ap (λ o. need (is_none o) SlotFull >> Ok (record { cap = cap; source = from; dest = to })) (a.slots to.cnode to.index))))

over-same : (R S : Log) (a : AlikeButNumbers R S) (t : ObjId) (cap : Cap) (r r' : Checked (Option ObjId)) (b : Bool) → r ≡ r' → receive_over R t cap r b ≡ receive_over S t cap r' b
unfolding receive_over receive_by may_wait
over-same R S a t cap r r' b e = go cap.obj.kind
  where
    go : (k : Kind) → receive_by k R t cap r b ≡ receive_by k S t cap r' b
    go kind.Endpoint = ap (λ m. need (may_read cap) NoRight >> (m >>= λ r. Ok (receive_on t cap.obj r b))) e
    go kind.Notification = ap (λ o. need (may_read cap) NoRight >> (need (not (bound_elsewhere o t)) AlreadyBound >> Ok (wait_on t cap.obj b))) (tied-same R S a cap.obj)
    go kind.CNode = refl
    go kind.Thread = refl
    go kind.Reply = refl
    go kind.Context = refl

reply_receive-same : (R S : Log) (a : AlikeButNumbers R S) (t : ObjId) (there : IsThere R kind.Thread t) (cap : Cap) (r : ℕ) (message : Content) → reply_receive R t cap r message ≡ reply_receive S t cap r message
unfolding reply_receive
reply_receive-same R S a t there cap r message =
    ap (λ m. need (can_badge cap) WrongKind >> (need (may_read cap) NoRight >> m)) (bind-same _ _ _ _ (reply_at-same R S a t there r) (λ o i. bind-same _ _ _ _ (over-same R S a t cap (Ok o) (Ok o) true refl) (λ act j. refl)))

-- a thread that sends and then receives: all checks come first
exchange-same : (R S : Log) (a : AlikeButNumbers R S) (t : ObjId) (there : IsThere R kind.Thread t) (address source : ℕ) (message : Content) (r r' : Checked (Option ObjId)) → r ≡ r'
    → send_receive R t (capability R t address >>= λ cap. send_over how.Give t cap message (answers answer.Done nothing)) source r ≡ send_receive S t (capability S t address >>= λ cap. send_over how.Give t cap message (answers answer.Done nothing)) source r'
unfolding send_receive
exchange-same R S a t there address source message r r' e =
    bind-same _ _ _ _ (ap (λ m. m >>= λ cap. send_over how.Give t cap message (answers answer.Done nothing)) (cap-same R S a t there address)) (λ send i. bind-same _ _ _ _ (cap-same R S a t there source) (λ c j. bind-same _ _ _ _ (over-same R S a t c r r' true e) (λ act k. refl)))

-- a context that may be bound
loose-same : (R S : Log) (a : AlikeButNumbers R S) (s : ObjId) → is_loose R s ≡ is_loose S s
loose-same R S a s = ap (λ h. is_none h && is_none (home_of R s) && is_unlent R s) (a.holders s) ∙ ap (λ h. is_none (holder_of S s) && is_none h && is_unlent R s) (a.homes s) ∙ ap (λ b. is_none (holder_of S s) && is_none (home_of S s) && b) (unlent-same R S a s)

bind_by-same : (R S : Log) (a : AlikeButNumbers R S) (k : Kind) (s o : ObjId) → bind_by k R s o ≡ bind_by k S s o
unfolding bind_by
bind_by-same R S a kind.Thread s o =
    ap (λ b. need (b && is_none (context_of R o)) AlreadyBound >> Ok (answers answer.Done (say (rec.Holds s (Some o))))) (loose-same R S a s)
    ∙ ap (λ c. need (is_loose S s && is_none c) AlreadyBound >> Ok (answers answer.Done (say (rec.Holds s (Some o))))) (context-same R S a o)
bind_by-same R S a kind.Notification s o =
    ap (λ b. need (b && is_none (homed_at R o)) AlreadyBound >> Ok (answers answer.Done (say (rec.Homed s (Some o))))) (loose-same R S a s)
    ∙ ap (λ c. need (is_loose S s && is_none c) AlreadyBound >> Ok (answers answer.Done (say (rec.Homed s (Some o))))) (homed-same R S a o)
bind_by-same R S a kind.CNode s o = refl
bind_by-same R S a kind.Endpoint s o = refl
bind_by-same R S a kind.Reply s o = refl
bind_by-same R S a kind.Context s o = refl

filter-same : (p q : ObjId → Bool) (xs : List ObjId) → ((x : ObjId) → p x ≡ q x) → filter p xs ≡ filter q xs
filter-same p q [] h = refl
filter-same p q (x ∷ xs) h = rw (h x, filter-same p q xs h) refl

badge-same : (badge : ℕ) (o : Option Letter) → has_badge badge (option_map unnumbered o) ≡ has_badge badge o
badge-same badge None = refl
badge-same badge (Some s) = refl

senders-same : (R S : Log) → AlikeButNumbers R S → (e : ObjId) (badge : ℕ) → senders_with R e badge ≡ senders_with S e badge
senders-same R S a e badge = filter-same (λ x. has_badge badge (open_of R x)) (λ x. has_badge badge (open_of S x)) (queued_in R (Senders e)) (λ x. sym (badge-same badge (open_of R x)) ∙ ap (λ o. has_badge badge o) (open-same R S a x) ∙ badge-same badge (open_of S x)) ∙ ap (λ xs. filter (λ x. has_badge badge (open_of S x)) xs) (queued-same R S a (Senders e))

last-same : (R S : Log) → AlikeButNumbers R S → (held : Option Cap) → is_last_cnode R held ≡ is_last_cnode S held
last-same R S a None = refl
last-same R S a (Some cap) = ap (λ n. is_kind kind.CNode cap && (n == 1)) (a.held cap.obj)

counted-same : (p q : ObjId → Bool) (xs : List ObjId) → ((x : ObjId) → p x ≡ q x) → counted p xs ≡ counted q xs
counted-same p q [] h = refl
counted-same p q (x ∷ xs) h = rw (h x, counted-same p q xs h) refl

number-same : (R S : Log) → AlikeButNumbers R S → (k : Kind) → number_of R k ≡ number_of S k
number-same R S a k = counted-same (is_alive R) (is_alive S) (made_of R k) (alive-same R S a) ∙ ap (λ xs. counted (is_alive S) xs) (a.lists k)

make-same : (R S : Log) (a : AlikeButNumbers R S) (t : ObjId) (there : IsThere R kind.Thread t) (k : Kind) (rights : ℕ) (f : Form) (place : Place) → make R t k rights f place ≡ make S t k rights f place
unfolding make
make-same R S a t there k rights f place = bind-same _ _ _ _ (slot_named-same R S a t there place) (λ at i.
    ap (λ o. need (is_none o) SlotFull >> (need (nat_lt (number_of R k) object_limit) NoRoom >> Ok (made (next_id R k) at))) (a.slots at.cnode at.index)
    ∙ ap (λ n. need (is_none (slot S at.cnode at.index)) SlotFull >> (need (nat_lt n object_limit) NoRoom >> Ok (made (next_id R k) at))) (number-same R S a k)
    ∙ ap (λ n. need (is_none (slot S at.cnode at.index)) SlotFull >> (need (nat_lt (number_of S k) object_limit) NoRoom >> Ok (made (record { kind = k; serial = n + 1 }) at))) (a.counts k))
  where
    made : ObjId → SlotName → Act
    made o at = answers answer.Done (say (rec.Made o f) then fills at (Some (record { obj = o; rights = rights; badge = record { 0 = 0 }; guard = record { bits = 0; value = 0 } })))

-- the row is the same
pub row-same : (R S : Log) (a : AlikeButNumbers R S) (core : CoreId) (t : ObjId) (there : IsThere R kind.Thread t) (e : Entry) → row R core t e ≡ row S core t e
unfolding row
row-same R S a core t there (entry.Send address message) = ap (λ m. m >>= λ cap. send_over how.Plain t cap message (queues (letter_over t cap how.Plain message))) (cap-same R S a t there address)
row-same R S a core t there (entry.NbSend address message) = ap (λ m. m >>= λ cap. send_over how.Plain t cap message (answers answer.Done nothing)) (cap-same R S a t there address)
row-same R S a core t there (entry.Call address message) = bind-same _ _ _ _ (kind-same R S a t there kind.Endpoint address) (λ c i. refl)
row-same R S a core t there (entry.Recv address r) = bind-same _ _ _ _ (cap-same R S a t there address) (λ c i. over-same R S a t c _ _ true (reply_at-same R S a t there r))
row-same R S a core t there (entry.NbRecv address r) = bind-same _ _ _ _ (cap-same R S a t there address) (λ c i. over-same R S a t c _ _ false (reply_at-same R S a t there r))
row-same R S a core t there (entry.Wait address) = bind-same _ _ _ _ (cap-same R S a t there address) (λ c i. over-same R S a t c (Ok None) (Ok None) true refl)
row-same R S a core t there (entry.NbWait address) = bind-same _ _ _ _ (cap-same R S a t there address) (λ c i. over-same R S a t c (Ok None) (Ok None) false refl)
row-same R S a core t there (entry.ReplyRecv address r message) = bind-same _ _ _ _ (cap-same R S a t there address) (λ c i. reply_receive-same R S a t there c r message)
row-same R S a core t there (entry.Signal address) = bind-same _ _ _ _ (kind-same R S a t there kind.Notification address) (λ c i. refl)
row-same R S a core t there (entry.SetPriority x authority p) = bind-same _ _ _ _ (kind-same R S a t there kind.Thread x) (λ thread i. bind-same _ _ _ _ (kind-same R S a t there kind.Thread authority) (λ giver j.
    ap (λ f. need (nat_le p.0 (unwrap_or (option_and_then maximum_kept f) 0)) Range >> Ok (answers answer.Done (say (rec.Prio thread.obj p)))) (a.forms giver.obj (found-alive R t authority giver a.left ((kinded-ok kind.Thread (capability R t authority) giver (sym (object-is R t kind.Thread authority) ∙ j)).0)))))
row-same R S a core t there (entry.Suspend x) = bind-same _ _ _ _ (kind-same R S a t there kind.Thread x) (λ c i. refl)
row-same R S a core t there (entry.Resume x) = bind-same _ _ _ _ (kind-same R S a t there kind.Thread x) (λ thread i. ap (λ s. Ok (answers answer.Done (cond (is_ready s) nothing (cancel thread.obj Restart)))) (status-same R S a thread.obj))
row-same R S a core t there (entry.BindNtfn x n) = bind-same _ _ _ _ (kind-same R S a t there kind.Thread x) (λ thread i. bind-same _ _ _ _ (kind-same R S a t there kind.Notification n) (λ cap j.
    rw (a.bounds thread.obj, tied-same R S a cap.obj, first-same R S a (Waiters cap.obj)) refl))
row-same R S a core t there (entry.UnbindNtfn x) = bind-same _ _ _ _ (kind-same R S a t there kind.Thread x) (λ thread i. ap (λ b. need (is_some b) NotBound >> Ok (answers answer.Done (say (rec.Tied thread.obj None)))) (a.bounds thread.obj))
row-same R S a core t there (entry.BindCtx s x) = bind-same _ _ _ _ (kind-same R S a t there kind.Context s) (λ context i. bind-same _ _ _ _ (cap-same R S a t there x) (λ target j. bind_by-same R S a target.obj.kind context.obj target.obj))
row-same R S a core t there (entry.UnbindCtx s) = bind-same _ _ _ _ (kind-same R S a t there kind.Context s) (λ context i.
    ap (λ h. need (is_some h || is_some (home_of R context.obj)) NotBound >> Ok (answers answer.Done (unbind context.obj))) (a.holders context.obj)
    ∙ ap (λ h. need (is_some (holder_of S context.obj) || is_some h) NotBound >> Ok (answers answer.Done (unbind context.obj))) (a.homes context.obj))
row-same R S a core t there (entry.CancelBadged address) = bind-same _ _ _ _ (kind-same R S a t there kind.Endpoint address) (λ cap i.
    ap (λ xs. need (has_right 15 cap) NoRight >> Ok (answers answer.Done (cond (cap.badge.0 == 0) nothing (cancel_all xs Restart)))) (senders-same R S a cap.obj cap.badge.0))
row-same R S a core t there (entry.CopyCap source dest rights) = bind-same _ _ _ _ (places-same R S a t there source dest) (λ at i. refl)
row-same R S a core t there (entry.MintCap source dest rights badge) = bind-same _ _ _ _ (places-same R S a t there source dest) (λ at i. refl)
row-same R S a core t there (entry.MoveCap source dest) = bind-same _ _ _ _ (places-same R S a t there source dest) (λ at i. refl)
row-same R S a core t there (entry.DeleteCap place) = bind-same _ _ _ _ (slot_named-same R S a t there place) (λ at i.
    ap (λ h. need (not (is_last_cnode R h)) LastCNode >> Ok (delete at h)) (a.slots at.cnode at.index)
    ∙ ap (λ b. need (not b) LastCNode >> Ok (delete at (slot S at.cnode at.index))) (last-same R S a (slot S at.cnode at.index)))
row-same R S a core t there (entry.MakeEndpoint place) = make-same R S a t there kind.Endpoint 15 form.Plain place
row-same R S a core t there (entry.MakeNotification place) = make-same R S a t there kind.Notification 15 form.Plain place
row-same R S a core t there (entry.MakeReply place) = make-same R S a t there kind.Reply 0 form.Plain place
row-same R S a core t there (entry.MakeContext place) = make-same R S a t there kind.Context 0 (form.OnCore core) place
row-same R S a core t there (entry.NbSendRecv address source r message) = exchange-same R S a t there address source message _ _ (reply_at-same R S a t there r)
row-same R S a core t there (entry.NbSendWait address source message) = exchange-same R S a t there address source message (Ok None) (Ok None) refl
