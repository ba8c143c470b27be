-- What is asked of a log has the same answer of an alike one.
use Rattle.std.specs.Prelude.{ℕ, ◌≡◌, ◌&&◌, Bool, true, false, not, cond, find, is_none, List, [], ◌∷◌, Option, Some, None, option_and_then, option_map}
use Rattle.std.specs.Option.{option_or}
use Rattle.std.proofs.Common.{refl, ap, sym, ◌∙◌}
use Rattle.mcs_types.specs.declared.id.ObjId.{ObjId}
use Rattle.mcs_types.specs.declared.id.Kind.{Kind}
use Rattle.mcs_types.specs.declared.id.Kind.TheVariants as kind
use Rattle.mcs_types.specs.declared.entry.Refusal.TheVariants.{Missing}
use Rattle.mcs_types.specs.declared.record.Queue.{Queue}
use Rattle.mcs_types.specs.declared.record.Queue.TheVariants.{Senders, Receivers, Waiters}
use Rattle.mcs_types.specs.declared.record.Status.TheVariants as status
use Rattle.mcs_types.specs.Ids.{same_kind, is_just}
use Rattle.mcs_types.specs.Chains.{head_of}
use Rattle.mcs_types.proofs.Ids.{same_kind-equal}
use Rattle.mcs_book.specs.Logs.{Log}
use Rattle.mcs_book.specs.Objects.{was_made, was_closed, is_alive, made_of}
use Rattle.mcs_book.specs.Threads.{threads, mode_of, root_of, root_kept}
use Rattle.mcs_book.specs.Queues.{queue_of, queued_in, first_in, reply_with, is_receiving, receives_at}
use Rattle.mcs_book.specs.Growing.{threads_in}
use Rattle.mcs_book.specs.Messages.{open_of}
use Rattle.mcs_book.specs.Notifications.{bound_of, tied_to, pending}
use Rattle.mcs_book.specs.Replies.{owed_by, owing, receiver_with, user_of}
use Rattle.mcs_book.specs.Contexts.{holder_of, context_of, contexts, home_of, homed_at}
use Rattle.mcs_book.specs.Chains.{chain_of, is_empty, is_unlent, topped_by}
use Rattle.mcs_book.specs.Checks.{◌>>=◌, needed}
use Rattle.mcs_book.specs.Lookup.{Space, space_of, capability_from, capability}
use Rattle.mcs_book.specs.Signalling.{if_spare, spare_at}
use Rattle.mcs_book.specs.Receiving.{if_at_home}
use Rattle.mcs_book.specs.Statuses.{status_of, status_by}
use Rattle.mcs_book.specs.Sound.{IsThere}
use Rattle.mcs_book.proofs.Queues.QueueLaws.{queued_in-growing}
use Rattle.mcs_book.proofs.Queues.WordLaws.{pending-growing}
use Rattle.mcs_book.proofs.Messages.OpenLaws.{open_of-growing}
use Rattle.mcs_book.proofs.Chains.ChainLaws.{chain_of-growing}
use Rattle.mcs_explore_equivalence.specs.ButNumbers.{unnumbered, AlikeButNumbers}

-- what is found by one test is found by another that always agrees
find-same : (p q : ObjId → Bool) (xs : List ObjId) → ((x : ObjId) → p x ≡ q x) → find p xs ≡ find q xs
find-same p q [] h = refl
find-same p q (x ∷ xs) h = rw (h x, find-same p q xs h) refl

pub alive-same : (R S : Log) → AlikeButNumbers R S → (o : ObjId) → is_alive R o ≡ is_alive S o
alive-same R S a o = ap (λ b. b && not (was_closed R o)) (a.made o) ∙ ap (λ b. was_made S o && not b) (a.closed o)

-- an object is there in both
pub there-same : (R S : Log) → AlikeButNumbers R S → (k : Kind) (o : ObjId) → IsThere R k o → IsThere S k o
there-same R S a k o h = (h.0, sym (alive-same R S a o) ∙ h.1)

pub queued-same : (R S : Log) → AlikeButNumbers R S → (q : Queue) → queued_in R q ≡ queued_in S q
queued-same R S a q = queued_in-growing R q a.left ∙ ap (λ l. threads_in l) (a.lines q) ∙ sym (queued_in-growing S q a.right)

pub first-same : (R S : Log) → AlikeButNumbers R S → (q : Queue) → first_in R q ≡ first_in S q
unfolding first_in
first-same R S a q = ap (λ ts. head_of ts) (queued-same R S a q)

-- but for its number
pub open-same : (R S : Log) → AlikeButNumbers R S → (x : ObjId) → option_map unnumbered (open_of R x) ≡ option_map unnumbered (open_of S x)
open-same R S a x = ap (λ o. option_map unnumbered o) (open_of-growing R x a.left) ∙ a.letters x ∙ ap (λ o. option_map unnumbered o) (sym (open_of-growing S x a.right))

pub pending-same : (R S : Log) → AlikeButNumbers R S → (n : ObjId) → IsThere R kind.Notification n → pending R n ≡ pending S n
pending-same R S a n alive = pending-growing R n ∙ a.words n alive ∙ sym (pending-growing S n)

pub context-same : (R S : Log) → AlikeButNumbers R S → (t : ObjId) → context_of R t ≡ context_of S t
unfolding context_of
context-same R S a t = find-same (λ s. is_just (holder_of R s) t) (λ s. is_just (holder_of S s) t) (contexts R) (λ s. ap (λ h. is_just h t) (a.holders s)) ∙ ap (λ xs. find (λ s. is_just (holder_of S s) t) xs) (a.lists kind.Context)

pub owing-same : (R S : Log) → AlikeButNumbers R S → (x : ObjId) → owing R x ≡ owing S x
unfolding owing
owing-same R S a x = find-same (λ r. is_just (owed_by R r) x) (λ r. is_just (owed_by S r) x) (made_of R kind.Reply) (λ r. ap (λ o. is_just o x) (a.owed r)) ∙ ap (λ xs. find (λ r. is_just (owed_by S r) x) xs) (a.lists kind.Reply)

pub tied-same : (R S : Log) → AlikeButNumbers R S → (n : ObjId) → tied_to R n ≡ tied_to S n
unfolding tied_to
tied-same R S a n = find-same (λ t. is_just (bound_of R t) n) (λ t. is_just (bound_of S t) n) (threads R) (λ t. ap (λ b. is_just b n) (a.bounds t)) ∙ ap (λ xs. find (λ t. is_just (bound_of S t) n) xs) (a.lists kind.Thread)

pub receiver-same : (R S : Log) → AlikeButNumbers R S → (r : ObjId) → receiver_with R r ≡ receiver_with S r
unfolding receiver_with
receiver-same R S a r = find-same (λ t. is_receiving R t && is_just (reply_with R t) r) (λ t. is_receiving S t && is_just (reply_with S t) r) (threads R) (λ t. each t (queue_of R t) refl)
    ∙ ap (λ xs. find (λ t. is_receiving S t && is_just (reply_with S t) r) xs) (a.lists kind.Thread)
  where
    each : (t : ObjId) (q : Option Queue) → queue_of R t ≡ q → (receives_at (queue_of R t) && is_just (reply_with R t) r) ≡ (receives_at (queue_of S t) && is_just (reply_with S t) r)
    each t None e = rw (sym (a.queues t), e) refl
    each t (Some (Senders x)) e = rw (sym (a.queues t), e) refl
    each t (Some (Waiters x)) e = rw (sym (a.queues t), e) refl
    each t (Some (Receivers x)) e = ap (λ q. receives_at q && is_just (reply_with R t) r) (a.queues t) ∙ ap (λ w. receives_at (queue_of S t) && is_just w r) (a.replies t (Receivers x) e)

pub user-same : (R S : Log) → AlikeButNumbers R S → (r : ObjId) → user_of R r ≡ user_of S r
user-same R S a r = ap (λ o. option_or o (receiver_with R r)) (a.owed r) ∙ ap (λ o. option_or (owed_by S r) o) (receiver-same R S a r)

pub chain-same : (R S : Log) → AlikeButNumbers R S → (s : ObjId) → chain_of R s ≡ chain_of S s
chain-same R S a s = chain_of-growing R s a.left ∙ a.chains s ∙ sym (chain_of-growing S s a.right)

pub unlent-same : (R S : Log) → AlikeButNumbers R S → (s : ObjId) → is_unlent R s ≡ is_unlent S s
unlent-same R S a s = ap is_empty (chain-same R S a s)

pub homed-same : (R S : Log) → AlikeButNumbers R S → (n : ObjId) → homed_at R n ≡ homed_at S n
unfolding homed_at
homed-same R S a n = find-same (λ s. is_just (home_of R s) n) (λ s. is_just (home_of S s) n) (contexts R) (λ s. ap (λ h. is_just h n) (a.homes s)) ∙ ap (λ xs. find (λ s. is_just (home_of S s) n) xs) (a.lists kind.Context)

-- the context with which the receiver of a signal wakes
pub spare-same : (R S : Log) → AlikeButNumbers R S → (n : ObjId) → spare_at R n ≡ spare_at S n
unfolding spare_at
spare-same R S a n = ap (λ o. if_spare R o) (homed-same R S a n) ∙ go (homed_at S n)
  where
    go : (o : Option ObjId) → if_spare R o ≡ if_spare S o
    go None = refl
    go (Some s) = ap (λ h. cond (is_none h && is_unlent R s) (Some s) None) (a.holders s) ∙ ap (λ b. cond (is_none (holder_of S s) && b) (Some s) None) (unlent-same R S a s)

-- the context that a thread gives up
pub at-home-same : (R S : Log) → AlikeButNumbers R S → (n : Option ObjId) (t : ObjId) → if_at_home R n (context_of R t) ≡ if_at_home S n (context_of S t)
at-home-same R S a None t = refl
at-home-same R S a (Some n) t = ap (λ o. if_at_home R (Some n) o) (context-same R S a t) ∙ go (context_of S t)
  where
    go : (o : Option ObjId) → if_at_home R (Some n) o ≡ if_at_home S (Some n) o
    go None = refl
    go (Some s) = ap (λ h. cond (is_just h n && is_unlent R s) (Some s) None) (a.homes s) ∙ ap (λ b. cond (is_just (home_of S s) n && b) (Some s) None) (unlent-same R S a s)

pub topped-same : (R S : Log) → AlikeButNumbers R S → (r : ObjId) → topped_by R r ≡ topped_by S r
unfolding topped_by
topped-same R S a r = find-same (λ s. is_just (head_of (chain_of R s)) r) (λ s. is_just (head_of (chain_of S s)) r) (contexts R) (λ s. ap (λ os. is_just (head_of os) r) (chain-same R S a s))
    ∙ ap (λ xs. find (λ s. is_just (head_of (chain_of S s)) r) xs) (a.lists kind.Context)

pub status-same : (R S : Log) → AlikeButNumbers R S → (t : ObjId) → status_of R t ≡ status_of S t
unfolding status_of
status-same R S a t = kinds (same_kind t.kind kind.Thread) refl (was_made R t) refl (was_closed R t) refl
  where
    kinds : (b : Bool) → same_kind t.kind kind.Thread ≡ b → (m : Bool) → was_made R t ≡ m → (c : Bool) → was_closed R t ≡ c
        → cond (same_kind t.kind kind.Thread && was_made R t) (Some (cond (was_closed R t) status.Closed (status_by (queue_of R t) (owing R t) (mode_of R t)))) None
        ≡ cond (same_kind t.kind kind.Thread && was_made S t) (Some (cond (was_closed S t) status.Closed (status_by (queue_of S t) (owing S t) (mode_of S t)))) None
    kinds false is m e c f = rw is refl
    kinds true is false e c f = rw (is, e, sym (a.made t) ∙ e) refl
    kinds true is true e true f = rw (is, e, sym (a.made t) ∙ e, f, sym (a.closed t) ∙ f) refl
    kinds true is true e false f =
        let there : IsThere R kind.Thread t = (same_kind-equal t.kind kind.Thread is, ap (λ b. b && not (was_closed R t)) e ∙ ap (λ b. not b) f) in
        rw (is, e, sym (a.made t) ∙ e, f, sym (a.closed t) ∙ f, a.queues t, owing-same R S a t, a.modes t there) refl

pub space-same : (R S : Log) → AlikeButNumbers R S → space_of R ≡ space_of S
space-same R S a = λ i. record { radix = λ c. a.radices c i; slot = λ c j. a.slots c j i }

-- a thread that is there finds the same
pub capability-same : (R S : Log) → AlikeButNumbers R S → (t : ObjId) (address : ℕ) → is_alive R t ≡ true → capability R t address ≡ capability S t address
unfolding capability
capability-same R S a t address alive =
    ap (λ f. needed (option_and_then root_kept f) Missing >>= λ root. capability_from (space_of R) root address) (a.forms t alive)
    ∙ ap (λ (X : Space). needed (root_of S t) Missing >>= λ root. capability_from X root address) (space-same R S a)
