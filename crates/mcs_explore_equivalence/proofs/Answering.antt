-- Logs that answer alike of everything are alike.
use Rattle.std.specs.Prelude.{ℕ, ◌≡◌, ◌+◌, ◌&&◌, ◌||◌, Bool, true, false, not, cond, zero, suc, map, List, [], ◌∷◌, Option, Some, None, option_and_then, option_map}
use Rattle.std.proofs.Common.{refl, ap, sym, ◌∙◌, subst, arith, inl, inr}
use Rattle.mcs_types.specs.declared.id.ObjId.{ObjId}
use Rattle.mcs_types.specs.declared.id.CoreId.{CoreId}
use Rattle.mcs_types.specs.declared.id.Kind.{Kind}
use Rattle.mcs_types.specs.declared.id.Kind.TheVariants as kind
use Rattle.mcs_types.specs.declared.record.Form.{Form}
use Rattle.mcs_types.specs.declared.record.Form.TheVariants as form
use Rattle.mcs_types.specs.declared.record.Queue.{Queue}
use Rattle.mcs_types.specs.declared.record.Rec.TheVariants as rec
use Rattle.mcs_types.specs.Ids.{same_kind}
use Rattle.mcs_types.proofs.Ids.{same_kind-equal}
use Rattle.mcs_book.specs.Logs.{Log, counted}
use Rattle.mcs_book.specs.Objects.{was_made, was_closed, is_alive, form_of, makes_kind, made_of}
use Rattle.mcs_book.specs.Threads.{prio_of, mode_of}
use Rattle.mcs_book.specs.Queues.{queue_of, reply_with}
use Rattle.mcs_book.specs.Growing.{Waiter, growing_queue, threads_in}
use Rattle.mcs_book.specs.Lookup.{radix_kept}
use Rattle.mcs_book.specs.Notifications.{bound_of, pending}
use Rattle.mcs_book.specs.Replies.{owing}
use Rattle.mcs_book.specs.Sound.{Sound, IsThere, IsFormOf}
use Rattle.mcs_book.proofs.Objects.MadeLaws.{alive-made}
use Rattle.mcs_book.proofs.Objects.Same.{is_queue-some}
use Rattle.mcs_book.proofs.Queues.Sorted.{In}
use Rattle.mcs_book.proofs.Queues.Waiting.{in-among}
use Rattle.mcs_book.proofs.Queues.QueueLaws.{among-line, queued_in-growing, waiters-again}
use Rattle.mcs_book.proofs.Queues.WordLaws.{pending-growing}
use Rattle.mcs_book.proofs.Chains.ChainLaws.{chain_of-growing}
use Rattle.mcs_book.proofs.Messages.OpenLaws.{open_of-growing}
use Rattle.mcs_book.proofs.SoundLogs.KeptLaws.{standing-thread}
use Rattle.mcs_threads.specs.declared.row.Block.TheVariants.{Queued}
use Rattle.mcs_threads.specs.declared.row.ThreadRow.{ThreadRow}
use Rattle.mcs_state.specs.Questions.{word_of}
use Rattle.mcs_state.specs.Saying.{block_said, row_with, row_said}
use Rattle.mcs_state.specs.Tables.{core_kept, core_said}
use Rattle.mcs_state.proofs.Saying.{said, formless, form-fits, unclosed}
use Rattle.mcs_state.proofs.Answering.{never-rowless, unbound}
use Rattle.mcs_state.proofs.ThereLaws.{there}
use Rattle.mcs_explore_equivalence.specs.Alike.{Alike}
use Rattle.mcs_explore_equivalence.specs.Answers.{AnswerAlike}
use Rattle.mcs_explore_equivalence.specs.ButNumbers.{unnumbered, AlikeButNumbers}
use Rattle.mcs_explore_equivalence.proofs.Asked.{AnswerAll, answer-all, answers-but, open-all}
use Rattle.mcs_explore_equivalence.proofs.Exactly.{with-numbers}

-- as many objects of a kind as were made, the newest first
abbrev listed : ℕ → Kind → List ObjId
listed zero k = []
listed (suc n) k = record { kind = k; serial = suc n } ∷ listed n k

made-listed : (R : Log) (k : Kind) → Sound R → made_of R k ≡ listed (counted (makes_kind k) R) k
made-listed [] k sound = refl
made-listed (rec.Made o f ∷ R) k sound = go (same_kind o.kind k) refl (made-listed R k sound.1)
  where
    one-up : (n : ℕ) → n + 1 ≡ suc n
    one-up n = omega arith

    go : (b : Bool) → same_kind o.kind k ≡ b → made_of R k ≡ listed (counted (makes_kind k) R) k → cond b (o ∷ made_of R k) (made_of R k) ≡ listed (cond b (counted (makes_kind k) R + 1) (counted (makes_kind k) R)) k
    go false is later = later
    go true is later =
        let k-is : o.kind ≡ k = same_kind-equal o.kind k is in
        let o-is : o ≡ record { kind = k; serial = suc (counted (makes_kind k) R) } = sound.0.0 ∙ ap (λ j. record { kind = j; serial = counted (makes_kind j) R + 1 }) k-is ∙ ap (λ n. record { kind = k; serial = n }) (one-up (counted (makes_kind k) R)) in
        ap (λ (x : ObjId). x ∷ made_of R k) o-is ∙ ap (λ l. (record { kind = k; serial = suc (counted (makes_kind k) R) }) ∷ l) later ∙ ap (λ n. listed n k) (sym (one-up (counted (makes_kind k) R)))
made-listed (_ ∷ R) k sound = made-listed R k sound.1

-- what is there has a form of its kind
form-there : (R : Log) (o : ObjId) → Sound R → is_alive R o ≡ true → (f : Form) × ((form_of R o ≡ Some f) × IsFormOf o.kind f)
form-there R o sound alive = go (form_of R o) refl
  where
    go : (m : Option Form) → form_of R o ≡ m → (f : Form) × ((form_of R o ≡ Some f) × IsFormOf o.kind f)
    go None e = let no : true ≡ false = sym (alive-made R o alive) ∙ formless R o e in absurd cc
    go (Some f) e = (f, (e, form-fits R o f sound e))

-- what a row holds about the bound notification
said-bound : (R : Log) (t : ObjId) (r : ThreadRow) → Some r ≡ row_said R t → r.notification ≡ bound_of R t
said-bound R t r h = go (is_alive R t) (form_of R t) h
  where
    go : (b : Bool) (o : Option Form) → Some r ≡ cond b (row_with o (prio_of R t) (mode_of R t) (block_said (queue_of R t) (reply_with R t) (owing R t)) (bound_of R t)) None → r.notification ≡ bound_of R t
    go false o k = absurd cc
    go true (Some (form.Runner maximum root)) k =
        let it : r ≡ record { maximum = maximum; root = root; priority = record { 0 = prio_of R t }; mode = mode_of R t; block = block_said (queue_of R t) (reply_with R t) (owing R t); notification = bound_of R t } = cc in
        ap (λ (x : ThreadRow). x.notification) it
    go true None k = absurd cc
    go true (Some form.Plain) k = absurd cc
    go true (Some (form.Slots radix)) k = absurd cc
    go true (Some (form.OnCore core)) k = absurd cc

-- the queue in which a row says that its thread is
queue-said : (R : Log) (t : ObjId) (r : ThreadRow) (q : Queue) → Some r ≡ row_said R t → queue_of R t ≡ Some q → r.block ≡ Some (Queued q (reply_with R t))
queue-said R t r q h e = (said R t r h).block ∙ ap (λ o. block_said o (reply_with R t) (owing R t)) e

-- a row that says that its thread is in a queue
stands-said : (R : Log) (t : ObjId) (r : ThreadRow) (q : Queue) (x : Option ObjId) → Some r ≡ row_said R t → r.block ≡ Some (Queued q x) → queue_of R t ≡ Some q
stands-said R t r q x h e = go (queue_of R t) (owing R t) (sym (said R t r h).block ∙ e)
  where
    go : (o : Option Queue) (p : Option ObjId) → block_said o (reply_with R t) p ≡ Some (Queued q x) → o ≡ Some q
    go (Some k) p g = cc
    go None (Some y) g = absurd cc
    go None None g = absurd cc

-- a thread, with its priority
abbrev waiter_of : Log → ObjId → Waiter
waiter_of R t = record { thread = t; priority = prio_of R t }

module _ (R S : Log) (left : Sound R) (right : Sound S) (looks : AnswerAll R S) where
  -- a thread that is there has one row in both
  row-there : (t : ObjId) → IsThere R kind.Thread t → (r : ThreadRow) × ((Some r ≡ row_said R t) × (Some r ≡ row_said S t))
  row-there t is = go (row_said R t) refl
    where
      go : (o : Option ThreadRow) → row_said R t ≡ o → (r : ThreadRow) × ((Some r ≡ row_said R t) × (Some r ≡ row_said S t))
      go None e = absurd (never-rowless R t left is (sym e))
      go (Some r) e = (r, (sym e, sym e ∙ looks.rows t))

  closed : (o : ObjId) → was_closed R o ≡ was_closed S o
  closed o = go (was_made R o) refl
    where
      flip : (c d : Bool) → not c ≡ not d → c ≡ d
      flip true true e = refl
      flip false false e = refl
      flip true false e = absurd cc
      flip false true e = absurd cc

      go : (m : Bool) → was_made R o ≡ m → was_closed R o ≡ was_closed S o
      go false e = unclosed R o left e ∙ sym (unclosed S o right (sym (looks.made o) ∙ e))
      go true e = flip _ _ (ap (λ m. m && not (was_closed R o)) (sym e) ∙ looks.there o ∙ ap (λ m. m && not (was_closed S o)) (sym (looks.made o) ∙ e))

  forms : (o : ObjId) → is_alive R o ≡ true → form_of R o ≡ form_of S o
  forms o is = let f = form-there R o left is in let g = form-there S o right (sym (looks.there o) ∙ is) in f.1.0 ∙ ap (λ x. Some x) (by o.kind refl f.0 g.0 f.1.1 g.1.1 f.1.0 g.1.0) ∙ sym g.1.0
    where
      some-same : (x y : CoreId) → Some x ≡ Some y → x ≡ y
      some-same x y e = cc

      core-is : (Q : Log) (core : CoreId) → is_alive Q o ≡ true → form_of Q o ≡ Some (form.OnCore core) → core_said Q o ≡ Some core
      core-is Q core alive e = rw (alive, e) refl

      by : (k : Kind) → o.kind ≡ k → (f g : Form) → IsFormOf o.kind f → IsFormOf o.kind g → form_of R o ≡ Some f → form_of S o ≡ Some g → f ≡ g
      by k e f g x y h i = at k e f g (subst (λ j. IsFormOf j f) e x) (subst (λ j. IsFormOf j g) e y) h i
        where
          at : (k : Kind) → o.kind ≡ k → (f g : Form) → IsFormOf k f → IsFormOf k g → form_of R o ≡ Some f → form_of S o ≡ Some g → f ≡ g
          at kind.Thread e f g x y h i = let r = row-there o (e, is) in let both : Some f ≡ Some g = sym h ∙ (said R o r.0 r.1.0).form ∙ sym ((said S o r.0 r.1.1).form) ∙ i in cc
          at kind.CNode e (form.Slots m) (form.Slots n) x y h i = ap (λ n. form.Slots n) (ap radix_kept (sym h) ∙ looks.radices o ∙ ap radix_kept i)
          at kind.Context e (form.OnCore c) (form.OnCore d) x y h i = ap (λ n. form.OnCore n) (some-same c d (sym (core-is R c is h) ∙ looks.cores o ∙ core-is S d (sym (looks.there o) ∙ is) i))
          at kind.Endpoint e form.Plain form.Plain x y h i = refl
          at kind.Notification e form.Plain form.Plain x y h i = refl
          at kind.Reply e form.Plain form.Plain x y h i = refl
          at kind.CNode e form.Plain g x y h i = absurd x
          at kind.CNode e (form.OnCore c) g x y h i = absurd x
          at kind.CNode e (form.Runner m r) g x y h i = absurd x
          at kind.CNode e (form.Slots m) form.Plain x y h i = absurd y
          at kind.CNode e (form.Slots m) (form.OnCore c) x y h i = absurd y
          at kind.CNode e (form.Slots m) (form.Runner n r) x y h i = absurd y
          at kind.Context e form.Plain g x y h i = absurd x
          at kind.Context e (form.Slots m) g x y h i = absurd x
          at kind.Context e (form.Runner m r) g x y h i = absurd x
          at kind.Context e (form.OnCore c) form.Plain x y h i = absurd y
          at kind.Context e (form.OnCore c) (form.Slots m) x y h i = absurd y
          at kind.Context e (form.OnCore c) (form.Runner n r) x y h i = absurd y
          at kind.Endpoint e (form.Slots m) g x y h i = absurd x
          at kind.Endpoint e (form.OnCore c) g x y h i = absurd x
          at kind.Endpoint e (form.Runner m r) g x y h i = absurd x
          at kind.Endpoint e form.Plain (form.Slots m) x y h i = absurd y
          at kind.Endpoint e form.Plain (form.OnCore c) x y h i = absurd y
          at kind.Endpoint e form.Plain (form.Runner m r) x y h i = absurd y
          at kind.Notification e (form.Slots m) g x y h i = absurd x
          at kind.Notification e (form.OnCore c) g x y h i = absurd x
          at kind.Notification e (form.Runner m r) g x y h i = absurd x
          at kind.Notification e form.Plain (form.Slots m) x y h i = absurd y
          at kind.Notification e form.Plain (form.OnCore c) x y h i = absurd y
          at kind.Notification e form.Plain (form.Runner m r) x y h i = absurd y
          at kind.Reply e (form.Slots m) g x y h i = absurd x
          at kind.Reply e (form.OnCore c) g x y h i = absurd x
          at kind.Reply e (form.Runner m r) g x y h i = absurd x
          at kind.Reply e form.Plain (form.Slots m) x y h i = absurd y
          at kind.Reply e form.Plain (form.OnCore c) x y h i = absurd y
          at kind.Reply e form.Plain (form.Runner m r) x y h i = absurd y

  -- a thread that is in a queue in one log is in it in the other
  stands : (t : ObjId) (q : Queue) → queue_of R t ≡ Some q → queue_of S t ≡ Some q
  stands t q e = let r = row-there t (standing-thread R t q left e) in stands-said S t r.0 q (reply_with R t) r.1.1 (queue-said R t r.0 q r.1.0 e)

  stood : (t : ObjId) (q : Queue) → queue_of S t ≡ Some q → queue_of R t ≡ Some q
  stood t q e =
      let there = standing-thread S t q right e in
      let r = row-there t (there.0, looks.there t ∙ there.1) in
      stands-said R t r.0 q (reply_with S t) r.1.0 (queue-said S t r.0 q r.1.1 e)

  queues : (t : ObjId) → queue_of R t ≡ queue_of S t
  queues t = go (queue_of R t) (queue_of S t) refl refl
    where
      go : (o p : Option Queue) → queue_of R t ≡ o → queue_of S t ≡ p → o ≡ p
      go (Some q) p e f = sym (stands t q e) ∙ f
      go None (Some q) e f = sym e ∙ stood t q f
      go None None e f = refl

  replies : (t : ObjId) (q : Queue) → queue_of R t ≡ Some q → reply_with R t ≡ reply_with S t
  replies t q h =
      let r = row-there t (standing-thread R t q left h) in
      same-reply _ _ (sym (queue-said R t r.0 q r.1.0 h) ∙ queue-said S t r.0 q r.1.1 (stands t q h))
    where
      same-reply : (x y : Option ObjId) → Some (Queued q x) ≡ Some (Queued q y) → x ≡ y
      same-reply x y e = cc

  bounds : (t : ObjId) → bound_of R t ≡ bound_of S t
  bounds t = go (row_said R t) refl
    where
      go : (o : Option ThreadRow) → row_said R t ≡ o → bound_of R t ≡ bound_of S t
      go (Some r) e = sym (said-bound R t r (sym e)) ∙ said-bound S t r (sym e ∙ looks.rows t)
      go None e = sym (unbound R t left (sym e)) ∙ unbound S t right (sym e ∙ looks.rows t)

  prios : (t : ObjId) → IsThere R kind.Thread t → prio_of R t ≡ prio_of S t
  prios t is = let r = row-there t is in sym ((said R t r.0 r.1.0).priority) ∙ (said S t r.0 r.1.1).priority

  -- the threads of a queue, with their priorities
  lines : (q : Queue) → growing_queue R q ≡ growing_queue S q
  lines q =
      let threads : threads_in (growing_queue R q) ≡ threads_in (growing_queue S q) = sym (queued_in-growing R q left) ∙ looks.lines q ∙ queued_in-growing S q right in
      sym (waiters-again R q left) ∙ again (threads_in (growing_queue R q)) (λ t i. there t i) ∙ ap (map (waiter_of S)) threads ∙ waiters-again S q right
    where
      there : (t : ObjId) → In t (threads_in (growing_queue R q)) → IsThere R kind.Thread t
      there t i = standing-thread R t q left (is_queue-some (queue_of R t) q (sym (among-line R t q left) ∙ in-among t (growing_queue R q) i))

      again : (ts : List ObjId) → ((t : ObjId) → In t ts → IsThere R kind.Thread t)
          → map (waiter_of R) ts ≡ map (waiter_of S) ts
      again [] h = refl
      again (t ∷ ts) h = ap (λ n. (record { thread = t; priority = n }) ∷ map (waiter_of R) ts) (prios t (h t (inl refl))) ∙ ap (λ ws. (record { thread = t; priority = prio_of S t }) ∷ ws) (again ts (λ u i. h u (inr i)))

  pub answers-alike : AlikeButNumbers R S
  answers-alike = record {
    left = left;
    right = right;
    counts = looks.counts;
    lists = λ j. made-listed R j left ∙ ap (λ n. listed n j) (looks.counts j) ∙ sym (made-listed S j right);
    made = looks.made;
    closed = closed;
    forms = forms;
    radices = looks.radices;
    prios = prios;
    modes = λ t is. let r = row-there t is in sym ((said R t r.0 r.1.0).mode) ∙ (said S t r.0 r.1.1).mode;
    words = λ n is. sym (pending-growing R n) ∙ word R n is ∙ looks.words n ∙ sym (word S n (is.0, sym (looks.there n) ∙ is.1)) ∙ pending-growing S n;
    queues = queues;
    replies = replies;
    bounds = bounds;
    owed = looks.owed;
    holders = looks.holders;
    homes = looks.homes;
    slots = looks.slots;
    held = looks.held;
    lines = lines;
    letters = λ x. ap (λ o. option_map unnumbered o) (sym (open_of-growing R x left)) ∙ looks.letters x ∙ ap (λ o. option_map unnumbered o) (open_of-growing S x right);
    chains = λ s. sym (chain_of-growing R s left) ∙ looks.chains s ∙ chain_of-growing S s right;
  }
    where
      word : (Q : Log) (n : ObjId) → IsThere Q kind.Notification n → pending Q n ≡ word_of Q n
      word Q n is = ap (λ b. cond b (pending Q n) None) (sym (there Q kind.Notification n is))

-- numbers too
pub answers-exact : (R S : Log) → Sound R → Sound S → AnswerAlike R S → Alike R S
answers-exact R S left right looks = with-numbers R S (answers-alike R S left right (answer-all R S left right (answers-but R S left right looks)))
    (λ x. sym (open_of-growing R x left) ∙ open-all R S left right looks x ∙ open_of-growing S x right) looks.sent
