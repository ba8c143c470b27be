-- The threads follow a record.
use Rattle.std.specs.Prelude.{ℕ, ◌≡◌, ◌+◌, Bool, true, false, cond, not, ◌&&◌, ◌||◌, List, [], ◌∷◌, Option, Some, None, IsSome, option_map, unwrap_or}
use Rattle.std.specs.Option.{IfSome}
use Rattle.std.proofs.Common.{refl, ap, sym, ◌∙◌}
use Rattle.mcs_types.specs.declared.id.ObjId.{ObjId}
use Rattle.mcs_types.specs.declared.id.Kind.{Kind}
use Rattle.mcs_types.specs.declared.id.Kind.TheVariants as kind
use Rattle.mcs_types.specs.declared.id.Prio.{Prio}
use Rattle.mcs_types.specs.declared.cap.Cap.{Cap}
use Rattle.mcs_types.specs.declared.record.Form.{Form}
use Rattle.mcs_types.specs.declared.record.Form.TheVariants as form
use Rattle.mcs_types.specs.declared.record.Letter.{Letter}
use Rattle.mcs_types.specs.declared.record.Mail.{Mail}
use Rattle.mcs_types.specs.declared.record.Mail.TheVariants.{Message, Word}
use Rattle.mcs_types.specs.declared.record.Mode.{Mode}
use Rattle.mcs_types.specs.declared.record.Mode.TheVariants as mode
use Rattle.mcs_types.specs.declared.record.Queue.{Queue}
use Rattle.mcs_types.specs.declared.record.Rec.{Rec}
use Rattle.mcs_types.specs.declared.record.Rec.TheVariants as rec
use Rattle.mcs_types.specs.Ids.{same, same_kind, value_after}
use Rattle.mcs_types.specs.Views.{Content}
use Rattle.mcs_threads.specs.declared.row.Block.{Block}
use Rattle.mcs_threads.specs.declared.row.Block.TheVariants.{Queued, OnReply}
use Rattle.mcs_threads.specs.declared.row.ThreadRow.{ThreadRow}
use Rattle.mcs_threads.specs.Rows.{new_row, with_notification}
use Rattle.mcs_threads.specs.Tables.{Table, row_of, mail_of as mail_in, ChangesRow, SameMails}
use Rattle.mcs_objects.specs.Places.{kept_at}
use Rattle.mcs_book.specs.Logs.{Log, given, counted, latest_knowing}
use Rattle.mcs_book.specs.Messages.{letter}
use Rattle.mcs_book.specs.Objects.{was_made, was_closed, is_alive, form_of, makes_kind}
use Rattle.mcs_book.specs.Threads.{prio_of, mode_of}
use Rattle.mcs_book.specs.Queues.{queue_of, reply_with}
use Rattle.mcs_book.specs.Replies.{owed_by, owing}
use Rattle.mcs_book.specs.Notifications.{bound_of}
use Rattle.mcs_book.specs.Statuses.{letter_mail, mail_brought, mail_of}
use Rattle.mcs_book.specs.Sound.{Sound, Allowed, IsThere, IsFormOf}
use Rattle.mcs_types.proofs.Ids.{same-self, same-equal}
use Rattle.mcs_book.proofs.Messages.MailLaws.{is_still, mail-still, mail-took, mail-paid}
use Rattle.mcs_book.proofs.SoundLogs.KeptLaws.{owed-there, owed-stands_none}
use Rattle.mcs_state.specs.Saying.{block_said, row_with, row_said}
use Rattle.mcs_state.specs.Tables.{ThreadsAgree}
use Rattle.mcs_state.specs.Following.{ThreadsFollow, ThreadsFollowClosed, ClosesThread, Mails, MailsFreed}
use Rattle.mcs_state.proofs.CountLaws.{never-made}
use Rattle.mcs_state.proofs.DebtLaws.{owing-begun, owing-beside, owing-ended, owing-left}
use Rattle.mcs_state.proofs.ThereLaws.{said-closed}
use Rattle.mcs_state.proofs.Saying.{unsaid, unmailed, unowed, unclosed, standing-unowed, owing-kept, owing-made, has-row}

-- a change of a row, by what is said
changed-with : (g : ThreadRow → ThreadRow) (a : Bool) (f : Option Form) (p p' : ℕ) (m m' : Mode) (k k' : Option Block) (n n' : Option ObjId)
    → ((maximum : Prio) (root : Cap) → option_map g (row_with (Some (form.Runner maximum root)) p m k n) ≡ row_with (Some (form.Runner maximum root)) p' m' k' n')
    → option_map g (cond a (row_with f p m k n) None) ≡ cond a (row_with f p' m' k' n') None
changed-with g false f p p' m m' k k' n n' h = refl
changed-with g true (Some (form.Runner maximum root)) p p' m m' k k' n n' h = h maximum root
changed-with g true None p p' m m' k k' n n' h = refl
changed-with g true (Some form.Plain) p p' m m' k k' n n' h = refl
changed-with g true (Some (form.Slots radix)) p p' m m' k k' n n' h = refl
changed-with g true (Some (form.OnCore core)) p p' m m' k k' n n' h = refl

-- what blocks t by the queue and the reply object that the log says, where o owes it
abbrev pub blocked : Log → ObjId → Option ObjId → Option Block
blocked R t o = block_said (queue_of R t) (reply_with R t) o

-- the row by what is said of the queue
abbrev pub row_blocked : Log → ObjId → ℕ → Mode → Option Block → Option ThreadRow
row_blocked R t p m k = cond (is_alive R t) (row_with (form_of R t) p m k (bound_of R t)) None

-- the mode of a thread was set
turned : (R : Log) (T T' : Table) (u : ObjId) (m : Mode) → ChangesRow (λ r. record r { mode = m }) T T' u → ThreadsAgree T R → (t : ObjId) → row_of T' t ≡ row_said (rec.Turns u m ∷ R) t
turned R T T' u m c a t =
    c.rows t ∙ ap (λ o. cond (same t u) (option_map (λ (r : ThreadRow). record r { mode = m }) o) o) (a.rows t) ∙ go (same t u)
    ∙ ap (λ o. row_blocked R t (prio_of R t) (unwrap_or (given (same t u) m) (mode_of R t)) (blocked R t o)) (sym (owing-kept (rec.Turns u m) R t refl))
  where
    go : (b : Bool) → cond b (option_map (λ (r : ThreadRow). record r { mode = m }) (row_said R t)) (row_said R t)
        ≡ row_blocked R t (prio_of R t) (unwrap_or (given b m) (mode_of R t)) (blocked R t (owing R t))
    go true = changed-with (λ (r : ThreadRow). record r { mode = m }) (is_alive R t) (form_of R t) _ _ _ m _ _ _ _ (λ maximum root. refl)
    go false = refl

-- the priority of a thread was set
ranked : (R : Log) (T T' : Table) (u : ObjId) (p : Prio) → ChangesRow (λ r. record r { priority = p }) T T' u → ThreadsAgree T R → (t : ObjId) → row_of T' t ≡ row_said (rec.Prio u p ∷ R) t
ranked R T T' u p c a t =
    c.rows t ∙ ap (λ o. cond (same t u) (option_map (λ (r : ThreadRow). record r { priority = p }) o) o) (a.rows t) ∙ go (same t u)
    ∙ ap (λ o. row_blocked R t (unwrap_or (given (same t u) p.0) (prio_of R t)) (mode_of R t) (blocked R t o)) (sym (owing-kept (rec.Prio u p) R t refl))
  where
    go : (b : Bool) → cond b (option_map (λ (r : ThreadRow). record r { priority = p }) (row_said R t)) (row_said R t)
        ≡ row_blocked R t (unwrap_or (given b p.0) (prio_of R t)) (mode_of R t) (blocked R t (owing R t))
    go true = changed-with (λ (r : ThreadRow). record r { priority = p }) (is_alive R t) (form_of R t) _ p.0 _ _ _ _ _ _ (λ maximum root. refl)
    go false = refl

-- a thread joined a queue
joined : (R : Log) (T T' : Table) (u : ObjId) (k : Queue) (reply : Option ObjId) → ChangesRow (λ r. record r { block = Some (Queued k reply) }) T T' u → ThreadsAgree T R → (t : ObjId) → row_of T' t ≡ row_said (rec.Joins u k reply ∷ R) t
joined R T T' u k reply c a t =
    c.rows t ∙ ap (λ o. cond (same t u) (option_map (λ (r : ThreadRow). record r { block = Some (Queued k reply) }) o) o) (a.rows t) ∙ go (same t u)
    ∙ ap (λ o. row_blocked R t (prio_of R t) (mode_of R t) (block_said (unwrap_or (given (same t u) (Some k)) (queue_of R t)) (unwrap_or (given (same t u) reply) (reply_with R t)) o)) (sym (owing-kept (rec.Joins u k reply) R t refl))
  where
    go : (b : Bool) → cond b (option_map (λ (r : ThreadRow). record r { block = Some (Queued k reply) }) (row_said R t)) (row_said R t)
        ≡ row_blocked R t (prio_of R t) (mode_of R t) (block_said (unwrap_or (given b (Some k)) (queue_of R t)) (unwrap_or (given b reply) (reply_with R t)) (owing R t))
    go true = changed-with (λ (r : ThreadRow). record r { block = Some (Queued k reply) }) (is_alive R t) (form_of R t) _ _ _ _ _ (Some (Queued k reply)) _ _ (λ maximum root. refl)
    go false = refl

-- a thread left its queue, and no reply object owes it
parted : (R : Log) (T T' : Table) (u : ObjId) (k : Queue) → Sound R → queue_of R u ≡ Some k → ChangesRow (λ r. record r { block = None }) T T' u → ThreadsAgree T R → (t : ObjId) → row_of T' t ≡ row_said (rec.Parts u k ∷ R) t
parted R T T' u k sound stands c a t =
    c.rows t ∙ ap (λ o. cond (same t u) (option_map (λ (r : ThreadRow). record r { block = None }) o) o) (a.rows t) ∙ go (same t u) refl
    ∙ ap (λ o. row_blocked R t (prio_of R t) (mode_of R t) (block_said (unwrap_or (given (same t u) None) (queue_of R t)) (reply_with R t) o)) (sym (owing-kept (rec.Parts u k) R t refl))
  where
    freed : (o : Option ObjId) → o ≡ None → option_map (λ (r : ThreadRow). record r { block = None }) (row_said R t) ≡ row_blocked R t (prio_of R t) (mode_of R t) (block_said None (reply_with R t) o)
    freed None e = changed-with (λ (r : ThreadRow). record r { block = None }) (is_alive R t) (form_of R t) _ _ _ _ _ None _ _ (λ maximum root. refl)
    freed (Some r) e = absurd cc

    go : (b : Bool) → same t u ≡ b → cond b (option_map (λ (r : ThreadRow). record r { block = None }) (row_said R t)) (row_said R t)
        ≡ row_blocked R t (prio_of R t) (mode_of R t) (block_said (unwrap_or (given b None) (queue_of R t)) (reply_with R t) (owing R t))
    go true e = freed (owing R t) (standing-unowed R t k sound (ap (λ x. queue_of R x) (same-equal t u e) ∙ stands))
    go false e = refl

-- a reply object owes a thread from now on
indebted : (R : Log) (T T' : Table) (d x : ObjId) (s : Option ObjId) → Sound R → Allowed R (rec.Owes d x s) → ChangesRow (λ r. record r { block = Some (OnReply d) }) T T' x → ThreadsAgree T R → (t : ObjId) → row_of T' t ≡ row_said (rec.Owes d x s ∷ R) t
indebted R T T' d x s sound ok c a t = c.rows t ∙ ap (λ o. cond (same t x) (option_map (λ (r : ThreadRow). record r { block = Some (OnReply d) }) o) o) (a.rows t) ∙ go (same t x) refl
  where
    waits : same t x ≡ true → Some (OnReply d) ≡ blocked R t (owing (rec.Owes d x s ∷ R) t)
    waits e = let it : t ≡ x = same-equal t x e in sym (rw (ap (λ y. queue_of R y) it ∙ ok.3.0, ap (λ y. owing (rec.Owes d x s ∷ R) y) it ∙ owing-begun R d x s sound ok) refl)

    go : (b : Bool) → same t x ≡ b → cond b (option_map (λ (r : ThreadRow). record r { block = Some (OnReply d) }) (row_said R t)) (row_said R t) ≡ row_blocked R t (prio_of R t) (mode_of R t) (blocked R t (owing (rec.Owes d x s ∷ R) t))
    go true e = changed-with (λ (r : ThreadRow). record r { block = Some (OnReply d) }) (is_alive R t) (form_of R t) _ _ _ _ _ (Some (OnReply d)) _ _ (λ maximum root. refl) ∙ ap (λ k. row_blocked R t (prio_of R t) (mode_of R t) k) (waits e)
    go false e = ap (λ o. row_blocked R t (prio_of R t) (mode_of R t) (blocked R t o)) (sym (owing-beside R d x t s sound ok e))

-- the debt to a thread ended between R and S
freed : (R S : Log) (T T' : Table) (d x : ObjId) → Sound R → Sound S → owed_by R d ≡ Some x → ((q : ObjId) → owed_by S q ≡ unwrap_or (given (same q d) None) (owed_by R q))
    → ((t : ObjId) → row_of T' t ≡ value_after t x (option_map (λ (r : ThreadRow). record r { block = None }) (row_of T t)) (row_of T t)) → ThreadsAgree T R → (t : ObjId) → row_of T' t ≡ row_blocked R t (prio_of R t) (mode_of R t) (blocked R t (owing S t))
freed R S T T' d x sound sound' owed ends c a t = c t ∙ ap (λ o. cond (same t x) (option_map (λ (r : ThreadRow). record r { block = None }) o) o) (a.rows t) ∙ go (same t x) refl
  where
    free : same t x ≡ true → None ≡ blocked R t (owing S t)
    free e = let it : t ≡ x = same-equal t x e in sym (rw (ap (λ y. queue_of R y) it ∙ owed-stands_none R d x sound owed, ap (λ y. owing S y) it ∙ owing-ended R S d x sound sound' owed ends) refl)

    go : (b : Bool) → same t x ≡ b → cond b (option_map (λ (r : ThreadRow). record r { block = None }) (row_said R t)) (row_said R t) ≡ row_blocked R t (prio_of R t) (mode_of R t) (blocked R t (owing S t))
    go true e = changed-with (λ (r : ThreadRow). record r { block = None }) (is_alive R t) (form_of R t) _ _ _ _ _ None _ _ (λ maximum root. refl) ∙ ap (λ k. row_blocked R t (prio_of R t) (mode_of R t) k) (free e)
    go false e = ap (λ o. row_blocked R t (prio_of R t) (mode_of R t) (blocked R t o)) (sym (owing-left R S d x sound sound' owed ends t e))

-- a thread was bound to a notification, or to none
tied : (R : Log) (T T' : Table) (u : ObjId) (n : Option ObjId) → ChangesRow (with_notification n) T T' u → ThreadsAgree T R → (t : ObjId) → row_of T' t ≡ row_said (rec.Tied u n ∷ R) t
tied R T T' u n c a t =
    c.rows t ∙ ap (λ o. cond (same t u) (option_map (with_notification n) o) o) (a.rows t) ∙ go (same t u)
    ∙ ap (λ o. row_tied (unwrap_or (given (same t u) n) (bound_of R t)) (blocked R t o)) (sym (owing-kept (rec.Tied u n) R t refl))
  where
    row_tied : Option ObjId → Option Block → Option ThreadRow
    row_tied bound k = cond (is_alive R t) (row_with (form_of R t) (prio_of R t) (mode_of R t) k bound) None

    go : (b : Bool) → cond b (option_map (with_notification n) (row_said R t)) (row_said R t) ≡ row_tied (unwrap_or (given b n) (bound_of R t)) (blocked R t (owing R t))
    go true = changed-with (with_notification n) (is_alive R t) (form_of R t) _ _ _ _ _ _ _ n (λ maximum root. refl)
    go false = refl

-- an object of this form was made, whose row is this, if it has one
born : (R : Log) (T T' : Table) (o : ObjId) (f : Form) (new : Option ThreadRow) → Sound R → was_made R o ≡ false
    → row_with (Some f) 0 mode.Inactive None None ≡ new
    → ((t : ObjId) → row_of T' t ≡ cond (same t o) new (row_of T t)) → ThreadsAgree T R → (t : ObjId) → row_of T' t ≡ row_said (rec.Made o f ∷ R) t
born R T T' o f new sound never row c a t = c t ∙ go (same t o) refl
  where
    whole : (p : ℕ) (m : Mode) (q : Option Queue) (w d n : Option ObjId) (b : Bool) → p ≡ 0 → m ≡ mode.Inactive → q ≡ None → d ≡ None → n ≡ None → b ≡ false
        → new ≡ cond (true && not b) (row_with (Some f) p m (block_said q w d) n) None
    whole p m q w d n b hp hm hq hd hn hb = sym row ∙ rw (hp, hm, hq, hd, hn, hb) refl

    go : (b : Bool) → same t o ≡ b → cond b new (row_of T t)
        ≡ cond ((b || was_made R t) && not (was_closed R t)) (row_with (unwrap_or (given b (Some f)) (form_of R t)) (prio_of R t) (mode_of R t) (block_said (queue_of R t) (reply_with R t) (owing (rec.Made o f ∷ R) t)) (bound_of R t)) None
    go true e =
        let blank = ap (was_made R) (same-equal t o e) ∙ never in
        let none = unsaid R t sound blank in
        whole _ _ _ _ _ _ _ none.1 none.2 none.3 (owing-made R o t f sound never ∙ unowed R t sound blank) none.4 (unclosed R t sound blank)
    go false e = a.rows t ∙ ap (λ d. row_blocked R t (prio_of R t) (mode_of R t) (blocked R t d)) (sym (owing-made R o t f sound never))

-- a record that brings nothing to anybody, and neither makes nor closes an object
mails-quiet : (R : Log) (T T' : Table) (r : Rec) → ((t : ObjId) → is_still t r ≡ true) → SameMails T T' → ThreadsAgree T R → (t : ObjId) → mail_in T' t ≡ mail_of (r ∷ R) t
mails-quiet R T T' r still c a t = c t ∙ a.mails t ∙ sym (mail-still R t (r ∷ []) (still t, tt))

-- an object was made, which nothing has reached
mails-made : (R : Log) (T T' : Table) (o : ObjId) (f : Form) → Sound R → was_made R o ≡ false → SameMails T T' → ThreadsAgree T R → (t : ObjId) → mail_in T' t ≡ mail_of (rec.Made o f ∷ R) t
unfolding mail_of
mails-made R T T' o f sound never c a t = c t ∙ a.mails t ∙ new-mail (same t o) refl
  where
    nothing : (b c : Bool) (o : Option Mail) → b ≡ false → o ≡ None → cond (b && c) o None ≡ cond c o None
    nothing true c o e n = absurd cc
    nothing false true o e n = sym n
    nothing false false o e n = refl

    new-mail : (b : Bool) → same t o ≡ b → mail_of R t ≡ mail_of (rec.Made o f ∷ R) t
    new-mail true e =
        let blank = ap (was_made R) (same-equal t o e) ∙ never in
        rw e (nothing (was_made R t) (not (was_closed R t)) (latest_knowing None (mail_brought t) R) blank (unmailed R t sound blank))
    new-mail false e = rw e refl

-- a message was taken
mails-took : (R : Log) (T T' : Table) (m : ℕ) (p : ObjId) (s : Letter) → is_alive R p ≡ true → letter R m ≡ Some s → Mails p (letter_mail s) T T' → ThreadsAgree T R → (t : ObjId) → mail_in T' t ≡ mail_of (rec.Took m p ∷ R) t
mails-took R T T' m p s alive is c a t = c.mails t ∙ go (same t p) refl
  where
    go : (b : Bool) → same t p ≡ b → cond b (Some (letter_mail s)) (mail_in T t) ≡ mail_of (rec.Took m p ∷ R) t
    go true e = sym (mail-took R m p s alive is) ∙ ap (mail_of (rec.Took m p ∷ R)) (sym (same-equal t p e))
    go false e = a.mails t ∙ sym (mail-still R t (rec.Took m p ∷ []) (ap not e, tt))

-- a caller was answered
mails-paid : (R : Log) (T T' : Table) (d x : ObjId) (message : Content) → is_alive R x ≡ true → MailsFreed x (Message (record { 0 = 0 }) message) T T' → ThreadsAgree T R → (t : ObjId) → mail_in T' t ≡ mail_of (rec.Paid d x message ∷ R) t
mails-paid R T T' d x message alive c a t = c.mails t ∙ go (same t x) refl
  where
    go : (b : Bool) → same t x ≡ b → cond b (Some (Message (record { 0 = 0 }) message)) (mail_in T t) ≡ mail_of (rec.Paid d x message ∷ R) t
    go true e = sym (mail-paid R d x message alive) ∙ ap (mail_of (rec.Paid d x message ∷ R)) (sym (same-equal t x e))
    go false e = a.mails t ∙ sym (mail-still R t (rec.Paid d x message ∷ []) (ap not e, tt))

-- who hears a word has it
mail-heard : (R : Log) (u n : ObjId) (word : ℕ) → is_alive R u ≡ true → mail_of (rec.Heard u n word ∷ R) u ≡ Some (Word word)
unfolding mail_of
mail-heard R u n word alive = rw (alive, same-self u) refl

mails-heard : (R : Log) (T T' : Table) (u n : ObjId) (word : ℕ) → is_alive R u ≡ true → Mails u (Word word) T T' → ThreadsAgree T R → (t : ObjId) → mail_in T' t ≡ mail_of (rec.Heard u n word ∷ R) t
mails-heard R T T' u n word alive c a t = c.mails t ∙ go (same t u) refl
  where
    go : (b : Bool) → same t u ≡ b → cond b (Some (Word word)) (mail_in T t) ≡ mail_of (rec.Heard u n word ∷ R) t
    go true e = sym (mail-heard R u n word alive) ∙ ap (mail_of (rec.Heard u n word ∷ R)) (sym (same-equal t u e))
    go false e = a.mails t ∙ sym (mail-still R t (rec.Heard u n word ∷ []) (ap not e, tt))

-- a record that changes nothing of any thread
kept : (R : Log) (T T' : Table) (r : Rec) → T' ≡ T → ((t : ObjId) → is_still t r ≡ true) → ((t : ObjId) → row_said (r ∷ R) t ≡ row_said R t) → counted (makes_kind kind.Thread) (r ∷ R) ≡ counted (makes_kind kind.Thread) R → ThreadsAgree T R → ThreadsAgree T' (r ∷ R)
kept R T T' r is still rows count a = rw is (record { made = a.made ∙ sym count; rows = λ t. a.rows t ∙ sym (rows t); mails = mails-quiet R T T r still (λ t. refl) a })

-- an object of a form without a row is no thread
beside : (R : Log) (T T' : Table) (o : ObjId) (f : Form) → Sound R → Allowed R (rec.Made o f) → T' ≡ T → row_with (Some f) 0 mode.Inactive None None ≡ None → same_kind o.kind kind.Thread ≡ false
    → ThreadsAgree T R → ThreadsAgree T' (rec.Made o f ∷ R)
beside R T T' o f sound ok is none other a =
    let never = never-made R o f sound ok in
    rw is (record {
      made = a.made ∙ rw other refl;
      rows = born R T T o f None sound never none (λ t. absent t (same t o) refl) a;
      mails = mails-made R T T o f sound never (λ t. refl) a;
    })
  where
    absent : (t : ObjId) (b : Bool) → same t o ≡ b → row_of T t ≡ cond b None (row_of T t)
    absent t false e = refl
    absent t true e = a.rows t ∙ ap (λ b. cond (b && not (was_closed R t)) (row_blocked_form t) None) (ap (was_made R) (same-equal t o e) ∙ never-made R o f sound ok)
      where
        row_blocked_form : ObjId → Option ThreadRow
        row_blocked_form t = row_with (form_of R t) (prio_of R t) (mode_of R t) (blocked R t (owing R t)) (bound_of R t)

-- the form of a thread is of a thread alone
runs : (o : ObjId) (maximum : Prio) (root : Cap) → IsFormOf o.kind (form.Runner maximum root) → same_kind o.kind kind.Thread ≡ true
runs o maximum root fits = go o.kind fits
  where
    go : (k : Kind) → IsFormOf k (form.Runner maximum root) → same_kind k kind.Thread ≡ true
    go kind.Thread h = refl
    go kind.CNode h = absurd h
    go kind.Endpoint h = absurd h
    go kind.Notification h = absurd h
    go kind.Reply h = absurd h
    go kind.Context h = absurd h

-- another form is of no thread
no-thread : (k : Kind) (f : Form) → IsFormOf k f → row_with (Some f) 0 mode.Inactive None None ≡ None → same_kind k kind.Thread ≡ false
no-thread kind.Thread (form.Runner maximum root) h e = absurd cc
no-thread kind.Thread form.Plain h e = absurd h
no-thread kind.Thread (form.Slots radix) h e = absurd h
no-thread kind.Thread (form.OnCore core) h e = absurd h
no-thread kind.CNode f h e = refl
no-thread kind.Endpoint f h e = refl
no-thread kind.Notification f h e = refl
no-thread kind.Reply f h e = refl
no-thread kind.Context f h e = refl

-- nothing is kept of what is no thread
unlisted : {A : Type 0} (places : List (Option A)) (o t : ObjId) → same_kind o.kind kind.Thread ≡ false → kept_at kind.Thread places t ≡ value_after t o None (kept_at kind.Thread places t)
unlisted places o t other = go (same t o) refl
  where
    go : (b : Bool) → same t o ≡ b → kept_at kind.Thread places t ≡ cond b None (kept_at kind.Thread places t)
    go false e = refl
    go true e = rw (same-equal t o e, other) refl

-- what the log says of threads after an object was closed
row-closed : (R : Log) (o t : ObjId) → value_after t o None (row_said R t) ≡ row_said (rec.Closed o ∷ R) t
row-closed R o t =
    said-closed R o t _ ∙ ap (λ d. cond (is_alive (rec.Closed o ∷ R) t) (row_with (form_of R t) (prio_of R t) (mode_of R t) (blocked R t d) (bound_of R t)) None) (sym (owing-kept (rec.Closed o) R t refl))

mail-closed : (R : Log) (o t : ObjId) → value_after t o None (mail_of R t) ≡ mail_of (rec.Closed o ∷ R) t
unfolding mail_of
mail-closed R o t = said-closed R o t (latest_knowing None (mail_brought t) R)

-- a thread was closed, or an object of another kind
closed : (R : Log) (T T' : Table) (o : ObjId) → ClosesThread o T T' → ThreadsAgree T R → ThreadsAgree T' (rec.Closed o ∷ R)
closed R T T' o h a = record {
  made = h.made ∙ a.made;
  rows = λ t. h.rows t ∙ ap (λ r. value_after t o None r) (a.rows t) ∙ row-closed R o t;
  mails = λ t. h.mails t ∙ ap (λ m. value_after t o None m) (a.mails t) ∙ mail-closed R o t;
}

unclosed-thread : (R : Log) (T T' : Table) (o : ObjId) → same_kind o.kind kind.Thread ≡ false → T' ≡ T → ThreadsAgree T R → ThreadsAgree T' (rec.Closed o ∷ R)
unclosed-thread R T T' o other is a = closed R T T' o (rw is (record { made = refl; rows = λ t. unlisted T.rows o t other; mails = λ t. unlisted T.mails o t other })) a

ended : (R : Log) (T T' : Table) (o : ObjId) → ThreadsFollowClosed o.kind o T T' → ThreadsAgree T R → ThreadsAgree T' (rec.Closed o ∷ R)
ended R T T' o h a = go o.kind refl h
  where
    go : (k : Kind) → o.kind ≡ k → ThreadsFollowClosed k o T T' → ThreadsAgree T' (rec.Closed o ∷ R)
    go kind.Thread e h = closed R T T' o h a
    go kind.CNode e h = unclosed-thread R T T' o (ap (λ k. same_kind k kind.Thread) e) h a
    go kind.Endpoint e h = unclosed-thread R T T' o (ap (λ k. same_kind k kind.Thread) e) h a
    go kind.Notification e h = unclosed-thread R T T' o (ap (λ k. same_kind k kind.Thread) e) h a
    go kind.Reply e h = unclosed-thread R T T' o (ap (λ k. same_kind k kind.Thread) e) h a
    go kind.Context e h = unclosed-thread R T T' o (ap (λ k. same_kind k kind.Thread) e) h a

-- what the log says of a thread after a record that is not of threads
unturned : (r : Rec) (R : Log) (t : ObjId) (o : Option ObjId) → owing (r ∷ R) t ≡ o → o ≡ owing R t → row_blocked R t (prio_of R t) (mode_of R t) (blocked R t (owing (r ∷ R) t)) ≡ row_said R t
unturned r R t o e f = ap (λ d. row_blocked R t (prio_of R t) (mode_of R t) (blocked R t d)) (e ∙ f)

-- after any record
pub threads-follow : (r : Rec) (R : Log) (T T' : Table) → Sound R → Allowed R r → ThreadsFollow R r T T' → ThreadsAgree T R → ThreadsAgree T' (r ∷ R)
threads-follow (rec.Made o (form.Runner maximum root)) R T T' sound ok h a =
    let never = never-made R o (form.Runner maximum root) sound ok in
    record {
      made = h.made ∙ ap (λ n. n + 1) a.made ∙ rw (runs o maximum root ok.1) refl;
      rows = born R T T' o (form.Runner maximum root) (Some (new_row maximum root)) sound never refl h.rows a;
      mails = mails-made R T T' o (form.Runner maximum root) sound never h.mails a;
    }
threads-follow (rec.Made o form.Plain) R T T' sound ok h a = beside R T T' o form.Plain sound ok h refl (no-thread o.kind form.Plain ok.1 refl) a
threads-follow (rec.Made o (form.Slots radix)) R T T' sound ok h a = beside R T T' o (form.Slots radix) sound ok h refl (no-thread o.kind (form.Slots radix) ok.1 refl) a
threads-follow (rec.Made o (form.OnCore core)) R T T' sound ok h a = beside R T T' o (form.OnCore core) sound ok h refl (no-thread o.kind (form.OnCore core) ok.1 refl) a
threads-follow (rec.Closed o) R T T' sound ok h a = ended R T T' o h a
threads-follow (rec.Slot c i cap) R T T' sound ok h a = kept R T T' (rec.Slot c i cap) h (λ t. refl) (λ t. unturned (rec.Slot c i cap) R t _ (owing-kept (rec.Slot c i cap) R t refl) refl) refl a
threads-follow (rec.Prio u p) R T T' sound ok h a = record { made = h.count ∙ a.made; rows = ranked R T T' u p h a; mails = mails-quiet R T T' (rec.Prio u p) (λ t. refl) h.mails a }
threads-follow (rec.Turns u m) R T T' sound ok h a = record { made = h.count ∙ a.made; rows = turned R T T' u m h a; mails = mails-quiet R T T' (rec.Turns u m) (λ t. refl) h.mails a }
threads-follow (rec.Joins u q reply) R T T' sound ok h a = record { made = h.count ∙ a.made; rows = joined R T T' u q reply h a; mails = mails-quiet R T T' (rec.Joins u q reply) (λ t. refl) h.mails a }
threads-follow (rec.Parts u q) R T T' sound ok h a = record { made = h.count ∙ a.made; rows = parted R T T' u q sound ok h a; mails = mails-quiet R T T' (rec.Parts u q) (λ t. refl) h.mails a }
threads-follow (rec.Sent x e mode badge message) R T T' sound ok h a =
    kept R T T' (rec.Sent x e mode badge message) h (λ t. refl) (λ t. unturned (rec.Sent x e mode badge message) R t _ (owing-kept (rec.Sent x e mode badge message) R t refl) refl) refl a
threads-follow (rec.Took m p) R T T' sound ok h a = record {
  made = h.1.1.made ∙ a.made;
  rows = λ t. h.1.1.rows t ∙ a.rows t ∙ sym (unturned (rec.Took m p) R t _ (owing-kept (rec.Took m p) R t refl) refl);
  mails = mails-took R T T' m p h.0 ok.0.1 h.1.0 h.1.1 a;
}
threads-follow (rec.Dropped m) R T T' sound ok h a = kept R T T' (rec.Dropped m) h (λ t. refl) (λ t. unturned (rec.Dropped m) R t _ (owing-kept (rec.Dropped m) R t refl) refl) refl a
threads-follow (rec.Owes d x s) R T T' sound ok h a = record { made = h.count ∙ a.made; rows = indebted R T T' d x s sound ok h a; mails = mails-quiet R T T' (rec.Owes d x s) (λ t. refl) h.mails a }
threads-follow (rec.Paid d x message) R T T' sound ok h a = record {
  made = h.made ∙ a.made;
  rows = freed R (rec.Paid d x message ∷ R) T T' d x sound (ok, sound) ok (λ q. refl) h.rows a;
  mails = mails-paid R T T' d x message (owed-there R d x sound ok).1.1 h a;
}
threads-follow (rec.Void d x how) R T T' sound ok h a = record {
  made = h.count ∙ a.made;
  rows = freed R (rec.Void d x how ∷ R) T T' d x sound (ok, sound) ok (λ q. refl) h.rows a;
  mails = mails-quiet R T T' (rec.Void d x how) (λ t. refl) h.mails a;
}
threads-follow (rec.Holds s t) R T T' sound ok h a = kept R T T' (rec.Holds s t) h (λ x. refl) (λ x. unturned (rec.Holds s t) R x _ (owing-kept (rec.Holds s t) R x refl) refl) refl a
threads-follow (rec.Raised n badge) R T T' sound ok h a = kept R T T' (rec.Raised n badge) h (λ t. refl) (λ t. unturned (rec.Raised n badge) R t _ (owing-kept (rec.Raised n badge) R t refl) refl) refl a
threads-follow (rec.Heard u n word) R T T' sound ok h a = record {
  made = h.made ∙ a.made;
  rows = λ t. h.rows t ∙ a.rows t ∙ sym (unturned (rec.Heard u n word) R t _ (owing-kept (rec.Heard u n word) R t refl) refl);
  mails = mails-heard R T T' u n word ok.0.1 h a;
}
threads-follow (rec.Tied u n) R T T' sound ok h a = record { made = h.count ∙ a.made; rows = tied R T T' u n h a; mails = mails-quiet R T T' (rec.Tied u n) (λ t. refl) h.mails a }
threads-follow (rec.Homed s n) R T T' sound ok h a = kept R T T' (rec.Homed s n) h (λ x. refl) (λ x. unturned (rec.Homed s n) R x _ (owing-kept (rec.Homed s n) R x refl) refl) refl a

-- a thread that is there is in the table
pub thread-there : (R : Log) (T : Table) (t : ObjId) → Sound R → ThreadsAgree T R → IsThere R kind.Thread t → IsSome (row_of T t)
thread-there R T t sound a there = rw (a.rows t) (has-row R t sound there)

-- who is given a context is in the table
pub given-thread : (R : Log) (T : Table) (s : ObjId) (t : Option ObjId) → Sound R → ThreadsAgree T R → Allowed R (rec.Holds s t) → IfSome t (λ u. IsSome (row_of T u))
given-thread R T s None sound a ok = tt
given-thread R T s (Some t) sound a ok = thread-there R T t sound a ok.1
