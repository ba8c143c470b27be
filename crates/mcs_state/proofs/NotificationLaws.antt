-- The notifications, their pending words, and the threads bound to them follow a record.
use Rattle.std.specs.Prelude.{ℕ, ◌≡◌, ◌&&◌, ◌||◌, Bool, true, false, cond, find, ◌∷◌, [], Option, Some, None, IsSome}
use Rattle.std.specs.Option.{IfSome}
use Rattle.std.proofs.Common.{refl, ap, sym, ◌∙◌, inl, inr}
use Rattle.mcs_types.specs.declared.id.ObjId.{ObjId}
use Rattle.mcs_types.specs.declared.id.Badge.{Badge}
use Rattle.mcs_types.specs.declared.id.Kind.{Kind}
use Rattle.mcs_types.specs.declared.id.Kind.TheVariants as kind
use Rattle.mcs_types.specs.declared.record.Form.{Form}
use Rattle.mcs_types.specs.declared.record.Rec.{Rec}
use Rattle.mcs_types.specs.declared.record.Rec.TheVariants as rec
use Rattle.mcs_types.specs.Ids.{same, same_kind, is_just, value_after}
use Rattle.mcs_types.specs.Words.{with_badge}
use Rattle.mcs_types.proofs.Ids.{same-self, same-equal}
use Rattle.mcs_book.specs.Logs.{Log}
use Rattle.mcs_book.specs.Growing.{growing_word}
use Rattle.mcs_book.specs.Contexts.{contexts, home_of, homed_at}
use Rattle.mcs_book.specs.Notifications.{bound_of, tied_to}
use Rattle.mcs_book.specs.Objects.{was_made}
use Rattle.mcs_book.specs.Sound.{Sound, Allowed, IsThere, IsUnbound, IsNoHome}
use Rattle.mcs_book.specs.Threads.{threads}
use Rattle.mcs_book.proofs.Firm.Laws.{tied-bound, tied-none, homed_at-home, home-homed_at, homed_at-none}
use Rattle.mcs_book.proofs.Objects.MadeLaws.{alive-made, made-in}
use Rattle.mcs_book.proofs.Objects.Same.{is_just-some}
use Rattle.mcs_book.proofs.SoundLogs.KeptLaws.{bound-one, bound-there, home-one, home-there, never-both, same-never, set-other, set-self, set-split}
use Rattle.mcs_book.proofs.Threads.HoldingLaws.{find-alone}
use Rattle.mcs_objects.specs.Store.{one_more}
use Rattle.mcs_notifications.specs.Signals.{Signals, counts as notification_counts, is_there as has_notification, word_in, thread_in, homed_in}
use Rattle.mcs_state.specs.Tables.{NotificationsAgree, shape_said, is_there, word_said}
use Rattle.mcs_state.specs.Following.{NotificationsFollow, NotificationsFollowMade, NotificationsFollowClosed, AddsNotification, ClosesNotification, KeepsWord, KeepsBound, Rebinds, KeepsHomed, Rehomes}
use Rattle.mcs_state.proofs.CountLaws.{never-made, shape-made, shape-beside, shape-closed, shape-unclosed}
use Rattle.mcs_state.proofs.Saying.{unsaid}
use Rattle.mcs_state.proofs.ThereLaws.{there-made, there-beside, there-closed, there-unclosed, said-closed_of, there, released}

-- the thread that is bound to n is found, as it is the only one
tied-found : (R : Log) (t n : ObjId) → Sound R → bound_of R t ≡ Some n → tied_to R n ≡ Some t
unfolding tied_to
tied-found R t n sound bound =
    let f : IsThere R kind.Thread t × IsThere R kind.Notification n = bound-there R t n sound bound in
    find-alone (λ u. is_just (bound_of R u) n) (threads R) t (made-in R t kind.Thread f.0.0 (alive-made R t f.0.1)) (ap (λ d. is_just d n) bound ∙ same-self n)
    (λ u is. bound-one R u t n sound (is_just-some (bound_of R u) n is) bound)

-- where none is bound to n, none is found
tied-nobody : (R : Log) (n : ObjId) → IsUnbound R n → tied_to R n ≡ None
tied-nobody R n none = go (tied_to R n) refl
  where
    go : (o : Option ObjId) → tied_to R n ≡ o → o ≡ None
    go None e = refl
    go (Some t) e = absurd (none t (tied-bound R n t e))

-- who is found where the same threads are bound in two logs
tied-same : (R S : Log) (n : ObjId) → Sound R → Sound S → ((t : ObjId) → bound_of R t ≡ Some n → bound_of S t ≡ Some n) → ((t : ObjId) → bound_of S t ≡ Some n → bound_of R t ≡ Some n) → tied_to S n ≡ tied_to R n
tied-same R S n sound sound' to from = go (tied_to R n) refl
  where
    go : (o : Option ObjId) → tied_to R n ≡ o → tied_to S n ≡ o
    go None e = tied-nobody S n (λ t h. tied-none R n sound e t (from t h))
    go (Some t) e = tied-found S t n sound' (to t (tied-bound R n t e))

-- a thread is bound to n: it is found there, and at the others who was found before
tied-begun : (R : Log) (t n : ObjId) → Sound R → Allowed R (rec.Tied t (Some n)) → tied_to (rec.Tied t (Some n) ∷ R) n ≡ Some t
tied-begun R t n sound ok = tied-found (rec.Tied t (Some n) ∷ R) t n (ok, sound) (set-self t (Some n) (bound_of R t))

tied-beside : (R : Log) (t n x : ObjId) → Sound R → Allowed R (rec.Tied t (Some n)) → same x n ≡ false → tied_to (rec.Tied t (Some n) ∷ R) x ≡ tied_to R x
tied-beside R t n x sound ok other =
    tied-same R (rec.Tied t (Some n) ∷ R) x sound (ok, sound)
    (λ u h. set-other u t (Some n) (bound_of R u) (λ is. never-both (bound_of R t) x (ap (λ z. bound_of R z) (sym is) ∙ h) ok.2) ∙ h)
    (λ u h. elim (set-split u t (Some n) (bound_of R u) (Some x) h) [
      | inl (who, is) ↦ (let it : x ≡ n = cc in absurd (same-never x n it other))
      | inr (apart, is) ↦ is
    ])

-- the thread t is bound no more to n
module _ (R : Log) (t n : ObjId) (sound : Sound R) (ok : Allowed R (rec.Tied t None)) (bound : bound_of R t ≡ Some n) where
  still-bound : (u x : ObjId) → bound_of (rec.Tied t None ∷ R) u ≡ Some x → (same u t ≡ false) × (bound_of R u ≡ Some x)
  still-bound u x h = elim (set-split u t None (bound_of R u) (Some x) h) [ inl (who, is) ↦ absurd cc | inr (other, is) ↦ (other, is) ]

  tied-ended : tied_to (rec.Tied t None ∷ R) n ≡ None
  tied-ended = tied-nobody (rec.Tied t None ∷ R) n (λ u h. let f : (same u t ≡ false) × (bound_of R u ≡ Some n) = still-bound u n h in same-never u t (bound-one R u t n sound f.1 bound) f.0)

  tied-left : (x : ObjId) → same x n ≡ false → tied_to (rec.Tied t None ∷ R) x ≡ tied_to R x
  tied-left x other =
      tied-same R (rec.Tied t None ∷ R) x sound (ok, sound)
      (λ u h. set-other u t None (bound_of R u) (λ is. let both : Some x ≡ Some n = sym h ∙ ap (λ z. bound_of R z) is ∙ bound in let it : x ≡ n = cc in same-never x n it other) ∙ h)
      (λ u h. (still-bound u x h).1)

-- whether a record neither makes an object nor binds a thread
abbrev is_tieless : Rec → Bool
is_tieless (rec.Made o f) = false
is_tieless (rec.Tied t n) = false
is_tieless _ = true

-- such a record leaves who is bound to what
tied-kept : (r : Rec) (R : Log) (n : ObjId) → is_tieless r ≡ true → tied_to (r ∷ R) n ≡ tied_to R n
unfolding tied_to
tied-kept (rec.Made o f) R n h = absurd cc
tied-kept (rec.Tied t m) R n h = absurd cc
tied-kept _ R n h = refl

-- and so does the making of an object
tied-made : (R : Log) (o n : ObjId) (f : Form) → Sound R → was_made R o ≡ false → tied_to (rec.Made o f ∷ R) n ≡ tied_to R n
unfolding tied_to
tied-made R o n f sound never = go (same_kind o.kind kind.Thread)
  where
    go : (b : Bool) → find (λ t. is_just (bound_of R t) n) (cond b (o ∷ threads R) (threads R)) ≡ find (λ t. is_just (bound_of R t) n) (threads R)
    go false = refl
    go true = ap (λ d. cond (is_just d n) (Some o) (find (λ t. is_just (bound_of R t) n) (threads R))) (unsaid R o sound never).4

-- where none is homed at n, none is found
homed-nobody : (R : Log) (n : ObjId) → IsNoHome R n → homed_at R n ≡ None
homed-nobody R n none = go (homed_at R n) refl
  where
    go : (o : Option ObjId) → homed_at R n ≡ o → o ≡ None
    go None e = refl
    go (Some s) e = absurd (none s (homed_at-home R n s e))

-- what is found where the same contexts are homed in two logs
homed-same : (R S : Log) (n : ObjId) → Sound R → Sound S → ((s : ObjId) → home_of R s ≡ Some n → home_of S s ≡ Some n) → ((s : ObjId) → home_of S s ≡ Some n → home_of R s ≡ Some n) → homed_at S n ≡ homed_at R n
homed-same R S n sound sound' to from = go (homed_at R n) refl
  where
    go : (o : Option ObjId) → homed_at R n ≡ o → homed_at S n ≡ o
    go None e = homed-nobody S n (λ s h. homed_at-none R n sound e s (from s h))
    go (Some s) e = home-homed_at S n s sound' (to s (homed_at-home R n s e))

-- a context is homed at n: it is found there, and at the others what was found before
homed-begun : (R : Log) (s n : ObjId) → Sound R → Allowed R (rec.Homed s (Some n)) → homed_at (rec.Homed s (Some n) ∷ R) n ≡ Some s
homed-begun R s n sound ok = home-homed_at (rec.Homed s (Some n) ∷ R) n s (ok, sound) (set-self s (Some n) (home_of R s))

homed-beside : (R : Log) (s n x : ObjId) → Sound R → Allowed R (rec.Homed s (Some n)) → same x n ≡ false → homed_at (rec.Homed s (Some n) ∷ R) x ≡ homed_at R x
homed-beside R s n x sound ok other =
    homed-same R (rec.Homed s (Some n) ∷ R) x sound (ok, sound)
    (λ u h. set-other u s (Some n) (home_of R u) (λ is. never-both (home_of R s) x (ap (λ z. home_of R z) (sym is) ∙ h) ok.2) ∙ h)
    (λ u h. elim (set-split u s (Some n) (home_of R u) (Some x) h) [
      | inl (who, is) ↦ (let it : x ≡ n = cc in absurd (same-never x n it other))
      | inr (apart, is) ↦ is
    ])

-- the context s is homed no more at n
module _ (R : Log) (s n : ObjId) (sound : Sound R) (ok : Allowed R (rec.Homed s None)) (home : home_of R s ≡ Some n) where
  still-home : (u x : ObjId) → home_of (rec.Homed s None ∷ R) u ≡ Some x → (same u s ≡ false) × (home_of R u ≡ Some x)
  still-home u x h = elim (set-split u s None (home_of R u) (Some x) h) [ inl (who, is) ↦ absurd cc | inr (other, is) ↦ (other, is) ]

  homed-ended : homed_at (rec.Homed s None ∷ R) n ≡ None
  homed-ended = homed-nobody (rec.Homed s None ∷ R) n (λ u h. let f : (same u s ≡ false) × (home_of R u ≡ Some n) = still-home u n h in same-never u s (home-one R u s n sound f.1 home) f.0)

  homed-left : (x : ObjId) → same x n ≡ false → homed_at (rec.Homed s None ∷ R) x ≡ homed_at R x
  homed-left x other =
      homed-same R (rec.Homed s None ∷ R) x sound (ok, sound)
      (λ u h. set-other u s None (home_of R u) (λ is. let both : Some x ≡ Some n = sym h ∙ ap (λ z. home_of R z) is ∙ home in let it : x ≡ n = cc in same-never x n it other) ∙ h)
      (λ u h. (still-home u x h).1)

-- whether a record neither makes an object nor homes a context
abbrev is_homeless : Rec → Bool
is_homeless (rec.Made o f) = false
is_homeless (rec.Homed s n) = false
is_homeless _ = true

-- such a record leaves what is homed where
homed-kept : (r : Rec) (R : Log) (n : ObjId) → is_homeless r ≡ true → homed_at (r ∷ R) n ≡ homed_at R n
unfolding homed_at
homed-kept (rec.Made o f) R n h = absurd cc
homed-kept (rec.Homed s m) R n h = absurd cc
homed-kept _ R n h = refl

-- what was never made is homed nowhere
never-homed : (R : Log) (o : ObjId) → Sound R → was_made R o ≡ false → home_of R o ≡ None
never-homed R o sound never = go (home_of R o) refl
  where
    go : (h : Option ObjId) → home_of R o ≡ h → h ≡ None
    go None e = refl
    go (Some n) e = let no : true ≡ false = sym (alive-made R o (home-there R o n sound e).0.1) ∙ never in absurd cc

-- and so does the making of an object
homed-made : (R : Log) (o n : ObjId) (f : Form) → Sound R → was_made R o ≡ false → homed_at (rec.Made o f ∷ R) n ≡ homed_at R n
unfolding homed_at
homed-made R o n f sound never = go (same_kind o.kind kind.Context)
  where
    go : (b : Bool) → find (λ s. is_just (home_of R s) n) (cond b (o ∷ contexts R) (contexts R)) ≡ find (λ s. is_just (home_of R s) n) (contexts R)
    go false = refl
    go true = ap (λ d. cond (is_just d n) (Some o) (find (λ s. is_just (home_of R s) n) (contexts R))) (never-homed R o sound never)

-- no badge was raised of what was never made
pub unraised : (R : Log) (n : ObjId) → Sound R → was_made R n ≡ false → growing_word R n ≡ None
unraised [] n sound h = refl
unraised (rec.Made o f ∷ R) n sound h = go (same n o) h (unraised R n sound.1)
  where
    go : (b : Bool) → (b || was_made R n) ≡ false → (was_made R n ≡ false → growing_word R n ≡ None) → growing_word R n ≡ None
    go true h later = absurd cc
    go false h later = later h
unraised (rec.Raised k badge ∷ R) n sound h = go (same n k) refl (unraised R n sound.1 h)
  where
    go : (b : Bool) → same n k ≡ b → growing_word R n ≡ None → cond b (Some (with_badge badge.0 (growing_word R n))) (growing_word R n) ≡ None
    go true e later = let no : true ≡ false = sym (alive-made R k sound.0.0.1) ∙ ap (was_made R) (sym (same-equal n k e)) ∙ h in absurd cc
    go false e later = later
unraised (rec.Heard t k word ∷ R) n sound h = go (same n k) (unraised R n sound.1 h)
  where
    go : (b : Bool) → growing_word R n ≡ None → cond b None (growing_word R n) ≡ None
    go true later = refl
    go false later = later
unraised (_ ∷ R) n sound h = unraised R n sound.1 h

-- the log says of the notifications what it said
still : (R S : Log) (v w : Signals) → w ≡ v → shape_said kind.Notification R ≡ shape_said kind.Notification S → ((x : ObjId) → is_there R kind.Notification x ≡ is_there S kind.Notification x)
    → ((x : ObjId) → word_said R x ≡ word_said S x) → ((x : ObjId) → tied_to S x ≡ tied_to R x) → ((x : ObjId) → homed_at S x ≡ homed_at R x) → NotificationsAgree v R → NotificationsAgree w S
still R S v w is counts there words tied homed a = rw is (record {
  counts = a.counts ∙ counts;
  there = λ x. a.there x ∙ there x;
  words = λ x. a.words x ∙ words x;
  threads = λ x. a.threads x ∙ sym (tied x);
  homed = λ x. a.homed x ∙ sym (homed x);
})

-- what was made has no pending word, and the others have theirs
word-made : (R : Log) (o x : ObjId) (f : Form) → Sound R → was_made R o ≡ false → word_said R x ≡ word_said (rec.Made o f ∷ R) x
word-made R o x f sound never = go (same x o) refl ∙ ap (λ b. cond b (growing_word R x) None) (there-made R o x f kind.Notification sound never)
  where
    unmade : (a b : Bool) (word : Option ℕ) → word ≡ None → cond a word None ≡ cond b word None
    unmade true true word none = refl
    unmade true false word none = none
    unmade false true word none = sym none
    unmade false false word none = refl

    beside : (a b : Bool) → cond b (growing_word R x) None ≡ cond ((a && false) || b) (growing_word R x) None
    beside true b = refl
    beside false b = refl

    go : (b : Bool) → same x o ≡ b → word_said R x ≡ cond ((same_kind x.kind kind.Notification && b) || is_there R kind.Notification x) (growing_word R x) None
    go true e = unmade _ _ _ (unraised R x sound (ap (was_made R) (same-equal x o e) ∙ never))
    go false e = beside (same_kind x.kind kind.Notification) (is_there R kind.Notification x)

-- an object of another kind was made
beside : (R : Log) (v w : Signals) (o : ObjId) (f : Form) → Sound R → Allowed R (rec.Made o f) → same_kind o.kind kind.Notification ≡ false → w ≡ v → NotificationsAgree v R → NotificationsAgree w (rec.Made o f ∷ R)
beside R v w o f sound ok other is a =
    let never = never-made R o f sound ok in
    still R (rec.Made o f ∷ R) v w is (shape-beside R o f kind.Notification sound ok other) (λ x. there-beside R o x f kind.Notification other) (λ x. word-made R o x f sound never) (λ x. tied-made R o x f sound never) (λ x. homed-made R o x f sound never) a

-- a notification was made
added : (R : Log) (v w : Signals) (o : ObjId) (f : Form) → Sound R → Allowed R (rec.Made o f) → o.kind ≡ kind.Notification → AddsNotification o v w → NotificationsAgree v R → NotificationsAgree w (rec.Made o f ∷ R)
added R v w o f sound ok is h a = record {
  counts = h.counts ∙ ap one_more a.counts ∙ shape-made R o f kind.Notification sound ok (ap (λ k. same_kind k kind.Notification) is);
  there = λ x. h.there x ∙ ap (λ b. value_after x o true b) (a.there x) ∙ go x (same x o) refl ∙ there-made R o x f kind.Notification sound never;
  words = λ x. h.words x ∙ a.words x ∙ word-made R o x f sound never;
  threads = λ x. h.threads x ∙ a.threads x ∙ sym (tied-made R o x f sound never);
  homed = λ x. h.homed x ∙ a.homed x ∙ sym (homed-made R o x f sound never);
}
  where
    never : was_made R o ≡ false
    never = never-made R o f sound ok

    either : (b c : Bool) → c ≡ ((b && false) || c)
    either true c = refl
    either false c = refl

    go : (x : ObjId) (b : Bool) → same x o ≡ b → cond b true (is_there R kind.Notification x) ≡ ((same_kind x.kind kind.Notification && b) || is_there R kind.Notification x)
    go x false e = either (same_kind x.kind kind.Notification) (is_there R kind.Notification x)
    go x true e = sym (ap (λ b. (b && true) || is_there R kind.Notification x) (ap (λ (y : ObjId). same_kind y.kind kind.Notification) (same-equal x o e) ∙ ap (λ k. same_kind k kind.Notification) is))

born : (R : Log) (v w : Signals) (o : ObjId) (f : Form) → Sound R → Allowed R (rec.Made o f) → NotificationsFollowMade o.kind o v w → NotificationsAgree v R → NotificationsAgree w (rec.Made o f ∷ R)
born R v w o f sound ok h a = go o.kind refl h
  where
    go : (k : Kind) → o.kind ≡ k → NotificationsFollowMade k o v w → NotificationsAgree w (rec.Made o f ∷ R)
    go kind.Notification e h = added R v w o f sound ok e h a
    go kind.CNode e h = beside R v w o f sound ok (ap (λ k. same_kind k kind.Notification) e) h a
    go kind.Thread e h = beside R v w o f sound ok (ap (λ k. same_kind k kind.Notification) e) h a
    go kind.Endpoint e h = beside R v w o f sound ok (ap (λ k. same_kind k kind.Notification) e) h a
    go kind.Reply e h = beside R v w o f sound ok (ap (λ k. same_kind k kind.Notification) e) h a
    go kind.Context e h = beside R v w o f sound ok (ap (λ k. same_kind k kind.Notification) e) h a

-- a notification was closed
closed : (R : Log) (v w : Signals) (o : ObjId) → Sound R → Allowed R (rec.Closed o) → o.kind ≡ kind.Notification → ClosesNotification o v w → NotificationsAgree v R → NotificationsAgree w (rec.Closed o ∷ R)
closed R v w o sound ok is h a = record {
  counts = shape-closed R o kind.Notification (notification_counts v) (notification_counts w) sound ok (ap (λ k. same_kind k kind.Notification) is) h.counts a.counts;
  there = λ x. h.there x ∙ ap (λ b. value_after x o false b) (a.there x) ∙ there-closed R o x kind.Notification;
  words = λ x. h.words x ∙ ap (λ d. value_after x o None d) (a.words x) ∙ said-closed_of R o x kind.Notification (growing_word R x);
  threads = λ x. h.threads x ∙ a.threads x ∙ sym (tied-kept (rec.Closed o) R x refl);
  homed = λ x. h.homed x ∙ a.homed x ∙ sym (homed-kept (rec.Closed o) R x refl);
}

-- an object of another kind was closed
unclosed-notification : (R : Log) (v w : Signals) (o : ObjId) → Sound R → Allowed R (rec.Closed o) → same_kind o.kind kind.Notification ≡ false → w ≡ v → NotificationsAgree v R → NotificationsAgree w (rec.Closed o ∷ R)
unclosed-notification R v w o sound ok other is a =
    still R (rec.Closed o ∷ R) v w is (shape-unclosed R o kind.Notification sound ok other) (λ x. there-unclosed R o x kind.Notification other)
    (λ x. ap (λ b. cond b (growing_word R x) None) (there-unclosed R o x kind.Notification other)) (λ x. tied-kept (rec.Closed o) R x refl) (λ x. homed-kept (rec.Closed o) R x refl) a

ended : (R : Log) (v w : Signals) (o : ObjId) → Sound R → Allowed R (rec.Closed o) → NotificationsFollowClosed o.kind o v w → NotificationsAgree v R → NotificationsAgree w (rec.Closed o ∷ R)
ended R v w o sound ok h a = go o.kind refl h
  where
    go : (k : Kind) → o.kind ≡ k → NotificationsFollowClosed k o v w → NotificationsAgree w (rec.Closed o ∷ R)
    go kind.Notification e h = closed R v w o sound ok e h a
    go kind.CNode e h = unclosed-notification R v w o sound ok (ap (λ k. same_kind k kind.Notification) e) h a
    go kind.Thread e h = unclosed-notification R v w o sound ok (ap (λ k. same_kind k kind.Notification) e) h a
    go kind.Endpoint e h = unclosed-notification R v w o sound ok (ap (λ k. same_kind k kind.Notification) e) h a
    go kind.Reply e h = unclosed-notification R v w o sound ok (ap (λ k. same_kind k kind.Notification) e) h a
    go kind.Context e h = unclosed-notification R v w o sound ok (ap (λ k. same_kind k kind.Notification) e) h a

-- the word of n was set between R and S
worded : (R S : Log) (v w : Signals) (n : ObjId) (word : Option ℕ) → KeepsWord n word v w → shape_said kind.Notification R ≡ shape_said kind.Notification S → ((x : ObjId) → is_there R kind.Notification x ≡ is_there S kind.Notification x)
    → ((x : ObjId) → value_after x n word (word_said R x) ≡ word_said S x) → ((x : ObjId) → tied_to S x ≡ tied_to R x) → ((x : ObjId) → homed_at S x ≡ homed_at R x) → NotificationsAgree v R → NotificationsAgree w S
worded R S v w n word h counts there words tied homed a = record {
  counts = h.objects.counts ∙ a.counts ∙ counts;
  there = λ x. h.objects.there x ∙ a.there x ∙ there x;
  words = λ x. h.words x ∙ ap (λ o. value_after x n word o) (a.words x) ∙ words x;
  threads = λ x. h.threads x ∙ a.threads x ∙ sym (tied x);
  homed = λ x. h.homed x ∙ a.homed x ∙ sym (homed x);
}

-- the word of a notification that is there gains a badge
word-raised : (R : Log) (n x : ObjId) (badge : Badge) (word : Option ℕ) → IsThere R kind.Notification n → word ≡ word_said R n → value_after x n (Some (with_badge badge.0 word)) (word_said R x) ≡ word_said (rec.Raised n badge ∷ R) x
word-raised R n x badge word is known = go (same x n) refl
  where
    go : (b : Bool) → same x n ≡ b → cond b (Some (with_badge badge.0 word)) (word_said R x) ≡ cond (is_there R kind.Notification x) (cond b (Some (with_badge badge.0 (growing_word R x))) (growing_word R x)) None
    go false e = refl
    go true e = rw (same-equal x n e, known, there R kind.Notification n is) refl

-- a word that is heard is gone, also of what is not there
word-heard : (R : Log) (t n x : ObjId) (word : ℕ) → value_after x n None (word_said R x) ≡ word_said (rec.Heard t n word ∷ R) x
word-heard R t n x word = go (same x n) (is_there R kind.Notification x)
  where
    go : (b c : Bool) → cond b None (cond c (growing_word R x) None) ≡ cond c (cond b None (growing_word R x)) None
    go false c = refl
    go true true = refl
    go true false = refl

-- the thread of n was set between R and S
rebound : (R S : Log) (v w : Signals) (n : ObjId) (t : Option ObjId) → KeepsBound n t v w → shape_said kind.Notification R ≡ shape_said kind.Notification S → ((x : ObjId) → is_there R kind.Notification x ≡ is_there S kind.Notification x)
    → ((x : ObjId) → word_said R x ≡ word_said S x) → tied_to S n ≡ t → ((x : ObjId) → same x n ≡ false → tied_to S x ≡ tied_to R x) → ((x : ObjId) → homed_at S x ≡ homed_at R x) → NotificationsAgree v R → NotificationsAgree w S
rebound R S v w n t h counts there words here others homed a = record {
  counts = h.objects.counts ∙ a.counts ∙ counts;
  there = λ x. h.objects.there x ∙ a.there x ∙ there x;
  words = λ x. h.words x ∙ a.words x ∙ words x;
  threads = λ x. h.threads x ∙ ap (λ o. value_after x n t o) (a.threads x) ∙ go x (same x n) refl;
  homed = λ x. h.homed x ∙ a.homed x ∙ sym (homed x);
}
  where
    go : (x : ObjId) (b : Bool) → same x n ≡ b → cond b t (tied_to R x) ≡ tied_to S x
    go x false e = sym (others x e)
    go x true e = sym (ap (λ y. tied_to S y) (same-equal x n e) ∙ here)

-- what is some is not none
never-none : (o : Option ObjId) → IsSome o → o ≡ None → ⊥
never-none None some none = absurd cc
never-none (Some x) some none = absurd cc

-- a thread is bound no more
untied : (R : Log) (v w : Signals) (t : ObjId) (from : Option ObjId) → Sound R → Allowed R (rec.Tied t None) → bound_of R t ≡ from → Rebinds t from None v w → NotificationsAgree v R → NotificationsAgree w (rec.Tied t None ∷ R)
untied R v w t (Some n) sound ok is h a =
    rebound R (rec.Tied t None ∷ R) v w n None h refl (λ x. refl) (λ x. refl) (tied-ended R t n sound ok is) (tied-left R t n sound ok is) (λ x. homed-kept (rec.Tied t None) R x refl) a
untied R v w t None sound ok is h a = absurd (never-none (bound_of R t) ok is)

-- what is homed at n was set between R and S
rehomed : (R S : Log) (v w : Signals) (n : ObjId) (s : Option ObjId) → KeepsHomed n s v w → shape_said kind.Notification R ≡ shape_said kind.Notification S → ((x : ObjId) → is_there R kind.Notification x ≡ is_there S kind.Notification x)
    → ((x : ObjId) → word_said R x ≡ word_said S x) → ((x : ObjId) → tied_to S x ≡ tied_to R x) → homed_at S n ≡ s → ((x : ObjId) → same x n ≡ false → homed_at S x ≡ homed_at R x) → NotificationsAgree v R → NotificationsAgree w S
rehomed R S v w n s h counts there words tied here others a = record {
  counts = h.objects.counts ∙ a.counts ∙ counts;
  there = λ x. h.objects.there x ∙ a.there x ∙ there x;
  words = λ x. h.words x ∙ a.words x ∙ words x;
  threads = λ x. h.threads x ∙ a.threads x ∙ sym (tied x);
  homed = λ x. h.homed x ∙ ap (λ o. value_after x n s o) (a.homed x) ∙ go x (same x n) refl;
}
  where
    go : (x : ObjId) (b : Bool) → same x n ≡ b → cond b s (homed_at R x) ≡ homed_at S x
    go x false e = sym (others x e)
    go x true e = sym (ap (λ y. homed_at S y) (same-equal x n e) ∙ here)

-- a context is homed nowhere any more
unhomed : (R : Log) (v w : Signals) (s : ObjId) (from : Option ObjId) → Sound R → Allowed R (rec.Homed s None) → home_of R s ≡ from → Rehomes s from None v w → NotificationsAgree v R → NotificationsAgree w (rec.Homed s None ∷ R)
unhomed R v w s (Some n) sound ok is h a =
    rehomed R (rec.Homed s None ∷ R) v w n None h refl (λ x. refl) (λ x. refl) (λ x. tied-kept (rec.Homed s None) R x refl) (homed-ended R s n sound ok is) (homed-left R s n sound ok is) a
unhomed R v w s None sound ok is h a = absurd (never-none (home_of R s) ok is)

-- after any record
pub notifications-follow : (r : Rec) (R : Log) (v w : Signals) → Sound R → Allowed R r → NotificationsFollow R r v w → NotificationsAgree v R → NotificationsAgree w (r ∷ R)
notifications-follow (rec.Made o f) R v w sound ok h a = born R v w o f sound ok h a
notifications-follow (rec.Closed o) R v w sound ok h a = ended R v w o sound ok h a
notifications-follow (rec.Raised n badge) R v w sound ok h a = worded R (rec.Raised n badge ∷ R) v w n _ h refl (λ x. refl) (λ x. word-raised R n x badge (word_in v n) ok.0 (a.words n)) (λ x. tied-kept (rec.Raised n badge) R x refl) (λ x. homed-kept (rec.Raised n badge) R x refl) a
notifications-follow (rec.Heard t n word) R v w sound ok h a = worded R (rec.Heard t n word ∷ R) v w n None h refl (λ x. refl) (λ x. word-heard R t n x word) (λ x. tied-kept (rec.Heard t n word) R x refl) (λ x. homed-kept (rec.Heard t n word) R x refl) a
notifications-follow (rec.Tied t None) R v w sound ok h a = untied R v w t (bound_of R t) sound ok refl h a
notifications-follow (rec.Tied t (Some n)) R v w sound ok h a =
    rebound R (rec.Tied t (Some n) ∷ R) v w n (Some t) h refl (λ x. refl) (λ x. refl) (tied-begun R t n sound ok) (λ x other. tied-beside R t n x sound ok other) (λ x. homed-kept (rec.Tied t (Some n)) R x refl) a
notifications-follow (rec.Homed s None) R v w sound ok h a = unhomed R v w s (home_of R s) sound ok refl h a
notifications-follow (rec.Homed s (Some n)) R v w sound ok h a =
    rehomed R (rec.Homed s (Some n) ∷ R) v w n (Some s) h refl (λ x. refl) (λ x. refl) (λ x. tied-kept (rec.Homed s (Some n)) R x refl) (homed-begun R s n sound ok) (λ x other. homed-beside R s n x sound ok other) a
notifications-follow r R v w sound ok h a = still R (r ∷ R) v w h refl (λ x. refl) (λ x. refl) (λ x. tied-kept r R x refl) (λ x. homed-kept r R x refl) a

-- the notification to which a thread is bound is in the table
pub bound-listed : (R : Log) (v : Signals) (t : ObjId) → Sound R → NotificationsAgree v R → IfSome (bound_of R t) (λ n. has_notification v n ≡ true)
bound-listed R v t sound a = go (bound_of R t) refl
  where
    go : (o : Option ObjId) → bound_of R t ≡ o → IfSome o (λ n. has_notification v n ≡ true)
    go None e = tt
    go (Some n) e = a.there n ∙ there R kind.Notification n (bound-there R t n sound e).1

-- and so is the one to which it is bound anew
pub tied-listed : (R : Log) (v : Signals) (t : ObjId) (n : Option ObjId) → NotificationsAgree v R → Allowed R (rec.Tied t n) → IfSome n (λ m. has_notification v m ≡ true)
tied-listed R v t None a ok = tt
tied-listed R v t (Some n) a ok = a.there n ∙ there R kind.Notification n ok.1

-- a notification that may be closed is in the table, and no thread is bound to it
pub closing-notification : (R : Log) (v : Signals) (n : ObjId) → n.kind ≡ kind.Notification → Allowed R (rec.Closed n) → NotificationsAgree v R → has_notification v n ≡ true
closing-notification R v n is ok a = a.there n ∙ there R kind.Notification n (is, ok.0)

pub closing-unbound : (R : Log) (v : Signals) (n : ObjId) → n.kind ≡ kind.Notification → Allowed R (rec.Closed n) → NotificationsAgree v R → thread_in v n ≡ None
closing-unbound R v n is ok a = a.threads n ∙ tied-nobody R n (released R n kind.Notification is ok).1

pub closing-homeless : (R : Log) (v : Signals) (n : ObjId) → n.kind ≡ kind.Notification → Allowed R (rec.Closed n) → NotificationsAgree v R → homed_in v n ≡ None
closing-homeless R v n is ok a = a.homed n ∙ homed-nobody R n (released R n kind.Notification is ok).2

-- the notification at which a context is homed is in the table
pub home-listed : (R : Log) (v : Signals) (s : ObjId) → Sound R → NotificationsAgree v R → IfSome (home_of R s) (λ n. has_notification v n ≡ true)
home-listed R v s sound a = go (home_of R s) refl
  where
    go : (o : Option ObjId) → home_of R s ≡ o → IfSome o (λ n. has_notification v n ≡ true)
    go None e = tt
    go (Some n) e = a.there n ∙ there R kind.Notification n (home-there R s n sound e).1

-- and so is the one at which it is homed anew
pub homed-listed : (R : Log) (v : Signals) (s : ObjId) (n : Option ObjId) → NotificationsAgree v R → Allowed R (rec.Homed s n) → IfSome n (λ m. has_notification v m ≡ true)
homed-listed R v s None a ok = tt
homed-listed R v s (Some n) a ok = a.there n ∙ there R kind.Notification n ok.1
