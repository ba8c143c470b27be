-- What the checks of a line of the boot say of the log.
use Rattle.std.specs.Prelude.{ℕ, suc, ◌≡◌, ◌<◌, ◌≤◌, ◌+◌, ◌||◌, Bool, true, false, cond, not, nat_lt, List, [], ◌∷◌, ◌++◌, length, Option, Some, None, Err, IsTrue, is_ok, is_none, is_some, unwrap_or, reverse}
use Rattle.std.specs.Option.{IfSome}
use Rattle.std.proofs.lemmas.Grind.{common_steps}
use Rattle.std.specs.Prelude.{take, drop, get_or}
use Rattle.std.proofs.lemmas.List.{reverse-append, reverse-reverse, take-append-drop, take_more}
use Rattle.std.proofs.Common.{refl, ap, sym, ◌∙◌, subst, arith, inl, inr}
use Rattle.mcs_types.specs.declared.id.ObjId.{ObjId}
use Rattle.mcs_types.specs.declared.id.Kind.{Kind}
use Rattle.mcs_types.specs.declared.id.Kind.TheVariants as kind
use Rattle.mcs_types.specs.declared.boot.BootLine.{BootLine}
use Rattle.mcs_types.specs.declared.boot.BootLine.TheVariants as boot
use Rattle.mcs_types.specs.declared.boot.BootFault.TheVariants as fault
use Rattle.mcs_types.specs.declared.record.Form.{Form}
use Rattle.mcs_types.specs.declared.record.Queue.{Queue}
use Rattle.mcs_types.specs.declared.record.Rec.TheVariants as rec
use Rattle.mcs_types.specs.Ids.{same, same_kind}
use Rattle.mcs_book.specs.Logs.{Log, counted, given, onto}
use Rattle.mcs_book.specs.Objects.{made_of, makes_kind, was_made, was_closed, is_alive, number_of, next_id}
use Rattle.mcs_book.specs.Queues.{queue_of}
use Rattle.mcs_book.specs.Contexts.{holder_of}
use Rattle.mcs_book.specs.Notifications.{bound_of, tied_to}
use Rattle.mcs_book.specs.Replies.{owed_by}
use Rattle.mcs_book.specs.Checks.{◌>>◌, need}
use Rattle.mcs_book.specs.Boots.{is_object, has_numbers, has_objects, has_room, is_free, boot_check, boot_log, is_context_any, AreFaultless}
use Rattle.mcs_book.specs.Boots.{boot_line}
use Rattle.mcs_book.specs.History.{Line, past}
use Rattle.mcs_book.proofs.Objects.MadeLaws.{made-serial}
use Rattle.mcs_state.specs.Now.{Now, so_far}
use Rattle.mcs_types.specs.declared.record.Mode.{Mode}
use Rattle.mcs_types.specs.declared.id.Prio.{Prio}
use Rattle.mcs_book.specs.Sound.{Sound, Allowed, IsThere, IsUnbound, HoldsNone}
use Rattle.mcs_types.proofs.Ids.{both, parts, same-self, same_kind-equal}
use Rattle.mcs_book.proofs.Firm.Laws.{tied-none, none-is}
use Rattle.mcs_book.proofs.Queues.Sorted.{In}
use Rattle.mcs_book.proofs.Queues.QueueLaws.{standing-made}
use Rattle.mcs_types.specs.Limits.{object_limit}
use Rattle.mcs_state.specs.Making.{HasRoom}
use Rattle.mcs_boots.specs.Booted.{IsBooting}

-- a line of the boot closes nothing
line-closes : (R : Log) (line : BootLine) (o : ObjId) → was_closed R o ≡ false → was_closed (onto (boot_line R line) R) o ≡ false
line-closes R (boot.Thread priority maximum root guard runs (Some s)) o h = h
line-closes R (boot.Thread priority maximum root guard runs None) o h = h
line-closes R _ o h = h

-- a boot closes nothing
boot-open : (lines : List BootLine) (o : ObjId) → was_closed (boot_log lines) o ≡ false
unfolding boot_log
boot-open [] o = refl
boot-open (line ∷ lines) o = line-closes (boot_log lines) line o (boot-open lines o)

-- nor makes it anybody owed
line-owes : (R : Log) (line : BootLine) (r : ObjId) → owed_by R r ≡ None → owed_by (onto (boot_line R line) R) r ≡ None
line-owes R (boot.Thread priority maximum root guard runs (Some s)) r h = h
line-owes R (boot.Thread priority maximum root guard runs None) r h = h
line-owes R _ r h = h

-- after a boot no thread is owed
boot-unowed : (lines : List BootLine) (r : ObjId) → owed_by (boot_log lines) r ≡ None
unfolding boot_log
boot-unowed [] r = refl
boot-unowed (line ∷ lines) r = line-owes (boot_log lines) line r (boot-unowed lines r)

-- as many objects of a kind are in its list as were made
pub length-made : (R : Log) (k : Kind) → length (made_of R k) ≡ counted (makes_kind k) R
length-made [] k = refl
length-made (rec.Made o form ∷ R) k = go (same_kind o.kind k) (length-made R k)
  where
    go : (b : Bool) → length (made_of R k) ≡ counted (makes_kind k) R → length (cond b (o ∷ made_of R k) (made_of R k)) ≡ cond b (counted (makes_kind k) R + 1) (counted (makes_kind k) R)
    go true e = omega (arith, e)
    go false e = e
length-made (_ ∷ R) k = length-made R k

-- all of a list pass a test
counted-all : (p : ObjId → Bool) (xs : List ObjId) → ((x : ObjId) → In x xs → p x ≡ true) → counted p xs ≡ length xs
counted-all p [] h = refl
counted-all p (x ∷ xs) h = go (p x) (h x (inl refl)) (counted-all p xs (λ y i. h y (inr i)))
  where
    go : (b : Bool) → b ≡ true → counted p xs ≡ length xs → cond b (counted p xs + 1) (counted p xs) ≡ suc (length xs)
    go true e later = omega (arith, later)
    go false e later = absurd cc

-- what is in the list of a kind was made
listed-made : (R : Log) (k : Kind) (o : ObjId) → In o (made_of R k) → was_made R o ≡ true
listed-made [] k o i = absurd i
listed-made (rec.Made u form ∷ R) k o i = go (same_kind u.kind k) i (listed-made R k o)
  where
    more : (b : Bool) → was_made R o ≡ true → (b || was_made R o) ≡ true
    more true h = refl
    more false h = h

    go : (b : Bool) → In o (cond b (u ∷ made_of R k) (made_of R k)) → (In o (made_of R k) → was_made R o ≡ true) → (same o u || was_made R o) ≡ true
    go true (inl e) later = rw (ap (λ (x : ObjId). same o x) (sym e) ∙ same-self o) refl
    go true (inr j) later = more (same o u) (later j)
    go false j later = more (same o u) (later j)
listed-made (_ ∷ R) k o i = listed-made R k o i

-- what was made is there
pub made-alive : (R : Log) (o : ObjId) → IsBooting R → was_made R o ≡ true → is_alive R o ≡ true
made-alive R o boots h = both _ _ h (ap (λ b. not b) (boots.alive o))

-- as many of a kind are there as were made
pub number-made : (R : Log) (k : Kind) → IsBooting R → number_of R k ≡ counted (makes_kind k) R
number-made R k boots = counted-all (is_alive R) (made_of R k) (λ x i. made-alive R x boots (listed-made R k x i)) ∙ length-made R k

-- an object that was made is there
pub object-there : (R : Log) (k : Kind) (o : ObjId) → IsBooting R → is_object R k o ≡ true → IsThere R k o
object-there R k o boots h =
    let p : (same_kind o.kind k ≡ true) × (was_made R o ≡ true) = parts _ _ h in
    (same_kind-equal o.kind k p.0, made-alive R o boots p.1)

-- the next object of a kind was not made
pub next-unmade : (R : Log) (k : Kind) → Sound R → was_made R (next_id R k) ≡ true → ⊥
next-unmade R k sound h =
    let s = made-serial R (next_id R k) sound h in
    let le : counted (makes_kind k) R + 1 ≤ counted (makes_kind k) R = s.1 in
    absurd (omega (arith, le))

-- who holds a context was made
holder-made : (R : Log) (s t : ObjId) → Sound R → holder_of R s ≡ Some t → was_made R t ≡ true
holder-made [] s t sound h = absurd cc
holder-made (rec.Holds c None ∷ R) s t sound h = go (same s c) h (holder-made R s t sound.1)
  where
    go : (v : Bool) → unwrap_or (given v None) (holder_of R s) ≡ Some t → (holder_of R s ≡ Some t → was_made R t ≡ true) → was_made R t ≡ true
    go true k later = absurd cc
    go false k later = later k
holder-made (rec.Holds c (Some u) ∷ R) s t sound h = go (same s c) h (holder-made R s t sound.1)
  where
    go : (v : Bool) → unwrap_or (given v (Some u)) (holder_of R s) ≡ Some t → (holder_of R s ≡ Some t → was_made R t ≡ true) → was_made R t ≡ true
    go true k later = let it : u ≡ t = cc in subst (λ (x : ObjId). was_made R x ≡ true) it (parts _ _ sound.0.1.1).0
    go false k later = later k
holder-made (rec.Made o form ∷ R) s t sound h = more (same t o) (holder-made R s t sound.1 h)
  where
    more : (b : Bool) → was_made R t ≡ true → (b || was_made R t) ≡ true
    more true i = refl
    more false i = i
holder-made (_ ∷ R) s t sound h = holder-made R s t sound.1 h

-- the next thread holds no context
pub next-holds-none : (R : Log) → Sound R → HoldsNone R (next_id R kind.Thread)
next-holds-none R sound s h = next-unmade R kind.Thread sound (holder-made R s (next_id R kind.Thread) sound h)

-- the next thread is in no queue
pub next-stands-none : (R : Log) → Sound R → queue_of R (next_id R kind.Thread) ≡ None
next-stands-none R sound = go (queue_of R (next_id R kind.Thread)) refl
  where
    go : (o : Option Queue) → queue_of R (next_id R kind.Thread) ≡ o → o ≡ None
    go None e = refl
    go (Some q) e = absurd (next-unmade R kind.Thread sound (listed-made R kind.Thread (next_id R kind.Thread) (standing-made R (next_id R kind.Thread) q sound e)))

-- a thread that was just made is there
pub new-there : (R : Log) (form : Form) → IsBooting R → IsThere (rec.Made (next_id R kind.Thread) form ∷ R) kind.Thread (next_id R kind.Thread)
new-there R form boots = let t : ObjId = next_id R kind.Thread in (refl, both _ _ (rw (same-self t) refl) (ap (λ b. not b) (boots.alive t)))

-- and it may be given a mode
pub new-turns : (R : Log) (form : Form) (p : Prio) (mode : Mode) → IsBooting R → Sound R → Allowed (rec.Prio (next_id R kind.Thread) p ∷ rec.Made (next_id R kind.Thread) form ∷ R) (rec.Turns (next_id R kind.Thread) mode)
new-turns R form p mode boots sound =
    (new-there R form boots, (next-stands-none R sound, λ r e. let no : None ≡ Some (next_id R kind.Thread) = sym (boots.unowed r) ∙ e in absurd cc))

-- the checks of a line that has no fault
pub record AreHeld (cores : ℕ) (R : Log) (line : BootLine) : Type 0 where
  pub numbers : has_numbers cores R line ≡ true
  pub objects : has_objects R line ≡ true
  pub room : has_room R line ≡ true
  pub free : is_free R line ≡ true

-- a line without fault passed each check
pub held : (cores : ℕ) (R : Log) (line : BootLine) → IsTrue (is_ok (boot_check cores R line)) → AreHeld cores R line
unfolding boot_check ◌>>◌ need
held cores R line h = go (has_numbers cores R line) refl (has_objects R line) refl (has_room R line) refl (is_free R line) refl h
  where
    go : (a : Bool) → has_numbers cores R line ≡ a → (b : Bool) → has_objects R line ≡ b → (c : Bool) → has_room R line ≡ c → (d : Bool) → is_free R line ≡ d
        → IsTrue (is_ok (need a fault.Number >> (need b fault.NoObject >> (need c fault.Limit >> need d fault.Taken)))) → AreHeld cores R line
    go true e true f true k true l h = record { numbers = e; objects = f; room = k; free = l }
    go true e true f true k false l h = absurd cc
    go true e true f false k d l h = absurd cc
    go true e false f c k d l h = absurd cc
    go false e b f c k d l h = absurd cc

-- so did the line that it is
pub held-as : (cores : ℕ) (R : Log) (line other : BootLine) → line ≡ other → IsTrue (is_ok (boot_check cores R line)) → AreHeld cores R other
held-as cores R line other is h = subst (AreHeld cores R) is (held cores R line h)

-- a number out of its range is the first fault
pub wrong-number : (cores : ℕ) (R : Log) (line : BootLine) → has_numbers cores R line ≡ false → boot_check cores R line ≡ Err fault.Number
unfolding boot_check ◌>>◌ need
wrong-number cores R line e = rw e refl

-- an object that was not made is the fault where the numbers fit
pub wrong-object : (cores : ℕ) (R : Log) (line : BootLine) → has_numbers cores R line ≡ true → has_objects R line ≡ false → boot_check cores R line ≡ Err fault.NoObject
unfolding boot_check ◌>>◌ need
wrong-object cores R line e f = rw (e, f) refl

-- too many objects are the fault where those named were made
pub wrong-room : (cores : ℕ) (R : Log) (line : BootLine) → has_numbers cores R line ≡ true → has_objects R line ≡ true → has_room R line ≡ false → boot_check cores R line ≡ Err fault.Limit
unfolding boot_check ◌>>◌ need
wrong-room cores R line e f k = rw (e, f, k) refl

-- what is taken is the fault where there is room
pub wrong-place : (cores : ℕ) (R : Log) (line : BootLine) → has_numbers cores R line ≡ true → has_objects R line ≡ true → has_room R line ≡ true → is_free R line ≡ false → boot_check cores R line ≡ Err fault.Taken
unfolding boot_check ◌>>◌ need
wrong-place cores R line e f k l = rw (e, f, k, l) refl

-- a line that passed each check has no fault
pub nothing-wrong : (cores : ℕ) (R : Log) (line : BootLine) → has_numbers cores R line ≡ true → has_objects R line ≡ true → has_room R line ≡ true → is_free R line ≡ true → IsTrue (is_ok (boot_check cores R line))
unfolding boot_check ◌>>◌ need
nothing-wrong cores R line e f k l = rw (e, f, k, l) refl

-- what a test for nothing answers
pub none-by : {A : Type 0} (o : Option A) (b : Bool) → is_some o ≡ not b → b ≡ is_none o
none-by None true h = refl
none-by None false h = absurd cc
none-by (Some x) true h = absurd cc
none-by (Some x) false h = refl

-- fewer are there than a limit, so fewer were made
pub few-made : (R : Log) (k : Kind) (limit : ℕ) → IsBooting R → nat_lt (number_of R k) limit ≡ true → counted (makes_kind k) R < limit
few-made R k limit boots h =
    let lt : nat_lt (counted (makes_kind k) R) limit ≡ true = ap (λ n. nat_lt n limit) (sym (number-made R k boots)) ∙ h in
    grind (arith, common_steps, lt)

-- so there is room for one more
pub has-room : (R : Log) (k : Kind) → IsBooting R → nat_lt (number_of R k) object_limit ≡ true → HasRoom R k
has-room R k boots h =
    let made = few-made R k object_limit boots h in
    record { few = grind (arith, common_steps, h); fresh = omega (arith, made) }

-- a context that a line names may be given to the thread that the line makes
pub gives-allowed : (R : Log) (form : Form) (p : Prio) (mode : Mode) (context : Option ObjId) → Sound R → IsBooting R → is_context_any R context ≡ true
    → IfSome context (λ s. Allowed (rec.Turns (next_id R kind.Thread) mode ∷ rec.Prio (next_id R kind.Thread) p ∷ rec.Made (next_id R kind.Thread) form ∷ R) (rec.Holds s (Some (next_id R kind.Thread))))
gives-allowed R form p mode None sound boots h = tt
gives-allowed R form p mode (Some s) sound boots h =
    let there = object-there R kind.Context s boots h in
    ((there.0, both _ _ (more (same s (next_id R kind.Thread)) (parts _ _ there.1).0) (parts _ _ there.1).1), new-there R form boots, next-holds-none R sound)
  where
    more : (b : Bool) → was_made R s ≡ true → (b || was_made R s) ≡ true
    more true i = refl
    more false i = i

-- so it is after the lines of a boot
pub boot-begun : (lines : List BootLine) → IsBooting (boot_log lines)
boot-begun lines = record { alive = λ o. boot-open lines o; unowed = λ r. boot-unowed lines r }

-- while only the boot was taken, its log is all there is
pub so-far-boot : (n : Now) → n.hand ≡ [] → n.book.lines ≡ [] → so_far n ≡ boot_log n.book.boot.lines
so-far-boot n h l = ap (λ (w : Log). w ++ past (boot_log n.book.boot.lines) n.book.lines) h ∙ ap (λ (ls : List Line). past (boot_log n.book.boot.lines) ls) l

-- and nothing was closed
pub boots : (n : Now) → n.hand ≡ [] → n.book.lines ≡ [] → IsBooting (so_far n)
boots n h l = subst IsBooting (sym (so-far-boot n h l)) (boot-begun n.book.boot.lines)

-- the older lines of a boot without fault have none
pub faultless-older : (cores : ℕ) (newer older : List BootLine) → AreFaultless cores (newer ++ older) → AreFaultless cores older
faultless-older cores [] older h = h
faultless-older cores (line ∷ newer) older h = faultless-older cores newer older h.1

-- in a boot without fault there is no fault in a line after those before it
pub faultless-at : (cores : ℕ) (lines inside : List BootLine) (i : ℕ) (d : BootLine) → inside ≡ reverse lines → AreFaultless cores lines → i < length inside
    → IsTrue (is_ok (boot_check cores (boot_log (reverse (take i inside))) (get_or inside i d)))
faultless-at cores lines inside i d e h lt =
    let x : BootLine = get_or inside i d in
    let whole : inside ≡ (take i inside ++ x ∷ []) ++ drop (i + 1) inside = sym (take-append-drop (i + 1) inside) ∙ ap (λ xs. xs ++ drop (i + 1) inside) (take_more inside i d lt) in
    let back : lines ≡ reverse (drop (i + 1) inside) ++ (x ∷ reverse (take i inside)) =
    sym (reverse-reverse lines) ∙ ap (λ xs. reverse xs) (sym e ∙ whole) ∙ reverse-append (take i inside ++ x ∷ []) (drop (i + 1) inside) ∙ ap (λ xs. reverse (drop (i + 1) inside) ++ xs) (reverse-append (take i inside) (x ∷ [])) in
    (faultless-older cores (reverse (drop (i + 1) inside)) (x ∷ reverse (take i inside)) (subst (λ xs. AreFaultless cores xs) back h)).0

-- what a line binds is there, and nothing is bound to it: so it may be bound
pub tie-allowed : (R : Log) (t n : ObjId) → Sound R → IsBooting R → has_objects R (boot.Tie t n) ≡ true → is_free R (boot.Tie t n) ≡ true
    → IsThere R kind.Thread t × IsThere R kind.Notification n × (bound_of R t ≡ None) × IsUnbound R n
tie-allowed R t n sound boots objects free =
    let (thread, notification) = parts (is_object R kind.Thread t) (is_object R kind.Notification n) objects in
    let (unbound, untied) = parts (is_none (bound_of R t)) (is_none (tied_to R n)) free in
    (object-there R kind.Thread t boots thread, object-there R kind.Notification n boots notification, none-is (bound_of R t) unbound, λ u b. tied-none R n sound (none-is (tied_to R n) untied) u b)
