-- The log of a boot without fault is firm.
use Rattle.std.specs.Prelude.{ℕ, ◌<◌, ◌≤◌, ◌^◌, Bool, true, false, cond, not, ◌&&◌, ◌==◌, nat_lt, nat_le, is_none, ◌≡◌, List, [], ◌∷◌, Option, Some, None, Result, is_ok, refl}
use Rattle.std.proofs.Common.{sym, ◌∙◌, ap, arith}
use Rattle.std.proofs.lemmas.Bool.{eqb-true}
use Rattle.mcs_types.specs.declared.id.ObjId.{ObjId}
use Rattle.mcs_types.specs.declared.id.Kind.{Kind}
use Rattle.mcs_types.specs.declared.id.Kind.TheVariants as kind
use Rattle.mcs_types.specs.declared.cap.Cap.{Cap}
use Rattle.mcs_types.specs.declared.record.Form.{Form}
use Rattle.mcs_types.specs.declared.record.Form.TheVariants as form
use Rattle.mcs_types.specs.declared.record.Rec.TheVariants as rec
use Rattle.mcs_types.specs.declared.record.Queue.TheVariants.{Waiters}
use Rattle.mcs_types.specs.declared.boot.BootLine.{BootLine}
use Rattle.mcs_types.specs.declared.boot.BootLine.TheVariants as boot
use Rattle.mcs_types.specs.Ids.{same_kind}
use Rattle.mcs_book.specs.Logs.{Log, onto}
use Rattle.mcs_book.specs.Objects.{was_made, was_closed, is_alive, form_of, next_id}
use Rattle.mcs_book.specs.Queues.{queue_of}
use Rattle.mcs_book.specs.Notifications.{bound_of, tied_to}
use Rattle.mcs_book.specs.Replies.{owed_by}
use Rattle.mcs_book.specs.Checks.{Passed, ◌>>◌, need}
use Rattle.mcs_book.specs.Lookup.{radix_kept}
use Rattle.mcs_types.specs.Limits.{core_limit}
use Rattle.mcs_book.specs.Boots.{boot_line, boot_log, begins, begins_with, root_cap, is_object, fits_kind, fits_guard, has_no_rights, has_numbers, has_objects, is_context_any, has_room, is_free, boot_check, AreFaultless}
use Rattle.mcs_book.specs.Sound.{IsThere, IsFormOf, HoldsNone}
use Rattle.mcs_types.proofs.Ids.{same_kind-equal, parts, both}
use Rattle.mcs_book.proofs.Objects.MadeLaws.{alive-made}
use Rattle.mcs_book.proofs.Queues.QueueLaws.{below}
use Rattle.mcs_book.proofs.SoundLogs.KeptLaws.{there-next, held-there}
use Rattle.mcs_book.proofs.Firm.Laws.{Firm, Also, firm-sound, tied-none, none-is}
use Rattle.mcs_book.proofs.Objects.CountLaws.{next-unmade, made-there}

-- a firm log in which no thread is in its queue or is owed, and nothing was closed
record Quiet (R : Log) : Type 0 where
  firm : Firm R
  stands : (x : ObjId) → queue_of R x ≡ None
  owes : (r : ObjId) → owed_by R r ≡ None
  unclosed : (o : ObjId) → was_closed R o ≡ false

-- what was made is there
quiet-there : (R : Log) (o : ObjId) → Quiet R → was_made R o ≡ true → is_alive R o ≡ true
quiet-there R o h made = both _ _ made (ap (λ b. not b) (h.unclosed o))

-- an object of a kind that was made is there
object-there : (R : Log) (k : Kind) (o : ObjId) → Quiet R → is_object R k o ≡ true → IsThere R k o
object-there R k o h is = let p : (same_kind o.kind k ≡ true) × (was_made R o ≡ true) = parts _ _ is in (same_kind-equal o.kind k p.0, quiet-there R o h p.1)

-- a check that is passed, and those after it
need-ok : {E : Type 0} (b : Bool) (why : E) (next : Result Passed E) → is_ok (need b why >> next) ≡ true → (b ≡ true) × (is_ok next ≡ true)
unfolding ◌>>◌ need
need-ok true why next h = (refl, h)
need-ok false why next h = absurd cc

-- the last check
last-ok : {E : Type 0} (b : Bool) (why : E) → is_ok (need b why) ≡ true → b ≡ true
unfolding need
last-ok true why h = refl
last-ok false why h = absurd cc

-- an object is made
quiet-made : (R : Log) (k : Kind) (f : Form) → IsFormOf k f → Also R (rec.Made (next_id R k) f) → Quiet R → Quiet (rec.Made (next_id R k) f ∷ R)
quiet-made R k f fits also h = record { firm = (((refl, fits), also), h.firm); stands = h.stands; owes = h.owes; unclosed = h.unclosed }

-- a radix
radix-small : (n : ℕ) → nat_le n 8 ≡ true → n < 9
radix-small n h = grind arith

-- no badge is a small one
none-small : (cap : Cap) → has_no_rights cap ≡ true → cap.badge.0 < 2 ^ 64
none-small cap h = let none : cap.badge.0 ≡ 0 = eqb-true cap.badge.0 0 ((parts (cap.rights == 0) (cap.badge.0 == 0) h).1) in omega (arith, none)

-- a badge of a capability that fits its kind
fits-small : (k : Kind) (cap : Cap) → fits_kind k cap ≡ true → cap.badge.0 < 2 ^ 64
fits-small kind.CNode cap h = none-small cap ((parts (has_no_rights cap) (fits_guard cap.guard) h).0)
fits-small kind.Endpoint cap h = let (rest, guard) = parts _ _ h in below _ _ ((parts _ _ rest).1)
fits-small kind.Notification cap h = let (rest, guard) = parts _ _ h in below _ _ ((parts _ _ rest).1)
fits-small kind.Thread cap h = none-small cap ((parts _ _ h).0)
fits-small kind.Reply cap h = none-small cap ((parts _ _ h).0)
fits-small kind.Context cap h = none-small cap ((parts _ _ h).0)

-- a line that makes a thread
quiet-thread : (R : Log) (cores : ℕ) (priority maximum : _) (root : ObjId) (guard : _) (runs : Bool) (context : Option ObjId) → has_numbers cores R (boot.Thread priority maximum root guard runs context) ≡ true → has_objects R (boot.Thread priority maximum root guard runs context) ≡ true → Quiet R
    → Quiet (onto (boot_line R (boot.Thread priority maximum root guard runs context)) R)
quiet-thread R cores priority maximum root guard runs context numbers objects h = go context ((parts (is_object R kind.CNode root) (is_context_any R context) objects).1)
  where
    t : ObjId
    t = next_id R kind.Thread

    sizes : ((nat_lt priority.0 256 && nat_lt maximum.0 256) ≡ true) × (fits_guard guard ≡ true)
    sizes = parts (nat_lt priority.0 256 && nat_lt maximum.0 256) (fits_guard guard) numbers

    born : Log
    born = rec.Made t (form.Runner maximum (root_cap root guard)) ∷ R

    quiet_born : Quiet born
    quiet_born = quiet-made R kind.Thread (form.Runner maximum (root_cap root guard)) (below maximum.0 256 ((parts (nat_lt priority.0 256) (nat_lt maximum.0 256) sizes.0).1)) (object-there R kind.CNode root h ((parts (is_object R kind.CNode root) (is_context_any R context) objects).0)) h

    there : IsThere born kind.Thread t
    there = made-there R kind.Thread (form.Runner maximum (root_cap root guard)) (firm-sound R h.firm)

    ready : Log
    ready = rec.Turns t (begins runs) ∷ rec.Prio t priority ∷ born

    quiet_ready : Quiet ready
    quiet_ready = record {
      firm = (((there, (h.stands t, λ r o. let no : None ≡ Some t = sym (h.owes r) ∙ o in absurd cc)), tt), (((there, below priority.0 256 ((parts (nat_lt priority.0 256) (nat_lt maximum.0 256) sizes.0).0)), tt), quiet_born.firm));
      stands = h.stands;
      owes = h.owes;
      unclosed = h.unclosed;
    }

    holds_none : HoldsNone ready t
    holds_none s held = let no : true ≡ false = sym (alive-made R t ((held-there R s t (firm-sound R h.firm) held).1.1)) ∙ next-unmade R kind.Thread (firm-sound R h.firm) in absurd cc

    go : (c : Option ObjId) → is_context_any R c ≡ true → Quiet (onto (begins_with c t) ready)
    go None is = quiet_ready
    go (Some s) is = record {
      firm = (((there-next R (rec.Made t (form.Runner maximum (root_cap root guard))) kind.Context s (object-there R kind.Context s h is) refl, there, holds_none), tt), quiet_ready.firm);
      stands = h.stands;
      owes = h.owes;
      unclosed = h.unclosed;
    }

-- a line that binds a notification to a thread
quiet-tie : (R : Log) (t n : ObjId) → has_objects R (boot.Tie t n) ≡ true → is_free R (boot.Tie t n) ≡ true → Quiet R → Quiet (onto (boot_line R (boot.Tie t n)) R)
quiet-tie R t n objects free h =
    let (thread, notification) = parts (is_object R kind.Thread t) (is_object R kind.Notification n) objects in
    let (unbound, untied) = parts (is_none (bound_of R t)) (is_none (tied_to R n)) free in
    record {
      firm = (
        (
          (object-there R kind.Thread t h thread, object-there R kind.Notification n h notification, none-is (bound_of R t) unbound, λ u b. tied-none R n (firm-sound R h.firm) (none-is (tied_to R n) untied) u b),
          λ x at. let no : None ≡ Some (Waiters n) = sym (h.stands x) ∙ at in absurd cc,
        ),
        h.firm,
      );
      stands = h.stands;
      owes = h.owes;
      unclosed = h.unclosed;
    }

-- each line without fault
quiet-line : (R : Log) (cores : ℕ) (line : BootLine) → cores ≤ core_limit → has_numbers cores R line ≡ true → has_objects R line ≡ true → is_free R line ≡ true → Quiet R → Quiet (onto (boot_line R line) R)
quiet-line R cores (boot.CNode radix) few numbers objects free h = quiet-made R kind.CNode (form.Slots radix) (radix-small radix ((parts (nat_le 1 radix) (nat_le radix 8) numbers).1)) tt h
quiet-line R cores boot.Endpoint few numbers objects free h = quiet-made R kind.Endpoint form.Plain tt tt h
quiet-line R cores boot.Notification few numbers objects free h = quiet-made R kind.Notification form.Plain tt tt h
quiet-line R cores boot.Reply few numbers objects free h = quiet-made R kind.Reply form.Plain tt tt h
quiet-line R cores (boot.Context core) few numbers objects free h = let lt : core.0 < cores = below core.0 cores numbers in quiet-made R kind.Context (form.OnCore core) (omega (arith, lt, few)) tt h
quiet-line R cores (boot.Thread priority maximum root guard runs context) few numbers objects free h = quiet-thread R cores priority maximum root guard runs context numbers objects h
quiet-line R cores (boot.Slot c i cap) few numbers objects free h =
    let (fits, small) = parts _ _ numbers in
    let (cnode, object) = parts _ _ objects in
    let inside : nat_lt i (2 ^ radix_kept (form_of R c)) ≡ true = sym (ap (λ b. cond b (nat_lt i (2 ^ radix_kept (form_of R c))) true) cnode) ∙ fits in
    record {
      firm = (((object-there R kind.CNode c h cnode, below i (2 ^ radix_kept (form_of R c)) inside, quiet-there R cap.obj h object), fits-small cap.obj.kind cap small), h.firm);
      stands = h.stands;
      owes = h.owes;
      unclosed = h.unclosed;
    }
quiet-line R cores (boot.Tie t n) few numbers objects free h = quiet-tie R t n objects free h

-- the log of lines without fault is quiet
quiet-boot : (cores : ℕ) (lines : List BootLine) → cores ≤ core_limit → AreFaultless cores lines → Quiet (boot_log lines)
unfolding boot_log boot_check
quiet-boot cores [] few h = record { firm = tt; stands = λ x. refl; owes = λ r. refl; unclosed = λ o. refl }
quiet-boot cores (line ∷ lines) few h =
    let R : Log = boot_log lines in
    let numbers : (has_numbers cores R line ≡ true) × _ = need-ok (has_numbers cores R line) _ _ h.0 in
    let objects : (has_objects R line ≡ true) × _ = need-ok (has_objects R line) _ _ numbers.1 in
    let room : (has_room R line ≡ true) × _ = need-ok (has_room R line) _ _ objects.1 in
    quiet-line R cores line few numbers.0 objects.0 (last-ok (is_free R line) _ room.1) (quiet-boot cores lines few h.1)

-- and so firm
pub firm-boot : (cores : ℕ) (lines : List BootLine) → cores ≤ core_limit → AreFaultless cores lines → Firm (boot_log lines)
firm-boot cores lines few h = let q : Quiet (boot_log lines) = quiet-boot cores lines few h in q.firm
