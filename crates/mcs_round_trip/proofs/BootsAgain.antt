-- Each line of a legal book's boot is read again.
use Rattle.std.specs.Prelude.{ℕ, ◌<◌, ◌≤◌, ◌^◌, ◌≡◌, nat_lt, nat_le, Bool, true, cond, ◌&&◌, is_ok, List, [], ◌∷◌, Option, Some, None, Result, Ok, Err, refl, length, decimal}
use Rattle.std.proofs.Common.{sym, ◌∙◌, ap, arith}
use Rattle.std.proofs.Math.Pow.{pow_mono}
use Rattle.std.proofs.lemmas.Bool.{ltb-true, leb-true, le-leb}
use Rattle.mcs_types.specs.declared.id.ObjId.{ObjId}
use Rattle.mcs_types.specs.declared.id.Kind.TheVariants as kind
use Rattle.mcs_types.specs.declared.cap.Cap.{Cap}
use Rattle.mcs_types.specs.declared.cap.Guard.{Guard}
use Rattle.mcs_types.specs.declared.id.Prio.{Prio}
use Rattle.mcs_types.specs.declared.boot.BootFault.{BootFault}
use Rattle.mcs_types.specs.declared.boot.BootLine.{BootLine}
use Rattle.mcs_types.specs.declared.boot.BootLine.TheVariants as boot
use Rattle.mcs_book.specs.Checks.{Passed}
use Rattle.mcs_types.specs.Ids.{same_kind}
use Rattle.mcs_book.specs.Logs.{Log}
use Rattle.mcs_book.specs.Lookup.{radix_kept}
use Rattle.mcs_book.specs.Objects.{was_made, form_of}
use Rattle.mcs_types.specs.Limits.{core_limit}
use Rattle.mcs_book.specs.Sound.{Sound}
use Rattle.mcs_book.specs.Boots.{Boot, IsFaultless, boot_log, boot_check, is_object, is_context_any, fits_cnode, fits_guard, fits_kind}
use Rattle.mcs_book.specs.History.{IsLegal}
use Rattle.mcs_types.proofs.Ids.{parts}
use Rattle.mcs_book.proofs.SoundLogs.SoundBooks.{legal-sound}
use Rattle.mcs_book.proofs.Queues.Standings.{line-checked}
use Rattle.mcs_text.specs.Table.{form_line, boot_form, cores_form}
use Rattle.mcs_text.specs.LineLaws.{IsContextName, FitsLine, raw_context, raw_cap, raw_of, IsLineReadAgain}
use Rattle.mcs_text.proofs.RoundTrip.{below-is}
use Rattle.mcs_text.proofs.BootLinesAgain.{boot_line-again, cores_line-words, boot_key-cores, cores_line-again}
use Rattle.mcs_phases.specs.BootLines.{context_of, cores_of, cap_of, fitted, if_passed, with_line}
use Rattle.mcs_phases.specs.Script.{of_steps, no_script, first_boot, next_boot, later_line, by_boot, spelled}
use Rattle.mcs_round_trip.proofs.BootFacts.{guard-fits, kind-fits, FitsTypes, kind-types, radix-few, IsBootName, boot-made, boot-name, named, object-again}
use Rattle.mcs_round_trip.proofs.Scripts.{so_far}
use Rattle.mcs_round_trip.proofs.WholeTraces.{AreCoresAgain, IsBootAgain, AreBootAgain}

-- what is known of a line of the boot, after those before it
record IsAgainAfter (R : Log) (line : BootLine) : Type 0 where
  fits : FitsLine line
  again : fitted R (raw_of line) ≡ Ok line

-- ---- lines that make an object

-- a CNode
cnode-again : (cores : ℕ) (R : Log) (radix : ℕ) → is_ok (boot_check cores R (boot.CNode radix)) ≡ true → IsAgainAfter R (boot.CNode radix)
unfolding fitted
cnode-again cores R radix ok =
    let (some, few) = parts (nat_le 1 radix) (nat_le radix 8) (line-checked cores R (boot.CNode radix) ok).0 in
    let small : radix ≤ 8 = leb-true radix 8 few in
    record { fits = omega arith; again = rw (below-is 256 radix (omega arith)) refl }

-- a context, on a core of the boot
context-again : (cores : ℕ) (R : Log) (core : ℕ) → cores ≤ core_limit → is_ok (boot_check cores R (boot.Context (record { 0 = core }))) ≡ true → IsAgainAfter R (boot.Context (record { 0 = core }))
unfolding fitted
context-again cores R core few ok =
    let below : core < cores = ltb-true core cores (line-checked cores R (boot.Context (record { 0 = core })) ok).0 in
    record { fits = omega arith; again = rw (below-is 256 core (omega arith)) refl }

-- the context that a thread names
named-context : (lines : List BootLine) (s : Option ObjId) → Sound (boot_log lines) → length lines ≤ 2000000 → is_context_any (boot_log lines) s ≡ true → IsContextName s × (context_of (raw_context s) ≡ s)
named-context lines None sound few h = (tt, refl)
named-context lines (Some s) sound few h = let name : IsBootName kind.Context s = boot-name lines kind.Context s sound few h in (named kind.Context s name, ap (λ (o : ObjId). Some o) (object-again kind.Context s name))

-- a thread
thread-again : (cores : ℕ) (lines : List BootLine) (p m : Prio) (root : ObjId) (guard : Guard) (runs : Bool) (s : Option ObjId) → Sound (boot_log lines) → length lines ≤ 2000000
    → is_ok (boot_check cores (boot_log lines) (boot.Thread p m root guard runs s)) ≡ true → IsAgainAfter (boot_log lines) (boot.Thread p m root guard runs s)
unfolding fitted
thread-again cores lines p m root guard runs s sound few ok =
    let (numbers, objects) = line-checked cores (boot_log lines) (boot.Thread p m root guard runs s) ok in
    let (first, guarded) = parts (nat_lt p.0 256 && nat_lt m.0 256) (fits_guard guard) numbers in
    let (priority, maximum) = parts (nat_lt p.0 256) (nat_lt m.0 256) first in
    let (root_made, context_made) = parts (is_object (boot_log lines) kind.CNode root) (is_context_any (boot_log lines) s) objects in
    let low : p.0 < 256 = ltb-true p.0 256 priority in
    let high : m.0 < 256 = ltb-true m.0 256 maximum in
    let fits : (guard.bits ≤ 63) × (guard.value < 2 ^ 64) = guard-fits guard guarded in
    let name : IsBootName kind.CNode root = boot-name lines kind.CNode root sound few root_made in
    let context : IsContextName s × (context_of (raw_context s) ≡ s) = named-context lines s sound few context_made in
    record {
      fits = record { priority_word = omega arith; maximum_word = omega arith; root_name = named kind.CNode root name; bits_word = omega (arith, fits.0); value_word = fits.1; context_name = context.0 };
      again = rw (below-is 256 p.0 low, below-is 256 m.0 high, below-is 256 guard.bits (omega (arith, fits.0)), below-is 18446744073709551616 guard.value fits.1, object-again kind.CNode root name, context.1) refl;
    }

-- ---- a line that fills a slot

-- the capability of a slot
cap-again : (cap : Cap) → IsBootName cap.obj.kind cap.obj → FitsTypes cap → cap_of (raw_cap cap) ≡ Ok cap
unfolding cap_of
cap-again cap name fits = rw (below-is 18446744073709551616 cap.badge.0 fits.badge, below-is 256 cap.guard.bits fits.bits, below-is 18446744073709551616 cap.guard.value fits.value, object-again cap.obj.kind cap.obj name) refl

-- the index is one of the CNode's
index-small : (R : Log) (c : ObjId) (i : ℕ) → Sound R → is_object R kind.CNode c ≡ true → fits_cnode R c i ≡ true → i < 256
index-small R c i sound made h =
    let index : nat_lt i (2 ^ radix_kept (form_of R c)) ≡ true = ap (λ (b : Bool). cond b (nat_lt i (2 ^ radix_kept (form_of R c))) true) (sym made) ∙ h in
    let below : i < 2 ^ radix_kept (form_of R c) = ltb-true i (2 ^ radix_kept (form_of R c)) index in
    let bound : 2 ^ radix_kept (form_of R c) ≤ 2 ^ 8 = pow_mono (radix-few R c sound) in
    omega arith

-- a slot
slot-again : (cores : ℕ) (lines : List BootLine) (c : ObjId) (i : ℕ) (cap : Cap) → Sound (boot_log lines) → length lines ≤ 2000000
    → is_ok (boot_check cores (boot_log lines) (boot.Slot c i cap)) ≡ true → IsAgainAfter (boot_log lines) (boot.Slot c i cap)
unfolding fitted
slot-again cores lines c i cap sound few ok =
    let (numbers, objects) = line-checked cores (boot_log lines) (boot.Slot c i cap) ok in
    let (inside, carried) = parts (fits_cnode (boot_log lines) c i) (fits_kind cap.obj.kind cap) numbers in
    let (cnode_made, cap_made) = parts (is_object (boot_log lines) kind.CNode c) (was_made (boot_log lines) cap.obj) objects in
    let c_made : was_made (boot_log lines) c ≡ true = (parts (same_kind c.kind kind.CNode) (was_made (boot_log lines) c) cnode_made).1 in
    let small : i < 256 = index-small (boot_log lines) c i sound cnode_made inside in
    let cnode : IsBootName kind.CNode c = boot-name lines kind.CNode c sound few cnode_made in
    let object : IsBootName cap.obj.kind cap.obj = boot-made lines cap.obj sound few cap_made in
    record {
      fits = record { name = named kind.CNode c cnode; word = omega arith; held = record { some = object.some; word = omega (arith, object.few); rest = kind-fits cap.obj.kind cap carried } };
      again = rw (object-again kind.CNode c cnode, c_made, below-is 256 i small, cap-again cap object (kind-types cap.obj.kind cap carried)) refl;
    }

-- ---- a line that binds a notification

tie-again : (cores : ℕ) (lines : List BootLine) (t n : ObjId) → Sound (boot_log lines) → length lines ≤ 2000000 → is_ok (boot_check cores (boot_log lines) (boot.Tie t n)) ≡ true → IsAgainAfter (boot_log lines) (boot.Tie t n)
unfolding fitted
tie-again cores lines t n sound few ok =
    let (numbers, objects) = line-checked cores (boot_log lines) (boot.Tie t n) ok in
    let (thread_made, notification_made) = parts (is_object (boot_log lines) kind.Thread t) (is_object (boot_log lines) kind.Notification n) objects in
    let thread : IsBootName kind.Thread t = boot-name lines kind.Thread t sound few thread_made in
    let notification : IsBootName kind.Notification n = boot-name lines kind.Notification n sound few notification_made in
    record { fits = record { thread_name = named kind.Thread t thread; notification_name = named kind.Notification n notification }; again = rw (object-again kind.Thread t thread, object-again kind.Notification n notification) refl }

-- ---- lines

-- a line of the boot that was checked
line-again : (cores : ℕ) (lines : List BootLine) (line : BootLine) → cores ≤ core_limit → Sound (boot_log lines) → length lines ≤ 2000000 → is_ok (boot_check cores (boot_log lines) line) ≡ true → IsAgainAfter (boot_log lines) line
unfolding fitted
line-again cores lines (boot.CNode radix) limit sound few ok = cnode-again cores (boot_log lines) radix ok
line-again cores lines boot.Endpoint limit sound few ok = record { fits = tt; again = refl }
line-again cores lines boot.Notification limit sound few ok = record { fits = tt; again = refl }
line-again cores lines boot.Reply limit sound few ok = record { fits = tt; again = refl }
line-again cores lines (boot.Context core) limit sound few ok = context-again cores (boot_log lines) core.0 limit ok
line-again cores lines (boot.Thread p m root guard runs s) limit sound few ok = thread-again cores lines p m root guard runs s sound few ok
line-again cores lines (boot.Slot c i cap) limit sound few ok = slot-again cores lines c i cap sound few ok
line-again cores lines (boot.Tie t n) limit sound few ok = tie-again cores lines t n sound few ok

-- a line that was checked is added
passed-adds : (b : Boot) (line : BootLine) (r : Result Passed BootFault) → is_ok r ≡ true → if_passed b line r ≡ Ok (record b { lines = line ∷ b.lines })
passed-adds b line (Ok passed) h = refl
passed-adds b line (Err why) h = absurd cc

-- a line of the boot that was checked is read again
boot-again : (cores : ℕ) (lines : List BootLine) (line : BootLine) → cores ≤ core_limit → Sound (boot_log lines) → length lines ≤ 2000000 → is_ok (boot_check cores (boot_log lines) line) ≡ true → IsBootAgain cores lines line
unfolding IsBootAgain spelled by_boot later_line next_boot with_line
boot-again cores lines line limit sound few ok =
    let b : Boot = record { cores = cores; lines = lines } in
    let text : List ℕ = form_line (boot_form line) in
    let known : IsAgainAfter (boot_log lines) line = line-again cores lines line limit sound few ok in
    let read : IsLineReadAgain line = boot_line-again line known.fits in
    let next : next_boot b read.key read.words ≡ Ok (record { cores = cores; lines = line ∷ lines }) = rw (read.read, known.again) (passed-adds b line (boot_check cores (boot_log lines) line) ok) in
    ap (spelled of_steps (so_far b []) text) read.split ∙ ap (λ key. by_boot of_steps (Some b) [] text key read.words) read.found ∙ rw next refl

-- so is each line of a boot without fault
pub boots-again : (cores : ℕ) (lines : List BootLine) → IsFaultless (record { cores = cores; lines = lines }) → length lines ≤ 2000000 → AreBootAgain cores lines
unfolding AreBootAgain
boots-again cores [] faultless few = tt
boots-again cores (line ∷ lines) faultless few =
    let before : IsFaultless (record { cores = cores; lines = lines }) = record { some_core = faultless.some_core; few_cores = faultless.few_cores; lines = faultless.lines.1 } in
    let legal : IsLegal (record { boot = record { cores = cores; lines = lines }; lines = [] }) = record { boot = before; lines = tt } in
    let sound : Sound (boot_log lines) = legal-sound (record { boot = record { cores = cores; lines = lines }; lines = [] }) legal in
    (boot-again cores lines line faultless.few_cores sound (omega arith) faultless.lines.0, boots-again cores lines before (omega arith))

-- the line of the number of cores is read again
pub cores-again : (cores : ℕ) → 1 ≤ cores → cores ≤ core_limit → AreCoresAgain cores
unfolding AreCoresAgain spelled by_boot first_boot cores_of
cores-again cores some few =
    let text : List ℕ = form_line (cores_form cores) in
    ap (spelled of_steps no_script text) (cores_line-words cores) ∙ ap (λ key. by_boot of_steps None [] text key (decimal cores ∷ [])) boot_key-cores ∙ rw (cores_line-again cores (omega arith), le-leb 1 cores some, le-leb cores core_limit few) refl
