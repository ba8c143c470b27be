-- Every record of a legal book is safe.
use Rattle.std.specs.Prelude.{ℕ, ◌≤◌, nat_le, Result, is_ok, Bool, true, false, ◌≡◌, List, [], ◌∷◌, Option, Some, None, refl}
use Rattle.std.proofs.Common.{sym, ◌∙◌, ap, subst, arith}
use Rattle.mcs_types.specs.declared.id.ObjId.{ObjId}
use Rattle.mcs_types.specs.declared.id.CoreId.{CoreId}
use Rattle.mcs_types.specs.declared.id.Kind.TheVariants as kind
use Rattle.mcs_types.specs.declared.entry.Entry.{Entry}
use Rattle.mcs_types.specs.declared.boot.BootLine.{BootLine}
use Rattle.mcs_types.specs.declared.boot.BootLine.TheVariants as boot
use Rattle.mcs_types.specs.declared.record.Rec.TheVariants as rec
use Rattle.mcs_types.specs.Ids.{same_kind}
use Rattle.mcs_book.specs.Logs.{Log, onto}
use Rattle.mcs_book.specs.Objects.{next_id, was_made}
use Rattle.mcs_book.specs.Statuses.{may_enter}
use Rattle.mcs_book.specs.Pieces.{Outcome}
use Rattle.mcs_book.specs.Table.{does}
use Rattle.mcs_book.specs.Boots.{boot_line, boot_log, boot_check, has_numbers, has_objects, is_object, is_context_any, root_cap, AreFaultless}
use Rattle.mcs_types.specs.declared.boot.BootFault.{BootFault}
use Rattle.mcs_types.specs.declared.boot.BootFault.TheVariants.{Number, NoObject}
use Rattle.mcs_book.specs.Checks.{◌>>◌, Passed, need}
use Rattle.mcs_types.specs.declared.cap.Cap.{Cap}
use Rattle.mcs_types.specs.declared.record.Form.TheVariants as form
use Rattle.mcs_book.specs.History.{Line, past, AreLegal}
use Rattle.mcs_book.specs.Each.{Each}
use Rattle.mcs_types.proofs.Ids.{same_kind-equal, parts}
use Rattle.mcs_book.proofs.Threads.EntersLaws.{IsEntering, enters-ready}
use Rattle.mcs_book.proofs.Books.HistoryLaws.{legal-past}
use Rattle.mcs_book.proofs.WholeMessages.Records.{each_of-map, IsWhole, Begins}
use Rattle.mcs_book.proofs.SoundLogs.Safety.{Safe, safe-owing_none, safe-held, each-onto}
use Rattle.mcs_book.proofs.WholeMessages.Table.{step_of, whole-does}

-- a thread that may enter
pub safe-begins : (R : Log) (core : CoreId) (t : ObjId) → may_enter R core t ≡ true → Each Safe R → Begins R t R
safe-begins R core t enters h =
    let who : IsEntering R t = enters-ready R core t enters in
    record { thread = who.thread; alive = who.alive; stands_none = who.stands_none; owed_nothing = safe-owing_none R t h who.owed_none; safe = h; held = λ c i k is. safe-held R c i k h is }

-- each entry is safe
safe-does : (R : Log) (core : CoreId) (t : ObjId) (entry : Entry) → may_enter R core t ≡ true → Each Safe R → Each Safe (onto ((does R core t entry).records) R)
safe-does R core t entry enters h =
    let o : Outcome = does R core t entry in
    each-onto Safe R o.records h (each_of-map (IsWhole R (onto o.records R) (step_of core t entry) o.answer) Safe (λ S r w. w.3) R o.records (whole-does R core t entry (safe-begins R core t enters h)))

-- both of two checks that were passed
checked-both : (b : Bool) (why : BootFault) (next : Result Passed BootFault) → is_ok (need b why >> next) ≡ true → (b ≡ true) × (is_ok next ≡ true)
unfolding ◌>>◌ need
checked-both true why next h = (refl, h)
checked-both false why next h = absurd cc

-- what is checked of a line of a boot: its numbers and the objects that it names
pub line-checked : (cores : ℕ) (R : Log) (line : BootLine) → is_ok (boot_check cores R line) ≡ true → (has_numbers cores R line ≡ true) × (has_objects R line ≡ true)
unfolding boot_check
line-checked cores R line h =
    let (numbers, rest) = checked-both (has_numbers cores R line) Number _ h in
    (numbers, (checked-both (has_objects R line) NoObject _ rest).0)

-- each line of a boot without fault is safe
safe-boot_line : (cores : ℕ) (R : Log) (line : BootLine) → is_ok (boot_check cores R line) ≡ true → Each Safe R → Each Safe (onto (boot_line R line) R)
safe-boot_line cores R (boot.Thread priority maximum root guard runs context) ok h = go context
  where
    rooted : (root.kind ≡ kind.CNode) × (was_made R root ≡ true)
    rooted =
        let p : (is_object R kind.CNode root ≡ true) × (is_context_any R context ≡ true) = parts _ _ (line-checked cores R (boot.Thread priority maximum root guard runs context) ok).1 in
        let q : (same_kind root.kind kind.CNode ≡ true) × (was_made R root ≡ true) = parts _ _ p.0 in
        (same_kind-equal root.kind kind.CNode q.0, q.1)

    made : Safe R (rec.Made (next_id R kind.Thread) (form.Runner maximum (root_cap root guard)))
    made = (λ e. absurd cc, λ held e. let it : root_cap root guard ≡ held = cc in subst (λ (k : Cap). (k.obj.kind ≡ kind.CNode) × (was_made R k.obj ≡ true)) it rooted)

    go : (o : Option ObjId) → Each Safe (onto (boot_line R (boot.Thread priority maximum root guard runs o)) R)
    go (Some s) = (tt, (tt, (tt, (made, h))))
    go None = (tt, (tt, (made, h)))
safe-boot_line cores R (boot.CNode radix) ok h =
    let p : (nat_le 1 radix ≡ true) × (nat_le radix 8 ≡ true) = parts _ _ (line-checked cores R (boot.CNode radix) ok).0 in
    ((λ e. some-bits radix p.0, λ root e. absurd cc), h)
  where
    some-bits : (n : ℕ) → nat_le 1 n ≡ true → 1 ≤ n
    some-bits n e = grind arith
safe-boot_line cores R (boot.Slot c i held) ok h =
    let p : (is_object R kind.CNode c ≡ true) × (was_made R held.obj ≡ true) = parts _ _ (line-checked cores R (boot.Slot c i held) ok).1 in
    ((λ k e. let it : held ≡ k = cc in ap (λ (k : Cap). was_made R k.obj) (sym it) ∙ p.1), h)
safe-boot_line cores R (boot.Tie t n) ok h = (tt, h)
safe-boot_line cores R boot.Endpoint ok h = ((λ e. absurd cc, λ root e. absurd cc), h)
safe-boot_line cores R boot.Notification ok h = ((λ e. absurd cc, λ root e. absurd cc), h)
safe-boot_line cores R boot.Reply ok h = ((λ e. absurd cc, λ root e. absurd cc), h)
safe-boot_line cores R (boot.Context core) ok h = ((λ e. absurd cc, λ root e. absurd cc), h)

-- so is a boot without fault
pub safe-boot : (cores : ℕ) (lines : List BootLine) → AreFaultless cores lines → Each Safe (boot_log lines)
unfolding boot_log
safe-boot cores [] h = tt
safe-boot cores (line ∷ lines) h = safe-boot_line cores (boot_log lines) line h.0 (safe-boot cores lines h.1)

-- so are legal lines after a safe log
pub safe-past : (B : Log) (ls : List Line) → AreLegal B ls → Each Safe B → Each Safe (past B ls)
safe-past = legal-past (Each Safe) safe-does
