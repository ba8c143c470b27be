-- Each line of a legal book is of a core of its boot: contexts are made on these cores alone.
use Rattle.std.specs.Prelude.{ℕ, ◌<◌, Bool, true, false, ◌≡◌, List, [], ◌∷◌, Option, Some, None, refl, nat_lt, unwrap_or, is_ok, option_and_then}
use Rattle.std.proofs.Common.{ap, subst, arith}
use Rattle.std.proofs.lemmas.Bool.{eqb-true}
use Rattle.mcs_types.specs.declared.id.ObjId.{ObjId}
use Rattle.mcs_types.specs.declared.id.CoreId.{CoreId}
use Rattle.mcs_types.specs.declared.entry.Entry.{Entry}
use Rattle.mcs_types.specs.declared.boot.BootLine.{BootLine}
use Rattle.mcs_types.specs.declared.boot.BootLine.TheVariants as boot
use Rattle.mcs_types.specs.declared.record.Form.{Form}
use Rattle.mcs_types.specs.declared.record.Form.TheVariants.{OnCore}
use Rattle.mcs_types.specs.declared.record.Rec.{Rec}
use Rattle.mcs_types.specs.declared.record.Rec.TheVariants as rec
use Rattle.mcs_types.specs.Ids.{same}
use Rattle.mcs_book.specs.Logs.{Log, onto, given}
use Rattle.mcs_book.specs.Objects.{form_of}
use Rattle.mcs_book.specs.Contexts.{context_of}
use Rattle.mcs_book.specs.Statuses.{may_enter, is_ready, status_of, is_on_core}
use Rattle.mcs_book.specs.Pieces.{Outcome}
use Rattle.mcs_book.specs.Boots.{boot_line, boot_log, boot_check, AreFaultless}
use Rattle.mcs_book.specs.Table.{does}
use Rattle.mcs_book.specs.History.{Line, Book, past, AreLegal, IsLegal}
use Rattle.mcs_book.specs.Each.{Each, EachLineAfter, EachLine}
use Rattle.mcs_book.specs.Merging.{IsOfFirst}
use Rattle.mcs_types.proofs.Ids.{parts}
use Rattle.mcs_book.proofs.SoundLogs.Safety.{Safe, each-onto}
use Rattle.mcs_book.proofs.WholeMessages.Records.{each_of-map, IsWhole, MadeOn}
use Rattle.mcs_book.proofs.WholeMessages.Table.{step_of, whole-does}
use Rattle.mcs_book.proofs.Queues.Standings.{safe-begins, line-checked, safe-boot, safe-past}

-- a context that is made is on one of the first n cores
abbrev MadeBelow : ℕ → Log → Rec → Type 0
MadeBelow n R (rec.Made o form) = (c : CoreId) → form ≡ OnCore c → c.0 < n
MadeBelow n R _ = Unit {0}

-- so is every context
context-below : (n : ℕ) (R : Log) (s : ObjId) (c : CoreId) → Each (MadeBelow n) R → form_of R s ≡ Some (OnCore c) → c.0 < n
context-below n [] s c h is = absurd cc
context-below n (rec.Made o form ∷ R) s c h is = go (same s o) is (context-below n R s c h.1)
  where
    go : (b : Bool) → unwrap_or (given b (Some form)) (form_of R s) ≡ Some (OnCore c) → (form_of R s ≡ Some (OnCore c) → c.0 < n) → c.0 < n
    go true e later = let it : form ≡ OnCore c = cc in h.0 c it
    go false e later = later e
context-below n (_ ∷ R) s c h is = context-below n R s c h.1 is

-- who enters does so on such a core
enters-below : (n : ℕ) (R : Log) (core : CoreId) (t : ObjId) → Each (MadeBelow n) R → may_enter R core t ≡ true → core.0 < n
unfolding may_enter
enters-below n R core t h enters = held (context_of R t) ((parts (is_ready (status_of R t)) (is_on_core core (option_and_then (form_of R) (context_of R t))) enters).1)
  where
    formed : (s : ObjId) (o : Option Form) → form_of R s ≡ o → is_on_core core o ≡ true → core.0 < n
    formed s (Some (OnCore c)) is on = let same_core : c.0 ≡ core.0 = eqb-true c.0 core.0 on in let below : c.0 < n = context-below n R s c h is in omega (arith, same_core, below)
    formed s None is on = absurd cc
    formed s (Some _) is on = absurd cc

    held : (o : Option ObjId) → is_on_core core (option_and_then (form_of R) o) ≡ true → core.0 < n
    held (Some s) on = formed s (form_of R s) refl on
    held None on = absurd cc

-- an entry makes contexts on its core alone
does-below : (n : ℕ) (R : Log) (core : CoreId) (t : ObjId) (entry : Entry) → may_enter R core t ≡ true → Each Safe R → Each (MadeBelow n) R → Each (MadeBelow n) (onto ((does R core t entry).records) R)
does-below n R core t entry enters safe h =
    let o : Outcome = does R core t entry in
    each-onto (MadeBelow n) R o.records h (each_of-map (IsWhole R (onto o.records R) (step_of core t entry) o.answer) (MadeBelow n) (λ S r w. below S r w.4) R o.records (whole-does R core t entry (safe-begins R core t enters safe)))
  where
    first : core.0 < n
    first = enters-below n R core t h enters

    below : (S : Log) (r : Rec) → MadeOn core r → MadeBelow n S r
    below S (rec.Made o form) on = λ c is. let same_core : c ≡ core = on c is in let number : c.0 ≡ core.0 = ap (λ (d : CoreId). d.0) same_core in omega (arith, first, number)
    below S _ on = tt

-- a line of the boot makes a context on one of its cores
boot_line-below : (n : ℕ) (R : Log) (line : BootLine) → is_ok (boot_check n R line) ≡ true → Each (MadeBelow n) R → Each (MadeBelow n) (onto (boot_line R line) R)
boot_line-below n R (boot.Context core) ok h = (λ c is. let it : core ≡ c = cc in subst (λ (d : CoreId). d.0 < n) it (less core.0 n (line-checked n R (boot.Context core) ok).0), h)
  where
    less : (a b : ℕ) → nat_lt a b ≡ true → a < b
    less a b e = grind arith
boot_line-below n R (boot.Thread priority maximum root guard runs (Some s)) ok h = (tt, (tt, (tt, (λ c is. absurd cc, h))))
boot_line-below n R (boot.Thread priority maximum root guard runs None) ok h = (tt, (tt, (λ c is. absurd cc, h)))
boot_line-below n R (boot.CNode radix) ok h = (λ c is. absurd cc, h)
boot_line-below n R boot.Endpoint ok h = (λ c is. absurd cc, h)
boot_line-below n R boot.Notification ok h = (λ c is. absurd cc, h)
boot_line-below n R boot.Reply ok h = (λ c is. absurd cc, h)
boot_line-below n R (boot.Slot c i held) ok h = (tt, h)
boot_line-below n R (boot.Tie t o) ok h = (tt, h)

-- so does a boot
boot-below : (n : ℕ) (lines : List BootLine) → AreFaultless n lines → Each (MadeBelow n) (boot_log lines)
unfolding boot_log
boot-below n [] h = tt
boot-below n (line ∷ lines) h = boot_line-below n (boot_log lines) line h.0 (boot-below n lines h.1)

-- so do legal lines
past-below : (n : ℕ) (B : Log) (ls : List Line) → AreLegal B ls → Each Safe B → Each (MadeBelow n) B → Each (MadeBelow n) (past B ls)
past-below n B [] legal safe h = h
past-below n B (l ∷ ls) legal safe h =
    let R : Log = past B ls in
    rw legal.0.records (does-below n R l.step.core l.step.thread l.step.entry legal.0.enters (safe-past B ls legal.1 safe) (past-below n B ls legal.1 safe h))

-- so each line is of such a core
lines-below : (n : ℕ) (B : Log) (ls : List Line) → AreLegal B ls → Each Safe B → Each (MadeBelow n) B → EachLineAfter (IsOfFirst n) B ls
lines-below n B [] legal safe h = tt
lines-below n B (l ∷ ls) legal safe h = (enters-below n (past B ls) l.step.core l.step.thread (past-below n B ls legal.1 safe h) legal.0.enters, lines-below n B ls legal.1 safe h)

-- the law: each line of a legal book is of a core of its boot
pub legal-cores : (b : Book) → IsLegal b → EachLine (IsOfFirst b.boot.cores) b
legal-cores b legal = lines-below b.boot.cores (boot_log b.boot.lines) b.lines legal.lines (safe-boot b.boot.cores b.boot.lines legal.boot.lines) (boot-below b.boot.cores b.boot.lines legal.boot.lines)
