-- Every line of a legal book is whole: its messages when sent and when taken, and its answers.
use Rattle.std.specs.Prelude.{◌≡◌, List, [], ◌∷◌}
use Rattle.std.proofs.Common.{sym, subst}
use Rattle.mcs_types.specs.declared.record.Rec.{Rec}
use Rattle.mcs_types.specs.declared.record.Rec.TheVariants as rec
use Rattle.mcs_types.specs.declared.entry.Step.{Step}
use Rattle.mcs_book.specs.Logs.{Log, onto}
use Rattle.mcs_book.specs.Pieces.{Outcome}
use Rattle.mcs_book.specs.Boots.{boot_log}
use Rattle.mcs_book.specs.Table.{does}
use Rattle.mcs_book.specs.History.{Line, Book, past, log_of, line_for, Follows, AreLegal, IsLegal}
use Rattle.mcs_book.specs.Each.{Each, EachOf, EachLineAfter, EachLine}
use Rattle.mcs_book.specs.Sound.{Allowed, Sound}
use Rattle.mcs_book.specs.Fair.{IsSentWhole, GivesBack, AnswersWhole, IsTakenWhole, IsPaidWhole, IsWholeLine}
use Rattle.mcs_book.proofs.WholeMessages.Records.{each_of-map, IsWhole, AreWhole}
use Rattle.mcs_book.proofs.SoundLogs.Safety.{Safe}
use Rattle.mcs_book.proofs.WholeMessages.Table.{whole-does}
use Rattle.mcs_book.proofs.Queues.Standings.{safe-begins, safe-boot, safe-past}

-- each answer of a line is whole
abbrev pub ArePaidWhole : Log → Line → Type 0
ArePaidWhole R l = EachOf (IsPaidWhole (onto l.records R) l) R l.records

-- the messages and the answers of a line are whole, and contexts return where the log after it is
-- sound
abbrev IsAllWhole : Log → Line → Type 0
IsAllWhole R l = IsWholeLine R l × ArePaidWhole R l × (Sound (onto l.records R) → EachOf (GivesBack (onto l.records R)) R l.records)

-- what holds of each record holds of each before some
each-before : (P : Log → Rec → Type 0) (R : Log) (made : List Rec) → Each P (onto made R) → Each P R
each-before P R [] h = h
each-before P R (r ∷ made) h = (each-before P (r ∷ R) made h).1

-- what holds where the records so far were allowed holds of each record of a line after which the
-- log is sound
each-allowed : (P : Log → Rec → Type 0) (R : Log) (made : List Rec) → Sound (onto made R) → EachOf (λ S r. Sound S → P S r) R made → EachOf P R made
each-allowed P R [] sound h = tt
each-allowed P R (r ∷ made) sound h = (h.0 (each-before Allowed R (r ∷ made) sound), each-allowed P (r ∷ R) made sound h.1)

-- what is said of a message that is sent reads only the step of a line
sent-of : (R after : Log) (s : Step) (o : Outcome) (S : Log) (r : Rec) → IsWhole R after s o.answer S r → IsSentWhole R (line_for s o) S r
sent-of R after s o S (rec.Sent x e mode badge message) h = h.0
sent-of R after s o S _ h = tt

-- what is said of a message that is taken reads only the step and the answer
taken-of : (R after : Log) (s : Step) (o : Outcome) (S : Log) (r : Rec) → IsWhole R after s o.answer S r → IsTakenWhole after (line_for s o) S r
taken-of R after s o S (rec.Took m p) h = h.1
taken-of R after s o S _ h = tt

-- what is said of an answer reads only the step
paid-of : (R after : Log) (s : Step) (o : Outcome) (S : Log) (r : Rec) → IsWhole R after s o.answer S r → IsPaidWhole after (line_for s o) S r
paid-of R after s o S (rec.Paid r x message) h = h.2
paid-of R after s o S _ h = tt

-- the line of a step is whole where all that is said of its records holds
line-whole : (R : Log) (s : Step) (o : Outcome) → AreWhole R (onto o.records R) s o.answer R o.records → IsAllWhole R (line_for s o)
line-whole R s o h =
    let after : Log = onto o.records R in (
      (
        each_of-map (IsWhole R after s o.answer) (IsSentWhole R (line_for s o)) (sent-of R after s o) R o.records h,
        each_of-map (IsWhole R after s o.answer) (IsTakenWhole after (line_for s o)) (taken-of R after s o) R o.records h,
      ),
      each_of-map (IsWhole R after s o.answer) (IsPaidWhole after (line_for s o)) (paid-of R after s o) R o.records h,
      λ sound. each-allowed (GivesBack after) R o.records sound (each_of-map (IsWhole R after s o.answer) (λ S r. Sound S → GivesBack after S r) (λ S r w. w.5) R o.records h),
    )

-- a line that may follow a safe log is whole
follows-whole : (R : Log) (l : Line) → Each Safe R → Follows R l → IsAllWhole R l
follows-whole R l safe h =
    let o : Outcome = does R l.step.core l.step.thread l.step.entry in
    let it : line_for l.step o ≡ l = λ i. record { step = l.step; answer = sym h.answer i; records = sym h.records i } in
    subst (λ k. IsAllWhole R k) it (line-whole R l.step o (whole-does R l.step.core l.step.thread l.step.entry (safe-begins R l.step.core l.step.thread h.enters safe)))

-- so are all lines after it
lines-whole : (B : Log) (ls : List Line) → Each Safe B → AreLegal B ls → EachLineAfter IsAllWhole B ls
lines-whole B [] safe h = tt
lines-whole B (l ∷ ls) safe h = (follows-whole (past B ls) l (safe-past B ls h.1 safe) h.0, lines-whole B ls safe h.1)

-- what follows holds of each line too
each_line-map : (P Q : Log → Line → Type 0) → ((R : Log) (l : Line) → P R l → Q R l) → (B : Log) (ls : List Line) → EachLineAfter P B ls → EachLineAfter Q B ls
each_line-map P Q f B [] h = tt
each_line-map P Q f B (l ∷ ls) h = (f (past B ls) l h.0, each_line-map P Q f B ls h.1)

-- all of it, of the lines of a legal book
all-whole : (b : Book) → IsLegal b → EachLine IsAllWhole b
all-whole b legal = lines-whole (boot_log b.boot.lines) b.lines (safe-boot b.boot.cores b.boot.lines legal.boot.lines) legal.lines

-- the law: each message of a legal book is whole, when sent and when taken
pub legal-whole : (b : Book) → IsLegal b → EachLine IsWholeLine b
legal-whole b legal = each_line-map IsAllWhole IsWholeLine (λ R l h. h.0) (boot_log b.boot.lines) b.lines (all-whole b legal)

-- the law: contexts return with the answers of a legal book whose log is sound, and the answers are
-- whole
pub sound-answers_whole : (b : Book) → IsLegal b → Sound (log_of b) → EachLine AnswersWhole b
sound-answers_whole b legal sound = lines-answers (boot_log b.boot.lines) b.lines sound (all-whole b legal)
  where
    lines-answers : (B : Log) (ls : List Line) → Sound (past B ls) → EachLineAfter IsAllWhole B ls → EachLineAfter AnswersWhole B ls
    lines-answers B [] s h = tt
    lines-answers B (l ∷ ls) s h = ((h.0.2 s, h.0.1), lines-answers B ls (each-before Allowed (past B ls) l.records s) h.1)
