-- The arrows join the threads that the questions about the log name.
use Rattle.std.proofs.Common.{◌≡◌, ℕ, zero, suc, Bool, true, false, cond, ◌==◌, ◌||◌, Option, Some, None, slice_get, List, [], ◌∷◌, ◌++◌, ◌+◌, length, map, refl, sym, ap, ◌∙◌, arith}
use Rattle.std.specs.Prelude.{option_map, unwrap_or}
use Rattle.std.specs.List.{list_any}
use Rattle.std.proofs.lemmas.Bool.{eqb-true, eqb-false}
use Rattle.std.proofs.lemmas.List.{append-nil, append_assoc, map-append}
use Rattle.std.proofs.lemmas.Option.{slice_get-map}
use Rattle.mcs_types.specs.declared.id.ObjId.{ObjId}
use Rattle.mcs_types.specs.declared.boot.BootLine.{BootLine}
use Rattle.mcs_types.specs.declared.record.Letter.{Letter}
use Rattle.mcs_types.specs.declared.record.Rec.{Rec}
use Rattle.mcs_types.specs.declared.record.Rec.TheVariants as rec
use Rattle.mcs_book.specs.Logs.{Log, onto}
use Rattle.mcs_book.specs.Boots.{boot_log}
use Rattle.mcs_book.specs.Messages.{next_message, letter}
use Rattle.mcs_book.specs.History.{Line, Book, past}
use Rattle.mcs_book.proofs.Books.HistoryLaws.{boot-keeps}
use Rattle.mcs_book.proofs.SoundLogs.Keeping.{is_aside}
use Rattle.mcs_lab_diagram.specs.declared.arrows.Point.{Point}
use Rattle.mcs_lab_diagram.specs.declared.arrows.Shown.TheVariants.{Message, Word}
use Rattle.mcs_lab_diagram.specs.Arrows.{Strokes, beside, raise_of, raised_with, start_of, with_record, with_records, strokes_of, row_of}
use Rattle.mcs_lab_diagram.specs.Ends.{ends_of, sender_of, is_raise, raiser_in, raiser_of, ends_made, ends_of_records, ends_in}
use Rattle.mcs_lab_diagram.proofs.RaiseLaws.{thread_in, point-thread, raised-same, raised-other}

-- the senders of all messages, the first first
abbrev senders : Log → List ObjId
senders [] = []
senders (rec.Sent x e mode badge message ∷ R) = senders R ++ x ∷ []
senders (_ ∷ R) = senders R

length-more : {X : Type 0} (xs : List X) (x : X) → length (xs ++ x ∷ []) ≡ length xs + 1
length-more [] x = refl
length-more (y ∷ ys) x = let one : length (ys ++ x ∷ []) ≡ length ys + 1 = length-more ys x in omega (arith, one)

senders-count : (R : Log) → length (senders R) ≡ next_message R
senders-count [] = refl
senders-count (rec.Sent x e mode badge message ∷ R) = length-more (senders R) x ∙ ap (λ n. n + 1) (senders-count R)
senders-count (_ ∷ R) = senders-count R

-- the element after a list, and those within
at-end : {X : Type 0} (xs : List X) (x : X) → slice_get (xs ++ x ∷ []) (length xs) ≡ Some x
at-end [] x = refl
at-end (y ∷ ys) x = at-end ys x

at-others : {X : Type 0} (xs : List X) (x : X) (m : ℕ) → (length xs ≡ m → ⊥) → slice_get (xs ++ x ∷ []) m ≡ slice_get xs m
at-others [] x zero ne = absurd (ne refl)
at-others [] x (suc m) ne = refl
at-others (y ∷ ys) x zero ne = refl
at-others (y ∷ ys) x (suc m) ne = at-others ys x m (λ e. ne (ap suc e))

-- message m is of the m-th sender
senders-at : (R : Log) (m : ℕ) → slice_get (senders R) m ≡ sender_of R m
senders-at [] m = refl
senders-at (rec.Sent x e mode badge message ∷ R) m = go (next_message R == m) refl (senders-at R m)
  where
    new : Letter
    new = record { number = next_message R; sender = x; endpoint = e; mode = mode; badge = badge; message = message }

    go : (b : Bool) → (next_message R == m) ≡ b → slice_get (senders R) m ≡ sender_of R m → slice_get (senders R ++ x ∷ []) m ≡ option_map (λ (s : Letter). s.sender) (cond b (Some new) (letter R m))
    go true is before = ap (λ n. slice_get (senders R ++ x ∷ []) n) (sym (eqb-true _ _ is) ∙ sym (senders-count R)) ∙ at-end (senders R) x
    go false is before = at-others (senders R) x m (λ k. eqb-false _ _ is (sym (senders-count R) ∙ k)) ∙ before
senders-at (_ ∷ R) m = senders-at R m

-- the threads of points
abbrev threads_of : List Point → List ObjId
threads_of ps = map (λ (p : Point). p.thread) ps

-- a record more
record-senders : (here : Point) (s : Strokes) (R : Log) (r : Rec) → threads_of s.sent ≡ senders R → threads_of (with_record here s r).sent ≡ senders (r ∷ R)
record-senders here s R (rec.Sent x e mode badge message) h = map-append (λ (p : Point). p.thread) s.sent (beside here x ∷ []) ∙ ap (λ xs. xs ++ x ∷ []) h
record-senders here s R _ h = h

-- where a message starts
starts : (here : Point) (s : Strokes) (R : Log) (m : ℕ) → threads_of s.sent ≡ senders R → (start_of s here m).thread ≡ unwrap_or (sender_of R m) here.thread
starts here s R m h = go (slice_get s.sent m) refl
  where
    is : option_map (λ (p : Point). p.thread) (slice_get s.sent m) ≡ sender_of R m
    is = sym (slice_get-map (λ (p : Point). p.thread) s.sent m) ∙ ap (λ xs. slice_get xs m) h ∙ senders-at R m

    go : (o : Option Point) → slice_get s.sent m ≡ o → (unwrap_or o here).thread ≡ unwrap_or (sender_of R m) here.thread
    go (Some p) e = ap (λ o. unwrap_or o here.thread) (sym (ap (λ o. option_map (λ (p : Point). p.thread) o) e) ∙ is)
    go None e = ap (λ o. unwrap_or o here.thread) (sym (ap (λ o. option_map (λ (p : Point). p.thread) o) e) ∙ is)

-- these points say which thread raised each notification last: in a line of t that has made these
-- records so far, after these lines
abbrev AreRaised : List (Option Point) → ObjId → List Line → List Rec → Type 0
AreRaised ps t ls made = (n : ℕ) → thread_in (slice_get ps n) ≡ raiser_of t ls made n

record-raised : (here : Point) (s : Strokes) (ls : List Line) (made : List Rec) (r : Rec) → AreRaised s.raised here.thread ls made
    → AreRaised (with_record here s r).raised here.thread ls (r ∷ made)
record-raised here s ls made (rec.Raised k badge) h = λ n. go n (n == k.serial) refl
  where
    go : (n : ℕ) (b : Bool) → (n == k.serial) ≡ b
        → thread_in (slice_get (raised_with s.raised k.serial here) n) ≡ cond (b || list_any (is_raise n) made) (Some here.thread) (raiser_in n ls)
    go n true is = ap (λ m. thread_in (slice_get (raised_with s.raised k.serial here) m)) (eqb-true n k.serial is) ∙ raised-same s.raised k.serial here
    go n false is = raised-other s.raised k.serial n here (eqb-false n k.serial is) ∙ h n
record-raised here s ls made _ h = h

-- from where a word starts
raises : (here : Point) (s : Strokes) (ls : List Line) (made : List Rec) (n : ObjId) → AreRaised s.raised here.thread ls made
    → (raise_of s here n).thread ≡ unwrap_or (raiser_of here.thread ls made n.serial) here.thread
raises here s ls made n h = point-thread here (slice_get s.raised n.serial) ∙ ap (λ o. unwrap_or o here.thread) (h n.serial)

record-ends : (here : Point) (s : Strokes) (ls : List Line) (made : List Rec) (R : Log) (r : Rec) → threads_of s.sent ≡ senders R → AreRaised s.raised here.thread ls made
    → map ends_of (with_record here s r).arrows ≡ map ends_of s.arrows ++ ends_made here.thread ls made R r
record-ends here s ls made R (rec.Took m p) h raised =
    map-append ends_of s.arrows _
    ∙ ap (λ (t : ObjId). map ends_of s.arrows ++ (record { shown = Message m; from = t; to = p }) ∷ []) (starts here s R m h)
record-ends here s ls made R (rec.Paid r x message) h raised = map-append ends_of s.arrows _
record-ends here s ls made R (rec.Heard x n word) h raised =
    map-append ends_of s.arrows _
    ∙ ap (λ (t : ObjId). map ends_of s.arrows ++ (record { shown = Word n; from = t; to = x }) ∷ []) (raises here s ls made n raised)
record-ends here s ls made R _ h raised = sym (append-nil (map ends_of s.arrows))

-- records more
records-senders : (here : Point) (s : Strokes) (R : Log) (rs : List Rec) → threads_of s.sent ≡ senders R → threads_of (with_records here s rs).sent ≡ senders (onto rs R)
records-senders here s R [] h = h
records-senders here s R (r ∷ rs) h = records-senders here (with_record here s r) (r ∷ R) rs (record-senders here s R r h)

records-raised : (here : Point) (s : Strokes) (ls : List Line) (made rs : List Rec) → AreRaised s.raised here.thread ls made
    → AreRaised (with_records here s rs).raised here.thread ls (onto rs made)
records-raised here s ls made [] h = h
records-raised here s ls made (r ∷ rs) h = records-raised here (with_record here s r) ls (r ∷ made) rs (record-raised here s ls made r h)

records-ends : (here : Point) (s : Strokes) (ls : List Line) (made : List Rec) (R : Log) (rs : List Rec) → threads_of s.sent ≡ senders R
    → AreRaised s.raised here.thread ls made
    → map ends_of (with_records here s rs).arrows ≡ map ends_of s.arrows ++ ends_of_records here.thread ls made R rs
records-ends here s ls made R [] h raised = sym (append-nil (map ends_of s.arrows))
records-ends here s ls made R (r ∷ rs) h raised =
    records-ends here (with_record here s r) ls (r ∷ made) (r ∷ R) rs (record-senders here s R r h) (record-raised here s ls made r raised)
    ∙ ap (λ xs. xs ++ ends_of_records here.thread ls (r ∷ made) (r ∷ R) rs) (record-ends here s ls made R r h raised)
    ∙ append_assoc (map ends_of s.arrows) (ends_made here.thread ls made R r) (ends_of_records here.thread ls (r ∷ made) (r ∷ R) rs)

-- whether one of some records passes a test, in whatever order
any-turned : (a b c : Bool) → (a || (b || c)) ≡ ((b || a) || c)
any-turned true true c = refl
any-turned true false c = refl
any-turned false true c = refl
any-turned false false c = refl

any-onto : (test : Rec → Bool) (rs made : List Rec) → list_any test (onto rs made) ≡ (list_any test rs || list_any test made)
any-onto test [] made = refl
any-onto test (r ∷ rs) made = any-onto test rs (r ∷ made) ∙ any-turned (list_any test rs) (test r) (list_any test made)

or-false : (a : Bool) → (a || false) ≡ a
or-false true = refl
or-false false = refl

-- lines
lines-senders : (B : Log) (ls : List Line) → senders B ≡ [] → threads_of (strokes_of ls).sent ≡ senders (past B ls)
lines-senders B [] h = sym h
lines-senders B (l ∷ ls) h = records-senders (row_of (length ls + 1) l) (strokes_of ls) (past B ls) l.records (lines-senders B ls h)

lines-raised : (ls : List Line) (n : ℕ) → thread_in (slice_get (strokes_of ls).raised n) ≡ raiser_in n ls
lines-raised [] n = refl
lines-raised (l ∷ ls) n =
    records-raised (row_of (length ls + 1) l) (strokes_of ls) ls [] l.records (lines-raised ls) n
    ∙ ap (λ b. cond b (Some l.step.thread) (raiser_in n ls)) (any-onto (is_raise n) l.records [] ∙ or-false (list_any (is_raise n) l.records))

lines-ends : (B : Log) (ls : List Line) → senders B ≡ [] → map ends_of (strokes_of ls).arrows ≡ ends_in B ls
lines-ends B [] h = refl
lines-ends B (l ∷ ls) h =
    records-ends (row_of (length ls + 1) l) (strokes_of ls) ls [] (past B ls) l.records (lines-senders B ls h) (lines-raised ls)
    ∙ ap (λ xs. xs ++ ends_of_records l.step.thread ls [] (past B ls) l.records) (lines-ends B ls h)

-- a boot sends nothing
senders-aside : (R : Log) (r : Rec) → is_aside r ≡ true → senders R ≡ [] → senders (r ∷ R) ≡ []
senders-aside R (rec.Sent x e mode badge message) aside h = absurd cc
senders-aside R _ aside h = h

boot-senders : (lines : List BootLine) → senders (boot_log lines) ≡ []
boot-senders lines = boot-keeps (λ R. senders R ≡ []) refl senders-aside lines

-- the ends of the arrows of a book
pub drawn_ends : (s : Strokes) (b : Book) → s ≡ strokes_of b.lines → map ends_of s.arrows ≡ ends_in (boot_log b.boot.lines) b.lines
drawn_ends s b e = ap (λ (t : Strokes). map ends_of t.arrows) e ∙ lines-ends (boot_log b.boot.lines) b.lines (boot-senders b.boot.lines)

-- where message m was sent from
pub drawn_sender : (s : Strokes) (b : Book) (m : ℕ) → s ≡ strokes_of b.lines → option_map (λ (p : Point). p.thread) (slice_get s.sent m) ≡ sender_of (past (boot_log b.boot.lines) b.lines) m
drawn_sender s b m e =
    sym (slice_get-map (λ (p : Point). p.thread) s.sent m)
    ∙ ap (λ (t : Strokes). slice_get (threads_of t.sent) m) e
    ∙ ap (λ xs. slice_get xs m) (lines-senders (boot_log b.boot.lines) b.lines (boot-senders b.boot.lines))
    ∙ senders-at (past (boot_log b.boot.lines) b.lines) m
