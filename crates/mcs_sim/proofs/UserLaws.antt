-- The lists of users: bytes after bytes, whole lines, and what stops.
use Rattle.std.proofs.Common.{◌≡◌, ℕ, zero, suc, ◌+◌, ◌*◌, ◌<◌, ◌≤◌, ◌⊎◌, inl, inr, true, false, eqb, ltb, Option, Some, None, Result, Ok, Err, OnOk, IfErr, List, [], ◌∷◌, ◌++◌, length, slice_index, refl, sym, ap, subst, ◌∙◌, append_assoc, append-nil, arith}
use Rattle.std.proofs.lemmas.Bool.{lt-ltb, le-ltb, ne_eqb}
use Rattle.std.proofs.lemmas.List.{length-append}
use Rattle.std.specs.Io.KnownBytes.{Consumes, IsAtEnd}
use Rattle.mcs_book.specs.Boots.{Boot}
use Rattle.mcs_text.specs.declared.fault.LineFault.{LineFault}
use Rattle.mcs_text.specs.declared.fault.LineFault.TheVariants as why
use Rattle.mcs_text.specs.declared.steps.UserEntry.{UserEntry}
use Rattle.mcs_text.specs.Reading.{onto_first, lines_of}
use Rattle.mcs_phases.specs.declared.fault.SimFault.{SimFault}
use Rattle.mcs_phases.specs.declared.fault.SimFault.TheVariants as fault
use Rattle.mcs_phases.specs.Script.{Script, of_users, says_something, read_line, ending, script_from, script_of, users}
use Rattle.mcs_phases.specs.Feeds.{HasNoNewline}
use Rattle.mcs_sim.specs.Users.{Users, no_users, IsKept, read_after, AreLines, TakesUsers, IsFaultIn, IsFaultOfLine, read_to_end, IsFaultAtEnd, AreFaultless, GoesOn, UsersStopSoon}
use Rattle.mcs_sim.specs.Running.{Reads, EndsUsers}
use Rattle.mcs_sim.proofs.ScriptLaws.{script_from-ok, script_from-err}
use Rattle.mcs_sim.proofs.InputLaws.{lines-byte, within}

-- ---- lines without their newlines

pub plain-nil : (text : List ℕ) → text ≡ [] → HasNoNewline text
plain-nil [] is = λ k lt. absurd (omega (arith, lt))
plain-nil (b ∷ bs) is = absurd cc

plain-first : (b : ℕ) (bs : List ℕ) → HasNoNewline (b ∷ bs) → eqb b 10 ≡ false
plain-first b bs plain = ne_eqb b 10 (plain 0 (omega arith))

plain-later : (b : ℕ) (bs : List ℕ) → HasNoNewline (b ∷ bs) → HasNoNewline bs
plain-later b bs plain = λ k lt. plain (suc k) (omega (arith, lt))

plain-onto : (b : ℕ) (bs : List ℕ) → (b ≡ 10 → ⊥) → HasNoNewline bs → HasNoNewline (b ∷ bs)
plain-onto b bs other plain = go
  where
    go : (k : ℕ) → k < length (b ∷ bs) → slice_index (b ∷ bs) k ≡ 10 → ⊥
    go zero lt = other
    go (suc k) lt = plain k (omega (arith, lt))

pub plain-append : (xs ys : List ℕ) → HasNoNewline xs → HasNoNewline ys → HasNoNewline (xs ++ ys)
plain-append [] ys one two = two
plain-append (x ∷ xs) ys one two = plain-onto x (xs ++ ys) (one 0 (omega arith)) (plain-append xs ys (plain-later x xs one) two)

-- a line with its newline
pub lines-ended : (line more : List ℕ) → HasNoNewline line → lines_of (line ++ 10 ∷ more) ≡ line ∷ lines_of more
lines-ended [] more plain = refl
lines-ended (b ∷ bs) more plain = lines-byte b (bs ++ 10 ∷ more) false (plain-first b bs plain) ∙ ap (onto_first b) (lines-ended bs more (plain-later b bs plain))

-- a last line
lines-last : (b : ℕ) (bs : List ℕ) → HasNoNewline (b ∷ bs) → lines_of (b ∷ bs) ≡ (b ∷ bs) ∷ []
lines-last b [] plain = lines-byte b [] false (plain-first b [] plain)
lines-last b (c ∷ cs) plain = lines-byte b (c ∷ cs) false (plain-first b (c ∷ cs) plain) ∙ ap (onto_first b) (lines-last c cs (plain-later b (c ∷ cs) plain))

-- a line that goes on with any text
lines-first : (b : ℕ) (bs more : List ℕ) → HasNoNewline (b ∷ bs) → (rest : List ℕ) × (later : List (List ℕ)) × (lines_of ((b ∷ bs) ++ more) ≡ ((b ∷ bs) ++ rest) ∷ later)
lines-first b [] more plain = onto (lines_of more) refl
  where
    onto : (ls : List (List ℕ)) → lines_of more ≡ ls → (rest : List ℕ) × (later : List (List ℕ)) × (lines_of (b ∷ more) ≡ (b ∷ rest) ∷ later)
    onto [] is = ([], [], lines-byte b more false (plain-first b [] plain) ∙ ap (onto_first b) is)
    onto (l ∷ ls) is = (l, ls, lines-byte b more false (plain-first b [] plain) ∙ ap (onto_first b) is)
lines-first b (c ∷ cs) more plain =
    let next = lines-first c cs more (plain-later b (c ∷ cs) plain) in
    (next.0, next.1, lines-byte b (c ∷ cs ++ more) false (plain-first b (c ∷ cs) plain) ∙ ap (onto_first b) next.2)

-- so is the one of a text that is not empty
begun : (line more : List ℕ) → HasNoNewline line → 0 < length line → (rest : List ℕ) × (later : List (List ℕ)) × (lines_of (line ++ more) ≡ (line ++ rest) ∷ later)
begun [] more plain some = absurd (omega (arith, some))
begun (b ∷ bs) more plain some = lines-first b bs more plain

-- how many lines one is
one-line : (line : List ℕ) → HasNoNewline line → (length (lines_of line) ≡ 0) ⊎ ((0 < length line) × (length (lines_of line) ≡ 1))
one-line [] plain = inl refl
one-line (b ∷ bs) plain = inr (omega arith, ap (λ (ls : List (List ℕ)). length ls) (lines-last b bs plain))

-- users, by their fields
abbrev pub users_of : Option ℕ → Script UserEntry → ℕ → List ℕ → Users
users_of asked script lines line = record { asked = asked; script = script; lines = lines; line = line }

-- ---- no byte, and a part of a line

pub takes-none : (u : Users) (part : List ℕ) → eqb (length part) 0 ≡ true → TakesUsers part u u
takes-none u [] none = record {
  ended = [];
  split = append-nil u.line;
  lines = inl refl;
  count = λ more. refl;
  short = omega arith;
  reads = λ more. refl;
}
takes-none u (b ∷ bs) none = absurd (let other : eqb (length (b ∷ bs)) 0 ≡ false = ne_eqb _ _ (λ e. omega arith) in cc)

pub takes-part : (u : Users) (part line : List ℕ) → line ≡ u.line ++ part → TakesUsers part u (record { asked = u.asked; script = u.script; lines = u.lines; line = line })
takes-part u part line is = record {
  ended = [];
  split = sym is;
  lines = inl refl;
  count = λ more. refl;
  short = omega arith;
  reads = λ more. refl;
}

-- ---- what is kept

-- a line that has ended
pub kept-nil : (lines : ℕ) (line : List ℕ) → lines ≤ 2000000 → line ≡ [] → IsKept lines line
kept-nil lines [] few is = record {
  few = few;
  short = omega arith;
  room = λ lt. absurd (omega (arith, lt));
  plain = plain-nil [] refl;
}
kept-nil lines (b ∷ bs) few is = absurd cc

-- a line that may not be there, however it goes on
fault-part : (u : Users) (part : List ℕ) (e : LineFault) → HasNoNewline u.line → HasNoNewline part → eqb (length part) 0 ≡ false
    → ((rest : List ℕ) → says_something (u.lines + 1) ((u.line ++ part) ++ rest) ≡ Err e) → IsFaultIn part u (fault.Script (u.lines + 1) e)
unfolding read_line
fault-part u part e plain other some refused = λ more.
    let first = begun (u.line ++ part) more (plain-append u.line part plain other) (omega (arith, length-append u.line part, filled part some)) in
    let read : read_line (of_users u.asked) u.script (u.lines + 1) ((u.line ++ part) ++ first.0) ≡ Err e = rw (refused first.0) refl in
    ap (λ (ls : List (List ℕ)). (script_from (of_users u.asked) u.script (u.lines + 1) ls).1) first.2
    ∙ ap (λ (r : Script UserEntry × Option (ℕ × LineFault)). r.1) (script_from-err (of_users u.asked) u.script (u.lines + 1) ((u.line ++ part) ++ first.0) first.1 e read)
  where
    filled : (xs : List ℕ) → eqb (length xs) 0 ≡ false → 0 < length xs
    filled [] is = absurd cc
    filled (x ∷ xs) is = omega arith

pub fault-many : (u : Users) (part : List ℕ) → IsKept u.lines u.line → HasNoNewline part → eqb (length part) 0 ≡ false → 2000000 < u.lines + 1 → IsFaultIn part u (fault.Script (u.lines + 1) why.ManyLines)
fault-many u part kept plain some over = fault-part u part why.ManyLines kept.plain plain some (λ rest. rw (lt-ltb 2000000 (u.lines + 1) over) refl)

pub fault-long : (u : Users) (part : List ℕ) → IsKept u.lines u.line → HasNoNewline part → eqb (length part) 0 ≡ false → u.lines + 1 ≤ 2000000 → 4096 < length u.line + length part → IsFaultIn part u (fault.Script (u.lines + 1) why.LongLine)
fault-long u part kept plain some few over = fault-part u part why.LongLine kept.plain plain some (λ rest.
    let grown : length ((u.line ++ part) ++ rest) ≡ length u.line + length part + length rest = length-append (u.line ++ part) rest ∙ ap (λ (n : ℕ). n + length rest) (length-append u.line part) in
    let long : ltb 4096 (length ((u.line ++ part) ++ rest)) ≡ true = lt-ltb _ _ (omega (arith, grown, over)) in
    let room : ltb 2000000 (u.lines + 1) ≡ false = le-ltb _ _ few in
    rw (room, long) refl)

-- ---- a whole line

-- a line, its newline and any text, after what was kept
cut-line : (kept part line more : List ℕ) → line ≡ kept ++ part → kept ++ (part ++ 10 ∷ []) ++ more ≡ line ++ 10 ∷ more
cut-line kept part line more is =
    ap (λ (l : List ℕ). l ++ more) (sym (append_assoc kept part (10 ∷ []))) ∙ append_assoc (kept ++ part) (10 ∷ []) more ∙ ap (λ (l : List ℕ). l ++ 10 ∷ more) (sym is)

pub takes-line : (u : Users) (part line after : List ℕ) (t : Script UserEntry) → line ≡ u.line ++ part → HasNoNewline line → after ≡ []
    → read_line (of_users u.asked) u.script (u.lines + 1) line ≡ Ok t → TakesUsers (part ++ 10 ∷ []) u (record { asked = u.asked; script = t; lines = u.lines + 1; line = after })
takes-line u part line after t is plain none read =
    let fits = within (of_users u.asked) u.script t (u.lines + 1) line read in
    record {
      ended = line ++ 10 ∷ [];
      split = sym (append-nil (u.line ++ (part ++ 10 ∷ []))) ∙ cut-line u.line part line [] is ∙ sym (append-nil (line ++ 10 ∷ [])) ∙ ap (λ (l : List ℕ). (line ++ 10 ∷ []) ++ l) (sym none);
      lines = inr (line, refl);
      count = λ more. omega (arith, ap (λ (ls : List (List ℕ)). length ls) (here more));
      short = omega (arith, fits.1, length-append line (10 ∷ []));
      reads = λ more. ap (script_from (of_users u.asked) u.script (u.lines + 1)) (here more) ∙ script_from-ok (of_users u.asked) u.script t (u.lines + 1) line (lines_of more) read;
    }
  where
    here : (more : List ℕ) → lines_of ((line ++ 10 ∷ []) ++ more) ≡ line ∷ lines_of more
    here more = ap lines_of (append_assoc line (10 ∷ []) more) ∙ lines-ended line more plain

pub fault-line : (u : Users) (part line : List ℕ) (e : SimFault) → line ≡ u.line ++ part → HasNoNewline line
    → IsFaultOfLine (u.lines + 1) (read_line (of_users u.asked) u.script (u.lines + 1) line) e → IsFaultIn (part ++ 10 ∷ []) u e
fault-line u part line fault.Argument is plain bad = absurd bad
fault-line u part line (fault.Script number e) is plain bad = λ more.
    ap (λ (text : List ℕ). (read_after u text).1) (cut-line u.line part line more is)
    ∙ ap (λ (ls : List (List ℕ)). (script_from (of_users u.asked) u.script (u.lines + 1) ls).1) (lines-ended line more plain)
    ∙ ap (λ (r : Script UserEntry × Option (ℕ × LineFault)). r.1) (script_from-err (of_users u.asked) u.script (u.lines + 1) line (lines_of more) e bad.1)
    ∙ ap (λ (n : ℕ). Some (n, e)) (sym bad.0)
fault-line u part line fault.Read is plain bad = absurd bad
fault-line u part line fault.Write is plain bad = absurd bad
fault-line u part line fault.BookFull is plain bad = absurd bad
fault-line u part line fault.OutOfMemory is plain bad = tt
fault-line u part line fault.Failed is plain bad = absurd bad
fault-line u part line fault.NotStarted is plain bad = absurd bad

-- ---- bytes after bytes

are-both : (xs ys : List ℕ) → AreLines xs → AreLines ys → AreLines (xs ++ ys)
are-both xs ys one (inl none) = subst AreLines (sym (ap (λ (l : List ℕ). xs ++ l) none ∙ append-nil xs)) one
are-both xs ys one (inr two) = inr (xs ++ two.0, ap (λ (l : List ℕ). xs ++ l) two.1 ∙ sym (append_assoc xs two.0 (10 ∷ [])))

pub takes-append : (u v w : Users) (xs ys : List ℕ) → TakesUsers xs u v → TakesUsers ys v w → TakesUsers (xs ++ ys) u w
takes-append u v w xs ys one two = record {
  ended = one.ended ++ two.ended;
  split = sym (append_assoc u.line xs ys) ∙ ap (λ (l : List ℕ). l ++ ys) one.split ∙ append_assoc one.ended v.line ys ∙ ap (λ (l : List ℕ). one.ended ++ l) two.split ∙ sym (append_assoc one.ended two.ended w.line);
  lines = are-both one.ended two.ended one.lines two.lines;
  count = λ more. ap (λ (l : List ℕ). u.lines + length (lines_of l)) (append_assoc one.ended two.ended more) ∙ one.count (two.ended ++ more) ∙ two.count more;
  short = omega (arith, one.short, two.short, length-append one.ended two.ended);
  reads = λ more. ap (read_after u) (append_assoc one.ended two.ended more) ∙ one.reads (two.ended ++ more) ∙ two.reads more;
}

-- the bytes after those that were taken
after_taken : (u v : Users) (xs ys more : List ℕ) → (t : TakesUsers xs u v) → u.line ++ (xs ++ ys) ++ more ≡ t.ended ++ (v.line ++ ys ++ more)
after_taken u v xs ys more t =
    ap (λ (l : List ℕ). l ++ more) (sym (append_assoc u.line xs ys) ∙ ap (λ (l : List ℕ). l ++ ys) t.split ∙ append_assoc t.ended v.line ys) ∙ append_assoc t.ended (v.line ++ ys) more

pub fault-after : (u v : Users) (xs ys : List ℕ) (e : SimFault) → TakesUsers xs u v → IsFaultIn ys v e → IsFaultIn (xs ++ ys) u e
fault-after u v xs ys fault.Argument takes bad = absurd bad
fault-after u v xs ys (fault.Script line e) takes bad = λ more.
    ap (λ (text : List ℕ). (read_after u text).1) (after_taken u v xs ys more takes) ∙ ap (λ (r : Script UserEntry × Option (ℕ × LineFault)). r.1) (takes.reads (v.line ++ ys ++ more)) ∙ bad more
fault-after u v xs ys fault.Read takes bad = absurd bad
fault-after u v xs ys fault.Write takes bad = absurd bad
fault-after u v xs ys fault.BookFull takes bad = absurd bad
fault-after u v xs ys fault.OutOfMemory takes bad = tt
fault-after u v xs ys fault.Failed takes bad = absurd bad
fault-after u v xs ys fault.NotStarted takes bad = absurd bad

pub fault-before : (u : Users) (xs ys : List ℕ) (e : SimFault) → IsFaultIn xs u e → IsFaultIn (xs ++ ys) u e
fault-before u xs ys fault.Argument bad = absurd bad
fault-before u xs ys (fault.Script line e) bad = λ more. ap (λ (text : List ℕ). (read_after u text).1) (ap (λ (l : List ℕ). l ++ more) (sym (append_assoc u.line xs ys)) ∙ append_assoc (u.line ++ xs) ys more) ∙ bad (ys ++ more)
fault-before u xs ys fault.Read bad = absurd bad
fault-before u xs ys fault.Write bad = absurd bad
fault-before u xs ys fault.BookFull bad = absurd bad
fault-before u xs ys fault.OutOfMemory bad = tt
fault-before u xs ys fault.Failed bad = absurd bad
fault-before u xs ys fault.NotStarted bad = absurd bad

-- a fault of a piece, in the line that ends after what was taken of it
pub fault-within : (u v : Users) (piece before line rest : List ℕ) (e : SimFault) → piece ≡ before ++ (line ++ rest) → TakesUsers before u v → IsFaultIn line v e → IsFaultIn piece u e
fault-within u v piece before line rest e split takes bad =
    subst (λ (l : List ℕ). IsFaultIn l u e) (sym split) (fault-after u v before (line ++ rest) e takes (fault-before v line rest e bad))

-- how far users have come
abbrev pub weight : Users → ℕ
weight u = u.lines * 4097 + length u.line

pub further : (u v : Users) (bytes : List ℕ) → TakesUsers bytes u v → IsKept v.lines v.line → (weight u + length bytes ≤ weight v) × (weight v ≤ 8194004096)
further u v bytes takes kept =
    let all : length u.line + length bytes ≡ length takes.ended + length v.line = sym (length-append u.line bytes) ∙ ap (λ (l : List ℕ). length l) takes.split ∙ length-append takes.ended v.line in
    (omega (arith, all, takes.short), omega (arith, kept.few, kept.short))

-- what two calls take, one after the other
pub ok-append : (r : Result (Unit {0}) SimFault) (u v w : Users) (xs ys : List ℕ) → TakesUsers xs u v → OnOk r (TakesUsers ys v w) → OnOk r (TakesUsers (xs ++ ys) u w)
ok-append (Ok x) u v w xs ys one two = takes-append u v w xs ys one two
ok-append (Err e) u v w xs ys one two = tt

pub err-append : (r : Result (Unit {0}) SimFault) (u v : Users) (xs ys : List ℕ) → TakesUsers xs u v → IfErr r (IsFaultIn ys v) → IfErr r (IsFaultIn (xs ++ ys) u)
err-append (Ok x) u v xs ys one two = tt
err-append (Err e) u v xs ys one two = fault-after u v xs ys e one two

-- ---- the end

-- a last line is read as if it had its newline
lines-same : (line : List ℕ) → HasNoNewline line → eqb (length line) 0 ≡ false → lines_of (line ++ 10 ∷ []) ≡ lines_of line
lines-same [] plain some = absurd cc
lines-same (b ∷ bs) plain some = lines-ended (b ∷ bs) [] plain ∙ sym (lines-last b bs plain)

pub last-taken : (u v : Users) → IsKept u.lines u.line → eqb (length u.line) 0 ≡ false → TakesUsers (10 ∷ []) u v → read_to_end u ≡ read_to_end v
last-taken u v kept some takes =
    ap (script_from (of_users u.asked) u.script (u.lines + 1)) (sym (lines-same u.line kept.plain some)) ∙ ap (read_after u) takes.split ∙ takes.reads v.line

pub last-fault : (u : Users) (e : SimFault) → IsKept u.lines u.line → eqb (length u.line) 0 ≡ false → IsFaultIn (10 ∷ []) u e → IsFaultAtEnd u e
last-fault u fault.Argument kept some bad = absurd bad
last-fault u (fault.Script line e) kept some bad =
    ap (λ (ls : List (List ℕ)). (script_from (of_users u.asked) u.script (u.lines + 1) ls).1) (sym (lines-same u.line kept.plain some)) ∙ ap (λ (text : List ℕ). (read_after u text).1) (sym (append-nil (u.line ++ 10 ∷ []))) ∙ bad []
last-fault u fault.Read kept some bad = absurd bad
last-fault u fault.Write kept some bad = absurd bad
last-fault u fault.BookFull kept some bad = absurd bad
last-fault u fault.OutOfMemory kept some bad = tt
last-fault u fault.Failed kept some bad = absurd bad
last-fault u fault.NotStarted kept some bad = absurd bad

-- a fault of what was left at the end
pub fault-same : (u v : Users) (e : SimFault) → read_to_end u ≡ read_to_end v → IsFaultAtEnd v e → IsFaultAtEnd u e
fault-same u v fault.Argument same bad = absurd bad
fault-same u v (fault.Script line e) same bad = ap (λ (r : Script UserEntry × Option (ℕ × LineFault)). r.1) same ∙ bad
fault-same u v fault.Read same bad = absurd bad
fault-same u v fault.Write same bad = absurd bad
fault-same u v fault.BookFull same bad = absurd bad
fault-same u v fault.OutOfMemory same bad = tt
fault-same u v fault.Failed same bad = absurd bad
fault-same u v fault.NotStarted same bad = absurd bad

-- what all lines said
pub end-said : (u : Users) (boot : Boot) → u.line ≡ [] → u.script.boot ≡ Some boot → read_to_end u ≡ (u.script, None)
unfolding script_from
end-said u boot none is = ap (read_after u) none ∙ ap (ending u.script (u.lines + 1)) is

pub end-unsaid : (u : Users) → u.line ≡ [] → u.script.boot ≡ None → read_to_end u ≡ (u.script, Some (u.lines + 1, why.NoCores))
unfolding script_from
end-unsaid u none is = ap (read_after u) none ∙ ap (ending u.script (u.lines + 1)) is

-- the same of what a call answered
pub ok-last : (r : Result (Unit {0}) SimFault) (u v : Users) → IsKept u.lines u.line → eqb (length u.line) 0 ≡ false → OnOk r (TakesUsers (10 ∷ []) u v) → OnOk r (read_to_end u ≡ read_to_end v)
ok-last (Ok x) u v kept some takes = last-taken u v kept some takes
ok-last (Err e) u v kept some takes = tt

pub err-last : (r : Result (Unit {0}) SimFault) (u : Users) → IsKept u.lines u.line → eqb (length u.line) 0 ≡ false → IfErr r (IsFaultIn (10 ∷ []) u) → IfErr r (IsFaultAtEnd u)
err-last (Ok x) u kept some bad = tt
err-last (Err e) u kept some bad = last-fault u e kept some bad

pub err-same : {T : Type 0} (r : Result T SimFault) (u v : Users) → read_to_end u ≡ read_to_end v → IfErr r (IsFaultAtEnd v) → IfErr r (IsFaultAtEnd u)
err-same (Ok x) u v same bad = tt
err-same (Err e) u v same bad = fault-same u v e same bad

-- ---- a whole text

pub users-read : (asked : Option ℕ) (text : List ℕ) (u : Users) → TakesUsers text (no_users asked) u → users asked text ≡ read_to_end u
unfolding script_of
users-read asked text u takes = ap (users asked) takes.split ∙ takes.reads u.line

-- lines without fault
faultless : (asked : Option ℕ) (text : List ℕ) (u : Users) → (takes : TakesUsers text (no_users asked) u) → AreFaultless asked takes.ended
unfolding script_of script_from
faultless asked text u takes line e is =
    let read : users asked takes.ended ≡ ending u.script (u.lines + 1) u.script.boot = ap (users asked) (sym (append-nil takes.ended)) ∙ takes.reads [] in
    let count : length (lines_of takes.ended) ≡ u.lines = ap (λ (l : List ℕ). length (lines_of l)) (sym (append-nil takes.ended)) ∙ omega (arith, takes.count []) in
    let number : line ≡ u.lines + 1 = go u.script.boot (ap (λ (r : Script UserEntry × Option (ℕ × LineFault)). r.1) (sym read) ∙ is) in
    omega (arith, count, number)
  where
    go : (b : Option Boot) → (ending u.script (u.lines + 1) b).1 ≡ Some (line, e) → line ≡ u.lines + 1
    go None is = let same : (u.lines + 1, why.NoCores) ≡ (line, e) = cc in ap (λ (f : ℕ × LineFault). f.0) (sym same)
    go (Some b) is = absurd cc

pub goes-on : (asked : Option ℕ) (text : List ℕ) (u : Users) → TakesUsers text (no_users asked) u → IsKept u.lines u.line → GoesOn asked text
goes-on asked text u takes kept = record {
  ended = takes.ended;
  last = u.line;
  split = takes.split;
  lines = takes.lines;
  faultless = faultless asked text u takes;
  plain = kept.plain;
  short = kept.short;
  few = few (one-line u.line kept.plain);
}
  where
    all : length (lines_of text) ≡ u.lines + length (lines_of u.line)
    all = ap (λ (l : List ℕ). length (lines_of l)) takes.split ∙ omega (arith, takes.count u.line)

    few : ((length (lines_of u.line) ≡ 0) ⊎ ((0 < length u.line) × (length (lines_of u.line) ≡ 1))) → length (lines_of text) ≤ 2000000
    few (inl none) = omega (arith, all, none, kept.few)
    few (inr one) = omega (arith, all, one.1, kept.room one.0)

-- a fault of a piece is in the text with it
stands-in : (asked : Option ℕ) (text piece : List ℕ) (u : Users) (line : ℕ) (e : LineFault) → TakesUsers text (no_users asked) u → IsFaultIn piece u (fault.Script line e)
    → (more : List ℕ) → (users asked ((text ++ piece) ++ more)).1 ≡ Some (line, e)
unfolding script_of
stands-in asked text piece u line e takes bad more = fault-after (no_users asked) u text piece (fault.Script line e) takes bad more

-- a piece is read after what gave no fault
pub stops-in : (asked : Option ℕ) (text piece : List ℕ) (u : Users) → TakesUsers text (no_users asked) u → IsKept u.lines u.line → length piece ≤ 4096 → UsersStopSoon asked (text ++ piece)
stops-in asked text piece u takes kept few = record { before = text; piece = piece; split = refl; few = few; goes = goes-on asked text u takes kept }

pub stops-here : (asked : Option ℕ) (text : List ℕ) (u : Users) → TakesUsers text (no_users asked) u → IsKept u.lines u.line → UsersStopSoon asked text
stops-here asked text u takes kept = subst (UsersStopSoon asked) (append-nil text) (stops-in asked text [] u takes kept (omega arith))

-- no byte was taken
pub takes-nothing : (asked : Option ℕ) → TakesUsers [] (no_users asked) (no_users asked)
takes-nothing asked = takes-none (no_users asked) [] refl

-- ---- what reading users leaves

-- a fault in a piece
pub ends-in : (e : SimFault) (asked : Option ℕ) (left left' : Option (List ℕ)) (text piece : List ℕ) (u : Users) → TakesUsers text (no_users asked) u → IsKept u.lines u.line → length piece ≤ 4096
    → Consumes left left' (text ++ piece) → IsFaultIn piece u e → EndsUsers e asked left left'
ends-in fault.Argument asked left left' text piece u takes kept few read bad = absurd bad
ends-in (fault.Script line e) asked left left' text piece u takes kept few read bad =
    let stands : (more : List ℕ) → (users asked ((text ++ piece) ++ more)).1 ≡ Some (line, e) = stands-in asked text piece u line e takes bad in
    record {
      text = text ++ piece;
      read = read;
      stops = stops-in asked text piece u takes kept few;
      named = inr stands;
      faulty = ap (λ (l : List ℕ). (users asked l).1) (sym (append-nil (text ++ piece))) ∙ stands [];
    }
ends-in fault.Read asked left left' text piece u takes kept few read bad = absurd bad
ends-in fault.Write asked left left' text piece u takes kept few read bad = absurd bad
ends-in fault.BookFull asked left left' text piece u takes kept few read bad = absurd bad
ends-in fault.OutOfMemory asked left left' text piece u takes kept few read bad = (text ++ piece, read, stops-in asked text piece u takes kept few)
ends-in fault.Failed asked left left' text piece u takes kept few read bad = absurd bad
ends-in fault.NotStarted asked left left' text piece u takes kept few read bad = absurd bad

-- a fault at the end
pub ends-at : (e : SimFault) (asked : Option ℕ) (left left' : Option (List ℕ)) (text : List ℕ) (u : Users) → TakesUsers text (no_users asked) u → IsKept u.lines u.line
    → Consumes left left' text → IsAtEnd left' → IsFaultAtEnd u e → EndsUsers e asked left left'
ends-at fault.Argument asked left left' text u takes kept read end bad = absurd bad
ends-at (fault.Script line e) asked left left' text u takes kept read end bad = record {
  text = text;
  read = read;
  stops = stops-here asked text u takes kept;
  named = inl end;
  faulty = ap (λ (r : Script UserEntry × Option (ℕ × LineFault)). r.1) (users-read asked text u takes) ∙ bad;
}
ends-at fault.Read asked left left' text u takes kept read end bad = absurd bad
ends-at fault.Write asked left left' text u takes kept read end bad = absurd bad
ends-at fault.BookFull asked left left' text u takes kept read end bad = absurd bad
ends-at fault.OutOfMemory asked left left' text u takes kept read end bad = (text, read, stops-here asked text u takes kept)
ends-at fault.Failed asked left left' text u takes kept read end bad = absurd bad
ends-at fault.NotStarted asked left left' text u takes kept read end bad = absurd bad

-- no fault
pub reads-all : (asked : Option ℕ) (left left' : Option (List ℕ)) (text : List ℕ) (u : Users) (boot : Boot) (entries : List UserEntry) → TakesUsers text (no_users asked) u
    → Consumes left left' text → IsAtEnd left' → read_to_end u ≡ (record { boot = Some boot; items = entries }, None) → Reads asked left left' boot entries
reads-all asked left left' text u boot entries takes read end is = record { text = text; read = read; ended = end; faultless = users-read asked text u takes ∙ is }
