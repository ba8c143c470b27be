-- What is said by a text that is too long is the same whatever bytes follow.
use Rattle.std.proofs.Common.{◌≡◌, ℕ, ◌+◌, ◌*◌, ◌<◌, ◌≤◌, ◌⊎◌, inl, inr, Bool, true, false, ltb, eqb, Result, Ok, Err, List, [], ◌∷◌, ◌++◌, length, refl, sym, ap, ◌∙◌, arith}
use Rattle.std.proofs.lemmas.Bool.{lt-ltb, ltb-true, ltb-false}
use Rattle.std.proofs.lemmas.List.{length-append}
use Rattle.mcs_text.specs.declared.fault.LineFault.{LineFault}
use Rattle.mcs_text.specs.declared.fault.LineFault.TheVariants.{LongLine, ManyLines}
use Rattle.mcs_text.specs.Reading.{onto_first, lines_of}
use Rattle.mcs_sim.specs.Input.{IsTooLong}
use Rattle.mcs_phases.specs.Script.{Grammar, Script, no_script, read_line, script_from, script_of}
use Rattle.mcs_sim.proofs.InputLaws.{lines-byte, total, length-total, within}
use Rattle.mcs_sim.proofs.ScriptLaws.{script_from-ok, script_from-err}

-- ---- lines that go on

-- the same lines, the last of which may go on, and lines after them
abbrev Extends : List (List ℕ) → List (List ℕ) → Type 0
Extends [] ms = Unit {0}
Extends (l ∷ ls) [] = ⊥
Extends (l ∷ []) (m ∷ ms) = (more : List ℕ) × (m ≡ l ++ more)
Extends (l ∷ k ∷ ls) (m ∷ ms) = (m ≡ l) × Extends (k ∷ ls) ms

-- after an empty line
extends-empty : (ls ms : List (List ℕ)) → Extends ls ms → Extends ([] ∷ ls) ([] ∷ ms)
extends-empty [] ms e = ([], refl)
extends-empty (l ∷ ls) ms e = (refl, e)

-- with a byte more before the first
extends-onto : (b : ℕ) (ls ms : List (List ℕ)) → Extends ls ms → Extends (onto_first b ls) (onto_first b ms)
extends-onto b [] [] e = ([], refl)
extends-onto b [] (m ∷ ms) e = (m, refl)
extends-onto b (l ∷ ls) [] e = absurd e
extends-onto b (l ∷ []) (m ∷ ms) e = (e.0, ap (λ (line : List ℕ). b ∷ line) e.1)
extends-onto b (l ∷ k ∷ ls) (m ∷ ms) e = (ap (λ (line : List ℕ). b ∷ line) e.0, e.1)

-- the lines of a text that goes on
lines-extend : (text more : List ℕ) → Extends (lines_of text) (lines_of (text ++ more))
lines-extend [] more = tt
lines-extend (b ∷ bs) more = go (lines-extend bs more) (eqb b 10) refl
  where
    go : Extends (lines_of bs) (lines_of (bs ++ more)) → (t : Bool) → eqb b 10 ≡ t → Extends (lines_of (b ∷ bs)) (lines_of (b ∷ bs ++ more))
    go rest true e = rw (lines-byte b bs true e, lines-byte b (bs ++ more) true e) (extends-empty (lines_of bs) (lines_of (bs ++ more)) rest)
    go rest false e = rw (lines-byte b bs false e, lines-byte b (bs ++ more) false e) (extends-onto b (lines_of bs) (lines_of (bs ++ more)) rest)

-- ---- faults that remain

-- a line after the last
many : {T : Type 0} (grammar : Grammar T) (s : Script T) (n : ℕ) (line : List ℕ) → 2000000 < n → read_line grammar s n line ≡ Err ManyLines
unfolding read_line
many {T = T} grammar s n line lt = rw (lt-ltb 2000000 n lt) refl

-- a line that is too long
long : {T : Type 0} (grammar : Grammar T) (s : Script T) (n : ℕ) (line : List ℕ) → n ≤ 2000000 → 4096 < length line → read_line grammar s n line ≡ Err LongLine
unfolding read_line
long {T = T} grammar s n line le lt = let few : ltb 2000000 n ≡ false = grind arith in rw (few, lt-ltb 4096 (length line) lt) refl

-- two lines that are refused alike
refused : {T : Type 0} (grammar : Grammar T) (s : Script T) (n : ℕ) (l m : List ℕ) (ls ms : List (List ℕ)) (why : LineFault) → read_line grammar s n l ≡ Err why → read_line grammar s n m ≡ Err why
    → script_from grammar s n (m ∷ ms) ≡ script_from grammar s n (l ∷ ls)
refused {T = T} grammar s n l m ls ms why one other = script_from-err grammar s n m ms why other ∙ sym (script_from-err grammar s n l ls why one)

-- lines that are too many from this number on, or too long together
LongFrom : ℕ → List (List ℕ) → Type 0
LongFrom n ls = (2000001 < n + length ls) ⊎ (8194004097 < 4097 * n + total ls)

-- the last line, where it is too long
last-stands : {T : Type 0} (grammar : Grammar T) (s : Script T) (n : ℕ) (l m more : List ℕ) (ms : List (List ℕ)) → m ≡ l ++ more → n ≤ 2000001 → LongFrom n (l ∷ []) → script_from grammar s n (m ∷ ms) ≡ script_from grammar s n (l ∷ [])
unfolding LongFrom total
last-stands {T = T} grammar s n l m more ms goes le too = go (ltb 2000000 n) refl
  where
    short : n ≤ 2000000 → (b : Bool) → ltb 4096 (length l) ≡ b → script_from grammar s n (m ∷ ms) ≡ script_from grammar s n (l ∷ [])
    short few true e =
        let over : 4096 < length l = ltb-true _ _ e in
        let grown : length m ≡ length l + length more = ap (λ (line : List ℕ). length line) goes ∙ length-append l more in
        refused grammar s n l m [] ms LongLine (long grammar s n l few over) (long grammar s n m few (omega (arith, over, grown)))
    short few false e =
        let fits : length l ≤ 4096 = ltb-false _ _ e in
        elim too [ inl lines ↦ absurd (omega (arith, lines, few)) | inr bytes ↦ absurd (omega (arith, bytes, few, fits)) ]

    go : (b : Bool) → ltb 2000000 n ≡ b → script_from grammar s n (m ∷ ms) ≡ script_from grammar s n (l ∷ [])
    go true e = let over : 2000000 < n = ltb-true _ _ e in refused grammar s n l m [] ms ManyLines (many grammar s n l over) (many grammar s n m over)
    go false e = short (ltb-false _ _ e) (ltb 4096 (length l)) refl

-- a line that is taken leaves those after it too long
long-next : (n : ℕ) (l : List ℕ) (ls : List (List ℕ)) → length l ≤ 4096 → LongFrom n (l ∷ ls) → LongFrom (n + 1) ls
unfolding LongFrom total
long-next n l ls fits too = elim too [ inl lines ↦ inl (omega (arith, lines)) | inr bytes ↦ inr (omega (arith, bytes, fits)) ]

-- lines that are too long
lines-stand : {T : Type 0} (grammar : Grammar T) (ls ms : List (List ℕ)) (s : Script T) (n : ℕ) → Extends ls ms → n ≤ 2000001 → LongFrom n ls → script_from grammar s n ms ≡ script_from grammar s n ls
unfolding LongFrom total
lines-stand {T = T} grammar [] ms s n e le too = elim too [ inl lines ↦ absurd (omega (arith, lines, le)) | inr bytes ↦ absurd (omega (arith, bytes, le)) ]
lines-stand {T = T} grammar (l ∷ ls) [] s n e le too = absurd e
lines-stand {T = T} grammar (l ∷ []) (m ∷ ms) s n e le too = last-stands grammar s n l m e.0 ms e.1 le too
lines-stand {T = T} grammar (l ∷ k ∷ ls) (m ∷ ms) s n e le too =
    ap (λ (line : List ℕ). script_from grammar s n (line ∷ ms)) e.0 ∙ go (λ t. lines-stand grammar (k ∷ ls) ms t (n + 1) e.1) (read_line grammar s n l) refl
  where
    go : ((t : Script T) → n + 1 ≤ 2000001 → LongFrom (n + 1) (k ∷ ls) → script_from grammar t (n + 1) ms ≡ script_from grammar t (n + 1) (k ∷ ls)) → (r : Result (Script T) LineFault) → read_line grammar s n l ≡ r → script_from grammar s n (l ∷ ms) ≡ script_from grammar s n (l ∷ k ∷ ls)
    go next (Err why) is = refused grammar s n l l (k ∷ ls) ms why is is
    go next (Ok t) is =
        let w = within grammar s t n l is in
        let rest = next t (omega (arith, w.0)) (long-next n l (k ∷ ls) w.1 too) in
        script_from-ok grammar s t n l ms is ∙ rest ∙ sym (script_from-ok grammar s t n l (k ∷ ls) is)

-- the law: what a text says that is too long is the same whatever follows
pub long-stands : {T : Type 0} (grammar : Grammar T) (text more : List ℕ) → IsTooLong text → script_of grammar (text ++ more) ≡ script_of grammar text
unfolding LongFrom script_of
long-stands {T = T} grammar text more too =
    let from : LongFrom 1 (lines_of text) = elim too [
      | inl bytes ↦ inr (omega (arith, bytes, length-total text))
      | inr next ↦ inl (omega (arith, next.next))
    ] in
    lines-stand grammar (lines_of text) (lines_of (text ++ more)) no_script 1 (lines-extend text more) (omega arith) from
