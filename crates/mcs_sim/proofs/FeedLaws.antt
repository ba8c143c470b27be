-- A replay that continues: bytes after bytes, parts of lines, and whole lines.
use Rattle.std.proofs.Common.{◌≡◌, ℕ, suc, ◌+◌, ◌<◌, Bool, true, false, ltb, eqb, if◌then◌else◌, Option, Some, None, Err, List, [], ◌∷◌, ◌++◌, length, refl, sym, ap, ◌∙◌, append_assoc, append-nil, arith}
use Rattle.std.proofs.lemmas.Bool.{lt-ltb, ltb-true, ne_eqb}
use Rattle.std.proofs.lemmas.List.{length-append}
use Rattle.mcs_text.specs.declared.fault.LineFault.{LineFault}
use Rattle.mcs_text.specs.declared.fault.LineFault.TheVariants as why
use Rattle.mcs_phases.specs.declared.fault.SimFault.{SimFault}
use Rattle.mcs_book.specs.History.{Book}
use Rattle.mcs_phases.specs.Script.{says_something, read_line}
use Rattle.mcs_phases.specs.Feeds.{Course, FeedState, step_line, book_after, after_line, after_line_on, refused_for, past_line, with_line, at_line, with_part, with_next, with_byte, fed, HasNoNewline}

-- ---- bytes after bytes

-- going on by a text and then by another is going on by both
pub fed-append : (g : FeedState) (xs ys : List ℕ) → fed g (xs ++ ys) ≡ fed (fed g xs) ys
unfolding fed
fed-append g [] ys = refl
fed-append g (x ∷ xs) ys = fed-append (with_byte g g.course.fault x) xs ys

-- a replay that a fault ended takes no byte
pub fed-stopped : (g : FeedState) (e : SimFault) (bs : List ℕ) → g.course.fault ≡ Some e → fed g bs ≡ g
unfolding fed
fed-stopped g e [] is = refl
fed-stopped g e (b ∷ bs) is = ap (λ (o : Option SimFault). fed (with_byte g o b) bs) is ∙ fed-stopped g e bs is

-- one that goes on takes the next byte
pub fed-next : (g : FeedState) (b : ℕ) (bs : List ℕ) → g.course.fault ≡ None → fed g (b ∷ bs) ≡ fed (with_next g b) bs
unfolding fed
fed-next g b bs live = ap (λ (o : Option SimFault). fed (with_byte g o b) bs) live

-- ---- a part of a line

-- with a part of a line of at least a byte, none of which is a newline
abbrev pub with_kept : FeedState → List ℕ → FeedState
with_kept g part = if ltb 2000000 (g.course.lines + 1) then at_line (refused_for why.ManyLines g.course)
    else (if ltb 4096 (length g.line + length part) then at_line (refused_for why.LongLine g.course) else record g { line = g.line ++ part })

-- the other bytes of such a part
pub later-parts : (b : ℕ) (bs : List ℕ) → HasNoNewline (b ∷ bs) → HasNoNewline bs
later-parts b bs none = λ k lt. none (suc k) (omega (arith, lt))

first-part : (b : ℕ) (bs : List ℕ) → HasNoNewline (b ∷ bs) → eqb b 10 ≡ false
first-part b bs none = ne_eqb b 10 (none 0 (omega arith))

-- where there may be a line more, and it has room for a byte
pub fits-part : (g : FeedState) (b : ℕ) → ltb 2000000 (g.course.lines + 1) ≡ false → ltb 4096 (length g.line + 1) ≡ false → with_part g b ≡ record g { line = g.line ++ b ∷ [] }
fits-part g b few short = rw (few, short) refl

-- a part of a line begins with a byte that may be one too many, or not
kept-first : (g : FeedState) (b : ℕ) (bs : List ℕ) → g.course.fault ≡ None → eqb b 10 ≡ false
    → (ltb 2000000 (g.course.lines + 1) ≡ false → ltb 4096 (length g.line + 1) ≡ false → fed (record g { line = g.line ++ b ∷ [] }) bs ≡ with_kept g (b ∷ bs))
    → fed g (b ∷ bs) ≡ with_kept g (b ∷ bs)
unfolding fed
kept-first g b bs live other rest =
    fed-next g b bs live ∙ ap (λ (t : Bool). fed (if t then at_line (with_line g.course g.line) else with_part g b) bs) other
    ∙ many (ltb 2000000 (g.course.lines + 1)) refl
  where
    long : ltb 2000000 (g.course.lines + 1) ≡ false → (t : Bool) → ltb 4096 (length g.line + 1) ≡ t → fed (with_part g b) bs ≡ with_kept g (b ∷ bs)
    long few true e =
        let over : 4096 < length g.line + 1 = ltb-true _ _ e in
        let all : ltb 4096 (length g.line + length (b ∷ bs)) ≡ true = lt-ltb _ _ (omega (arith, over)) in
        let stops : with_part g b ≡ at_line (refused_for why.LongLine g.course) = rw (few, e) refl in
        ap (λ (h : FeedState). fed h bs) stops ∙ fed-stopped (at_line (refused_for why.LongLine g.course)) _ bs refl ∙ (rw (few, all) refl)
    long few false e = ap (λ (h : FeedState). fed h bs) (fits-part g b few e) ∙ rest few e

    many : (t : Bool) → ltb 2000000 (g.course.lines + 1) ≡ t → fed (with_part g b) bs ≡ with_kept g (b ∷ bs)
    many true e =
        let stops : with_part g b ≡ at_line (refused_for why.ManyLines g.course) = rw e refl in
        ap (λ (h : FeedState). fed h bs) stops ∙ fed-stopped (at_line (refused_for why.ManyLines g.course)) _ bs refl ∙ (rw e refl)
    many false e = long e (ltb 4096 (length g.line + 1)) refl

-- with the other bytes
kept-later : (g : FeedState) (b c : ℕ) (cs : List ℕ) → ltb 2000000 (g.course.lines + 1) ≡ false → with_kept (record g { line = g.line ++ b ∷ [] }) (c ∷ cs) ≡ with_kept g (b ∷ c ∷ cs)
kept-later g b c cs few =
    let count : length (g.line ++ b ∷ []) + length (c ∷ cs) ≡ length g.line + length (b ∷ c ∷ cs) = omega (arith, length-append g.line (b ∷ [])) in
    rw (few, count) (ap (λ (line : List ℕ). if ltb 4096 (length g.line + length (b ∷ c ∷ cs)) then at_line (refused_for why.LongLine g.course) else record g { line = line }) (append_assoc g.line (b ∷ []) (c ∷ cs)))

pub fed-kept : (bs : List ℕ) (g : FeedState) (b : ℕ) → g.course.fault ≡ None → HasNoNewline (b ∷ bs) → fed g (b ∷ bs) ≡ with_kept g (b ∷ bs)
unfolding fed
fed-kept [] g b live none = kept-first g b [] live (first-part b [] none) (λ few short. rw (few, short) refl)
fed-kept (c ∷ cs) g b live none =
    let next = fed-kept cs (record g { line = g.line ++ b ∷ [] }) c live (later-parts b (c ∷ cs) none) in
    kept-first g b (c ∷ cs) live (first-part b (c ∷ cs) none) (λ few short. next ∙ kept-later g b c cs few)

-- ---- a whole line

-- a line that may not be there is refused
refused-on : (c : Course) (k : Option Book) (line : List ℕ) (e : LineFault) → says_something (c.lines + 1) line ≡ Err e → past_line c (after_line_on c.stands k (c.lines + 1) line) ≡ refused_for e c
unfolding read_line step_line book_after
refused-on c None line e is = rw is refl
refused-on c (Some k) line e is = rw is refl

pub refused-line : (c : Course) (line : List ℕ) (e : LineFault) → says_something (c.lines + 1) line ≡ Err e → with_line c line ≡ refused_for e c
unfolding with_line after_line
refused-line c line e is = refused-on c c.stands.book line e is

pub many-says : (n : ℕ) (line : List ℕ) → ltb 2000000 n ≡ true → says_something n line ≡ Err why.ManyLines
many-says n line many = rw many refl

pub long-says : (n : ℕ) (line : List ℕ) → ltb 2000000 n ≡ false → ltb 4096 (length line) ≡ true → says_something n line ≡ Err why.LongLine
long-says n line few long = rw (few, long) refl

-- with the rest of a line and its newline
pub fed-line : (g : FeedState) (part : List ℕ) → g.course.fault ≡ None → HasNoNewline part → fed g (part ++ 10 ∷ []) ≡ at_line (with_line g.course (g.line ++ part))
unfolding fed
fed-line g [] live none = fed-next g 10 [] live ∙ ap (λ (line : List ℕ). at_line (with_line g.course line)) (sym (append-nil g.line))
fed-line g (b ∷ bs) live none =
    fed-append g (b ∷ bs) (10 ∷ []) ∙ ap (λ (h : FeedState). fed h (10 ∷ [])) (fed-kept bs g b live none) ∙ many (ltb 2000000 (g.course.lines + 1)) refl
  where
    long : ltb 2000000 (g.course.lines + 1) ≡ false → (t : Bool) → ltb 4096 (length g.line + length (b ∷ bs)) ≡ t → fed (with_kept g (b ∷ bs)) (10 ∷ []) ≡ at_line (with_line g.course (g.line ++ b ∷ bs))
    long few true e =
        let all : ltb 4096 (length (g.line ++ b ∷ bs)) ≡ true = ap (λ (n : ℕ). ltb 4096 n) (length-append g.line (b ∷ bs)) ∙ e in
        let stops : with_kept g (b ∷ bs) ≡ at_line (refused_for why.LongLine g.course) = rw (few, e) refl in
        ap (λ (h : FeedState). fed h (10 ∷ [])) stops ∙ sym (ap at_line (refused-line g.course (g.line ++ b ∷ bs) why.LongLine (long-says _ _ few all)))
    long few false e =
        let keeps : with_kept g (b ∷ bs) ≡ record g { line = g.line ++ b ∷ bs } = rw (few, e) refl in
        ap (λ (h : FeedState). fed h (10 ∷ [])) keeps ∙ fed-next (record g { line = g.line ++ b ∷ bs }) 10 [] live

    many : (t : Bool) → ltb 2000000 (g.course.lines + 1) ≡ t → fed (with_kept g (b ∷ bs)) (10 ∷ []) ≡ at_line (with_line g.course (g.line ++ b ∷ bs))
    many true e =
        let stops : with_kept g (b ∷ bs) ≡ at_line (refused_for why.ManyLines g.course) = rw e refl in
        ap (λ (h : FeedState). fed h (10 ∷ [])) stops ∙ sym (ap at_line (refused-line g.course (g.line ++ b ∷ bs) why.ManyLines (many-says _ _ e)))
    many false e = long e (ltb 4096 (length g.line + length (b ∷ bs))) refl
