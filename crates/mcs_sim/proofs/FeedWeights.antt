-- A replay that continues comes nearer to the end of what a script may have with each byte.
use Rattle.std.proofs.Common.{◌≡◌, ℕ, ◌+◌, ◌*◌, ◌≤◌, Bool, true, false, ltb, eqb, if◌then◌else◌, Option, Some, None, Result, Ok, Err, List, [], ◌∷◌, ◌++◌, length, refl, sym, ap, subst, ◌∙◌, arith}
use Rattle.std.proofs.lemmas.Bool.{ltb-false}
use Rattle.std.proofs.lemmas.List.{length-append}
use Rattle.mcs_text.specs.declared.fault.LineFault.TheVariants as why
use Rattle.mcs_phases.specs.declared.fault.SimFault.{SimFault}
use Rattle.mcs_phases.specs.declared.fault.SimFault.TheVariants as fault
use Rattle.mcs_phases.specs.Feeds.{BootOrBook, Course, FeedState, after_line, refused_for, past_line, with_line, at_line, with_part, with_next, fed}
use Rattle.mcs_sim.proofs.FeedLaws.{fed-stopped, fed-next, refused-line, many-says}

-- how far a replay has come
abbrev pub weight : FeedState → ℕ
weight g = g.course.lines * 4097 + length g.line

-- it has no more lines than a script may have, and no more bytes in the last than a line
pub record IsWithin (g : FeedState) : Type 0 where
  pub few : g.course.lines ≤ 2000000
  pub short : length g.line ≤ 4096

-- one that goes on has come this much further
pub record HasCome (g : FeedState) (count : ℕ) (h : FeedState) : Type 0 where
  pub within : IsWithin h
  pub further : weight g + count ≤ weight h

-- a line that was taken
line-taken : (c : Course) (l : List ℕ) → (with_line c l).fault ≡ None → (c.lines + 1 ≤ 2000000) × ((with_line c l).lines ≡ c.lines + 1)
unfolding with_line
line-taken c l goes = (few (ltb 2000000 (c.lines + 1)) refl, count (after_line c.stands (c.lines + 1) l) goes)
  where
    few : (t : Bool) → ltb 2000000 (c.lines + 1) ≡ t → c.lines + 1 ≤ 2000000
    few true e = absurd (let other : Some (fault.Script (c.lines + 1) why.ManyLines) ≡ None = sym (ap (λ (c : Course). c.fault) (refused-line c l why.ManyLines (many-says (c.lines + 1) l e))) ∙ goes in cc)
    few false e = ltb-false _ _ e

    count : (r : Result BootOrBook SimFault) → (past_line c r).fault ≡ None → (past_line c r).lines ≡ c.lines + 1
    count (Ok s) goes = refl
    count (Err e) goes = absurd cc

next-come : (g : FeedState) (b : ℕ) → IsWithin g → (with_next g b).course.fault ≡ None → HasCome g 1 (with_next g b)
next-come g b within = go (eqb b 10)
  where
    line : (with_line g.course g.line).fault ≡ None → HasCome g 1 (at_line (with_line g.course g.line))
    line goes =
        let taken = line-taken g.course g.line goes in
        record { within = record { few = omega (arith, taken.0, taken.1); short = omega arith }; further = omega (arith, taken.1, within.short) }

    part : (many long : Bool) → ltb 2000000 (g.course.lines + 1) ≡ many → ltb 4096 (length g.line + 1) ≡ long
        → (if many then at_line (refused_for why.ManyLines g.course) else (if long then at_line (refused_for why.LongLine g.course) else record g { line = g.line ++ b ∷ [] })).course.fault ≡ None
        → HasCome g 1 (if many then at_line (refused_for why.ManyLines g.course) else (if long then at_line (refused_for why.LongLine g.course) else record g { line = g.line ++ b ∷ [] }))
    part true long e f goes = absurd cc
    part false true e f goes = absurd cc
    part false false e f goes =
        let count = length-append g.line (b ∷ []) in
        let fits : length g.line + 1 ≤ 4096 = ltb-false _ _ f in
        record { within = record { few = within.few; short = omega (arith, count, fits) }; further = omega (arith, count) }

    go : (t : Bool) → (if t then at_line (with_line g.course g.line) else with_part g b).course.fault ≡ None → HasCome g 1 (if t then at_line (with_line g.course g.line) else with_part g b)
    go true goes = line goes
    go false goes = part (ltb 2000000 (g.course.lines + 1)) (ltb 4096 (length g.line + 1)) refl refl goes

-- bytes more
pub fed-come : (bs : List ℕ) (g : FeedState) → IsWithin g → g.course.fault ≡ None → (fed g bs).course.fault ≡ None → HasCome g (length bs) (fed g bs)
unfolding fed
fed-come [] g within live goes = record { within = within; further = omega arith }
fed-come (b ∷ bs) g within live goes =
    let next = fed-next g b bs live in
    let goes' : (fed (with_next g b) bs).course.fault ≡ None = ap (λ (h : FeedState). h.course.fault) (sym next) ∙ goes in
    let on = still (with_next g b).course.fault refl goes' in
    let one = next-come g b within on in
    let more = fed-come bs (with_next g b) one.within on goes' in
    subst (HasCome g (length (b ∷ bs))) (sym next) (record { within = more.within; further = omega (arith, one.further, more.further) })
  where
    still : (o : Option SimFault) → (with_next g b).course.fault ≡ o → (fed (with_next g b) bs).course.fault ≡ None → (with_next g b).course.fault ≡ None
    still None is goes = is
    still (Some e) is goes = ap (λ (h : FeedState). h.course.fault) (sym (fed-stopped (with_next g b) e bs is)) ∙ goes
