use Rattle.std.proofs.Common.{ℕ, ◌≡◌, ◌≤◌, ◌==◌, true, length, drop, ap, sym, subst, ◌∙◌, arith}
use Rattle.mcs_types.specs.declared.entry.Step.{Step}
use Rattle.mcs_seats.specs.declared.retrace.LineCopy.{LineCopy}
use Rattle.mcs_seats.specs.Settling.{note_of, noted_line}
use Rattle.mcs_seats.specs.Trails.{Trail, IsLineAt, AreRightTo, IsLater, place_of}
use Rattle.mcs_seats.proofs.Trails.{IsBeforeOwn, call-at, line-left, line-late, line-own, line-other}
use Rattle.mcs_seats.proofs.retrace.Follower.follow_own.Goals as goal

-- the trail is before the line of which this is a copy
before : {t w : Trail} → t ≡ w → (k : ℕ) (copy : LineCopy) (line : IsLineAt (place_of w) copy) → 1 ≤ t.at → AreRightTo w k
    → IsLater w.at (drop k w.calls) → (copy.step.core.0 == w.core.0) ≡ true → IsBeforeOwn w k line.line
before {w = w} same k copy line some right later own = record {
  right = right;
  later = later;
  some = subst (λ (s : Trail). 1 ≤ s.at) same some;
  is = line.is;
  own = subst (λ (s : Step). (s.core.0 == w.core.0) ≡ true) line.step own;
}

-- the copy notes what the line notes
noted : {t w : Trail} → t ≡ w → (copy : LineCopy) (line : IsLineAt (place_of w) copy) → noted_line t.at copy.step copy.answer ≡ note_of w.at line.line
noted {t = t} same copy line =
    ap (λ s. noted_line t.at s copy.answer) line.step ∙ ap (λ a. noted_line t.at line.line.step a) line.answer
    ∙ ap (λ (s : Trail). note_of s.at line.line) same

pub returns-in_default : goal.returns-in_default
returns-in_default c =
    let own = before c.self.view_is c.args.count c.args.line.now c.requires.line c.self.invariant.some c.requires.right c.requires.later c.requires.own in
    let size : length c.self.inside.calls.now ≡ length c.args.self.now.calls = ap (λ (t : Trail). length t.calls) c.self.view_is in
    line-left c.args.self.now c.args.count c.requires.line.line own (omega (arith, size, c.in_default.ensures.lookup.3))

pub returns-in-Away : goal.returns-in-Away
returns-in-Away c =
    let own = before c.self.view_is c.args.count c.args.line.now c.requires.line c.self.invariant.some c.requires.right c.requires.later c.requires.own in
    let call = call-at c.self.view_is c.args.count c.in-Some.call.now c.in-Some.ensures.lookup.3.0 c.in-Some.ensures.lookup.1 in
    line-late c.args.self.now c.args.count c.requires.line.line own c.in-Some.call.now c.in-Away.lines c.in-Away.fault call c.in-Away.is

pub returns-then-is_noted : goal.returns-then-is_noted
returns-then-is_noted c =
    let own = before c.self.view_is c.args.count c.args.line.now c.requires.line c.self.invariant.some c.requires.right c.requires.later c.requires.own in
    let call = call-at c.self.view_is c.args.count c.in-Some.call.now c.in-Some.ensures.lookup.3.0 c.in-Some.ensures.lookup.1 in
    line-own c.args.self.now c.args.count c.requires.line.line own c.in-Some.call.now c.in-Entered.answered call c.in-Entered.is
    (sym (noted c.self.view_is c.args.line.now c.requires.line) ∙ c.is_noted.ensures.0 c.if-is_noted.true)

pub returns-else-is_noted : goal.returns-else-is_noted
returns-else-is_noted c =
    let own = before c.self.view_is c.args.count c.args.line.now c.requires.line c.self.invariant.some c.requires.right c.requires.later c.requires.own in
    let call = call-at c.self.view_is c.args.count c.in-Some.call.now c.in-Some.ensures.lookup.3.0 c.in-Some.ensures.lookup.1 in
    line-other c.args.self.now c.args.count c.requires.line.line own c.in-Some.call.now c.in-Entered.answered call c.in-Entered.is
    (λ same. let yes : c.is_noted.result ≡ true = c.is_noted.ensures.1 (noted c.self.view_is c.args.line.now c.requires.line ∙ same) in
    let no = c.if-is_noted.false in absurd cc)
