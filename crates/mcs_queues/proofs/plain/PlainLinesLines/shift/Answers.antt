use Rattle.std.proofs.Common.{◌≡◌, ℕ, None, Some, cond, refl, length, ap, sym, ◌∙◌, subst, arith}
use Rattle.mcs_types.specs.Waiters.{Waiter, insert_behind, without, is_place, IsPut}
use Rattle.mcs_queues.specs.declared.plain.Row.{Row}
use Rattle.mcs_queues.specs.Rows.{Rows, line_in, place_in, leaves}
use Rattle.mcs_queues.specs.Numbers.{line_number}
use Rattle.mcs_queues.proofs.RowLaws.{room, known, left-none, kept-leaves, good-enters, leaves-nothing, good-leaves, line-moved, place-moved, put-moved}
use Rattle.mcs_queues.proofs.plain.PlainLinesLines.shift.Goals as goal

pub invariant_of-self : goal.invariant_of-self
invariant_of-self c =
    let s = c.self.inside in
    let g = good-leaves s.threads s.lines c.args.t.0 s.rows.items (c.self.invariant.1, c.self.invariant.2) in
    rw c.leave.ensures.items (omega (arith, c.self.invariant.0, c.leave.ensures.capacity), g.0, g.1)

pub enter-requires : goal.enter-requires
enter-requires c =
    let s = c.self.inside in
    let was : place_in s.rows.items c.args.t.0 ≡ Some c.in-Some.line.0 = sym c.leave.ensures.line ∙ ap line_number c.in-Some.is in
    let k = known s.threads s.lines c.args.t.0 c.in-Some.line.0 s.rows.items c.self.invariant.1 was in
    let few = room s.threads s.lines c.args.t.0 (leaves c.args.t.0 s.rows.items) (kept-leaves s.threads s.lines c.args.t.0 s.rows.items c.self.invariant.1) k.0 (left-none s.threads s.lines c.args.t.0 s.rows.items c.self.invariant.1) in
    omega (arith, few, ap length c.leave.ensures.items, c.self.invariant.0, c.leave.ensures.capacity, c.leave.new.rows.ok.0)

pub invariant_of-self-in-Some : goal.invariant_of-self-in-Some
invariant_of-self-in-Some c =
    let s = c.self.inside in
    let was : place_in s.rows.items c.args.t.0 ≡ Some c.in-Some.line.0 = sym c.leave.ensures.line ∙ ap line_number c.in-Some.is in
    let r : Row = record { thread = c.args.t; line = c.in-Some.line; priority = c.args.p.0 } in
    let k = known s.threads s.lines c.args.t.0 c.in-Some.line.0 s.rows.items c.self.invariant.1 was in
    let g = good-enters s.threads s.lines r (leaves c.args.t.0 s.rows.items) (good-leaves s.threads s.lines c.args.t.0 s.rows.items (c.self.invariant.1, c.self.invariant.2)) k.0 k.1 (left-none s.threads s.lines c.args.t.0 s.rows.items c.self.invariant.1) in
    rw (c.enter.ensures.items, c.leave.ensures.items) (omega (arith, c.self.invariant.0, c.enter.ensures.capacity, c.leave.ensures.capacity), g.0, g.1)

pub returns-in-None-clause-line : goal.returns-in-None-clause-line
returns-in-None-clause-line c =
    let s = c.self.inside in
    let was : place_in s.rows.items c.args.t.0 ≡ None = sym c.leave.ensures.line ∙ ap line_number c.in-None.is in
    let P : Rows → Type 0 = λ v. (k : ℕ) → line_in c.leave.new.rows.items k ≡ cond (is_place (place_in v.rows c.args.t.0) k) (insert_behind (record { thread = c.args.t.0; priority = c.args.p.0 }) (without c.args.t.0 (line_in v.rows k))) (line_in v.rows k) in
    subst P c.self.view_is (λ k. rw (c.leave.ensures.items, was, leaves-nothing c.args.t.0 s.rows.items was) refl)

pub returns-in-None-clause-place : goal.returns-in-None-clause-place
returns-in-None-clause-place c =
    let s = c.self.inside in
    let was : place_in s.rows.items c.args.t.0 ≡ None = sym c.leave.ensures.line ∙ ap line_number c.in-None.is in
    let P : Rows → Type 0 = λ v. (u : ℕ) → place_in c.leave.new.rows.items u ≡ place_in v.rows u in
    subst P c.self.view_is (λ u. rw (c.leave.ensures.items, leaves-nothing c.args.t.0 s.rows.items was) refl)

pub returns-in-Some-clause-line : goal.returns-in-Some-clause-line
returns-in-Some-clause-line c =
    let s = c.self.inside in
    let was : place_in s.rows.items c.args.t.0 ≡ Some c.in-Some.line.0 = sym c.leave.ensures.line ∙ ap line_number c.in-Some.is in
    let r : Row = record { thread = c.args.t; line = c.in-Some.line; priority = c.args.p.0 } in
    let P : Rows → Type 0 = λ v. (k : ℕ) → line_in c.enter.new.rows.items k ≡ cond (is_place (place_in v.rows c.args.t.0) k) (insert_behind (record { thread = c.args.t.0; priority = c.args.p.0 }) (without c.args.t.0 (line_in v.rows k))) (line_in v.rows k) in
    subst P c.self.view_is (λ k. rw (c.enter.ensures.items, c.leave.ensures.items, was) (line-moved s.threads s.lines r s.rows.items k c.self.invariant.1 was))

pub returns-in-Some-clause-place : goal.returns-in-Some-clause-place
returns-in-Some-clause-place c =
    let s = c.self.inside in
    let was : place_in s.rows.items c.args.t.0 ≡ Some c.in-Some.line.0 = sym c.leave.ensures.line ∙ ap line_number c.in-Some.is in
    let r : Row = record { thread = c.args.t; line = c.in-Some.line; priority = c.args.p.0 } in
    let P : Rows → Type 0 = λ v. (u : ℕ) → place_in c.enter.new.rows.items u ≡ place_in v.rows u in
    subst P c.self.view_is (λ u. rw (c.enter.ensures.items, c.leave.ensures.items) (place-moved s.threads s.lines r s.rows.items u c.self.invariant.1 was))

pub returns-in-None-clause-put : goal.returns-in-None-clause-put
returns-in-None-clause-put c =
    let s = c.self.inside in
    let was : place_in s.rows.items c.args.t.0 ≡ None = sym c.leave.ensures.line ∙ ap line_number c.in-None.is in
    let w : Waiter = record { thread = c.args.t.0; priority = c.args.p.0 } in
    let P : Rows → Type 0 = λ v. (k : ℕ) → place_in v.rows c.args.t.0 ≡ Some k → IsPut w (without c.args.t.0 (line_in v.rows k)) (line_in c.leave.new.rows.items k) in
    subst P c.self.view_is (λ k h. absurd cc)

pub returns-in-Some-clause-put : goal.returns-in-Some-clause-put
returns-in-Some-clause-put c =
    let s = c.self.inside in
    let was : place_in s.rows.items c.args.t.0 ≡ Some c.in-Some.line.0 = sym c.leave.ensures.line ∙ ap line_number c.in-Some.is in
    let r : Row = record { thread = c.args.t; line = c.in-Some.line; priority = c.args.p.0 } in
    let w : Waiter = record { thread = c.args.t.0; priority = c.args.p.0 } in
    let P : Rows → Type 0 = λ v. (k : ℕ) → place_in v.rows c.args.t.0 ≡ Some k → IsPut w (without c.args.t.0 (line_in v.rows k)) (line_in c.enter.new.rows.items k) in
    subst P c.self.view_is (λ k h. rw (c.enter.ensures.items, c.leave.ensures.items) (put-moved s.threads s.lines r s.rows.items k (c.self.invariant.1, c.self.invariant.2) was h))
