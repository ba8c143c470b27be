use Rattle.std.proofs.Common.{◌≡◌, ℕ, List, Some, ◌&&◌, nat_lt, nat_eq, is_none, true, cond, ap, ◌∙◌, subst, arith}
use Rattle.mcs_types.specs.Waiters.{Waiter, insert_behind, IsPut}
use Rattle.mcs_queues.specs.declared.plain.Row.{Row}
use Rattle.mcs_queues.specs.Rows.{Rows, line_in, place_in}
use Rattle.mcs_queues.proofs.RowLaws.{room, good-enters, line-enters, place-enters, may-means, put-enters}
use Rattle.mcs_queues.proofs.plain.PlainLinesLines.join.Goals as goal

pub enter-requires : goal.enter-requires
enter-requires c =
    let s = c.self.inside in
    let may = may-means c.may_enter-may.result c.args.t.0 s.threads c.args.q.0 s.lines (place_in s.rows.items c.args.t.0) (c.may_enter-may.ensures ∙ ap (λ (rows : List Row). nat_lt c.args.t.0 s.threads && nat_lt c.args.q.0 s.lines && is_none (place_in rows c.args.t.0)) c.deref.ensures.value) c.if-may.true in
    omega (arith, room s.threads s.lines c.args.t.0 s.rows.items c.self.invariant.1 may.0 may.2, c.self.invariant.0, s.rows.ok.0)

pub invariant_of-self : goal.invariant_of-self
invariant_of-self c =
    let s = c.self.inside in
    let may = may-means c.may_enter-may.result c.args.t.0 s.threads c.args.q.0 s.lines (place_in s.rows.items c.args.t.0) (c.may_enter-may.ensures ∙ ap (λ (rows : List Row). nat_lt c.args.t.0 s.threads && nat_lt c.args.q.0 s.lines && is_none (place_in rows c.args.t.0)) c.deref.ensures.value) c.if-may.true in
    let r : Row = record { thread = c.args.t; line = c.args.q; priority = c.args.p.0 } in
    let g = good-enters s.threads s.lines r s.rows.items (c.self.invariant.1, c.self.invariant.2) may.0 may.1 may.2 in
    rw c.enter.ensures.items (omega (arith, c.self.invariant.0, c.enter.ensures.capacity), g.0, g.1)

pub returns-then-may-clause-line : goal.returns-then-may-clause-line
returns-then-may-clause-line c =
    let r : Row = record { thread = c.args.t; line = c.args.q; priority = c.args.p.0 } in
    let P : Rows → Type 0 = λ v. (k : ℕ) → line_in c.enter.new.rows.items k ≡ cond (c.may_enter-may.result && nat_eq c.args.q.0 k) (insert_behind (record { thread = c.args.t.0; priority = c.args.p.0 }) (line_in v.rows k)) (line_in v.rows k) in
    subst P c.self.view_is (λ k. rw (c.enter.ensures.items, c.if-may.true) (line-enters r c.self.inside.rows.items k))

pub returns-then-may-clause-place : goal.returns-then-may-clause-place
returns-then-may-clause-place c =
    let s = c.self.inside in
    let may = may-means c.may_enter-may.result c.args.t.0 s.threads c.args.q.0 s.lines (place_in s.rows.items c.args.t.0) (c.may_enter-may.ensures ∙ ap (λ (rows : List Row). nat_lt c.args.t.0 s.threads && nat_lt c.args.q.0 s.lines && is_none (place_in rows c.args.t.0)) c.deref.ensures.value) c.if-may.true in
    let r : Row = record { thread = c.args.t; line = c.args.q; priority = c.args.p.0 } in
    let P : Rows → Type 0 = λ v. (u : ℕ) → place_in c.enter.new.rows.items u ≡ cond (c.may_enter-may.result && nat_eq c.args.t.0 u) (Some c.args.q.0) (place_in v.rows u) in
    subst P c.self.view_is (λ u. rw (c.enter.ensures.items, c.if-may.true) (place-enters r s.rows.items u may.2))

pub returns-then-may-clause-put : goal.returns-then-may-clause-put
returns-then-may-clause-put c =
    let s = c.self.inside in
    let r : Row = record { thread = c.args.t; line = c.args.q; priority = c.args.p.0 } in
    let w : Waiter = record { thread = c.args.t.0; priority = c.args.p.0 } in
    let P : Rows → Type 0 = λ v. c.may_enter-may.result ≡ true → IsPut w (line_in v.rows c.args.q.0) (line_in c.enter.new.rows.items c.args.q.0) in
    subst P c.self.view_is (λ may. rw c.enter.ensures.items (put-enters r s.rows.items (c.self.invariant.2 c.args.q.0)))
