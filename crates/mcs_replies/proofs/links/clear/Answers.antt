use Rattle.std.proofs.Common.{◌≡◌, ◌-◌, ◌+◌, ℕ, suc, cond, Some, None, [], Option, ap, sym, ◌∙◌, subst, arith}
use Rattle.mcs_replies.specs.Places.{place_number}
use Rattle.mcs_replies.specs.Links.{link_at, walk}
use Rattle.mcs_replies.specs.Neighbours.{has, Apart}
use Rattle.mcs_replies.specs.declared.links.Link.{Link}
use Rattle.mcs_replies.proofs.WalkLaws.{walk-none, walk-missing, clear-step}
use Rattle.mcs_replies.proofs.links.clear.Goals as goal

pub returns-in_default-clause-clears : goal.returns-in_default-clause-clears
returns-in_default-clause-clears c = λ u.
    let f : ℕ → Option Link = link_at c.loop-step.links.items in
    let n = 256 - c.loop-step._step in
    let e : walk f n (place_number c.loop-step.at) ≡ [] = ap (λ o. walk f n o) (ap place_number c.in_default.is) ∙ walk-none f n in
    sym (ap (λ zs. cond (has u zs) None (f u)) e) ∙ c.loop-step.invariant.1 u

pub returns-in_default-link_in-clause-clears : goal.returns-in_default-link_in-clause-clears
returns-in_default-link_in-clause-clears c = λ u.
    let f : ℕ → Option Link = link_at c.loop-step.links.items in
    let n = 256 - c.loop-step._step in
    let none : f c.in-Some.place.0 ≡ None = ap (λ ls. link_at ls c.in-Some.place.0) (sym c.deref.ensures.value) ∙ sym c.link_in.ensures ∙ c.in_default-link_in.is in
    let e : walk f n (place_number c.loop-step.at) ≡ [] = ap (λ o. walk f n o) (ap place_number c.in-Some.is) ∙ walk-missing f n c.in-Some.place.0 none in
    sym (ap (λ zs. cond (has u zs) None (f u)) e) ∙ c.loop-step.invariant.1 u

pub loop-step-preserved : goal.loop-step-preserved
loop-step-preserved c =
    let f : ℕ → Option Link = link_at c.loop-step.links.items in
    let f' : ℕ → Option Link = link_at c.take.new.links.items in
    let p = c.in-Some.place.0 in
    let l = c.in-Some-link_in.link in
    let n = 256 - (c.loop-step._step + 1) in
    let next : 256 - c.loop-step._step ≡ suc n = omega (arith, c.loop-step-test.true) in
    let there : f p ≡ Some l = ap (λ ls. link_at ls p) (sym c.deref.ensures.value) ∙ sym c.link_in.ensures ∙ c.in-Some-link_in.is in
    let e : walk f (256 - c.loop-step._step) (place_number c.loop-step.at) ≡ walk f (suc n) (Some p) = ap (λ o. walk f (256 - c.loop-step._step) o) (ap place_number c.in-Some.is) ∙ ap (λ k. walk f k (Some p)) next in
    let s = clear-step f f' p n l there c.take.ensures.writes (subst Apart e c.loop-step.invariant.0) in
    (s.apart, λ u. s.same u ∙ ap (λ zs. cond (has u zs) None (f u)) (sym e) ∙ c.loop-step.invariant.1 u, c.take.ensures.places ∙ c.loop-step.invariant.2)

pub returns-clause-clears : goal.returns-clause-clears
returns-clause-clears c = λ u.
    let f : ℕ → Option Link = link_at c.loop-step.links.items in
    let none : 256 - c.loop-step._step ≡ 0 = omega (arith, c.loop-step-test.false) in
    let e : walk f (256 - c.loop-step._step) (place_number c.loop-step.at) ≡ [] = ap (λ k. walk f k (place_number c.loop-step.at)) none in
    sym (ap (λ zs. cond (has u zs) None (f u)) e) ∙ c.loop-step.invariant.1 u
