use Rattle.std.proofs.Common.{◌≡◌, ◌≤◌, ◌+◌, ◌-◌, suc, Ok, Err, Some, None, ap, sym, ◌∙◌, arith}
use Rattle.mcs_book.specs.Lookup.{Space, bits_of, walk}
use Rattle.mcs_types.specs.declared.cap.Cap.{Cap}
use Rattle.mcs_types.specs.declared.entry.Refusal.{Refusal}
use Rattle.std.proofs.lemmas.Result.{err_from_is_err_and}
use Rattle.mcs_cspace.specs.declared.levels.Step.{Step}
use Rattle.mcs_cspace.specs.Levels.{level_at}
use Rattle.mcs_cspace.specs.Spaces.{slots_space, radix_on, next_on, walked_by}
use Rattle.mcs_cspace.proofs.Walking.{step-refused, step-ends, step-on, next_of}
use Rattle.mcs_cspace.proofs.paths.find.Goals as goal

pub returns-in_err-step-clause-value : goal.returns-in_err-step-clause-value
returns-in_err-step-clause-value c =
    let S : Space = slots_space c.args.slots.now in
    let steps : 64 - c.loop.counter ≡ suc (63 - c.loop.counter) = omega (arith, c.loop-test.true) in
    let cap : Cap = c.loop.cap in
    let why : Refusal = c.in_err-step.field-0.0 in
    let p = err_from_is_err_and c.from_residual.result c.from_residual.ensures.1 in
    let radix : c.radix_of.result ≡ S.radix cap.obj = c.radix_of.ensures.value ∙ ap radix_on c.page-page.ensures in
    let level : level_at cap.guard (S.radix cap.obj) c.loop.left c.args.address ≡ Err why = ap (λ r. level_at cap.guard r c.loop.left c.args.address) (sym radix) ∙ sym c.level.ensures.step ∙ c.in_err-step.was in
    rw (p.1, p.2) (sym (c.loop.invariant.same ∙ ap (λ n. walk n S cap (bits_of c.loop.left c.args.address)) steps ∙ step-refused (63 - c.loop.counter) S cap c.loop.left c.args.address why level))

pub returns-in-None-clause-value : goal.returns-in-None-clause-value
returns-in-None-clause-value c =
    let S : Space = slots_space c.args.slots.now in
    let cap : Cap = c.loop.cap in
    let s : Step = c.in_ok-step.step in
    let steps : 64 - c.loop.counter ≡ suc (63 - c.loop.counter) = omega (arith, c.loop-test.true) in
    let radix : c.radix_of.result ≡ S.radix cap.obj = c.radix_of.ensures.value ∙ ap radix_on c.page-page.ensures in
    let level : level_at cap.guard (S.radix cap.obj) c.loop.left c.args.address ≡ Ok s = ap (λ r. level_at cap.guard r c.loop.left c.args.address) (sym radix) ∙ sym c.level.ensures.step ∙ c.in_ok-step.was in
    let none : next_of S cap s ≡ None = ap (λ p. next_on p s) (sym c.page-page.ensures) ∙ sym c.next_in.ensures ∙ c.in-None.is in
    ap (λ e. walked_by c.args.address (Ok e)) c.end_at.ensures
    ∙ sym (c.loop.invariant.same ∙ ap (λ n. walk n S cap (bits_of c.loop.left c.args.address)) steps ∙ step-ends (63 - c.loop.counter) S cap c.loop.left c.args.address s level none)

pub loop-preserved : goal.loop-preserved
loop-preserved c =
    let S : Space = slots_space c.args.slots.now in
    let cap : Cap = c.loop.cap in
    let next : Cap = c.in-Some.next in
    let s : Step = c.in_ok-step.step in
    let steps : 64 - c.loop.counter ≡ suc (63 - c.loop.counter) = omega (arith, c.loop-test.true) in
    let fewer : 63 - c.loop.counter ≡ 64 - (c.loop.counter + 1) = omega (arith, c.loop-test.true) in
    let radix : c.radix_of.result ≡ S.radix cap.obj = c.radix_of.ensures.value ∙ ap radix_on c.page-page.ensures in
    let level : level_at cap.guard (S.radix cap.obj) c.loop.left c.args.address ≡ Ok s = ap (λ r. level_at cap.guard r c.loop.left c.args.address) (sym radix) ∙ sym c.level.ensures.step ∙ c.in_ok-step.was in
    let some : next_of S cap s ≡ Some next = ap (λ p. next_on p s) (sym c.page-page.ensures) ∙ sym c.next_in.ensures ∙ c.in-Some.is in
    let within : s.left ≤ c.loop.left = c.in_ok-step.ensures.fewer in
    record {
      within = omega (arith, within, c.loop.invariant.within);
      same =
          c.loop.invariant.same ∙ ap (λ n. walk n S cap (bits_of c.loop.left c.args.address)) steps
          ∙ step-on (63 - c.loop.counter) S cap next c.loop.left c.args.address s level some
          ∙ ap (λ n. walk n S next (bits_of s.left c.args.address)) fewer;
    }
