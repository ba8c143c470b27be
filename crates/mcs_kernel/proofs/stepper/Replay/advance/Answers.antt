use Rattle.std.proofs.Common.{◌≡◌, ◌≢◌, false, refl, sym, ◌∙◌, ap, Some, None, Err}
use Rattle.mcs_types.specs.declared.entry.Answer.{Answer}
use Rattle.mcs_types.specs.declared.entry.Step.{Step}
use Rattle.mcs_book.specs.History.{Book, with_step}
use Rattle.mcs_kernel.specs.declared.fault.EnterFault.{EnterFault}
use Rattle.mcs_kernel.specs.declared.fault.EnterFault.TheVariants.{NotRunning, NoContext, WrongCore, OutOfMemory}
use Rattle.mcs_kernel.specs.Runs.{Run, is_book_full, after_step, answer_to}
use Rattle.mcs_kernel.proofs.Stepping.{step-taken, answer-taken, step-skipped, answer-skipped, run-stepped}
use Rattle.mcs_kernel.proofs.stepper.Replay.advance.Goals.{in-Ok, in-Err-NotRunning, in-Err-NoContext, in-Err-WrongCore}
use Rattle.mcs_kernel.proofs.stepper.Replay.advance.Goals as goal

pub returns-clause-taken : goal.returns-clause-taken
returns-clause-taken g c =
    let b : Book = c.self.inside.kernel in
    let s : Step = c.args.step.now in
    let skipped : (f : EnterFault) → c.admit.result ≡ Err f → f ≢ OutOfMemory → is_book_full (Some f) ≡ false → b ≡ with_step b s =
    λ f is other not_full. sym (step-skipped b s c.admit.result f is c.admit.ensures.turned c.admit.ensures.memory other not_full) in
    let book : c.admit.new.self ≡ with_step b s = elim c.match-admit.branch [
      | in-Ok w ↦ w.in-Ok.ensures.line ∙ sym (step-taken b s w.in-Ok.ensures.let_in)
      | in-Err-NotRunning w ↦ w.in-Err-NotRunning.ensures.err ∙ skipped NotRunning (w.in-Err-NotRunning.is ∙ ap (λ f. Err f) w.in-Err-NotRunning.field-0-is) (λ x. absurd cc) refl
      | in-Err-NoContext w ↦ w.in-Err-NoContext.ensures.err ∙ skipped NoContext (w.in-Err-NoContext.is ∙ ap (λ f. Err f) w.in-Err-NoContext.field-0-is) (λ x. absurd cc) refl
      | in-Err-WrongCore w ↦ w.in-Err-WrongCore.ensures.err ∙ skipped WrongCore (w.in-Err-WrongCore.is ∙ ap (λ f. Err f) w.in-Err-WrongCore.field-0-is) (λ x. absurd cc) refl
    ] in
    run-stepped (record { book = b; taken = c.self.inside.taken }) s c.admit.new.self c.saturating_add-number.result book c.saturating_add-number.ensures
    ∙ ap (λ (r : Run). after_step r s) c.self.view_is

pub returns-clause-answer : goal.returns-clause-answer
returns-clause-answer g c =
    let b : Book = c.self.inside.kernel in
    let s : Step = c.args.step.now in
    let skipped : (f : EnterFault) → c.admit.result ≡ Err f → f ≢ OutOfMemory → is_book_full (Some f) ≡ false → None ≡ answer_to b s =
    λ f is other not_full. sym (answer-skipped b s c.admit.result f is c.admit.ensures.turned c.admit.ensures.memory other not_full) in
    let answer : c.match-admit.answer ≡ answer_to b s = elim c.match-admit.branch [
      | in-Ok w ↦ w.answer-is ∙ ap (λ (a : Answer). Some a) w.in-Ok.ensures.answer ∙ sym (answer-taken b s w.in-Ok.ensures.let_in)
      | in-Err-NotRunning w ↦ w.answer-is ∙ skipped NotRunning (w.in-Err-NotRunning.is ∙ ap (λ f. Err f) w.in-Err-NotRunning.field-0-is) (λ x. absurd cc) refl
      | in-Err-NoContext w ↦ w.answer-is ∙ skipped NoContext (w.in-Err-NoContext.is ∙ ap (λ f. Err f) w.in-Err-NoContext.field-0-is) (λ x. absurd cc) refl
      | in-Err-WrongCore w ↦ w.answer-is ∙ skipped WrongCore (w.in-Err-WrongCore.is ∙ ap (λ f. Err f) w.in-Err-WrongCore.field-0-is) (λ x. absurd cc) refl
    ] in
    answer ∙ ap (λ (r : Run). answer_to r.book s) c.self.view_is
