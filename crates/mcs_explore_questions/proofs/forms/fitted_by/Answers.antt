use Rattle.std.proofs.Common.{◌≡◌, ℕ, List, Option, Some, IfOk, IfErr, sym, subst, ap, ◌∙◌}
use Rattle.mcs_explore_questions.specs.Forms.{Fit, begun, fit_of, fitted_by, whole_of}
use Rattle.mcs_explore_questions.specs.Reading.{Refuses, texts}
use Rattle.mcs_explore_questions.specs.There.{scene_of}
use Rattle.mcs_explore_questions.proofs.Fitting.{fits_as, fits_not}
use Rattle.mcs_explore_questions.proofs.Handing.{handed_on}
use Rattle.mcs_explore_questions.proofs.forms.fitted_by.Goals as goal

pub returns-in_err-take_form-clause-error : goal.returns-in_err-take_form-clause-error
returns-in_err-take_form-clause-error c =
    let f : Fit = fit_of c.in_ok-pattern.pattern c.new-words.result in
    let g : Fit = begun c.args.word.now (texts c.args.rest.now) in
    let same : f ≡ g = c.in_ok-pattern.ensures c.new-words.result ∙ ap (begun c.args.word.now) c.new-words.ensures in
    handed_on _ _ _ c.from_residual-in_err-take_form.ensures.1
    (λ m. fits_not (scene_of c.args.there) c.args.first.now c.args.form.now f g same (c.in_err-take_form.ensures.error m))

pub returns-clause-said : goal.returns-clause-said
returns-clause-said c =
    let f : Fit = fit_of c.in_ok-pattern.pattern c.new-words.result in
    let g : Fit = begun c.args.word.now (texts c.args.rest.now) in
    let h : Fit = fit_of c.take_form.new.pattern c.take_form.new.words in
    let same : f ≡ g = c.in_ok-pattern.ensures c.new-words.result ∙ ap (begun c.args.word.now) c.new-words.ensures in
    let fits : fitted_by (scene_of c.args.there) c.args.first.now c.args.form.now g ≡ whole_of h =
    fits_as (scene_of c.args.there) c.args.first.now c.args.form.now f g h same c.in_ok-take_form.ensures.said in
    subst (λ (o : Option (List ℕ)). IfOk c.whole_of.result (λ v. o ≡ Some v.items)) (sym fits) c.whole_of.ensures.said

pub returns-clause-error : goal.returns-clause-error
returns-clause-error c =
    let f : Fit = fit_of c.in_ok-pattern.pattern c.new-words.result in
    let g : Fit = begun c.args.word.now (texts c.args.rest.now) in
    let h : Fit = fit_of c.take_form.new.pattern c.take_form.new.words in
    let same : f ≡ g = c.in_ok-pattern.ensures c.new-words.result ∙ ap (begun c.args.word.now) c.new-words.ensures in
    let fits : fitted_by (scene_of c.args.there) c.args.first.now c.args.form.now g ≡ whole_of h =
    fits_as (scene_of c.args.there) c.args.first.now c.args.form.now f g h same c.in_ok-take_form.ensures.said in
    subst (λ (o : Option (List ℕ)). IfErr c.whole_of.result (Refuses o)) (sym fits) c.whole_of.ensures.error
