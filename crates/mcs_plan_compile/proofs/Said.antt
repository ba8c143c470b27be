-- What the lines of a plan say, one after another.
use Rattle.std.proofs.Common.{◌≡◌, ◌+◌, ◌<◌, ◌≤◌, ℕ, List, ◌∷◌, length, drop, take, get_or, suc, Ok, Err, sym, ap, ◌∙◌, arith, subst, refl, inl, inr, Bor, Bool, true, false, Result, IfErr, if◌then◌else◌, drop-cons, drop_of_length-le}
use Rattle.std.proofs.lemmas.List.{drop-map, length-map, take-map}
use Rattle.std.proofs.lemmas.Str.{IsUtf8-from_is_utf8}
use Rattle.std.specs.Result.{IsErrAnd}
use Rattle.std.specs.Str.{IsUtf8, is_utf8}
use Rattle.std.specs.Str.Lossy.{utf8_valid_len}
use Rattle.std.specs.Str.Lines.{lines}
use Rattle.mcs_plan_source.specs.declared.fault.PlanFault.{PlanFault}
use Rattle.mcs_plan_source.specs.declared.fault.PlanError.{PlanError}
use Rattle.mcs_plan_source.specs.Naming.{texts}
use Rattle.mcs_plan_source.specs.Refusals.{Read, Refuses, no_text}
use Rattle.mcs_plan_source.specs.Saying.{Said, said, nothing_said}
use Rattle.mcs_plan_layout.specs.declared.laid.PlanLayout.{PlanLayout}
use Rattle.mcs_plan_layout.specs.Fitting.{boot_fits}
use Rattle.mcs_plan_layout.specs.Laid.{LaidPlan, IsLaid, laid_said, laid_of}
use Rattle.mcs_plan_compile.specs.declared.compiler.Entries.{Entries}
use Rattle.mcs_plan_compile.specs.Opening.{after_said, are_users}
use Rattle.mcs_plan_layout.specs.Starting.{IsStarted, RefusesStarter}
use Rattle.mcs_plan_compile.specs.declared.script.Script.{Script}
use Rattle.mcs_plan_compile.specs.Reading.{ReadAt, RefusesAt, at_line, and_then, line_said, lines_said, plan_said}
use Rattle.mcs_plan_compile.specs.Scripts.{HasStepsOf, HasPlanOfLines, HasPlanOf}
use Rattle.mcs_plan_compile.specs.Telling.{RefusesLaid, TellsLines, TellsPlan, few_lines, lines_in, line_of}
use Rattle.mcs_plan_compile.specs.Stepping.{count_before}

module _ (ls : List (Bor (List ℕ))) (i : ℕ) (d : Bor (List ℕ)) (within : i < length ls) where
  -- the lines from a place on
  pub rest_is : drop i (texts ls) ≡ (get_or ls i d).now ∷ drop (i + 1) (texts ls)
  rest_is =
      let next : suc i ≡ i + 1 = omega arith in
      drop-map (λ (m : Bor (List ℕ)). m.now) i ls
      ∙ ap (λ ms. texts ms) (drop-cons ls i d within)
      ∙ ap (λ k. (get_or ls i d).now ∷ texts (drop k ls)) next
      ∙ ap (λ ms. (get_or ls i d).now ∷ ms) (sym (drop-map (λ (m : Bor (List ℕ)). m.now) (i + 1) ls))

  one_line : (s : Said) (all : ReadAt Said) → all ≡ lines_said i (drop i (texts ls)) s
      → all ≡ and_then (at_line (i + 1) (line_said (i + 1) (get_or ls i d).now s)) (lines_said (i + 1) (drop (i + 1) (texts ls)))
  one_line s all so_far = so_far ∙ ap (λ ms. lines_said i ms s) rest_is

  -- the line there adds something, and those after it say the rest
  pub next_said : (s t : Said) (all : ReadAt Said) → line_said (i + 1) (get_or ls i d).now s ≡ Ok t → all ≡ lines_said i (drop i (texts ls)) s
      → all ≡ lines_said (i + 1) (drop (i + 1) (texts ls)) t
  next_said s t all adds so_far =
      one_line s all so_far ∙ ap (λ (r : Read Said). and_then (at_line (i + 1) r) (lines_said (i + 1) (drop (i + 1) (texts ls)))) adds

  -- or it is refused
  pub line_refused : (s : Said) (all : ReadAt Said) (fault : PlanFault) → RefusesAt (at_line (i + 1) (line_said (i + 1) (get_or ls i d).now s)) fault
      → all ≡ lines_said i (drop i (texts ls)) s → RefusesAt all fault
  line_refused s all fault refuses so_far e error =
      one_line s all so_far ∙ ap (λ (r : ReadAt Said). and_then r (lines_said (i + 1) (drop (i + 1) (texts ls)))) (refuses e error)

pub all_said : (ls : List (Bor (List ℕ))) (i : ℕ) (s : Said) (all : ReadAt Said) → length ls ≤ i → all ≡ lines_said i (drop i (texts ls)) s → all ≡ Ok s
all_said ls i s all past so_far =
    let over : length (texts ls) ≤ i = omega (arith, past, length-map ls (λ (m : Bor (List ℕ)). m.now)) in
    so_far ∙ ap (λ ms. lines_said i ms s) (drop_of_length-le (texts ls) over)

-- what a script has, from its parts
pub has_plan : (found : List (List ℕ)) (plan : Said) (script : Script) (laid : PlanLayout) → plan_said found ≡ Ok plan → IsStarted plan (said laid.plan) → IsLaid laid
    → script.laid ≡ laid → HasStepsOf found script → HasPlanOfLines found script
has_plan found plan script laid says started is same steps =
    record {
      plan = plan;
      says = says;
      started = subst (λ (l : PlanLayout). IsStarted plan (said l.plan)) (sym same) started;
      laid = subst (λ (l : PlanLayout). IsLaid l) (sym same) is;
      steps = steps;
    }

pub has_plan_of : (bytes : List ℕ) (found : List (List ℕ)) (script : Script) → lines_in bytes ≡ Ok found → HasPlanOfLines found script → HasPlanOf bytes script
has_plan_of bytes found script are says = record { found = found; are = are; says = says }

pub has_steps : (found : List (List ℕ)) (script : Script) (laid : PlanLayout) (taken : Entries) → script.laid ≡ laid → after_said (laid_said laid) found ≡ Ok taken
    → script.is_users ≡ are_users taken → HasStepsOf found script
has_steps found script laid taken same is users =
    record { entries = taken; taken = subst (λ (l : PlanLayout). after_said (laid_said l) found ≡ Ok taken) (sym same) is; users = users }

-- a reported fault, by the stage of reading that it comes from
pub no_starter : (found : List (List ℕ)) (plan : Said) (fault : PlanFault) → plan_said found ≡ Ok plan → RefusesStarter plan fault → TellsLines found fault
no_starter found plan fault says error = inr (record { plan = plan; says = says; error = inl error })

pub refused_after : (found : List (List ℕ)) (plan : Said) (laid : PlanLayout) (fault : PlanFault) → plan_said found ≡ Ok plan → IsStarted plan (said laid.plan) → IsLaid laid
    → RefusesLaid (laid_said laid) found fault → TellsLines found fault
refused_after found plan laid fault says started is error =
    let same : laid_said laid ≡ laid_of (said laid.plan) = ap (λ ts. record { plan = said laid.plan; tables = ts }) is.tables in
    inr (record {
      plan = plan;
      says = says;
      error = inr (record { new = said laid.plan; started = started; error = subst (λ l. RefusesLaid l found fault) same error });
    })

pub refused_lines : (bytes : List ℕ) (found : List (List ℕ)) (fault : PlanFault) → lines_in bytes ≡ Ok found → TellsLines found fault → TellsPlan bytes fault
refused_lines bytes found fault are error = inr (record { found = found; are = are; error = error })

pub no_boot : (laid : LaidPlan) (ls : List (Bor (List ℕ))) (taken : Entries) (fault : PlanFault) → after_said laid (texts ls) ≡ Ok taken → fault.line ≡ length ls
    → Refuses (boot_fits laid.plan) fault.why → RefusesLaid laid (texts ls) fault
no_boot laid ls taken fault is line error =
    inr (record { entries = taken; taken = is; line = line ∙ sym (length-map ls (λ (m : Bor (List ℕ)). m.now)); error = error })

-- what is reported of the boot, where that is refused
pub boot_refused : (r : Result Script PlanError) (w : PlanError) (laid now : PlanLayout) → now ≡ laid → IfErr r (Refuses (boot_fits (said now.plan))) → r ≡ Err w
    → Refuses (boot_fits (said laid.plan)) w
boot_refused r w laid now same error is =
    let here : Refuses (boot_fits (said now.plan)) w = subst (λ (s : Result Script PlanError). IfErr s (Refuses (boot_fits (said now.plan)))) is error in
    subst (λ (l : PlanLayout). Refuses (boot_fits (said l.plan)) w) same here

-- a fault that is handed on, whatever it reports
pub handed : {T : Type 0} (r : Result T PlanFault) (fault : PlanFault) (P : PlanFault → Type 0) → IsErrAnd r (λ e. e ≡ fault) → P fault → IfErr r P
handed (Ok x) fault P h error = absurd h
handed (Err y) fault P h error = subst P (sym h) error

-- the lines before the first step
pub front_is : (ls : List (Bor (List ℕ))) (n : ℕ) → n ≡ count_before (texts ls) → lines_said 0 (texts (take n ls)) nothing_said ≡ plan_said (texts ls)
front_is ls n e =
    ap (λ ms. lines_said 0 ms nothing_said) (sym (take-map (λ (m : Bor (List ℕ)). m.now) n ls)) ∙ ap (λ k. lines_said 0 (take k (texts ls)) nothing_said) e

-- a fault that is handed on
pub handed_at : {T X : Type 0} (r : Result T PlanFault) (fault : PlanFault) (whole : ReadAt X) → IsErrAnd r (λ e. e ≡ fault) → RefusesAt whole fault → IfErr r (RefusesAt whole)
handed_at (Ok x) fault whole h error = absurd h
handed_at (Err y) fault whole h error = subst (λ f. RefusesAt whole f) (sym h) error

-- bytes that are no text
pub no_text_there : (bytes : List ℕ) (line : ℕ) → ¬ (IsUtf8 bytes) → line ≡ line_of bytes (utf8_valid_len bytes) → lines_in bytes ≡ Err (line, no_text)
no_text_there bytes line broken e = go (is_utf8 bytes) refl
  where
    go : (b : Bool) → is_utf8 bytes ≡ b → lines_in bytes ≡ Err (line, no_text)
    go true is = absurd (broken (IsUtf8-from_is_utf8 bytes is))
    go false is = ap (λ b. if b then few_lines (lines bytes) else Err (line_of bytes (utf8_valid_len bytes), no_text)) is ∙ ap (λ n. Err (n, no_text)) (sym e)
