-- The steps before the first of a plan, which make threads passive (own).
use Rattle.std.specs.Prelude.{◌≡◌, ◌++◌, ℕ, Bool, true, false, List, [], ◌∷◌, Option, Some, None, Ok, length, min, drop, codes, slice_get, option_and_then, string_bytes}
use Rattle.mcs_types.specs.declared.id.ObjId.{ObjId}
use Rattle.mcs_types.specs.declared.id.Kind.TheVariants as kind
use Rattle.mcs_plan_source.specs.Cutting.{words_of}
use Rattle.mcs_plan_source.specs.Naming.{name_of}
use Rattle.mcs_plan_source.specs.Refusals.{Read, ◌>>=◌, ◌>>◌}
use Rattle.mcs_plan_source.specs.Saying.{Said, SaidPassive}
use Rattle.mcs_plan_source.specs.Threads.{thread_at}
use Rattle.mcs_plan_layout.specs.Laid.{LaidPlan}
use Rattle.mcs_plan_compile.specs.declared.compiler.Entries.{Entries}
use Rattle.mcs_plan_compile.specs.declared.compiler.Entries.TheVariants as entries
use Rattle.mcs_plan_compile.specs.declared.compiler.PassiveSetup.{PassiveSetup}
use Rattle.mcs_plan_compile.specs.declared.steps.Head.{Head}
use Rattle.mcs_plan_compile.specs.Heads.{step_read}
use Rattle.mcs_plan_compile.specs.Programs.{all_closed}
use Rattle.mcs_plan_compile.specs.Reading.{ReadAt, at_line, and_then}
use Rattle.mcs_plan_compile.specs.Stepping.{count_before}
use Rattle.mcs_plan_compile.specs.StepLines.{core_of, lines_taken}

-- a step that the plan does not say
abbrev pub step_added : LaidPlan → Head → List ℕ → Read (Unit {0})
step_added laid head text = do
  line ← step_read laid head (words_of text)
  Ok tt

-- what a passive thread does first
abbrev pub receive_text : SaidPassive → List ℕ
receive_text p = ((codes "recv " ++ p.endpoint) ++ codes " ") ++ p.reply

abbrev pub receive_head : Said → SaidPassive → Head
receive_head s p = record { thread = p.thread; core = Some (core_of s p.thread) }

-- the thread that takes its context away: the last
abbrev pub starter_head : Said → Head
starter_head s =
    record { thread = record { kind = kind.Thread; serial = min (length s.threads) 256 }; core = Some (record { 0 = 0 }) }

abbrev pub name_or_none : Said → Option ObjId → List ℕ
name_or_none s None = []
name_or_none s (Some object) = name_of s.names object

abbrev pub context_in : Said → ObjId → Option ObjId
context_in s t = option_and_then (λ th. th.context) (thread_at s.threads t)

abbrev pub unbind_text : Said → SaidPassive → List ℕ
unbind_text s p = codes "unbind " ++ name_or_none s (context_in s p.thread)

-- what makes a thread passive: what it does, and then the thread that takes its context away
abbrev pub both_added : LaidPlan → Head → List ℕ → List ℕ → Read (Unit {0})
both_added laid head receive unbind = do
  step_added laid head receive
  step_added laid (starter_head laid.plan) unbind

abbrev pub opening_said : LaidPlan → SaidPassive → Read (Unit {0})
opening_said laid p = both_added laid (receive_head laid.plan p) (receive_text p) (unbind_text laid.plan p)

-- what was made of a passive thread, and of the one at a place
pub record IsOpeningOf (s : Said) (p : SaidPassive) (o : PassiveSetup) : Type 0 where
  pub line : o.line ≡ p.line
  pub head : o.head ≡ receive_head s p
  pub receive : string_bytes o.receive ≡ receive_text p
  pub unbind : string_bytes o.unbind ≡ unbind_text s p

pub record IsOpeningAt (s : Said) (place : ℕ) (o : PassiveSetup) : Type 0 where
  pub passive : SaidPassive
  pub there : slice_get s.passives place ≡ Some passive
  pub opens : IsOpeningOf s passive o

-- what makes the thread passive that is at a place, where one is
abbrev pub opened_by : LaidPlan → Option SaidPassive → ReadAt (Unit {0})
opened_by laid None = Ok tt
opened_by laid (Some p) = at_line p.line (opening_said laid p)

abbrev pub opened_at : LaidPlan → ℕ → ReadAt (Unit {0})
opened_at laid place = opened_by laid (slice_get laid.plan.passives place)

-- what makes each of these threads passive; a fault is reported at the line that makes it so
abbrev pub openings_said : LaidPlan → List SaidPassive → ReadAt (Unit {0})
openings_said laid [] = Ok tt
openings_said laid (p ∷ ps) = and_then (at_line p.line (opening_said laid p)) (λ done. openings_said laid ps)

-- the thread that made others passive suspends itself
abbrev pub leave_text : List ℕ
leave_text = codes "suspend starter"

abbrev pub left_said : LaidPlan → List SaidPassive → ReadAt (Unit {0})
left_said laid [] = Ok tt
left_said laid (p ∷ ps) = at_line 0 (step_added laid (starter_head laid.plan) leave_text)

abbrev pub opened_said : LaidPlan → ReadAt (Unit {0})
opened_said laid = and_then (openings_said laid laid.plan.passives) (λ done. left_said laid laid.plan.passives)

-- the lines from the first step on, at whose end no program is open
abbrev pub steps_said : LaidPlan → List (List ℕ) → ReadAt Entries
steps_said laid found =
    and_then (lines_taken laid (count_before found) (drop (count_before found) found) entries.Nothing) (λ e. at_line (length found) (all_closed e))

-- all after the lines before the first step
abbrev pub after_said : LaidPlan → List (List ℕ) → ReadAt Entries
after_said laid found = and_then (opened_said laid) (λ done. steps_said laid found)

-- whether lines of users followed
abbrev pub are_users : Entries → Bool
are_users entries.Nothing = false
are_users entries.Steps = false
are_users entries.Users = true
are_users (entries.Program thread blocks) = true
