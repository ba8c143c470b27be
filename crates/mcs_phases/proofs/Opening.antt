-- What a line of the boot leaves, or the first step.
use Rattle.std.proofs.Common.{◌≡◌, ℕ, ◌+◌, ◌<◌, ◌⊎◌, inl, inr, Bool, true, false, cond, ltb, eqb, if◌then◌else◌, Option, Some, None, Result, Ok, Err, List, [], ◌∷◌, ◌++◌, length, fold, refl, sym, ap, subst, ◌∙◌, append_assoc, append-nil, arith}
use Rattle.std.proofs.lemmas.Bool.{lt-ltb, ltb-true}
use Rattle.std.proofs.lemmas.List.{length-append}
use Rattle.std.proofs.lemmas.List.Sums.{fold-append}
use Rattle.mcs_types.specs.declared.entry.Step.{Step}
use Rattle.mcs_book.specs.Boots.{Boot}
use Rattle.mcs_book.specs.Statuses.{may_enter}
use Rattle.mcs_book.specs.History.{Book, log_of, with_step, book_of}
use Rattle.mcs_kernel.specs.Faults.{fault_of, entered}
use Rattle.mcs_kernel.specs.Runs.{is_book_full, full_after}
use Rattle.mcs_text.specs.declared.fault.LineFault.{LineFault}
use Rattle.mcs_text.specs.declared.fault.LineFault.TheVariants as why
use Rattle.mcs_text.specs.declared.key.Key.{Key}
use Rattle.mcs_text.specs.Keys.{boot_key}
use Rattle.mcs_text.specs.Reading.{◌>>=◌, onto_first, lines_of, words_of, step_of}
use Rattle.mcs_phases.specs.declared.fault.SimFault.{SimFault}
use Rattle.mcs_phases.specs.declared.fault.SimFault.TheVariants as fault
use Rattle.mcs_phases.specs.Script.{Script, of_steps, no_script, threads_of, says_something, first_boot, next_boot, next_items, later_line, by_boot, spelled, read_line, ending, script_from, script_of, steps}
use Rattle.mcs_phases.specs.Feeds.{BootOrBook, Course, FeedState, no_line, begun_by, stepped, behind_boot, step_spelled, step_line, read_at, stands, opened, after_boot_line, after_step, book_after, after_line, ended_by, refused_for, past_line, with_line, after_end, boot_ended_after, boot_ended, at_line, with_part, fed, with_last, at_end, ended}

-- the boot had ended, and this is its first step
pub record IsFirstStep (boot : Option Boot) (t : Script Step) : Type 0 where
  pub by : Boot
  pub first : Step
  pub said : boot ≡ Some by
  pub script : t ≡ record { boot = Some by; items = first ∷ [] }

abbrev pub IsOpening : Option Boot → Result (Script Step) LineFault → Type 0
IsOpening boot (Ok t) = (t.items ≡ []) ⊎ IsFirstStep boot t
IsOpening boot (Err e) = Unit {0}

pub read_line-opening : (boot : Option Boot) (n : ℕ) (l : List ℕ) → IsOpening boot (read_line of_steps (record { boot = boot; items = [] }) n l)
unfolding read_line spelled by_boot later_line next_items
read_line-opening boot n l = go (says_something n l) (words_of l)
  where
    first : (r : Result Boot LineFault) → IsOpening None (r >>= λ b. Ok (record { boot = Some b; items = [] }))
    first (Ok b) = inl refl
    first (Err e) = tt

    more : (b : Boot) (r : Result Boot LineFault) → IsOpening (Some b) (r >>= λ more. Ok (record { boot = Some more; items = [] }))
    more b (Ok m) = inl refl
    more b (Err e) = tt

    item : (b : Boot) (r : Result Step LineFault) → IsOpening (Some b) (r >>= (λ y. Ok ([] ++ y ∷ [])) >>= (λ more. Ok (record { boot = Some b; items = more })))
    item b (Ok y) = inr (record { by = b; first = y; said = refl; script = refl })
    item b (Err e) = tt

    key : (b : Boot) (k : Option Key) (ws : List (List ℕ)) → IsOpening (Some b) (later_line step_of b [] l k ws)
    key b (Some k) ws = more b (next_boot b k ws)
    key b None ws = item b (step_of b.cores (threads_of b) l)

    words : (boot : Option Boot) (w : List ℕ) (ws : List (List ℕ)) → IsOpening boot (by_boot of_steps boot [] l (boot_key w) ws)
    words None w ws = first (first_boot None (boot_key w) ws)
    words (Some b) w ws = key b (boot_key w) ws

    go : (r : Result Bool LineFault) (ws : List (List ℕ)) → IsOpening boot (r >>= λ says. if says then spelled of_steps (record { boot = boot; items = [] }) l ws else Ok (record { boot = boot; items = [] }))
    go (Err e) ws = tt
    go (Ok false) ws = inl refl
    go (Ok true) [] = tt
    go (Ok true) (w ∷ ws) = words boot w ws
