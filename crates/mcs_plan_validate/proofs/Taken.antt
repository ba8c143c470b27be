-- A replay that took a whole script has the boot and the lines that the script gives.
use Rattle.std.proofs.Common.{◌≡◌, ◌⊎◌, inl, inr, ℕ, Bool, true, false, List, [], ◌∷◌, Option, Some, None, Result, Ok, Err, refl, ap, sym, subst, ◌∙◌}
use Rattle.std.specs.Prelude.{fold}
use Rattle.mcs_types.specs.declared.entry.Step.{Step}
use Rattle.mcs_text.specs.declared.fault.LineFault.{LineFault}
use Rattle.mcs_book.specs.Boots.{Boot}
use Rattle.mcs_book.specs.Statuses.{may_enter}
use Rattle.mcs_book.specs.Table.{does}
use Rattle.mcs_book.specs.History.{Book, log_of, line_for, with_step, book_of}
use Rattle.mcs_phases.specs.declared.fault.SimFault.{SimFault}
use Rattle.mcs_phases.specs.declared.fault.SimFault.TheVariants as fault
use Rattle.mcs_phases.specs.Script.{Script, steps}
use Rattle.mcs_sim.specs.Outcomes.{ComesOfScript}
use Rattle.mcs_phases.specs.Feeds.{FeedState, Course, Takes, TakesEnd, IsRefusedIn, answer_of, at_line, no_line, fed, ended, ended_by}
use Rattle.mcs_sim.proofs.FeedScripts.{fed-as-read}
use Rattle.mcs_plan_validate.specs.Reading.{IsScript, IsScriptOf}

-- a book after a step, where it may enter or not
abbrev entered_if : Book → Step → Bool → Book
entered_if k s v = elim v [ true ↦ record k { lines = line_for s (does (log_of k) s.core s.thread s.entry) ∷ k.lines } | false ↦ k ]

-- a step leaves the boot as it is
step-boot : (k : Book) (s : Step) → (with_step k s).boot ≡ k.boot
step-boot k s = go (may_enter (log_of k) s.core s.thread)
  where
    go : (v : Bool) → (entered_if k s v).boot ≡ k.boot
    go true = refl
    go false = refl

-- so do all steps
steps-boot : (ss : List Step) (k : Book) → (fold with_step k ss).boot ≡ k.boot
steps-boot [] k = refl
steps-boot (s ∷ ss) k = steps-boot ss (with_step k s) ∙ step-boot k s

book-boot : (b : Boot) (ss : List Step) → (book_of b ss).boot ≡ b
unfolding book_of
book-boot b ss = steps-boot ss (record { boot = b; lines = [] })

-- if the answer is Ok there is no fault
no-fault : (o : Option SimFault) (f : SimFault) → o ≡ Some f → answer_of o ≡ Ok tt → ⊥
no-fault o f e answer = let answer-fault : answer_of o ≡ Err f = ap answer_of e in absurd cc

-- the boot and the lines of a script that was taken without a fault
comes : (text : List ℕ) (s : Script Step × Option (ℕ × LineFault)) → steps text ≡ s → (c : Course) → ComesOfScript s c → answer_of c.fault ≡ Ok tt → IsScriptOf text c.stands.book
comes text (t, None) e c (inl h) answer =
    let boot : t.boot ≡ Some (book_of h.boot t.items).boot = h.said ∙ ap Some (sym (book-boot h.boot t.items)) in
    subst (λ o. IsScriptOf text o) (sym h.book) (record {
      items = t.items;
      reads = e ∙ (λ i. (record { boot = boot i; items = t.items }, None));
      makes = ap (λ b. book_of b t.items) (sym (book-boot h.boot t.items));
    })
comes text (t, None) e c (inr h) answer = absurd (no-fault c.fault fault.BookFull h.ended answer)
comes text (t, Some (line, why)) e c (inl h) answer = absurd (no-fault c.fault (fault.Script line why) h.ended answer)
comes text (t, Some (line, why)) e c (inr h) answer = absurd (no-fault c.fault fault.BookFull h.ended answer)

-- where no fault ended it, it took all
fed-whole : (old : FeedState) (bytes : List ℕ) (new : FeedState) → Takes old bytes new → answer_of new.course.fault ≡ Ok tt → new ≡ fed old bytes
fed-whole old bytes new (inl e) answer = e
fed-whole old bytes new (inr r) answer = let stopped = ap (λ (g : FeedState). answer_of g.course.fault) r.stopped in cc

-- the text that was fed to it from the beginning to the end is the script of its book
pub taken : (text : List ℕ) (mid new : FeedState) → Takes (at_line no_line) text mid → answer_of mid.course.fault ≡ Ok tt → TakesEnd mid new → answer_of new.course.fault ≡ Ok tt
    → IsScriptOf text new.course.stands.book
taken text mid new took fine end answer = go end
  where
    whole : mid ≡ fed (at_line no_line) text
    whole = fed-whole (at_line no_line) text mid took fine

    go : TakesEnd mid new → IsScriptOf text new.course.stands.book
    go (inl e) =
        let course : new.course ≡ ended (fed (at_line no_line) text) = ap (λ (g : FeedState). g.course) e ∙ ap ended whole in
        subst (λ (c : Course). IsScriptOf text c.stands.book) (sym course)
        (comes text (steps text) refl (ended (fed (at_line no_line) text)) (fed-as-read text) (subst (λ (c : Course). answer_of c.fault ≡ Ok tt) course answer))
    go (inr (n, e)) = absurd (no-fault new.course.fault fault.OutOfMemory (ap (λ (g : FeedState). g.course.fault) e) answer)
