-- `==` of statuses decides whether they are the same.
use Rattle.std.specs.Prelude.{ℕ, ◌≡◌, ◌↔◌, Bool, Option, Some, None, true, false}
use Rattle.std.proofs.Common.{ap, rules, sym, ◌∙◌}
use Rattle.mcs_types.specs.declared.id.ObjId.{ObjId}
use Rattle.mcs_types.specs.declared.record.Status.{Status}
use Rattle.mcs_types.specs.Ids.{same}
use Rattle.mcs_types.proofs.Ids.{same-equal, same-self}
use Rattle.mcs_explore_report.specs.declared.ends.Standing.{Standing}
use Rattle.mcs_types.specs.contracts.id.ObjIdPartialEq.TheImpl as id_eq
use Rattle.mcs_types.specs.contracts.record.Queue as queue_type
use Rattle.mcs_types.specs.contracts.record.QueuePartialEq.TheImpl as queue_eq
use Rattle.mcs_types.specs.contracts.record.Status as status_type
use Rattle.mcs_types.specs.contracts.record.StatusPartialEq.TheImpl as status_eq
use Rattle.mcs_types.proofs.Same.{Tells, last, values_tell}

id : Tells id_eq.ghosts.eq
id = record { told = λ a b e. search rules; itself = λ a. search rules }

queue : Tells queue_eq.ghosts.eq
queue = values_tell queue_type.enum _ (assumption (last id))

pub status_tells : Tells status_eq.ghosts.eq
status_tells = values_tell status_type.enum _ (assumption (last queue, last id))

abbrev made : ObjId → Option Status → Bool → ℕ → Standing
made t s e n = record { thread = t; status = s; has_entries = e; answered = n }

-- standings of two threads, of which one has entries and the other not, or that were answered other
-- numbers, or whose statuses are another
pub other_thread : (a b : Standing) → same a.thread b.thread ≡ false → (false ≡ true) ↔ (a ≡ b)
other_thread a b other = (λ h. absurd cc, λ e. absurd (differ (sym (same-self a.thread) ∙ ap (λ (x : Standing). same a.thread x.thread) e ∙ other)))
  where
    differ : true ≡ false → ⊥
    differ e = absurd cc

pub other_entries : (a b : Standing) → (a.has_entries ≡ b.has_entries → ⊥) → (false ≡ true) ↔ (a ≡ b)
other_entries a b other = (λ h. absurd cc, λ e. absurd (other (ap (λ (x : Standing). x.has_entries) e)))

pub other_answered : (a b : Standing) → (a.answered ≡ b.answered → ⊥) → (false ≡ true) ↔ (a ≡ b)
other_answered a b other = (λ h. absurd cc, λ e. absurd (other (ap (λ (x : Standing). x.answered) e)))

pub same_rest : (a b : Standing) (r : Bool) → same a.thread b.thread ≡ true → a.has_entries ≡ b.has_entries → a.answered ≡ b.answered → (r ≡ true) ↔ (a.status ≡ b.status) → (r ≡ true) ↔ (a ≡ b)
same_rest a b r thread entries answered rest = (λ h. go (same-equal a.thread b.thread thread) entries answered (rest.0 h), λ e. rest.1 (ap (λ (x : Standing). x.status) e))
  where
    go : a.thread ≡ b.thread → a.has_entries ≡ b.has_entries → a.answered ≡ b.answered → a.status ≡ b.status → a ≡ b
    go t e n s = ap (λ x. made x a.status a.has_entries a.answered) t ∙ ap (λ x. made b.thread x a.has_entries a.answered) s ∙ ap (λ x. made b.thread b.status x a.answered) e ∙ ap (λ x. made b.thread b.status b.has_entries x) n

-- statuses where there may be none
pub some_status : (a b : Status) (r : Bool) → (r ≡ true) ↔ (a ≡ b) → (r ≡ true) ↔ (Some a ≡ Some b)
some_status a b r is = (λ h. ap (λ (x : Status). Some x) (is.0 h), λ e. is.1 (unwrapped e))
  where
    unwrapped : Some a ≡ Some b → a ≡ b
    unwrapped e = cc

pub none_left : (b : Status) → (false ≡ true) ↔ (None ≡ Some b)
none_left b = (λ h. absurd cc, λ e. absurd cc)

pub none_right : (a : Status) → (false ≡ true) ↔ (Some a ≡ None)
none_right a = (λ h. absurd cc, λ e. absurd cc)
