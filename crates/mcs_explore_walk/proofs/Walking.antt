-- Which thread may enter, and what is known of it.
use Rattle.std.specs.Prelude.{ℕ, Bool, true, false, cond, ◌≡◌, ◌&&◌, Option, Some, None, option_and_then, Result, Err}
use Rattle.std.specs.Option.{IfSome, IfNone}
use Rattle.std.specs.Result.{IfErr}
use Rattle.std.proofs.Common.{refl, ap, sym, ◌∙◌, subst, inl, inr}
use Rattle.std.proofs.lemmas.Bool.{eq-eqb, eqb-true}
use Rattle.mcs_types.specs.declared.id.ObjId.{ObjId}
use Rattle.mcs_types.specs.declared.id.CoreId.{CoreId}
use Rattle.mcs_types.specs.declared.id.Kind.TheVariants as kind
use Rattle.mcs_types.specs.Ids.{same_kind}
use Rattle.mcs_book.specs.Logs.{Log}
use Rattle.mcs_book.specs.Objects.{form_of, is_alive}
use Rattle.mcs_book.specs.Threads.{prio_of}
use Rattle.mcs_book.specs.Contexts.{context_of}
use Rattle.mcs_book.specs.Statuses.{status_of, may_enter, is_ready, is_on_core}
use Rattle.mcs_book.specs.History.{Book, IsLegal, log_of}
use Rattle.mcs_book.proofs.SoundLogs.SoundBooks.{legal-sound}
use Rattle.mcs_book.specs.Sound.{IsThere}
use Rattle.mcs_state.specs.Questions.{priority_of}
use Rattle.mcs_state.specs.Tables.{core_kept, core_said, is_there}
use Rattle.mcs_types.specs.declared.record.Status.{Status}
use Rattle.mcs_types.specs.declared.record.Form.{Form}
use Rattle.mcs_types.specs.declared.record.Form.TheVariants.{Plain, Slots, OnCore, Runner}
use Rattle.mcs_state.proofs.ContextLaws.{context-there}
use Rattle.mcs_state.proofs.Picking.{entrant, entrant-there}
use Rattle.mcs_types.specs.declared.entry.Answer.{Answer}
use Rattle.mcs_kernel.specs.Faults.{fault_of, context_fault, has_room, FailsForMemory}
use Rattle.mcs_kernel.specs.declared.fault.EnterFault.{EnterFault}
use Rattle.mcs_kernel.specs.declared.fault.EnterFault.TheVariants.{NotRunning, NoContext, WrongCore, BookFull, OutOfMemory}
use Rattle.mcs_explore_walk.specs.Walks.{IsEntryCore, IsLimit, is_let_in}

pub let-in : (b : Book) (core : CoreId) (t : ObjId) → is_let_in (fault_of b core t) ≡ may_enter (log_of b) core t
unfolding fault_of
let-in b core t = go (is_ready (status_of (log_of b) t)) (context_of (log_of b) t) ∙ entrant (log_of b) core t
  where
    by_core : (y z : Bool) → is_let_in (cond y (cond z None (Some BookFull)) (Some WrongCore)) ≡ y
    by_core true true = refl
    by_core true false = refl
    by_core false z = refl

    go : (r : Bool) (o : Option ObjId) → is_let_in (cond r (context_fault b core o) (Some NotRunning)) ≡ (r && is_on_core core (option_and_then (λ s. form_of (log_of b) s) o))
    go false o = refl
    go true None = refl
    go true (Some s) = by_core (is_on_core core (form_of (log_of b) s)) (has_room b)

pub ranked : (R : Log) (core : CoreId) (t : ObjId) → may_enter R core t ≡ true → priority_of R t ≡ Some (record { 0 = prio_of R t })
ranked R core t enters = ap (λ b. cond b (Some (record { 0 = prio_of R t })) None) there
  where
    it : IsThere R kind.Thread t
    it = entrant-there R core t enters

    there : is_there R kind.Thread t ≡ true
    there = ap (λ k. same_kind k kind.Thread && is_alive R t) it.0 ∙ it.1

-- a thread that is not ready enters nowhere, nor one that holds no context
pub not_ready : (R : Log) (t : ObjId) (status : Option Status) → status ≡ status_of R t → is_ready status ≡ false → IsEntryCore R t None
not_ready R t status is unready core enters =
    let off : false ≡ true = ap (λ r. r && is_on_core core (option_and_then (λ s. form_of R s) (context_of R t))) (sym (sym (ap is_ready is) ∙ unready)) ∙ entrant R core t ∙ enters in
    absurd cc

pub without_context : (R : Log) (t : ObjId) → context_of R t ≡ None → IsEntryCore R t None
without_context R t none core enters = go (is_ready (status_of R t)) (ap (λ o. is_ready (status_of R t) && is_on_core core (option_and_then (λ s. form_of R s) o)) (sym none) ∙ entrant R core t ∙ enters)
  where
    go : (r : Bool) → (r && false) ≡ true → ⊥
    go true e = absurd cc
    go false e = absurd cc

by_form : (o : Option Form) (core : CoreId) → is_on_core core o ≡ true → option_and_then core_kept o ≡ Some core
by_form (Some (OnCore c)) core e = ap (λ (n : ℕ). Some (record { 0 = n })) (eqb-true c.0 core.0 e)
by_form (Some Plain) core e = absurd cc
by_form (Some (Slots r)) core e = absurd cc
by_form (Some (Runner m r)) core e = absurd cc
by_form None core e = absurd cc

on_kept : (o : Option Form) (core : CoreId) → option_and_then core_kept o ≡ Some core → is_on_core core o ≡ true
on_kept (Some (OnCore c)) core e = let same : c ≡ core = cc in eq-eqb c.0 core.0 (ap (λ (d : CoreId). d.0) same)
on_kept (Some Plain) core e = absurd cc
on_kept (Some (Slots r)) core e = absurd cc
on_kept (Some (Runner m r)) core e = absurd cc
on_kept None core e = absurd cc

-- a thread that is ready and holds a context enters on the core of that context alone
pub with_context : (b : Book) (t s : ObjId) (status : Option Status) → IsLegal b → status ≡ status_of (log_of b) t → is_ready status ≡ true → context_of (log_of b) t ≡ Some s
    → IsEntryCore (log_of b) t (core_said (log_of b) s)
with_context b t s status legal is ready holds = go (option_and_then core_kept (form_of R s)) refl (core_said R s) said
  where
    R : Log
    R = log_of b

    there : IsThere R kind.Context s
    there = subst (λ o. IfSome o (λ x. IsThere R kind.Context x)) holds (context-there R t (legal-sound b legal))

    said : core_said R s ≡ option_and_then core_kept (form_of R s)
    said = ap (λ a. cond a (option_and_then core_kept (form_of R s)) None) there.1

    enters : (core : CoreId) → may_enter R core t ≡ is_on_core core (form_of R s)
    enters core = sym (entrant R core t) ∙ ap (λ r. r && is_on_core core (option_and_then (λ x. form_of R x) (context_of R t))) (ap is_ready (sym is) ∙ ready)
        ∙ ap (λ o. is_on_core core (option_and_then (λ x. form_of R x) o)) holds

    go : (k : Option CoreId) → option_and_then core_kept (form_of R s) ≡ k → (o : Option CoreId) → o ≡ option_and_then core_kept (form_of R s) → IsEntryCore R t o
    go None e (Some c) same = let no : Some c ≡ None = same ∙ e in absurd cc
    go None e None same = λ core may. let no : None ≡ Some core = sym e ∙ by_form (form_of R s) core (sym (enters core) ∙ may) in absurd cc
    go (Some c) e None same = let no : None ≡ Some c = same ∙ e in absurd cc
    go (Some c) e (Some d) same =
        let one : d ≡ c = some-core (same ∙ e) in
        (enters d ∙ on_kept (form_of R s) d (sym same), λ core may. some-core (sym (by_form (form_of R s) core (sym (enters core) ∙ may)) ∙ sym same))
      where
        some-core : {x y : CoreId} → Some x ≡ Some y → x ≡ y
        some-core h = cc

-- an entry of a thread that may enter is skipped for a limit alone
pub limit : (b : Book) (core : CoreId) (t : ObjId) (r : Result Answer EnterFault) (f : EnterFault) → may_enter (log_of b) core t ≡ true
    → IfSome (fault_of b core t) (λ g. r ≡ Err g) → IfNone (fault_of b core t) (FailsForMemory r) → r ≡ Err f → IsLimit f
limit b core t r f enters turned memory is = go (fault_of b core t) (let-in b core t ∙ enters) turned memory
  where
    is-full : r ≡ Err BookFull → f ≡ BookFull
    is-full away = subst (λ s. IfErr s (λ g. f ≡ g)) (sym is ∙ away) refl

    go : (o : Option EnterFault) → is_let_in o ≡ true → IfSome o (λ g. r ≡ Err g) → IfNone o (FailsForMemory r) → IsLimit f
    go None e away room = inr (subst (λ s. FailsForMemory s) is room)
    go (Some BookFull) e away room = inl (is-full away)
    go (Some NotRunning) e away room = absurd cc
    go (Some NoContext) e away room = absurd cc
    go (Some WrongCore) e away room = absurd cc
    go (Some OutOfMemory) e away room = absurd cc
