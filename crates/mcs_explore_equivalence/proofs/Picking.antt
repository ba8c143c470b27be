-- A core picks the same on alike logs.
use Rattle.std.specs.Prelude.{◌≡◌, ◌≤◌, ◌&&◌, Bool, true, not, List, Option, Some, None, option_and_then}
use Rattle.std.specs.Option.{IfSome}
use Rattle.std.proofs.Common.{refl, ap, sym, ◌∙◌, subst}
use Rattle.mcs_types.specs.declared.id.ObjId.{ObjId}
use Rattle.mcs_types.specs.declared.id.CoreId.{CoreId}
use Rattle.mcs_types.specs.declared.id.Kind.TheVariants as kind
use Rattle.mcs_types.specs.ThreadSets.{has}
use Rattle.mcs_types.proofs.Ids.{parts}
use Rattle.mcs_book.specs.Logs.{Log}
use Rattle.mcs_book.specs.Objects.{form_of}
use Rattle.mcs_book.specs.Threads.{prio_of}
use Rattle.mcs_book.specs.Contexts.{context_of}
use Rattle.mcs_book.specs.Picking.{is_candidate, GoesBefore, IsPick}
use Rattle.mcs_book.specs.Statuses.{status_of, may_enter, is_ready, is_on_core}
use Rattle.mcs_book.specs.Sound.{IsThere}
use Rattle.mcs_state.proofs.ContextLaws.{context-there}
use Rattle.mcs_state.proofs.Picking.{entrant, entrant-there}
use Rattle.mcs_explore_equivalence.specs.ButNumbers.{AlikeButNumbers}
use Rattle.mcs_explore_equivalence.proofs.Asking.{context-same, status-same}

abbrev ThereIf : Log → Option ObjId → Type 0
ThereIf S None = Unit {0}
ThereIf S (Some x) = IsThere S kind.Context x

there-if : (S : Log) (o : Option ObjId) → IfSome o (λ s. IsThere S kind.Context s) → ThereIf S o
there-if S None h = tt
there-if S (Some x) h = h

-- a thread may enter on the same cores
pub may_enter-same : (R S : Log) → AlikeButNumbers R S → (core : CoreId) (t : ObjId) → may_enter R core t ≡ may_enter S core t
may_enter-same R S a core t =
    sym (entrant R core t) ∙ ap (λ s. is_ready s && is_on_core core (option_and_then (form_of R) (context_of R t))) (status-same R S a t)
    ∙ ap (λ c. is_ready (status_of S t) && c) (go (context_of R t) refl) ∙ entrant S core t
  where
    go : (o : Option ObjId) → context_of R t ≡ o → is_on_core core (option_and_then (form_of R) (context_of R t)) ≡ is_on_core core (option_and_then (form_of S) (context_of S t))
    go None e = rw (e, sym (context-same R S a t) ∙ e) refl
    go (Some s) e =
        let left : IsThere R kind.Context s = subst (λ o. ThereIf R o) e (there-if R (context_of R t) (context-there R t a.left)) in
        rw (e, sym (context-same R S a t) ∙ e) (ap (λ f. is_on_core core f) (a.forms s left.1))

-- a core picks the same
pub pick-same : (R S : Log) → AlikeButNumbers R S → (core : CoreId) (passed : List Bool) (p : Option ObjId) → IsPick R core passed p → IsPick S core passed p
pick-same R S a core passed = go
  where
    candidate : (u : ObjId) → is_candidate R core passed u ≡ is_candidate S core passed u
    candidate u = ap (λ c. c && not (has passed u)) (may_enter-same R S a core u)

    rank : (u : ObjId) → is_candidate R core passed u ≡ true → prio_of R u ≡ prio_of S u
    rank u c = a.prios u (entrant-there R core u (parts (may_enter R core u) _ c).0)

    go : (p : Option ObjId) → IsPick R core passed p → IsPick S core passed p
    go None none = λ u c. none u (candidate u ∙ c)
    go (Some t) best = (
      sym (candidate t) ∙ best.0,
      λ u c.
          let d : is_candidate R core passed u ≡ true = candidate u ∙ c in
          let before : GoesBefore R t u = best.1 u d in
          record {
            priority = subst (λ n. n ≤ prio_of S t) (rank u d) (subst (λ n. prio_of R u ≤ n) (rank t best.0) before.priority);
            serial = λ e. before.serial (rank u d ∙ e ∙ sym (rank t best.0));
          },
    )
