-- A pick past nobody, by its serial.
use Rattle.std.proofs.Common.{◌≡◌, ◌≤◌, Bool, true, false, not, ◌&&◌, ◌==◌, cond, Option, Some, None, List, [], refl, sym, ap, ◌∙◌, subst, arith}
use Rattle.mcs_types.specs.declared.id.ObjId.{ObjId}
use Rattle.mcs_types.specs.declared.id.Kind.{Kind}
use Rattle.mcs_types.specs.declared.id.Kind.TheVariants.{Thread}
use Rattle.mcs_types.specs.declared.id.CoreId.{CoreId}
use Rattle.mcs_types.specs.ThreadSets.{has, is_markable}
use Rattle.mcs_book.specs.Logs.{Log}
use Rattle.mcs_book.specs.History.{Book, IsLegal, log_of}
use Rattle.mcs_book.specs.Statuses.{may_enter}
use Rattle.mcs_book.specs.Picking.{is_candidate, IsPick}
use Rattle.mcs_book.proofs.Threads.EntersLaws.{enters-made}
use Rattle.mcs_book.proofs.Objects.MadeLaws.{made-serial}
use Rattle.mcs_book.proofs.SoundLogs.SoundBooks.{legal-sound}
use Rattle.mcs_c.specs.Picking.{IsPicked, thread_of}

-- no thread is in the list without marks
has-none : (t : ObjId) → has [] t ≡ false
has-none t = go (is_markable t)
  where
    go : (b : Bool) → (b && false) ≡ false
    go true = refl
    go false = refl

-- a pick past a set without anybody is one past none
alone : (R : Log) (core : CoreId) (passed : List Bool) (p : Option ObjId) → ((t : ObjId) → has passed t ≡ false) → IsPick R core passed p → IsPick R core [] p
alone R core passed p empty = go p
  where
    same : (u : ObjId) → is_candidate R core [] u ≡ is_candidate R core passed u
    same u = ap (λ b. may_enter R core u && not b) (has-none u ∙ sym (empty u))

    go : (p : Option ObjId) → IsPick R core passed p → IsPick R core [] p
    go None none = λ u c. none u (sym (same u) ∙ c)
    go (Some t) best = (same t ∙ best.0, λ u c. best.1 u (sym (same u) ∙ c))

-- a thread of a serial above 0 is that of its serial
thread-is : (t : ObjId) → t.kind ≡ Thread → 1 ≤ t.serial → Some t ≡ thread_of t.serial
thread-is t is one =
    let some : (t.serial == 0) ≡ false = grind (arith, one) in
    ap Some (ap (λ (k : Kind). record { kind = k; serial = t.serial }) is) ∙ sym (go (t.serial == 0) some)
  where
    go : (b : Bool) → b ≡ false → cond {A = Option ObjId} b None (Some (record { kind = Thread; serial = t.serial })) ≡ Some (record { kind = Thread; serial = t.serial })
    go true e = absurd cc
    go false e = refl

entered : (a b : Bool) → (a && b) ≡ true → a ≡ true
entered true b e = refl
entered false b e = absurd cc

-- none is picked
pub picked_none : (b : Book) (core : CoreId) (passed : List Bool) → ((t : ObjId) → has passed t ≡ false) → IsPick (log_of b) core passed None → IsPicked (Some b) core.0 0
picked_none b core passed empty pick = alone (log_of b) core passed None empty pick

-- a thread is picked
pub picked_some : (b : Book) (core : CoreId) (passed : List Bool) (t : ObjId) → IsLegal b → ((t : ObjId) → has passed t ≡ false) → IsPick (log_of b) core passed (Some t) → IsPicked (Some b) core.0 t.serial
picked_some b core passed t legal empty pick =
    let made = enters-made (log_of b) core t (entered _ _ pick.0) in
    let from = made-serial (log_of b) t (legal-sound b legal) made.1 in
    subst (λ (p : Option ObjId). IsPick (log_of b) core [] p) (thread-is t made.0 from.0) (alone (log_of b) core passed (Some t) empty pick)
