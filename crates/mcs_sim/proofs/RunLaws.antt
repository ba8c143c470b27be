-- What a run reads and writes.
use Rattle.std.proofs.Common.{ℕ, Option, Some, None, Result, Ok, Err, IfOk, IfErr, List, [], ◌≡◌, refl, sym, subst, append-nil}
use Rattle.std.specs.Prelude.{IsErrAnd}
use Rattle.std.specs.Io.KnownBytes.{Appends, Consumes}
use Rattle.std.proofs.KnownBytes.{Consumes-trans}
use Rattle.mcs_phases.specs.declared.fault.SimFault.{SimFault}
use Rattle.mcs_sim.specs.Runs.{Begins}

-- a writer that took nothing
pub Appends-nil : (a : Option (List ℕ)) → Appends a a []
Appends-nil None = tt
Appends-nil (Some x) = sym (append-nil x)

-- nothing is a beginning of any text
pub Begins-nil : (a : Option (List ℕ)) (text : List ℕ) → Begins a a text
Begins-nil a text = (text, record { sent = []; grown = Appends-nil a; split = refl })

-- an error that is passed on
pub IfErr-same : {T : Type 0} (r : Result T SimFault) (e : SimFault) (Q : SimFault → Type 0) → IsErrAnd r (λ x. x ≡ e) → Q e → IfErr r Q
IfErr-same (Ok u) e Q same q = tt
IfErr-same (Err x) e Q same q = subst Q (sym same) q

-- what an answer says, and what that leads to
pub IfOk-then : {T : Type 0} (r : Result T SimFault) (P Q : T → Type 0) → IfOk r P → ((x : T) → P x → Q x) → IfOk r Q
IfOk-then (Ok x) P Q p then = then x p
IfOk-then (Err e) P Q p then = tt

pub IfErr-then : {T : Type 0} (r : Result T SimFault) (P Q : SimFault → Type 0) → IfErr r P → ((e : SimFault) → P e → Q e) → IfErr r Q
IfErr-then (Ok x) P Q p then = tt
IfErr-then (Err e) P Q p then = then e p

-- no byte was read
pub Consumes-nil : (a : Option (List ℕ)) (bytes : List ℕ) → bytes ≡ [] → Consumes a a bytes
Consumes-nil a bytes none = subst (Consumes a a) (sym none) (go a)
  where
    go : (a : Option (List ℕ)) → Consumes a a []
    go None = tt
    go (Some xs) = refl

-- no byte more was read
pub no-more : (left mid left' : Option (List ℕ)) (text more : List ℕ) → Consumes left mid text → Consumes mid left' more → more ≡ [] → Consumes left left' text
no-more left mid left' text bytes read more none =
    subst (Consumes left left') (append-nil text) (Consumes-trans _ _ _ _ _ read (subst (Consumes mid left') none more))
