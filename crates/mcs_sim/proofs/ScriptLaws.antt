-- A line after another.
use Rattle.std.proofs.Common.{◌≡◌, ℕ, ◌+◌, Some, Result, Ok, Err, List, ◌∷◌, ap}
use Rattle.mcs_text.specs.declared.fault.LineFault.{LineFault}
use Rattle.mcs_phases.specs.Script.{Grammar, Script, read_line, script_from}

pub script_from-ok : {T : Type 0} (grammar : Grammar T) (s t : Script T) (n : ℕ) (line : List ℕ) (lines : List (List ℕ)) → read_line grammar s n line ≡ Ok t → script_from grammar s n (line ∷ lines) ≡ script_from grammar t (n + 1) lines
unfolding script_from
script_from-ok {T = T} grammar s t n line lines e = ap (λ (r : Result (Script T) LineFault). elim r [ Ok t ↦ script_from grammar t (n + 1) lines | Err why ↦ (s, Some (n, why)) ]) e

pub script_from-err : {T : Type 0} (grammar : Grammar T) (s : Script T) (n : ℕ) (line : List ℕ) (lines : List (List ℕ)) (why : LineFault) → read_line grammar s n line ≡ Err why → script_from grammar s n (line ∷ lines) ≡ (s, Some (n, why))
unfolding script_from
script_from-err {T = T} grammar s n line lines why e = ap (λ (r : Result (Script T) LineFault). elim r [ Ok t ↦ script_from grammar t (n + 1) lines | Err why ↦ (s, Some (n, why)) ]) e
