-- Records that are looked for by their text.
use Rattle.std.proofs.Common.{◌≡◌, ℕ, ◌+◌, ◌≤◌, zero, suc, List, [], ◌∷◌, drop, Some, true, false, refl, ap, arith}
use native.Mathlib.Numerals.{unary_clauses}
use Rattle.std.specs.Prelude.{bytes_eq, slice_get}
use Rattle.mcs_types.specs.declared.record.Rec.{Rec}
use Rattle.mcs_types.specs.declared.record.Rec.TheVariants.{Sent}
use Rattle.mcs_text.specs.Table.{record_text}
use Rattle.mcs_sim.specs.Trace.{sent_with}
use Rattle.mcs_lab_check.specs.Verdicts.{found_from}

-- a record sends at most one message
pub sends-one : (n : ℕ) (r : Rec) → sent_with n r ≤ n + 1
sends-one n (Sent x e mode badge message) = omega arith
sends-one n r = omega arith

-- what is from a place on, begins with what is there
pub from-there : (i : ℕ) (rs : List Rec) (r : Rec) → slice_get rs i ≡ Some r → drop i rs ≡ r ∷ drop (i + 1) rs
from-there i [] r at = absurd cc
from-there zero (q ∷ rs) r at = let it : q ≡ r = cc in ap (λ x. x ∷ rs) it
from-there (suc i) (q ∷ rs) r at = simp unary_clauses (simp unary_clauses at (from-there i rs r at))

-- the first of them is written so
pub found-here : (n count i : ℕ) (rs : List Rec) (r : Rec) (text : List ℕ) → slice_get rs i ≡ Some r → bytes_eq (record_text count r) text ≡ true
    → found_from n count (drop i rs) text ≡ Some (n + 1, sent_with count r)
found-here n count i rs r text at same = rw (from-there i rs r at) (rw same refl)

-- it is not
pub found-later : (n count i : ℕ) (rs : List Rec) (r : Rec) (text : List ℕ) → slice_get rs i ≡ Some r → bytes_eq (record_text count r) text ≡ false
    → found_from n count (drop i rs) text ≡ found_from (n + 1) (sent_with count r) (drop (i + 1) rs) text
found-later n count i rs r text at other = rw (from-there i rs r at) (rw other refl)
