-- A line added to a book.
use Rattle.std.proofs.Common.{◌≡◌, ◌∙◌, ℕ, zero, suc, ◌≤◌, ◌+◌, ◌-◌, List, [], ◌∷◌, ◌++◌, length, take, drop, refl, sym, ap, arith, length-drop, slice_get, Some, None}
use Rattle.std.proofs.Math.Seq.{take-length}
use Rattle.std.proofs.lemmas.List.{take-append-le, drop-append-le, drop-drop, length-take-le, take-append-drop}
use Rattle.mcs_types.specs.declared.record.Rec.{Rec}
use Rattle.mcs_packing.specs.Heads.{Entered}
use Rattle.mcs_book.specs.History.{Line}
use Rattle.mcs_book.specs.Pages.{cut, start_at, EndsRise}

-- the last end is not before the first start
pub start-le_end : (s : ℕ) (hs : List Entered) (n : ℕ) → EndsRise s hs n → s ≤ n
start-le_end s [] n h = omega arith
start-le_end s (k ∷ hs) n h = let e = start-le_end k.end hs n h.1 in omega (arith, h.0)

-- one more end
pub EndsRise-push : (s : ℕ) (hs : List Entered) (n : ℕ) (k : Entered) → EndsRise s hs n → n ≤ k.end → EndsRise s (hs ++ k ∷ []) k.end
EndsRise-push s [] n k h le = (omega arith, refl)
EndsRise-push s (j ∷ hs) n k h le = (h.0, EndsRise-push j.end hs n k h.1 le)

-- one more line
pub cut-push : (s : ℕ) (hs : List Entered) (rs new : List Rec) (k : Entered) (n : ℕ) → n ≡ s + length rs → EndsRise s hs n → k.end ≡ n + length new
    → cut s (hs ++ k ∷ []) (rs ++ new) ≡ cut s hs rs ++ (record { step = k.step; answer = k.answer; records = new }) ∷ []
cut-push s [] [] new k n e h end = let m : k.end - s ≡ length new = omega arith in rw (m, take-length) refl
cut-push s [] (r ∷ rs) new k n e h end = absurd (omega arith)
cut-push s (j ∷ hs) rs new k n e h end =
    let le : j.end ≤ n = start-le_end j.end hs n h.1 in
    let within : j.end - s ≤ length rs = omega (arith, h.0) in
    let rest : n ≡ j.end + length (drop (j.end - s) rs) = omega (arith, h.0, length-drop (j.end - s) rs) in
    rw (take-append-le, drop-append-le) (ap (λ ls. (record { step = j.step; answer = j.answer; records = take (j.end - s) rs }) ∷ ls) (cut-push j.end hs (drop (j.end - s) rs) new k n rest h.1 end))

-- records after the last end are in no line
pub cut-beyond : (s : ℕ) (hs : List Entered) (rs new : List Rec) (n : ℕ) → n ≤ s + length rs → EndsRise s hs n → cut s hs (rs ++ new) ≡ cut s hs rs
cut-beyond s [] rs new n le h = refl
cut-beyond s (j ∷ hs) rs new n le h =
    let last : j.end ≤ n = start-le_end j.end hs n h.1 in
    let within : j.end - s ≤ length rs = omega (arith, h.0, last, le) in
    let rest : n ≤ j.end + length (drop (j.end - s) rs) = omega (arith, h.0, last, le, length-drop (j.end - s) rs) in
    rw (take-append-le, drop-append-le) (ap (λ ls. (record { step = j.step; answer = j.answer; records = take (j.end - s) rs }) ∷ ls) (cut-beyond j.end hs (drop (j.end - s) rs) new n rest h.1))

-- the lines without the records after the last end
pub cut-first : (hs : List Entered) (rs : List Rec) (n : ℕ) → n ≤ length rs → EndsRise 0 hs n → cut 0 hs (take n rs) ≡ cut 0 hs rs
cut-first hs rs n le h =
    let long : n ≤ 0 + length (take n rs) = omega (arith, length-take-le n rs le) in
    sym (cut-beyond 0 hs (take n rs) (drop n rs) n long h) ∙ ap (cut 0 hs) (take-append-drop n rs)

-- one more line, of the records after the last end
pub cut-close : (hs : List Entered) (rs : List Rec) (k : Entered) (n : ℕ) → n ≤ length rs → EndsRise 0 hs n → k.end ≡ length rs
    → cut 0 (hs ++ k ∷ []) rs ≡ cut 0 hs rs ++ (record { step = k.step; answer = k.answer; records = drop n rs }) ∷ []
cut-close hs rs k n le h end =
    let line : Line = record { step = k.step; answer = k.answer; records = drop n rs } in
    let long : n ≡ 0 + length (take n rs) = omega (arith, length-take-le n rs le) in
    let all : k.end ≡ n + length (drop n rs) = omega (arith, end, le, length-drop n rs) in
    ap (cut 0 (hs ++ k ∷ [])) (sym (take-append-drop n rs))
    ∙ cut-push 0 hs (take n rs) (drop n rs) k n long h all
    ∙ ap (λ ls. ls ++ line ∷ []) (cut-first hs rs n le h)

-- where an entry's records begin and end
pub start-within : (s : ℕ) (hs : List Entered) (n i : ℕ) (h : Entered) → EndsRise s hs n → slice_get hs i ≡ Some h → (s ≤ start_at s hs i) × (start_at s hs i ≤ h.end) × (h.end ≤ n)
start-within s [] n i h e at = absurd cc
start-within s (j ∷ hs) n zero h e at = let it : j ≡ h = cc in rw (← it) (omega arith, e.0, start-le_end j.end hs n e.1)
start-within s (j ∷ hs) n (suc i) h e at = let r = start-within j.end hs n i h e.1 at in (omega (arith, e.0, r.0), r.1, r.2)

-- an entry that there is has one before it, which ends where it begins
pub start_at-end : (s : ℕ) (hs : List Entered) (i : ℕ) (h : Entered) → slice_get hs i ≡ Some h → start_at s hs (suc i) ≡ h.end
start_at-end s [] i h at = absurd cc
start_at-end s (j ∷ hs) zero h at = let it : j ≡ h = cc in ap (λ (k : Entered). k.end) it
start_at-end s (j ∷ hs) (suc i) h at = start_at-end j.end hs i h at

-- a line is its entry, with its part of the records
pub slice_get-cut : (s : ℕ) (hs : List Entered) (rs : List Rec) (n i : ℕ) (h : Entered) → EndsRise s hs n → slice_get hs i ≡ Some h
    → slice_get (cut s hs rs) i ≡ Some (record { step = h.step; answer = h.answer; records = take (h.end - start_at s hs i) (drop (start_at s hs i - s) rs) })
slice_get-cut s [] rs n i h e at = absurd cc
slice_get-cut s (j ∷ hs) rs n zero h e at = let it : j ≡ h = cc in let none : s - s ≡ 0 = omega arith in rw (it, none) refl
slice_get-cut s (j ∷ hs) rs n (suc i) h e at =
    let r = start-within j.end hs n i h e.1 at in
    let far : (j.end - s) + (start_at j.end hs i - j.end) ≡ start_at j.end hs i - s = omega (arith, e.0, r.0) in
    slice_get-cut j.end hs (drop (j.end - s) rs) n i h e.1 at
    ∙ ap (λ rs. Some (record { step = h.step; answer = h.answer; records = take (h.end - start_at j.end hs i) rs })) (drop-drop (start_at j.end hs i - j.end) (j.end - s) rs ∙ ap (λ k. drop k rs) far)

-- if there is no entry there is no line
pub slice_get-cut_none : (s : ℕ) (hs : List Entered) (rs : List Rec) (i : ℕ) → slice_get hs i ≡ None → slice_get (cut s hs rs) i ≡ None
slice_get-cut_none s [] rs i at = refl
slice_get-cut_none s (j ∷ hs) rs zero at = absurd cc
slice_get-cut_none s (j ∷ hs) rs (suc i) at = slice_get-cut_none j.end hs (drop (j.end - s) rs) i at

-- as many lines as entries
pub length-cut : (s : ℕ) (hs : List Entered) (rs : List Rec) → length (cut s hs rs) ≡ length hs
length-cut s [] rs = refl
length-cut s (h ∷ hs) rs = ap (λ n. suc n) (length-cut h.end hs (drop (h.end - s) rs))
