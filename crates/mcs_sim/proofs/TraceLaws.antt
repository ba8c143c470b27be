-- The trace of one record and of one line more.
use Rattle.std.proofs.Common.{◌≡◌, ℕ, zero, suc, Some, None, Option, false, eqb, if◌then◌else◌, inl, inr, reverse, slice_get, ◌-◌, ◌+◌, ◌<◌, ◌≤◌, List, [], ◌∷◌, ◌++◌, length, get_or, take, refl, sym, ap, ◌∙◌, append_assoc, append-nil, arith}
use Rattle.std.proofs.lemmas.List.{take_more, length-reverse}
use Rattle.std.proofs.lemmas.Option.{slice_get_cases}
use Rattle.std.proofs.lemmas.Bool.{ne_eqb}
use Rattle.mcs_types.specs.declared.record.Rec.{Rec}
use Rattle.mcs_types.specs.declared.record.Rec.TheVariants.{Sent}
use Rattle.mcs_book.specs.History.{Book, Line, line_of_number}
use Rattle.mcs_packing.specs.Kept.{is_sent}
use Rattle.mcs_trace.specs.declared.sink.Sink.{Sink}
use Rattle.mcs_trace.specs.Output.{Puts}
use Rattle.mcs_text.specs.Table.{record_text}
use Rattle.mcs_trace.proofs.Outputs.{Puts-nil, Puts-then, Puts-text}
use Rattle.mcs_sim.specs.Trace.{sent_with, sent_after, sent_in, records_trace, line_trace, lines_trace}

-- nothing was put
pub puts_nothing : {W : Type 0} (f : W → Option (List ℕ)) (s : Sink W) → Puts f s s []
puts_nothing f s = Puts-nil f s

-- what was put before nothing more was
pub puts_after : {W : Type 0} (f : W → Option (List ℕ)) (s t v : Sink W) (text : List ℕ) → Puts f s t text → Puts f t v [] → Puts f s v text
puts_after f s t v text puts sent = Puts-text f s v (text ++ []) text (Puts-then f s t v text [] puts sent) (append-nil text)

-- what is within a list is there
pub none-past : {X : Type 0} (xs : List X) (i : ℕ) → None ≡ slice_get xs i → i < length xs → ⊥
none-past xs i none lt =
    elim (slice_get_cases xs i).1 [
      | inl there ↦ let both : None ≡ Some there.0 = none ∙ there.2 in cc
      | inr past ↦ omega (arith, past.0)
    ]

-- so does a line of a book
pub line-past : (b : Book) (i : ℕ) → 0 < i → None ≡ line_of_number b i → i < length b.lines + 1 → ⊥
line-past b i some none lt =
    let other : eqb i 0 ≡ false = ne_eqb _ _ (λ e. omega arith) in
    none-past (reverse b.lines) (i - 1) (rw other at none) (omega (arith, length-reverse b.lines))

pub sent_with_more : (n : ℕ) (r : Rec) → sent_with n r ≡ (if is_sent r then n + 1 else n)
sent_with_more n (Sent x e mode badge message) = refl
sent_with_more n r = refl

pub sent_with-le : (n : ℕ) (r : Rec) → sent_with n r ≤ n + 1
sent_with-le n (Sent x e mode badge message) = omega arith
sent_with-le n r = omega arith

pub sent_after-le : (n : ℕ) (rs : List Rec) → sent_after n rs ≤ n + length rs
sent_after-le n [] = omega arith
sent_after-le n (r ∷ rs) = omega (arith, sent_with-le n r, sent_after-le (sent_with n r) rs)

sent_after-end : (n : ℕ) (rs : List Rec) (r : Rec) → sent_after n (rs ++ r ∷ []) ≡ sent_with (sent_after n rs) r
sent_after-end n [] r = refl
sent_after-end n (s ∷ rs) r = sent_after-end (sent_with n s) rs r

records_trace-end : (n : ℕ) (rs : List Rec) (r : Rec) → records_trace n (rs ++ r ∷ []) ≡ records_trace n rs ++ record_text (sent_after n rs) r
records_trace-end n [] r = append-nil (record_text n r)
records_trace-end n (s ∷ rs) r =
    ap (λ (l : List ℕ). record_text n s ++ l) (records_trace-end (sent_with n s) rs r) ∙ sym (append_assoc (record_text n s) _ _)

-- a record more of a list
pub records_trace-next : (n : ℕ) (rs : List Rec) (i : ℕ) (r : Rec) (m : ℕ) → i < length rs → r ≡ get_or rs i r → m ≡ sent_after n (take i rs)
    → records_trace n (take i rs) ++ record_text m r ≡ records_trace n (take (i + 1) rs)
records_trace-next n rs i r m lt here count =
    ap (λ (m : ℕ). records_trace n (take i rs) ++ record_text m r) count
    ∙ ap (λ (r : Rec). records_trace n (take i rs) ++ record_text (sent_after n (take i rs)) r) here
    ∙ sym (ap (records_trace n) (take_more rs i r lt) ∙ records_trace-end n (take i rs) (get_or rs i r))

pub sent_after-next : (n : ℕ) (rs : List Rec) (i : ℕ) (r : Rec) (m : ℕ) → i < length rs → r ≡ get_or rs i r → m ≡ sent_after n (take i rs)
    → sent_with m r ≡ sent_after n (take (i + 1) rs)
sent_after-next n rs i r m lt here count =
    ap (λ (m : ℕ). sent_with m r) count ∙ ap (λ (r : Rec). sent_with (sent_after n (take i rs)) r) here
    ∙ sym (ap (sent_after n) (take_more rs i r lt) ∙ sent_after-end n (take i rs) (get_or rs i r))

-- the record at a number
pub get_or-at : (rs : List Rec) (i : ℕ) (r : Rec) → slice_get rs i ≡ Some r → r ≡ get_or rs i r
get_or-at [] i r at = absurd cc
get_or-at (q ∷ rs) zero r at = let it : q ≡ r = cc in sym it
get_or-at (q ∷ rs) (suc i) r at = get_or-at rs i r at

sent_in-end : (n : ℕ) (ls : List Line) (l : Line) → sent_in n (ls ++ l ∷ []) ≡ sent_after (sent_in n ls) l.records
sent_in-end n [] l = refl
sent_in-end n (m ∷ ls) l = sent_in-end (sent_after n m.records) ls l

lines_trace-end : (n : ℕ) (ls : List Line) (l : Line) → lines_trace n (ls ++ l ∷ []) ≡ lines_trace n ls ++ line_trace (sent_in n ls) l
lines_trace-end n [] l = append-nil (line_trace n l)
lines_trace-end n (m ∷ ls) l =
    ap (λ (t : List ℕ). line_trace n m ++ t) (lines_trace-end (sent_after n m.records) ls l) ∙ sym (append_assoc (line_trace n m) _ _)

-- a line more of a list
pub lines_trace-next : (n : ℕ) (xs ys : List Line) (l : Line) (m : ℕ) → ys ≡ xs ++ l ∷ [] → m ≡ sent_in n xs → lines_trace n xs ++ line_trace m l ≡ lines_trace n ys
lines_trace-next n xs ys l m more count =
    ap (λ (m : ℕ). lines_trace n xs ++ line_trace m l) count ∙ sym (ap (lines_trace n) more ∙ lines_trace-end n xs l)

pub sent_in-next : (n : ℕ) (xs ys : List Line) (l : Line) (m : ℕ) → ys ≡ xs ++ l ∷ [] → m ≡ sent_in n xs → sent_after m l.records ≡ sent_in n ys
sent_in-next n xs ys l m more count =
    ap (λ (m : ℕ). sent_after m l.records) count ∙ sym (ap (sent_in n) more ∙ sent_in-end n xs l)
