-- What is added to an arena leaves earlier unpackings as they were.
use Rattle.std.proofs.Common.{Vec, ◌≡◌, ◌∙◌, ℕ, zero, suc, Some, None, slice_get, ◌<◌, ◌≤◌, ◌+◌, List, [], ◌∷◌, ◌++◌, length, take, drop, refl, sym, ap, arith, length-drop, length-append, append-nil, append_assoc, drop_at}
use Rattle.std.proofs.Math.Seq.{take-length}
use Rattle.std.proofs.lemmas.List.{take-append-le, drop-append-le, get_or_append_left, get_or_at}
use Rattle.mcs_types.specs.declared.record.Rec.{Rec}
use Rattle.mcs_packing.specs.declared.arena.Arena.{Arena}
use Rattle.mcs_packing.specs.declared.packed.Packed.{Packed}
use Rattle.mcs_packing.specs.declared.packed.Packed.TheVariants.{FilledBadged, FilledGuarded, Sent, Paid, RaisedAt, Heard, Wide}
use Rattle.mcs_packing.specs.Packing.{word_at, content_at, record_of, records_of, IsMessageAt, IsBadgedAt, IsPairAt, Fits, AllFit, GrowsBy, Grew, no_record}

-- a word
pub word_at-grows : (ws more : List ℕ) (at : ℕ) → at < length ws → word_at (ws ++ more) at ≡ word_at ws at
word_at-grows ws more at h = get_or_append_left ws more 0 at h

-- a message
pub content_at-grows : (ws more : List ℕ) (at len : ℕ) → IsMessageAt ws at len → content_at (ws ++ more) at len ≡ content_at ws at len
content_at-grows ws more at len h =
    let start : at + 1 ≤ length ws = omega (arith, h.ends) in
    let end : len ≤ length (drop (at + 1) ws) = omega (arith, h.ends, length-drop (at + 1) ws) in
    let first : at < length ws = omega (arith, h.ends) in
    rw (word_at-grows ws more at first, drop-append-le (at + 1) ws more start, take-append-le len (drop (at + 1) ws) more end) refl

pub IsMessageAt-grows : (ws more : List ℕ) (at len : ℕ) → IsMessageAt ws at len → IsMessageAt (ws ++ more) at len
IsMessageAt-grows ws more at len h =
    let first : at < length ws = omega (arith, h.ends) in
    record { ends = omega (arith, h.ends, length-append ws more); label = rw (word_at-grows ws more at first) h.label; few = h.few }

pub IsBadgedAt-grows : (ws more : List ℕ) (at len : ℕ) → IsBadgedAt ws at len → IsBadgedAt (ws ++ more) at len
IsBadgedAt-grows ws more at len h = record { message = IsMessageAt-grows ws more at len h.message; badge = omega (arith, h.badge, length-append ws more) }

pub IsPairAt-grows : (ws more : List ℕ) (at : ℕ) → IsPairAt ws at → IsPairAt (ws ++ more) at
IsPairAt-grows ws more at h = record { ends = omega (arith, h.ends, length-append ws more); serial = rw (word_at-grows ws more (at + 1) h.ends) h.serial }

-- a record
pub record_of-grows : (p : Packed) (ws more : List ℕ) (rs others : List Rec) → Fits p ws rs → record_of p (ws ++ more) (rs ++ others) ≡ record_of p ws rs
record_of-grows (FilledBadged i rights k n at) ws more rs others h =
    let first : at < length ws = omega (arith, h.ends) in
    rw (word_at-grows ws more at first, word_at-grows ws more (at + 1) h.ends) refl
record_of-grows (FilledGuarded i rights bits n at) ws more rs others h =
    let first : at < length ws = omega (arith, h.ends) in
    rw (word_at-grows ws more at first, word_at-grows ws more (at + 1) h.ends) refl
record_of-grows (Sent m len t e at) ws more rs others h =
    rw (content_at-grows ws more at len h.message, word_at-grows ws more (at + 1 + len) h.badge) refl
record_of-grows (Paid len t r at) ws more rs others h = rw (content_at-grows ws more at len h) refl
record_of-grows (RaisedAt n at) ws more rs others h = rw (word_at-grows ws more at h) refl
record_of-grows (Heard t n at) ws more rs others h = rw (word_at-grows ws more at h) refl
record_of-grows (Wide at) ws more rs others h = get_or_append_left rs others no_record at h
record_of-grows _ ws more rs others h = refl

pub Fits-grows : (p : Packed) (ws more : List ℕ) (rs others : List Rec) → Fits p ws rs → Fits p (ws ++ more) (rs ++ others)
Fits-grows (FilledBadged i rights k n at) ws more rs others h = IsPairAt-grows ws more at h
Fits-grows (FilledGuarded i rights bits n at) ws more rs others h = IsPairAt-grows ws more at h
Fits-grows (Sent m len t e at) ws more rs others h = IsBadgedAt-grows ws more at len h
Fits-grows (Paid len t r at) ws more rs others h = IsMessageAt-grows ws more at len h
Fits-grows (RaisedAt n at) ws more rs others h = omega (arith, h, length-append ws more)
Fits-grows (Heard t n at) ws more rs others h = omega (arith, h, length-append ws more)
Fits-grows (Wide at) ws more rs others h = omega (arith, h, length-append rs others)
Fits-grows _ ws more rs others h = h

-- many records
pub records_of-grows : (ps : List Packed) (ws vs : List ℕ) (rs qs : List Rec) → GrowsBy ws vs → GrowsBy rs qs → AllFit ps ws rs → records_of ps vs qs ≡ records_of ps ws rs
records_of-grows [] ws vs rs qs w r h = refl
records_of-grows (p ∷ ps) ws vs rs qs w r h =
    rw (records_of-grows ps ws vs rs qs w r h.1, w.is, r.is, record_of-grows p ws w.more rs r.more h.0) refl

pub AllFit-grows : (ps : List Packed) (ws vs : List ℕ) (rs qs : List Rec) → GrowsBy ws vs → GrowsBy rs qs → AllFit ps ws rs → AllFit ps vs qs
AllFit-grows [] ws vs rs qs w r h = h
AllFit-grows (p ∷ ps) ws vs rs qs w r h =
    (rw (w.is, r.is) (Fits-grows p ws w.more rs r.more h.0), AllFit-grows ps ws vs rs qs w r h.1)

-- one record more
pub records_of-push : (ps : List Packed) (p : Packed) (ws : List ℕ) (rs : List Rec) → records_of (ps ++ p ∷ []) ws rs ≡ records_of ps ws rs ++ record_of p ws rs ∷ []
records_of-push [] p ws rs = refl
records_of-push (q ∷ ps) p ws rs = ap (λ l. record_of q ws rs ∷ l) (records_of-push ps p ws rs)

pub AllFit-push : (ps : List Packed) (p : Packed) (ws : List ℕ) (rs : List Rec) → AllFit ps ws rs → Fits p ws rs → AllFit (ps ++ p ∷ []) ws rs
AllFit-push [] p ws rs h f = (f, h)
AllFit-push (q ∷ ps) p ws rs h f = (h.0, AllFit-push ps p ws rs h.1 f)

-- nothing more
pub GrowsBy-self : {X : Type 0} (xs : List X) → GrowsBy xs xs
GrowsBy-self xs = record { more = []; is = sym (append-nil xs) }

-- the same
pub GrowsBy-same : {X Z : Type 0} (v w : Vec X Z) → w ≡ v → GrowsBy v.items w.items
GrowsBy-same v w is = record { more = []; is = ap (λ z. z.items) is ∙ sym (append-nil v.items) }

-- some more twice
pub GrowsBy-then : {X : Type 0} (xs ys zs : List X) → GrowsBy xs ys → GrowsBy ys zs → GrowsBy xs zs
GrowsBy-then xs ys zs g h = record { more = g.more ++ h.more; is = h.is ∙ ap (λ l. l ++ h.more) g.is ∙ append_assoc xs g.more h.more }

-- a packed record that needs nothing of an arena is the same over any
pub small_anywhere : (p : Packed) (ws : List ℕ) (rs : List Rec) → Fits p [] [] → (record_of p ws rs ≡ record_of p [] []) × Fits p ws rs
small_anywhere p ws rs h = (record_of-grows p [] ws [] rs h, Fits-grows p [] ws [] rs h)

pub Grew-self : (a : Arena) → Grew a a
Grew-self a = record {
  words = GrowsBy-self a.words.items;
  wide = GrowsBy-self a.wide.items;
  room = λ n h. record { words = omega (arith, h.words); named = omega (arith, h.named); wide = omega (arith, h.wide); named_wide = omega (arith, h.named_wide) };
}

-- a message that was just added
pub message-block : (ws us : List ℕ) (label : ℕ) → content_at ((ws ++ label ∷ []) ++ us) (length ws) (length us) ≡ record { label = label; words = us }
message-block ws us label =
    let long : length (ws ++ label ∷ []) ≡ length ws + 1 = length-append ws (label ∷ []) in
    let first : word_at (ws ++ label ∷ us) (length ws) ≡ label = get_or_at ws label us 0 (length ws) refl in
    let rest : drop (length ws + 1) ((ws ++ label ∷ []) ++ us) ≡ us = drop_at (ws ++ label ∷ []) us (length ws + 1) long in
    let words : take (length us) (drop (length ws + 1) ((ws ++ label ∷ []) ++ us)) ≡ us = ap (take (length us)) rest ∙ take-length us in
    let head : word_at ((ws ++ label ∷ []) ++ us) (length ws) ≡ label = ap (λ l. word_at l (length ws)) (append_assoc ws (label ∷ []) us) ∙ first in
    rw (words, head) refl

-- one of the records
pub slice_get-record_of : (ps : List Packed) (ws : List ℕ) (rs : List Rec) (i : ℕ) (p : Packed) → slice_get ps i ≡ Some p → slice_get (records_of ps ws rs) i ≡ Some (record_of p ws rs)
slice_get-record_of [] ws rs i p at = absurd cc
slice_get-record_of (q ∷ ps) ws rs zero p at = let it : q ≡ p = cc in ap (λ k. Some (record_of k ws rs)) it
slice_get-record_of (q ∷ ps) ws rs (suc i) p at = slice_get-record_of ps ws rs i p at

pub slice_get-unpacked_none : (ps : List Packed) (ws : List ℕ) (rs : List Rec) (i : ℕ) → slice_get ps i ≡ None → slice_get (records_of ps ws rs) i ≡ None
slice_get-unpacked_none [] ws rs i at = refl
slice_get-unpacked_none (q ∷ ps) ws rs zero at = absurd cc
slice_get-unpacked_none (q ∷ ps) ws rs (suc i) at = slice_get-unpacked_none ps ws rs i at

pub Fits-at : (ps : List Packed) (ws : List ℕ) (rs : List Rec) (i : ℕ) (p : Packed) → slice_get ps i ≡ Some p → AllFit ps ws rs → Fits p ws rs
Fits-at [] ws rs i p at f = absurd cc
Fits-at (q ∷ ps) ws rs zero p at f = let it : q ≡ p = cc in rw (← it) f.0
Fits-at (q ∷ ps) ws rs (suc i) p at f = Fits-at ps ws rs i p at f.1

pub length-record_of : (ps : List Packed) (ws : List ℕ) (rs : List Rec) → length (records_of ps ws rs) ≡ length ps
length-record_of [] ws rs = refl
length-record_of (p ∷ ps) ws rs = ap (λ n. suc n) (length-record_of ps ws rs)

-- a part of the records
pub take-record_of : (n : ℕ) (ps : List Packed) (ws : List ℕ) (rs : List Rec) → take n (records_of ps ws rs) ≡ records_of (take n ps) ws rs
take-record_of zero ps ws rs = refl
take-record_of (suc n) [] ws rs = refl
take-record_of (suc n) (p ∷ ps) ws rs = ap (λ l. record_of p ws rs ∷ l) (take-record_of n ps ws rs)

pub drop-record_of : (n : ℕ) (ps : List Packed) (ws : List ℕ) (rs : List Rec) → drop n (records_of ps ws rs) ≡ records_of (drop n ps) ws rs
drop-record_of zero ps ws rs = refl
drop-record_of (suc n) [] ws rs = refl
drop-record_of (suc n) (p ∷ ps) ws rs = drop-record_of n ps ws rs

pub AllFit-take : (n : ℕ) (ps : List Packed) (ws : List ℕ) (rs : List Rec) → AllFit ps ws rs → AllFit (take n ps) ws rs
AllFit-take zero ps ws rs f = tt
AllFit-take (suc n) [] ws rs f = tt
AllFit-take (suc n) (p ∷ ps) ws rs f = (f.0, AllFit-take n ps ws rs f.1)

pub AllFit-drop : (n : ℕ) (ps : List Packed) (ws : List ℕ) (rs : List Rec) → AllFit ps ws rs → AllFit (drop n ps) ws rs
AllFit-drop zero ps ws rs f = f
AllFit-drop (suc n) [] ws rs f = f
AllFit-drop (suc n) (p ∷ ps) ws rs f = AllFit-drop n ps ws rs f.1
